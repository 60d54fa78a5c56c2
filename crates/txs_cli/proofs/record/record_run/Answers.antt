use Rattle.std.proofs.Common.{◌≡◌, ◌∙◌, ℕ, List, [], IfSome, codes, refl, subst}
use Rattle.txs_cli_report.proofs.Fronts.{some_always, some_maps}
use Rattle.txs_cli_report.specs.Lent.{text_in, told_of}
use Rattle.txs_cli_report.specs.Lines.{Script}
use Rattle.txs_cli_report.specs.Told.{Answers, IsTold, Told, Written, front, of_memory, of_told}
use Rattle.txs_cli.proofs.Answered.{answer_written, unread_told}
use Rattle.txs_cli.proofs.record.record_run.Goals as goal
use Rattle.txs_cli.specs.Recorded.{Records}
use Rattle.txs_cli.specs.Runs.{Failures, Workers, failing_run}
use Rattle.txs_cli.specs.Source as source
use Rattle.txs_cli.specs.Source.{Source}
use Rattle.txs_cli.specs.Telling.{Run, SourceTells, of_unread, without_audit}
use Rattle.txs_cli.specs.declared.record.Record.TheVariants.{NoRun}

pub returns-in-Ok-record_script : goal.returns-in-Ok-record_script
returns-in-Ok-record_script g c =
    let known = g.R.Read.remaining c.args.reader.now in
    let o = c.args.options in
    let w = c.write_answer in
    let r = c.in-Ok-record_script in
    let s : Source = source.OfScript (text_in c.args.file) in
    let script : List ℕ → Script = λ text. record { text = text; file = text_in c.args.file } in
    let f : Failures = failing_run (goal.X-post g c.args.runner.now) in
    let writes : Told → Type 0 = λ t. Written (g.W.Write.contents c.args.writer.now) (g.W.Write.contents w.new.writer) (g.F.Write.contents c.args.faults.now) (g.F.Write.contents w.new.faults) t w.result in
    let tells : List ℕ → Type 0 = λ text. (t : Told) × Answers (SourceTells f s text (Run (Workers c.args.workers) (without_audit o))) t × writes t × Records (script text) o t r.«record» in
    some_maps known (λ input. c.in-Ok.bytes.items ≡ front input) (λ input. tells (front input))
    (λ input is. subst tells (c.as_slice-text.ensures.value ∙ is) (told_of r.told, of_told r.ensures.told, w.ensures, r.ensures.recorded)) c.in-Ok.ensures

pub returns-in-Ok : goal.returns-in-Ok
returns-in-Ok g c =
    let known = g.R.Read.remaining c.args.reader.now in
    let o = c.args.options in
    let w = c.write_answer-in-Err-record_script in
    let s : Source = source.OfScript (text_in c.args.file) in
    let script : List ℕ → Script = λ text. record { text = text; file = text_in c.args.file } in
    let f : Failures = failing_run (goal.X-post g c.args.runner.now) in
    let writes : Told → Type 0 = λ t. Written (g.W.Write.contents c.args.writer.now) (g.W.Write.contents w.new.writer) (g.F.Write.contents c.args.faults.now) (g.F.Write.contents w.new.faults) t w.result in
    let tells : List ℕ → Type 0 = λ text. (t : Told) × Answers (SourceTells f s text (Run (Workers c.args.workers) (without_audit o))) t × writes t × Records (script text) o t NoRun in
    some_always known (λ input. tells (front input)) (λ input. (record { output = []; errors = codes "out of memory\n"; status = 4 }, of_memory (record { output = refl; errors = refl; status = refl }), w.ensures, tt))

pub returns : goal.returns
returns g c =
    let known = g.R.Read.remaining c.args.reader.now in
    let o = c.args.options in
    let told = c.unread.result in
    let s : Source = source.OfScript (text_in c.args.file) in
    let script : List ℕ → Script = λ text. record { text = text; file = text_in c.args.file } in
    let f : Failures = failing_run (goal.X-post g c.args.runner.now) in
    let tells : List ℕ → Told → Type 0 = λ input t. SourceTells f s (front input) (Run (Workers c.args.workers) (without_audit o)) t in
    let writes : Told → Type 0 = λ t. Written (g.W.Write.contents c.args.writer.now) (g.W.Write.contents c.write_answer-in-Err.new.writer) (g.F.Write.contents c.args.faults.now) (g.F.Write.contents c.write_answer-in-Err.new.faults) t c.write_answer-in-Err.result in
    let all : IfSome known (λ input. (t : Told) × Answers (tells input) t × writes t) =
    answer_written told known tells writes (unread_told told known (IsTold [] (codes "read failed\n") 2) tells (λ input t u. of_unread u) c.unread.ensures) c.write_answer-in-Err.ensures
    in
    some_maps known (λ input. (t : Told) × Answers (tells input) t × writes t) (λ input. (t : Told) × Answers (tells input) t × writes t × Records (script (front input)) o t NoRun) (λ input h. (h.0, h.1, h.2, tt)) all
