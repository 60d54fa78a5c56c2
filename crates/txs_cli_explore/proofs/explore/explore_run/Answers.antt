use Rattle.std.proofs.Common.{◌≡◌, ◌∙◌, ℕ, List, [], ap, codes, subst}
use Rattle.txs_audit_book.specs.Answered.{finishing}
use Rattle.txs_cli.proofs.Answered.{stream_written, unread_told}
use Rattle.txs_cli_audit.specs.Audit.{HasNoAnswer}
use Rattle.txs_cli_report.proofs.Fronts.{some_maps}
use Rattle.txs_cli_report.specs.Lent.{text_in}
use Rattle.txs_cli_report.specs.Lines.{Script}
use Rattle.txs_cli_report.specs.Told.{IsTold, Told, Written, front}
use Rattle.txs_cli_explore.proofs.explore.explore_run.Goals as goal
use Rattle.txs_cli_explore.specs.Explored.{OutcomeTells, StreamExploredTells, limit_of, of_memory, of_unread, texts_in}

pub returns-in-Ok : goal.returns-in-Ok
returns-in-Ok g c =
    let known = g.R.Read.remaining c.args.reader.now in
    let x = c.args.exploring in
    let limit = limit_of x.steps in
    let ran = c.explore_text in
    let script : List ℕ → Script = λ text. record { text = text; file = text_in c.args.file } in
    let writes : Told → Type 0 = λ t. Written (g.W.Write.contents c.args.writer.now) (g.W.Write.contents ran.new.writer) (g.F.Write.contents c.args.faults.now) (g.F.Write.contents ran.new.faults) t ran.result.0 in
    let tells : List ℕ → Type 0 =
    λ text. (t : Told) × StreamExploredTells (script text) limit (OutcomeTells x.audit (λ p r e. HasNoAnswer (goal.A-post g c.args.auditor.now) p r (finishing limit) 4 e) (script text) limit) x.same (texts_in ran.result.1.items) t × writes t
    in
    some_maps known (λ input. c.in-Ok.bytes.items ≡ front input) (λ input. tells (front input)) (λ input is. subst tells (c.as_slice-text.ensures.value ∙ is) ran.ensures) c.in-Ok.ensures

pub returns-in-Err : goal.returns-in-Err
returns-in-Err g c =
    let known = g.R.Read.remaining c.args.reader.now in
    let x = c.args.exploring in
    let limit = limit_of x.steps in
    let told = c.unread.result in
    let script : List ℕ → Script = λ text. record { text = text; file = text_in c.args.file } in
    let none : texts_in c.new.result.items ≡ [] = ap texts_in c.new.ensures.items in
    let tells : List ℕ → Told → Type 0 =
    λ input t. StreamExploredTells (script (front input)) limit (OutcomeTells x.audit (λ p r e. HasNoAnswer (goal.A-post g c.args.auditor.now) p r (finishing limit) 4 e) (script (front input)) limit) x.same (texts_in c.new.result.items) t
    in
    let writes : Told → Type 0 = λ t. Written (g.W.Write.contents c.args.writer.now) (g.W.Write.contents c.write_answer.new.writer) (g.F.Write.contents c.args.faults.now) (g.F.Write.contents c.write_answer.new.faults) t c.write_answer.result in
    stream_written told known tells writes (λ input t m. of_memory m none) (unread_told told known (IsTold [] (codes "read failed\n") 2) tells (λ input t u. of_unread u none) c.unread.ensures) c.write_answer.ensures
