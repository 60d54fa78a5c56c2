use Rattle.std.proofs.Common.{ℕ, List}
use Rattle.txs_cli_report.proofs.Fronts.{some_maps}
use Rattle.txs_cli_report.specs.Lent.{text_in}
use Rattle.txs_cli_report.specs.Lines.{Script}
use Rattle.txs_cli_report.specs.Told.{Answers, Told, Written, front}
use Rattle.txs_cli.proofs.Weaker.{answer_so}
use Rattle.txs_cli.proofs.workers.record_by_workers.Goals as goal
use Rattle.txs_cli.specs.Recorded.{Records}
use Rattle.txs_cli.specs.Runner.{Runs}
use Rattle.txs_cli.specs.Runs.{Workers, failing_run}
use Rattle.txs_cli.specs.Source.{OfScript, Source}
use Rattle.txs_cli.specs.Telling.{Run, SourceTells, Use, without_audit}

-- a run without a report is lawful, whyever there is none
pub returns : goal.returns
returns g c =
    let ran = c.record_run-ended in
    let o = c.args.options in
    let s : Source = OfScript (text_in c.args.file) in
    let wanted : Use = Run (Workers c.args.workers) (without_audit o) in
    let script : List ℕ → Script = λ input. record { text = front input; file = text_in c.args.file } in
    let writes : Told → Type 0 = λ t. Written (g.W.Write.contents c.args.writer.now) (g.W.Write.contents ran.new.writer) (g.F.Write.contents c.args.faults.now) (g.F.Write.contents ran.new.faults) t ran.result.0 in
    some_maps (g.R.Read.remaining c.args.reader.now) _ (λ input. (t : Told) × Answers (SourceTells (failing_run Runs) s (front input) wanted) t × writes t × Records (script input) o t ran.result.1)
    (λ input h. (h.0, answer_so _ _ s (front input) wanted h.0 h.1 (λ d n steps e so. (so.0, so.1, so.2, tt)), h.2, h.3)) ran.ensures
