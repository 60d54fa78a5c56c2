use Rattle.txs_cli_report.specs.Told.{Told, Written}
use Rattle.txs_cli.proofs.Weaker.{request_so}
use Rattle.txs_cli.proofs.workers.play_by_workers.Goals as goal

-- a run without a report is lawful, whyever there is none
pub returns-clause-told : goal.returns-clause-told
returns-clause-told g c =
    let w = c.play_with in
    let writes : Told → Type 0 = λ t. Written (g.W.Write.contents c.args.writer.now) (g.W.Write.contents w.new.writer) (g.F.Write.contents c.args.faults.now) (g.F.Write.contents w.new.faults) t w.result in
    request_so _ _ (g.R.Read.remaining c.args.reader.now) c.args.request.now writes w.ensures.told (λ d n steps e so. (so.0, so.1, so.2, tt))
