use Rattle.std.proofs.Common.{◌++◌, List, ap, subst, sym}
use Rattle.txs_cli_report.specs.Lent.{lines_of, script_of}
use Rattle.txs_cli_report.specs.Lines.{all_printed}
use Rattle.txs_cli_report.specs.Told.{ReportTells, behind_bytes}
use Rattle.txs_world_protocol.specs.declared.report.ActorReport.{ActorReport}
use Rattle.txs_cli_report.proofs.report.report_run.Goals as goal

-- the threads and agents are those of the report
pub returns : goal.returns
returns c =
    let o = c.args.options in
    let lines = lines_of c.in_ok-told.told in
    subst (λ (rs : List ActorReport). ReportTells c.args.code.now (script_of c.args.script) c.args.shared.now c.args.report o.cells o.events (behind_bytes (all_printed (rs ++ c.swap-2.new.x.items)) lines))
    (ap (λ v. v.items) (sym c.swap.ensures.x_after))
    (subst (λ (rs : List ActorReport). ReportTells c.args.code.now (script_of c.args.script) c.args.shared.now c.args.report o.cells o.events (behind_bytes (all_printed (c.args.report.threads.items ++ rs)) lines))
    (ap (λ v. v.items) (sym c.swap-2.ensures.x_after)) c.in_ok-told.ensures)
