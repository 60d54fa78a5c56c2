use Rattle.std.proofs.Common.{◌≤◌, IfOk, List, length, subst, sym}
use Rattle.txs_verify.proofs.Formed.{few_threads}
use Rattle.txs_cli.specs.Runs.{IsPlayed}
use Rattle.txs_cli.specs.Runner.{IsWorked}
use Rattle.txs_machine.specs.Schedule.{spread}
use Rattle.txs_value_cell.specs.declared.cell.CellDefinition.{CellDefinition}
use Rattle.txs_cli_show.proofs.Fitting.{has_few_cells, is_runnable}
use Rattle.txs_cli_show.proofs.again.report_by.Goals as goal

pub run_plays-requires-clause-runnable : goal.run_plays-requires-clause-runnable
run_plays-requires-clause-runnable c = is_runnable c.args.code.now c.requires.form

pub run_plays-requires-clause-few : goal.run_plays-requires-clause-few
run_plays-requires-clause-few c = few_threads c.args.code.now c.requires.form

pub into_report-requires : goal.into_report-requires
into_report-requires c =
    let code = c.args.code.now in
    let worked : IsWorked code c.args.steps c.in-Ok.shared c.in-Ok.entries = subst (λ r. IfOk r (λ ran. IsWorked code c.args.steps ran.0 ran.1)) c.in-Ok.is c.run_plays.ensures.lawful in
    record { few = subst (λ (ds : List CellDefinition). length ds ≤ 65535) (sym worked.of.cells) (has_few_cells code c.requires.form) }

pub returns-in_ok-report-in-Ok : goal.returns-in_ok-report-in-Ok
returns-in_ok-report-in-Ok c =
    let code = c.args.code.now in
    let plays = spread c.args.plays.now in
    let made = c.in_ok-report-in-Ok.ensures in
    let played : IsPlayed plays code c.args.steps c.in-Ok.shared c.in-Ok.entries = subst (λ r. IfOk r (λ ran. IsPlayed plays code c.args.steps ran.0 ran.1)) c.in-Ok.is c.run_plays.ensures.played in
    record {
      shared = c.in-Ok.shared;
      entries = c.in-Ok.entries;
      played = played;
      of = record { threads = made.threads; agents = made.agents; books = made.report.books; cells = made.report.cells; failed = made.report.failed };
    }
