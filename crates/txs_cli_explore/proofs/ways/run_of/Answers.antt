use Rattle.std.proofs.Common.{◌≤◌, List, length, subst, sym}
use Rattle.txs_verify.proofs.Formed.{few_threads}
use Rattle.txs_value_cell.specs.declared.cell.CellDefinition.{CellDefinition}
use Rattle.txs_cli.specs.Runner.{IsWorked}
use Rattle.txs_cli_explore.proofs.LastLine.{has_few_cells, is_runnable}
use Rattle.txs_cli_explore.proofs.ways.run_of.Goals as goal

pub run_plays-requires-clause-runnable : goal.run_plays-requires-clause-runnable
run_plays-requires-clause-runnable c = is_runnable c.args.code.now c.requires.form

pub run_plays-requires-clause-few : goal.run_plays-requires-clause-few
run_plays-requires-clause-few c = few_threads c.args.code.now c.requires.form

pub has_ending-requires : goal.has_ending-requires
has_ending-requires c =
    let worked : IsWorked c.args.code.now c.args.steps c.in-Ok.ran.0 c.in-Ok.ran.1 = c.in-Ok.ensures.lawful in
    record { few = subst (λ (ds : List CellDefinition). length ds ≤ 65535) (sym worked.of.cells) (has_few_cells c.args.code.now c.requires.form) }
