use Rattle.txs_reader.specs.Tree.{trees}
use Rattle.txs_cli_advice_script.specs.Surroundings.{Surrounds}
use Rattle.txs_cli_advice_script.proofs.around.surroundings.Given as goal

abbrev pub invariant-loop : goal.invariant-loop
invariant-loop l = Surrounds (trees l.fn.forms) l.fn.at l.fn.none l.here
