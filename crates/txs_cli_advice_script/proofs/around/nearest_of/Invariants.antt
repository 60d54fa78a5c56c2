use Rattle.txs_reader.specs.Tree.{trees}
use Rattle.txs_cli_advice_script.specs.Nears.{Nearest}
use Rattle.txs_cli_advice_script.specs.Surroundings.{names_of}
use Rattle.txs_cli_advice_script.proofs.around.nearest_of.Given as goal

abbrev pub invariant-loop-i : goal.invariant-loop-i
invariant-loop-i l = Nearest (names_of (trees l.items)) l.fn.best l.best
