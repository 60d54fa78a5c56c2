use Rattle.txs_reader.specs.Tree.{trees}
use Rattle.txs_cli_advice_script.specs.Nears.{Nearest}
use Rattle.txs_cli_advice_script.specs.Forms.{names_defined}
use Rattle.txs_cli_advice_script.proofs.around.nearest_defined.Given as goal

abbrev pub invariant-loop-i : goal.invariant-loop-i
invariant-loop-i l = Nearest (names_defined (trees l.forms)) l.fn.best l.best
