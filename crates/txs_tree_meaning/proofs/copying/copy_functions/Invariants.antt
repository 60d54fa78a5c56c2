use Rattle.std.proofs.Common.{◌≡◌, take}
use Rattle.txs_tree_meaning.specs.View.{functions_of}
use Rattle.txs_tree_meaning.proofs.copying.copy_functions.Given as goal

abbrev pub invariant-loop-function : goal.invariant-loop-function
invariant-loop-function l = functions_of l.copies.items ≡ functions_of (take l.function-index l.functions)
