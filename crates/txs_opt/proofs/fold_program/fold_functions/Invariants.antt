use Rattle.std.proofs.Common.{◌≡◌, take}
use Rattle.txs_tree_meaning.specs.View.{functions_of}
use Rattle.txs_opt.specs.Fold.{folded_functions}
use Rattle.txs_opt.proofs.fold_program.fold_functions.Given as goal

abbrev pub invariant-loop-function : goal.invariant-loop-function
invariant-loop-function l = functions_of l.anew.items ≡ folded_functions (functions_of (take l.function-index l.functions))
