use Rattle.std.proofs.Common.{◌≡◌, drop}
use Rattle.txs_tree_meaning.specs.View.{functions_of}
use Rattle.txs_opt.specs.Optimised.{functions_call}
use Rattle.txs_opt.proofs.find_calls.functions_have_call.Given as goal

abbrev pub invariant-loop-function : goal.invariant-loop-function
invariant-loop-function l = functions_call (functions_of (drop l.function-index l.functions)) ≡ functions_call (functions_of l.functions)
