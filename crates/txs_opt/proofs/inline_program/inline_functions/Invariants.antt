use Rattle.std.proofs.Common.{◌≡◌, [], drop}
use Rattle.txs_tree_meaning.specs.View.{functions_of}
use Rattle.txs_opt.specs.Inline.{functions_inlined}
use Rattle.txs_opt.proofs.inline_program.inline_functions.Given as goal

abbrev pub invariant-loop-function : goal.invariant-loop-function
invariant-loop-function l = functions_inlined (functions_of l.done.items) l.budget (functions_of (drop l.function-index l.functions)) ≡ functions_inlined [] l.fn.budget (functions_of l.functions)
