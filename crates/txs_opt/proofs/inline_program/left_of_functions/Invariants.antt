use Rattle.std.proofs.Common.{◌≡◌, ◌≤◌, ◌+◌, drop}
use Rattle.txs_tree_meaning.specs.Sound.{nodes_of_functions}
use Rattle.txs_tree_meaning.specs.View.{functions_of}
use Rattle.txs_opt.proofs.inline_program.left_of_functions.Given as goal

abbrev pub invariant-loop-function : goal.invariant-loop-function
invariant-loop-function l = record {
  whole : nodes_of_functions (functions_of l.functions) + l.left ≡ l.limit + nodes_of_functions (functions_of (drop l.function-index l.functions));
  fewer : l.left ≤ l.limit;
}
