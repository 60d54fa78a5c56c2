use Rattle.std.proofs.Common.{◌≡◌, ◌++◌, take}
use Rattle.txs_tree_eval_node.proofs.evaluate.push_copies.Given as goal

abbrev pub invariant-loop-other : goal.invariant-loop-other
invariant-loop-other l = l.values.items ≡ l.fn.values.items ++ take l.other-index l.others
