use Rattle.std.proofs.Common.{◌≡◌, ◌++◌, take}
use Rattle.txs_tree_eval_node.proofs.state.push_actions.Given as goal

abbrev pub invariant-loop-action : goal.invariant-loop-action
invariant-loop-action l = l.held.items ≡ l.fn.held.items ++ take l.action-index l.sends
