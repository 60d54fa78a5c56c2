use Rattle.std.proofs.Common.{◌≡◌, ◌+◌, ◌*◌, drop}
use Rattle.txs_tree_meaning.specs.Sound.{nodes, nodes_in}
use Rattle.txs_tree_meaning.specs.View.{tree_of, trees_of}
use Rattle.txs_opt.specs.Optimised.{some_call}
use Rattle.txs_opt.proofs.find_calls.+calls.Given as goal

abbrev pub invariant-some_has_call-loop-node : goal.invariant-some_has_call-loop-node
invariant-some_has_call-loop-node l = some_call (trees_of (drop l.node-index l.nodes)) ≡ some_call (trees_of l.nodes)

-- each part of a node has fewer nodes, and is one of a row
abbrev pub decreases-has_call : goal.decreases-has_call
decreases-has_call l = 3 * nodes (tree_of l.node.now)

abbrev pub decreases-some_has_call : goal.decreases-some_has_call
decreases-some_has_call l = 3 * nodes_in (trees_of l.nodes.now) + 1

abbrev pub decreases-row_has_call : goal.decreases-row_has_call
decreases-row_has_call l = 3 * nodes_in (trees_of l.parts.now) + 2

abbrev pub decreases-one_or_some_has_call : goal.decreases-one_or_some_has_call
decreases-one_or_some_has_call l = 3 * (nodes (tree_of l.node.now) + nodes_in (trees_of l.nodes.now)) + 2

abbrev pub decreases-bound_has_call : goal.decreases-bound_has_call
decreases-bound_has_call l = 3 * (nodes_in (trees_of l.values.now) + nodes (tree_of l.body.now)) + 2
