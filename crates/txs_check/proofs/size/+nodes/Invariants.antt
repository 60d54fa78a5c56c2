use Rattle.std.proofs.Common.{◌≡◌, ◌≤◌, ◌+◌, ◌*◌, drop}
use Rattle.txs_tree_meaning.specs.Sound.{nodes, nodes_in}
use Rattle.txs_tree_meaning.specs.View.{tree_of, trees_of}
use Rattle.txs_check.proofs.size.+nodes.Given as goal

abbrev pub invariant-all_nodes_left-loop-node : goal.invariant-all_nodes_left-loop-node
invariant-all_nodes_left-loop-node l = record {
  whole : nodes_in (trees_of l.nodes) + l.left ≡ l.limit + nodes_in (trees_of (drop l.node-index l.nodes));
  fewer : l.left ≤ l.limit;
}

-- each part of a node has fewer nodes, and is one of a row
abbrev pub decreases-nodes_left : goal.decreases-nodes_left
decreases-nodes_left l = 2 * nodes (tree_of l.node.now)

abbrev pub decreases-all_nodes_left : goal.decreases-all_nodes_left
decreases-all_nodes_left l = 2 * nodes_in (trees_of l.nodes.now) + 1
