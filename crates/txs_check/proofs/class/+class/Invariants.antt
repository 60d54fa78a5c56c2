use Rattle.std.proofs.Common.{◌≡◌, ◌≤◌, ◌+◌, ◌*◌, drop}
use Rattle.txs_tree_meaning.specs.Sound.{nodes, nodes_in}
use Rattle.txs_tree_meaning.specs.View.{tree_of, trees_of}
use Rattle.txs_check.specs.Signatures.{joined, class_in_all, known_as}
use Rattle.txs_check.proofs.class.+class.Given as goal

abbrev pub invariant-class_of_all-loop-node : goal.invariant-class_of_all-loop-node
invariant-class_of_all-loop-node l = record {
  whole : joined l.class (class_in_all (known_as l.signatures) (trees_of (drop l.node-index l.nodes))) ≡ class_in_all (known_as l.signatures) (trees_of l.nodes);
  fewer : nodes_in (trees_of (drop l.node-index l.nodes)) ≤ nodes_in (trees_of l.nodes);
}

-- each part of a node has fewer nodes, and is one of a row
abbrev pub decreases-class_of : goal.decreases-class_of
decreases-class_of l = 2 * nodes (tree_of l.node.now)

abbrev pub decreases-class_of_all : goal.decreases-class_of_all
decreases-class_of_all l = 2 * nodes_in (trees_of l.nodes.now) + 1
