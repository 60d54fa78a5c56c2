use Rattle.std.proofs.Common.{◌≡◌, ◌≤◌, ◌+◌, ◌*◌, drop}
use Rattle.txs_tree_meaning.specs.Sound.{nodes, nodes_in}
use Rattle.txs_tree_meaning.specs.View.{tree_of, trees_of}
use Rattle.txs_check.specs.Refused.{checked_all}
use Rattle.txs_check.specs.Signatures.{known_as}
use Rattle.txs_check.proofs.walk.+walk.Given as goal

abbrev pub invariant-check_all-loop-node : goal.invariant-check_all-loop-node
invariant-check_all-loop-node l = record {
  whole : checked_all (known_as l.signatures) l.zone l.target (trees_of (drop l.node-index l.nodes)) ≡ checked_all (known_as l.signatures) l.zone l.target (trees_of l.nodes);
  fewer : nodes_in (trees_of (drop l.node-index l.nodes)) ≤ nodes_in (trees_of l.nodes);
}

-- each part of a node has fewer nodes, and is one of a row
abbrev pub decreases-check_node : goal.decreases-check_node
decreases-check_node l = 2 * nodes (tree_of l.node.now)

abbrev pub decreases-check_all : goal.decreases-check_all
decreases-check_all l = 2 * nodes_in (trees_of l.nodes.now) + 1
