use Rattle.std.proofs.Common.{◌≡◌, ◌+◌, ◌*◌, drop, max}
use Rattle.txs_tree_meaning.specs.View.{tree_of, trees_of}
use Rattle.txs_resolve.specs.Depths.{depths, depths_in}
use Rattle.txs_resolve.proofs.depth.+levels.Given as goal

abbrev pub invariant-most_levels-loop-node : goal.invariant-most_levels-loop-node
invariant-most_levels-loop-node l = record {
  whole : depths_in l.known (trees_of l.nodes) ≡ max (depths_in l.known (trees_of (drop l.node-index l.nodes))) l.most;
}

-- each part of a node has fewer levels, and is one of a row
abbrev pub decreases-levels : goal.decreases-levels
decreases-levels l = 2 * depths l.known.now (tree_of l.node.now)

abbrev pub decreases-most_levels : goal.decreases-most_levels
decreases-most_levels l = 2 * depths_in l.known.now (trees_of l.nodes.now) + 1
