use Rattle.std.proofs.Common.{◌≡◌, ◌≤◌, ◌+◌, ◌*◌, max, drop}
use Rattle.txs_value_data.specs.Limits.{most_locals}
use Rattle.txs_tree_meaning.specs.Sound.{nodes, nodes_in}
use Rattle.txs_tree_meaning.specs.View.{tree_of, trees_of}
use Rattle.txs_tree_meaning.specs.Locals.{reach_all, reach_let}
use Rattle.txs_opt.proofs.locals.+reach.Given as goal

abbrev pub invariant-reach_of_all-loop-node : goal.invariant-reach_of_all-loop-node
invariant-reach_of_all-loop-node l = record {
  whole : max (reach_all l.live (trees_of (drop l.node-index l.nodes))) l.most ≡ reach_all l.live (trees_of l.nodes);
  few : l.most ≤ most_locals;
}

abbrev pub invariant-reach_of_let-loop-value : goal.invariant-reach_of_let-loop-value
invariant-reach_of_let-loop-value l = record {
  whole : max (reach_let l.before (trees_of (drop l.value-index l.values))) l.most ≡ reach_let l.live (trees_of l.values);
  few : l.most ≤ most_locals;
  live : l.before ≤ most_locals;
}

-- each part of a node has fewer nodes, and is one of a row
abbrev pub decreases-reach_of : goal.decreases-reach_of
decreases-reach_of l = 3 * nodes (tree_of l.node.now)

abbrev pub decreases-reach_of_all : goal.decreases-reach_of_all
decreases-reach_of_all l = 3 * nodes_in (trees_of l.nodes.now) + 1

abbrev pub decreases-reach_of_let : goal.decreases-reach_of_let
decreases-reach_of_let l = 3 * nodes_in (trees_of l.values.now) + 1

abbrev pub decreases-reach_of_binding : goal.decreases-reach_of_binding
decreases-reach_of_binding l = 3 * (nodes_in (trees_of l.values.now) + nodes (tree_of l.body.now)) + 2
