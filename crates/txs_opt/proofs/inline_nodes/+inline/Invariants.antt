use Rattle.std.proofs.Common.{◌≡◌, ◌+◌, ◌*◌, take}
use Rattle.txs_tree_meaning.specs.Sound.{nodes, nodes_in}
use Rattle.txs_tree_meaning.specs.View.{functions_of, tree_of, trees_of}
use Rattle.txs_opt.specs.Inline.{all_inlined, let_inlined}
use Rattle.txs_opt.proofs.inline_nodes.+inline.Given as goal

abbrev pub invariant-inline_all-loop-node : goal.invariant-inline_all-loop-node
invariant-inline_all-loop-node l = record {
  trees : trees_of l.anew.items ≡ (all_inlined (functions_of l.done) l.live l.fn.budget (trees_of (take l.node-index l.nodes))).trees;
  budget : l.budget ≡ (all_inlined (functions_of l.done) l.live l.fn.budget (trees_of (take l.node-index l.nodes))).budget;
}

abbrev pub invariant-inline_let-loop-at : goal.invariant-inline_let-loop-at
invariant-inline_let-loop-at l = record {
  trees : trees_of l.anew.items ≡ (let_inlined (functions_of l.done) l.live l.fn.budget (trees_of (take l.at l.values))).trees;
  budget : l.budget ≡ (let_inlined (functions_of l.done) l.live l.fn.budget (trees_of (take l.at l.values))).budget;
}

-- each part of a node has fewer nodes, and is one of a row
abbrev pub decreases-inline_node : goal.decreases-inline_node
decreases-inline_node l = 3 * nodes (tree_of l.node.now)

abbrev pub decreases-inline_all : goal.decreases-inline_all
decreases-inline_all l = 3 * nodes_in (trees_of l.nodes.now) + 1

abbrev pub decreases-inline_let : goal.decreases-inline_let
decreases-inline_let l = 3 * nodes_in (trees_of l.values.now) + 1

abbrev pub decreases-inline_row : goal.decreases-inline_row
decreases-inline_row l = 3 * nodes_in (trees_of l.parts.now) + 2
