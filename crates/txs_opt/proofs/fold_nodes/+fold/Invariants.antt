use Rattle.std.proofs.Common.{◌≡◌, ◌+◌, ◌*◌, take, drop}
use Rattle.txs_tree_meaning.specs.Sound.{nodes, nodes_in}
use Rattle.txs_tree_meaning.specs.View.{tree_of, trees_of}
use Rattle.txs_opt.specs.Fold.{folded_all, seen_items}
use Rattle.txs_opt.specs.Items.{joined}
use Rattle.txs_opt.proofs.fold_nodes.+fold.Given as goal

abbrev pub invariant-fold_all-loop-node : goal.invariant-fold_all-loop-node
invariant-fold_all-loop-node l = record { so_far : trees_of l.anew.items ≡ folded_all (trees_of (take l.node-index l.nodes)) }

abbrev pub invariant-fold_items-loop-at : goal.invariant-fold_items-loop-at
invariant-fold_items-loop-at l = record { so_far : joined (trees_of l.items.items) (seen_items (folded_all (trees_of (drop l.at l.nodes)))) ≡ seen_items (folded_all (trees_of l.nodes)) }

abbrev pub decreases-fold_node : goal.decreases-fold_node
decreases-fold_node l = 3 * nodes (tree_of l.node.now)

abbrev pub decreases-fold_all : goal.decreases-fold_all
decreases-fold_all l = 3 * nodes_in (trees_of l.nodes.now) + 1

abbrev pub decreases-fold_items : goal.decreases-fold_items
decreases-fold_items l = 3 * nodes_in (trees_of l.nodes.now) + 1

abbrev pub decreases-fold_row : goal.decreases-fold_row
decreases-fold_row l = 3 * nodes_in (trees_of l.parts.now) + 2

abbrev pub decreases-fold_if : goal.decreases-fold_if
decreases-fold_if l = 3 * (nodes (tree_of l.test.now) + (nodes (tree_of l.yes.now) + nodes (tree_of l.no.now))) + 1
