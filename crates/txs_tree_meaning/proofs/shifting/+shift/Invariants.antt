use Rattle.std.proofs.Common.{◌≡◌, ◌+◌, ◌*◌, take}
use Rattle.txs_tree_meaning.specs.Sound.{nodes, nodes_in}
use Rattle.txs_tree_meaning.specs.View.{tree_of, trees_of}
use Rattle.txs_tree_meaning.specs.Shift.{all_shifted}
use Rattle.txs_tree_meaning.proofs.shifting.+shift.Given as goal

abbrev pub invariant-shift_all-loop-node : goal.invariant-shift_all-loop-node
invariant-shift_all-loop-node l = record {
  so_far : trees_of l.anew.items ≡ all_shifted l.shift.from l.shift.by (trees_of (take l.node-index l.nodes));
}

abbrev pub decreases-shift_node : goal.decreases-shift_node
decreases-shift_node l = 2 * nodes (tree_of l.node.now)

abbrev pub decreases-shift_all : goal.decreases-shift_all
decreases-shift_all l = 2 * nodes_in (trees_of l.nodes.now) + 1
