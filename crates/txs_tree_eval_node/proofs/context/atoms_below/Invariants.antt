use Rattle.std.proofs.Common.{◌≡◌, ◌+◌, ◌≤◌, drop}
use Rattle.txs_world_protocol.specs.SeenEvent.{atoms_below}
use Rattle.txs_tree_eval_node.proofs.context.atoms_below.Given as goal

abbrev pub invariant-loop-cell : goal.invariant-loop-cell
invariant-loop-cell l = (l.atoms + atoms_below (drop l.cell-index l.cells) l.left ≡ atoms_below l.cells l.count) × (l.atoms + l.left ≤ l.count)
