use Rattle.std.proofs.Common.{◌≡◌, ◌+◌, ◌*◌, ◌≤◌, length, drop}
use Rattle.txs_tree_meaning.specs.Sound.{nodes, nodes_in}
use Rattle.txs_tree_meaning.specs.Tree.{count}
use Rattle.txs_tree_meaning.specs.View.{tree_of, trees_of}
use Rattle.txs_gen.specs.Emission.{emission, emits_all, emits_do, emits_let, IsPlacedAll, IsPlacedLet}
use Rattle.txs_gen.proofs.Emissions.{IsPlacedLeft, around}
use Rattle.txs_gen.proofs.emit.+emit.Given as goal

abbrev pub invariant-emit_all-loop-arg : goal.invariant-emit_all-loop-arg
invariant-emit_all-loop-arg l = record {
  made : emits_all (trees_of (drop l.arg-index l.args)) (around l.at.depth l.height l.at.base l.at.start) (emission l.to) ≡ emits_all (trees_of l.args) l.at (emission l.fn.to);
  part : IsPlacedAll l.at.depth (trees_of (drop l.arg-index l.args));
  few_constants : length l.to.constants.items + nodes_in (trees_of (drop l.arg-index l.args)) ≤ 200000;
  few_instrs : length l.to.instrs.items + 3 * nodes_in (trees_of (drop l.arg-index l.args)) ≤ 600000;
  low : l.height + nodes_in (trees_of (drop l.arg-index l.args)) ≤ 200000;
}

abbrev pub invariant-emit_do-loop-item : goal.invariant-emit_do-loop-item
invariant-emit_do-loop-item l = record {
  made : emits_do (trees_of (drop l.item-index l.items)) l.span l.at (emission l.to) ≡ emits_do (trees_of l.items) l.span l.at (emission l.fn.to);
  part : IsPlacedLeft l.at.depth l.at.base (trees_of (drop l.item-index l.items));
  few_constants : length l.to.constants.items + nodes_in (trees_of (drop l.item-index l.items)) ≤ 200000;
  few_instrs : length l.to.instrs.items + 3 * nodes_in (trees_of (drop l.item-index l.items)) ≤ 600000;
  low : l.at.height + nodes_in (trees_of (drop l.item-index l.items)) ≤ 200000;
  left : l.left + l.item-index ≡ length l.items;
}

abbrev pub invariant-emit_let-loop-value : goal.invariant-emit_let-loop-value
invariant-emit_let-loop-value l = record {
  made : emits_let (trees_of (drop l.value-index l.values)) l.span (around l.depth l.at.height l.at.base l.at.start) (emission l.to) ≡ emits_let (trees_of l.values) l.span l.at (emission l.fn.to);
  part : IsPlacedLet l.depth (trees_of (drop l.value-index l.values));
  few_constants : length l.to.constants.items + nodes_in (trees_of (drop l.value-index l.values)) ≤ 200000;
  few_instrs : length l.to.instrs.items + 3 * nodes_in (trees_of (drop l.value-index l.values)) ≤ 600000;
  low : l.at.height + nodes_in (trees_of (drop l.value-index l.values)) ≤ 200000;
  locals : l.depth + count (trees_of (drop l.value-index l.values)) ≡ l.at.depth + count (trees_of l.values);
}

abbrev pub decreases-emit : goal.decreases-emit
decreases-emit l = 5 * nodes (tree_of l.node.now)

abbrev pub decreases-emit_all : goal.decreases-emit_all
decreases-emit_all l = 5 * nodes_in (trees_of l.args.now) + 1

abbrev pub decreases-emit_do : goal.decreases-emit_do
decreases-emit_do l = 5 * nodes_in (trees_of l.items.now) + 1

abbrev pub decreases-emit_let : goal.decreases-emit_let
decreases-emit_let l = 5 * nodes_in (trees_of l.values.now) + 1

abbrev pub decreases-emit_if : goal.decreases-emit_if
decreases-emit_if l = 5 * (nodes (tree_of l.test.now) + (nodes (tree_of l.first.now) + nodes (tree_of l.second.now))) + 1

abbrev pub decreases-emit_bound : goal.decreases-emit_bound
decreases-emit_bound l = 5 * (nodes_in (trees_of l.values.now) + nodes (tree_of l.body.now)) + 2

abbrev pub decreases-emit_loop : goal.decreases-emit_loop
decreases-emit_loop l = 5 * (nodes_in (trees_of l.values.now) + nodes (tree_of l.body.now)) + 2

abbrev pub decreases-emit_recur : goal.decreases-emit_recur
decreases-emit_recur l = 5 * nodes_in (trees_of l.values.now) + 2

abbrev pub decreases-emit_dosync : goal.decreases-emit_dosync
decreases-emit_dosync l = 5 * nodes (tree_of l.body.now) + 2

abbrev pub decreases-emit_applied : goal.decreases-emit_applied
decreases-emit_applied l = 5 * nodes_in (trees_of l.args.now) + 2

abbrev pub decreases-emit_then : goal.decreases-emit_then
decreases-emit_then l = 5 * nodes (tree_of l.node.now) + 1

abbrev pub decreases-emit_put : goal.decreases-emit_put
decreases-emit_put l = 5 * (nodes (tree_of l.cell.now) + nodes (tree_of l.value.now)) + 2

abbrev pub decreases-emit_update : goal.decreases-emit_update
decreases-emit_update l = 5 * (nodes (tree_of l.cell.now) + nodes_in (trees_of l.args.now)) + 2

abbrev pub decreases-emit_send : goal.decreases-emit_send
decreases-emit_send l = 5 * (nodes (tree_of l.cell.now) + nodes_in (trees_of l.args.now)) + 3
