use Rattle.std.proofs.Common.{◌+◌, refl, arith}
use Rattle.txs_tree_meaning.proofs.Soundness.{count-trees_of}
use Rattle.txs_tree_meaning.specs.View.{functions_of, trees_of}
use Rattle.txs_tree_meaning.proofs.Rows.{nodes_at}
use Rattle.txs_opt.proofs.InlinedRows.{all_more, let_more, reach_at, let_reach_at}
use Rattle.txs_opt.proofs.Reach.{all_above, let_above}
use Rattle.txs_opt.proofs.inline_nodes.+inline.Goals as goal

pub inline_all-inline_node-requires : goal.inline_all-inline_node-requires
inline_all-inline_node-requires t c =
    let ns = c.args.nodes.now in
    let i = c.loop-node.node-index in
    let n = c.node-item.result in
    (omega (arith, c.decreases, nodes_at ns i n c.loop-node-test.true c.node-item.is), omega (arith, c.requires, reach_at c.args.live ns i n c.loop-node-test.true c.node-item.is))

pub inline_all-loop-node-preserved : goal.inline_all-loop-node-preserved
inline_all-loop-node-preserved t c =
    let r = all_more (functions_of c.args.done.now) c.args.nodes.now c.loop-node.anew.items c.push.new.self.items c.loop-node.node-index c.node-item.result c.in_ok-inline_node.field-0 c.loop-node.budget c.inline_node.new.budget c.loop-node-test.true c.node-item.is c.in_ok-push.ensures.items
    c.args.live c.args.budget.now c.loop-node.invariant.trees c.loop-node.invariant.budget c.in_ok-inline_node.ensures.0 c.in_ok-inline_node.ensures.1 in
    record { trees = r.0; budget = r.1 }

pub inline_let-overflow_add-live : goal.inline_let-overflow_add-live
inline_let-overflow_add-live t c = omega (arith, c.requires, let_above (trees_of c.args.values.now) c.args.live, count-trees_of c.args.values.now, c.loop-at-test.true)

pub inline_let-inline_node-requires : goal.inline_let-inline_node-requires
inline_let-inline_node-requires t c =
    let ns = c.args.values.now in
    let i = c.loop-at.at in
    let n = c.index-values-at.result in
    (omega (arith, c.decreases, nodes_at ns i n c.loop-at-test.true c.index-values-at.is), omega (arith, c.requires, let_reach_at c.args.live ns i (c.args.live + i) n refl c.loop-at-test.true c.index-values-at.is))

pub inline_let-loop-at-preserved : goal.inline_let-loop-at-preserved
inline_let-loop-at-preserved t c =
    let r = let_more (functions_of c.args.done.now) c.args.values.now c.loop-at.anew.items c.push.new.self.items c.loop-at.at c.index-values-at.result c.in_ok-inline_node.field-0 c.loop-at.budget c.inline_node.new.budget c.loop-at-test.true c.index-values-at.is c.in_ok-push.ensures.items
    c.args.live c.args.budget.now c.loop-at.invariant.trees c.loop-at.invariant.budget c.in_ok-inline_node.ensures.0 c.in_ok-inline_node.ensures.1 in
    record { trees = r.0; budget = r.1 }

pub inline_row-call_node-requires : goal.inline_row-call_node-requires
inline_row-call_node-requires t c = omega (arith, c.requires, all_above (trees_of c.args.parts.now) c.args.live)
