use Rattle.std.proofs.Common.{ap, ◌∙◌, arith}
use Rattle.txs_tree_meaning.specs.Sound.{nodes}
use Rattle.txs_tree_meaning.specs.View.{mark_of, trees_of}
use Rattle.txs_tree_meaning.specs.Locals.{top}
use Rattle.txs_tree_meaning.specs.Shapes.{view_tree}
use Rattle.txs_tree_meaning.proofs.Locals.{row_top, top_at}
use Rattle.txs_tree_meaning.proofs.Rows.{nodes_at, pushed_shifted}
use Rattle.txs_tree_meaning.proofs.Smaller.{row_nodes}
use Rattle.txs_tree_meaning.proofs.shifting.+shift.Goals as goal

pub shift_node-shift_node-requires : goal.shift_node-shift_node-requires
shift_node-shift_node-requires t c =
    let n = c.args.node.now in
    let is = c.view.ensures ∙ ap (λ s. view_tree s (mark_of n.span n.wanted)) c.in-If.is in
    (omega (arith, c.decreases, ap nodes is), omega (arith, c.requires, ap top is))

pub shift_node-shift_node-requires-in-If : goal.shift_node-shift_node-requires-in-If
shift_node-shift_node-requires-in-If t c =
    let n = c.args.node.now in
    let is = c.view.ensures ∙ ap (λ s. view_tree s (mark_of n.span n.wanted)) c.in-If.is in
    (omega (arith, c.decreases, ap nodes is), omega (arith, c.requires, ap top is))

pub shift_node-shift_node-requires-in-If-2 : goal.shift_node-shift_node-requires-in-If-2
shift_node-shift_node-requires-in-If-2 t c =
    let n = c.args.node.now in
    let is = c.view.ensures ∙ ap (λ s. view_tree s (mark_of n.span n.wanted)) c.in-If.is in
    (omega (arith, c.decreases, ap nodes is), omega (arith, c.requires, ap top is))

pub shift_node-shift_all-requires : goal.shift_node-shift_all-requires
shift_node-shift_all-requires t c =
    let n = c.args.node.now in
    let is = c.view.ensures ∙ ap (λ s. view_tree s (mark_of n.span n.wanted)) c.in-Row.is in
    (omega (arith, c.decreases, ap nodes is, row_nodes c.in-Row.row (trees_of c.in-Row.parts.now) (mark_of n.span n.wanted)), omega (arith, c.requires, ap top is, row_top c.in-Row.row (trees_of c.in-Row.parts.now) (mark_of n.span n.wanted)))

pub shift_node-shift_all-requires-in-Let : goal.shift_node-shift_all-requires-in-Let
shift_node-shift_all-requires-in-Let t c =
    let n = c.args.node.now in
    let is = c.view.ensures ∙ ap (λ s. view_tree s (mark_of n.span n.wanted)) c.in-Let.is in
    (omega (arith, c.decreases, ap nodes is), omega (arith, c.requires, ap top is))

pub shift_node-shift_node-requires-in-Let : goal.shift_node-shift_node-requires-in-Let
shift_node-shift_node-requires-in-Let t c =
    let n = c.args.node.now in
    let is = c.view.ensures ∙ ap (λ s. view_tree s (mark_of n.span n.wanted)) c.in-Let.is in
    (omega (arith, c.decreases, ap nodes is), omega (arith, c.requires, ap top is))

pub shift_node-shift_all-requires-in-Loop : goal.shift_node-shift_all-requires-in-Loop
shift_node-shift_all-requires-in-Loop t c =
    let n = c.args.node.now in
    let is = c.view.ensures ∙ ap (λ s. view_tree s (mark_of n.span n.wanted)) c.in-Loop.is in
    (omega (arith, c.decreases, ap nodes is), omega (arith, c.requires, ap top is))

pub shift_node-shift_node-requires-in-Loop : goal.shift_node-shift_node-requires-in-Loop
shift_node-shift_node-requires-in-Loop t c =
    let n = c.args.node.now in
    let is = c.view.ensures ∙ ap (λ s. view_tree s (mark_of n.span n.wanted)) c.in-Loop.is in
    (omega (arith, c.decreases, ap nodes is), omega (arith, c.requires, ap top is))

pub shift_node-shift_node-requires-in-Dosync : goal.shift_node-shift_node-requires-in-Dosync
shift_node-shift_node-requires-in-Dosync t c =
    let n = c.args.node.now in
    let is = c.view.ensures ∙ ap (λ s. view_tree s (mark_of n.span n.wanted)) c.in-Dosync.is in
    (omega (arith, c.decreases, ap nodes is), omega (arith, c.requires, ap top is))

pub shift_node-shift_node-requires-in-Look : goal.shift_node-shift_node-requires-in-Look
shift_node-shift_node-requires-in-Look t c =
    let n = c.args.node.now in
    let is = c.view.ensures ∙ ap (λ s. view_tree s (mark_of n.span n.wanted)) c.in-Look.is in
    (omega (arith, c.decreases, ap nodes is), omega (arith, c.requires, ap top is))

pub shift_node-shift_node-requires-in-Put : goal.shift_node-shift_node-requires-in-Put
shift_node-shift_node-requires-in-Put t c =
    let n = c.args.node.now in
    let is = c.view.ensures ∙ ap (λ s. view_tree s (mark_of n.span n.wanted)) c.in-Put.is in
    (omega (arith, c.decreases, ap nodes is), omega (arith, c.requires, ap top is))

pub shift_node-shift_node-requires-in-Put-2 : goal.shift_node-shift_node-requires-in-Put-2
shift_node-shift_node-requires-in-Put-2 t c =
    let n = c.args.node.now in
    let is = c.view.ensures ∙ ap (λ s. view_tree s (mark_of n.span n.wanted)) c.in-Put.is in
    (omega (arith, c.decreases, ap nodes is), omega (arith, c.requires, ap top is))

pub shift_node-shift_node-requires-in-Update : goal.shift_node-shift_node-requires-in-Update
shift_node-shift_node-requires-in-Update t c =
    let n = c.args.node.now in
    let is = c.view.ensures ∙ ap (λ s. view_tree s (mark_of n.span n.wanted)) c.in-Update.is in
    (omega (arith, c.decreases, ap nodes is), omega (arith, c.requires, ap top is))

pub shift_node-shift_all-requires-in-Update : goal.shift_node-shift_all-requires-in-Update
shift_node-shift_all-requires-in-Update t c =
    let n = c.args.node.now in
    let is = c.view.ensures ∙ ap (λ s. view_tree s (mark_of n.span n.wanted)) c.in-Update.is in
    (omega (arith, c.decreases, ap nodes is), omega (arith, c.requires, ap top is))

pub shift_node-shift_node-requires-in-Send : goal.shift_node-shift_node-requires-in-Send
shift_node-shift_node-requires-in-Send t c =
    let n = c.args.node.now in
    let is = c.view.ensures ∙ ap (λ s. view_tree s (mark_of n.span n.wanted)) c.in-Send.is in
    (omega (arith, c.decreases, ap nodes is), omega (arith, c.requires, ap top is))

pub shift_node-shift_all-requires-in-Send : goal.shift_node-shift_all-requires-in-Send
shift_node-shift_all-requires-in-Send t c =
    let n = c.args.node.now in
    let is = c.view.ensures ∙ ap (λ s. view_tree s (mark_of n.span n.wanted)) c.in-Send.is in
    (omega (arith, c.decreases, ap nodes is), omega (arith, c.requires, ap top is))

pub shift_all-shift_node-requires : goal.shift_all-shift_node-requires
shift_all-shift_node-requires t c =
    (omega (arith, c.decreases, nodes_at c.args.nodes.now c.loop-node.node-index c.node-item.result c.loop-node-test.true c.node-item.is), omega (arith, c.requires, top_at c.args.nodes.now c.loop-node.node-index c.node-item.result c.loop-node-test.true c.node-item.is))

pub shift_all-loop-node-preserved : goal.shift_all-loop-node-preserved
shift_all-loop-node-preserved t c = record {
  so_far = pushed_shifted c.args.shift.from c.args.shift.by c.args.nodes.now c.loop-node.anew.items c.push.new.self.items c.loop-node.node-index c.node-item.result c.in_ok-shift_node.field-0 c.loop-node-test.true c.node-item.is c.loop-node.invariant.so_far c.in_ok-push.ensures.items c.in_ok-shift_node.ensures;
}
