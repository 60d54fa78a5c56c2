use Rattle.std.proofs.Common.{◌+◌, drop, ap, arith}
use Rattle.txs_tree_meaning.specs.View.{trees_of}
use Rattle.txs_tree_meaning.proofs.Soundness.{trees_from}
use Rattle.txs_tree_meaning.proofs.Rows.{nodes_at}
use Rattle.txs_tree_meaning.specs.Locals.{reach_let}
use Rattle.txs_opt.proofs.Reach.{let_above}
use Rattle.txs_opt.proofs.locals.+reach.Goals as goal

pub reach_of_all-reach_of-requires : goal.reach_of_all-reach_of-requires
reach_of_all-reach_of-requires t c = (omega (arith, c.decreases, nodes_at c.args.nodes.now c.loop-node.node-index c.node-item.result c.loop-node-test.true c.node-item.is), c.requires)

pub reach_of_let-reach_of-requires : goal.reach_of_let-reach_of-requires
reach_of_let-reach_of-requires t c = (omega (arith, c.decreases, nodes_at c.args.values.now c.loop-value.value-index c.value-item.result c.loop-value-test.true c.value-item.is), c.loop-value.invariant.live)

pub reach_of_let-returns-then-before-eq-MOST_LOCALS : goal.reach_of_let-returns-then-before-eq-MOST_LOCALS
reach_of_let-returns-then-before-eq-MOST_LOCALS t c =
    let ns = c.args.values.now in
    let i = c.loop-value.value-index in
    let from = ap (reach_let c.loop-value.before) (trees_from ns i c.value-item.result c.loop-value-test.true c.value-item.is) in
    omega (arith, from, let_above (trees_of (drop (i + 1) ns)) (c.loop-value.before + 1), c.loop-value.invariant.whole, c.if-before-eq-MOST_LOCALS.true)

pub reach_of_binding-reach_of-requires : goal.reach_of_binding-reach_of-requires
reach_of_binding-reach_of-requires t c = (omega (arith, c.decreases), omega (arith, let_above (trees_of c.args.values.now) c.args.live, c.in_ok-most.ensures, c.behind.ensures))
