use Rattle.std.proofs.Common.{◌<◌, ◌≤◌, ◌*◌, ap, arith}
use Rattle.std.proofs.lemmas.List.{drop_all}
use Rattle.txs_tree_meaning.specs.View.{tree_of, trees_of}
use Rattle.txs_tree_meaning.proofs.Soundness.{trees_from}
use Rattle.txs_resolve.specs.Depths.{depths, depths_in}
use Rattle.txs_resolve.proofs.depth.+levels.Goals as goal

pub levels-returns : goal.levels-returns
levels-returns t c = omega arith

pub most_levels-loop-node-preserved : goal.most_levels-loop-node-preserved
most_levels-loop-node-preserved t c =
    let known = c.args.known.now in
    let from = ap (depths_in known) (trees_from c.args.nodes.now c.loop-node.node-index c.node-item.result c.loop-node-test.true c.node-item.is) in
    record { whole = omega (arith, c.loop-node.invariant.whole, from, c.levels.ensures, c.max-most.ensures) }

pub most_levels-levels-requires : goal.most_levels-levels-requires
most_levels-levels-requires t c =
    let known = c.args.known.now in
    let from = ap (depths_in known) (trees_from c.args.nodes.now c.loop-node.node-index c.node-item.result c.loop-node-test.true c.node-item.is) in
    let less : depths known (tree_of c.node-item.result) ≤ depths_in known (trees_of c.args.nodes.now) = omega (arith, c.loop-node.invariant.whole, from) in
    let low : 2 * depths known (tree_of c.node-item.result) < t = omega (arith, c.decreases, less) in
    (low, omega (arith, c.requires, less))

pub most_levels-returns : goal.most_levels-returns
most_levels-returns t c =
    omega (arith, c.loop-node.invariant.whole, ap (λ ns. depths_in c.args.known.now (trees_of ns)) (drop_all c.loop-node.node-index c.args.nodes.now c.loop-node-test.false))
