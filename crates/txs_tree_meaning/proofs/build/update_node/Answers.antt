use Rattle.std.proofs.Common.{ap, ◌∙◌}
use Rattle.txs_tree_meaning.specs.View.{mark_of, trees_of, tree_of}
use Rattle.txs_tree_meaning.specs.declared.node.NodeKind.TheVariants.{Update}
use Rattle.txs_tree_meaning.proofs.Trees.{update_tree}
use Rattle.txs_tree_meaning.specs.Tree as tree
use Rattle.txs_tree_meaning.specs.declared.node.Node.{Node}
use Rattle.txs_tree_meaning.proofs.At.{at_tree}
use Rattle.txs_tree_meaning.proofs.build.update_node.Goals as goal

pub returns : goal.returns
returns c =
    let m = mark_of c.args.spot.span c.args.spot.wanted in
    at_tree c.at.result (Update c.args.form c.in_ok-cell.cell c.args.callee c.args.args) c.args.spot.span c.args.spot.wanted c.at.ensures.0 c.at.ensures.1 c.at.ensures.2
    ∙ update_tree c.args.form c.in_ok-cell.cell c.args.callee c.args.args m ∙ ap (λ (x : Node). tree.Update c.args.form (tree_of x) c.args.callee (trees_of c.args.args.items) m) c.in_ok-cell.ensures.ok
