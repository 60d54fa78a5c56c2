use Rattle.std.proofs.Common.{ap, ◌∙◌}
use Rattle.txs_tree_meaning.specs.View.{mark_of, trees_of, tree_of}
use Rattle.txs_tree_meaning.specs.declared.node.NodeKind.TheVariants.{Let}
use Rattle.txs_tree_meaning.proofs.Trees.{let_tree}
use Rattle.txs_tree_meaning.specs.Tree as tree
use Rattle.txs_tree_meaning.specs.declared.node.Node.{Node}
use Rattle.txs_tree_meaning.proofs.At.{at_tree}
use Rattle.txs_tree_meaning.proofs.build.let_node.Goals as goal

pub returns : goal.returns
returns c =
    let m = mark_of c.args.spot.span c.args.spot.wanted in
    at_tree c.at.result (Let c.args.values c.in_ok-body.body) c.args.spot.span c.args.spot.wanted c.at.ensures.0 c.at.ensures.1 c.at.ensures.2
    ∙ let_tree c.args.values c.in_ok-body.body m ∙ ap (λ (x : Node). tree.Let (trees_of c.args.values.items) (tree_of x) m) c.in_ok-body.ensures.ok
