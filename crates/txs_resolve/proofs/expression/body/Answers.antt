use Rattle.std.proofs.Common.{◌∷◌, [], Ok, sym, ap, ◌∙◌}
use Rattle.txs_tree_meaning.specs.Tree.{Tree}
use Rattle.txs_tree_meaning.specs.View.{tree_of}
use Rattle.txs_resolve_expand.specs.Expansions.{body}
use Rattle.txs_resolve_expand.specs.Parts.{plain}
use Rattle.txs_resolve.proofs.Fillings.{shown}
use Rattle.txs_resolve.proofs.Marks.{named_marked}
use Rattle.txs_resolve.proofs.expression.body.Goals as goal

pub returns-in-Some-clause-node : goal.returns-in-Some-clause-node
returns-in-Some-clause-node c =
    let n = c.in_ok-expression.ensures.node in
    n.1 ∙ ap (λ (t : Tree). Ok t) (sym (c.in-Some.ensures.node n.0 (shown c.new-nodes.result c.expression.new.nodes (n.0 ∷ []) c.new-nodes.ensures.none n.2)))

pub returns-in-Some-clause-marked : goal.returns-in-Some-clause-marked
returns-in-Some-clause-marked c =
    let spot = c.args.spot in
    named_marked spot.room c.args.scope.now spot.wanted (body (plain c.args.forms.now) spot.span) (tree_of c.in-Some.node) (returns-in-Some-clause-node c)
