use Rattle.std.proofs.Common.{◌≡◌, Ok, sym, subst}
use Rattle.txs_reader.specs.Tree.{tree}
use Rattle.txs_tree_meaning.specs.Tree.{Const, Local}
use Rattle.txs_resolve_expand.specs.Expressions.{leaf_node, leaf_value, spot_mark}
use Rattle.txs_resolve_expand.specs.Parts.{WholeFits, leaf_of, whole_leaf}
use Rattle.txs_resolve.specs.Made.{with_room}
use Rattle.txs_resolve_expand.proofs.HiddenLocals.{hidden_node}
use Rattle.txs_resolve.proofs.Leaves.{quoted_node}
use Rattle.txs_resolve.proofs.nodes.as_simple.Goals as goal

pub returns-in-Literal-clause-value : goal.returns-in-Literal-clause-value
returns-in-Literal-clause-value c =
    let fits = subst (WholeFits c.args.scope.now) c.in-Literal.is c.requires in
    subst (λ w. Ok (Const (leaf_value (leaf_of (tree c.in-Literal.form.now))) (spot_mark c.args.spot)) ≡ leaf_node c.args.scope.now (whole_leaf w) (with_room c.args.spot)) (sym c.in-Literal.is)
    (quoted_node c.args.scope.now c.args.spot (tree c.in-Literal.form.now) fits)

pub returns-in-Hidden-clause-value : goal.returns-in-Hidden-clause-value
returns-in-Hidden-clause-value c =
    let fits = subst (WholeFits c.args.scope.now) c.in-Hidden.is c.requires in
    subst (λ w. Ok (Local c.in-Hidden.number (spot_mark c.args.spot)) ≡ leaf_node c.args.scope.now (whole_leaf w) (with_room c.args.spot)) (sym c.in-Hidden.is)
    (sym (hidden_node c.args.scope.now (with_room c.args.spot) c.in-Hidden.number fits))
