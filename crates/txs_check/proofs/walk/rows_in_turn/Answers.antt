use Rattle.std.proofs.Common.{◌≡◌, true, false, [], ◌∷◌, refl, sym, ap, ◌∙◌}
use Rattle.txs_tree_meaning.specs.Tree.{none}
use Rattle.txs_tree_meaning.specs.View.{mark_of, trees_of}
use Rattle.txs_tree_meaning.proofs.Trees.{if_node, do_node}
use Rattle.txs_check.specs.Rows.{Rows, rows, rows_of, in_turn_of}
use Rattle.txs_check.proofs.InTurn.{if_in_turn, do_nothing, do_parts}
use Rattle.txs_check.proofs.walk.rows_in_turn.Goals as goal

pub returns-then-is_turned : goal.returns-then-is_turned
returns-then-is_turned c =
    let a = c.deref.result.now in
    let b = c.deref-in-If.result.now in
    let e = if_node c.args.node.now c.in-If.field-0 c.in-If.one c.in-If.other c.in-If.field-0.value a b c.in-If.is refl c.deref.ensures c.deref-in-If.ensures in
    if_in_turn c.args.node.now c.in-If.field-0.value a b true _ e c.if-is_turned.ensures c.parts.ensures

pub returns-else-is_turned : goal.returns-else-is_turned
returns-else-is_turned c =
    let a = c.deref.result.now in
    let b = c.deref-in-If.result.now in
    let e = if_node c.args.node.now c.in-If.field-0 c.in-If.one c.in-If.other c.in-If.field-0.value a b c.in-If.is refl c.deref.ensures c.deref-in-If.ensures in
    if_in_turn c.args.node.now c.in-If.field-0.value a b false _ e c.if-is_turned.ensures c.parts.ensures

pub returns-in-None : goal.returns-in-None
returns-in-None c =
    let n = c.args.node.now in
    let ns = c.deref-in-Do.result.now in
    let e = do_node n c.in-Do.items ns c.in-Do.is c.deref-in-Do.ensures.value in
    ap in_turn_of e ∙ do_nothing ns (mark_of n.span n.wanted) c.in-None.ensures.cases ∙ sym (ap rows_of e) ∙ c.parts.ensures

pub returns-in-Some : goal.returns-in-Some
returns-in-Some c =
    let n = c.args.node.now in
    let ns = c.deref-in-Do.result.now in
    let before = c.in-Some.before.now in
    let last = c.in-Some.last.now in
    let e = do_node n c.in-Do.items ns c.in-Do.is c.deref-in-Do.ensures.value in
    let third : none ≡ trees_of c.parts.result.2.now = sym (ap (λ x. (rows_of x).three) e) ∙ ap (λ (r : Rows). r.three) c.parts.ensures in
    let one : last ∷ [] ≡ c.from_ref.result.now = sym c.from_ref.ensures.value in
    ap in_turn_of e ∙ do_parts ns before last (mark_of n.span n.wanted) c.in-Some.ensures.cases.0 ∙ (λ i. rows (trees_of before) (trees_of (one i)) (third i))
