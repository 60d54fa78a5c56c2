use Rattle.std.proofs.Common.{rules, ◌≡◌, ◌<◌, ◌≤◌, ◌+◌, ◌-◌, ◌*◌, ◌∷◌, [], ◌++◌, ℕ, Bool, true, List, Ok, Err, length, drop, refl, sym, ap, ◌∙◌, subst, arith}
use Rattle.std.proofs.lemmas.List.{length-map}
use Rattle.std.proofs.lemmas.Result.{err_from_is_err_and}
use Rattle.txs_reader.specs.declared.form.Form.{Form}
use Rattle.txs_reader.specs.Tree.{tree, place}
use Rattle.txs_resolve_expand.specs.declared.error.ResolveErrorKind.TheVariants.{BadForm}
use Rattle.txs_tree_meaning.specs.Tree.{Tree}
use Rattle.txs_tree_meaning.specs.View.{tree_of}
use Rattle.txs_resolve_expand.specs.Scope.{Scope, with_local, with_locals}
use Rattle.txs_resolve_expand.specs.declared.error.ResolveError.{ResolveError}
use Rattle.txs_resolve_expand.specs.declared.shapes.Spot.{Spot}
use Rattle.txs_resolve_expand.specs.declared.parts.Core.TheVariants as core
use Rattle.txs_resolve_expand.specs.Expressions.{bound_name, change_node, changing, flag, named, named_all, named_bindings, put_together, spot_mark}
use Rattle.txs_resolve.specs.Walk.{IsWithin}
use Rattle.txs_resolve.specs.BodyGiven.{row, Pushes}
use Rattle.txs_resolve.specs.Made.{Makes}
use Rattle.txs_resolve_expand.specs.Parts.{CoreFits, PartFits, SpecialFits, core_form, part_form, plain, special_form}
use Rattle.txs_resolve_expand.proofs.Rows.{roomless, roomy}
use Rattle.txs_resolve.proofs.Building.{all_end, all_nil, all_step, all_stop, bindings_end, bindings_odd, bindings_step, bindings_unbound, bindings_unvalued, bound_after, bound_nil, kept_here, puts_more, puts_none, then_kept, unhidden, within_push}
use Rattle.txs_resolve.proofs.Fillings.{args_then, bound_filled, bound_halts, bound_stops, callee_stops, cell_stops, choice_filled, choice_halts, choice_stops, hidden_filled, hidden_full, hidden_stops, hidden_unvalued, named_core, named_stop, narrow_ok, narrow_wide, of_form, of_form_stops, pair_filled, pair_stops, remade, row_filled, shown, single_filled}
use Rattle.txs_resolve.proofs.expression.+resolve.Goals as goal

-- ---- forms

pub expression-returns-in_err-spot-clause-node : goal.expression-returns-in_err-spot-clause-node
expression-returns-in_err-spot-clause-node t c =
    let p = err_from_is_err_and c.from_residual.result c.from_residual.ensures.1 in
    let here = c.args.spot in
    rw (p.1, p.2) (named_stop here c.args.scope.now (part_form here.span c.args.part) _ c.in_err-spot.ensures.core)

pub expression-returns-in-Whole-clause-node : goal.expression-returns-in-Whole-clause-node
expression-returns-in-Whole-clause-node t c =
    let here = c.args.spot in
    let s = c.in_ok-spot.spot in
    let found = c.in_ok-spot.ensures in
    subst (Pushes c.push_whole.result c.args.nodes.now c.push_whole.new.nodes)
    (sym (named_core here c.args.scope.now (part_form here.span c.args.part) s (core_form s.span (core.Whole c.in-Whole.whole)) found.spot (ap (λ k. Ok (core_form s.span k)) (sym c.in-Whole.is) ∙ found.core)))
    c.push_whole.ensures

pub expression-returns-in-Parted-clause-node : goal.expression-returns-in-Parted-clause-node
expression-returns-in-Parted-clause-node t c =
    let here = c.args.spot in
    let s = c.in_ok-spot.spot in
    let found = c.in_ok-spot.ensures in
    subst (Pushes c.parted.result c.args.nodes.now c.parted.new.nodes)
    (sym (named_core here c.args.scope.now (part_form here.span c.args.part) s (core_form s.span (core.Parted c.in-Parted.special)) found.spot (ap (λ k. Ok (core_form s.span k)) (sym c.in-Parted.is) ∙ found.core)))
    c.parted.ensures.node

pub expression-returns-in-Changing-clause-node : goal.expression-returns-in-Changing-clause-node
expression-returns-in-Changing-clause-node t c =
    let here = c.args.spot in
    let s = c.in_ok-spot.spot in
    let found = c.in_ok-spot.ensures in
    subst (Pushes c.changed.result c.args.nodes.now c.changed.new.nodes)
    (sym (named_core here c.args.scope.now (part_form here.span c.args.part) s (core_form s.span (core.Changing c.in-Changing.change c.in-Changing.cell c.in-Changing.function c.in-Changing.args)) found.spot (ap (λ k. Ok (core_form s.span k)) (sym c.in-Changing.is) ∙ found.core)))
    c.changed.ensures.node

pub parted-build-requires : goal.parted-build-requires
parted-build-requires t c kept m =
    let f = c.in_ok-children.ensures.nodes in
    let u = remade c.args.special f.0 (spot_mark c.args.spot) m f.1 f.2 in
    (u.0, subst (λ (l : List Tree). Makes c.args.special l m u.0) (sym (shown c.new-parts.result c.children.new.parts f.0 c.new-parts.ensures.none f.4 kept)) u.1)

pub parted-returns-clause-node : goal.parted-returns-clause-node
parted-returns-clause-node t c =
    let s = c.args.spot in
    let f = c.in_ok-children.ensures.nodes in (
      f.1,
      roomy s (put_together (named (s.room - 1)) c.args.scope.now s (special_form s.span c.args.special)) c.if-spot-eq0.false ∙ f.3,
      c.build.ensures f.1 (λ kept. subst (λ (l : List Tree). Makes c.args.special l (spot_mark s) f.1) (sym (shown c.new-parts.result c.children.new.parts f.0 c.new-parts.ensures.none f.4 kept)) f.2),
    )

pub changed-build_change-requires : goal.changed-build_change-requires
changed-build_change-requires t c kept =
    let n = c.in_ok-expression.ensures.node in
    let all = c.in_ok-items.ensures.nodes in
    let put = puts_more c.new-parts.result c.expression.new.nodes c.items.new.nodes (n.0 ∷ []) all.0 n.2 all.2 in
    omega (arith, length-map c.items.new.nodes.items.items tree_of, ap (λ (l : List Tree). length l) (shown c.new-parts.result c.items.new.nodes (n.0 ∷ all.0) c.new-parts.ensures.none put kept))

pub changed-returns-in_err-items-clause-node : goal.changed-returns-in_err-items-clause-node
changed-returns-in_err-items-clause-node t c =
    let p = err_from_is_err_and c.from_residual-in_err-items.result c.from_residual-in_err-items.ensures.1 in
    let s = c.args.spot in
    let n = c.in_ok-expression.ensures.node in
    rw (p.1, p.2) (args_then s c.args.scope.now c.if-spot-eq0.false c.args.change c.args.cell c.args.function c.args.args c.inner.result c.inner.ensures n.0 n.1 c.expression.new.scope c.in_ok-expression.ensures.kept
    c.in_ok-callee.callee _ (1 + length c.args.args.now) (sym c.in_ok-callee.ensures) (omega arith) c.in_err-items.ensures.nodes)

pub changed-returns-clause-node : goal.changed-returns-clause-node
changed-returns-clause-node t c =
    let s = c.args.spot in
    let n = c.in_ok-expression.ensures.node in
    let all = c.in_ok-items.ensures.nodes in
    let put = puts_more c.new-parts.result c.expression.new.nodes c.items.new.nodes (n.0 ∷ []) all.0 n.2 all.2 in (
      change_node c.args.change n.0 c.in_ok-callee.callee (row all.0) (spot_mark s),
      args_then s c.args.scope.now c.if-spot-eq0.false c.args.change c.args.cell c.args.function c.args.args c.inner.result c.inner.ensures n.0 n.1 c.expression.new.scope c.in_ok-expression.ensures.kept
          c.in_ok-callee.callee (Ok (row all.0)) (1 + length c.args.args.now) (sym c.in_ok-callee.ensures) (omega arith) all.1,
      c.build_change.ensures n.0 all.0 (shown c.new-parts.result c.items.new.nodes (n.0 ∷ all.0) c.new-parts.ensures.none put),
    )

-- ---- the parts of special forms

pub children-returns-in-Row-clause-nodes : goal.children-returns-in-Row-clause-nodes
children-returns-in-Row-clause-nodes t c =
    let s = c.args.spot in
    of_form s c.args.scope.now c.items.result c.args.parts.now c.items.new.nodes c.in-Row.is
    (row_filled s c.args.scope.now c.items.result c.in-Row.kind c.in-Row.forms c.args.parts.now c.items.new.nodes c.are_wanted-wanted.result c.last_wanted-last.result c.are_wanted-wanted.ensures c.last_wanted-last.ensures c.items.ensures.nodes)

pub children-returns-in-Single-clause-nodes : goal.children-returns-in-Single-clause-nodes
children-returns-in-Single-clause-nodes t c =
    let s = c.args.spot in
    let e = c.expression in
    of_form s c.args.scope.now e.result c.args.parts.now e.new.nodes c.in-Single.is
    (single_filled s c.args.scope.now e.result c.in-Single.single c.in-Single.part c.args.parts.now e.new.nodes c.inner-only.result c.part_wanted.result c.part_wanted.ensures c.inner-only.ensures e.ensures.node)

pub children-returns-in_err-expression-in-Pair-clause-nodes : goal.children-returns-in_err-expression-in-Pair-clause-nodes
children-returns-in_err-expression-in-Pair-clause-nodes t c =
    let p = err_from_is_err_and c.from_residual.result c.from_residual.ensures.1 in
    let k = c.in-Pair in
    rw (p.1, p.2) (of_form_stops c.args.spot c.args.scope.now k.is (pair_stops c.args.spot c.args.scope.now k.field-0 k.first k.second c.inner-value.result _ c.inner-value.ensures c.in_err-expression-in-Pair.ensures.node))

pub children-returns-in_ok-expression-in-Pair-clause-nodes : goal.children-returns-in_ok-expression-in-Pair-clause-nodes
children-returns-in_ok-expression-in-Pair-clause-nodes t c =
    let k = c.in-Pair in
    let a = c.in_ok-expression-in-Pair.ensures in
    let e = c.expression-in-Pair-2 in
    of_form c.args.spot c.args.scope.now e.result c.args.parts.now e.new.nodes k.is
    (pair_filled c.args.spot c.args.scope.now e.result k.field-0 k.first k.second c.expression-in-Pair.new.scope c.args.parts.now c.expression-in-Pair.new.nodes e.new.nodes c.inner-value.result a.node.0
    c.inner-value.ensures a.kept a.node.1 a.node.2 e.ensures.node)

pub children-returns-in_ok-expression-in-Choice-2-clause-nodes : goal.children-returns-in_ok-expression-in-Choice-2-clause-nodes
children-returns-in_ok-expression-in-Choice-2-clause-nodes t c =
    let k = c.in-Choice in
    let a = c.in_ok-expression-in-Choice.ensures in
    let b = c.in_ok-expression-in-Choice-2.ensures in
    let e = c.expression-in-Choice-3 in
    of_form c.args.spot c.args.scope.now e.result c.args.parts.now e.new.nodes k.is
    (choice_filled c.args.spot c.args.scope.now e.result k.field-0 k.test k.one k.other c.expression-in-Choice.new.scope c.expression-in-Choice-2.new.scope c.args.parts.now c.expression-in-Choice.new.nodes c.expression-in-Choice-2.new.nodes e.new.nodes
    c.inner-value.result c.inner-tail.result a.node.0 b.node.0 c.inner-value.ensures c.inner-tail.ensures a.kept b.kept a.node.1 a.node.2 b.node.1 b.node.2 e.ensures.node)

pub children-returns-in_ok-expression-in-Binding-clause-nodes : goal.children-returns-in_ok-expression-in-Binding-clause-nodes
children-returns-in_ok-expression-in-Binding-clause-nodes t c =
    let k = c.in-Binding in
    let v = c.in_ok-bindings-in-Binding.ensures.values in
    let n = c.in_ok-expression-in-Binding.ensures.node in
    of_form c.args.spot c.args.scope.now (Ok tt) c.args.parts.now c.expression-in-Binding.new.nodes k.is
    (bound_filled c.args.spot c.args.scope.now k.field-0 k.pairs k.forms c.bindings.new.scope c.args.parts.now c.bindings.new.values c.expression-in-Binding.new.nodes v.0 c.inner-tail.result n.0
    c.inner-tail.ensures v.1 v.2 n.1 n.2)

pub children-returns-in_ok-expression-in-Binding-clause-kept : goal.children-returns-in_ok-expression-in-Binding-clause-kept
children-returns-in_ok-expression-in-Binding-clause-kept t c =
    let kept = c.in_ok-expression-in-Binding.ensures.kept in
    c.truncate.ensures ∙ (λ i. with_locals (drop (length (kept i).locals - c.len-outer.ensures i) (kept i).locals) (kept i)) ∙ c.in_ok-bindings-in-Binding.ensures.outer.1

-- ---- hidden locals

pub children-returns-in_err-local-in-Hidden-clause-nodes : goal.children-returns-in_err-local-in-Hidden-clause-nodes
children-returns-in_err-local-in-Hidden-clause-nodes t c =
    let p = err_from_is_err_and c.from_residual-in_err-local-in-Hidden.result c.from_residual-in_err-local-in-Hidden.ensures.1 in
    let s = c.args.spot in
    let k = c.in-Hidden in
    let a = c.in_ok-expression-in-Hidden.ensures in
    let h = c.in_err-local-in-Hidden.ensures in
    rw (p.1, p.2) (of_form_stops s c.args.scope.now k.is (hidden_full s c.args.scope.now k.is_or k.first k.rest c.inner-value.result a.node.0 c.inner-value.ensures a.node.1 (subst (λ (z : Scope). 200 ≤ length z.locals) a.kept h.0)) ∙ ap (λ (x : ResolveError). Err x) (sym h.1))

pub children-returns-in_err-expression-in-Hidden-2-clause-nodes : goal.children-returns-in_err-expression-in-Hidden-2-clause-nodes
children-returns-in_err-expression-in-Hidden-2-clause-nodes t c =
    let p = err_from_is_err_and c.from_residual-in_err-expression-in-Hidden-2.result c.from_residual-in_err-expression-in-Hidden-2.ensures.1 in
    let k = c.in-Hidden in
    let a = c.in_ok-expression-in-Hidden.ensures in
    let h = c.in_ok-local-in-Hidden.ensures in
    rw (p.1, p.2) (of_form_stops c.args.spot c.args.scope.now k.is (hidden_stops c.args.spot c.args.scope.now k.is_or k.first k.rest c.inner-value.result a.node.0 c.inner-value.ensures a.node.1 c.inner-tail.result c.hide.new.scope c.in_ok-local-in-Hidden.local c.inner-tail.ensures
    (h.2 ∙ ap (with_local []) a.kept) (subst (λ (z : Scope). length z.locals < 200) a.kept h.1) _ c.in_err-expression-in-Hidden-2.ensures.node))

pub children-returns-in_ok-expression-in-Hidden-2-clause-nodes : goal.children-returns-in_ok-expression-in-Hidden-2-clause-nodes
children-returns-in_ok-expression-in-Hidden-2-clause-nodes t c =
    let k = c.in-Hidden in
    let a = c.in_ok-expression-in-Hidden.ensures in
    let b = c.in_ok-expression-in-Hidden-2.ensures in
    let h = c.in_ok-local-in-Hidden.ensures in
    of_form c.args.spot c.args.scope.now (Ok tt) c.args.parts.now c.expression-in-Hidden-2.new.nodes k.is
    (hidden_filled c.args.spot c.args.scope.now k.is_or k.first k.rest c.inner-value.result a.node.0 c.inner-value.ensures a.node.1 c.inner-tail.result c.hide.new.scope c.in_ok-local-in-Hidden.local c.inner-tail.ensures
    (h.2 ∙ ap (with_local []) a.kept) (subst (λ (z : Scope). length z.locals < 200) a.kept h.1)
    c.args.parts.now c.expression-in-Hidden.new.nodes c.expression-in-Hidden-2.new.nodes b.node.0 a.node.2 b.node.1 b.node.2)

pub children-returns-in_ok-expression-in-Hidden-2-clause-kept : goal.children-returns-in_ok-expression-in-Hidden-2-clause-kept
children-returns-in_ok-expression-in-Hidden-2-clause-kept t c =
    let h = c.in_ok-local-in-Hidden.ensures in
    let same : c.from.result ≡ c.in_ok-local-in-Hidden.local = search rules in
    c.truncate-in-Hidden.ensures
    ∙ unhidden c.expression-in-Hidden-2.new.scope c.expression-in-Hidden.new.scope c.from.result (c.in_ok-expression-in-Hidden-2.ensures.kept ∙ h.2) (same ∙ h.0)
    ∙ c.in_ok-expression-in-Hidden.ensures.kept

-- ---- bindings

pub bindings-loop-at-init : goal.bindings-loop-at-init
bindings-loop-at-init t c =
    let locals = c.args.scope.now.locals in
    let nothing : length locals - length locals ≡ 0 = omega arith in
    record {
      built = ([], puts_none c.args.values.now, bound_nil (named_bindings (named (c.args.spot.room - 1)) c.args.scope.now (plain c.args.pairs.now)));
      within = (omega arith, ap (λ (k : ℕ). with_locals (drop k locals) c.args.scope.now) nothing);
      inside = omega arith;
    }

pub bindings-returns-in_err-expression-clause-values : goal.bindings-returns-in_err-expression-clause-values
bindings-returns-in_err-expression-clause-values t c =
    let p = err_from_is_err_and c.from_residual.result c.from_residual.ensures.1 in
    let by = named (c.args.spot.room - 1) in
    let d = c.index-pairs-at.result in
    let b = c.loop-at.invariant.built in
    rw (p.1, p.2) (b.2 ∙ bindings_unvalued by c.loop-at.scope c.args.pairs.now c.loop-at.at b.0 d d _ c.loop-at-test.true
    (ap (λ (f : Form). by c.loop-at.scope true (tree f)) (sym c.index-pairs-at.is) ∙ ap (λ (s : Spot). named s.room c.loop-at.scope s.wanted (tree d)) (sym c.inner.ensures) ∙ c.in_err-expression.ensures.node))

pub bindings-loop-at-preserved : goal.bindings-loop-at-preserved
bindings-loop-at-preserved t c =
    let by = named (c.args.spot.room - 1) in
    let d = c.index-pairs-at.result in
    let b = c.loop-at.invariant.built in
    let n = c.in_ok-expression.ensures.node in
    let kept = c.in_ok-expression.ensures.kept in
    let name = c.in_ok-name.name.now in
    let scope : c.push.new.self ≡ with_local name c.loop-at.scope = c.push.ensures ∙ ap (λ l. with_local l c.expression.new.scope) c.as_bytes.ensures.value ∙ ap (λ (s : Scope). with_local name s) kept in
    record {
      built = (
        b.0 ++ n.0 ∷ [],
        puts_more c.args.values.now c.loop-at.values c.expression.new.nodes b.0 (n.0 ∷ []) b.1 n.2,
        b.2 ∙ bindings_step by c.loop-at.scope c.args.pairs.now c.loop-at.at b.0 c.index-pairs-at-in-loop-at.result d name n.0 c.loop-at-test.true
            (ap (λ (f : Form). by c.loop-at.scope true (tree f)) (sym c.index-pairs-at.is) ∙ ap (λ (s : Spot). named s.room c.loop-at.scope s.wanted (tree d)) (sym c.inner.ensures) ∙ n.1)
            (ap (λ f. bound_name c.loop-at.scope (tree f)) (sym c.index-pairs-at-in-loop-at.is) ∙ ap (λ (s : Scope). bound_name s (tree c.index-pairs-at-in-loop-at.result)) (sym kept) ∙ sym c.in_ok-name.ensures.name)
            ∙ ap (λ (s : Scope). bound_after (b.0 ++ n.0 ∷ []) (named_bindings by s (plain (drop (c.loop-at.at + 2) c.args.pairs.now)))) (sym scope),
      );
      within = subst (λ s. IsWithin c.args.scope.now s) (sym scope) (within_push c.args.scope.now c.loop-at.scope name c.loop-at.invariant.within);
      inside = omega (arith, c.loop-at-test.true);
    }

pub bindings-returns-clause-values : goal.bindings-returns-clause-values
bindings-returns-clause-values t c =
    let b = c.loop-at.invariant.built in
    (b.0, b.2 ∙ bindings_end (named (c.args.spot.room - 1)) c.loop-at.scope c.args.pairs.now c.loop-at.at b.0 c.if-at-pairs.false, b.1)

-- ---- forms one after the other

pub items-loop-i-init : goal.items-loop-i-init
items-loop-i-init t c = record {
  built = ([], puts_none c.args.nodes.now, all_nil (named_all (named (c.args.spot.room - 1)) c.args.scope.now c.args.wanted c.args.last (plain c.args.forms.now)));
  kept = refl;
}

pub items-returns-in_err-expression-clause-nodes : goal.items-returns-in_err-expression-clause-nodes
items-returns-in_err-expression-clause-nodes t c =
    let p = err_from_is_err_and c.from_residual.result c.from_residual.ensures.1 in
    let by = named (c.args.spot.room - 1) in
    let scope = c.args.scope.now in
    let fs = c.args.forms.now in
    let i = c.loop-i.i in
    let d = c.index-forms-i.result in
    let w = flag c.args.wanted c.args.last (plain (drop (i + 1) fs)) in
    let b = c.loop-i.invariant.built in
    rw (p.1, p.2) (narrow_ok (c.args.ahead + length fs) c.args.spot (named_all by scope c.args.wanted c.args.last (plain fs)) (omega (arith, c.if-forms-ahead.false, c.requires.few))
    ∙ b.2
    ∙ all_stop by scope c.args.wanted c.args.last fs i d b.0 _ c.loop-i-test.true
    (ap (λ (f : Form). by scope w (tree f)) (sym c.index-forms-i.is)
    ∙ ap (λ (f : Bool). by scope f (tree d)) (sym c.flag_at-wanted.ensures)
    ∙ ap (λ (s : Scope). by s c.flag_at-wanted.result (tree d)) (sym c.loop-i.invariant.kept)
    ∙ ap (λ (s : Spot). named s.room c.loop-i.scope s.wanted (tree d)) (sym c.inner.ensures)
    ∙ c.in_err-expression.ensures.node))

pub items-loop-i-preserved : goal.items-loop-i-preserved
items-loop-i-preserved t c =
    let by = named (c.args.spot.room - 1) in
    let scope = c.args.scope.now in
    let fs = c.args.forms.now in
    let i = c.loop-i.i in
    let d = c.index-forms-i.result in
    let w = flag c.args.wanted c.args.last (plain (drop (i + 1) fs)) in
    let b = c.loop-i.invariant.built in
    let n = c.in_ok-expression.ensures.node in
    record {
      built = (
        b.0 ++ n.0 ∷ [],
        puts_more c.args.nodes.now c.loop-i.nodes c.expression.new.nodes b.0 (n.0 ∷ []) b.1 n.2,
        b.2 ∙ all_step by scope c.args.wanted c.args.last fs i d n.0 b.0 c.loop-i-test.true
            (ap (λ (f : Form). by scope w (tree f)) (sym c.index-forms-i.is)
            ∙ ap (λ (f : Bool). by scope f (tree d)) (sym c.flag_at-wanted.ensures)
            ∙ ap (λ (s : Scope). by s c.flag_at-wanted.result (tree d)) (sym c.loop-i.invariant.kept)
            ∙ ap (λ (s : Spot). named s.room c.loop-i.scope s.wanted (tree d)) (sym c.inner.ensures)
            ∙ n.1),
      );
      kept = c.in_ok-expression.ensures.kept ∙ c.loop-i.invariant.kept;
    }

pub items-returns-clause-nodes : goal.items-returns-clause-nodes
items-returns-clause-nodes t c =
    let by = named (c.args.spot.room - 1) in
    let b = c.loop-i.invariant.built in (
      b.0,
      narrow_ok (c.args.ahead + length c.args.forms.now) c.args.spot (named_all by c.args.scope.now c.args.wanted c.args.last (plain c.args.forms.now)) (omega (arith, c.if-forms-ahead.false, c.requires.few))
          ∙ b.2 ∙ all_end by c.args.scope.now c.args.wanted c.args.last c.args.forms.now c.loop-i.i b.0 c.loop-i-test.false,
      b.1,
    )

-- ---- what is refused, and what is kept

pub bindings-returns-in_err-name-clause-values : goal.bindings-returns-in_err-name-clause-values
bindings-returns-in_err-name-clause-values t c =
    let p = err_from_is_err_and c.from_residual-in_err-name.result c.from_residual-in_err-name.ensures.1 in
    let by = named (c.args.spot.room - 1) in
    let d = c.index-pairs-at.result in
    let b = c.loop-at.invariant.built in
    let n = c.in_ok-expression.ensures.node in
    rw (p.1, p.2) (b.2 ∙ bindings_unbound by c.loop-at.scope c.args.pairs.now c.loop-at.at b.0 c.index-pairs-at-in-loop-at.result d n.0 _ c.loop-at-test.true
    (ap (λ (f : Form). by c.loop-at.scope true (tree f)) (sym c.index-pairs-at.is) ∙ ap (λ (s : Spot). named s.room c.loop-at.scope s.wanted (tree d)) (sym c.inner.ensures) ∙ n.1)
    (ap (λ f. bound_name c.loop-at.scope (tree f)) (sym c.index-pairs-at-in-loop-at.is) ∙ ap (λ (s : Scope). bound_name s (tree c.index-pairs-at-in-loop-at.result)) (sym c.in_ok-expression.ensures.kept) ∙ sym c.in_err-name.ensures.name))

pub bindings-returns-then-at-pairs-clause-values : goal.bindings-returns-then-at-pairs-clause-values
bindings-returns-then-at-pairs-clause-values t c =
    let b = c.loop-at.invariant.built in
    let d = c.index-pairs-at-then-at-pairs.result in
    b.2
    ∙ bindings_odd (named (c.args.spot.room - 1)) c.loop-at.scope c.args.pairs.now c.loop-at.at b.0 d (omega (arith, c.if-at-pairs.true, c.loop-at-test.false))
    ∙ ap (λ (f : Form). Err (record { kind = BadForm; at = place (tree f) })) (sym c.index-pairs-at-then-at-pairs.is)
    ∙ ap (λ at. Err (record { kind = BadForm; at = at })) (sym c.span.ensures)
    ∙ ap (λ (x : ResolveError). Err x) (sym c.refusal.ensures)

pub changed-returns-then-spot-eq0-clause-node : goal.changed-returns-then-spot-eq0-clause-node
changed-returns-then-spot-eq0-clause-node t c =
    let s = c.args.spot in
    roomless s (put_together (named (s.room - 1)) c.args.scope.now s (changing c.args.change (tree c.args.cell.now) (tree c.args.function.now) (plain c.args.args.now))) c.if-spot-eq0.true
    ∙ ap (λ (x : ResolveError). Err x) (sym c.refusal.ensures)

pub parted-returns-then-spot-eq0-clause-node : goal.parted-returns-then-spot-eq0-clause-node
parted-returns-then-spot-eq0-clause-node t c =
    let s = c.args.spot in
    roomless s (put_together (named (s.room - 1)) c.args.scope.now s (special_form s.span c.args.special)) c.if-spot-eq0.true ∙ ap (λ (x : ResolveError). Err x) (sym c.refusal.ensures)

pub parted-returns-in_err-children-clause-node : goal.parted-returns-in_err-children-clause-node
parted-returns-in_err-children-clause-node t c =
    let p = err_from_is_err_and c.from_residual.result c.from_residual.ensures.1 in
    let s = c.args.spot in
    rw (p.1, p.2) (roomy s (put_together (named (s.room - 1)) c.args.scope.now s (special_form s.span c.args.special)) c.if-spot-eq0.false ∙ c.in_err-children.ensures.nodes)

pub changed-returns-in_err-expression-clause-node : goal.changed-returns-in_err-expression-clause-node
changed-returns-in_err-expression-clause-node t c =
    let p = err_from_is_err_and c.from_residual.result c.from_residual.ensures.1 in
    rw (p.1, p.2) (cell_stops c.args.spot c.args.scope.now c.if-spot-eq0.false c.args.change c.args.cell c.args.function c.args.args c.inner.result c.inner.ensures _ c.in_err-expression.ensures.node)

pub changed-returns-in_err-callee-clause-node : goal.changed-returns-in_err-callee-clause-node
changed-returns-in_err-callee-clause-node t c =
    let p = err_from_is_err_and c.from_residual-in_err-callee.result c.from_residual-in_err-callee.ensures.1 in
    let n = c.in_ok-expression.ensures.node in
    rw (p.1, p.2) (callee_stops c.args.spot c.args.scope.now c.if-spot-eq0.false c.args.change c.args.cell c.args.function c.args.args c.inner.result c.inner.ensures n.0 n.1 c.expression.new.scope c.in_ok-expression.ensures.kept _ (sym c.in_err-callee.ensures))

pub children-returns-in_err-expression-in-Choice-clause-nodes : goal.children-returns-in_err-expression-in-Choice-clause-nodes
children-returns-in_err-expression-in-Choice-clause-nodes t c =
    let p = err_from_is_err_and c.from_residual-in_err-expression-in-Choice.result c.from_residual-in_err-expression-in-Choice.ensures.1 in
    let k = c.in-Choice in
    rw (p.1, p.2) (of_form_stops c.args.spot c.args.scope.now k.is (choice_stops c.args.spot c.args.scope.now k.field-0 k.test k.one k.other c.inner-value.result _ c.inner-value.ensures c.in_err-expression-in-Choice.ensures.node))

pub children-returns-in_err-expression-in-Choice-2-clause-nodes : goal.children-returns-in_err-expression-in-Choice-2-clause-nodes
children-returns-in_err-expression-in-Choice-2-clause-nodes t c =
    let p = err_from_is_err_and c.from_residual-in_err-expression-in-Choice-2.result c.from_residual-in_err-expression-in-Choice-2.ensures.1 in
    let k = c.in-Choice in
    let a = c.in_ok-expression-in-Choice.ensures in
    rw (p.1, p.2) (of_form_stops c.args.spot c.args.scope.now k.is (choice_halts c.args.spot c.args.scope.now k.field-0 k.test k.one k.other c.expression-in-Choice.new.scope c.inner-value.result c.inner-tail.result a.node.0 _
    c.inner-value.ensures c.inner-tail.ensures a.kept a.node.1 c.in_err-expression-in-Choice-2.ensures.node))

pub children-returns-in_err-bindings-in-Binding-clause-nodes : goal.children-returns-in_err-bindings-in-Binding-clause-nodes
children-returns-in_err-bindings-in-Binding-clause-nodes t c =
    let p = err_from_is_err_and c.from_residual-in_err-bindings-in-Binding.result c.from_residual-in_err-bindings-in-Binding.ensures.1 in
    let k = c.in-Binding in
    rw (p.1, p.2) (of_form_stops c.args.spot c.args.scope.now k.is (bound_stops c.args.spot c.args.scope.now k.field-0 k.pairs k.forms _ c.in_err-bindings-in-Binding.ensures.values))

pub children-returns-in_err-expression-in-Binding-clause-nodes : goal.children-returns-in_err-expression-in-Binding-clause-nodes
children-returns-in_err-expression-in-Binding-clause-nodes t c =
    let p = err_from_is_err_and c.from_residual-in_err-expression-in-Binding.result c.from_residual-in_err-expression-in-Binding.ensures.1 in
    let k = c.in-Binding in
    let v = c.in_ok-bindings-in-Binding.ensures.values in
    rw (p.1, p.2) (of_form_stops c.args.spot c.args.scope.now k.is (bound_halts c.args.spot c.args.scope.now k.field-0 k.pairs k.forms c.bindings.new.scope v.0 c.inner-tail.result _ c.inner-tail.ensures v.1 c.in_err-expression-in-Binding.ensures.node))

pub children-returns-in_err-expression-in-Hidden-clause-nodes : goal.children-returns-in_err-expression-in-Hidden-clause-nodes
children-returns-in_err-expression-in-Hidden-clause-nodes t c =
    let p = err_from_is_err_and c.from_residual-in_err-expression-in-Hidden.result c.from_residual-in_err-expression-in-Hidden.ensures.1 in
    let k = c.in-Hidden in
    rw (p.1, p.2) (of_form_stops c.args.spot c.args.scope.now k.is (hidden_unvalued c.args.spot c.args.scope.now k.is_or k.first k.rest c.inner-value.result _ c.inner-value.ensures c.in_err-expression-in-Hidden.ensures.node))

pub children-returns-in-Row-clause-kept : goal.children-returns-in-Row-clause-kept
children-returns-in-Row-clause-kept t c =
    c.items.ensures.kept

pub children-returns-in-Single-clause-kept : goal.children-returns-in-Single-clause-kept
children-returns-in-Single-clause-kept t c =
    c.expression.ensures.kept

pub children-returns-in_ok-expression-in-Pair-clause-kept : goal.children-returns-in_ok-expression-in-Pair-clause-kept
children-returns-in_ok-expression-in-Pair-clause-kept t c =
    then_kept c.expression-in-Pair-2.result _ _ _ c.expression-in-Pair-2.ensures.kept c.in_ok-expression-in-Pair.ensures.kept

pub children-returns-in_ok-expression-in-Choice-2-clause-kept : goal.children-returns-in_ok-expression-in-Choice-2-clause-kept
children-returns-in_ok-expression-in-Choice-2-clause-kept t c =
    then_kept c.expression-in-Choice-3.result _ _ _ c.expression-in-Choice-3.ensures.kept (c.in_ok-expression-in-Choice-2.ensures.kept ∙ c.in_ok-expression-in-Choice.ensures.kept)

pub changed-returns-clause-kept : goal.changed-returns-clause-kept
changed-returns-clause-kept t c =
    c.in_ok-items.ensures.kept ∙ c.in_ok-expression.ensures.kept

pub bindings-returns-clause-outer : goal.bindings-returns-clause-outer
bindings-returns-clause-outer t c =
    c.loop-at.invariant.within

pub items-returns-clause-kept : goal.items-returns-clause-kept
items-returns-clause-kept t c =
    c.loop-i.invariant.kept

pub parted-returns-clause-kept : goal.parted-returns-clause-kept
parted-returns-clause-kept t c =
    c.in_ok-children.ensures.kept

pub expression-returns-in-Parted-clause-kept : goal.expression-returns-in-Parted-clause-kept
expression-returns-in-Parted-clause-kept t c =
    c.parted.ensures.kept

pub expression-returns-in-Changing-clause-kept : goal.expression-returns-in-Changing-clause-kept
expression-returns-in-Changing-clause-kept t c =
    c.changed.ensures.kept

-- ---- what the calls need, and that they come to an end

pub expression-returns-in-Whole-clause-kept : goal.expression-returns-in-Whole-clause-kept
expression-returns-in-Whole-clause-kept t c = kept_here c.push_whole.result c.args.scope.now

pub children-expression-requires : goal.children-expression-requires
children-expression-requires t c =
    let fits = subst (SpecialFits c.args.scope.now) c.in-Single.is c.requires.fits in
    let low : 4 * c.inner-only.result.room + 3 < t = omega (arith, c.decreases, c.requires.room, ap (λ (s : Spot). s.room) c.inner-only.ensures) in
    (low, fits)

pub children-expression-requires-in-Pair : goal.children-expression-requires-in-Pair
children-expression-requires-in-Pair t c =
    let fits = subst (SpecialFits c.args.scope.now) c.in-Pair.is c.requires.fits in
    let low : 4 * c.inner-value.result.room + 3 < t = omega (arith, c.decreases, c.requires.room, ap (λ (s : Spot). s.room) c.inner-value.ensures) in
    (low, fits)

pub children-expression-requires-in-Pair-2 : goal.children-expression-requires-in-Pair-2
children-expression-requires-in-Pair-2 t c =
    let low : 4 * c.inner-value.result.room + 3 < t = omega (arith, c.decreases, c.requires.room, ap (λ (s : Spot). s.room) c.inner-value.ensures) in
    (low, tt)

pub children-expression-requires-in-Choice : goal.children-expression-requires-in-Choice
children-expression-requires-in-Choice t c =
    let fits = subst (SpecialFits c.args.scope.now) c.in-Choice.is c.requires.fits in
    let low : 4 * c.inner-value.result.room + 3 < t = omega (arith, c.decreases, c.requires.room, ap (λ (s : Spot). s.room) c.inner-value.ensures) in
    (low, fits.0)

pub children-expression-requires-in-Choice-2 : goal.children-expression-requires-in-Choice-2
children-expression-requires-in-Choice-2 t c =
    let fits = subst (SpecialFits c.args.scope.now) c.in-Choice.is c.requires.fits in
    let low : 4 * c.inner-tail.result.room + 3 < t = omega (arith, c.decreases, c.requires.room, ap (λ (s : Spot). s.room) c.inner-tail.ensures) in
    (low, subst (λ z. PartFits z c.in-Choice.one) (sym c.in_ok-expression-in-Choice.ensures.kept) fits.1)

pub children-expression-requires-in-Choice-3 : goal.children-expression-requires-in-Choice-3
children-expression-requires-in-Choice-3 t c =
    let fits = subst (SpecialFits c.args.scope.now) c.in-Choice.is c.requires.fits in
    let low : 4 * c.inner-tail.result.room + 3 < t = omega (arith, c.decreases, c.requires.room, ap (λ (s : Spot). s.room) c.inner-tail.ensures) in
    (low, subst (λ z. PartFits z c.in-Choice.other) (sym (c.in_ok-expression-in-Choice-2.ensures.kept ∙ c.in_ok-expression-in-Choice.ensures.kept)) fits.2)

pub children-expression-requires-in-Binding : goal.children-expression-requires-in-Binding
children-expression-requires-in-Binding t c =
    let low : 4 * c.inner-tail.result.room + 3 < t = omega (arith, c.decreases, c.requires.room, ap (λ (s : Spot). s.room) c.inner-tail.ensures) in
    (low, tt)

pub expression-push_whole-requires : goal.expression-push_whole-requires
expression-push_whole-requires t c = subst (CoreFits c.args.scope.now) c.in-Whole.is c.in_ok-spot.ensures.fits

pub expression-parted-requires : goal.expression-parted-requires
expression-parted-requires t c =
    let low : 4 * c.in_ok-spot.spot.room + 2 < t = omega (arith, c.decreases, ap (λ (s : Spot). s.room) c.in_ok-spot.ensures.spot) in
    (low, subst (CoreFits c.args.scope.now) c.in-Parted.is c.in_ok-spot.ensures.fits)

pub bindings-push-requires : goal.bindings-push-requires
bindings-push-requires t c = c.in_ok-name.ensures.room

pub items-returns-then-forms-ahead-clause-nodes : goal.items-returns-then-forms-ahead-clause-nodes
items-returns-then-forms-ahead-clause-nodes t c =
    narrow_wide (c.args.ahead + length c.args.forms.now) c.args.spot (named_all (named (c.args.spot.room - 1)) c.args.scope.now c.args.wanted c.args.last (plain c.args.forms.now)) (omega (arith, c.if-forms-ahead.true, c.requires.few))
    ∙ ap (λ (x : ResolveError). Err x) (sym c.refusal.ensures)

pub expression-changed-requires : goal.expression-changed-requires
expression-changed-requires t c =
    let low : 4 * c.in_ok-spot.spot.room + 2 < t = omega (arith, c.decreases, ap (λ (s : Spot). s.room) c.in_ok-spot.ensures.spot) in
    (low, tt)

pub children-expression-requires-in-Hidden : goal.children-expression-requires-in-Hidden
children-expression-requires-in-Hidden t c =
    let low : 4 * c.inner-value.result.room + 3 < t = omega (arith, c.decreases, c.requires.room, ap (λ (s : Spot). s.room) c.inner-value.ensures) in
    (low, tt)
