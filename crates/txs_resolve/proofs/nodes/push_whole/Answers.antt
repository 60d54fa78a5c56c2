use Rattle.std.proofs.Common.{◌≡◌, Err, sym, ap, ◌∙◌}
use Rattle.std.proofs.lemmas.Result.{err_from_is_err_and}
use Rattle.txs_resolve_expand.specs.declared.error.ResolveError.{ResolveError}
use Rattle.txs_tree_meaning.specs.Tree.{Mark}
use Rattle.txs_tree_meaning.specs.View.{kind_tree}
use Rattle.txs_resolve_expand.specs.Expressions.{spot_mark}
use Rattle.txs_resolve_expand.specs.Parts.{whole_leaf}
use Rattle.txs_resolve.specs.Made.{simple_tree}
use Rattle.txs_resolve.proofs.Leaves.{leaf_full, leaf_roomy, leaf_stops}
use Rattle.txs_resolve.proofs.TreeRows.{some_of}
use Rattle.txs_resolve.proofs.nodes.push_whole.Goals as goal

pub returns-in_err-simple : goal.returns-in_err-simple
returns-in_err-simple c =
    let p = err_from_is_err_and c.from_residual.result c.from_residual.ensures.1 in
    rw (p.1, p.2) (leaf_stops c.args.spot c.args.scope.now (whole_leaf c.args.whole) _ (sym c.in_err-simple.ensures.value))

pub returns-then-spot-eq0 : goal.returns-then-spot-eq0
returns-then-spot-eq0 c =
    leaf_full c.args.spot c.args.scope.now c.if-spot-eq0.true (whole_leaf c.args.whole) _ (sym c.in_ok-simple.ensures.value) ∙ ap (λ (e : ResolveError). Err e) (sym c.refusal.ensures)

pub returns : goal.returns
returns c =
    let m = spot_mark c.args.spot in
    let t = simple_tree c.in_ok-simple.simple m in (
      t,
      leaf_roomy c.args.spot c.args.scope.now c.if-spot-eq0.false (whole_leaf c.args.whole) ∙ sym c.in_ok-simple.ensures.value,
      c.push.ensures t (some_of c.simple_kind.result c.ok.result (λ k. (m : Mark) → kind_tree k m ≡ simple_tree c.in_ok-simple.simple m) (λ k. kind_tree k m ≡ t) c.ok.ensures.value (λ k h. h m) c.simple_kind.ensures),
    )
