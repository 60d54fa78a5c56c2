use Rattle.std.proofs.Common.{◌≡◌, ◌+◌, ℕ, List, ◌∷◌, length, drop, refl, sym, ap, ◌∙◌, subst, arith, Ok}
use Rattle.txs_reader.specs.Tree.{tree}
use Rattle.txs_resolve_expand.specs.Expressions.{Answer}
use Rattle.txs_resolve.specs.Names.{parameter, parameters}
use Rattle.txs_resolve_expand.specs.Answers.{◌>>=◌}
use Rattle.txs_resolve_expand.specs.Scope.{Scope, with_local, with_locals}
use Rattle.std.proofs.lemmas.Result.{err_from_is_err_and}
use Rattle.txs_resolve_expand.specs.Parts.{plain}
use Rattle.txs_resolve_expand.proofs.Rows.{plain_at, drop_all}
use Rattle.txs_resolve.proofs.script.bind_parameters.Goals as goal

pub loop-form-init : goal.loop-form-init
loop-form-init c = record {
  names = ap (λ x. parameters x (plain c.args.forms.now)) (sym c.requires);
  kept = refl;
  few = omega (arith, ap length c.requires);
}

pub returns-in_err-name-clause-names : goal.returns-in_err-name-clause-names
returns-in_err-name-clause-names c =
    let fs = c.args.forms.now in
    let i = c.loop-form.form-index in
    let ls = c.loop-form.scope.locals in
    let rest = plain (drop (i + 1) fs) in
    let after : Answer (List ℕ) → Answer (List (List ℕ)) = λ (o : Answer (List ℕ)). o >>= λ n. parameters (n ∷ ls) rest in
    let here = ap (parameters ls) (plain_at fs i c.form-item.result c.loop-form-test.true) in
    let counted = ap (λ (k : ℕ). parameter k (tree c.form-item.result)) (sym c.len.ensures) in
    let p = err_from_is_err_and c.from_residual.result c.from_residual.ensures.1 in
    rw (p.1, p.2) (c.loop-form.invariant.names ∙ here ∙ ap (λ f. after (parameter (length ls) (tree f))) (sym c.form-item.is) ∙ ap after (counted ∙ sym c.in_err-name.ensures.name))

pub loop-form-preserved : goal.loop-form-preserved
loop-form-preserved c =
    let fs = c.args.forms.now in
    let i = c.loop-form.form-index in
    let ls = c.loop-form.scope.locals in
    let rest = plain (drop (i + 1) fs) in
    let after : Answer (List ℕ) → Answer (List (List ℕ)) = λ (o : Answer (List ℕ)). o >>= λ n. parameters (n ∷ ls) rest in
    let here = ap (parameters ls) (plain_at fs i c.form-item.result c.loop-form-test.true) in
    let named : parameter (length ls) (tree c.form-item.result) ≡ Ok c.in_ok-name.name.now = ap (λ (k : ℕ). parameter k (tree c.form-item.result)) (sym c.len.ensures) ∙ sym c.in_ok-name.ensures.name in
    let found = ap (λ f. after (parameter (length ls) (tree f))) (sym c.form-item.is) ∙ ap after named in
    let bytes = ap (λ (n : List ℕ). parameters (n ∷ ls) rest) (sym c.as_bytes.ensures.value) in
    let pushed = c.push.ensures in
    record {
      names = c.loop-form.invariant.names ∙ here ∙ found ∙ bytes ∙ ap (λ (s : Scope). parameters s.locals rest) (sym pushed);
      kept = subst (λ (s : Scope). s ≡ with_locals s.locals c.args.scope.now) (sym pushed) (ap (with_local c.as_bytes.result.now) c.loop-form.invariant.kept);
      few = omega (arith, ap (λ (s : Scope). length s.locals) pushed, c.len.ensures, c.in_ok-name.ensures.room);
    }

pub returns-clause-names : goal.returns-clause-names
returns-clause-names c = c.loop-form.invariant.names ∙ ap (λ l. parameters c.loop-form.scope.locals (plain l)) (drop_all c.args.forms.now c.loop-form.form-index c.loop-form-test.false)

pub returns-clause-kept : goal.returns-clause-kept
returns-clause-kept c = c.loop-form.invariant.kept

pub returns-clause-few : goal.returns-clause-few
returns-clause-few c = c.loop-form.invariant.few
