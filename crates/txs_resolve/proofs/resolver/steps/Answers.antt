use Rattle.std.proofs.Common.{◌≡◌, ◌<◌, ◌+◌, ◌∷◌, ℕ, List, IsOk, drop, get_or, length, refl, sym, ap, ◌∙◌, subst, drop-cons, add-one}
use Rattle.std.proofs.lemmas.Result.{err_from_is_err_and}
use Rattle.txs_reader.specs.declared.form.Form.{Form}
use Rattle.txs_reader.specs.Tree.{tree, trees}
use Rattle.txs_resolve_expand.specs.Answers.{◌>>=◌}
use Rattle.txs_resolve_expand.proofs.Rows.{drop_all}
use Rattle.txs_resolve_expand.specs.Expressions.{Answer}
use Rattle.txs_resolve.specs.Memory.{FirstResolves}
use Rattle.txs_resolve.specs.Names.{State, step, steps}
use Rattle.txs_resolve.specs.Scripts.{state_of}
use Rattle.txs_resolve.proofs.TopLevel.{failed_step, wanted_at}
use Rattle.txs_resolve.proofs.resolver.steps.Goals as goal

trees_at : (fs : List Form) (i : ℕ) (d : Form) → i < length fs → trees (drop i fs) ≡ tree (get_or fs i d) ∷ trees (drop (i + 1) fs)
trees_at fs i d lt = ap trees (drop-cons fs i d lt) ∙ ap (λ (k : ℕ). tree (get_or fs i d) ∷ trees (drop k fs)) (sym (add-one i))

pub loop-form-init : goal.loop-form-init
loop-form-init c = record { state = refl; kept = c.requires; wants = λ w. w }

pub loop-form-preserved : goal.loop-form-preserved
loop-form-preserved c =
    let fs = c.args.forms.now in
    let i = c.loop-form.form-index in
    let f = c.form-item.result in
    let s = state_of c.loop-form.script in
    let rest = trees (drop (i + 1) fs) in
    let there = trees_at fs i f c.loop-form-test.true ∙ ap (λ (x : Form). tree x ∷ rest) (sym c.form-item.is) in
    record {
      state = c.loop-form.invariant.state ∙ ap (steps s) there ∙ ap (λ (a : Answer State). a >>= λ t. steps t rest) c.in_ok-step.ensures.state;
      kept = c.in_ok-step.ensures.next;
      wants = λ w. c.loop-form.invariant.wants (subst (FirstResolves s) (sym there) (subst (λ (a : Answer State). IsOk a) (sym c.in_ok-step.ensures.state) refl));
    }

pub returns-in_err-step-clause-state : goal.returns-in_err-step-clause-state
returns-in_err-step-clause-state c =
    let fs = c.args.forms.now in
    let i = c.loop-form.form-index in
    let f = c.form-item.result in
    let s = state_of c.loop-form.script in
    let rest = trees (drop (i + 1) fs) in
    let there = trees_at fs i f c.loop-form-test.true ∙ ap (λ (x : Form). tree x ∷ rest) (sym c.form-item.is) in
    let p = err_from_is_err_and c.from_residual.result c.from_residual.ensures.1 in
    rw (p.1, p.2) (failed_step c.in_err-step.field-0.0 _ _ (step s (tree f)) (steps (state_of c.args.script.now) (trees fs)) c.in_err-step.ensures.state
    (λ e no. c.loop-form.invariant.state ∙ ap (steps s) there ∙ ap (λ (a : Answer State). a >>= λ t. steps t rest) no))

pub returns-in_err-step-clause-memory : goal.returns-in_err-step-clause-memory
returns-in_err-step-clause-memory c =
    let fs = c.args.forms.now in
    let i = c.loop-form.form-index in
    let f = c.form-item.result in
    let s = state_of c.loop-form.script in
    let rest = trees (drop (i + 1) fs) in
    let there = trees_at fs i f c.loop-form-test.true ∙ ap (λ (x : Form). tree x ∷ rest) (sym c.form-item.is) in
    let p = err_from_is_err_and c.from_residual.result c.from_residual.ensures.1 in
    rw (p.1, p.2) (λ e. c.loop-form.invariant.wants (subst (FirstResolves s) (sym there) (wanted_at c.in_err-step.field-0.0 _ (step s (tree f)) c.in_err-step.ensures.state e)))

pub returns-clause-state : goal.returns-clause-state
returns-clause-state c =
    c.loop-form.invariant.state ∙ ap (λ (l : List Form). steps (state_of c.loop-form.script) (trees l)) (drop_all c.args.forms.now c.loop-form.form-index c.loop-form-test.false)
