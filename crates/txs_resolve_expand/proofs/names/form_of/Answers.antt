use Rattle.std.proofs.Common.{◌≡◌, rules, arith, sym, ap, ◌∙◌, drop, bytes_eq}
use Rattle.txs_value_data.specs.Places.{with_name}
use Rattle.txs_resolve_expand.specs.Scope.{form_name, form_names}
use Rattle.txs_resolve_expand.specs.declared.names.FormName.TheVariants.{Ns}
use Rattle.txs_resolve_expand.proofs.Heads.{passed}
use Rattle.txs_resolve_expand.proofs.names.form_of.Goals as goal

pub returns-then-eq : goal.returns-then-eq
returns-then-eq c = search rules

pub loop-form-preserved : goal.loop-form-preserved
loop-form-preserved c =
    c.loop-form.invariant
    ∙ passed form_name c.args.name.now form_names c.loop-form.form-index Ns c.loop-form-test.true
    (ap (λ n. bytes_eq n c.args.name.now) (sym c.name.ensures) ∙ sym c.eq.ensures ∙ c.if-eq.false)

pub returns : goal.returns
returns c =
    let at_end : c.loop-form.form-index ≡ 28 = omega (arith, c.loop-form-test.false, c.loop-form.auto.form-index-end) in
    sym (c.loop-form.invariant ∙ ap (λ i. with_name form_name c.args.name.now (drop i form_names)) at_end)
