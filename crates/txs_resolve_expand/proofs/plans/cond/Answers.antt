use Rattle.std.proofs.Common.{◌∷◌, List, sym, ap, ◌∙◌}
use Rattle.txs_reader.specs.declared.form.Form.{Form}
use Rattle.txs_resolve_expand.specs.declared.names.FormName.TheVariants as kind
use Rattle.txs_resolve_expand.specs.Parts.{plain, table, told}
use Rattle.txs_resolve_expand.proofs.Tables.{cond_even, cond_odd, cond_one}
use Rattle.txs_resolve_expand.proofs.plans.cond.Goals as goal

pub returns-then-rest-ne0-clause-core : goal.returns-then-rest-ne0-clause-core
returns-then-rest-ne0-clause-core c scope s =
    cond_odd scope s c.in-Some.test.now c.in_ok-one.one.now c.in_ok-one.rest.now c.if-rest-ne0.true
    ∙ sym (ap (λ (l : List Form). table kind.Cond scope s (plain l)) (c.in-Some.ensures.cases.0 ∙ ap (λ (l : List Form). c.in-Some.test.now ∷ l) c.in_ok-one.ensures.cases.0))

pub returns-clause-core : goal.returns-clause-core
returns-clause-core c scope s =
    cond_even scope s c.in-Some.test.now c.in_ok-one.one.now c.in_ok-one.rest.now c.if-rest-ne0.false
    ∙ sym (ap (λ (l : List Form). table kind.Cond scope s (plain l)) (c.in-Some.ensures.cases.0 ∙ ap (λ (l : List Form). c.in-Some.test.now ∷ l) c.in_ok-one.ensures.cases.0))

pub returns-in_err-one-clause-core : goal.returns-in_err-one-clause-core
returns-in_err-one-clause-core c scope s =
    ap (told s) c.from_residual.ensures
    ∙ cond_one scope s c.in-Some.test.now c.in-Some.behind.now c.in_err-one.ensures.cases
    ∙ sym (ap (λ (l : List Form). table kind.Cond scope s (plain l)) c.in-Some.ensures.cases.0)
