use Rattle.std.proofs.Common.{◌∷◌, List, Ok, sym, ap, ◌∙◌, arith}
use Rattle.txs_reader.specs.declared.form.Form.{Form}
use Rattle.txs_reader.specs.Tree.{PlainForm as FormTree, tree}
use Rattle.txs_resolve_expand.specs.Expressions.{choice, parted}
use Rattle.txs_resolve_expand.specs.Parts.{choice_name, plain, table, told}
use Rattle.txs_resolve_expand.proofs.Tables.{choice_few, choice_many, choice_none, choice_one}
use Rattle.txs_resolve_expand.proofs.plans.either.Goals as goal

pub returns-in_err-test-clause-core : goal.returns-in_err-test-clause-core
returns-in_err-test-clause-core c scope s =
    ap (told s) c.from_residual.ensures ∙ choice_none scope s c.args.turned c.args.args.now c.in_err-test.ensures.cases

pub returns-in_err-one-clause-core : goal.returns-in_err-one-clause-core
returns-in_err-one-clause-core c scope s =
    ap (told s) c.from_residual-in_err-one.ensures
    ∙ choice_one scope s c.args.turned c.in_ok-test.test.now c.in_ok-test.behind.now c.in_err-one.ensures.cases
    ∙ sym (ap (λ (l : List Form). table (choice_name c.args.turned) scope s (plain l)) c.in_ok-test.ensures.cases.0)

pub returns-then-rest-gt1-clause-core : goal.returns-then-rest-gt1-clause-core
returns-then-rest-gt1-clause-core c scope s =
    choice_many scope s c.args.turned c.in_ok-test.test.now c.in_ok-one.one.now c.in_ok-one.rest.now c.if-rest-gt1.true
    ∙ sym (ap (λ (l : List Form). table (choice_name c.args.turned) scope s (plain l)) (c.in_ok-test.ensures.cases.0 ∙ ap (λ (l : List Form). c.in_ok-test.test.now ∷ l) c.in_ok-one.ensures.cases.0))

pub returns-clause-core : goal.returns-clause-core
returns-clause-core c scope s =
    ap (λ (f : FormTree). Ok (parted (choice c.args.turned (tree c.in_ok-test.test.now) (tree c.in_ok-one.one.now) f))) (c.first_of-other.ensures.form s.span)
    ∙ choice_few scope s c.args.turned c.in_ok-test.test.now c.in_ok-one.one.now c.in_ok-one.rest.now (omega (arith, c.if-rest-gt1.false))
    ∙ sym (ap (λ (l : List Form). table (choice_name c.args.turned) scope s (plain l)) (c.in_ok-test.ensures.cases.0 ∙ ap (λ (l : List Form). c.in_ok-test.test.now ∷ l) c.in_ok-one.ensures.cases.0))

pub returns-clause-fits : goal.returns-clause-fits
returns-clause-fits c scope = (tt, tt, c.first_of-other.ensures.fits scope)
