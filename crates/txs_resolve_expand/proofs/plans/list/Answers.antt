use Rattle.std.proofs.Common.{◌≡◌, List, Ok, Err, None, sym, ap, ◌∙◌}
use Rattle.std.proofs.lemmas.Result.{err_from_is_err_and}
use Rattle.txs_value_data.specs.declared.op.Callee.{Callee}
use Rattle.txs_value_data.specs.declared.op.Callee.TheVariants.{Core as CoreOp, Function as TheFunction}
use Rattle.txs_reader.specs.declared.form.Bracket.TheVariants.{Round}
use Rattle.txs_reader.specs.declared.form.Form.{Form}
use Rattle.txs_reader.specs.Tree.{group, tree}
use Rattle.txs_resolve_expand.specs.Answers.{◌>>=◌}
use Rattle.txs_resolve_expand.specs.Expansions.{expand_once}
use Rattle.txs_resolve_expand.specs.Expressions.{applied, callee_of, core_of, list_core}
use Rattle.txs_resolve_expand.specs.Parts.{core_form, plain, seen}
use Rattle.txs_resolve_expand.proofs.Rows.{roomless, roomy, then_err, then_ok}
use Rattle.txs_resolve_expand.proofs.Tables.{list_called, list_empty, list_table}
use Rattle.txs_resolve_expand.proofs.plans.list.Goals as goal

pub returns-in_default-clause-core : goal.returns-in_default-clause-core
returns-in_default-clause-core c = ap (λ e. Err e) c.refusal.ensures ∙ list_empty c.args.scope.now c.args.spot c.args.forms.now c.in_default.ensures.cases

pub returns-then-spot-eq0-clause-core : goal.returns-then-spot-eq0-clause-core
returns-then-spot-eq0-clause-core c =
    let here = c.args.spot in
    let scope = c.args.scope.now in
    let head = tree c.in-Some.head.now in
    let args = plain c.in-Some.args.now in
    let whole : core_of scope here (expand_once (group Round (plain c.args.forms.now) here.span)) ≡ list_core None scope here head args =
    ap (λ (l : List Form). core_of scope here (expand_once (group Round (plain l) here.span))) c.in-Some.ensures.cases.0
    ∙ list_called scope here head args (sym c.form_at.ensures ∙ c.in_default-form_at.is) in
    ap (λ e. Err e) c.refusal-then-spot-eq0.ensures
    ∙ sym (whole ∙ roomless here (callee_of scope here head >>= λ callee. Ok (applied callee head args here.span)) c.if-spot-eq0.true)

pub returns-in-Some-form_at-clause-core : goal.returns-in-Some-form_at-clause-core
returns-in-Some-form_at-clause-core c =
    c.shaped.ensures.core c.args.scope.now
    ∙ sym (ap (λ (l : List Form). core_of c.args.scope.now c.args.spot (expand_once (group Round (plain l) c.args.spot.span))) c.in-Some.ensures.cases.0
    ∙ list_table c.args.scope.now c.args.spot c.in-Some-form_at.name (tree c.in-Some.head.now) (plain c.in-Some.args.now) (sym c.form_at.ensures ∙ c.in-Some-form_at.is))

pub returns-in-Core-clause-fits : goal.returns-in-Core-clause-fits
returns-in-Core-clause-fits c = c.operation.ensures.fits c.args.scope.now

pub returns-in-Some-form_at-clause-fits : goal.returns-in-Some-form_at-clause-fits
returns-in-Some-form_at-clause-fits c = c.shaped.ensures.fits c.args.scope.now

pub returns-in_err-op-clause-core : goal.returns-in_err-op-clause-core
returns-in_err-op-clause-core c =
    let here = c.args.spot in
    let scope = c.args.scope.now in
    let head = tree c.in-Some.head.now in
    let args = plain c.in-Some.args.now in
    let next = λ (callee : Callee). Ok (applied callee head args here.span) in
    let whole : core_of scope here (expand_once (group Round (plain c.args.forms.now) here.span)) ≡ list_core None scope here head args =
    ap (λ (l : List Form). core_of scope here (expand_once (group Round (plain l) here.span))) c.in-Some.ensures.cases.0
    ∙ list_called scope here head args (sym c.form_at.ensures ∙ c.in_default-form_at.is) in
    let p = err_from_is_err_and c.from_residual.result c.from_residual.ensures.1 in
    ap (seen (core_form here.span)) p.1
    ∙ ap (λ e. Err e) p.2
    ∙ sym (whole ∙ roomy here (callee_of scope here head >>= next) c.if-spot-eq0.false ∙ then_err (callee_of scope here head) next c.in_err-op.field-0.0 (sym c.in_err-op.ensures))

pub returns-in-Core-clause-core : goal.returns-in-Core-clause-core
returns-in-Core-clause-core c =
    let here = c.args.spot in
    let scope = c.args.scope.now in
    let head = tree c.in-Some.head.now in
    let args = plain c.in-Some.args.now in
    let next = λ (callee : Callee). Ok (applied callee head args here.span) in
    let whole : core_of scope here (expand_once (group Round (plain c.args.forms.now) here.span)) ≡ list_core None scope here head args =
    ap (λ (l : List Form). core_of scope here (expand_once (group Round (plain l) here.span))) c.in-Some.ensures.cases.0
    ∙ list_called scope here head args (sym c.form_at.ensures ∙ c.in_default-form_at.is) in
    ap (λ k. Ok k) (c.operation.ensures.core here.span)
    ∙ sym (whole ∙ roomy here (callee_of scope here head >>= next) c.if-spot-eq0.false ∙ then_ok (callee_of scope here head) next (CoreOp c.in-Core.op) (sym c.in_ok-op.ensures ∙ ap (λ (k : Callee). Ok k) c.in-Core.is))

pub returns-in-Function-clause-core : goal.returns-in-Function-clause-core
returns-in-Function-clause-core c =
    let here = c.args.spot in
    let scope = c.args.scope.now in
    let head = tree c.in-Some.head.now in
    let args = plain c.in-Some.args.now in
    let next = λ (callee : Callee). Ok (applied callee head args here.span) in
    let whole : core_of scope here (expand_once (group Round (plain c.args.forms.now) here.span)) ≡ list_core None scope here head args =
    ap (λ (l : List Form). core_of scope here (expand_once (group Round (plain l) here.span))) c.in-Some.ensures.cases.0
    ∙ list_called scope here head args (sym c.form_at.ensures ∙ c.in_default-form_at.is) in
    sym (whole ∙ roomy here (callee_of scope here head >>= next) c.if-spot-eq0.false ∙ then_ok (callee_of scope here head) next (TheFunction c.in-Function.number) (sym c.in_ok-op.ensures ∙ ap (λ (k : Callee). Ok k) c.in-Function.is))
