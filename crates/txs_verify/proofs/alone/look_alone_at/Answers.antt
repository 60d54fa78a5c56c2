use Rattle.std.proofs.Common.{◌≡◌, ◌∙◌, sym, ap, subst, get_or, Some, None}
use Rattle.txs_code_meaning.specs.PlainCode.{parameters_of}
use Rattle.txs_code_meaning.specs.declared.instr.Instr.TheVariants.{Const}
use Rattle.txs_value_data.specs.Places.{nth}
use Rattle.txs_verify.specs.Alone.{fault, IsRight}
use Rattle.txs_verify.proofs.Lawfulness.{right_of, wrong_of}
use Rattle.txs_verify.proofs.Lists.{nth_is, both_stand}
use Rattle.txs_verify.proofs.alone.look_alone_at.Goals as goal

pub returns-in-Some-clause-wrong : goal.returns-in-Some-clause-wrong
returns-in-Some-clause-wrong c =
    let n = c.args.callable in
    let ps = parameters_of c.args.functions.now in
    let b = c.args.body.now in
    let at = c.args.at in
    let is = c.instrs-instrs.result.now in
    let found : fault n ps b.instrs b.locals at (get_or b.instrs at (Const 0)) ≡ Some c.in-Some.kind = ap (λ x. fault n ps x b.locals at (get_or x at (Const 0))) (sym c.instrs-instrs.ensures) ∙ ap (λ l. fault n ps is l at (get_or is at (Const 0))) (sym c.locals.ensures) ∙ sym c.in-Some.ensures in
    wrong_of n ps b at (get_or b.instrs at (Const 0)) c.in-Some.kind (nth_is b.instrs at (Const 0) c.requires.place) found

pub returns-in-None-clause-right : goal.returns-in-None-clause-right
returns-in-None-clause-right c = λ i e.
    (let n = c.args.callable in
    let ps = parameters_of c.args.functions.now in
    let b = c.args.body.now in
    let at = c.args.at in
    let is = c.instrs-instrs.result.now in
    let found : fault n ps b.instrs b.locals at (get_or b.instrs at (Const 0)) ≡ None = ap (λ x. fault n ps x b.locals at (get_or x at (Const 0))) (sym c.instrs-instrs.ensures) ∙ ap (λ l. fault n ps is l at (get_or is at (Const 0))) (sym c.locals.ensures) ∙ sym c.in-None.ensures in
    let same = both_stand (nth b.instrs at) (get_or b.instrs at (Const 0)) i (nth_is b.instrs at (Const 0) c.requires.place) e in
    subst (λ x. IsRight n ps b at x) same (right_of n ps b at (get_or b.instrs at (Const 0)) found))
