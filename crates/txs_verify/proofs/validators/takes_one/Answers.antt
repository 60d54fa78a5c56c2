use Rattle.std.proofs.Common.{◌≡◌, rules, subst, sym}
use Rattle.std.specs.Prelude.{IsTrue, ◌↔◌}
use Rattle.txs_value_data.specs.declared.op.Callee.{Callee}
use Rattle.txs_value_data.specs.declared.op.Callee.TheVariants as callee
use Rattle.txs_code_meaning.specs.PlainCode.{parameters_of}
use Rattle.txs_verify.specs.Validators.{TakesOne}
use Rattle.txs_verify.proofs.Validated.{operation_takes, function_takes}
use Rattle.txs_verify.proofs.validators.takes_one.Goals as goal

pub returns-in-Core : goal.returns-in-Core
returns-in-Core c =
    let ps = parameters_of c.args.functions.now in
    let is : c.args.callee ≡ callee.Core c.in-Core.op = search rules in
    subst (λ (f : Callee). IsTrue c.takes.result ↔ TakesOne ps f) (sym is) (operation_takes c.takes.result c.in-Core.op c.takes.ensures)

pub returns-in-Function : goal.returns-in-Function
returns-in-Function c =
    let ps = parameters_of c.args.functions.now in
    let is : c.args.callee ≡ callee.Function c.in-Function.f = search rules in
    subst (λ (f : Callee). IsTrue c.has_parameters.result ↔ TakesOne ps f) (sym is) (function_takes ps c.in-Function.f c.has_parameters.result c.has_parameters.ensures.present c.has_parameters.ensures.absent)
