use Rattle.std.proofs.Common.{◌≤◌, ◌∙◌, refl, ap, subst}
use Rattle.txs_code_meaning.specs.PlainCode.{CodeBody}
use Rattle.txs_machine_actor.proofs.Calling.{one_there, evaluation_so}
use Rattle.txs_machine_turn.proofs.judge.judging_stack.Goals as goal

pub function_of-most-requires : goal.function_of-most-requires
function_of-most-requires c = (c.requires.body, c.requires.is_body)

pub of_function-requires-clause-many : goal.of_function-requires-clause-many
of_function-requires-clause-many c = c.requires.many ∙ ap (λ (x : CodeBody). x.parameters) (one_there c.requires.is_body c.function_of-most.ensures.body)

pub of_function-requires-clause-fits : goal.of_function-requires-clause-fits
of_function-requires-clause-fits c = subst (λ (x : CodeBody). x.parameters ≤ x.locals) (one_there c.requires.is_body c.function_of-most.ensures.body) c.requires.parameters

pub returns : goal.returns
returns c =
    let g = c.function_of-most in
    evaluation_so c.args.code.now c.args.f g.result.0.now g.result.1 c.args.values.items c.args.values.items c.of_function.result g.ensures.body g.ensures.needs refl c.of_function.ensures
