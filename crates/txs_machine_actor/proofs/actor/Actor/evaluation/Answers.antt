use Rattle.std.proofs.Common.{◌≡◌, ◌≤◌, ◌∙◌, length, ap, subst, rules}
use Rattle.txs_code_meaning.specs.PlainCode.{CodeBody}
use Rattle.txs_machine_actor.specs.PlainActor.{PlainActor}
use Rattle.txs_machine_actor.specs.Turns.{applied_on}
use Rattle.txs_machine_actor.proofs.Calling.{one_there, evaluation_so}
use Rattle.txs_machine_actor.proofs.actor.Actor.evaluation.Goals as goal

pub function_of-most-requires : goal.function_of-most-requires
function_of-most-requires c = (c.requires.begins.body, c.requires.begins.is_body)

pub of_function-requires-clause-many : goal.of_function-requires-clause-many
of_function-requires-clause-many c =
    let given : c.in_ok-args.args.items ≡ applied_on c.self.inside.tx c.self.inside.frame = first_of (search rules, cc) in
    let here : applied_on c.self.inside.tx c.self.inside.frame ≡ applied_on c.args.self.now.tx c.args.self.now.done = ap (λ (a : PlainActor). applied_on a.tx a.done) c.self.view_is in
    ap length (given ∙ here) ∙ c.requires.begins.many ∙ ap (λ (x : CodeBody). x.parameters) (one_there c.requires.begins.is_body c.function_of-most.ensures.body)

pub of_function-requires-clause-fits : goal.of_function-requires-clause-fits
of_function-requires-clause-fits c = subst (λ (x : CodeBody). x.parameters ≤ x.locals) (one_there c.requires.begins.is_body c.function_of-most.ensures.body) c.requires.begins.parameters

pub returns : goal.returns
returns c =
    let given : c.in_ok-args.args.items ≡ applied_on c.self.inside.tx c.self.inside.frame = first_of (search rules, cc) in
    let here : applied_on c.self.inside.tx c.self.inside.frame ≡ applied_on c.args.self.now.tx c.args.self.now.done = ap (λ (a : PlainActor). applied_on a.tx a.done) c.self.view_is in
    let g = c.function_of-most in
    evaluation_so c.args.code.now c.args.f g.result.0.now g.result.1 c.in_ok-args.args.items (applied_on c.args.self.now.tx c.args.self.now.done) c.of_function.result g.ensures.body g.ensures.needs (given ∙ here) c.of_function.ensures
