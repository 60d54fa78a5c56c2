use Rattle.std.proofs.Common.{◌≡◌, ◌≤◌, ◌∙◌, ◌∷◌, suc, List, length, ap, subst, rules}
use Rattle.txs_code_meaning.specs.PlainCode.{CodeBody}
use Rattle.txs_value_data.specs.declared.value.Value.{Value}
use Rattle.txs_machine_loop.specs.Values.{last_of}
use Rattle.txs_machine_actor.specs.PlainActor.{PlainActor}
use Rattle.txs_machine_actor.specs.Turns.{taken, args_of, action_values}
use Rattle.txs_machine_actor.proofs.Calling.{one_there, action_so}
use Rattle.txs_machine_actor.proofs.actor.Actor.action_stack.Goals as goal

pub function_of-most-requires : goal.function_of-most-requires
function_of-most-requires c = (c.requires.body, c.requires.is_body)

pub of_function-requires-clause-many : goal.of_function-requires-clause-many
of_function-requires-clause-many c =
    let given : c.in_ok-values.values.items ≡ c.take_last-state.result ∷ args_of (taken c.self.inside.role) = first_of (search rules, cc) in
    let here : args_of (taken c.self.inside.role) ≡ args_of (taken c.args.self.now.role) = ap (λ (a : PlainActor). args_of (taken a.role)) c.self.view_is in
    ap length given ∙ ap (λ (xs : List Value). suc (length xs)) here ∙ c.requires.many ∙ ap (λ (x : CodeBody). x.parameters) (one_there c.requires.is_body c.function_of-most.ensures.body)

pub of_function-requires-clause-fits : goal.of_function-requires-clause-fits
of_function-requires-clause-fits c = subst (λ (x : CodeBody). x.parameters ≤ x.locals) (one_there c.requires.is_body c.function_of-most.ensures.body) c.requires.parameters

pub returns-clause-made : goal.returns-clause-made
returns-clause-made c =
    let given : c.in_ok-values.values.items ≡ c.take_last-state.result ∷ args_of (taken c.self.inside.role) = first_of (search rules, cc) in
    let state : c.take_last-state.result ≡ last_of c.args.self.now.values = c.take_last-state.ensures.value ∙ ap (λ (a : PlainActor). last_of a.values) c.self.view_is in
    let here : args_of (taken c.self.inside.role) ≡ args_of (taken c.args.self.now.role) = ap (λ (a : PlainActor). args_of (taken a.role)) c.self.view_is in
    let whole : c.in_ok-values.values.items ≡ action_values c.args.self.now =
    given ∙ ap (λ (v : Value). v ∷ args_of (taken c.self.inside.role)) state ∙ ap (λ (xs : List Value). last_of c.args.self.now.values ∷ xs) here
    in
    let g = c.function_of-most in
    action_so c.args.code.now c.args.self.now c.args.f g.result.0.now g.result.1 c.in_ok-values.values.items c.of_function.result g.ensures.body g.ensures.needs whole c.of_function.ensures
