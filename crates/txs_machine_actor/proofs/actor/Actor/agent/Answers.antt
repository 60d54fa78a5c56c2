use Rattle.std.proofs.Common.{[], None, refl, sym, subst, inr}
use Rattle.txs_frame.specs.Frame.{empty_frame}
use Rattle.txs_machine_actor.specs.PlainActor.{PlainActor, Attends}
use Rattle.txs_machine_actor.specs.Turns.{IsNew}
use Rattle.txs_machine_transaction.specs.declared.state.Transaction.TheVariants.{Outside}
use Rattle.txs_machine_transaction.specs.declared.role.Role.TheVariants.{Attending}
use Rattle.txs_machine_stack.specs.PlainFrame.{PlainStack}
use Rattle.txs_machine_actor.proofs.Attending.{agent_is_new, agent_lives}
use Rattle.txs_machine_actor.proofs.actor.Actor.agent.Goals as goal

pub returns-clause-new : goal.returns-clause-new
returns-clause-new c =
    let d = c.args.code.now in
    let new : PlainStack → PlainActor =
    λ s. record { number = c.args.number; role = Attending c.args.agent None; body = s.body; frames = s.frames; locals = s.locals; place = s.place; values = s.values; printed = []; at = 0; view = 0; done = empty_frame; commuting = None; accepted = None; tx = Outside; pending = None; outcome = None; steps = 0; limit = c.args.max_steps; room = s.room } in
    subst (λ (x : PlainActor). IsNew d c.args.number c.args.max_steps x) (sym c.fresh.ensures)
    (subst (λ (s : PlainStack). IsNew d c.args.number c.args.max_steps (new s)) (sym c.in_ok-stack.ensures)
    (agent_is_new d c.args.number c.args.max_steps c.args.agent c.requires [] empty_frame refl refl))

pub returns-clause-lives : goal.returns-clause-lives
returns-clause-lives c =
    let d = c.args.code.now in
    let new : PlainStack → PlainActor =
    λ s. record { number = c.args.number; role = Attending c.args.agent None; body = s.body; frames = s.frames; locals = s.locals; place = s.place; values = s.values; printed = []; at = 0; view = 0; done = empty_frame; commuting = None; accepted = None; tx = Outside; pending = None; outcome = None; steps = 0; limit = c.args.max_steps; room = s.room } in
    inr (subst (λ (x : PlainActor). Attends d x) (sym c.fresh.ensures) (subst (λ (s : PlainStack). Attends d (new s)) (sym c.in_ok-stack.ensures)
    (agent_lives d c.args.number c.args.max_steps c.args.agent c.requires [] empty_frame refl c.rooms-rooms.result.0.now c.rooms-rooms.result.1.now c.rooms-rooms.ensures)))
