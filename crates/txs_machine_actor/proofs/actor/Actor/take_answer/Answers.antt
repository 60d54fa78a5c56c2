use Rattle.std.proofs.Common.{◌≡◌, ◌∙◌, ℕ, Option, None, ap, sym, subst, refl}
use Rattle.txs_world_protocol.specs.declared.ask.Reply.{Reply}
use Rattle.txs_world_protocol.specs.declared.ask.Reply.TheVariants as reply
use Rattle.txs_value_data.specs.declared.value.Value.{Value}
use Rattle.txs_machine_actor.specs.PlainActor.{PlainActor, answered, answered_if}
use Rattle.txs_machine_transaction.specs.Kept.{IsWanted}
use Rattle.txs_machine_transaction.specs.declared.kept.Wanted.{Wanted}
use Rattle.txs_machine_transaction.specs.declared.state.Pending.{Pending}
use Rattle.txs_machine_transaction.specs.declared.state.Transaction.{Transaction}
use Rattle.txs_machine_transaction.specs.declared.state.Transaction.TheVariants.{Outside}
use Rattle.txs_machine_actor.specs.RareAnswers.{IsRareAnswer}
use Rattle.txs_machine_actor.proofs.actor.Actor.take_answer.Goals as goal

-- the other answers
rare : (r : Reply) → ((p : ℕ) → r ≡ reply.At p → ⊥) → ((v : Value) → r ≡ reply.Is v → ⊥) → (r ≡ reply.Done → ⊥) → ((p : ℕ) (v : Value) → r ≡ reply.Opened p v → ⊥) → IsRareAnswer r
rare (reply.At p) at is done opened = at p refl
rare (reply.Is v) at is done opened = is v refl
rare (reply.Opened p v) at is done opened = opened p v refl
rare (reply.Views q vs) at is done opened = tt
rare reply.Done at is done opened = done refl
rare (reply.Retry d) at is done opened = tt
rare (reply.Changed d) at is done opened = tt
rare (reply.AgentIsFailed g) at is done opened = tt
rare (reply.Action n x v) at is done opened = tt
rare reply.Idle at is done opened = tt
rare reply.Full at is done opened = tt
rare reply.Memory at is done opened = tt

pub take_rare_answer-requires-clause-rare : goal.take_rare_answer-requires-clause-rare
take_rare_answer-requires-clause-rare c = rare c.args.reply c.in_default.not-At c.in_default.not-Is c.in_default.not-Done c.in_default.not-Opened

pub returns-in-At : goal.returns-in-At
returns-in-At c = c.take_read_point.ensures ∙ ap (answered c.args.self.now) (sym c.in-At.is)

pub returns-in-Opened : goal.returns-in-Opened
returns-in-Opened c = c.take_atom.ensures ∙ ap (answered c.args.self.now) (sym c.in-Opened.is)

pub returns-in-Is : goal.returns-in-Is
returns-in-Is c = c.take_value.ensures ∙ ap (answered c.args.self.now) (sym c.in-Is.is)

pub returns-in_default-wanted : goal.returns-in_default-wanted
returns-in_default-wanted c = c.take_other_done.ensures ∙ ap (answered c.args.self.now) (sym c.in-Done.is)

pub returns-in-Commit : goal.returns-in-Commit
returns-in-Commit c =
    let a = c.args.self.now in
    let x = c.self-in-Commit.inside in
    let k = x.stack in
    let v : PlainActor = record { number = x.number; role = x.role; body = k.body; frames = k.frames; locals = k.locals; place = k.place; values = k.values; printed = x.printed.items; at = x.at; view = x.view; done = x.frame; commuting = x.commuting; accepted = x.accepted; tx = x.tx; pending = x.pending; outcome = x.outcome; steps = x.steps; limit = x.limit; room = k.room } in
    let waits = subst (λ (w : Wanted). IsWanted w c.self.inside.pending) c.in-Commit.is c.wanted.ensures in
    ap (λ (t : Transaction). record v { tx = t; pending = c.clear.new.self }) c.leave.ensures
    ∙ ap (λ (o : Option Pending). record v { tx = Outside; pending = o }) c.clear.ensures
    ∙ ap (λ (y : PlainActor). record y { tx = Outside; pending = None }) (c.self-in-Commit.view_is ∙ c.step_on.ensures)
    ∙ ap (λ (o : Option Pending). answered_if a o reply.Done) (sym waits ∙ ap (λ (y : PlainActor). y.pending) c.self.view_is)
    ∙ ap (answered a) (sym c.in-Done.is)
