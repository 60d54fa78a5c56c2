use Rattle.std.proofs.Common.{ap, sym, subst}
use Rattle.txs_machine_actor.specs.PlainActor.{PlainActor}
use Rattle.txs_machine_actor.specs.Turns.{CanReturn, Returns, with_stack}
use Rattle.txs_machine_stack.specs.PlainFrame.{PlainStack}
use Rattle.txs_machine_actor.proofs.actor.Actor.give_back.Goals as goal

pub give_back-requires : goal.give_back-requires
give_back-requires c =
    let r = subst (λ (a : PlainActor). CanReturn a) (sym c.self.view_is) c.requires in
    record { value = r.value; called = r.called; roomy = r.roomy }

pub returns : goal.returns
returns c =
    let x = c.self.inside in
    let k = x.stack in
    let v : PlainActor = record { number = x.number; role = x.role; body = k.body; frames = k.frames; locals = k.locals; place = k.place; values = k.values; printed = x.printed.items; at = x.at; view = x.view; done = x.frame; commuting = x.commuting; accepted = x.accepted; tx = x.tx; pending = x.pending; outcome = x.outcome; steps = x.steps; limit = x.limit; room = k.room } in
    let g = c.give_back.ensures in
    subst (λ (y : PlainActor). Returns y (with_stack v c.give_back.new.self)) c.self.view_is (g.0, g.1, g.2, ap (λ (s : PlainStack). with_stack v s) g.3)
