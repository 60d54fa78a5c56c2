use Rattle.std.proofs.Common.{◌≡◌, ◌∙◌, ap, sym, rules}
use Rattle.txs_machine_actor.specs.PlainActor.{PlainActor}
use Rattle.txs_machine_transaction.specs.declared.state.Transaction.{Transaction}
use Rattle.txs_machine_actor.proofs.Looking.{none_aside}
use Rattle.txs_machine_actor.proofs.actor.Actor.put_aside.Goals as goal

pub returns-in_default : goal.returns-in_default
returns-in_default c =
    let x = c.self.inside in
    let k = x.stack in
    let a : PlainActor = record { number = x.number; role = x.role; body = k.body; frames = k.frames; locals = k.locals; place = k.place; values = k.values; printed = x.printed.items; at = x.at; view = x.view; done = x.frame; commuting = x.commuting; accepted = x.accepted; tx = x.tx; pending = x.pending; outcome = x.outcome; steps = x.steps; limit = x.limit; room = k.room } in
    let n = c.in_default in
    let before = c.take.ensures.taken ∙ ap (λ (y : PlainActor). y.tx) c.self.view_is in
    let left : c.put-in_default.new.self ≡ c.take.result = search rules in
    ap (λ (t : Transaction). record a { tx = t }) (left ∙ c.take.ensures.taken) ∙ c.self.view_is
    ∙ sym (none_aside c.args.self.now c.args.stack c.args.self.now.tx (λ e. n.not-Outside (before ∙ e)) (λ l f p e. n.not-Applying l f p (before ∙ e)) (λ y q f e. n.not-Swapping y q f (before ∙ e)))
