use Rattle.std.proofs.Common.{◌∙◌, ap, refl}
use Rattle.txs_machine_transaction.specs.declared.state.Transaction.TheVariants.{Restarting}
use Rattle.txs_machine_actor.specs.PlainActor.{PlainActor}
use Rattle.txs_machine_actor.proofs.Trying.{run_next, run_last}
use Rattle.txs_machine_actor.proofs.actor.Actor.run_again.Goals as goal

pub returns-in_default : goal.returns-in_default
returns-in_default c = run_last c.args.self.now c.next_try.new.self c.args.self.now.tx (c.in_default.ensures.none refl)

pub returns : goal.returns
returns c =
    let o = c.in-Some.from in
    let n = c.in-Some.left in
    c.begin_again.ensures
    ∙ ap (λ (a : PlainActor). record a { body = o.stack.body; frames = o.stack.frames; locals = o.stack.locals; place = o.stack.place; values = o.stack.values; room = o.stack.room; tx = Restarting n }) c.in-Some.ensures.taken
    ∙ run_next c.args.self.now c.args.self.now.tx n o c.in-Some.ensures.some
