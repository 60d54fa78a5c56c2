use Rattle.txs_value_data.specs.declared.fault.Fault.{Fault}
use Rattle.txs_machine_actor.specs.PlainActor.{PlainActor}
use Rattle.txs_machine_actor.proofs.Trying.{failed_in}
use Rattle.txs_machine_actor.proofs.actor.Actor.fail_in.Goals as goal

pub returns : goal.returns
returns c =
    let x = c.self.inside in
    let k = x.stack in
    let a : PlainActor = record { number = x.number; role = x.role; body = k.body; frames = k.frames; locals = k.locals; place = k.place; values = k.values; printed = x.printed.items; at = x.at; view = x.view; done = x.frame; commuting = x.commuting; accepted = x.accepted; tx = x.tx; pending = x.pending; outcome = x.outcome; steps = x.steps; limit = x.limit; room = k.room } in
    let f : Fault = record { kind = c.args.kind; span = c.args.span } in
    failed_in a c.args.self.now c.fail.new.self c.args.tx c.put.new.self f c.self.view_is c.put.ensures c.fail.ensures
