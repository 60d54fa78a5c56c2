use Rattle.std.proofs.Common.{◌≡◌, ◌-◌, ◌≤◌, ◌<◌, ◌^◌, None, sym, subst}
use Rattle.txs_machine_actor.specs.PlainActor.{PlainActor, Runs, unanswered}
use Rattle.txs_machine_actor.specs.Turns.{TurnsOf}
use Rattle.txs_machine_actor.specs.declared.outcome.Turn.TheVariants as turned
use Rattle.txs_machine_actor.proofs.Travelling.{begins, can_travel, moved_on, travelled}
use Rattle.txs_machine_actor.proofs.actor.Actor.quicken.Goals as goal

pub travel-made-requires : goal.travel-made-requires
travel-made-requires c =
    let x = c.self.inside in
    let k = x.stack in
    let d = c.args.code.now in
    let count = c.args.count in
    let v : PlainActor = record { number = x.number; role = x.role; body = k.body; frames = k.frames; locals = k.locals; place = k.place; values = k.values; printed = x.printed.items; at = x.at; view = x.view; done = x.frame; commuting = x.commuting; accepted = x.accepted; tx = x.tx; pending = x.pending; outcome = x.outcome; steps = x.steps; limit = x.limit; room = k.room } in
    let ended : v.outcome ≡ None = subst (λ (a : PlainActor). a.outcome ≡ None) (sym c.self.view_is) c.requires.unended in
    let unasked : unanswered v ≡ None = subst (λ (a : PlainActor). unanswered a ≡ None) (sym c.self.view_is) c.requires.answered in
    let runs : Runs d v = subst (λ (a : PlainActor). Runs d a) (sym c.self.view_is) c.requires.runs in
    let fits : count ≤ v.limit - v.steps = subst (λ (a : PlainActor). count ≤ a.limit - a.steps) (sym c.self.view_is) c.requires.fits in
    let small : v.limit < 2 ^ 64 = subst (λ (a : PlainActor). a.limit < 2 ^ 64) (sym c.self.view_is) c.requires.small in
    record { can = can_travel d v count (begins d v count runs unasked ended fits small) }

pub returns-clause-turns : goal.returns-clause-turns
returns-clause-turns c =
    let x = c.self.inside in
    let k = x.stack in
    let d = c.args.code.now in
    let count = c.args.count in
    let v : PlainActor = record { number = x.number; role = x.role; body = k.body; frames = k.frames; locals = k.locals; place = k.place; values = k.values; printed = x.printed.items; at = x.at; view = x.view; done = x.frame; commuting = x.commuting; accepted = x.accepted; tx = x.tx; pending = x.pending; outcome = x.outcome; steps = x.steps; limit = x.limit; room = k.room } in
    let ended : v.outcome ≡ None = subst (λ (a : PlainActor). a.outcome ≡ None) (sym c.self.view_is) c.requires.unended in
    let unasked : unanswered v ≡ None = subst (λ (a : PlainActor). unanswered a ≡ None) (sym c.self.view_is) c.requires.answered in
    let runs : Runs d v = subst (λ (a : PlainActor). Runs d a) (sym c.self.view_is) c.requires.runs in
    let fits : count ≤ v.limit - v.steps = subst (λ (a : PlainActor). count ≤ a.limit - a.steps) (sym c.self.view_is) c.requires.fits in
    let small : v.limit < 2 ^ 64 = subst (λ (a : PlainActor). a.limit < 2 ^ 64) (sym c.self.view_is) c.requires.small in
    let made = c.travel-made.result in
    let t = c.travel-made.new.stack in
    let w = travelled d v count made t (begins d v count runs unasked ended fits small) c.travel-made.ensures.within c.travel-made.ensures.travels in
    subst (λ (y : PlainActor). TurnsOf d made y turned.Went (moved_on v t made)) c.self.view_is w.0

pub returns-clause-runs : goal.returns-clause-runs
returns-clause-runs c =
    let x = c.self.inside in
    let k = x.stack in
    let d = c.args.code.now in
    let count = c.args.count in
    let v : PlainActor = record { number = x.number; role = x.role; body = k.body; frames = k.frames; locals = k.locals; place = k.place; values = k.values; printed = x.printed.items; at = x.at; view = x.view; done = x.frame; commuting = x.commuting; accepted = x.accepted; tx = x.tx; pending = x.pending; outcome = x.outcome; steps = x.steps; limit = x.limit; room = k.room } in
    let ended : v.outcome ≡ None = subst (λ (a : PlainActor). a.outcome ≡ None) (sym c.self.view_is) c.requires.unended in
    let unasked : unanswered v ≡ None = subst (λ (a : PlainActor). unanswered a ≡ None) (sym c.self.view_is) c.requires.answered in
    let runs : Runs d v = subst (λ (a : PlainActor). Runs d a) (sym c.self.view_is) c.requires.runs in
    let fits : count ≤ v.limit - v.steps = subst (λ (a : PlainActor). count ≤ a.limit - a.steps) (sym c.self.view_is) c.requires.fits in
    let small : v.limit < 2 ^ 64 = subst (λ (a : PlainActor). a.limit < 2 ^ 64) (sym c.self.view_is) c.requires.small in
    let made = c.travel-made.result in
    let t = c.travel-made.new.stack in
    let w = travelled d v count made t (begins d v count runs unasked ended fits small) c.travel-made.ensures.within c.travel-made.ensures.travels in
    w.1
