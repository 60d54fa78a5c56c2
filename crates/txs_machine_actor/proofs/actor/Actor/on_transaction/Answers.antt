use Rattle.std.proofs.Common.{◌≡◌, ◌∙◌, Option, refl, ap, sym, subst}
use Rattle.txs_frame.specs.Frame.{PlainTxFrame}
use Rattle.txs_frame.specs.declared.frame.Commute.{Commute}
use Rattle.txs_machine_stack.specs.PlainFrame.{PlainStack}
use Rattle.txs_value_cell.specs.Cells.{validators_of}
use Rattle.txs_machine_transaction.specs.Effect.{IsRare}
use Rattle.txs_machine_actor.specs.PlainActor.{PlainActor}
use Rattle.txs_machine_actor.specs.Turns.{CanTransact, Transacts, with_stack}
use Rattle.txs_machine_transaction.specs.declared.state.Transaction.{Transaction}
use Rattle.txs_machine_actor.proofs.Departing.{quickly_so}
use Rattle.txs_machine_actor.proofs.actor.Actor.on_transaction.Goals as goal

-- where nothing was done, the actor is as it was
same_actor : (a : PlainActor) (k st : PlainStack) (t : Transaction) (w : PlainTxFrame) (o : Option Commute) → with_stack a k ≡ a → st ≡ k → t ≡ a.tx → w ≡ a.done → o ≡ a.commuting → record (with_stack a st) { tx = t; done = w; commuting = o } ≡ a
same_actor a k st t w o is e1 e2 e3 e4 =
    ap (λ (s : PlainStack). record (with_stack a s) { tx = t; done = w; commuting = o }) e1
    ∙ ap (λ (y : Transaction). record (with_stack a k) { tx = y; done = w; commuting = o }) e2
    ∙ ap (λ (y : PlainTxFrame). record (with_stack a k) { done = y; commuting = o }) e3
    ∙ ap (λ (y : Option Commute). record (with_stack a k) { commuting = y }) e4
    ∙ is

pub returns-in-Some : goal.returns-in-Some
returns-in-Some c =
    let x = c.self.inside in
    let k = x.stack in
    let a : PlainActor = record { number = x.number; role = x.role; body = k.body; frames = k.frames; locals = k.locals; place = k.place; values = k.values; printed = x.printed.items; at = x.at; view = x.view; done = x.frame; commuting = x.commuting; accepted = x.accepted; tx = x.tx; pending = x.pending; outcome = x.outcome; steps = x.steps; limit = x.limit; room = k.room } in
    let m = c.transact-quick in
    let f = c.follow_quickly in
    subst (λ (y : PlainActor). Transacts (validators_of c.args.cells.now) y c.args.instr c.args.span c.args.next f.new.turn f.new.self) c.self.view_is
    (quickly_so (validators_of c.args.cells.now) a c.args.span c.args.instr c.args.next c.in-Some.quick m.new.stack m.new.tx m.new.frame m.new.commuting f.new.turn f.new.self m.ensures.rest (c.in-Some.ensures.comes (validators_of c.args.cells.now) c.args.span) f.ensures)

pub on_rare-requires-clause-can : goal.on_rare-requires-clause-can
on_rare-requires-clause-can c =
    let x = c.self.inside in
    let k = x.stack in
    let a : PlainActor = record { number = x.number; role = x.role; body = k.body; frames = k.frames; locals = k.locals; place = k.place; values = k.values; printed = x.printed.items; at = x.at; view = x.view; done = x.frame; commuting = x.commuting; accepted = x.accepted; tx = x.tx; pending = x.pending; outcome = x.outcome; steps = x.steps; limit = x.limit; room = k.room } in
    let m = c.transact-quick in
    let r = c.in-None.ensures.rare refl in
    let same : record (with_stack a m.new.stack) { tx = m.new.tx; done = m.new.frame; commuting = m.new.commuting } ≡ c.args.self.now = same_actor a k m.new.stack m.new.tx m.new.frame m.new.commuting refl r.1 r.2 r.3 r.4 ∙ c.self.view_is in
    let now : PlainActor = record (with_stack a m.new.stack) { tx = m.new.tx; done = m.new.frame; commuting = m.new.commuting } in
    subst (λ (y : PlainActor). CanTransact y c.args.instr) {y = now} (sym same) c.requires.can

pub on_rare-requires-clause-rare : goal.on_rare-requires-clause-rare
on_rare-requires-clause-rare c =
    let r = c.in-None.ensures.rare refl in
    subst (λ (o : Option Commute). IsRare o c.args.instr) (sym r.4) r.0

pub returns-in-None : goal.returns-in-None
returns-in-None c =
    let x = c.self.inside in
    let k = x.stack in
    let a : PlainActor = record { number = x.number; role = x.role; body = k.body; frames = k.frames; locals = k.locals; place = k.place; values = k.values; printed = x.printed.items; at = x.at; view = x.view; done = x.frame; commuting = x.commuting; accepted = x.accepted; tx = x.tx; pending = x.pending; outcome = x.outcome; steps = x.steps; limit = x.limit; room = k.room } in
    let m = c.transact-quick in
    let r = c.in-None.ensures.rare refl in
    let same : record (with_stack a m.new.stack) { tx = m.new.tx; done = m.new.frame; commuting = m.new.commuting } ≡ c.args.self.now = same_actor a k m.new.stack m.new.tx m.new.frame m.new.commuting refl r.1 r.2 r.3 r.4 ∙ c.self.view_is in
    subst (λ (y : PlainActor). Transacts (validators_of c.args.cells.now) y c.args.instr c.args.span c.args.next c.on_rare.new.turn c.on_rare.new.self) same c.on_rare.ensures
