use Rattle.std.proofs.Common.{◌≡◌, ℕ, ◌≤◌, length, Option, refl, ap, sym, subst}
use Rattle.txs_value_data.specs.declared.fault.Span.{Span}
use Rattle.txs_value_cell.specs.Cells.{Validators, validators_of}
use Rattle.txs_code_meaning.specs.declared.instr.Instr.{Instr}
use Rattle.txs_frame.specs.Frame.{PlainTxFrame}
use Rattle.txs_frame.specs.declared.frame.Commute.{Commute}
use Rattle.txs_machine_stack.specs.PlainFrame.{PlainStack}
use Rattle.txs_machine_transaction.specs.Effect.{CanMove, IsRare, Comes, effect}
use Rattle.txs_machine_transaction.specs.declared.moved.Moved.{Moved}
use Rattle.txs_machine_transaction.specs.declared.moved.Moved.TheVariants as moved
use Rattle.txs_machine_transaction.specs.declared.state.Savepoint.{Savepoint}
use Rattle.txs_machine_transaction.specs.declared.state.Transaction.{Transaction}
use Rattle.txs_machine_actor.specs.PlainActor.{PlainActor}
use Rattle.txs_machine_actor.specs.Turns.{FollowsUp, Transacts, savepoint_at, stack_in_actor, with_stack}
use Rattle.txs_machine_actor.specs.declared.outcome.Turn.{Turn}
use Rattle.txs_machine_actor.proofs.Departing.{transacts_so}
use Rattle.txs_machine_actor.proofs.Dispatching.{dispatched}
use Rattle.txs_machine_actor.proofs.actor.Actor.on_other.Goals as goal

pub transact_rarely-moved-requires-clause-can : goal.transact_rarely-moved-requires-clause-can
transact_rarely-moved-requires-clause-can c =
    let k = c.self.inside.stack in
    subst (λ (t : Transaction). CanMove k.values k.room t c.args.instr) (sym c.take-tx.ensures.taken) (subst (λ (y : PlainActor). CanMove y.values y.room y.tx c.args.instr) (sym c.self.view_is) c.requires.can)

-- a send finds its arguments
pub send_or_hold-requires-clause-room : goal.send_or_hold-requires-clause-room
send_or_hold-requires-clause-room c =
    let x = c.self.inside in
    let k = x.stack in
    let m = c.transact_rarely-moved in
    let s = c.in-Sends in
    let from : Savepoint = record { span = c.args.span; stack = k } in
    let can : CanMove k.values k.room c.take-tx.result c.args.instr =
    subst (λ (t : Transaction). CanMove k.values k.room t c.args.instr) (sym c.take-tx.ensures.taken) (subst (λ (y : PlainActor). CanMove y.values y.room y.tx c.args.instr) (sym c.self.view_is) c.requires.can) in
    let rare : IsRare x.commuting c.args.instr = subst (λ (y : PlainActor). IsRare y.commuting c.args.instr) (sym c.self.view_is) c.requires.rare in
    let came = subst (λ (y : Moved). Comes y m.new.stack.values m.new.tx m.new.frame m.new.commuting x.frame x.commuting (effect (validators_of c.args.cells.now) from k.values c.take-tx.result x.frame x.commuting c.args.instr)) s.is m.ensures.comes in
    let found = dispatched k.room from k.values c.take-tx.result x.frame (validators_of c.args.cells.now) x.commuting c.args.instr can rare s.action s.n m.new.stack.values m.new.tx m.new.frame m.new.commuting came in
    (found.0, subst (λ (r : ℕ). length m.new.stack.values ≤ r) (sym (ap (λ (y : PlainStack). y.room) m.ensures.rest)) found.1)

-- what it came to, told of the actor that it began with
made : (fs : Validators) (y a : PlainActor) (i : Instr) (span : Span) (next : ℕ) (t0 : Transaction) (m n : Moved) (st : PlainStack) (t u : Transaction) (w : PlainTxFrame) (k : Option Commute) (r : Turn) (b : PlainActor) → a ≡ y → t0 ≡ a.tx → st ≡ record (stack_in_actor a) { values = st.values }
    → Comes m st.values t w k a.done a.commuting (effect fs (savepoint_at a span) a.values t0 a.done a.commuting i) → m ≡ n → u ≡ t → FollowsUp (record (with_stack a st) { tx = u; done = w; commuting = k }) n span next r b → Transacts fs y i span next r b
made fs y a i span next t0 m n st t u w k r b same taken rest come is put follow =
    let comes = subst (λ (x : Moved). Comes x st.values t w k a.done a.commuting (effect fs (savepoint_at a span) a.values a.tx a.done a.commuting i)) is (subst (λ (x : Transaction). Comes m st.values t w k a.done a.commuting (effect fs (savepoint_at a span) a.values x a.done a.commuting i)) taken come) in
    let follows = subst (λ (x : Transaction). FollowsUp (record (with_stack a st) { tx = x; done = w; commuting = k }) n span next r b) put follow in
    subst (λ (x : PlainActor). Transacts fs x i span next r b) same (transacts_so fs a span i next n st t w k r b rest comes follows)

pub returns-in-On : goal.returns-in-On
returns-in-On c =
    let x = c.self.inside in
    let k = x.stack in
    let a : PlainActor = record { number = x.number; role = x.role; body = k.body; frames = k.frames; locals = k.locals; place = k.place; values = k.values; printed = x.printed.items; at = x.at; view = x.view; done = x.frame; commuting = x.commuting; accepted = x.accepted; tx = x.tx; pending = x.pending; outcome = x.outcome; steps = x.steps; limit = x.limit; room = k.room } in
    let m = c.transact_rarely-moved in
    made (validators_of c.args.cells.now) c.args.self.now a c.args.instr c.args.span c.args.next c.take-tx.result m.result moved.On m.new.stack m.new.tx c.put.new.self m.new.frame m.new.commuting c.args.turn.now (record (with_stack a c.go_to.new.self) { tx = c.put.new.self; done = m.new.frame; commuting = m.new.commuting })
    c.self.view_is c.take-tx.ensures.taken m.ensures.rest m.ensures.comes c.in-On.is c.put.ensures (c.requires.went, ap (λ (s : PlainStack). record (with_stack a s) { tx = c.put.new.self; done = m.new.frame; commuting = m.new.commuting }) c.go_to.ensures)

pub returns-in-Stays : goal.returns-in-Stays
returns-in-Stays c =
    let x = c.self.inside in
    let k = x.stack in
    let a : PlainActor = record { number = x.number; role = x.role; body = k.body; frames = k.frames; locals = k.locals; place = k.place; values = k.values; printed = x.printed.items; at = x.at; view = x.view; done = x.frame; commuting = x.commuting; accepted = x.accepted; tx = x.tx; pending = x.pending; outcome = x.outcome; steps = x.steps; limit = x.limit; room = k.room } in
    let m = c.transact_rarely-moved in
    made (validators_of c.args.cells.now) c.args.self.now a c.args.instr c.args.span c.args.next c.take-tx.result m.result moved.Stays m.new.stack m.new.tx c.put.new.self m.new.frame m.new.commuting c.args.turn.now (record (with_stack a m.new.stack) { tx = c.put.new.self; done = m.new.frame; commuting = m.new.commuting })
    c.self.view_is c.take-tx.ensures.taken m.ensures.rest m.ensures.comes c.in-Stays.is c.put.ensures (c.requires.went, refl)

pub returns-in-Asks : goal.returns-in-Asks
returns-in-Asks c =
    let x = c.self.inside in
    let k = x.stack in
    let a : PlainActor = record { number = x.number; role = x.role; body = k.body; frames = k.frames; locals = k.locals; place = k.place; values = k.values; printed = x.printed.items; at = x.at; view = x.view; done = x.frame; commuting = x.commuting; accepted = x.accepted; tx = x.tx; pending = x.pending; outcome = x.outcome; steps = x.steps; limit = x.limit; room = k.room } in
    let m = c.transact_rarely-moved in
    made (validators_of c.args.cells.now) c.args.self.now a c.args.instr c.args.span c.args.next c.take-tx.result m.result (moved.Asks c.in-Asks.pending) m.new.stack m.new.tx c.put.new.self m.new.frame m.new.commuting c.ask_wanted.new.turn c.ask_wanted.new.self
    c.self.view_is c.take-tx.ensures.taken m.ensures.rest m.ensures.comes c.in-Asks.is c.put.ensures c.ask_wanted.ensures

pub returns-in-Sends : goal.returns-in-Sends
returns-in-Sends c =
    let x = c.self.inside in
    let k = x.stack in
    let a : PlainActor = record { number = x.number; role = x.role; body = k.body; frames = k.frames; locals = k.locals; place = k.place; values = k.values; printed = x.printed.items; at = x.at; view = x.view; done = x.frame; commuting = x.commuting; accepted = x.accepted; tx = x.tx; pending = x.pending; outcome = x.outcome; steps = x.steps; limit = x.limit; room = k.room } in
    let m = c.transact_rarely-moved in
    made (validators_of c.args.cells.now) c.args.self.now a c.args.instr c.args.span c.args.next c.take-tx.result m.result (moved.Sends c.in-Sends.action c.in-Sends.n) m.new.stack m.new.tx c.put.new.self m.new.frame m.new.commuting c.send_or_hold.new.turn c.send_or_hold.new.self
    c.self.view_is c.take-tx.ensures.taken m.ensures.rest m.ensures.comes c.in-Sends.is c.put.ensures c.send_or_hold.ensures

pub returns-in-Faults : goal.returns-in-Faults
returns-in-Faults c =
    let x = c.self.inside in
    let k = x.stack in
    let a : PlainActor = record { number = x.number; role = x.role; body = k.body; frames = k.frames; locals = k.locals; place = k.place; values = k.values; printed = x.printed.items; at = x.at; view = x.view; done = x.frame; commuting = x.commuting; accepted = x.accepted; tx = x.tx; pending = x.pending; outcome = x.outcome; steps = x.steps; limit = x.limit; room = k.room } in
    let m = c.transact_rarely-moved in
    made (validators_of c.args.cells.now) c.args.self.now a c.args.instr c.args.span c.args.next c.take-tx.result m.result (moved.Faults c.in-Faults.kind) m.new.stack m.new.tx c.put.new.self m.new.frame m.new.commuting c.raise.new.turn c.raise.new.self
    c.self.view_is c.take-tx.ensures.taken m.ensures.rest m.ensures.comes c.in-Faults.is c.put.ensures c.raise.ensures

pub returns-in-Falls : goal.returns-in-Falls
returns-in-Falls c =
    let x = c.self.inside in
    let k = x.stack in
    let a : PlainActor = record { number = x.number; role = x.role; body = k.body; frames = k.frames; locals = k.locals; place = k.place; values = k.values; printed = x.printed.items; at = x.at; view = x.view; done = x.frame; commuting = x.commuting; accepted = x.accepted; tx = x.tx; pending = x.pending; outcome = x.outcome; steps = x.steps; limit = x.limit; room = k.room } in
    let m = c.transact_rarely-moved in
    made (validators_of c.args.cells.now) c.args.self.now a c.args.instr c.args.span c.args.next c.take-tx.result m.result (moved.Falls c.in-Falls.fault) m.new.stack m.new.tx c.put.new.self m.new.frame m.new.commuting c.raise-in-Falls.new.turn c.raise-in-Falls.new.self
    c.self.view_is c.take-tx.ensures.taken m.ensures.rest m.ensures.comes c.in-Falls.is c.put.ensures c.raise-in-Falls.ensures

pub returns-in-Memory : goal.returns-in-Memory
returns-in-Memory c =
    let x = c.self.inside in
    let k = x.stack in
    let a : PlainActor = record { number = x.number; role = x.role; body = k.body; frames = k.frames; locals = k.locals; place = k.place; values = k.values; printed = x.printed.items; at = x.at; view = x.view; done = x.frame; commuting = x.commuting; accepted = x.accepted; tx = x.tx; pending = x.pending; outcome = x.outcome; steps = x.steps; limit = x.limit; room = k.room } in
    let m = c.transact_rarely-moved in
    made (validators_of c.args.cells.now) c.args.self.now a c.args.instr c.args.span c.args.next c.take-tx.result m.result moved.Memory m.new.stack m.new.tx c.put.new.self m.new.frame m.new.commuting c.end.new.turn c.end.new.self
    c.self.view_is c.take-tx.ensures.taken m.ensures.rest m.ensures.comes c.in-Memory.is c.put.ensures (c.end.ensures.answer, c.end.ensures.ended)
