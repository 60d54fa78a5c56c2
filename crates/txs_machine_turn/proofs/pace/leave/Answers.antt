use Rattle.std.proofs.Common.{◌≡◌, ◌<◌, ◌∙◌, ℕ, List, length, refl, ap, sym, subst, arith}
use Rattle.txs_code_meaning.specs.PlainCode.{PlainCode}
use Rattle.txs_code_meaning.specs.declared.instr.Instr.{Instr}
use Rattle.txs_code_meaning.specs.declared.instr.Instr.TheVariants.{Const, Local, Store, Pop, Jump, JumpFalse, Core, Call, Return, Vector, Print, Look, Put, TxBegin, TxEnd, Open, Close, Send, Halt}
use Rattle.txs_value_data.specs.declared.fault.Span.{Span}
use Rattle.txs_value_cell.specs.Cells.{validators_of}
use Rattle.txs_machine_actor.specs.PlainActor.{PlainActor}
use Rattle.txs_machine_stack.specs.PlainFrame.{PlainFrame, PlainStack}
use Rattle.txs_machine_actor.specs.Turns.{CanLeave, CanTransact, CanCheck, write_check, WritesValue, Leaves}
use Rattle.txs_machine_actor.specs.declared.outcome.Turn.{Turn}
use Rattle.txs_machine_turn.proofs.pace.leave.Goals as goal

-- an instruction that is no call, no return and no end of a transaction is one on cells or the transaction
on_cells : (d : PlainCode) (a : PlainActor) (i : Instr) (span : Span) (next : ℕ) (r : Turn) (c : PlainActor) → ((f : ℕ) → i ≡ Call f → ⊥) → (i ≡ Return → ⊥) → (i ≡ TxEnd → ⊥) → WritesValue d a i span next r c → Leaves d a i span next r c
on_cells d a (Call f) span next r c call return end h = absurd (call f refl)
on_cells d a Return span next r c call return end h = absurd (return refl)
on_cells d a TxEnd span next r c call return end h = absurd (end refl)
on_cells d a (Const k) span next r c call return end h = h
on_cells d a (Local i) span next r c call return end h = h
on_cells d a (Store i) span next r c call return end h = h
on_cells d a Pop span next r c call return end h = h
on_cells d a (Jump to) span next r c call return end h = h
on_cells d a (JumpFalse to) span next r c call return end h = h
on_cells d a (Core op n) span next r c call return end h = h
on_cells d a (Vector n) span next r c call return end h = h
on_cells d a (Print n) span next r c call return end h = h
on_cells d a (Look form) span next r c call return end h = h
on_cells d a (Put form) span next r c call return end h = h
on_cells d a TxBegin span next r c call return end h = h
on_cells d a (Open by n) span next r c call return end h = h
on_cells d a (Close by) span next r c call return end h = h
on_cells d a (Send callee n) span next r c call return end h = h
on_cells d a Halt span next r c call return end h = h

-- it finds what it needs, and what a validator has to look at can be
abbrev Writable : PlainCode → PlainActor → Instr → Type 0
Writable d a i = CanTransact a i × ((span : Span) → CanCheck d (write_check (validators_of d.cells) a i span))

can_write : (d : PlainCode) (a : PlainActor) (i : Instr) → ((f : ℕ) → i ≡ Call f → ⊥) → (i ≡ Return → ⊥) → (i ≡ TxEnd → ⊥) → CanLeave d a i → Writable d a i
can_write d a (Call f) call return end h = absurd (call f refl)
can_write d a Return call return end h = absurd (return refl)
can_write d a TxEnd call return end h = absurd (end refl)
can_write d a (Const k) call return end h = h
can_write d a (Local i) call return end h = h
can_write d a (Store i) call return end h = h
can_write d a Pop call return end h = h
can_write d a (Jump to) call return end h = h
can_write d a (JumpFalse to) call return end h = h
can_write d a (Core op n) call return end h = h
can_write d a (Vector n) call return end h = h
can_write d a (Print n) call return end h = h
can_write d a (Look form) call return end h = h
can_write d a (Put form) call return end h = h
can_write d a TxBegin call return end h = h
can_write d a (Open by n) call return end h = h
can_write d a (Close by) call return end h = h
can_write d a (Send callee n) call return end h = h
can_write d a Halt call return end h = h

pub write_valid-requires-clause-can : goal.write_valid-requires-clause-can
write_valid-requires-clause-can c = (can_write c.args.code.now c.args.actor.now c.args.instr c.in_default.not-Call c.in_default.not-Return c.in_default.not-TxEnd c.requires.can).0

pub write_valid-requires-clause-check : goal.write_valid-requires-clause-check
write_valid-requires-clause-check c = (can_write c.args.code.now c.args.actor.now c.args.instr c.in_default.not-Call c.in_default.not-Return c.in_default.not-TxEnd c.requires.can).1 c.args.span

pub returns-in_default : goal.returns-in_default
returns-in_default c =
    on_cells c.args.code.now c.args.actor.now c.args.instr c.args.span c.args.next c.write_valid.new.turn c.write_valid.new.actor c.in_default.not-Call c.in_default.not-Return c.in_default.not-TxEnd
    c.write_valid.ensures

pub hand_in-requires-clause-value : goal.hand_in-requires-clause-value
hand_in-requires-clause-value c =
    let can = subst (λ (i : Instr). CanLeave c.args.code.now c.args.actor.now i) c.in-Return.is c.requires.can in
    (can.first (ap (λ (s : PlainStack). s.frames) (sym c.stack.ensures) ∙ c.is_first.ensures.first c.if-is_first.true)).0

pub hand_in-requires-clause-evaluating : goal.hand_in-requires-clause-evaluating
hand_in-requires-clause-evaluating c =
    let can = subst (λ (i : Instr). CanLeave c.args.code.now c.args.actor.now i) c.in-Return.is c.requires.can in
    (can.first (ap (λ (s : PlainStack). s.frames) (sym c.stack.ensures) ∙ c.is_first.ensures.first c.if-is_first.true)).1

pub returns-then-is_first : goal.returns-then-is_first
returns-then-is_first c =
    subst (λ (i : Instr). Leaves c.args.code.now c.args.actor.now i c.args.span c.args.next c.args.turn.now c.hand_in.new.self) (sym c.in-Return.is) (
      c.requires.went,
      record {
        first = λ e. c.hand_in.ensures;
        called = λ lt.
            let none = subst (λ (fs : List PlainFrame). 0 < length fs) (ap (λ (s : PlainStack). s.frames) (sym c.stack.ensures) ∙ c.is_first.ensures.first c.if-is_first.true) lt in
            absurd (omega (arith, none));
      },
    )

pub give_back-requires : goal.give_back-requires
give_back-requires c =
    let can = subst (λ (i : Instr). CanLeave c.args.code.now c.args.actor.now i) c.in-Return.is c.requires.can in
    can.called (subst (λ (s : PlainStack). 0 < length s.frames) c.stack.ensures (c.is_first.ensures.called c.if-is_first.false))

pub returns-else-is_first : goal.returns-else-is_first
returns-else-is_first c =
    subst (λ (i : Instr). Leaves c.args.code.now c.args.actor.now i c.args.span c.args.next c.args.turn.now c.give_back.new.self) (sym c.in-Return.is) (
      c.requires.went,
      record {
        first = λ e.
            let some = subst (λ (fs : List PlainFrame). 0 < length fs) e (subst (λ (s : PlainStack). 0 < length s.frames) c.stack.ensures (c.is_first.ensures.called c.if-is_first.false)) in
            absurd (omega (arith, some));
        called = λ lt. c.give_back.ensures;
      },
    )
