-- What the parts of an evaluation answer, and what a transaction has done.
use Rattle.std.specs.Prelude.{◌≡◌, ◌<◌, ◌||◌, ℕ, zero, suc, Bool, true, false, List, [], ◌∷◌, Option, Result, Ok, Err, ⊤}
use Rattle.txs_frame.specs.Frame.{PlainTxFrame, set_ref, commute_ref}
use Rattle.txs_tree_meaning.specs.Meaning.{Completion, Completes, Faults, Waits, OutOfTurns, Invalid}
use Rattle.txs_tree_meaning.specs.Transaction.{TxState, done_as, looked, taken_lacking}
use Rattle.txs_tree_meaning.specs.Tree.{Mark}
use Rattle.txs_value_cell.specs.Cells.{World}
use Rattle.txs_value_cell.specs.declared.form.UpdateForm.{UpdateForm}
use Rattle.txs_value_cell.specs.declared.form.UpdateForm.TheVariants.{Alter, Commute, Swap}
use Rattle.txs_value_data.specs.declared.op.Callee.{Callee}
use Rattle.txs_tree_eval_transaction.specs.declared.work.TxWork.{TxWork}
use Rattle.txs_tree_eval_transaction.specs.declared.stop.ThreadStop.{ThreadStop}
use Rattle.txs_tree_eval_transaction.specs.declared.stop.ThreadStop.TheVariants.{Fault, Event as NoEvent, Wrong as OtherEvent, Turns as NoTurns, Memory}
use Rattle.txs_value_data.specs.declared.value.CellId.{CellId}
use Rattle.txs_value_data.specs.declared.value.CellKind.TheVariants.{Ref}
use Rattle.txs_value_data.specs.declared.value.Value.{Value}

-- what a transaction has done
abbrev pub tx_state : TxWork → TxState
tx_state x = record { done = x.done; reads = x.reads.items; used = x.used }

-- with other work
abbrev pub with_work : PlainTxFrame → TxState → TxState
with_work w t = record t { done = w }

-- with other work, and a result of a commute used or not
abbrev pub with_use : Bool → PlainTxFrame → TxState → TxState
with_use used w t = record t { done = w; used = used }

-- A stop is that of the meaning, with the state that it leaves, or there was no memory. In a transaction that lacks no value nothing is
-- waited for, and nothing can be wrong. In another one a value is waited for; outside, a thread waits for an event, or before one that
-- isn't its own. The truth value says that it is the first of these.
abbrev pub Stops : {S A : Type 0} → Bool → ThreadStop → S → Completion S A → Type 0
Stops all (Fault f) s c = c ≡ Faults f s
Stops all NoEvent s c = (all ≡ false) × (c ≡ Waits s)
Stops all OtherEvent s c = (all ≡ false) × (c ≡ Waits s)
Stops all NoTurns s c = c ≡ OutOfTurns s
Stops all Memory s c = ⊤

-- the items that were asked for, with the state that is left, are those of the meaning, or it stops so
abbrev pub GivesOf : {S V A : Type 0} → (V → A) → Bool → Result V ThreadStop → S → Completion S A → Type 0
GivesOf f all (Ok v) s c = c ≡ Completes (f v) s
GivesOf f all (Err y) s c = Stops all y s c

-- the value and the state that is left are those of the meaning, or it stops so
abbrev pub Gives : {S A : Type 0} → Bool → Result A ThreadStop → S → Completion S A → Type 0
Gives all r s c = GivesOf (λ v. v) all r s c

-- the same where there is no state
abbrev pub Told : {A : Type 0} → Result A ThreadStop → Completion (Unit {0}) A → Type 0
Told r c = Gives true r tt c

-- the same of parts of what was given
abbrev pub ToldOf : {V A : Type 0} → (V → A) → Result V ThreadStop → Completion (Unit {0}) A → Type 0
ToldOf f r c = GivesOf f true r tt c

-- where no fault may come, one is wrong
abbrev pub stop_without_fault : ThreadStop → ThreadStop
stop_without_fault (Fault f) = OtherEvent
stop_without_fault NoEvent = NoEvent
stop_without_fault OtherEvent = OtherEvent
stop_without_fault NoTurns = NoTurns
stop_without_fault Memory = Memory

-- where the item with this number is among ascending ones, or where it would be
abbrev pub Finds : {X : Type 0} → (X → ℕ) → List X → ℕ → Result ℕ ℕ → Type 0
Finds n [] k (Ok i) = ⊥
Finds n [] k (Err i) = i ≡ 0
Finds n (x ∷ xs) k (Ok zero) = n x ≡ k
Finds n (x ∷ xs) k (Ok (suc i)) = (n x < k) × Finds n xs k (Ok i)
Finds n (x ∷ xs) k (Err zero) = k < n x
Finds n (x ∷ xs) k (Err (suc i)) = (n x < k) × Finds n xs k (Err i)

-- what is done with the first of the values; there is one
abbrev pub of_one : {S : Type 0} → (Value → Completion S Value) → List Value → Completion S Value
of_one go [] = Invalid
of_one go (v ∷ vs) = go v

-- a ref
abbrev pub RefCell : CellId → Type 0
RefCell c = c.kind ≡ Ref

-- ---- forms that update refs

-- a form that may be in a transaction
abbrev pub UpdatesRef : UpdateForm → Type 0
UpdatesRef Alter = Unit {0}
UpdatesRef Commute = Unit {0}
UpdatesRef Swap = ⊥

-- the value that it updates, on a world that may lack the value of a ref
abbrev pub update_begins : Option ℕ → World → UpdateForm → CellId → TxState → Completion TxState Value
update_begins lack R Alter c t = taken_lacking lack R c t
update_begins lack R Commute c t = looked lack R c t
update_begins lack R Swap c t = Invalid

-- what it does with the value that its callee made
abbrev pub update_ends : UpdateForm → Mark → CellId → Callee → List Value → Value → TxState → Completion TxState Value
update_ends Alter m c callee vs w t = done_as (set_ref c w t.done) m.span w t
update_ends Commute m c callee vs w t = Completes w (with_use (t.used || m.wanted) (commute_ref c callee vs w t.done) t)
update_ends Swap m c callee vs w t = Invalid
