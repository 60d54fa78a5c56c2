-- What a transaction's body means on one world of refs, and what it writes at its commit.
use Rattle.std.specs.Prelude.{ℕ, Bool, true, false, List, [], ◌∷◌, ◌||◌, ◌==◌, map, Option, Some, None, Result, if◌then◌else◌}
use Rattle.txs_world_protocol.specs.Ask.{Writes, buffered, with_write}
use Rattle.txs_frame.specs.Frame.{PlainTxFrame, empty_frame, with_cell, has_number, commuted, set_ref, ensure_ref, commute_ref, hold_send, set_writes, phase_work}
use Rattle.txs_frame.specs.declared.frame.Commute.{Commute}
use Rattle.txs_tree_meaning.specs.Meaning.{Completion, Completes, Faults, Waits, Invalid, bind, closed, result_of, Applies, Effects, eval, call_at}
use Rattle.txs_tree_meaning.specs.Tree.{Mark, Tree, PlainFunction}
use Rattle.txs_value_cell.specs.Cells.{World, Validators, validator_at}
use Rattle.txs_value_cell.specs.Forms.{rule, cell_of}
use Rattle.txs_value_data.specs.declared.fault.FaultKind.{FaultKind}
use Rattle.txs_value_data.specs.declared.fault.Span.{Span}
use Rattle.txs_value_cell.specs.declared.form.CellForm.{CellForm}
use Rattle.txs_value_cell.specs.declared.form.CellForm.TheVariants as form_of
use Rattle.txs_value_cell.specs.declared.form.LookForm.{LookForm}
use Rattle.txs_value_cell.specs.declared.form.LookForm.TheVariants.{Deref, Ensure}
use Rattle.txs_value_cell.specs.declared.form.PutForm.{PutForm}
use Rattle.txs_value_cell.specs.declared.form.PutForm.TheVariants.{RefSet, Reset}
use Rattle.txs_value_cell.specs.declared.form.UpdateForm.{UpdateForm}
use Rattle.txs_value_cell.specs.declared.form.UpdateForm.TheVariants.{Alter, Commute as CommuteForm, Swap}
use Rattle.txs_value_data.specs.declared.op.Callee.{Callee}
use Rattle.txs_value_data.specs.declared.value.CellId.{CellId}
use Rattle.txs_value_data.specs.declared.value.Value.{Value}
use Rattle.txs_value_data.specs.declared.value.Value.TheVariants.{Nil}
use Rattle.txs_value_apply.specs.Truth.{choose}
use Rattle.txs_value_data.specs.Places.{fault_at}
use Rattle.txs_value_data.specs.declared.fault.FaultKind.TheVariants.{InvalidState}

-- what a transaction has done so far, the refs that it read of the world, and whether the result of a commute was used
pub record TxState : Type 0 where
  pub done : PlainTxFrame
  pub reads : List CellId
  pub used : Bool

-- the value that is there, else another one
abbrev pub value_or : Option Value → Value → Value
value_or None v = v
value_or (Some w) v = w

-- the transaction's own value of the ref with this number, if it set or commuted it
abbrev pub own : PlainTxFrame → ℕ → Option Value
own w k = buffered w.values k

-- a ref's value: the transaction's own, else the world's, which is that of its start (Clojure's reference on refs and transactions)
abbrev pub current : World → PlainTxFrame → CellId → Value
current R w c = value_or (own w c.number) (R c.number)

-- a read of a ref that the transaction has no value of joins its reads; one of a ref that was commuted and not set is a use
abbrev pub noted : CellId → Option Value → TxState → TxState
noted c None t = record t { reads = with_cell t.reads c }
noted c (Some v) t = record t { used = t.used || has_number (commuted t.done) c.number }

-- whether a look at a ref finds no value: the world lacks that of the ref with this number, and the transaction has none of its own
abbrev pub lacks : Option ℕ → Option Value → ℕ → Bool
lacks None o n = false
lacks (Some k) None n = n == k
lacks (Some k) (Some v) n = false

-- a look at a ref, on a world that may lack the value of one: it waits where there is none
abbrev pub looked : Option ℕ → World → CellId → TxState → Completion TxState Value
looked u R c t = if lacks u (own t.done c.number) c.number then Waits t else Completes (current R t.done c) t

-- a read of a ref, on such a world
abbrev pub taken_lacking : Option ℕ → World → CellId → TxState → Completion TxState Value
taken_lacking u R c t = bind (looked u R c t) (λ v t1. Completes v (noted c (own t1.done c.number) t1))

-- a read of a ref
abbrev pub taken : World → CellId → TxState → Completion TxState Value
taken R = taken_lacking None R

-- the transaction has done this, or the form faults
abbrev pub done_as : Result PlainTxFrame FaultKind → Span → Value → TxState → Completion TxState Value
done_as r span v t = bind (result_of r span t) (λ w t1. Completes v (record t1 { done = w }))

-- a form on a cell that it takes; else it faults
abbrev pub on_cell : {S : Type 0} → CellForm → Bool → Span → Value → (CellId → S → Completion S Value) → S → Completion S Value
on_cell form inside span v go s = bind (result_of (cell_of (rule form) inside v) span s) go

-- the forms that read, in a transaction on a world that may lack the value of a ref
abbrev pub tx_look_lacking : Option ℕ → World → LookForm → CellId → TxState → Completion TxState Value
-- a read gives the value
tx_look_lacking u R Deref c t = taken_lacking u R c t
-- and keeps the ref from change by others (Clojure's docstring of `ensure`)
tx_look_lacking u R Ensure c t = bind (taken_lacking u R c t) (λ v t1. Completes v (record t1 { done = ensure_ref c t1.done }))

-- the same on a world that lacks none
abbrev pub tx_look : World → LookForm → CellId → TxState → Completion TxState Value
tx_look R = tx_look_lacking None R

-- the forms that put, in a transaction
abbrev pub tx_put : PutForm → Span → CellId → Value → TxState → Completion TxState Value
-- the ref is set without a read
tx_put RefSet span c v t = done_as (set_ref c v t.done) span v t
tx_put Reset span c v t = Invalid

-- the forms that update, in a transaction on a world that may lack the value of a ref
abbrev pub tx_update_lacking : Option ℕ → World → UpdateForm → Mark → CellId → Callee → List Value → Applies TxState → TxState → Completion TxState Value
-- the value is read, the callee applied, and then the ref is set
tx_update_lacking u R Alter m c callee vs f t =
    bind (taken_lacking u R c t) (λ v t1. bind (f callee (v ∷ vs) t1) (λ w t2. done_as (set_ref c w t2.done) m.span w t2))
-- the callee is applied to the value, and the commute is kept; a wanted result is a use (Clojure's docstring of `commute`)
tx_update_lacking u R CommuteForm m c callee vs f t =
    bind (looked u R c t) (λ v t1. bind (f callee (v ∷ vs) t1) (λ w t2. Completes w (record t2 { done = commute_ref c callee vs w t2.done; used = t2.used || m.wanted })))
tx_update_lacking u R Swap m c callee vs f t = Invalid

-- the same on a world that lacks none
abbrev pub tx_update : World → UpdateForm → Mark → CellId → Callee → List Value → Applies TxState → TxState → Completion TxState Value
tx_update R = tx_update_lacking None R

-- The forms in a transaction, on one world. It may lack the value of the ref with a number, which is no longer kept: a look at it waits.
abbrev pub in_transaction_lacking : Option ℕ → World → Effects TxState
in_transaction_lacking u R = record {
  print = λ inside vs t. Invalid;
  look = λ form inside m v t. on_cell (form_of.Look form) true m.span v (tx_look_lacking u R form) t;
  put = λ form inside m v w f t. on_cell (form_of.Put form) true m.span v (λ c t1. tx_put form m.span c w t1) t;
  update = λ form inside m v callee vs f t. on_cell (form_of.Update form) true m.span v (λ c t1. tx_update_lacking u R form m c callee vs f t1) t;
  send = λ inside m v callee vs t.
      on_cell form_of.Send true m.span v (λ c t1. Completes v (record t1 { done = hold_send (record { agent = c; callee = callee; args = vs; span = m.span }) t1.done })) t;
  dosync = λ inside m node env body f t. body t;
}

-- the same on a world that lacks none
abbrev pub in_transaction : World → Effects TxState
in_transaction R = in_transaction_lacking None R

-- before a transaction's body
abbrev pub tx_start : TxState
tx_start = record { done = empty_frame; reads = []; used = false }

-- the body of a dosync, with its locals, on a world that may lack the value of a ref: there it waits where it comes to look at that ref
abbrev pub tx_meaning_lacking : ℕ → List PlainFunction → ℕ → Tree → List Value → Option ℕ → World → Completion TxState Value
tx_meaning_lacking n functions d node env u R =
    closed (eval (in_transaction_lacking u R) (call_at (λ e. in_transaction_lacking u R) n functions d) n true node env tx_start)

-- the transaction meaning: the body of a dosync, with its locals, on one world, as if it ran alone (Clojure's reference on refs and transactions)
abbrev pub tx_meaning : ℕ → List PlainFunction → ℕ → Tree → List Value → World → Completion TxState Value
tx_meaning n functions d node env R = tx_meaning_lacking n functions d node env None R

-- ---- at the commit

-- cells with their values of a world
abbrev pub valued : List CellId → World → Writes
valued cs C = map (λ c. (c, C c.number)) cs

-- two lists of values as one, ascending
abbrev pub merged : Writes → Writes → Writes
merged ws [] = ws
merged ws (x ∷ xs) = merged (with_write ws x.0 x.1) xs

-- each commute in turn makes its ref's value anew
abbrev pub redone : {S : Type 0} → Applies S → List Commute → Writes → S → Completion S Writes
redone f [] ws s = Completes ws s
redone f (c ∷ cs) ws s =
    bind (f c.callee (value_or (buffered ws c.cell.number) Nil ∷ c.args) s) (λ v s1. redone f cs (with_write ws c.cell v) s1)

-- the commutes of the refs that weren't set, ref by ref in ascending number, on the values of a world
abbrev pub commute_writes : {S : Type 0} → Applies S → PlainTxFrame → World → S → Completion S Writes
commute_writes f w C s = redone f (phase_work w) (valued (commuted w) C) s

-- ---- validators

-- a value that a validator gave this answer for: nil or false refuses it (Clojure's docstring of `set-validator!`)
abbrev pub judged : {S : Type 0} → Value → Span → Value → S → Completion S Value
judged answer span v s = choose answer (Completes v s) (Faults (fault_at InvalidState span) s)

-- a value that a cell is to get, where its validator accepts it; without a validator any is accepted
abbrev pub validated : {S : Type 0} → Applies S → Option Callee → Span → Value → S → Completion S Value
validated f None span v s = Completes v s
validated f (Some callee) span v s = bind (f callee (v ∷ []) s) (λ answer s1. judged answer span v s1)

-- each of these writes is accepted, one after the other
abbrev pub accepted : {S : Type 0} → Applies S → Validators → Span → Writes → S → Completion S (Unit {0})
accepted f vs span [] s = Completes tt s
accepted f vs span (w ∷ ws) s = bind (validated f (validator_at vs w.0.number) span w.1 s) (λ v s1. accepted f vs span ws s1)

-- these writes, where each is accepted
abbrev pub if_accepted : {S : Type 0} → Applies S → Validators → Span → Writes → S → Completion S Writes
if_accepted f vs span ws s = bind (accepted f vs span ws s) (λ u s1. Completes ws s1)

-- The final writes: each ref that was set has its value, each other commuted ref what its commutes make of the world; and then each
-- is accepted by its ref's validator, in ascending number.
abbrev pub final_writes : {S : Type 0} → Applies S → Validators → Span → PlainTxFrame → World → S → Completion S Writes
final_writes f vs span w C s = bind (commute_writes f w C s) (λ ws s1. if_accepted f vs span (merged (set_writes w) ws) s1)
