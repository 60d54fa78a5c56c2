-- The next task of a transaction's end, where it is a commute of an operation, or none is left.
use Rattle.std.proofs.Common.{◌≡◌, ℕ, ◌<◌, true, List, [], ◌∷◌, length, Option, Some, None, Ok, Err, refl, ap, ◌∙◌, subst, arith}
use Rattle.txs_world_protocol.specs.Ask.{Writes}
use Rattle.txs_frame.specs.Frame.{PlainTxFrame}
use Rattle.txs_frame.specs.Phase.{given, next_arguments, next_callee}
use Rattle.txs_frame.specs.declared.frame.Commute.{Commute}
use Rattle.txs_frame.specs.declared.phase.Task.{Task}
use Rattle.txs_frame.specs.declared.phase.Task.TheVariants.{Redoes, Validates}
use Rattle.txs_value_apply.specs.Core.{core, takes}
use Rattle.txs_value_data.specs.Places.{fault_at}
use Rattle.txs_value_data.specs.declared.fault.FaultKind.{FaultKind}
use Rattle.txs_value_data.specs.declared.op.Callee.{Callee}
use Rattle.txs_value_data.specs.declared.op.Callee.TheVariants as callee
use Rattle.txs_value_data.specs.declared.op.Op.{Op}
use Rattle.txs_value_data.specs.declared.value.Value.{Value}
use Rattle.txs_machine_transaction.specs.Effect.{IsOperation, Operates, applies, applies_as, applying, falls, goes_through, stays, waits}
use Rattle.txs_machine_transaction.specs.declared.state.Pending.TheVariants as pending
use Rattle.txs_machine_transaction.specs.declared.state.Savepoint.{Savepoint}

some : {A : Type 0} {x y : A} → Some x ≡ Some y → x ≡ y
some e = cc

-- one is left
pub next_left : (xs : List Task) (f : Callee) → next_callee xs ≡ Some f → 0 < length xs
next_left [] f e = cc
next_left (x ∷ xs) f e = omega arith

-- its operation takes what it is called on
pub next_takes : (op : Op) (xs : List Task) (ws : Writes) (w : PlainTxFrame) → Operates xs → next_callee xs ≡ Some (callee.Core op) → takes op (length (next_arguments xs ws w)) ≡ true
next_takes op [] ws w all e = cc
next_takes op (Redoes k ∷ xs) ws w all e = subst (λ (f : Callee). IsOperation f (length k.args)) (some e) all
next_takes op (Validates c f ∷ xs) ws w all e = absurd all

-- it is that of no function
pub next_operates : (xs : List Task) (f : ℕ) → Operates xs → next_callee xs ≡ Some (callee.Function f) → ⊥
next_operates [] f all e = cc
next_operates (Redoes k ∷ xs) f all e = subst (λ (g : Callee). IsOperation g (length k.args)) (some e) all
next_operates (Validates c g ∷ xs) f all e = absurd all

-- where none is left the transaction commits
pub none_left : (left : ℕ) (from : Savepoint) (vs : List Value) (w : PlainTxFrame) (k : Option Commute) (xs : List Task) (ws : Writes) → next_callee xs ≡ None → goes_through left from vs w k xs ws ≡ waits pending.Commit vs (applying left from xs ws) w k
none_left left from vs w k [] ws e = refl
none_left left from vs w k (x ∷ xs) ws e = cc

-- an operation gave a value
pub task_applied : (op : Op) (left : ℕ) (from : Savepoint) (vs : List Value) (w : PlainTxFrame) (k : Option Commute) (xs : List Task) (ws : Writes) (v : Value) → Operates xs → next_callee xs ≡ Some (callee.Core op) → core op (next_arguments xs ws w) ≡ Ok v
    → goes_through left from vs w k xs ws ≡ stays vs (applying left from (given xs ws v).work (given xs ws v).values) w k
task_applied op left from vs w k [] ws v all e a = cc
task_applied op left from vs w k (Redoes c ∷ xs) ws v all e a = ap (λ f. applies f left from vs w k c xs ws) (some e) ∙ ap (applies_as left from vs w k c xs ws) a
task_applied op left from vs w k (Validates c f ∷ xs) ws v all e a = absurd all

-- it has faulted
pub task_faults : (op : Op) (left : ℕ) (from : Savepoint) (vs : List Value) (w : PlainTxFrame) (k : Option Commute) (xs : List Task) (ws : Writes) (x : FaultKind) → Operates xs → next_callee xs ≡ Some (callee.Core op) → core op (next_arguments xs ws w) ≡ Err x
    → goes_through left from vs w k xs ws ≡ falls (fault_at x from.span) (applying left from xs ws) w k
task_faults op left from vs w k [] ws x all e a = cc
task_faults op left from vs w k (Redoes c ∷ xs) ws x all e a = ap (λ f. applies f left from vs w k c xs ws) (some e) ∙ ap (applies_as left from vs w k c xs ws) a
task_faults op left from vs w k (Validates c f ∷ xs) ws x all e a = absurd all
