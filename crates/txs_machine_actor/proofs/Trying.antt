-- Transactions that are tried again, or were tried for the last time.
use Rattle.std.proofs.Common.{◌≡◌, ℕ, suc, Option, sym, ap, ◌∙◌}
use Rattle.txs_value_data.specs.Places.{fault_at}
use Rattle.txs_value_data.specs.declared.fault.Fault.{Fault}
use Rattle.txs_value_data.specs.declared.fault.FaultKind.TheVariants.{RetryLimit}
use Rattle.txs_value_data.specs.declared.fault.Span.{Span}
use Rattle.txs_machine_transaction.specs.Transaction.{IsSwapping}
use Rattle.txs_machine_transaction.specs.declared.state.Pending.{Pending}
use Rattle.txs_machine_transaction.specs.declared.state.Savepoint.{Savepoint}
use Rattle.txs_machine_transaction.specs.declared.state.Transaction.{Transaction}
use Rattle.txs_machine_transaction.specs.declared.state.Transaction.TheVariants.{Outside, Restarting, Running, Applying, Evaluating, Swapping, Judging, Weighing}
use Rattle.txs_machine_actor.specs.PlainActor.{PlainActor, fails_as, begins_again, ends_again, run_again, end_again}
use Rattle.txs_machine_actor.specs.Turns.{IsLastTry, IsNextTry, IsNoTry}

-- the last try faults
pub last_fails : (a b : PlainActor) (x : Transaction) (span : Span) → IsLastTry x span → b ≡ fails_as a (fault_at RetryLimit span) a.role → IsNoTry a x b
last_fails a b Outside span h e = absurd h
last_fails a b (Restarting left) span h e = absurd h
last_fails a b (Running left inner from) span h e = (h.0, e ∙ ap (λ (s : Span). fails_as a (fault_at RetryLimit s) a.role) (sym h.1))
last_fails a b (Applying left from phase) span h e = (h.0, e ∙ ap (λ (s : Span). fails_as a (fault_at RetryLimit s) a.role) (sym h.1))
last_fails a b (Evaluating left from phase aside) span h e = absurd h
last_fails a b (Swapping c p from) span h e = absurd h
last_fails a b (Judging aside) span h e = absurd h
last_fails a b (Weighing c p from aside) span h e = absurd h

-- it begins again, with a try less
pub run_next : (a : PlainActor) (x : Transaction) (n : ℕ) (o : Savepoint) → IsNextTry x n o → begins_again a (suc n) o ≡ run_again a x
run_next a Outside n o h = absurd h
run_next a (Restarting left) n o h = absurd h
run_next a (Running left inner from) n o h = ap (begins_again a (suc n)) (sym h.1) ∙ ap (λ k. begins_again a k from) (sym h.0)
run_next a (Applying left from phase) n o h = ap (begins_again a (suc n)) (sym h.1) ∙ ap (λ k. begins_again a k from) (sym h.0)
run_next a (Evaluating left from phase aside) n o h = absurd h
run_next a (Swapping c p from) n o h = absurd h
run_next a (Judging aside) n o h = absurd h
run_next a (Weighing c p from aside) n o h = absurd h

pub run_last : (a b : PlainActor) (x : Transaction) → IsNoTry a x b → b ≡ run_again a x
run_last a b Outside h = h
run_last a b (Restarting left) h = h
run_last a b (Running left inner from) h = h.1 ∙ ap (λ k. begins_again a k from) (sym h.0)
run_last a b (Applying left from phase) h = h.1 ∙ ap (λ k. begins_again a k from) (sym h.0)
run_last a b (Evaluating left from phase aside) h = h
run_last a b (Swapping c p from) h = h
run_last a b (Judging aside) h = h
run_last a b (Weighing c p from aside) h = h

-- it ends again, with a try less
pub end_next : (a : PlainActor) (x : Transaction) (n : ℕ) (o : Savepoint) → IsNextTry x n o → ends_again a (suc n) o ≡ end_again a x
end_next a Outside n o h = absurd h
end_next a (Restarting left) n o h = absurd h
end_next a (Running left inner from) n o h = ap (ends_again a (suc n)) (sym h.1) ∙ ap (λ k. ends_again a k from) (sym h.0)
end_next a (Applying left from phase) n o h = ap (ends_again a (suc n)) (sym h.1) ∙ ap (λ k. ends_again a k from) (sym h.0)
end_next a (Evaluating left from phase aside) n o h = absurd h
end_next a (Swapping c p from) n o h = absurd h
end_next a (Judging aside) n o h = absurd h
end_next a (Weighing c p from aside) n o h = absurd h

pub end_last : (a b : PlainActor) (x : Transaction) → (IsSwapping x → ⊥) → IsNoTry a x b → b ≡ end_again a x
end_last a b Outside un h = h
end_last a b (Restarting left) un h = h
end_last a b (Running left inner from) un h = h.1 ∙ ap (λ k. ends_again a k from) (sym h.0)
end_last a b (Applying left from phase) un h = h.1 ∙ ap (λ k. ends_again a k from) (sym h.0)
end_last a b (Evaluating left from phase aside) un h = h
end_last a b (Swapping c p from) un h = absurd (un tt)
end_last a b (Judging aside) un h = h
end_last a b (Weighing c p from aside) un h = h

-- a fault of the whole transaction, which was taken out and put back
pub failed_in : (x a b : PlainActor) (t u : Transaction) (f : Fault) → x ≡ a → u ≡ t → ((o : Option Pending) → b ≡ fails_as (record x { tx = u; pending = o }) f x.role) → (o : Option Pending) → b ≡ fails_as (record a { tx = t; pending = o }) f a.role
failed_in x a b t u f same put h o =
    h o ∙ ap (λ (y : Transaction). fails_as (record x { tx = y; pending = o }) f x.role) put ∙ ap (λ (z : PlainActor). fails_as (record z { tx = t; pending = o }) f z.role) same
