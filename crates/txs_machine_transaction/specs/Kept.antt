-- What an actor keeps of its transaction and of its unanswered ask, in part in places that are overwritten, put together again.
use Rattle.std.specs.Prelude.{◌≡◌, ℕ, suc, ◌+◌, Option, Some, None}
use Rattle.txs_value_data.specs.Limits.{reruns}
use Rattle.txs_value_data.specs.declared.value.Value.{Value}
use Rattle.txs_machine_transaction.specs.declared.kept.Ending.{Ending}
use Rattle.txs_machine_transaction.specs.declared.kept.Ending.TheVariants as ending
use Rattle.txs_machine_transaction.specs.declared.kept.Standing.{Standing}
use Rattle.txs_machine_transaction.specs.declared.kept.Wanted.{Wanted}
use Rattle.txs_machine_transaction.specs.declared.kept.Wanted.TheVariants as wanted
use Rattle.txs_machine_transaction.specs.declared.state.Savepoint.{Savepoint}
use Rattle.txs_machine_transaction.specs.declared.state.Pending.{Pending}
use Rattle.txs_machine_transaction.specs.declared.state.Pending.TheVariants as pending
use Rattle.txs_machine_transaction.specs.declared.state.Transaction.{Transaction}
use Rattle.txs_machine_transaction.specs.declared.state.Transaction.TheVariants.{Outside, Restarting, Running, Swapping}

-- the transaction: one that runs, from where it began, or another, which is kept whole
abbrev pub transaction_of : Option Standing → Savepoint → Transaction → Transaction
transaction_of None from other = other
transaction_of (Some s) from other = Running s.left s.inner from

-- what an unanswered ask is for: a transaction's beginning, or a swap's, here; a swap's end, with this value; something small; or another, which is kept whole
abbrev pub pending_of : Wanted → Savepoint → Value → Option Pending → Option Pending
pending_of wanted.Other from v other = other
pending_of (wanted.Begin left) from v other = Some (pending.Begin left from)
pending_of (wanted.Read c) from v other = Some (pending.Read c)
pending_of (wanted.Open c n) from v other = Some (pending.Open c n None)
pending_of wanted.Commit from v other = Some pending.Commit
pending_of (wanted.Swap c n) from v other = Some (pending.Swap c n from)
pending_of (wanted.Close c p) from v other = Some (pending.Close c p v)

-- a transaction runs that isn't at its end
abbrev pub RunsOn : Transaction → Type 0
RunsOn tx = (left : ℕ) × (inner : ℕ) × (from : Savepoint) × (tx ≡ Running left inner from)

-- what is known of an unanswered ask, where it is small
abbrev pub IsWanted : Wanted → Option Pending → Type 0
IsWanted wanted.Other p = Unit {0}
IsWanted (wanted.Begin left) p = (from : Savepoint) × (p ≡ Some (pending.Begin left from))
IsWanted (wanted.Read c) p = p ≡ Some (pending.Read c)
IsWanted (wanted.Open c n) p = p ≡ Some (pending.Open c n None)
IsWanted wanted.Commit p = p ≡ Some pending.Commit
IsWanted (wanted.Swap c n) p = (from : Savepoint) × (p ≡ Some (pending.Swap c n from))
IsWanted (wanted.Close c at) p = (v : Value) × (p ≡ Some (pending.Close c at v))

-- a transaction begins, which may run again so many times, or joins the one that runs
abbrev pub IsBegun : Option ℕ → Transaction → Transaction → Type 0
IsBegun None (Running left inner from) new = new ≡ Running left (inner + 1) from
IsBegun (Some n) Outside new = (n ≡ reruns) × (new ≡ Outside)
IsBegun (Some n) (Restarting left) new = (n ≡ left) × (new ≡ Restarting left)
IsBegun _ _ new = ⊥

-- a transaction that runs is left by an inner one, or ends; of others nothing is said
abbrev pub IsEnding : Ending → Transaction → Transaction → Type 0
IsEnding ending.Inner tx new = (left : ℕ) × (inner : ℕ) × (from : Savepoint) × (tx ≡ Running left (suc inner) from) × (new ≡ Running left inner from)
IsEnding ending.Commits tx new = (left : ℕ) × (from : Savepoint) × (tx ≡ Running left 0 from) × (new ≡ tx)
IsEnding ending.Other tx new = new ≡ tx

-- what is asked for is a transaction's beginning
abbrev pub IsBeginning : Option Pending → Type 0
IsBeginning (Some (pending.Begin left from)) = Unit {0}
IsBeginning _ = ⊥

-- what is asked for is a transaction's beginning, and the transaction runs from there
abbrev pub HasBegun : Option Pending → Transaction → Type 0
HasBegun (Some (pending.Begin left from)) tx = tx ≡ Running left 0 from
HasBegun _ tx = ⊥

-- what is asked for is the value of a swap's atom
abbrev pub IsOpening : Option Pending → Type 0
IsOpening (Some (pending.Swap c n from)) = Unit {0}
IsOpening _ = ⊥

-- what is asked for is the value of a swap's atom, which goes below so many arguments, and the swap is applied, opened at this index
abbrev pub HasOpened : Option Pending → ℕ → ℕ → Transaction → Type 0
HasOpened (Some (pending.Swap c n from)) p m tx = (m ≡ n) × (tx ≡ Swapping c p from)
HasOpened _ p m tx = ⊥

-- what is known of an unanswered ask, with what is kept whole
abbrev pub IsTold : Wanted → Option Pending → Option Pending → Type 0
IsTold wanted.Other other p = p ≡ other
IsTold (wanted.Begin left) other p = IsWanted (wanted.Begin left) p
IsTold (wanted.Read c) other p = IsWanted (wanted.Read c) p
IsTold (wanted.Open c n) other p = IsWanted (wanted.Open c n) p
IsTold wanted.Commit other p = IsWanted wanted.Commit p
IsTold (wanted.Swap c n) other p = IsWanted (wanted.Swap c n) p
IsTold (wanted.Close c at) other p = IsWanted (wanted.Close c at) p
