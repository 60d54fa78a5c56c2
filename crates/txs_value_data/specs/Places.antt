-- What is at a place of a list or has a name there, and a fault at a place of the script.
use Rattle.std.specs.Prelude.{ℕ, zero, suc, bytes_eq, List, [], ◌∷◌, Option, Some, None, if◌then◌else◌}
use Rattle.txs_value_data.specs.declared.fault.Fault.{Fault}
use Rattle.txs_value_data.specs.declared.fault.FaultKind.{FaultKind}
use Rattle.txs_value_data.specs.declared.fault.Span.{Span}

-- the item at a place, counted from 0, if there is one
abbrev pub nth : {A : Type 0} → List A → ℕ → Option A
nth [] i = None
nth (x ∷ xs) zero = Some x
nth (x ∷ xs) (suc i) = nth xs i

-- the first of these with this name
abbrev pub with_name : {A : Type 0} → (A → List ℕ) → List ℕ → List A → Option A
with_name name_of name [] = None
with_name name_of name (x ∷ xs) = if bytes_eq (name_of x) name then Some x else with_name name_of name xs

-- the numbers from this one on, so many
abbrev pub numbers_from : ℕ → ℕ → List ℕ
numbers_from n zero = []
numbers_from n (suc k) = n ∷ numbers_from (suc n) k

-- a fault of this kind at this place of the script
abbrev pub fault_at : FaultKind → Span → Fault
fault_at kind span = record { kind = kind; span = span }
