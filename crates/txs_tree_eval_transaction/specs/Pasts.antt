-- The values that a cell has had, each with the index in a book from which on the cell has it.
use Rattle.std.specs.Prelude.{◌≤◌, ℕ, Bool, false, nat_le, nat_lt, List, [], ◌∷◌, Option, Some, None, if◌then◌else◌}
use Rattle.txs_value_data.specs.declared.value.Value.{Value}

-- the indexes ascend, from this one on
abbrev pub Ascend : ℕ → List (ℕ × Value) → Type 0
Ascend n [] = Unit {0}
Ascend n (w ∷ ws) = (n ≤ w.0) × Ascend w.0 ws

-- the index of the last, or this one where there is none
abbrev pub latest : ℕ → List (ℕ × Value) → ℕ
latest n [] = n
latest n (w ∷ ws) = latest w.0 ws

-- whether there is one, and the index of the first isn't above this one
abbrev pub begins_by : List (ℕ × Value) → ℕ → Bool
begins_by [] p = false
begins_by (w ∷ ws) p = nat_le w.0 p

-- the last whose index isn't above this one, else the one that was found before
abbrev pub entry_from : Option (ℕ × Value) → List (ℕ × Value) → ℕ → Option (ℕ × Value)
entry_from found [] p = found
entry_from found (w ∷ ws) p = entry_from (if nat_lt p w.0 then found else Some w) ws p

-- the last whose index isn't above this one
abbrev pub entry_at : List (ℕ × Value) → ℕ → Option (ℕ × Value)
entry_at ws p = entry_from None ws p
