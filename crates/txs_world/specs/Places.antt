-- Places among writes, and writes whose refs ascend.
use Rattle.std.specs.Prelude.{◌≤◌, ℕ, suc, Bool, false, ◌==◌, nat_lt, [], ◌∷◌, if◌then◌else◌}
use Rattle.txs_world_protocol.specs.Ask.{Writes}

-- how many writes there are before the first whose cell has no lesser number
abbrev pub place_of : ℕ → Writes → ℕ
place_of n [] = 0
place_of n (w ∷ ws) = if nat_lt w.0.number n then suc (place_of n ws) else 0

-- the numbers of what is written ascend, from this one on
abbrev pub Ascend : ℕ → Writes → Type 0
Ascend n [] = Unit {0}
Ascend n (w ∷ ws) = (n ≤ w.0.number) × Ascend (suc w.0.number) ws

-- whether the first of these writes is of the cell with this number
abbrev pub is_first : ℕ → Writes → Bool
is_first n [] = false
is_first n (w ∷ ws) = w.0.number == n
