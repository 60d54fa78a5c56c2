-- Refs by number.
use Rattle.std.proofs.Common.{◌≡◌, ◌<◌, ◌==◌, ℕ, zero, suc, Bool, true, false, ◌||◌, List, [], ◌∷◌, length, get_or, refl, ap, arith}
use Rattle.txs_frame.specs.Frame.{has_number}
use Rattle.txs_value_data.specs.declared.value.CellId.{CellId}

or_else : (a b : Bool) → b ≡ true → (a || b) ≡ true
or_else true b e = refl
or_else false b e = e

-- a ref at an index
pub number_at : (cs : List CellId) (i k : ℕ) (d : CellId) → i < length cs → ((get_or cs i d).number == k) ≡ true → has_number cs k ≡ true
number_at [] i k d lt e = absurd (omega (arith, lt))
number_at (c ∷ cs) zero k d lt e = ap (λ b. b || has_number cs k) e
number_at (c ∷ cs) (suc i) k d lt e = or_else (c.number == k) (has_number cs k) (number_at cs i k d (omega (arith, lt)) e)
