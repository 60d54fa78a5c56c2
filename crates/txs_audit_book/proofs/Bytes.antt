-- Bytes that begin others.
use Rattle.std.proofs.Common.{◌≡◌, ℕ, suc, ◌<◌, ◌==◌, ◌&&◌, false, List, [], ◌∷◌, length, refl, ap, ◌∙◌, arith}
use Rattle.std.proofs.Math.Bool.{and-false}
use Rattle.txs_theorem_audit.specs.Verdict.{begins, same_numbers}

-- what is longer doesn't begin
pub too_long : (xs ys : List ℕ) → length ys < length xs → begins xs ys ≡ false
too_long [] ys lt = absurd (omega (arith, lt))
too_long (x ∷ xs) [] lt = refl
too_long (x ∷ xs) (y ∷ ys) lt = ap (λ b. x == y && b) (too_long xs ys (omega (arith, lt))) ∙ and-false (x == y)

-- what is of another length isn't the same
pub other_length : (xs ys : List ℕ) → (length xs ≡ length ys → ⊥) → same_numbers xs ys ≡ false
other_length [] [] h = absurd (h refl)
other_length [] (y ∷ ys) h = refl
other_length (x ∷ xs) [] h = refl
other_length (x ∷ xs) (y ∷ ys) h = ap (λ b. x == y && b) (other_length xs ys (λ e. h (ap suc e))) ∙ and-false (x == y)

-- what is as long and begins the other is the same
pub as_long : (xs ys : List ℕ) → length xs ≡ length ys → begins xs ys ≡ same_numbers xs ys
as_long [] [] h = refl
as_long [] (y ∷ ys) h = absurd (omega (arith, h))
as_long (x ∷ xs) [] h = absurd (omega (arith, h))
as_long (x ∷ xs) (y ∷ ys) h = ap (λ b. x == y && b) (as_long xs ys (omega (arith, h)))
