-- What `get` lends of a list.
use Rattle.std.proofs.Common.{◌≡◌, ◌≤◌, ◌<◌, ℕ, zero, suc, List, [], ◌∷◌, length, get_or, Option, Some, None, Bor, HoldsAt, MatchOption, option_copied, refl, sym, ap, ◌∙◌, arith}
use Rattle.txs_value_data.specs.Places.{nth}

-- what is beyond a list isn't there
nth_beyond : {A : Type 0} (xs : List A) (i : ℕ) → length xs ≤ i → nth xs i ≡ None
nth_beyond [] i le = refl
nth_beyond (x ∷ xs) zero le = absurd (omega (arith, le))
nth_beyond (x ∷ xs) (suc i) le = nth_beyond xs i (omega (arith, le))

nth_is : {A : Type 0} (xs : List A) (i : ℕ) (d : A) → i < length xs → nth xs i ≡ Some (get_or xs i d)
nth_is [] i d lt = absurd (omega (arith, lt))
nth_is (x ∷ xs) zero d lt = refl
nth_is (x ∷ xs) (suc i) d lt = nth_is xs i d (omega (arith, lt))

-- what `get` lends
pub got : {A : Type 0} (xs : List A) (i : ℕ) (r : Option (Bor A)) → MatchOption r (length xs ≤ i) (λ x. (i < length xs) × HoldsAt (λ y. x.now ≡ y) xs i) → option_copied r ≡ nth xs i
got xs i None h = sym (nth_beyond xs i h)
got xs i (Some x) h = ap Some (h.1 x.now) ∙ sym (nth_is xs i x.now h.0)
