-- Items of lists by their index.
use Rattle.std.proofs.Common.{◌≡◌, ◌⊎◌, inl, inr, ◌<◌, ◌+◌, ◌==◌, ℕ, zero, suc, true, List, [], ◌∷◌, ◌++◌, length, map, Option, Some, None, refl, sym, ap, subst, ◌∙◌, arith}
use Rattle.txs_value_data.specs.Places.{nth}
use Rattle.txs_value_data.proofs.SameLemmas.{numbers}

abbrev pub is_some : {A : Type 0} → Option A → Type 0
is_some None = ⊥
is_some (Some x) = Unit {0}

abbrev pub or_else : {A : Type 0} → A → Option A → A
or_else d None = d
or_else d (Some x) = x

pub same_some : {A : Type 0} (x y : A) → Some x ≡ Some y → x ≡ y
same_some x y e = ap (or_else x) e

pub nth_below : {A : Type 0} (xs : List A) (k : ℕ) (x : A) → nth xs k ≡ Some x → k < length xs
nth_below [] k x e = absurd (subst is_some (sym e) tt)
nth_below (y ∷ xs) zero x e = omega arith
nth_below (y ∷ xs) (suc k) x e = let l = nth_below xs k x e in omega (arith, l)

pub nth_there : {A : Type 0} (xs : List A) (k : ℕ) → k < length xs → (x : A) × (nth xs k ≡ Some x)
nth_there [] k l = absurd (omega (arith, l))
nth_there (y ∷ xs) zero l = (y, refl)
nth_there (y ∷ xs) (suc k) l = nth_there xs k (omega (arith, l))

pub nth_left : {A : Type 0} (xs ys : List A) (k : ℕ) (x : A) → nth xs k ≡ Some x → nth (xs ++ ys) k ≡ Some x
nth_left [] ys k x e = absurd (subst is_some (sym e) tt)
nth_left (z ∷ xs) ys zero x e = e
nth_left (z ∷ xs) ys (suc k) x e = nth_left xs ys k x e

pub nth_behind : {A : Type 0} (xs ys : List A) (k i : ℕ) (x : A) → k ≡ length xs + i → nth ys i ≡ Some x → nth (xs ++ ys) k ≡ Some x
nth_behind [] ys k i x e h = let f : i ≡ k = omega (arith, e) in subst (λ j. nth ys j ≡ Some x) f h
nth_behind (z ∷ xs) ys zero i x e h = absurd (omega (arith, e))
nth_behind (z ∷ xs) ys (suc k) i x e h = nth_behind xs ys k i x (omega (arith, e)) h

pub nth_either : {A : Type 0} (xs ys : List A) (k : ℕ) (x : A) → nth (xs ++ ys) k ≡ Some x → (nth xs k ≡ Some x) ⊎ ((i : ℕ) × (k ≡ length xs + i) × (nth ys i ≡ Some x))
nth_either [] ys k x e = inr (k, omega arith, e)
nth_either (z ∷ xs) ys zero x e = inl e
nth_either (z ∷ xs) ys (suc k) x e = later (nth_either xs ys k x e)
  where
    later : (nth xs k ≡ Some x) ⊎ ((i : ℕ) × (k ≡ length xs + i) × (nth ys i ≡ Some x)) → (nth xs k ≡ Some x) ⊎ ((i : ℕ) × (suc k ≡ suc (length xs) + i) × (nth ys i ≡ Some x))
    later (inl f) = inl f
    later (inr f) = inr (f.0, (let g = f.1 in omega (arith, g)), f.2)

pub nth_one : {A : Type 0} (y : A) (i : ℕ) (x : A) → nth (y ∷ []) i ≡ Some x → (i ≡ 0) × (x ≡ y)
nth_one y zero x e = (refl, sym (same_some y x e))
nth_one y (suc i) x e = absurd (subst is_some (sym e) tt)

pub none_there : {A : Type 0} (xs : List A) (n : ℕ) → n ≡ length xs → (n == 0) ≡ true → xs ≡ []
none_there [] n e z = refl
none_there (x ∷ xs) n e z = let f = numbers n 0 z in absurd (omega (arith, e, f))
