-- What is at the places of lists that are made of others.
use Rattle.std.proofs.Common.{◌≡◌, ◌+◌, ◌<◌, ℕ, zero, suc, List, [], ◌∷◌, ◌++◌, length, map, Option, Some, None, refl, sym, ap, subst, ◌∙◌, arith}
use Rattle.txs_value_data.specs.Places.{nth}

abbrev pub is_some : {A : Type 0} → Option A → Type 0
is_some None = ⊥
is_some (Some x) = Unit {0}

abbrev pub or_else : {A : Type 0} → A → Option A → A
or_else d None = d
or_else d (Some x) = x

pub within_of : {A : Type 0} (xs : List A) (k : ℕ) (x : A) → nth xs k ≡ Some x → k < length xs
within_of [] k x e = absurd (subst is_some (sym e) tt)
within_of (y ∷ xs) zero x e = omega arith
within_of (y ∷ xs) (suc k) x e = let r = within_of xs k x e in omega (arith, r)

pub there_at : {A : Type 0} (xs : List A) (k : ℕ) → k < length xs → (x : A) × (nth xs k ≡ Some x)
there_at [] k h = absurd (omega (arith, h))
there_at (x ∷ xs) zero h = (x, refl)
there_at (x ∷ xs) (suc k) h = there_at xs k (omega (arith, h))

pub mapped_at : {A B : Type 0} (f : A → B) (xs : List A) (k : ℕ) (x : A) → nth xs k ≡ Some x → nth (map f xs) k ≡ Some (f x)
mapped_at f [] k x e = absurd (subst is_some (sym e) tt)
mapped_at f (y ∷ xs) zero x e = ap (λ o. Some (f (or_else y o))) e
mapped_at f (y ∷ xs) (suc k) x e = mapped_at f xs k x e

pub first_at : {A : Type 0} (xs ys : List A) (k : ℕ) (x : A) → nth xs k ≡ Some x → nth (xs ++ ys) k ≡ Some x
first_at [] ys k x e = absurd (subst is_some (sym e) tt)
first_at (y ∷ xs) ys zero x e = e
first_at (y ∷ xs) ys (suc k) x e = first_at xs ys k x e

pub second_at : {A : Type 0} (xs ys : List A) (i : ℕ) (x : A) → nth ys i ≡ Some x → nth (xs ++ ys) (length xs + i) ≡ Some x
second_at [] ys i x e = let same : i ≡ 0 + i = omega arith in subst (λ n. nth ys n ≡ Some x) same e
second_at (y ∷ xs) ys i x e = let same : suc (length xs + i) ≡ suc (length xs) + i = omega arith in subst (λ n. nth (y ∷ (xs ++ ys)) n ≡ Some x) same (second_at xs ys i x e)

pub length_map : {A B : Type 0} (f : A → B) (xs : List A) → length (map f xs) ≡ length xs
length_map f [] = refl
length_map f (x ∷ xs) = ap suc (length_map f xs)

pub same_at : {A : Type 0} (xs : List A) (k : ℕ) (x y : A) → nth xs k ≡ Some x → nth xs k ≡ Some y → x ≡ y
same_at xs k x y e f = ap (or_else x) (sym e ∙ f)
