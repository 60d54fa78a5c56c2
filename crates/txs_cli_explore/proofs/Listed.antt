-- Outcomes that are listed, one after another.
use Rattle.std.proofs.Common.{◌≡◌, ◌⊎◌, inl, inr, ◌<◌, ◌≤◌, ◌+◌, ◌++◌, ◌∙◌, ℕ, zero, suc, max, List, [], ◌∷◌, length, take, drop, get_or, refl, sym, ap, subst, arith}
use Rattle.std.proofs.lemmas.List.{drop_all, take_all}
use Rattle.txs_explore.specs.System.{IsIn}
use Rattle.txs_cli_explore.specs.Outcomes.{Adds, AreDistinct, AreOutcomes, AreSame, IsNew, highest}
use Rattle.txs_cli_explore.specs.declared.outcomes.Outcome.{Outcome}
use Rattle.txs_cli_explore.proofs.Lines.{dropped, taken}

-- ---- lists

in_left : {A : Type 0} (x : A) (xs ys : List A) → IsIn x xs → IsIn x (xs ++ ys)
in_left x [] ys i = absurd i
in_left x (z ∷ xs) ys (inl e) = inl e
in_left x (z ∷ xs) ys (inr i) = inr (in_left x xs ys i)

in_last : {A : Type 0} (x : A) (xs : List A) → IsIn x (xs ++ x ∷ [])
in_last x [] = inl refl
in_last x (z ∷ xs) = inr (in_last x xs)

in_cases : {A : Type 0} (x y : A) (xs : List A) → IsIn x (xs ++ y ∷ []) → IsIn x xs ⊎ (x ≡ y)
in_cases x y [] (inl e) = inr e
in_cases x y [] (inr i) = absurd i
in_cases x y (z ∷ xs) (inl e) = inl (inl e)
in_cases x y (z ∷ xs) (inr i) = by (in_cases x y xs i)
  where
    by : IsIn x xs ⊎ (x ≡ y) → IsIn x (z ∷ xs) ⊎ (x ≡ y)
    by (inl j) = inl (inr j)
    by (inr e) = inr e

pub read_in : {A : Type 0} (xs : List A) (i : ℕ) (x : A) → i < length xs → x ≡ get_or xs i x → IsIn x xs
read_in [] i x l e = absurd (omega (arith, l))
read_in (y ∷ xs) zero x l e = inl e
read_in (y ∷ xs) (suc i) x l e = inr (read_in xs i x (omega (arith, l)) e)

-- ---- whether one is listed

-- one more that isn't the same
pub new_more : (o : Outcome) (os : List Outcome) (i : ℕ) (x : Outcome) → i < length os → x ≡ get_or os i x → (AreSame x o → ⊥) → (IsNew o (drop i os) → IsNew o os) → IsNew o (drop (i + 1) os) → IsNew o os
new_more o os i x l e other h later = h (subst (IsNew o) (sym (dropped os i x l e)) by)
  where
    by : IsNew o (x ∷ drop (i + 1) os)
    by y (inl q) = λ s. other (subst (λ z. AreSame z o) q s)
    by y (inr j) = later y j

pub new_done : (o : Outcome) (os : List Outcome) (i : ℕ) → length os ≤ i → (IsNew o (drop i os) → IsNew o os) → IsNew o os
new_done o os i le h = h (subst (IsNew o) (sym (drop_all i os le)) (λ x j. absurd j))

-- ---- one more

distinct_more : (os : List Outcome) (o : Outcome) → AreDistinct os → IsNew o os → AreDistinct (os ++ o ∷ [])
distinct_more [] o d n = (λ x i. absurd i, tt)
distinct_more (x ∷ xs) o d n = (by, distinct_more xs o d.1 (λ y i. n y (inr i)))
  where
    of : (y : Outcome) → IsIn y xs ⊎ (y ≡ o) → AreSame y x → ⊥
    of y (inl i) = d.0 y i
    of y (inr e) = λ s. n x (inl refl) (sym s.0 ∙ ap (λ (z : Outcome). z.lines.items) e, sym s.1 ∙ ap (λ (z : Outcome). z.status) e)

    by : IsNew x (xs ++ o ∷ [])
    by y i = of y (in_cases y o xs i)

module _ {W : Type 0} (Comes : Outcome → W → Type 0) (Has : W → List ℕ → ℕ → Type 0) where
  pub outcomes_none : AreOutcomes Comes Has [] []
  outcomes_none = record { each = λ o i. absurd i; all = λ w i. absurd i; once = tt }

  module _ (ws : List W) (os : List Outcome) (w : W) (o : Outcome) (h : AreOutcomes Comes Has ws os) (comes : Comes o w) (has : Has w o.lines.items o.status) where
    kept : (x : Outcome) → IsIn x os → (v : W) × IsIn v (ws ++ w ∷ []) × Comes x v × Has v x.lines.items x.status
    kept x i = let e = h.each x i in (e.0, in_left e.0 ws (w ∷ []) e.1, e.2, e.3)

    -- the outcome of one more way
    pub outcomes_more : (new : List Outcome) → Adds o os new → AreOutcomes Comes Has (ws ++ w ∷ []) new
    outcomes_more new (inl (listed, same)) = subst (AreOutcomes Comes Has (ws ++ w ∷ [])) (sym same) (record { each = kept; all = λ v i. all v (in_cases v w ws i); once = h.once })
      where
        all : (v : W) → IsIn v ws ⊎ (v ≡ w) → (x : Outcome) × IsIn x os × Has v x.lines.items x.status
        all v (inl i) = h.all v i
        all v (inr e) =
            let x = listed.0 in
            (x, listed.1, subst (λ z. Has z x.lines.items x.status) (sym e) (subst (λ l. Has w l x.status) (sym listed.2.0) (subst (λ n. Has w o.lines.items n) (sym listed.2.1) has)))
    outcomes_more new (inr (fresh, more)) =
        subst (AreOutcomes Comes Has (ws ++ w ∷ [])) (sym more) (record { each = λ x i. each x (in_cases x o os i); all = λ v i. all v (in_cases v w ws i); once = distinct_more os o h.once fresh })
      where
        each : (x : Outcome) → IsIn x os ⊎ (x ≡ o) → (v : W) × IsIn v (ws ++ w ∷ []) × Comes x v × Has v x.lines.items x.status
        each x (inl i) = kept x i
        each x (inr e) = subst (λ z. (v : W) × IsIn v (ws ++ w ∷ []) × Comes z v × Has v z.lines.items z.status) (sym e) (w, in_last w ws, comes, has)

        all : (v : W) → IsIn v ws ⊎ (v ≡ w) → (x : Outcome) × IsIn x (os ++ o ∷ []) × Has v x.lines.items x.status
        all v (inl i) = let a = h.all v i in (a.0, in_left a.0 os (o ∷ []) a.1, a.2)
        all v (inr e) = subst (λ z. (x : Outcome) × IsIn x (os ++ o ∷ []) × Has z x.lines.items x.status) (sym e) (o, in_last o os, has)

  -- the same of the ways up to an index
  pub outcomes_next : (ws : List W) (i : ℕ) (w : W) (os new : List Outcome) (o : Outcome) → i < length ws → w ≡ get_or ws i w → Comes o w → Has w o.lines.items o.status → Adds o os new
      → AreOutcomes Comes Has (take i ws) os → AreOutcomes Comes Has (take (i + 1) ws) new
  outcomes_next ws i w os new o l e comes has adds h = subst (λ vs. AreOutcomes Comes Has vs new) (sym (taken ws i w l e)) (outcomes_more (take i ws) os w o h comes has new adds)

  pub outcomes_done : (ws : List W) (i : ℕ) (os : List Outcome) → length ws ≤ i → AreOutcomes Comes Has (take i ws) os → AreOutcomes Comes Has ws os
  outcomes_done ws i os le h = subst (λ vs. AreOutcomes Comes Has vs os) (take_all i ws le) h

-- ---- the highest status

pub highest_more : (os : List Outcome) (i : ℕ) (x : Outcome) (n m all : ℕ) → i < length os → x ≡ get_or os i x → m ≡ max n x.status → highest n (drop i os) ≡ all → highest m (drop (i + 1) os) ≡ all
highest_more os i x n m all l e q h = ap (λ k. highest k (drop (i + 1) os)) q ∙ ap (highest n) (sym (dropped os i x l e)) ∙ h

pub highest_done : (os : List Outcome) (i n all : ℕ) → length os ≤ i → highest n (drop i os) ≡ all → n ≡ all
highest_done os i n all le h = ap (highest n) (sym (drop_all i os le)) ∙ h
