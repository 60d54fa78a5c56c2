-- What is listed covers what a search finds: at an end, behind a turn, and where an actor sleeps.
use Rattle.std.proofs.Common.{◌≡◌, ◌⊎◌, inl, inr, ◌-◌, ℕ, zero, suc, Bool, true, false, ◌&&◌, nat_le, List, [], ◌∷◌, ◌++◌, Option, Some, if◌then◌else◌, refl, sym, ap, subst, ◌∙◌}
use Rattle.txs_explore.specs.System.{System, has, IsIn}
use Rattle.txs_explore.specs.Search.{Way, Found, Tells, behind, apart_from, joined, branches, ended, cut, among, search}
use Rattle.txs_explore.specs.Switches.{switched, affordable, among_few, search_few}

module _ (y : System) (Has : y.Outcome → Type 0) where
  -- a search went everywhere, and this holds of all outcomes that it finds
  pub record Covered (f : Found y) : Type 0 where
    pub whole : f.whole ≡ true
    pub told : (o : y.Outcome) → Tells y o f.ways → Has o

  both : (a b : Bool) → a ≡ true → b ≡ true → (a && b) ≡ true
  both a b e f = ap (λ z. z && b) e ∙ f

  told_cases : (o : y.Outcome) (xs ys : List (Way y)) → Tells y o (xs ++ ys) → Tells y o xs ⊎ Tells y o ys
  told_cases o [] ys t = inr t
  told_cases o (x ∷ xs) ys (w, inl e, q) = inl (w, inl e, q)
  told_cases o (x ∷ xs) ys (w, inr i, q) = later (told_cases o xs ys (w, i, q))
    where
      later : Tells y o xs ⊎ Tells y o ys → Tells y o (x ∷ xs) ⊎ Tells y o ys
      later (inl t) = inl (t.0, inr t.1, t.2)
      later (inr t) = inr t

  told_behind : (o : y.Outcome) (k : ℕ) (xs : List (Way y)) → Tells y o (behind y k xs) → Tells y o xs
  told_behind o k [] t = absurd t.1
  told_behind o k (x ∷ xs) (w, inl e, q) = (x, inl refl, q ∙ ap (λ (v : Way y). v.outcome) e)
  told_behind o k (x ∷ xs) (w, inr i, q) = let t = told_behind o k xs (w, i, q) in (t.0, inr t.1, t.2)

  pub covered_none : Covered (record { ways = []; whole = true })
  covered_none = record { whole = refl; told = λ o t. absurd t.1 }

  pub covered_both : (k : ℕ) (a b : Found y) → Covered a → Covered b → Covered (joined y k a b)
  covered_both k a b c d = record {
    whole = both a.whole b.whole c.whole d.whole;
    told = λ o t. by o (told_cases o (behind y k a.ways) b.ways t);
  }
    where
      by : (o : y.Outcome) → Tells y o (behind y k a.ways) ⊎ Tells y o b.ways → Has o
      by o (inl t) = c.told o (told_behind o k a.ways t)
      by o (inr t) = d.told o t

  covered_end : (s : y.State) → Has (y.outcome s) → Covered (ended y s)
  covered_end s h = record { whole = refl; told = λ o t. by o t.0 t.1 t.2 }
    where
      by : (o : y.Outcome) (w : Way y) → IsIn w (record { outcome = y.outcome s; turns = [] } ∷ []) → o ≡ w.outcome → Has o
      by o w (inl e) q = subst Has (sym (q ∙ ap (λ (v : Way y). v.outcome) e)) h
      by o w (inr i) q = absurd i

  -- ---- through all schedules

  -- where nobody may go on
  pub search_ended : (n : ℕ) (asleep : List ℕ) (s : y.State) → y.enabled s ≡ [] → Has (y.outcome s) → Covered (search y n asleep s)
  search_ended zero asleep s e h = subst (λ es. Covered (cut y s es)) (sym e) (covered_end s h)
  search_ended (suc n) asleep s e h = subst (λ es. Covered (among y (λ k sleepers. search y n sleepers (y.turn k s)) s asleep es)) (sym e) (covered_end s h)

  -- where some may
  pub search_branched : (n : ℕ) (asleep : List ℕ) (s : y.State) (k : ℕ) (ks : List ℕ) → y.enabled s ≡ k ∷ ks
      → Covered (branches y (λ k sleepers. search y n sleepers (y.turn k s)) s asleep (k ∷ ks)) → Covered (search y (suc n) asleep s)
  search_branched n asleep s k ks e c = subst (λ es. Covered (among y (λ j sleepers. search y n sleepers (y.turn j s)) s asleep es)) (sym e) c

  -- one that sleeps
  pub branch_asleep : (go : ℕ → List ℕ → Found y) (s : y.State) (asleep : List ℕ) (k : ℕ) (ks : List ℕ) → has k asleep ≡ true → Covered (branches y go s asleep ks) → Covered (branches y go s asleep (k ∷ ks))
  branch_asleep go s asleep k ks e c = subst (λ b. Covered (if b then branches y go s asleep ks else joined y k (go k (apart_from y s k asleep)) (branches y go s (k ∷ asleep) ks))) (sym e) c

  -- one that doesn't
  pub branch_awake : (go : ℕ → List ℕ → Found y) (s : y.State) (asleep : List ℕ) (k : ℕ) (ks : List ℕ) → has k asleep ≡ false → Covered (go k (apart_from y s k asleep)) → Covered (branches y go s (k ∷ asleep) ks)
      → Covered (branches y go s asleep (k ∷ ks))
  branch_awake go s asleep k ks e c d =
      subst (λ b. Covered (if b then branches y go s asleep ks else joined y k (go k (apart_from y s k asleep)) (branches y go s (k ∷ asleep) ks))) (sym e)
      (covered_both k (go k (apart_from y s k asleep)) (branches y go s (k ∷ asleep) ks) c d)

  -- ---- with few switches

  pub few_ended : (n left : ℕ) (last : Option ℕ) (s : y.State) → y.enabled s ≡ [] → Has (y.outcome s) → Covered (search_few y n left last s)
  few_ended zero left last s e h = subst (λ es. Covered (cut y s es)) (sym e) (covered_end s h)
  few_ended (suc n) left last s e h = subst (λ es. Covered (among_few y (λ k l. search_few y n l (Some k) (y.turn k s)) s left last es)) (sym e) (covered_end s h)

  pub few_branched : (n left : ℕ) (last : Option ℕ) (s : y.State) (k : ℕ) (ks : List ℕ) → y.enabled s ≡ k ∷ ks
      → Covered (affordable y (λ k l. search_few y n l (Some k) (y.turn k s)) s left last (k ∷ ks)) → Covered (search_few y (suc n) left last s)
  few_branched n left last s k ks e c = subst (λ es. Covered (among_few y (λ j l. search_few y n l (Some j) (y.turn j s)) s left last es)) (sym e) c

  -- one for which too few switches are left
  pub few_refused : (go : ℕ → ℕ → Found y) (s : y.State) (left : ℕ) (last : Option ℕ) (k : ℕ) (ks : List ℕ) → nat_le (switched y s last k) left ≡ false → Covered (affordable y go s left last ks)
      → Covered (affordable y go s left last (k ∷ ks))
  few_refused go s left last k ks e c =
      subst (λ b. Covered (if b then joined y k (go k (left - switched y s last k)) (affordable y go s left last ks) else affordable y go s left last ks)) (sym e) c

  pub few_turned : (go : ℕ → ℕ → Found y) (s : y.State) (left : ℕ) (last : Option ℕ) (k : ℕ) (ks : List ℕ) → nat_le (switched y s last k) left ≡ true → Covered (go k (left - switched y s last k))
      → Covered (affordable y go s left last ks) → Covered (affordable y go s left last (k ∷ ks))
  few_turned go s left last k ks e c d =
      subst (λ b. Covered (if b then joined y k (go k (left - switched y s last k)) (affordable y go s left last ks) else affordable y go s left last ks)) (sym e)
      (covered_both k (go k (left - switched y s last k)) (affordable y go s left last ks) c d)
