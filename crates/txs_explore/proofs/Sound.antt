-- What a search found is so.
use Rattle.std.proofs.Common.{◌≡◌, ◌⊎◌, inl, inr, ℕ, zero, suc, Bool, true, false, ◌==◌, List, [], ◌∷◌, ◌++◌, if◌then◌else◌, refl, sym, ap, subst}
use Rattle.txs_value_data.proofs.SameLemmas.{number-itself}
use Rattle.txs_explore.specs.System.{System, has, IsIn}
use Rattle.txs_explore.specs.Search.{Way, Found, behind, apart_from, joined, branches, cut, among, search, IsWay}

pub in_cases : {A : Type 0} (x : A) (xs ys : List A) → IsIn x (xs ++ ys) → IsIn x xs ⊎ IsIn x ys
in_cases x [] ys i = inr i
in_cases x (z ∷ xs) ys (inl e) = inl (inl e)
in_cases x (z ∷ xs) ys (inr i) = later (in_cases x xs ys i)
  where
    later : IsIn x xs ⊎ IsIn x ys → IsIn x (z ∷ xs) ⊎ IsIn x ys
    later (inl j) = inl (inr j)
    later (inr j) = inr j

-- each of these numbers is one of those
abbrev pub AllHas : List ℕ → List ℕ → Type 0
AllHas js [] = Unit {0}
AllHas js (k ∷ ks) = (has k js ≡ true) × AllHas js ks

all_have : (js ks : List ℕ) → ((k : ℕ) → has k ks ≡ true → has k js ≡ true) → AllHas js ks
all_have js [] f = tt
all_have js (k ∷ ks) f = (f k (ap (λ b. if b then true else has k ks) (number-itself k)), all_have js ks (λ i h. f i (later i h (i == k))))
  where
    later : (i : ℕ) → has i ks ≡ true → (b : Bool) → (if b then true else has i ks) ≡ true
    later i h true = refl
    later i h false = h

-- those that may go on may go on
pub all_may : (js es : List ℕ) → js ≡ es → AllHas js es
all_may js es e = subst (AllHas js) e (all_have js js (λ k h. h))

module _ (y : System) where
  is_end : (s : y.State) (w : Way y) → y.enabled s ≡ [] → w ≡ record { outcome = y.outcome s; turns = [] } → IsWay y s w
  is_end s w e q = subst (λ v. IsWay y s v) (sym q) (record { may = tt; ends = e; outcome = refl })

  cut_sound : (s : y.State) (w : Way y) (es : List ℕ) → y.enabled s ≡ es → IsIn w (cut y s es).ways → IsWay y s w
  cut_sound s w [] e (inl q) = is_end s w e q
  cut_sound s w [] e (inr i) = absurd i
  cut_sound s w (k ∷ ks) e i = absurd i

  pub behind_cases : (k : ℕ) (w : Way y) (ws : List (Way y)) → IsIn w (behind y k ws) → (v : Way y) × IsIn v ws × (w ≡ record { outcome = v.outcome; turns = k ∷ v.turns })
  behind_cases k w [] i = absurd i
  behind_cases k w (v ∷ ws) (inl e) = (v, inl refl, e)
  behind_cases k w (v ∷ ws) (inr i) = let t = behind_cases k w ws i in (t.0, inr t.1, t.2)

  -- behind the turn of one that may go on
  pub behind_sound : (s : y.State) (k : ℕ) (w : Way y) (ws : List (Way y)) → has k (y.enabled s) ≡ true → ((v : Way y) → IsIn v ws → IsWay y (y.turn k s) v) → IsIn w (behind y k ws) → IsWay y s w
  behind_sound s k w ws m each i =
      let t = behind_cases k w ws i in
      let h = each t.0 t.1 in
      subst (λ v. IsWay y s v) (sym t.2) (record { may = (m, h.may); ends = h.ends; outcome = h.outcome })

  joined_sound : (s : y.State) (k : ℕ) (w : Way y) (a b : Found y) → has k (y.enabled s) ≡ true → ((v : Way y) → IsIn v a.ways → IsWay y (y.turn k s) v) → (IsIn w b.ways → IsWay y s w)
      → IsIn w (joined y k a b).ways → IsWay y s w
  joined_sound s k w a b m each rest i = by (in_cases w (behind y k a.ways) b.ways i)
    where
      by : IsIn w (behind y k a.ways) ⊎ IsIn w b.ways → IsWay y s w
      by (inl j) = behind_sound s k w a.ways m each j
      by (inr j) = rest j

  branches_sound : (go : ℕ → List ℕ → Found y) (s : y.State) → ((k : ℕ) (sl : List ℕ) (v : Way y) → IsIn v (go k sl).ways → IsWay y (y.turn k s) v)
      → (ks asleep : List ℕ) → AllHas (y.enabled s) ks → (w : Way y) → IsIn w (branches y go s asleep ks).ways → IsWay y s w
  branches_sound go s each [] asleep m w i = absurd i
  branches_sound go s each (j ∷ ks) asleep m w i = by (λ sl. branches_sound go s each ks sl m.1 w) (has j asleep) i
    where
      by : ((sl : List ℕ) → IsIn w (branches y go s sl ks).ways → IsWay y s w) → (b : Bool)
          → IsIn w (if b then branches y go s asleep ks else joined y j (go j (apart_from y s j asleep)) (branches y go s (j ∷ asleep) ks)).ways → IsWay y s w
      by again true i = again asleep i
      by again false i = joined_sound s j w (go j (apart_from y s j asleep)) (branches y go s (j ∷ asleep) ks) m.0 (each j (apart_from y s j asleep)) (again (j ∷ asleep)) i

  among_sound : (go : ℕ → List ℕ → Found y) (s : y.State) → ((k : ℕ) (sl : List ℕ) (v : Way y) → IsIn v (go k sl).ways → IsWay y (y.turn k s) v)
      → (asleep es : List ℕ) → y.enabled s ≡ es → (w : Way y) → IsIn w (among y go s asleep es).ways → IsWay y s w
  among_sound go s each asleep [] e w (inl q) = is_end s w e q
  among_sound go s each asleep [] e w (inr i) = absurd i
  among_sound go s each asleep (k ∷ ks) e w i = branches_sound go s each (k ∷ ks) asleep (all_may (y.enabled s) (k ∷ ks) e) w i

  pub sound : (n : ℕ) (asleep : List ℕ) (s : y.State) (w : Way y) → IsIn w (search y n asleep s).ways → IsWay y s w
  sound zero asleep s w i = cut_sound s w (y.enabled s) refl i
  sound (suc n) asleep s w i = among_sound (λ k sleepers. search y n sleepers (y.turn k s)) s (λ k sl v j. sound n sl (y.turn k s) v j) asleep (y.enabled s) refl w i
