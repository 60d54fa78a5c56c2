-- A search with few switches finds the outcome of each schedule that has no more.
use Rattle.std.proofs.Common.{◌≡◌, ◌≤◌, ◌+◌, ◌-◌, ◌⊎◌, inl, inr, ℕ, zero, suc, Bool, true, false, not, ◌&&◌, ◌==◌, nat_le, List, [], ◌∷◌, Option, Some, None, if◌then◌else◌, refl, sym, ap, subst, ◌∙◌, arith}
use Rattle.std.proofs.lemmas.Bool.{false≢true}
use Rattle.std.proofs.lemmas.Bool.Decides.{nat_tests}
use Rattle.txs_value_data.proofs.SameLemmas.{and_both, numbers}
use Rattle.txs_explore.specs.System.{System, has, IsIn, AreAlike, turns}
use Rattle.txs_explore.specs.Search.{Way, Found, behind, joined, cut, Tells, IsWay}
use Rattle.txs_explore.specs.Switches.{is_switch, switched, switches, affordable, among_few, search_few}
use Rattle.txs_explore.proofs.Searching.{has_cases, tells_left, tells_right, tells_behind, turns_alike, tells_end, ends_in_cut}
use Rattle.txs_explore.proofs.Sound.{AllHas, all_may, in_cases, behind_cases}

may_afford : (m n : ℕ) → m ≤ n → nat_le m n ≡ true
may_afford m n h = grind (arith, nat_tests, h)

affords : (m n : ℕ) → nat_le m n ≡ true → m ≤ n
affords m n h = grind (arith, nat_tests, h)

not_switched : (b : Bool) → b ≡ false → ◌≡◌ {A = ℕ} (if b then 1 else 0) 0
not_switched true e = absurd (false≢true (sym e))
not_switched false e = refl

at_most_one : (b : Bool) → (if b then 1 else 0) ≤ 1
at_most_one true = omega arith
at_most_one false = omega arith

module _ (y : System) (Alike : y.State → y.State → Type 0) (h : AreAlike y Alike) where
  -- as many switches from states that nobody can tell apart
  pub switched_alike : (last : Option ℕ) (k : ℕ) (s t : y.State) → Alike s t → switched y s last k ≡ switched y t last k
  switched_alike None k s t a = refl
  switched_alike (Some j) k s t a = ap (λ es. if not (j == k) && has j es then 1 else 0) (h.enabled s t a)

  switches_alike : (last : Option ℕ) (ks : List ℕ) (s t : y.State) → Alike s t → switches y last ks s ≡ switches y last ks t
  switches_alike last [] s t a = refl
  switches_alike last (k ∷ ks) s t a =
      ap (λ n. n + switches y (Some k) ks (y.turn k s)) (switched_alike last k s t a)
      ∙ ap (λ n. switched y t last k + n) (switches_alike (Some k) ks (y.turn k s) (y.turn k t) (h.turn k s t a))

  -- to go by way of an actor that may not go on is no fewer switches
  detour : (s : y.State) (k j : ℕ) (last : Option ℕ) → has k (y.enabled s) ≡ false → switched y s last j ≤ switched y s last k + switched y s (Some k) j
  detour s k j None r = omega arith
  detour s k j (Some i) r = by (has i (y.enabled s)) refl (i == k) refl
    where
      by : (b : Bool) → has i (y.enabled s) ≡ b → (c : Bool) → (i == k) ≡ c → switched y s (Some i) j ≤ switched y s (Some i) k + switched y s (Some k) j
      by true e true q = absurd (false≢true (sym r ∙ ap (λ z. has z (y.enabled s)) (sym (numbers i k q)) ∙ e))
      by true e false q =
          let one : switched y s (Some i) k ≡ 1 = ap (λ z. if not z && has i (y.enabled s) then 1 else 0) q ∙ ap (λ z. if z then 1 else 0) e in
          let less : switched y s (Some i) j ≤ 1 = at_most_one (is_switch y s (Some i) j) in
          omega (arith, one, less)
      by false e c q =
          let none : switched y s (Some i) j ≡ 0 = not_switched (is_switch y s (Some i) j) (both_false (not (i == j)) e) in
          omega (arith, none)
        where
          both_false : (b : Bool) → has i (y.enabled s) ≡ false → (b && has i (y.enabled s)) ≡ false
          both_false true f = f
          both_false false f = refl

  left_out : (s : y.State) (k : ℕ) (last : Option ℕ) (ks : List ℕ) → has k (y.enabled s) ≡ false → switches y last ks s ≤ switched y s last k + switches y (Some k) ks s
  left_out s k last [] r = omega arith
  left_out s k last (j ∷ js) r = omega (arith, detour s k j last r)

  -- behind a turn for which enough switches are left
  module _ (go : ℕ → ℕ → Found y) (s : y.State) (left : ℕ) (last : Option ℕ) (o : y.Outcome) (k : ℕ)
      (below : (go k (left - switched y s last k)).whole ≡ true → Tells y o (go k (left - switched y s last k)).ways) (enough : switched y s last k ≤ left) where
    abbrev Told : Found y → Type 0
    Told f = f.whole ≡ true → Tells y o f.ways

    first : (rest : Found y) → Told (joined y k (go k (left - switched y s last k)) rest)
    first rest w =
        tells_left y o (behind y k (go k (left - switched y s last k)).ways) rest.ways
        (tells_behind y o k (go k (left - switched y s last k)).ways (below (and_both (go k (left - switched y s last k)).whole rest.whole w).0))

    later : (j : ℕ) (found rest : Found y) → Told rest → Told (joined y j found rest)
    later j found rest t w = tells_right y o (behind y j found.ways) rest.ways (t (and_both found.whole rest.whole w).1)

    told_among : (ks : List ℕ) → has k ks ≡ true → Told (affordable y go s left last ks)
    told_among [] i = λ w. absurd (false≢true i)
    told_among (j ∷ ks) i = by (λ c. told_among ks c) (has_cases k j ks i)
      where
        here : (b : Bool) → nat_le (switched y s last j) left ≡ b → k ≡ j
            → Told (if b then joined y j (go j (left - switched y s last j)) (affordable y go s left last ks) else affordable y go s left last ks)
        here true e q = subst (λ z. Told (joined y z (go z (left - switched y s last z)) (affordable y go s left last ks))) q (first (affordable y go s left last ks))
        here false e q = absurd (false≢true (sym e ∙ may_afford (switched y s last j) left (subst (λ z. switched y s last z ≤ left) q enough)))

        there : Told (affordable y go s left last ks) → (b : Bool)
            → Told (if b then joined y j (go j (left - switched y s last j)) (affordable y go s left last ks) else affordable y go s left last ks)
        there t true = later j (go j (left - switched y s last j)) (affordable y go s left last ks) t
        there t false = t

        by : (has k ks ≡ true → Told (affordable y go s left last ks)) → (k ≡ j) ⊎ (has k ks ≡ true) → Told (affordable y go s left last (j ∷ ks))
        by again (inl q) = here (nat_le (switched y s last j) left) refl q
        by again (inr c) = there (again c) (nat_le (switched y s last j) left)

    told_few : (es : List ℕ) → has k es ≡ true → Told (among_few y go s left last es)
    told_few [] i = λ w. absurd (false≢true i)
    told_few (j ∷ js) i = told_among (j ∷ js) i

  -- ---- a search

  abbrev Finds : ℕ → Type 0
  Finds n = (left : ℕ) (last : Option ℕ) (s e : y.State) → y.enabled e ≡ [] → (ks : List ℕ) → Alike (turns y ks s) e → switches y last ks s ≤ left
      → (search_few y n left last s).whole ≡ true → Tells y (y.outcome e) (search_few y n left last s).ways

  ends_few : (s e : y.State) → Alike s e → (go : ℕ → ℕ → Found y) (left : ℕ) (last : Option ℕ) (es : List ℕ) → es ≡ [] → Tells y (y.outcome e) (among_few y go s left last es).ways
  ends_few s e a go left last es q = subst (λ l. Tells y (y.outcome e) (among_few y go s left last l).ways) (sym q) (tells_end y Alike h s e a)

  ends : (n left : ℕ) (last : Option ℕ) (s e : y.State) → y.enabled e ≡ [] → Alike s e → Tells y (y.outcome e) (search_few y n left last s).ways
  ends zero left last s e q a = ends_in_cut y Alike h s e a (y.enabled s) (h.enabled s e a ∙ q)
  ends (suc n) left last s e q a = ends_few s e a (λ k l. search_few y n l (Some k) (y.turn k s)) left last (y.enabled s) (h.enabled s e a ∙ q)

  cut_whole : (s : y.State) (k : ℕ) (es : List ℕ) → has k es ≡ true → (cut y s es).whole ≡ true → ⊥
  cut_whole s k [] i w = false≢true i
  cut_whole s k (j ∷ js) i w = false≢true w

  -- a first turn of one that may go on
  abbrev Turned : ℕ → Type 0
  Turned n = (left : ℕ) (last : Option ℕ) (s e : y.State) → y.enabled e ≡ [] → (k : ℕ) (ks : List ℕ) → has k (y.enabled s) ≡ true → Alike (turns y ks (y.turn k s)) e
      → switched y s last k + switches y (Some k) ks (y.turn k s) ≤ left → (search_few y n left last s).whole ≡ true → Tells y (y.outcome e) (search_few y n left last s).ways

  none_turned : Turned zero
  none_turned left last s e q k ks i a m w = absurd (cut_whole s k (y.enabled s) i w)

  one_turned : (n : ℕ) → Finds n → Turned (suc n)
  one_turned n below left last s e q k ks i a m w =
      told_few (λ j l. search_few y n l (Some j) (y.turn j s)) s left last (y.outcome e) k
      (λ v. below (left - switched y s last k) (Some k) (y.turn k s) e q ks a (omega (arith, m)) v) (omega (arith, m)) (y.enabled s) i w

  finds_by : (n : ℕ) → Turned n → Finds n
  finds_by n one left last s e q [] a m w = ends n left last s e q a
  finds_by n one left last s e q (k ∷ ks) a m w = by (λ b c. finds_by n one left last s e q ks b c w) (has k (y.enabled s)) refl
    where
      by : (Alike (turns y ks s) e → switches y last ks s ≤ left → Tells y (y.outcome e) (search_few y n left last s).ways) → (b : Bool) → has k (y.enabled s) ≡ b → Tells y (y.outcome e) (search_few y n left last s).ways
      by again true i = one left last s e q k ks i a m w
      by again false i =
          let stayed = h.rests k s i in
          let same : switches y (Some k) ks (y.turn k s) ≡ switches y (Some k) ks s = switches_alike (Some k) ks (y.turn k s) s stayed in
          again (h.on (turns y ks s) (turns y ks (y.turn k s)) e (turns_alike y Alike h ks s (y.turn k s) (h.back (y.turn k s) s stayed)) a)
          (omega (arith, m, same, left_out s k last ks i))

  finds : (n : ℕ) → Finds n
  finds zero = finds_by zero none_turned
  finds (suc n) = finds_by (suc n) (one_turned n (finds n))

  -- each schedule with no more switches is told of
  pub few_complete : (n left : ℕ) (s : y.State) → (search_few y n left None s).whole ≡ true → (ks : List ℕ) → switches y None ks s ≤ left → y.enabled (turns y ks s) ≡ []
      → Tells y (y.outcome (turns y ks s)) (search_few y n left None s).ways
  few_complete n left s w ks m q = finds n left None s (turns y ks s) q ks (h.itself (turns y ks s)) m w

-- ---- what is found is so

module _ (y : System) where
  -- a way with no more switches than these, behind the last turn
  pub record IsFewWay (s : y.State) (left : ℕ) (last : Option ℕ) (w : Way y) : Type 0 where
    pub way : IsWay y s w
    pub few : switches y last w.turns s ≤ left

  few_end : (s : y.State) (left : ℕ) (last : Option ℕ) (w : Way y) → y.enabled s ≡ [] → w ≡ record { outcome = y.outcome s; turns = [] } → IsFewWay s left last w
  few_end s left last w e q = subst (λ v. IsFewWay s left last v) (sym q) (record { way = record { may = tt; ends = e; outcome = refl }; few = omega arith })

  few_cut : (s : y.State) (left : ℕ) (last : Option ℕ) (w : Way y) (es : List ℕ) → y.enabled s ≡ es → IsIn w (cut y s es).ways → IsFewWay s left last w
  few_cut s left last w [] e (inl q) = few_end s left last w e q
  few_cut s left last w [] e (inr i) = absurd i
  few_cut s left last w (k ∷ ks) e i = absurd i

  module _ (go : ℕ → ℕ → Found y) (s : y.State) (left : ℕ) (last : Option ℕ) (below : (k l : ℕ) (v : Way y) → IsIn v (go k l).ways → IsFewWay (y.turn k s) l (Some k) v) where
    few_behind : (k : ℕ) (w : Way y) → has k (y.enabled s) ≡ true → switched y s last k ≤ left → IsIn w (behind y k (go k (left - switched y s last k)).ways) → IsFewWay s left last w
    few_behind k w m enough i =
        let t = behind_cases y k w (go k (left - switched y s last k)).ways i in
        let g = below k (left - switched y s last k) t.0 t.1 in
        subst (λ v. IsFewWay s left last v) (sym t.2) (record { way = record { may = (m, g.way.may); ends = g.way.ends; outcome = g.way.outcome }; few = omega (arith, g.few, enough) })

    few_each : (ks : List ℕ) → AllHas (y.enabled s) ks → (w : Way y) → IsIn w (affordable y go s left last ks).ways → IsFewWay s left last w
    few_each [] m w i = absurd i
    few_each (k ∷ ks) m w i = by (λ j. few_each ks m.1 w j) (nat_le (switched y s last k) left) refl i
      where
        cases : (IsIn w (affordable y go s left last ks).ways → IsFewWay s left last w) → switched y s last k ≤ left
            → IsIn w (behind y k (go k (left - switched y s last k)).ways) ⊎ IsIn w (affordable y go s left last ks).ways → IsFewWay s left last w
        cases again enough (inl j) = few_behind k w m.0 enough j
        cases again enough (inr j) = again j

        by : (IsIn w (affordable y go s left last ks).ways → IsFewWay s left last w) → (b : Bool) → nat_le (switched y s last k) left ≡ b
            → IsIn w (if b then joined y k (go k (left - switched y s last k)) (affordable y go s left last ks) else affordable y go s left last ks).ways → IsFewWay s left last w
        by again true e j = cases again (affords (switched y s last k) left e) (in_cases w (behind y k (go k (left - switched y s last k)).ways) (affordable y go s left last ks).ways j)
        by again false e j = again j

    few_among : (es : List ℕ) → y.enabled s ≡ es → (w : Way y) → IsIn w (among_few y go s left last es).ways → IsFewWay s left last w
    few_among [] e w (inl q) = few_end s left last w e q
    few_among [] e w (inr i) = absurd i
    few_among (k ∷ ks) e w i = few_each (k ∷ ks) (all_may (y.enabled s) (k ∷ ks) e) w i

  pub few_sound : (n left : ℕ) (last : Option ℕ) (s : y.State) (w : Way y) → IsIn w (search_few y n left last s).ways → IsFewWay s left last w
  few_sound zero left last s w i = few_cut s left last w (y.enabled s) refl i
  few_sound (suc n) left last s w i = few_among (λ k l. search_few y n l (Some k) (y.turn k s)) s left last (λ k l v j. few_sound n l (Some k) (y.turn k s) v j) (y.enabled s) refl w i
