-- A search finds the outcome of each schedule.
use Rattle.std.proofs.Common.{◌≡◌, ◌⊎◌, inl, inr, ℕ, zero, suc, Bool, true, false, ◌==◌, List, [], ◌∷◌, ◌++◌, if◌then◌else◌, refl, sym, ap, subst, ◌∙◌, arith}
use Rattle.std.proofs.lemmas.Bool.{false≢true}
use Rattle.std.proofs.lemmas.Bool.Decides.{nat_tests}
use Rattle.txs_value_data.proofs.SameLemmas.{and_both, numbers}
use Rattle.txs_explore.specs.System.{System, has, IsIn, AreAlike, turns}
use Rattle.txs_explore.specs.Search.{Way, Found, behind, apart_from, joined, branches, ended, cut, among, search, Tells}

-- ---- truth values and lists

in_left : {A : Type 0} (x : A) (xs ys : List A) → IsIn x xs → IsIn x (xs ++ ys)
in_left x [] ys i = absurd i
in_left x (z ∷ xs) ys (inl e) = inl e
in_left x (z ∷ xs) ys (inr i) = inr (in_left x xs ys i)

in_right : {A : Type 0} (x : A) (xs ys : List A) → IsIn x ys → IsIn x (xs ++ ys)
in_right x [] ys i = i
in_right x (z ∷ xs) ys i = inr (in_right x xs ys i)

-- what is one of these is the first of them, or one of the others
pub has_cases : (k j : ℕ) (js : List ℕ) → has k (j ∷ js) ≡ true → (k ≡ j) ⊎ (has k js ≡ true)
has_cases k j js h = by_test (k == j) refl h
  where
    by_test : (b : Bool) → (k == j) ≡ b → (if b then true else has k js) ≡ true → (k ≡ j) ⊎ (has k js ≡ true)
    by_test true e h = inl (numbers k j e)
    by_test false e h = inr h

module _ (y : System) where
  -- those that are apart from an actor are those of the list that are
  apart_cases : (s : y.State) (k z : ℕ) (js : List ℕ) → has z (apart_from y s k js) ≡ true → (has z js ≡ true) × (y.apart s k z ≡ true)
  apart_cases s k z [] h = absurd (false≢true h)
  apart_cases s k z (j ∷ js) h = by_test (λ g. apart_cases s k z js g) (y.apart s k j) refl h
    where
      behind_j : (b : Bool) → (z == j) ≡ b → has z js ≡ true → (if b then true else has z js) ≡ true
      behind_j true e h = refl
      behind_j false e h = h

      later : (has z js ≡ true) × (y.apart s k z ≡ true) → (has z (j ∷ js) ≡ true) × (y.apart s k z ≡ true)
      later p = (behind_j (z == j) refl p.0, p.1)

      here : (e : z ≡ j) → y.apart s k j ≡ true → (has z (j ∷ js) ≡ true) × (y.apart s k z ≡ true)
      here e a = (at_j (z == j) refl, subst (λ x. y.apart s k x ≡ true) (sym e) a)
        where
          at_j : (b : Bool) → (z == j) ≡ b → (if b then true else has z js) ≡ true
          at_j true c = refl
          at_j false c = absurd (false≢true (sym c ∙ same_itself))
            where
              same_itself : (z == j) ≡ true
              same_itself = grind (arith, nat_tests, e)

      first_or : (has z (apart_from y s k js) ≡ true → (has z js ≡ true) × (y.apart s k z ≡ true)) → y.apart s k j ≡ true → (z ≡ j) ⊎ (has z (apart_from y s k js) ≡ true) → (has z (j ∷ js) ≡ true) × (y.apart s k z ≡ true)
      first_or again a (inl e) = here e a
      first_or again a (inr i) = later (again i)

      by_test : (has z (apart_from y s k js) ≡ true → (has z js ≡ true) × (y.apart s k z ≡ true)) → (b : Bool) → y.apart s k j ≡ b → has z (if b then j ∷ apart_from y s k js else apart_from y s k js) ≡ true → (has z (j ∷ js) ≡ true) × (y.apart s k z ≡ true)
      by_test again true a h = first_or again a (has_cases z j (apart_from y s k js) h)
      by_test again false a h = later (again h)

  -- ---- what is told

  pub tells_left : (o : y.Outcome) (xs zs : List (Way y)) → Tells y o xs → Tells y o (xs ++ zs)
  tells_left o xs zs t = (t.0, in_left t.0 xs zs t.1, t.2)

  pub tells_right : (o : y.Outcome) (xs zs : List (Way y)) → Tells y o zs → Tells y o (xs ++ zs)
  tells_right o xs zs t = (t.0, in_right t.0 xs zs t.1, t.2)

  behind_in : (k : ℕ) (w : Way y) (ws : List (Way y)) → IsIn w ws → IsIn (record { outcome = w.outcome; turns = k ∷ w.turns }) (behind y k ws)
  behind_in k w [] i = absurd i
  behind_in k w (v ∷ ws) (inl e) = inl (ap (λ x. record { outcome = x.outcome; turns = k ∷ x.turns }) e)
  behind_in k w (v ∷ ws) (inr i) = inr (behind_in k w ws i)

  pub tells_behind : (o : y.Outcome) (k : ℕ) (ws : List (Way y)) → Tells y o ws → Tells y o (behind y k ws)
  tells_behind o k ws t = (record { outcome = t.0.outcome; turns = k ∷ t.0.turns }, behind_in k t.0 ws t.1, t.2)

  module _ (Alike : y.State → y.State → Type 0) (h : AreAlike y Alike) where
    pub turns_alike : (ks : List ℕ) (s t : y.State) → Alike s t → Alike (turns y ks s) (turns y ks t)
    turns_alike [] s t a = a
    turns_alike (k ∷ ks) s t a = turns_alike ks (y.turn k s) (y.turn k t) (h.turn k s t a)

    -- an end is reached from a state, by these turns
    pub record Reaches (s e : y.State) : Type 0 where
      pub by : List ℕ
      pub there : Alike (turns y by s) e

    -- it is told of, or reached by a turn of one that sleeps first
    abbrev Covered : y.State → y.State → List ℕ → Found y → Type 0
    Covered s e asleep f = Tells y (y.outcome e) f.ways ⊎ ((z : ℕ) × (has z asleep ≡ true) × Reaches (y.turn z s) e)

    -- one that sleeps behind a turn sleeps before it too, and its turn may come first
    woken : (s e : y.State) (k : ℕ) (asleep : List ℕ) → (z : ℕ) × (has z (apart_from y s k asleep) ≡ true) × Reaches (y.turn z (y.turn k s)) e → (z : ℕ) × (has z asleep ≡ true) × Reaches (y.turn z s) e
    woken s e k asleep w =
        let both = apart_cases s k w.0 asleep w.1 in
        let swapped : Alike (turns y w.2.by (y.turn k (y.turn w.0 s))) (turns y w.2.by (y.turn w.0 (y.turn k s))) = turns_alike w.2.by (y.turn k (y.turn w.0 s)) (y.turn w.0 (y.turn k s)) (h.back (y.turn w.0 (y.turn k s)) (y.turn k (y.turn w.0 s)) (h.exchanged k w.0 s both.1)) in
        (w.0, both.0, record { by = k ∷ w.2.by; there = h.on (turns y w.2.by (y.turn k (y.turn w.0 s))) (turns y w.2.by (y.turn w.0 (y.turn k s))) e swapped w.2.there })

    -- behind the turn of an actor that doesn't sleep, and the turns of others, with what was found behind each
    module _ (s e : y.State) (j : ℕ) (ks asleep : List ℕ) (first rest : Found y)
        (below : first.whole ≡ true → Reaches (y.turn j s) e → Covered (y.turn j s) e (apart_from y s j asleep) first)
        (others : rest.whole ≡ true → (k : ℕ) → has k ks ≡ true → Reaches (y.turn k s) e → Covered s e (j ∷ asleep) rest) where
      woken_or : Covered (y.turn j s) e (apart_from y s j asleep) first → Covered s e asleep (joined y j first rest)
      woken_or (inl t) = inl (tells_left (y.outcome e) (behind y j first.ways) rest.ways (tells_behind (y.outcome e) j first.ways t))
      woken_or (inr w) = inr (woken s e j asleep w)

      to_first : (z : ℕ) → z ≡ j → Reaches (y.turn z s) e → first.whole ≡ true → Covered s e asleep (joined y j first rest)
      to_first z q r w = woken_or (below w (subst (λ x. Reaches (y.turn x s) e) q r))

      sleeper : first.whole ≡ true → (z : ℕ) → Reaches (y.turn z s) e → (z ≡ j) ⊎ (has z asleep ≡ true) → Covered s e asleep (joined y j first rest)
      sleeper w z r (inl q) = to_first z q r w
      sleeper w z r (inr i) = inr (z, i, r)

      to_rest : first.whole ≡ true → Covered s e (j ∷ asleep) rest → Covered s e asleep (joined y j first rest)
      to_rest w (inl t) = inl (tells_right (y.outcome e) (behind y j first.ways) rest.ways t)
      to_rest w (inr z) = sleeper w z.0 z.2 (has_cases z.0 j asleep z.1)

      by_place : (first.whole ≡ true) × (rest.whole ≡ true) → (k : ℕ) → Reaches (y.turn k s) e → (k ≡ j) ⊎ (has k ks ≡ true) → Covered s e asleep (joined y j first rest)
      by_place w k r (inl q) = to_first k q r w.0
      by_place w k r (inr i) = to_rest w.0 (others w.1 k i r)

    module _ (go : ℕ → List ℕ → Found y) (s e : y.State) (below : (k : ℕ) (sl : List ℕ) → (go k sl).whole ≡ true → Reaches (y.turn k s) e → Covered (y.turn k s) e sl (go k sl)) where
      branches_cover : (ks asleep : List ℕ) → (branches y go s asleep ks).whole ≡ true → (k : ℕ) → has k ks ≡ true → Reaches (y.turn k s) e → Covered s e asleep (branches y go s asleep ks)
      branches_cover [] asleep whole k i r = absurd (false≢true i)
      branches_cover (j ∷ ks) asleep whole k i r = by_sleep (λ sl. branches_cover ks sl) (has j asleep) refl whole
        where
          sleeping : ((sl : List ℕ) → (branches y go s sl ks).whole ≡ true → (k : ℕ) → has k ks ≡ true → Reaches (y.turn k s) e → Covered s e sl (branches y go s sl ks)) → has j asleep ≡ true → (branches y go s asleep ks).whole ≡ true → (k ≡ j) ⊎ (has k ks ≡ true) → Covered s e asleep (branches y go s asleep ks)
          sleeping again a w (inl q) = inr (k, subst (λ x. has x asleep ≡ true) (sym q) a, r)
          sleeping again a w (inr i) = again asleep w k i r

          by_sleep : ((sl : List ℕ) → (branches y go s sl ks).whole ≡ true → (k : ℕ) → has k ks ≡ true → Reaches (y.turn k s) e → Covered s e sl (branches y go s sl ks)) → (b : Bool) → has j asleep ≡ b → (if b then branches y go s asleep ks else joined y j (go j (apart_from y s j asleep)) (branches y go s (j ∷ asleep) ks)).whole ≡ true
              → Covered s e asleep (if b then branches y go s asleep ks else joined y j (go j (apart_from y s j asleep)) (branches y go s (j ∷ asleep) ks))
          by_sleep again true a w = sleeping again a w (has_cases k j ks i)
          by_sleep again false a w = by_place s e j ks asleep (go j (apart_from y s j asleep)) (branches y go s (j ∷ asleep) ks) (below j (apart_from y s j asleep)) (again (j ∷ asleep))
              (and_both (go j (apart_from y s j asleep)).whole (branches y go s (j ∷ asleep) ks).whole w) k r (has_cases k j ks i)

    -- ---- a search

    -- what is told of a state where nobody may go on
    pub tells_end : (s e : y.State) → Alike s e → Tells y (y.outcome e) (ended y s).ways
    tells_end s e a = (record { outcome = y.outcome s; turns = [] }, inl refl, sym (h.outcome s e a))

    abbrev Covers : ℕ → Type 0
    Covers n = (asleep : List ℕ) (s e : y.State) → y.enabled e ≡ [] → (search y n asleep s).whole ≡ true → Reaches s e → Covered s e asleep (search y n asleep s)

    -- where nobody may go on
    module _ (s e : y.State) (asleep : List ℕ) (a : Alike s e) where
      ends_cut : (es : List ℕ) → es ≡ [] → Covered s e asleep (cut y s es)
      ends_cut [] q = inl (tells_end s e a)
      ends_cut (k ∷ ks) q = inl (subst (λ l. Tells y (y.outcome e) (cut y s l).ways) (sym q) (tells_end s e a))

      ends_among : (go : ℕ → List ℕ → Found y) (es : List ℕ) → es ≡ [] → Covered s e asleep (among y go s asleep es)
      ends_among go es q = inl (subst (λ l. Tells y (y.outcome e) (among y go s asleep l).ways) (sym q) (tells_end s e a))

    pub ends_in_cut : (s e : y.State) → Alike s e → (es : List ℕ) → es ≡ [] → Tells y (y.outcome e) (cut y s es).ways
    ends_in_cut s e a es q = subst (λ l. Tells y (y.outcome e) (cut y s l).ways) (sym q) (tells_end s e a)

    ends : (n : ℕ) (asleep : List ℕ) (s e : y.State) → y.enabled e ≡ [] → Alike s e → Covered s e asleep (search y n asleep s)
    ends zero asleep s e q a = ends_cut s e asleep a (y.enabled s) (h.enabled s e a ∙ q)
    ends (suc n) asleep s e q a = ends_among s e asleep a (λ k sleepers. search y n sleepers (y.turn k s)) (y.enabled s) (h.enabled s e a ∙ q)

    cut_whole : (s : y.State) (k : ℕ) (es : List ℕ) → has k es ≡ true → (cut y s es).whole ≡ true → ⊥
    cut_whole s k [] i w = false≢true i
    cut_whole s k (j ∷ js) i w = false≢true w

    goes : (go : ℕ → List ℕ → Found y) (s e : y.State) (asleep : List ℕ) → ((k : ℕ) (sl : List ℕ) → (go k sl).whole ≡ true → Reaches (y.turn k s) e → Covered (y.turn k s) e sl (go k sl))
        → (k : ℕ) (es : List ℕ) → has k es ≡ true → (among y go s asleep es).whole ≡ true → Reaches (y.turn k s) e → Covered s e asleep (among y go s asleep es)
    goes go s e asleep below k [] i w r = absurd (false≢true i)
    goes go s e asleep below k (j ∷ js) i w r = branches_cover go s e below (j ∷ js) asleep w k i r

    -- a first turn of one that may go on
    turned : (n : ℕ) → Covers n → (asleep : List ℕ) (s e : y.State) → y.enabled e ≡ [] → (search y (suc n) asleep s).whole ≡ true → (k : ℕ) → has k (y.enabled s) ≡ true → Reaches (y.turn k s) e → Covered s e asleep (search y (suc n) asleep s)
    turned n below asleep s e q w k i r = goes (λ j sleepers. search y n sleepers (y.turn j s)) s e asleep (λ j sl w r. below sl (y.turn j s) e q w r) k (y.enabled s) i w r

    covers_by : (n : ℕ) → ((asleep : List ℕ) (s e : y.State) → y.enabled e ≡ [] → (search y n asleep s).whole ≡ true → (k : ℕ) → has k (y.enabled s) ≡ true → Reaches (y.turn k s) e → Covered s e asleep (search y n asleep s))
        → (asleep : List ℕ) (s e : y.State) → y.enabled e ≡ [] → (search y n asleep s).whole ≡ true → (ks : List ℕ) → Alike (turns y ks s) e → Covered s e asleep (search y n asleep s)
    covers_by n one asleep s e q w [] a = ends n asleep s e q a
    covers_by n one asleep s e q w (k ∷ ks) a = by_test (λ a. covers_by n one asleep s e q w ks a) (has k (y.enabled s)) refl
      where
        by_test : (Alike (turns y ks s) e → Covered s e asleep (search y n asleep s)) → (b : Bool) → has k (y.enabled s) ≡ b → Covered s e asleep (search y n asleep s)
        by_test again true i = one asleep s e q w k i (record { by = ks; there = a })
        by_test again false i = again (h.on (turns y ks s) (turns y ks (y.turn k s)) e (turns_alike ks s (y.turn k s) (h.back (y.turn k s) s (h.rests k s i))) a)

    covers : (n : ℕ) → Covers n
    covers zero asleep s e q w r = covers_by zero (λ sl t u p v k i z. absurd (cut_whole t k (y.enabled t) i v)) asleep s e q w r.by r.there
    covers (suc n) asleep s e q w r = covers_by (suc n) (turned n (covers n)) asleep s e q w r.by r.there

    -- with none asleep each end is told of
    pub complete : (n : ℕ) (s : y.State) → (search y n [] s).whole ≡ true → (ks : List ℕ) → y.enabled (turns y ks s) ≡ [] → Tells y (y.outcome (turns y ks s)) (search y n [] s).ways
    complete n s w ks q = awake (covers n [] s (turns y ks s) q w (record { by = ks; there = h.itself (turns y ks s) }))
      where
        awake : Covered s (turns y ks s) [] (search y n [] s) → Tells y (y.outcome (turns y ks s)) (search y n [] s).ways
        awake (inl t) = t
        awake (inr z) = absurd (false≢true z.1)
