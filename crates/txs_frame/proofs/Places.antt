-- Places in lists by ascending number.
use Rattle.std.proofs.Common.{◌≡◌, ◌≢◌, ℕ, zero, suc, ◌<◌, ◌≤◌, ◌==◌, Bool, true, false, if◌then◌else◌, List, [], ◌∷◌, ◌++◌, length, set, get_or, Some, None, Result, Ok, Err, refl, sym, ap, subst, ◌∙◌, arith}
use Rattle.std.specs.Prelude.{nat_lt, drop, insert, is_some}
use Rattle.std.specs.List.{slice_get}
use Rattle.std.specs.List.Sorted.{IsSearchInRange, IsBinarySearchResult, IsNonDecreasingBy}
use Rattle.std.specs.Ordering.{nat_cmp, ordering_index}
use Rattle.std.proofs.lemmas.Bool.{lt-ltb, le-ltb, ltb-true, ltb-false, eq-eqb, eqb-true, eqb-false, ne_eqb, true≢false, false≢true}
use Rattle.std.proofs.lemmas.Bool.Decides.{nat_tests}
use Rattle.std.proofs.lemmas.Cmp.{ranked}
use Rattle.std.proofs.lemmas.List.{take_all, drop_all}
use Rattle.txs_value_data.specs.declared.value.CellId.{CellId}
use Rattle.txs_frame.specs.Frame.{with_cell}
use Rattle.txs_frame.specs.Kept.{Ascends, item_of, with_item, IsPlaceOf, cell_number}

pub less_differs : (m n : ℕ) → m < n → m ≢ n
less_differs m n lt e = absurd (omega (arith, lt, e))

pub more_differs : (m n : ℕ) → n < m → m ≢ n
more_differs m n lt e = absurd (omega (arith, lt, e))

module _ {X : Type 0} (n : X → ℕ) where
  pub at_least : (l : ℕ) (xs : List X) → Ascends n l xs → (k : ℕ) (d : X) → k < length xs → l ≤ n (get_or xs k d)
  at_least l [] up k d lt = absurd (omega (arith, lt))
  at_least l (x ∷ xs) up zero d lt = up.0
  at_least l (x ∷ xs) up (suc k) d lt =
      let h = at_least (suc (n x)) xs up.1 k d (omega (arith, lt)) in
      let g = up.0 in
      omega (arith, h, g)

  rises : (l : ℕ) (xs : List X) → Ascends n l xs → (i j : ℕ) (d : X) → i ≤ j → j < length xs → n (get_or xs i d) ≤ n (get_or xs j d)
  rises l [] up i j d le lt = absurd (omega (arith, lt))
  rises l (x ∷ xs) up zero zero d le lt = omega arith
  rises l (x ∷ xs) up zero (suc j) d le lt = let h = at_least (suc (n x)) xs up.1 j d (omega (arith, lt)) in omega (arith, h)
  rises l (x ∷ xs) up (suc i) zero d le lt = absurd (omega (arith, le))
  rises l (x ∷ xs) up (suc i) (suc j) d le lt = rises (suc (n x)) xs up.1 i j d (omega (arith, le)) (omega (arith, lt))

  -- an item joins, and the numbers still rise
  pub ascends_with : (l : ℕ) (xs : List X) (y : X) → Ascends n l xs → l ≤ n y → Ascends n l (with_item n xs y)
  ascends_with l [] y up le = (le, tt)
  ascends_with l (x ∷ xs) y up le = test (n x == n y) (nat_lt (n y) (n x)) refl refl (ascends_with (suc (n x)) xs y up.1)
    where
      test : (a b : Bool) → (n x == n y) ≡ a → nat_lt (n y) (n x) ≡ b → (suc (n x) ≤ n y → Ascends n (suc (n x)) (with_item n xs y)) → Ascends n l (if a then y ∷ xs else if b then y ∷ x ∷ xs else x ∷ with_item n xs y)
      test true b e f rest = (le, subst (λ m. Ascends n (suc m) xs) (eqb-true (n x) (n y) e) up.1)
      test false true e f rest = (le, ((let h = ltb-true (n y) (n x) f in omega (arith, h)), up.1))
      test false false e f rest =
          let h = ltb-false (n y) (n x) f in
          let g = eqb-false (n x) (n y) e in
          (up.0, rest (omega (arith, h, g)))

  -- a number below all is no item's
  pub none_below : (l : ℕ) (xs : List X) (k : ℕ) → Ascends n l xs → k < l → item_of n xs k ≡ None
  none_below l [] k up lt = refl
  none_below l (x ∷ xs) k up lt =
      let g = up.0 in
      ap (λ b. if b then Some x else item_of n xs k) (ne_eqb (n x) k (more_differs (n x) k (omega (arith, g, lt))))
      ∙ none_below (suc (n x)) xs k up.1 (omega (arith, g, lt))

  -- ---- an item that is there

  IsAt : List X → ℕ → ℕ → Type 0
  IsAt xs i k = (d : X) → n (get_or xs i d) ≡ k

  later : (l : ℕ) (x : X) (xs : List X) (i k : ℕ) → Ascends n l (x ∷ xs) → suc i < length (x ∷ xs) → IsAt (x ∷ xs) (suc i) k → n x < k
  unfolding IsAt
  later l x xs i k up lt at = let h = at_least (suc (n x)) xs up.1 i x (omega (arith, lt)) in let e = at x in omega (arith, h, e)

  item_there : (l : ℕ) (xs : List X) (i k : ℕ) → Ascends n l xs → i < length xs → IsAt xs i k → item_of n xs k ≡ slice_get xs i
  unfolding IsAt
  item_there l [] i k up lt at = absurd (omega (arith, lt))
  item_there l (x ∷ xs) zero k up lt at = ap (λ b. if b then Some x else item_of n xs k) (eq-eqb (n x) k (at x))
  item_there l (x ∷ xs) (suc i) k up lt at =
      ap (λ b. if b then Some x else item_of n xs k) (ne_eqb (n x) k (less_differs (n x) k (later l x xs i k up lt at)))
      ∙ item_there (suc (n x)) xs i k up.1 (omega (arith, lt)) at

  put_there : (l : ℕ) (xs : List X) (i k : ℕ) → Ascends n l xs → i < length xs → IsAt xs i k → (y : X) → n y ≡ k → with_item n xs y ≡ set xs i y
  unfolding IsAt
  put_there l [] i k up lt at y e = absurd (omega (arith, lt))
  put_there l (x ∷ xs) zero k up lt at y e =
      ap (λ b. if b then y ∷ xs else if nat_lt (n y) (n x) then y ∷ x ∷ xs else x ∷ with_item n xs y) (eq-eqb (n x) (n y) (at x ∙ sym e))
  put_there l (x ∷ xs) (suc i) k up lt at y e =
      let less : n x < n y = subst (λ m. n x < m) (sym e) (later l x xs i k up lt at) in
      ap (λ b. if b then y ∷ xs else if nat_lt (n y) (n x) then y ∷ x ∷ xs else x ∷ with_item n xs y) (ne_eqb (n x) (n y) (less_differs (n x) (n y) less))
      ∙ ap (λ b. if b then y ∷ x ∷ xs else x ∷ with_item n xs y) (le-ltb (n y) (n x) (omega (arith, less)))
      ∙ ap (λ zs. x ∷ zs) (put_there (suc (n x)) xs i k up.1 (omega (arith, lt)) at y e)

  -- ---- an item that is in no place

  record IsGap (xs : List X) (i k : ℕ) : Type 0 where
    within : i ≤ length xs
    before : (j : ℕ) (d : X) → j < i → n (get_or xs j d) < k
    after : (j : ℕ) (d : X) → i ≤ j → j < length xs → k < n (get_or xs j d)

  gap_tail : (x : X) (xs : List X) (i k : ℕ) → IsGap (x ∷ xs) (suc i) k → IsGap xs i k
  gap_tail x xs i k g = record {
    within = let h : suc i ≤ suc (length xs) = g.within in omega (arith, h);
    before = λ j d lt. g.before (suc j) d (omega (arith, lt));
    after = λ j d le lt. g.after (suc j) d (omega (arith, le)) (omega (arith, lt));
  }

  gap_over : (x : X) (xs : List X) (k : ℕ) → IsGap (x ∷ xs) 0 k → IsGap xs 0 k
  gap_over x xs k g = record {
    within = omega arith;
    before = λ j d lt. absurd (omega (arith, lt));
    after = λ j d le lt. g.after (suc j) d (omega (arith, le)) (omega (arith, lt));
  }

  item_absent : (xs : List X) (i k : ℕ) → IsGap xs i k → item_of n xs k ≡ None
  item_absent [] i k g = refl
  item_absent (x ∷ xs) zero k g =
      ap (λ b. if b then Some x else item_of n xs k) (ne_eqb (n x) k (more_differs (n x) k (g.after 0 x (omega arith) (omega arith))))
      ∙ item_absent xs zero k (gap_over x xs k g)
  item_absent (x ∷ xs) (suc i) k g =
      ap (λ b. if b then Some x else item_of n xs k) (ne_eqb (n x) k (less_differs (n x) k (g.before 0 x (omega arith))))
      ∙ item_absent xs i k (gap_tail x xs i k g)

  put_absent : (xs : List X) (i k : ℕ) → IsGap xs i k → (y : X) → n y ≡ k → with_item n xs y ≡ insert xs i y
  put_absent [] zero k g y e = refl
  put_absent [] (suc i) k g y e = let h : suc i ≤ 0 = g.within in absurd (omega (arith, h))
  put_absent (x ∷ xs) zero k g y e =
      let more : n y < n x = subst (λ m. m < n x) (sym e) (g.after 0 x (omega arith) (omega arith)) in
      ap (λ b. if b then y ∷ xs else if nat_lt (n y) (n x) then y ∷ x ∷ xs else x ∷ with_item n xs y) (ne_eqb (n x) (n y) (more_differs (n x) (n y) more))
      ∙ ap (λ b. if b then y ∷ x ∷ xs else x ∷ with_item n xs y) (lt-ltb (n y) (n x) more)
  put_absent (x ∷ xs) (suc i) k g y e =
      let less : n x < n y = subst (λ m. n x < m) (sym e) (g.before 0 x (omega arith)) in
      ap (λ b. if b then y ∷ xs else if nat_lt (n y) (n x) then y ∷ x ∷ xs else x ∷ with_item n xs y) (ne_eqb (n x) (n y) (less_differs (n x) (n y) less))
      ∙ ap (λ b. if b then y ∷ x ∷ xs else x ∷ with_item n xs y) (le-ltb (n y) (n x) (omega (arith, less)))
      ∙ ap (λ zs. x ∷ zs) (put_absent xs i k (gap_tail x xs i k g) y e)

  -- a binary search by number finds the place
  pub placed : (xs : List X) (k : ℕ) (r : Result ℕ ℕ) → Ascends n 0 xs → IsSearchInRange r (length xs) → IsBinarySearchResult (λ y. nat_cmp (n y) k) xs r → IsPlaceOf n xs k r
  unfolding IsAt
  placed xs k (Ok i) up within equal =
      let at : (d : X) → n (get_or xs i d) ≡ k = λ d. ranked _ k _ (sym (equal d)) in
      record { within = within; is = item_there 0 xs i k up within at; puts = put_there 0 xs i k up within at }
  placed xs k (Err i) up within parted =
      let sorted : IsNonDecreasingBy (λ y. ordering_index (nat_cmp (n y) k)) xs = λ a b d le lt. higher (n (get_or xs a d)) (n (get_or xs b d)) (rises 0 xs up a b d le lt) in
      let gap : IsGap xs i k = record {
        within = within;
        before = λ j d lt. ranked _ k _ (sym ((parted sorted).0 j d (omega arith) lt));
        after = λ j d le lt. ranked _ k _ (sym ((parted sorted).1 j d le lt));
      } in
      record { within = within; is = item_absent xs i k gap; puts = put_absent xs i k gap }
    where
      higher : (a b : ℕ) → a ≤ b → ordering_index (nat_cmp a k) ≤ ordering_index (nat_cmp b k)
      higher a b le = grind (arith, nat_tests)

-- ---- sets of cells

-- a cell that isn't in the set is put there
pub cell_joins : (ds : List CellId) (c : CellId) → item_of cell_number ds c.number ≡ None → with_cell ds c ≡ with_item cell_number ds c
cell_joins [] c e = refl
cell_joins (d ∷ ds) c e = test (d.number == c.number) e (cell_joins ds c)
  where
    test : (a : Bool) → (if a then Some d else item_of cell_number ds c.number) ≡ None → (item_of cell_number ds c.number ≡ None → with_cell ds c ≡ with_item cell_number ds c) → (if a then d ∷ ds else if nat_lt c.number d.number then c ∷ d ∷ ds else d ∷ with_cell ds c) ≡ (if a then c ∷ ds else if nat_lt c.number d.number then c ∷ d ∷ ds else d ∷ with_item cell_number ds c)
    test true f rest = absurd (true≢false (ap is_some f))
    test false f rest = ap (λ zs. if nat_lt c.number d.number then c ∷ d ∷ ds else d ∷ zs) (rest f)

-- a cell that is in the set leaves it as it is
pub cell_stays : (l : ℕ) (ds : List CellId) (c x : CellId) → Ascends cell_number l ds → item_of cell_number ds c.number ≡ Some x → with_cell ds c ≡ ds
cell_stays l [] c x up e = absurd (false≢true (ap is_some e))
cell_stays l (d ∷ ds) c x up e = test (d.number == c.number) (nat_lt c.number d.number) refl e (cell_stays (suc d.number) ds c x up.1)
  where
    test : (a b : Bool) → nat_lt c.number d.number ≡ b → (if a then Some d else item_of cell_number ds c.number) ≡ Some x → (item_of cell_number ds c.number ≡ Some x → with_cell ds c ≡ ds) → (if a then d ∷ ds else if b then c ∷ d ∷ ds else d ∷ with_cell ds c) ≡ d ∷ ds
    test true b f g rest = refl
    test false true f g rest =
        let less = ltb-true c.number d.number f in
        let none = none_below cell_number (suc d.number) ds c.number up.1 (omega (arith, less)) in
        absurd (false≢true (ap is_some (sym none ∙ g)))
    test false false f g rest = ap (λ zs. d ∷ zs) (rest g)

-- a set with one more cell ascends
pub cells_ascend : (l : ℕ) (ds : List CellId) (c : CellId) → Ascends cell_number l ds → l ≤ c.number → Ascends cell_number l (with_cell ds c)
cells_ascend l [] c up le = (le, tt)
cells_ascend l (d ∷ ds) c up le = test (d.number == c.number) (nat_lt c.number d.number) refl refl (cells_ascend (suc d.number) ds c up.1)
  where
    test : (a b : Bool) → (d.number == c.number) ≡ a → nat_lt c.number d.number ≡ b → (suc d.number ≤ c.number → Ascends cell_number (suc d.number) (with_cell ds c)) → Ascends cell_number l (if a then d ∷ ds else if b then c ∷ d ∷ ds else d ∷ with_cell ds c)
    test true b e f more = up
    test false true e f more = (le, (ltb-true c.number d.number f, up.1))
    test false false e f more =
        let least = ltb-false c.number d.number f in
        let other = eqb-false d.number c.number e in
        (up.0, more (grind (arith, least, other)))

-- ---- what stands at a place

pub get_there : {X : Type 0} (xs : List X) (i : ℕ) (d : X) → i < length xs → slice_get xs i ≡ Some (get_or xs i d)
get_there [] i d lt = absurd (omega (arith, lt))
get_there (x ∷ xs) zero d lt = refl
get_there (x ∷ xs) (suc i) d lt = get_there xs i d (omega (arith, lt))

-- what is put behind all others
pub insert_last : {X : Type 0} (xs : List X) (i : ℕ) (y : X) → i ≡ length xs → xs ++ y ∷ [] ≡ insert xs i y
insert_last xs i y e =
    let le : length xs ≤ i = omega (arith, e) in
    sym (ap (λ zs. zs ++ y ∷ drop i xs) (take_all i xs le) ∙ ap (λ zs. xs ++ y ∷ zs) (drop_all i xs le))
