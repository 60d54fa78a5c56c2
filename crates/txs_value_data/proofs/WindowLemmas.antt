-- Part of a list: so many items from a place on. In rows put end to end a row is such a part.
use Rattle.std.proofs.Common.{◌≡◌, ℕ, zero, suc, ◌+◌, ◌*◌, ◌-◌, ◌/◌, ◌%◌, ◌<◌, ◌≤◌, ◌++◌, List, [], ◌∷◌, length, get_or, take, drop, refl, sym, ap, ◌∙◌, mod-lt, div-lt_iff_lt-mul, suc-mul, zero-mul, arith}
use Rattle.std.proofs.lemmas.Nat.{div-add-mod'}
use Rattle.std.proofs.lemmas.List.{length-append, length-drop, take_all, take-append-le, drop-append-le, take-append-drop}
use Rattle.std.proofs.Math.Seq.{drop-append-add}
use Rattle.txs_value_data.specs.PlainValue.{PlainValue, row_size}
use Rattle.txs_value_data.specs.Falls.{row_size-append}
use Rattle.txs_value_data.specs.Rows.{joined, AreFull, AreRows}
use Rattle.txs_value_data.proofs.RowsLemmas.{length-joined}

-- a place in the first row of a width, and in a later one
at_first : (w s k : ℕ) → k ≡ zero * w + s → k ≡ s
at_first w s k e = omega (arith, zero-mul w)

at_next : (w q s k n : ℕ) → k ≡ suc q * w + s → n ≡ w → k ≡ n + (q * w + s)
at_next w q s k n e is = omega (arith, suc-mul q w)

module _ {A : Type 0} where
  pub window-before : (xs ys : List A) (k n : ℕ) → k + n ≤ length xs → take n (drop k (xs ++ ys)) ≡ take n (drop k xs)
  window-before xs ys k n le =
      let short : n ≤ length (drop k xs) = omega (arith, length-drop k xs) in
      ap (λ zs. take n zs) (drop-append-le k xs ys (omega arith)) ∙ take-append-le n (drop k xs) ys short

  pub window-behind : (xs ys : List A) (k m n : ℕ) → k ≡ length xs + m → take n (drop k (xs ++ ys)) ≡ take n (drop m ys)
  window-behind xs ys k m n e = ap (λ j. take n (drop j (xs ++ ys))) e ∙ ap (λ zs. take n zs) (drop-append-add xs ys m)

  pub window_all : (xs : List A) (n : ℕ) → length xs ≤ n → take n (drop 0 xs) ≡ xs
  window_all xs n le = take_all n xs le

  take_none : (n : ℕ) → take {A = A} n [] ≡ []
  take_none zero = refl
  take_none (suc n) = refl

  drop_none : (n : ℕ) → drop {A = A} n [] ≡ []
  drop_none zero = refl
  drop_none (suc n) = refl

  -- a list up to a place, and from there on
  take_window : (xs : List A) (k n m : ℕ) → m ≡ k + n → take m xs ≡ take k xs ++ take n (drop k xs)
  take_window [] k n m e = rw (take_none m, take_none k, drop_none k, take_none n) refl
  take_window (x ∷ xs) zero n m e =
      let one : m ≡ n = omega arith in
      ap (λ j. take j (x ∷ xs)) one
  take_window (x ∷ xs) (suc k) n zero e = absurd (omega arith)
  take_window (x ∷ xs) (suc k) n (suc m) e = ap (λ zs. x ∷ zs) (take_window xs k n m (omega arith))

  pub window_next : (xs ys : List A) (k n m : ℕ) → m ≡ k + n → take n (drop k xs) ≡ take n (drop k ys) → take k xs ≡ take k ys → take m xs ≡ take m ys
  window_next xs ys k n m at here before =
      take_window xs k n m at ∙ (λ i. before i ++ here i) ∙ sym (take_window ys k n m at)

  -- a part of a row is a part of all rows
  pub window-joined : (w : ℕ) (cs : List (List A)) (q s k n : ℕ) (c : List A) → AreFull w cs → q < length cs → s + n ≤ w → c ≡ get_or cs q c → k ≡ q * w + s
      → take n (drop k (joined cs)) ≡ take n (drop s c)
  window-joined w [] q s k n c h lt small is e = absurd (omega arith)
  window-joined w (b ∷ cs) zero s k n c h lt small is e = rw (at_first w s k e, is) (window-before b (joined cs) s n (omega (arith, h.0)))
  window-joined w (b ∷ cs) (suc q) s k n c h lt small is e =
      window-behind b (joined cs) k (q * w + s) n (at_next w q s k (length b) e h.0) ∙ window-joined w cs q s (q * w + s) n c h.1 (omega arith) small is refl

  full-at : (w : ℕ) (cs : List (List A)) (q : ℕ) (c : List A) → AreFull w cs → q < length cs → c ≡ get_or cs q c → length c ≡ w
  full-at w [] q c h lt is = absurd (omega arith)
  full-at w (b ∷ cs) zero c h lt is = rw is h.0
  full-at w (b ∷ cs) (suc q) c h lt is = full-at w cs q c h.1 (omega arith) is

  -- one of full leaves, by its number
  module _ (cs : List (List A)) (full : AreRows 32 32 cs) (q : ℕ) (lt : q * 32 < length (joined cs)) where
    pub leaf_there : q < length cs
    leaf_there = omega (arith, length-joined 32 cs full.0)

    pub leaf-window : (c : List A) → c ≡ get_or cs q c → c ≡ take 32 (drop (q * 32) (joined cs))
    leaf-window c is =
        let whole : length c ≤ 32 = omega (arith, full-at 32 cs q c full.0 leaf_there is) in
        sym (window-joined 32 cs q 0 (q * 32) 32 c full.0 leaf_there (omega arith) is (omega arith) ∙ window_all c 32 whole)

  -- the same where branches stand before the leaves
  module _ (bs cs : List (List A)) (ds : List A) (full_b : AreRows 1024 64 bs) (full_c : AreRows 32 32 cs) (seen : joined bs ++ joined cs ≡ ds) (q m : ℕ) (at : m ≡ length bs * 32) where
    length-bs : length (joined bs) ≡ length bs * 1024
    length-bs = length-joined 1024 bs full_b.0

    module _ (lt : q < m) where
      pub branch_number : q / 32 < length bs
      branch_number = (div-lt_iff_lt-mul (omega arith)).1 (rw (sym at) lt)

      pub branch_row : (b : List A) → b ≡ get_or bs (q / 32) b → q % 32 * 32 < length b
      branch_row b is =
          let small : q % 32 < 32 = mod-lt q (omega arith) in
          omega (arith, full-at 1024 bs (q / 32) b full_b.0 branch_number is)

      pub branch-window : (b : List A) → b ≡ get_or bs (q / 32) b → take 32 (drop (q % 32 * 32) b) ≡ take 32 (drop (q * 32) ds)
      branch-window b is =
          let small : q % 32 < 32 = mod-lt q (omega arith) in
          let place : q * 32 ≡ q / 32 * 1024 + q % 32 * 32 = omega (arith, div-add-mod' q 32) in
          let inside : q * 32 + 32 ≤ length (joined bs) = omega (arith, length-bs, at) in
          sym (rw (sym seen) (window-before (joined bs) (joined cs) (q * 32) 32 inside ∙ window-joined 1024 bs (q / 32) (q % 32 * 32) (q * 32) 32 b full_b.0 branch_number (omega arith) is place))

    module _ (le : m ≤ q) where
      pub leaf_row : q * 32 < length ds → (q - m) * 32 < length (joined cs)
      leaf_row lt = omega (arith, length-bs, ap length seen, length-append (joined bs) (joined cs), at)

      pub leaves-window : take 32 (drop ((q - m) * 32) (joined cs)) ≡ take 32 (drop (q * 32) ds)
      leaves-window =
          let place : q * 32 ≡ length (joined bs) + (q - m) * 32 = omega (arith, length-bs, at) in
          sym (rw (sym seen) (window-behind (joined bs) (joined cs) (q * 32) ((q - m) * 32) 32 place))

  -- rows, and a list of at most 32 behind them
  module _ (ds es whole : List A) (seen : ds ++ es ≡ whole) (short : length es ≤ 32) (q : ℕ) (lt : q * 32 < length whole) where
    pub stored-window : (m : ℕ) → m * 32 ≡ length ds → q < m → take 32 (drop (q * 32) ds) ≡ take 32 (drop (q * 32) whole)
    stored-window m is before = rw (sym seen) (sym (window-before ds es (q * 32) 32 (omega (arith, is))))

    pub tail-window : (m : ℕ) → m * 32 ≡ length ds → m ≤ q → es ≡ take 32 (drop (q * 32) whole)
    tail-window m is behind =
        let place : q * 32 ≡ length ds + 0 = omega (arith, is, ap length seen, length-append ds es) in
        sym (rw (sym seen) (window-behind ds es (q * 32) 0 32 place ∙ window_all es 32 short))

-- a part of a list has no more inside than the list
pub window_size : (ds : List PlainValue) (k n : ℕ) → row_size (take n (drop k ds)) ≤ row_size ds
window_size ds k n =
    let cut : row_size (take k ds ++ drop k ds) ≡ row_size ds = ap row_size (take-append-drop k ds) in
    let part : row_size (take n (drop k ds) ++ drop n (drop k ds)) ≡ row_size (drop k ds) = ap row_size (take-append-drop n (drop k ds)) in
    omega (arith, cut, part, row_size-append (take k ds) (drop k ds), row_size-append (take n (drop k ds)) (drop n (drop k ds)))
