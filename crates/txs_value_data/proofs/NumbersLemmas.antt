-- Lists of numbers alone, as they are built, read and cut; and vectors that are compared row by row.
use Rattle.std.proofs.Common.{◌≡◌, ℕ, zero, suc, ◌+◌, ◌*◌, max, ◌<◌, ◌≤◌, ◌++◌, List, [], ◌∷◌, length, get_or, map, set, take, drop, refl, sym, ap, ◌∙◌, arith}
use Rattle.std.proofs.lemmas.List.{length-take, length-drop, take_more, get_or_read}
use Rattle.txs_value_data.specs.Numbers.{IsNumber, AreNumbers}
use Rattle.txs_value_data.specs.PlainValue.{PlainValue, row_size}
use Rattle.txs_value_data.specs.View.{plain_of, plains_of, value_of}
use Rattle.txs_value_data.specs.declared.value.Value.{Value}
use Rattle.txs_value_data.proofs.ItemsLemmas.{value_of-plain_of, length-plains_of}
use Rattle.txs_value_data.proofs.WindowLemmas.{window_next, window_size}

AreNumbers-append : (ds es : List PlainValue) → AreNumbers ds → AreNumbers es → AreNumbers (ds ++ es)
AreNumbers-append [] es h k = k
AreNumbers-append (d ∷ ds) es h k = (h.0, AreNumbers-append ds es h.1 k)

pub AreNumbers-take : (ds : List PlainValue) (n : ℕ) → AreNumbers ds → AreNumbers (take n ds)
AreNumbers-take [] zero h = tt
AreNumbers-take [] (suc n) h = tt
AreNumbers-take (d ∷ ds) zero h = tt
AreNumbers-take (d ∷ ds) (suc n) h = (h.0, AreNumbers-take ds n h.1)

AreNumbers-drop : (ds : List PlainValue) (n : ℕ) → AreNumbers ds → AreNumbers (drop n ds)
AreNumbers-drop [] zero h = tt
AreNumbers-drop [] (suc n) h = tt
AreNumbers-drop (d ∷ ds) zero h = h
AreNumbers-drop (d ∷ ds) (suc n) h = AreNumbers-drop ds n h.1

pub number_at : (vs : List Value) (i : ℕ) (v : Value) → AreNumbers (plains_of vs) → i < length vs → v ≡ get_or vs i v → IsNumber (plain_of v)
number_at [] i v h lt is = absurd (omega arith)
number_at (w ∷ vs) zero v h lt is = rw is h.0
number_at (w ∷ vs) (suc i) v h lt is = number_at vs i v h.1 (omega arith) is

-- what is known of all items where a number is 0 that falls to none of theirs
pub numbers-more : (ds us : List PlainValue) (d : PlainValue) (m n k : ℕ) → us ≡ ds ++ d ∷ [] → (m ≡ 0 → AreNumbers ds) → (n ≡ 0 → IsNumber d) → k ≡ max m n → k ≡ 0 → AreNumbers us
numbers-more ds us d m n k is before one top none = rw is (AreNumbers-append ds (d ∷ []) (before (omega (arith, top, none))) (one (omega (arith, top, none)), tt))

pub numbers-fewer : (ds us : List PlainValue) (n m : ℕ) → us ≡ take n ds → (m ≡ 0 → AreNumbers ds) → m ≡ 0 → AreNumbers us
numbers-fewer ds us n m is before none = rw is (AreNumbers-take ds n (before none))

pub numbers-changed : (ds us : List PlainValue) (d : PlainValue) (i m n k : ℕ) → us ≡ take i ds ++ d ∷ drop (i + 1) ds → (m ≡ 0 → AreNumbers ds) → (n ≡ 0 → IsNumber d) → k ≡ max m n → k ≡ 0 → AreNumbers us
numbers-changed ds us d i m n k is before one top none =
    let all = before (omega (arith, top, none)) in
    rw is (AreNumbers-append (take i ds) (d ∷ drop (i + 1) ds) (AreNumbers-take ds i all) (one (omega (arith, top, none)), AreNumbers-drop ds (i + 1) all))

-- a row of numbers stays one with one more, where a number takes the place of another, and where it is cut
pub numbers_push : (ws : List Value) (v : Value) → IsNumber (plain_of v) → AreNumbers (plains_of ws) → AreNumbers (plains_of (ws ++ v ∷ []))
numbers_push [] v one h = (one, tt)
numbers_push (w ∷ ws) v one h = (h.0, numbers_push ws v one h.1)

pub numbers_set : (ws : List Value) (n : ℕ) (v : Value) → IsNumber (plain_of v) → AreNumbers (plains_of ws) → AreNumbers (plains_of (set ws n v))
numbers_set [] n v one h = tt
numbers_set (w ∷ ws) zero v one h = (one, h.1)
numbers_set (w ∷ ws) (suc n) v one h = (h.0, numbers_set ws n v one h.1)

pub numbers_cut : (ws : List Value) (n : ℕ) → AreNumbers (plains_of ws) → AreNumbers (plains_of (take n ws))
numbers_cut [] zero h = tt
numbers_cut [] (suc n) h = tt
numbers_cut (w ∷ ws) zero h = tt
numbers_cut (w ∷ ws) (suc n) h = (h.0, numbers_cut ws n h.1)

pub numbers_so_far : (vs : List Value) (i : ℕ) (v : Value) → i < length vs → v ≡ get_or vs i v → IsNumber (plain_of v) → AreNumbers (plains_of (take i vs)) → AreNumbers (plains_of (take (i + 1) vs))
numbers_so_far vs i v lt is one before =
    rw (take_more vs i v lt, sym is) (numbers_push (take i vs) v one before)

-- two lists of values with the same plain values are equal
plains_back : (us : List Value) → map value_of (plains_of us) ≡ us
plains_back [] = refl
plains_back (u ∷ us) = λ i. value_of-plain_of u i ∷ plains_back us i

pub plains_of-one : (us vs : List Value) → plains_of us ≡ plains_of vs → us ≡ vs
plains_of-one us vs e = sym (plains_back us) ∙ ap (λ ds. map value_of ds) e ∙ plains_back vs

-- at each place two lists that are compared are equal
module _ (us vs : List Value) (i : ℕ) (u v : Value) (in_us : i < length us) (in_vs : i < length vs) (is_u : u ≡ get_or us i u) (is_v : v ≡ get_or vs i v) where
  other : v ≡ get_or vs i u
  other = get_or_read vs i v in_vs is_v u

-- rows of 32 places of two vectors of one length
module _ (ds es : List PlainValue) (len : length ds ≡ length es) (n : ℕ) (us vs : List Value) (is_u : plains_of us ≡ take 32 (drop (n * 32) ds)) (is_v : plains_of vs ≡ take 32 (drop (n * 32) es)) where
  pub row_length : length us ≡ length vs
  row_length =
      omega (arith, len, length-plains_of us, length-plains_of vs, ap length is_u, ap length is_v, length-take 32 (drop (n * 32) ds), length-take 32 (drop (n * 32) es), length-drop (n * 32) ds, length-drop (n * 32) es)

  pub row_falls : row_size (plains_of us) ≤ row_size ds
  row_falls = rw is_u (window_size ds (n * 32) 32)

  pub rows_here : ds ≡ es → us ≡ vs
  rows_here e = plains_of-one us vs (is_u ∙ ap (λ xs. take 32 (drop (n * 32) xs)) e ∙ sym is_v)

  pub rows_next : us ≡ vs → take (n * 32) ds ≡ take (n * 32) es → take ((n + 1) * 32) ds ≡ take ((n + 1) * 32) es
  rows_next e before = window_next ds es (n * 32) 32 ((n + 1) * 32) (omega arith) (sym is_u ∙ ap plains_of e ∙ is_v) before

-- a list of numbers ends with a number, and the rest are numbers
pub numbers_back : (vs : List Value) (v : Value) → AreNumbers (plains_of (vs ++ v ∷ [])) → IsNumber (plain_of v) × AreNumbers (plains_of vs)
numbers_back [] v h = (h.0, tt)
numbers_back (w ∷ vs) v h = let rest = numbers_back vs v h.1 in (rest.0, (h.0, rest.1))

pub row_numbers : (ds : List PlainValue) (n : ℕ) (us : List Value) → plains_of us ≡ take 32 (drop (n * 32) ds) → AreNumbers ds → AreNumbers (plains_of us)
row_numbers ds n us is h = rw is (AreNumbers-take (drop (n * 32) ds) 32 (AreNumbers-drop ds (n * 32) h))
