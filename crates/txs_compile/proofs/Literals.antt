-- Values that operations and vectors make of literals are values that a literal may be.
use Rattle.std.proofs.Common.{◌≡◌, ℕ, zero, suc, ◌+◌, ◌-◌, ◌<◌, ◌≤◌, ◌%◌, true, List, [], ◌∷◌, ◌++◌, length, take, drop, ℤ, pos, negsuc, ◌+ℤ◌, sym, subst, length-append, length-take, length-drop, mod-lt, arith}
use Rattle.std.specs.Prelude.{int_rem, unsigned_abs}
use Rattle.std.specs.Int.{int_rem_euclid}
use Rattle.std.specs.List.{AllByRecursion}
use Rattle.std.proofs.lemmas.Bool.Decides.{nat_tests}
use Rattle.std.proofs.lemmas.Int.{ints, rem_below}
use Rattle.txs_value_data.specs.Limits.{most_depth, most_items, IsVector}
use Rattle.txs_value_data.specs.PlainValue.{PlainValue, PlainValues, nil, truth, int, key, text, vector, cell, end, more, depth, row_depth, plain_row}
use Rattle.txs_value_data.proofs.ItemsLemmas.{plain_list-plain_row}
use Rattle.txs_value_apply.specs.Core.{fits, below}
use Rattle.txs_reader.specs.Bytes.{is_i64}
use Rattle.txs_value_apply.proofs.CoreKeeps.{Rules, core_keeps, vector_keeps}
use Rattle.txs_opt.proofs.FoldedEverywhere.{KeptByOperations}
use Rattle.txs_compile.specs.ReadProgram.{IsLiteralIn, AreLiteralsIn, is_read}
use Rattle.txs_compile.proofs.Values.{is_below}

-- ---- levels

mutual
  deep : (d : PlainValue) (n : ℕ) → IsLiteralIn d n → depth d ≤ n
  deep nil n h = omega arith
  deep (truth b) n h = omega arith
  deep (int z) n h = omega arith
  deep (key bs) n h = omega arith
  deep (text bs) n h = omega arith
  deep (vector ds) n h = omega (arith, h.0, row_deep ds (n - 1) h.2)
  deep (cell c) n h = omega arith

  row_deep : (ds : PlainValues) (n : ℕ) → AreLiteralsIn ds n → row_depth ds ≤ n
  row_deep end n h = omega arith
  row_deep (more d ds) n h = omega (arith, deep d n h.0, row_deep ds n h.1)

mutual
  within : (d : PlainValue) (m n : ℕ) → IsLiteralIn d m → depth d ≤ n → IsLiteralIn d n
  within nil m n h le = tt
  within (truth b) m n h le = tt
  within (int z) m n h le = h
  within (key bs) m n h le = h
  within (text bs) m n h le = h
  within (vector ds) m n h le = (omega (arith, le), h.1, row_within ds (m - 1) (n - 1) h.2 (omega (arith, le)))
  within (cell c) m n h le = tt

  row_within : (ds : PlainValues) (m n : ℕ) → AreLiteralsIn ds m → row_depth ds ≤ n → AreLiteralsIn ds n
  row_within end m n h le = tt
  row_within (more d ds) m n h le = (within d m n h.0 (omega (arith, le)), row_within ds m n h.1 (omega (arith, le)))

-- ---- lists of literals

abbrev Q : PlainValue → Type 0
Q d = IsLiteralIn d most_depth

row_all : (ds : List PlainValue) → AreLiteralsIn (plain_row ds) 31 → AllByRecursion Q ds
row_all [] h = tt
row_all (d ∷ ds) h = (within d 31 most_depth h.0 (omega (arith, deep d 31 h.0)), row_all ds h.1)

all_row : (ds : List PlainValue) → AllByRecursion Q ds → row_depth (plain_row ds) ≤ 31 → AreLiteralsIn (plain_row ds) 31
all_row [] h le = tt
all_row (d ∷ ds) h le = (within d most_depth 31 h.0 (omega (arith, le)), all_row ds h.1 (omega (arith, le)))

items : (ds : List PlainValue) → Q (vector (plain_row ds)) → AllByRecursion Q ds × IsVector ds
items ds h = (row_all ds h.2, (subst (λ (l : List PlainValue). length l ≤ most_items) (plain_list-plain_row ds) h.1, row_deep (plain_row ds) 31 h.2))

vectors : (ds : List PlainValue) → AllByRecursion Q ds → IsVector ds → Q (vector (plain_row ds))
vectors ds h w = (omega arith, subst (λ (l : List PlainValue). length l ≤ most_items) (sym (plain_list-plain_row ds)) w.0, all_row ds h w.1)

low_cat : (n : ℕ) (xs ys : List PlainValue) → row_depth (plain_row xs) ≤ n → row_depth (plain_row ys) ≤ n → row_depth (plain_row (xs ++ ys)) ≤ n
low_cat n [] ys h k = k
low_cat n (x ∷ xs) ys h k = omega (arith, h, low_cat n xs ys (omega (arith, h)) k)

low_take : (n m : ℕ) (xs : List PlainValue) → row_depth (plain_row xs) ≤ n → row_depth (plain_row (take m xs)) ≤ n
low_take n zero xs h = omega arith
low_take n (suc m) [] h = omega arith
low_take n (suc m) (x ∷ xs) h = omega (arith, h, low_take n m xs (omega (arith, h)))

low_drop : (n m : ℕ) (xs : List PlainValue) → row_depth (plain_row xs) ≤ n → row_depth (plain_row (drop m xs)) ≤ n
low_drop n zero xs h = h
low_drop n (suc m) [] h = omega arith
low_drop n (suc m) (x ∷ xs) h = low_drop n m xs (omega (arith, h))

pushed : (ds : List PlainValue) (d : PlainValue) → IsVector ds → length ds < most_items → depth d < most_depth → IsVector (ds ++ d ∷ [])
pushed ds d w few low = (omega (arith, few, length-append ds (d ∷ [])), low_cat 31 ds (d ∷ []) w.1 (omega (arith, low)))

put : (ds : List PlainValue) (n : ℕ) (d : PlainValue) → IsVector ds → n ≤ length ds → n < most_items → depth d < most_depth → IsVector (take n ds ++ d ∷ drop (n + 1) ds)
put ds n d w le few low =
    let rest = drop (n + 1) ds in
    let behind : row_depth (plain_row (d ∷ rest)) ≤ 31 = omega (arith, low, low_drop 31 (n + 1) ds w.1) in
    (omega (arith, le, few, w.0, length-append (take n ds) (d ∷ rest), length-take n ds, length-drop (n + 1) ds), low_cat 31 (take n ds) (d ∷ rest) (low_take 31 n ds w.1) behind)

cut : (ds : List PlainValue) (n : ℕ) → IsVector ds → IsVector (take n ds)
cut ds n w = (omega (arith, w.0, length-take n ds), low_take 31 n ds w.1)

-- ---- numbers

small : (z : ℤ) → unsigned_abs z < 9223372036854775808 → is_i64 z ≡ true
small (pos n) h = is_below n 9223372036854775808 h
small (negsuc n) h = is_below n 9223372036854775808 (omega (arith, h))

not_above : (n : ℕ) → is_i64 (pos n) ≡ true → n < 9223372036854775808
not_above n h = grind (arith, nat_tests)

not_below : (n : ℕ) → is_i64 (negsuc n) ≡ true → n < 9223372036854775808
not_below n h = grind (arith, nat_tests)

large : (z : ℤ) → is_i64 z ≡ true → unsigned_abs z ≤ 9223372036854775808
large (pos n) h = omega (arith, not_above n h)
large (negsuc n) h = omega (arith, not_below n h)

by_rem : (x y : ℤ) → 0 < unsigned_abs y → is_i64 y ≡ true → is_i64 (int_rem x y) ≡ true
by_rem x y some h = small (int_rem x y) (omega (arith, rem_below x y some, large y h))

by_mod : (x : ℤ) (n : ℕ) → is_i64 (pos (suc n)) ≡ true → is_i64 (int_rem_euclid x (pos (suc n))) ≡ true
by_mod (pos a) n h =
    let lt : a % suc n < suc n = mod-lt a (omega arith) in
    is_below (a % suc n) 9223372036854775808 (omega (arith, lt, not_above (suc n) h))
by_mod (negsuc a) n h = is_below (suc n - 1 - a % suc n) 9223372036854775808 (omega (arith, not_above (suc n) h))

-- less than a divisor, brought below nought
lowered : (k n : ℕ) → k ≤ n → is_i64 (negsuc n) ≡ true → is_i64 (pos k +ℤ negsuc n) ≡ true
lowered k n le h =
    let same : pos k +ℤ negsuc n ≡ negsuc (n - k) = omega (arith, ints) in
    subst (λ z. is_i64 z ≡ true) (sym same) (is_below (n - k) 9223372036854775808 (omega (arith, not_below n h)))

below_fits : (k n : ℕ) → k ≤ n → is_i64 (negsuc n) ≡ true → is_i64 (below (pos k) (negsuc n)) ≡ true
below_fits zero n le h = is_below 0 9223372036854775808 (omega arith)
below_fits (suc k) n le h = lowered (suc k) n le h

by_mod_below : (x : ℤ) (n : ℕ) → is_i64 (negsuc n) ≡ true → is_i64 (below (int_rem_euclid x (negsuc n)) (negsuc n)) ≡ true
by_mod_below (pos a) n h =
    let lt : a % suc n < suc n = mod-lt a (omega arith) in
    below_fits (a % suc n) n (omega (arith, lt)) h
by_mod_below (negsuc a) n h = below_fits (suc n - 1 - a % suc n) n (omega arith) h

fitting : (z : ℤ) → fits z ≡ true → is_i64 z ≡ true
fitting (pos n) h = h
fitting (negsuc n) h = h

rules : Rules Q (λ z. is_i64 z ≡ true) IsVector
rules = record {
  nothing = tt;
  truths = λ b. tt;
  number = λ z h. h;
  of_int = λ z h. h;
  fitting = fitting;
  by_rem = by_rem;
  by_mod = by_mod;
  by_mod_below = by_mod_below;
  counted = λ ds w. is_below (length ds) 9223372036854775808 (omega (arith, w.0));
  items = items;
  vectors = vectors;
  made = λ ds few low. (few, omega (arith, low));
  pushed = pushed;
  put = put;
  cut = cut;
}

pub literals_kept : KeptByOperations is_read
literals_kept = record { core_keeps = core_keeps Q (λ z. is_i64 z ≡ true) IsVector rules; vector_keeps = vector_keeps Q (λ z. is_i64 z ≡ true) IsVector rules }
