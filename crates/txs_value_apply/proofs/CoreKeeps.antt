-- What the core operations keep: what is said of their arguments is so of their result.
use Rattle.std.proofs.Common.{◌≡◌, ℕ, zero, suc, ◌+◌, ◌-◌, ◌<◌, ◌≤◌, Bool, true, false, List, [], ◌∷◌, ◌++◌, length, take, drop, ℤ, pos, negsuc, Option, Some, None, Result, Ok, Err, refl, sym, ap, subst, arith}
use Rattle.std.specs.Prelude.{cond, not, ◌+ℤ◌, ◌-ℤ◌, ◌*ℤ◌, int_div, int_rem, int_lt, int_le, unsigned_abs, nat_lt, nat_le, ◌==◌, neg_ℤ, slice_get, slice_index_or, if◌then◌else◌}
use Rattle.std.specs.Int.{int_rem_euclid}
use Rattle.std.specs.Ordering.{int_eq}
use Rattle.std.specs.List.{AllByRecursion}
use Rattle.std.proofs.lemmas.Bool.Decides.{nat_tests}
use Rattle.txs_value_data.specs.declared.fault.FaultKind.{FaultKind}
use Rattle.txs_value_data.specs.declared.fault.FaultKind.TheVariants.{Overflow, IndexOut, PopEmpty, TooDeep, TooLong}
use Rattle.txs_value_data.specs.declared.op.Op.{Op}
use Rattle.txs_value_data.specs.declared.op.Op.TheVariants.{Add, Subtract, Multiply, Inc, Dec, Quot, Rem, Mod, Equal, NotEqual, Less, Greater, LessOrEqual, GreaterOrEqual, Max, Min, Not, IsNil, IsZero, IsPositive, IsNegative, Count, Nth, Conj, Assoc, Peek, Pop}
use Rattle.txs_value_data.specs.Limits.{most_items, most_depth}
use Rattle.txs_value_data.specs.PlainValue.{PlainValue, PlainValues, nil, truth, int, key, text, vector, cell, end, more, depth, row_depth, plain_row, plain_list}
use Rattle.txs_value_data.specs.View.{plain_of, plains_of, value_of}
use Rattle.txs_value_data.specs.declared.value.Value.{Value}
use Rattle.txs_value_data.specs.declared.value.Value.TheVariants.{Nil, Truth, Int, Key, Text, Vector, Cell}
use Rattle.txs_value_apply.specs.Core.{Answer, ◌>>=◌, fits, whole, number_of, items_of, of_number, of_numbers, from_left, plus, minus, times, negated, difference_of, quotient, remainder, below, modulo, compared, tested, greatest, least, is_false, is_nil, equals, count_of, found, item_at, nth_of, added, conj_of, place_in, replaced, assoc_of, last_of, peek_of, shorter, pop_of, vector_of, arg, core}

-- What is said of values (Q), of numbers (I) and of the lists that are a vector's items (W), so that operations keep it.
pub record Rules (Q : PlainValue → Type 0) (I : ℤ → Type 0) (W : List PlainValue → Type 0) : Type 0 where
  pub nothing : Q nil
  pub truths : (b : Bool) → Q (truth b)
  pub number : (z : ℤ) → I z → Q (int z)
  pub of_int : (z : ℤ) → Q (int z) → I z
  pub fitting : (z : ℤ) → fits z ≡ true → I z
  pub by_rem : (x y : ℤ) → 0 < unsigned_abs y → I y → I (int_rem x y)
  pub by_mod : (x : ℤ) (n : ℕ) → I (pos (suc n)) → I (int_rem_euclid x (pos (suc n)))
  pub by_mod_below : (x : ℤ) (n : ℕ) → I (negsuc n) → I (below (int_rem_euclid x (negsuc n)) (negsuc n))
  pub counted : (ds : List PlainValue) → W ds → I (pos (length ds))
  pub items : (ds : List PlainValue) → Q (vector (plain_row ds)) → AllByRecursion Q ds × W ds
  pub vectors : (ds : List PlainValue) → AllByRecursion Q ds → W ds → Q (vector (plain_row ds))
  pub made : (ds : List PlainValue) → length ds ≤ most_items → row_depth (plain_row ds) < most_depth → W ds
  pub pushed : (ds : List PlainValue) (d : PlainValue) → W ds → length ds < most_items → depth d < most_depth → W (ds ++ d ∷ [])
  pub put : (ds : List PlainValue) (n : ℕ) (d : PlainValue) → W ds → n ≤ length ds → n < most_items → depth d < most_depth → W (take n ds ++ d ∷ drop (n + 1) ds)
  pub cut : (ds : List PlainValue) (n : ℕ) → W ds → W (take n ds)

-- where nothing is said of numbers
abbrev pub AnyNumber : ℤ → Type 0
AnyNumber z = Unit {0}

-- nor of how many items a vector has
abbrev pub AnyItems : List PlainValue → Type 0
AnyItems ds = Unit {0}

-- it is enough that what is said of a vector is said of its items
pub by_items : (Q : PlainValue → Type 0) → Q nil → ((b : Bool) → Q (truth b)) → ((z : ℤ) → Q (int z)) → ((ds : List PlainValue) → Q (vector (plain_row ds)) → AllByRecursion Q ds) → ((ds : List PlainValue) → AllByRecursion Q ds → Q (vector (plain_row ds))) → Rules Q AnyNumber AnyItems
by_items Q nothing truths numbers items vectors = record {
  nothing = nothing;
  truths = truths;
  number = λ z h. numbers z;
  of_int = λ z h. tt;
  fitting = λ z h. tt;
  by_rem = λ x y some h. tt;
  by_mod = λ x n h. tt;
  by_mod_below = λ x n h. tt;
  counted = λ ds w. tt;
  items = λ ds h. (items ds h, tt);
  vectors = λ ds h w. vectors ds h;
  made = λ ds few low. tt;
  pushed = λ ds d w few low. tt;
  put = λ ds n d w le few low. tt;
  cut = λ ds n w. tt;
}

-- an answer is such a thing, or a fault
abbrev pub GoodAs : {A : Type 0} → (A → Type 0) → Result A FaultKind → Type 0
GoodAs R (Ok a) = R a
GoodAs R (Err k) = Unit {0}

then_good : {A B : Type 0} (R : A → Type 0) (S : B → Type 0) (x : Result A FaultKind) (f : A → Result B FaultKind) → GoodAs R x → ((a : A) → R a → GoodAs S (f a)) → GoodAs S (x >>= f)
then_good R S (Ok a) f h k = k a h
then_good R S (Err e) f h k = tt

-- one of two answers, by a test
by_good : {A : Type 0} (R : A → Type 0) (b : Bool) (x y : Result A FaultKind) → (b ≡ true → GoodAs R x) → (b ≡ false → GoodAs R y) → GoodAs R (if b then x else y)
by_good R true x y h k = h refl
by_good R false x y h k = k refl

-- ---- lists

module _ {A : Type 0} (P : A → Type 0) where
  all_cat : (xs ys : List A) → AllByRecursion P xs → AllByRecursion P ys → AllByRecursion P (xs ++ ys)
  all_cat [] ys h k = k
  all_cat (x ∷ xs) ys h k = (h.0, all_cat xs ys h.1 k)

  all_take : (n : ℕ) (xs : List A) → AllByRecursion P xs → AllByRecursion P (take n xs)
  all_take zero xs h = tt
  all_take (suc n) [] h = tt
  all_take (suc n) (x ∷ xs) h = (h.0, all_take n xs h.1)

  all_drop : (n : ℕ) (xs : List A) → AllByRecursion P xs → AllByRecursion P (drop n xs)
  all_drop zero xs h = h
  all_drop (suc n) [] h = tt
  all_drop (suc n) (x ∷ xs) h = all_drop n xs h.1

  one_of : (n : ℕ) (xs : List A) (x : A) → P x → AllByRecursion P xs → P (slice_index_or xs n x)
  one_of n [] x h k = h
  one_of zero (y ∷ xs) x h k = k.0
  one_of (suc n) (y ∷ xs) x h k = one_of n xs x h k.1

  abbrev HasIf : Option A → Type 0
  HasIf None = Unit {0}
  HasIf (Some x) = P x

  got : (n : ℕ) (xs : List A) → AllByRecursion P xs → HasIf (slice_get xs n)
  got n [] h = tt
  got zero (x ∷ xs) h = h.0
  got (suc n) (x ∷ xs) h = got n xs h.1

not_least : (m n : ℕ) → nat_le m n ≡ false → n < m
not_least m n h = grind (arith, nat_tests)

is_least : (m n : ℕ) → nat_le m n ≡ true → m ≤ n
is_least m n h = grind (arith, nat_tests)

not_less : (m n : ℕ) → nat_lt m n ≡ false → n ≤ m
not_less m n h = grind (arith, nat_tests)

row_again : (ds : PlainValues) → plain_row (plain_list ds) ≡ ds
row_again end = refl
row_again (more d ds) = ap (λ es. more d es) (row_again ds)

-- ---- operations

module _ (Q : PlainValue → Type 0) (I : ℤ → Type 0) (W : List PlainValue → Type 0) (rules : Rules Q I W) where
  -- what is said of a value
  abbrev pub P : Value → Type 0
  P v = Q (plain_of v)

  abbrev pub Good : Answer → Type 0
  Good r = GoodAs P r

  -- a value that was opened is as it was
  opened_good : (d : PlainValue) → Q d → P (value_of d)
  opened_good nil h = h
  opened_good (truth b) h = h
  opened_good (int z) h = h
  opened_good (key bs) h = h
  opened_good (text bs) h = h
  opened_good (vector ds) h = subst (λ es. Q (vector es)) (sym (row_again ds)) h
  opened_good (cell c) h = h

  number_good : (v : Value) → P v → GoodAs I (number_of v)
  number_good Nil h = tt
  number_good (Truth b) h = tt
  number_good (Int z) h = rules.of_int z h
  number_good (Key bs) h = tt
  number_good (Text bs) h = tt
  number_good (Vector ds) h = tt
  number_good (Cell c) h = tt

  abbrev AreItems : List PlainValue → Type 0
  AreItems ds = AllByRecursion Q ds × W ds

  items_good : (v : Value) → P v → GoodAs AreItems (items_of v)
  items_good Nil h = tt
  items_good (Truth b) h = tt
  items_good (Int z) h = tt
  items_good (Key bs) h = tt
  items_good (Text bs) h = tt
  items_good (Vector ds) h = rules.items ds h
  items_good (Cell c) h = tt

  whole_good : (z : ℤ) → GoodAs I (whole z)
  whole_good z = by_good I (fits z) (Ok z) (Err Overflow) (λ e. rules.fitting z e) (λ e. tt)

  of_number_good : (f : ℤ → Result ℤ FaultKind) → ((x : ℤ) → I x → GoodAs I (f x)) → (a : Value) → P a → Good (of_number f a)
  of_number_good f k a h = then_good I P (number_of a) (λ x. f x >>= λ z. Ok (Int z)) (number_good a h) (λ x i. then_good I P (f x) (λ z. Ok (Int z)) (k x i) (λ z j. rules.number z j))

  of_numbers_good : (f : ℤ → ℤ → Result ℤ FaultKind) → ((x y : ℤ) → I x → I y → GoodAs I (f x y)) → (a b : Value) → P a → P b → Good (of_numbers f a b)
  of_numbers_good f k a b h g =
      then_good I P (number_of a) (λ x. number_of b >>= λ y. f x y >>= λ z. Ok (Int z)) (number_good a h)
      (λ x i. then_good I P (number_of b) (λ y. f x y >>= λ z. Ok (Int z)) (number_good b g) (λ y j. then_good I P (f x y) (λ z. Ok (Int z)) (k x y i j) (λ z l. rules.number z l)))

  from_left_good : (f : ℤ → ℤ → Result ℤ FaultKind) → ((x y : ℤ) → I x → I y → GoodAs I (f x y)) → (bs : List Value) (a : Value) → P a → AllByRecursion P bs → Good (from_left f a bs)
  from_left_good f k [] a h hs = h
  from_left_good f k (b ∷ bs) a h hs = then_good P P (of_numbers f a b) (λ c. from_left f c bs) (of_numbers_good f k a b h hs.0) (λ c g. from_left_good f k bs c g hs.1)

  difference_good : (bs : List Value) (a : Value) → P a → AllByRecursion P bs → Good (difference_of a bs)
  difference_good [] a h hs = of_number_good negated (λ x i. whole_good (neg_ℤ x)) a h
  difference_good (b ∷ bs) a h hs = from_left_good minus (λ x y i j. whole_good (x -ℤ y)) (b ∷ bs) a h hs

  quotient_good : (x y : ℤ) → I x → I y → GoodAs I (quotient x y)
  quotient_good x (pos zero) i j = tt
  quotient_good x (pos (suc n)) i j = whole_good (int_div x (pos (suc n)))
  quotient_good x (negsuc n) i j = whole_good (int_div x (negsuc n))

  remainder_good : (x y : ℤ) → I x → I y → GoodAs I (remainder x y)
  remainder_good x (pos zero) i j = tt
  remainder_good x (pos (suc n)) i j = rules.by_rem x (pos (suc n)) (omega arith) j
  remainder_good x (negsuc n) i j = rules.by_rem x (negsuc n) (omega arith) j

  modulo_good : (x y : ℤ) → I x → I y → GoodAs I (modulo x y)
  modulo_good x (pos zero) i j = tt
  modulo_good x (pos (suc n)) i j = rules.by_mod x n j
  modulo_good x (negsuc n) i j = rules.by_mod_below x n j

  choice_good : (b : Bool) (x y : ℤ) → I x → I y → I (cond b x y)
  choice_good true x y i j = i
  choice_good false x y i j = j

  compared_good : (f : ℤ → ℤ → Bool) (a b : Value) → P a → P b → Good (compared f a b)
  compared_good f a b h g =
      then_good I P (number_of a) (λ x. number_of b >>= λ y. Ok (Truth (f x y))) (number_good a h) (λ x i. then_good I P (number_of b) (λ y. Ok (Truth (f x y))) (number_good b g) (λ y j. rules.truths (f x y)))

  tested_good : (f : ℤ → Bool) (a : Value) → P a → Good (tested f a)
  tested_good f a h = then_good I P (number_of a) (λ x. Ok (Truth (f x))) (number_good a h) (λ x i. rules.truths (f x))

  -- ---- vectors

  count_good : (v : Value) → P v → Good (count_of v)
  count_good Nil h = rules.number (pos 0) (rules.fitting (pos 0) refl)
  count_good (Truth b) h = tt
  count_good (Int z) h = tt
  count_good (Key bs) h = tt
  count_good (Text bs) h = tt
  count_good (Vector ds) h = rules.number (pos (length ds)) (rules.counted ds (rules.items ds h).1)
  count_good (Cell c) h = tt

  found_good : (o : Option PlainValue) → HasIf Q o → Good (found o)
  found_good None h = tt
  found_good (Some d) h = opened_good d h

  item_good : (ds : List PlainValue) (z : ℤ) → AllByRecursion Q ds → Good (item_at ds z)
  item_good ds (negsuc n) h = tt
  item_good ds (pos n) h = found_good (slice_get ds n) (got Q n ds h)

  nth_good : (a b : Value) → P a → P b → Good (nth_of a b)
  nth_good a b h g =
      then_good AreItems P (items_of a) (λ ds. number_of b >>= λ i. item_at ds i) (items_good a h) (λ ds k. then_good I P (number_of b) (λ i. item_at ds i) (number_good b g) (λ i j. item_good ds i k.0))

  added_good : (ds : List PlainValue) (d : PlainValue) → AreItems ds → Q d → Good (added ds d)
  added_good ds d h g =
      by_good P (nat_le most_items (length ds)) (Err TooLong) (if nat_le most_depth (depth d) then Err TooDeep else Ok (Vector (ds ++ d ∷ []))) (λ e. tt)
      (λ few. by_good P (nat_le most_depth (depth d)) (Err TooDeep) (Ok (Vector (ds ++ d ∷ []))) (λ e. tt)
      (λ low. rules.vectors (ds ++ d ∷ []) (all_cat Q ds (d ∷ []) h.0 (g, tt)) (rules.pushed ds d h.1 (not_least most_items (length ds) few) (not_least most_depth (depth d) low))))

  conj_good : (a b : Value) → P a → P b → Good (conj_of a b)
  conj_good a b h g = then_good AreItems P (items_of a) (λ ds. added ds (plain_of b)) (items_good a h) (λ ds k. added_good ds (plain_of b) k g)

  place_good : (ds : List PlainValue) (z : ℤ) → GoodAs (λ n. n ≤ length ds) (place_in ds z)
  place_good ds (negsuc n) = tt
  place_good ds (pos n) = by_good (λ m. m ≤ length ds) (nat_le n (length ds)) (Ok n) (Err IndexOut) (λ e. is_least n (length ds) e) (λ e. tt)

  replaced_good : (ds : List PlainValue) (n : ℕ) (d : PlainValue) → AreItems ds → n ≤ length ds → Q d → Good (replaced ds n d)
  replaced_good ds n d h le g =
      let new = take n ds ++ d ∷ drop (n + 1) ds in
      by_good P (nat_le most_items n) (Err TooLong) (if nat_le most_depth (depth d) then Err TooDeep else Ok (Vector new)) (λ e. tt)
      (λ few. by_good P (nat_le most_depth (depth d)) (Err TooDeep) (Ok (Vector new)) (λ e. tt)
      (λ low. rules.vectors new (all_cat Q (take n ds) (d ∷ drop (n + 1) ds) (all_take Q n ds h.0) (g, all_drop Q (n + 1) ds h.0)) (rules.put ds n d h.1 le (not_least most_items n few) (not_least most_depth (depth d) low))))

  assoc_good : (a b c : Value) → P a → P b → P c → Good (assoc_of a b c)
  assoc_good a b c h g f =
      then_good AreItems P (items_of a) (λ ds. number_of b >>= λ i. place_in ds i >>= λ n. replaced ds n (plain_of c)) (items_good a h)
      (λ ds k. then_good I P (number_of b) (λ i. place_in ds i >>= λ n. replaced ds n (plain_of c)) (number_good b g)
      (λ i j. then_good (λ n. n ≤ length ds) P (place_in ds i) (λ n. replaced ds n (plain_of c)) (place_good ds i) (λ n le. replaced_good ds n (plain_of c) k le f)))

  peek_good : (a : Value) → P a → Good (peek_of a)
  peek_good a h = then_good AreItems P (items_of a) (λ ds. Ok (last_of ds)) (items_good a h) (λ ds k. opened_good (slice_index_or ds (length ds - 1) nil) (one_of Q (length ds - 1) ds nil rules.nothing k.0))

  shorter_good : (ds : List PlainValue) → AreItems ds → Good (shorter ds)
  shorter_good ds h =
      by_good P (length ds == 0) (Err PopEmpty) (Ok (Vector (take (length ds - 1) ds))) (λ e. tt) (λ e. rules.vectors (take (length ds - 1) ds) (all_take Q (length ds - 1) ds h.0) (rules.cut ds (length ds - 1) h.1))

  pop_good : (a : Value) → P a → Good (pop_of a)
  pop_good a h = then_good AreItems P (items_of a) (λ ds. shorter ds) (items_good a h) (λ ds k. shorter_good ds k)

  plains_good : (vs : List Value) → AllByRecursion P vs → AllByRecursion Q (plains_of vs)
  plains_good [] h = tt
  plains_good (v ∷ vs) h = (h.0, plains_good vs h.1)

  plains_length : (vs : List Value) → length (plains_of vs) ≡ length vs
  plains_length [] = refl
  plains_length (v ∷ vs) = ap suc (plains_length vs)

  pub vector_good : (vs : List Value) → AllByRecursion P vs → Good (vector_of vs)
  vector_good vs h =
      let ds = plains_of vs in
      by_good P (nat_lt most_items (length vs)) (Err TooLong) (if nat_le most_depth (row_depth (plain_row ds)) then Err TooDeep else Ok (Vector ds)) (λ e. tt)
      (λ few. by_good P (nat_le most_depth (row_depth (plain_row ds))) (Err TooDeep) (Ok (Vector ds)) (λ e. tt)
      (λ low. rules.vectors ds (plains_good vs h) (rules.made ds (omega (arith, not_less most_items (length vs) few, plains_length vs)) (not_least most_depth (row_depth (plain_row ds)) low))))

  -- ---- the table: an operation is a row

  pub good : (op : Op) (vs : List Value) → AllByRecursion P vs → Good (core op vs)
  unfolding core
  good Add vs h = from_left_good plus (λ x y i j. whole_good (x +ℤ y)) (drop 1 vs) (arg 0 vs) (one_of P 0 vs Nil rules.nothing h) (all_drop P 1 vs h)
  good Subtract vs h = difference_good (drop 1 vs) (arg 0 vs) (one_of P 0 vs Nil rules.nothing h) (all_drop P 1 vs h)
  good Multiply vs h = from_left_good times (λ x y i j. whole_good (x *ℤ y)) (drop 1 vs) (arg 0 vs) (one_of P 0 vs Nil rules.nothing h) (all_drop P 1 vs h)
  good Inc vs h = of_number_good (λ x. plus x (pos 1)) (λ x i. whole_good (x +ℤ pos 1)) (arg 0 vs) (one_of P 0 vs Nil rules.nothing h)
  good Dec vs h = of_number_good (λ x. minus x (pos 1)) (λ x i. whole_good (x -ℤ pos 1)) (arg 0 vs) (one_of P 0 vs Nil rules.nothing h)
  good Quot vs h = of_numbers_good quotient quotient_good (arg 0 vs) (arg 1 vs) (one_of P 0 vs Nil rules.nothing h) (one_of P 1 vs Nil rules.nothing h)
  good Rem vs h = of_numbers_good remainder remainder_good (arg 0 vs) (arg 1 vs) (one_of P 0 vs Nil rules.nothing h) (one_of P 1 vs Nil rules.nothing h)
  good Mod vs h = of_numbers_good modulo modulo_good (arg 0 vs) (arg 1 vs) (one_of P 0 vs Nil rules.nothing h) (one_of P 1 vs Nil rules.nothing h)
  good Equal vs h = rules.truths (equals (arg 0 vs) (arg 1 vs))
  good NotEqual vs h = rules.truths (not (equals (arg 0 vs) (arg 1 vs)))
  good Less vs h = compared_good int_lt (arg 0 vs) (arg 1 vs) (one_of P 0 vs Nil rules.nothing h) (one_of P 1 vs Nil rules.nothing h)
  good Greater vs h = compared_good (λ x y. int_lt y x) (arg 0 vs) (arg 1 vs) (one_of P 0 vs Nil rules.nothing h) (one_of P 1 vs Nil rules.nothing h)
  good LessOrEqual vs h = compared_good int_le (arg 0 vs) (arg 1 vs) (one_of P 0 vs Nil rules.nothing h) (one_of P 1 vs Nil rules.nothing h)
  good GreaterOrEqual vs h = compared_good (λ x y. int_le y x) (arg 0 vs) (arg 1 vs) (one_of P 0 vs Nil rules.nothing h) (one_of P 1 vs Nil rules.nothing h)
  good Max vs h = of_numbers_good greatest (λ x y i j. choice_good (int_lt y x) x y i j) (arg 0 vs) (arg 1 vs) (one_of P 0 vs Nil rules.nothing h) (one_of P 1 vs Nil rules.nothing h)
  good Min vs h = of_numbers_good least (λ x y i j. choice_good (int_lt y x) y x j i) (arg 0 vs) (arg 1 vs) (one_of P 0 vs Nil rules.nothing h) (one_of P 1 vs Nil rules.nothing h)
  good Not vs h = rules.truths (is_false (arg 0 vs))
  good IsNil vs h = rules.truths (is_nil (arg 0 vs))
  good IsZero vs h = tested_good (λ x. int_eq x (pos 0)) (arg 0 vs) (one_of P 0 vs Nil rules.nothing h)
  good IsPositive vs h = tested_good (λ x. int_lt (pos 0) x) (arg 0 vs) (one_of P 0 vs Nil rules.nothing h)
  good IsNegative vs h = tested_good (λ x. int_lt x (pos 0)) (arg 0 vs) (one_of P 0 vs Nil rules.nothing h)
  good Count vs h = count_good (arg 0 vs) (one_of P 0 vs Nil rules.nothing h)
  good Nth vs h = nth_good (arg 0 vs) (arg 1 vs) (one_of P 0 vs Nil rules.nothing h) (one_of P 1 vs Nil rules.nothing h)
  good Conj vs h = conj_good (arg 0 vs) (arg 1 vs) (one_of P 0 vs Nil rules.nothing h) (one_of P 1 vs Nil rules.nothing h)
  good Assoc vs h = assoc_good (arg 0 vs) (arg 1 vs) (arg 2 vs) (one_of P 0 vs Nil rules.nothing h) (one_of P 1 vs Nil rules.nothing h) (one_of P 2 vs Nil rules.nothing h)
  good Peek vs h = peek_good (arg 0 vs) (one_of P 0 vs Nil rules.nothing h)
  good Pop vs h = pop_good (arg 0 vs) (one_of P 0 vs Nil rules.nothing h)

  pub core_keeps : (op : Op) (vs : List Value) (v : Value) → AllByRecursion P vs → core op vs ≡ Ok v → P v
  core_keeps op vs v h is = subst Good is (good op vs h)

  pub vector_keeps : (vs : List Value) (v : Value) → AllByRecursion P vs → vector_of vs ≡ Ok v → P v
  vector_keeps vs v h is = subst Good is (vector_good vs h)
