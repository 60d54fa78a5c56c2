-- A list of values and its data: the same at each place.
use Rattle.std.proofs.Common.{◌≡◌, ℕ, zero, suc, ◌+◌, ◌<◌, ◌≤◌, ◌++◌, max, List, [], ◌∷◌, length, get_or, set, take, drop, refl, sym, ap, ◌∙◌, add-one, arith}
use Rattle.std.proofs.lemmas.List.{get_or_read, length-map, length-append, length-take, length-drop, map_more, map-append, take-map, drop-map}
use Rattle.std.proofs.Math.ListN.{get_or-map}
use Rattle.txs_value_data.specs.PlainValue.{PlainValue, plain_row, plain_list, depth, row_depth, plain_size, row_size}
use Rattle.txs_value_data.specs.Limits.{IsVector}
use Rattle.txs_value_data.specs.View.{plain_of, plains_of, value_of}
use Rattle.txs_value_data.specs.declared.value.Value.{Value}
use Rattle.txs_value_data.specs.declared.value.Value.TheVariants.{Nil, Truth, Int, Key, Text, Vector, Cell}

pub plain_list-plain_row : (ds : List PlainValue) → plain_list (plain_row ds) ≡ ds
plain_list-plain_row [] = refl
plain_list-plain_row (d ∷ ds) = ap (λ xs. d ∷ xs) (plain_list-plain_row ds)

pub value_of-plain_of : (v : Value) → value_of (plain_of v) ≡ v
value_of-plain_of Nil = refl
value_of-plain_of (Truth b) = refl
value_of-plain_of (Int z) = refl
value_of-plain_of (Key bs) = refl
value_of-plain_of (Text bs) = refl
value_of-plain_of (Vector ds) = ap Vector (plain_list-plain_row ds)
value_of-plain_of (Cell c) = refl

-- two values with one plain value are equal
pub plain_of-one : (v w : Value) → plain_of v ≡ plain_of w → v ≡ w
plain_of-one v w e = sym (value_of-plain_of v) ∙ ap value_of e ∙ value_of-plain_of w

-- what an index reads, as a plain value
pub plain_at : (vs : List Value) (i : ℕ) (v : Value) (d : PlainValue) → i < length vs → v ≡ get_or vs i v → plain_of v ≡ get_or (plains_of vs) i d
plain_at vs i v d lt e =
    let there : i < length (plains_of vs) = rw (length-map vs plain_of) lt in
    get_or_read (plains_of vs) i (plain_of v) there (ap plain_of e ∙ sym (get_or-map plain_of vs i v)) d

-- an item has less inside than its list
size_of_item : (vs : List Value) (i : ℕ) (v : Value) → i < length vs → v ≡ get_or vs i v → plain_size (plain_of v) < row_size (plains_of vs)
size_of_item [] i v lt is = absurd (omega arith)
size_of_item (w ∷ vs) zero v lt is = rw is (omega arith)
size_of_item (w ∷ vs) (suc i) v lt is = omega (arith, size_of_item vs i v (omega arith) is)

pub item_falls : (ds : List PlainValue) (vs : List Value) (i : ℕ) (v : Value) → plains_of vs ≡ ds → i < length vs → v ≡ get_or vs i v → plain_size (plain_of v) < row_size ds
item_falls ds vs i v e lt is = rw (sym e) (size_of_item vs i v lt is)

depth_of_item : (vs : List Value) (i : ℕ) (v : Value) → i < length vs → v ≡ get_or vs i v → depth (plain_of v) ≤ row_depth (plain_row (plains_of vs))
depth_of_item [] i v lt is = absurd (omega arith)
depth_of_item (w ∷ vs) zero v lt is = rw is (omega arith)
depth_of_item (w ∷ vs) (suc i) v lt is = omega (arith, depth_of_item vs i v (omega arith) is)

pub depth_at : (ds : List PlainValue) (vs : List Value) (i : ℕ) (v : Value) → plains_of vs ≡ ds → i < length vs → v ≡ get_or vs i v → depth (plain_of v) ≤ row_depth (plain_row ds)
depth_at ds vs i v e lt is = rw (sym e) (depth_of_item vs i v lt is)

pub row_depth-push : (ds : List PlainValue) (d : PlainValue) → row_depth (plain_row (ds ++ d ∷ [])) ≡ max (row_depth (plain_row ds)) (depth d)
row_depth-push [] d = omega arith
row_depth-push (e ∷ ds) d = omega (arith, row_depth-push ds d)

pub depth_so_far : (vs : List Value) (i : ℕ) (v : Value) (n : ℕ) → i < length vs → v ≡ get_or vs i v → depth (plain_of v) ≤ n → row_depth (plain_row (plains_of (take i vs))) ≤ n
    → row_depth (plain_row (plains_of (take (i + 1) vs))) ≤ n
depth_so_far vs i v n lt is one before =
    rw (map_more plain_of vs i v lt, sym is) (omega (arith, row_depth-push (plains_of (take i vs)) (plain_of v)))

row_depth-take : (ds : List PlainValue) (n : ℕ) → row_depth (plain_row (take n ds)) ≤ row_depth (plain_row ds)
row_depth-take [] zero = omega arith
row_depth-take [] (suc n) = omega arith
row_depth-take (d ∷ ds) zero = omega arith
row_depth-take (d ∷ ds) (suc n) = omega (arith, row_depth-take ds n)

set_suc : {X : Type 0} (xs : List X) (i : ℕ) (y : X) → i < length xs → set xs i y ≡ take i xs ++ y ∷ drop (suc i) xs
set_suc [] i y lt = absurd (omega arith)
set_suc (x ∷ xs) zero y lt = refl
set_suc (x ∷ xs) (suc i) y lt = ap (λ ys. x ∷ ys) (set_suc xs i y (omega arith))

-- a write, as what stands before it and behind it
pub set_is : {X : Type 0} (xs : List X) (i : ℕ) (y : X) → i < length xs → set xs i y ≡ take i xs ++ y ∷ drop (i + 1) xs
set_is xs i y lt = rw add-one (set_suc xs i y lt)

-- the plain values of a list with an item put in
pub plains_of-put : (us vs : List Value) (ds : List PlainValue) (v w : Value) (n : ℕ) → us ≡ take n vs ++ w ∷ drop (n + 1) vs → w ≡ v → plains_of vs ≡ ds → plains_of us ≡ take n ds ++ plain_of v ∷ drop (n + 1) ds
plains_of-put us vs ds v w n is same seen =
    rw (is, same, map-append plain_of (take n vs) (v ∷ drop (n + 1) vs), sym (take-map plain_of n vs), sym (drop-map plain_of (n + 1) vs), seen) refl

row_depth-drop : (ds : List PlainValue) (n : ℕ) → row_depth (plain_row (drop n ds)) ≤ row_depth (plain_row ds)
row_depth-drop [] zero = omega arith
row_depth-drop [] (suc n) = omega arith
row_depth-drop (d ∷ ds) zero = omega arith
row_depth-drop (d ∷ ds) (suc n) = omega (arith, row_depth-drop ds n)

row_depth-append : (ds es : List PlainValue) → row_depth (plain_row (ds ++ es)) ≡ max (row_depth (plain_row ds)) (row_depth (plain_row es))
row_depth-append [] es = omega arith
row_depth-append (d ∷ ds) es = omega (arith, row_depth-append ds es)

-- a write, as plain values
pub plains_of-set : (vs : List Value) (n : ℕ) (v : Value) → n < length vs → plains_of (set vs n v) ≡ take n (plains_of vs) ++ plain_of v ∷ drop (n + 1) (plains_of vs)
plains_of-set vs n v lt = plains_of-put (set vs n v) vs (plains_of vs) v v n (set_is vs n v lt) refl refl

pub length-plains_of : (vs : List Value) → length (plains_of vs) ≡ length vs
length-plains_of vs = length-map vs plain_of

pub IsVector-more : (ds us : List PlainValue) (d : PlainValue) → us ≡ ds ++ d ∷ [] → IsVector ds → length ds < 65535 → depth d ≤ 31 → IsVector us
IsVector-more ds us d is before short shallow = rw is (omega (arith, length-append ds (d ∷ [])), omega (arith, row_depth-push ds d))

pub IsVector-fewer : (ds us : List PlainValue) (n : ℕ) → us ≡ take n ds → IsVector ds → IsVector us
IsVector-fewer ds us n is before = rw is (omega (arith, length-take n ds), omega (arith, row_depth-take ds n))

pub IsVector-changed : (ds us : List PlainValue) (d : PlainValue) (n : ℕ) → us ≡ take n ds ++ d ∷ drop (n + 1) ds → IsVector ds → n < length ds → depth d ≤ 31 → IsVector us
IsVector-changed ds us d n is before lt shallow =
    rw is
    (omega (arith, length-append (take n ds) (d ∷ drop (n + 1) ds), length-take n ds, length-drop (n + 1) ds), omega (arith, row_depth-append (take n ds) (d ∷ drop (n + 1) ds), row_depth-take ds n, row_depth-drop ds (n + 1)))

-- a number that no item is deeper than
pub no_deeper-more : (ds us : List PlainValue) (d : PlainValue) (m n k : ℕ) → us ≡ ds ++ d ∷ [] → row_depth (plain_row ds) ≤ m → depth d ≤ n → k ≡ max m n → row_depth (plain_row us) ≤ k
no_deeper-more ds us d m n k is before one top = rw is (omega (arith, row_depth-push ds d))

pub no_deeper-fewer : (ds us : List PlainValue) (n m : ℕ) → us ≡ take n ds → row_depth (plain_row ds) ≤ m → row_depth (plain_row us) ≤ m
no_deeper-fewer ds us n m is before = rw is (omega (arith, row_depth-take ds n))

pub no_deeper-changed : (ds us : List PlainValue) (d : PlainValue) (i m n k : ℕ) → us ≡ take i ds ++ d ∷ drop (i + 1) ds → row_depth (plain_row ds) ≤ m → depth d ≤ n → k ≡ max m n → row_depth (plain_row us) ≤ k
no_deeper-changed ds us d i m n k is before one top =
    rw is (omega (arith, row_depth-append (take i ds) (d ∷ drop (i + 1) ds), row_depth-take ds i, row_depth-drop ds (i + 1)))
