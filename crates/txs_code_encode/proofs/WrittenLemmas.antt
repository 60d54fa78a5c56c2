-- What is written item by item.
use Rattle.std.proofs.Common.{◌≡◌, ℕ, zero, suc, ◌+◌, ◌<◌, ◌≤◌, List, [], ◌∷◌, ◌++◌, length, get_or, take, add-one, Some, Result, Ok, Err, refl, sym, ap, ◌∙◌, append_assoc, subst, arith}
use Rattle.std.specs.List.{slice_get, flat_map, AllByRecursion}
use Rattle.std.specs.Int.{w16, w32, to_be_bytes}
use Rattle.std.specs.Prelude.{OnOk, is_ok, if◌then◌else◌, slice_index_or}
use Rattle.std.proofs.lemmas.List.{append-nil, take_all}
use Rattle.std.proofs.lemmas.List.Concat.{flat_map-cons}
use Rattle.txs_value_data.specs.PlainValue.{PlainValue, vector, plain_row, plain_size, row_size}
use Rattle.txs_value_data.specs.declared.fault.Span.{Span}
use Rattle.txs_code_meaning.specs.declared.instr.Instr.{Instr}
use Rattle.txs_code_decode.specs.CodeForm.{paired}
use Rattle.txs_code_decode.specs.InstrForm.{placed_bytes}
use Rattle.txs_code_decode.specs.ValueForm.{value_bytes, row_bytes, IsWritable, AreWritable}
use Rattle.txs_code_decode.proofs.ValueExact.{plain_row_again}

some_same : {A : Type 0} (x y : A) → Some x ≡ Some y → x ≡ y
some_same x y e = cc

-- an item has less inside than the row
pub item_less : (ds : List PlainValue) (i : ℕ) (d : PlainValue) → slice_get ds i ≡ Some d → plain_size d < row_size ds
item_less [] i d e = absurd cc
item_less (c ∷ ds) zero d e = rw (sym (some_same c d e)) (omega arith)
item_less (c ∷ ds) (suc i) d e = omega (arith, item_less ds i d e)

-- an item of a row that can be written can be written
pub item_writable : (ds : List PlainValue) (i : ℕ) (d : PlainValue) → slice_get ds i ≡ Some d → AreWritable (plain_row ds) → IsWritable d
item_writable [] i d e all = absurd cc
item_writable (c ∷ ds) zero d e all = rw (sym (some_same c d e)) all.0
item_writable (c ∷ ds) (suc i) d e all = item_writable ds i d e all.1

row_suc : (ds : List PlainValue) (i : ℕ) (d : PlainValue) → slice_get ds i ≡ Some d → row_bytes (plain_row (take (suc i) ds)) ≡ row_bytes (plain_row (take i ds)) ++ value_bytes d
row_suc [] i d e = absurd cc
row_suc (c ∷ ds) zero d e = append-nil (value_bytes c) ∙ ap value_bytes (some_same c d e)
row_suc (c ∷ ds) (suc i) d e = ap (λ bs. value_bytes c ++ bs) (row_suc ds i d e) ∙ sym (append_assoc (value_bytes c) (row_bytes (plain_row (take i ds))) (value_bytes d))

-- one more item was written
pub row_next : (ds : List PlainValue) (i : ℕ) (d : PlainValue) (old mid new : List ℕ) → slice_get ds i ≡ Some d → mid ≡ old ++ row_bytes (plain_row (take i ds)) → new ≡ mid ++ value_bytes d → new ≡ old ++ row_bytes (plain_row (take (i + 1) ds))
row_next ds i d old mid new e so_far one =
    let more : row_bytes (plain_row (take (i + 1) ds)) ≡ row_bytes (plain_row (take i ds)) ++ value_bytes d = rw add-one (row_suc ds i d e) in
    one ∙ ap (λ bs. bs ++ value_bytes d) so_far ∙ append_assoc old (row_bytes (plain_row (take i ds))) (value_bytes d) ∙ ap (λ bs. old ++ bs) (sym more)

flat_suc : {A : Type 0} (f : A → List ℕ) (xs : List A) (i : ℕ) (x : A) → i < length xs → x ≡ get_or xs i x → flat_map f (take (suc i) xs) ≡ flat_map f (take i xs) ++ f x
flat_suc f [] i x lt is = absurd (omega (arith, lt))
flat_suc f (y ∷ xs) zero x lt is = flat_map-cons f y [] ∙ append-nil (f y) ∙ ap f (sym is)
flat_suc f (y ∷ xs) (suc i) x lt is =
    flat_map-cons f y (take (suc i) xs)
    ∙ ap (λ bs. f y ++ bs) (flat_suc f xs i x (omega (arith, lt)) is)
    ∙ sym (append_assoc (f y) (flat_map f (take i xs)) (f x))
    ∙ ap (λ bs. bs ++ f x) (sym (flat_map-cons f y (take i xs)))

-- one more item of a list was written behind its count
pub flat_next : {A : Type 0} (f : A → List ℕ) (xs : List A) (i : ℕ) (x : A) (old front mid new : List ℕ) → i < length xs → x ≡ get_or xs i x → mid ≡ old ++ (front ++ flat_map f (take i xs)) → new ≡ mid ++ f x
    → new ≡ old ++ (front ++ flat_map f (take (i + 1) xs))
flat_next f xs i x old front mid new lt is so_far one =
    let done = flat_map f (take i xs) in
    let more : flat_map f (take (i + 1) xs) ≡ done ++ f x = rw add-one (flat_suc f xs i x lt is) in
    one ∙ ap (λ bs. bs ++ f x) so_far ∙ append_assoc old (front ++ done) (f x) ∙ ap (λ bs. old ++ bs) (append_assoc front done (f x) ∙ ap (λ bs. front ++ bs) (sym more))

-- all items were
pub flat_done : {A : Type 0} (f : A → List ℕ) (xs : List A) (i : ℕ) (old front new : List ℕ) → length xs ≤ i → new ≡ old ++ (front ++ flat_map f (take i xs)) → new ≡ old ++ (front ++ flat_map f xs)
flat_done {A} f xs i old front new le e = e ∙ ap (λ (ys : List A). old ++ (front ++ flat_map f ys)) (take_all i xs le)

-- as many instructions stand beside their spans as there are
pub paired_long : (is : List Instr) (ss : List Span) → length ss ≡ length is → length (paired is ss) ≡ length is
paired_long [] ss n = refl
paired_long (b ∷ is) [] n = absurd (omega (arith, n))
paired_long (b ∷ is) (t ∷ ss) n = ap suc (paired_long is ss (omega (arith, n)))

pairs_suc : (is : List Instr) (ss : List Span) (i : ℕ) (a : Instr) (s : Span) → length ss ≡ length is → i < length is
    → flat_map placed_bytes (paired (take (suc i) is) (take (suc i) ss)) ≡ flat_map placed_bytes (paired (take i is) (take i ss)) ++ placed_bytes (slice_index_or is i a, slice_index_or ss i s)
pairs_suc [] ss i a s n lt = absurd (omega (arith, lt))
pairs_suc (b ∷ is) [] i a s n lt = absurd (omega (arith, n))
pairs_suc (b ∷ is) (t ∷ ss) zero a s n lt = flat_map-cons placed_bytes (b, t) [] ∙ append-nil (placed_bytes (b, t))
pairs_suc (b ∷ is) (t ∷ ss) (suc i) a s n lt =
    flat_map-cons placed_bytes (b, t) (paired (take (suc i) is) (take (suc i) ss))
    ∙ ap (λ bs. placed_bytes (b, t) ++ bs) (pairs_suc is ss i a s (omega (arith, n)) (omega (arith, lt)))
    ∙ sym (append_assoc (placed_bytes (b, t)) (flat_map placed_bytes (paired (take i is) (take i ss))) (placed_bytes (slice_index_or is i a, slice_index_or ss i s)))
    ∙ ap (λ bs. bs ++ placed_bytes (slice_index_or is i a, slice_index_or ss i s)) (sym (flat_map-cons placed_bytes (b, t) (paired (take i is) (take i ss))))

-- one more instruction was written
pub pairs_next : (is : List Instr) (ss : List Span) (i : ℕ) (a : Instr) (s : Span) (x : Instr) (y : Span) (old front mid new : List ℕ) → length ss ≡ length is → i < length is → x ≡ slice_index_or is i a → y ≡ slice_index_or ss i s
    → mid ≡ old ++ (front ++ flat_map placed_bytes (paired (take i is) (take i ss))) → new ≡ mid ++ placed_bytes (x, y)
    → new ≡ old ++ (front ++ flat_map placed_bytes (paired (take (i + 1) is) (take (i + 1) ss)))
pairs_next is ss i a s x y old front mid new n lt ex ey so_far one =
    let done = flat_map placed_bytes (paired (take i is) (take i ss)) in
    let item = placed_bytes (slice_index_or is i a, slice_index_or ss i s) in
    let more : flat_map placed_bytes (paired (take (i + 1) is) (take (i + 1) ss)) ≡ done ++ item = rw add-one (pairs_suc is ss i a s n lt) in
    let same : placed_bytes (x, y) ≡ item = λ k. placed_bytes (ex k, ey k) in
    one ∙ ap (λ bs. bs ++ placed_bytes (x, y)) so_far ∙ ap (λ bs. (old ++ (front ++ done)) ++ bs) same
    ∙ append_assoc old (front ++ done) item ∙ ap (λ bs. old ++ bs) (append_assoc front done item ∙ ap (λ bs. front ++ bs) (sym more))

-- all instructions were written
pub pairs_done : (is : List Instr) (ss : List Span) (i : ℕ) (old new : List ℕ) (p l : ℕ) → length ss ≡ length is → length is ≤ i
    → new ≡ old ++ ((p ∷ l ∷ to_be_bytes w32 (length is)) ++ flat_map placed_bytes (paired (take i is) (take i ss)))
    → new ≡ old ++ (p ∷ l ∷ (to_be_bytes w32 (length (paired is ss)) ++ flat_map placed_bytes (paired is ss)))
pairs_done is ss i old new p l n le e =
    e ∙ ap (λ (xs : List Instr). old ++ (p ∷ l ∷ (to_be_bytes w32 (length is) ++ flat_map placed_bytes (paired xs (take i ss))))) (take_all i is le)
    ∙ ap (λ (xs : List Span). old ++ (p ∷ l ∷ (to_be_bytes w32 (length is) ++ flat_map placed_bytes (paired is xs)))) (take_all i ss (omega (arith, n, le)))
    ∙ ap (λ (m : ℕ). old ++ (p ∷ l ∷ (to_be_bytes w32 m ++ flat_map placed_bytes (paired is ss)))) (sym (paired_long is ss n))

-- what was written of a value that could be
pub on_ok : {A E : Type 0} (r : Result A E) {P Q : Type 0} → (P → Q) → OnOk r P → OnOk r Q
on_ok (Ok x) f h = f h
on_ok (Err e) f h = tt

-- two parts, one behind the other
pub two_put : (old a mid b new : List ℕ) → mid ≡ old ++ a → new ≡ mid ++ b → new ≡ old ++ (a ++ b)
two_put old a mid b new front n = n ∙ ap (λ (x : List ℕ). x ++ b) front ∙ append_assoc old a b

-- the last of two parts, for which there is memory or isn't
pub last_put : {A E : Type 0} (r : Result A E) (old a mid b new : List ℕ) → mid ≡ old ++ a → new ≡ (if is_ok r then mid ++ b else mid) → OnOk r (new ≡ old ++ (a ++ b))
last_put (Ok x) old a mid b new front n = two_put old a mid b new front n
last_put (Err e) old a mid b new front n = tt

-- a vector, written part by part
pub vector_put : (old mid new : List ℕ) (ds : List PlainValue) → mid ≡ old ++ 6 ∷ to_be_bytes w16 (length ds) → new ≡ mid ++ row_bytes (plain_row ds) → new ≡ old ++ value_bytes (vector (plain_row ds))
vector_put old mid new ds front n =
    n ∙ ap (λ (x : List ℕ). x ++ row_bytes (plain_row ds)) front ∙ append_assoc old (6 ∷ to_be_bytes w16 (length ds)) (row_bytes (plain_row ds))
    ∙ ap (λ (xs : List PlainValue). old ++ (6 ∷ (to_be_bytes w16 (length xs) ++ row_bytes (plain_row ds)))) (sym (plain_row_again ds))

-- ---- what can be written

-- one more item can be written
pub writable_next : (ds : List PlainValue) (i : ℕ) (d : PlainValue) → slice_get ds i ≡ Some d → AreWritable (plain_row (take i ds)) → IsWritable d → AreWritable (plain_row (take (i + 1) ds))
writable_next ds i d e all one = subst (λ (n : ℕ). AreWritable (plain_row (take n ds))) (sym (add-one i)) (by ds i e all)
  where
    by : (xs : List PlainValue) (j : ℕ) → slice_get xs j ≡ Some d → AreWritable (plain_row (take j xs)) → AreWritable (plain_row (take (suc j) xs))
    by [] j e1 a = absurd cc
    by (x ∷ xs) zero e1 a = (rw (some_same x d e1) one, tt)
    by (x ∷ xs) (suc j) e1 a = (a.0, by xs j e1 a.1)

-- all items can
pub writable_all : (ds : List PlainValue) (i : ℕ) → length ds ≤ i → AreWritable (plain_row (take i ds)) → AreWritable (plain_row ds)
writable_all ds i le all = subst (λ (xs : List PlainValue). AreWritable (plain_row xs)) (take_all i ds le) all

-- one more of a list is so
pub all_next : {A : Type 0} (P : A → Type 0) (xs : List A) (i : ℕ) (x : A) → i < length xs → x ≡ get_or xs i x → AllByRecursion P (take i xs) → P x → AllByRecursion P (take (i + 1) xs)
all_next {A = A} P xs i x lt is all one = subst (λ (n : ℕ). AllByRecursion P (take n xs)) (sym (add-one i)) (by xs i lt is all)
  where
    by : (ys : List A) (j : ℕ) → j < length ys → x ≡ get_or ys j x → AllByRecursion P (take j ys) → AllByRecursion P (take (suc j) ys)
    by [] j l e a = absurd (omega (arith, l))
    by (y ∷ ys) zero l e a = (subst P e one, tt)
    by (y ∷ ys) (suc j) l e a = (a.0, by ys j (omega (arith, l)) e a.1)

-- all of it is
pub all_whole : {A : Type 0} (P : A → Type 0) (xs : List A) (i : ℕ) → length xs ≤ i → AllByRecursion P (take i xs) → AllByRecursion P xs
all_whole P xs i le all = subst (AllByRecursion P) (take_all i xs le) all
