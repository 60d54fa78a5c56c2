-- What the own values of a frame say of its refs.
use Rattle.std.proofs.Common.{◌≡◌, ℕ, suc, ◌<◌, ◌==◌, ◌||◌, Bool, true, false, if◌then◌else◌, List, [], ◌∷◌, ◌++◌, map, Option, Some, None, refl, sym, ap, ◌∙◌, arith}
use Rattle.std.specs.Prelude.{nat_lt}
use Rattle.std.proofs.lemmas.Bool.{lt-ltb, le-ltb, ltb-true, eq-eqb, eqb-true, ne_eqb}
use Rattle.txs_world_protocol.specs.Ask.{buffered, with_write}
use Rattle.txs_value_data.specs.declared.value.CellId.{CellId}
use Rattle.txs_value_data.specs.declared.value.Value.{Value}
use Rattle.txs_frame.specs.Frame.{with_cell, with_cells, has_number, outside_of, writes_to, cells_in}
use Rattle.txs_frame.specs.declared.own.How.{How}
use Rattle.txs_frame.specs.declared.own.How.TheVariants as how
use Rattle.txs_frame.specs.declared.own.Own.{Own}
use Rattle.txs_frame.specs.Kept.{Ascends, item_of, with_item, number_of, ref_cell, was_set, was_commuted, only_commuted, cells_by, writes_by, writes_of}
use Rattle.txs_frame.proofs.Places.{less_differs, more_differs, none_below}

-- whether an own value came in one of some ways, if there is one
abbrev pub flag : (How → Bool) → Option Own → Bool
flag f None = false
flag f (Some o) = f o.how

-- an own value, if there is one
abbrev pub value_if : Option Own → Option Value
value_if None = None
value_if (Some o) = Some o.value

-- ---- what is looked up

pub buffered_by : (os : List Own) (k : ℕ) → buffered (writes_of os) k ≡ value_if (item_of number_of os k)
buffered_by [] k = refl
buffered_by (o ∷ os) k = test (o.number == k) (buffered_by os k)
  where
    test : (a : Bool) → buffered (writes_of os) k ≡ value_if (item_of number_of os k) → (if a then Some o.value else buffered (writes_of os) k) ≡ value_if (if a then Some o else item_of number_of os k)
    test true rest = refl
    test false rest = rest

has_none : (f : How → Bool) (l : ℕ) (os : List Own) (k : ℕ) → Ascends number_of l os → k < l → has_number (cells_by f os) k ≡ false
has_none f l [] k up lt = refl
has_none f l (o ∷ os) k up lt = test (f o.how) (has_none f (suc o.number) os k up.1 (let g = up.0 in omega (arith, g, lt)))
  where
    test : (b : Bool) → has_number (cells_by f os) k ≡ false → has_number (if b then ref_cell o.number ∷ cells_by f os else cells_by f os) k ≡ false
    test true rest = ap (λ x. x || has_number (cells_by f os) k) (ne_eqb o.number k (more_differs o.number k (let g = up.0 in omega (arith, g, lt)))) ∙ rest
    test false rest = rest

pub has_by : (f : How → Bool) (l : ℕ) (os : List Own) (k : ℕ) → Ascends number_of l os → has_number (cells_by f os) k ≡ flag f (item_of number_of os k)
has_by f l [] k up = refl
has_by f l (o ∷ os) k up = test (o.number == k) (f o.how) refl refl (has_by f (suc o.number) os k up.1)
  where
    test : (a b : Bool) → (o.number == k) ≡ a → f o.how ≡ b → has_number (cells_by f os) k ≡ flag f (item_of number_of os k) → has_number (if b then ref_cell o.number ∷ cells_by f os else cells_by f os) k ≡ flag f (if a then Some o else item_of number_of os k)
    test true true e g rest = ap (λ x. x || has_number (cells_by f os) k) e ∙ sym g
    test true false e g rest = has_none f (suc o.number) os k up.1 (let h = eqb-true o.number k e in omega (arith, h)) ∙ sym g
    test false true e g rest = ap (λ x. x || has_number (cells_by f os) k) e ∙ rest
    test false false e g rest = rest

-- ---- an own value joins

pub writes_with : (os : List Own) (o : Own) → writes_of (with_item number_of os o) ≡ with_write (writes_of os) (ref_cell o.number) o.value
writes_with [] o = refl
writes_with (x ∷ xs) o = test (x.number == o.number) (nat_lt o.number x.number) (writes_with xs o)
  where
    test : (a b : Bool) → writes_of (with_item number_of xs o) ≡ with_write (writes_of xs) (ref_cell o.number) o.value → writes_of (if a then o ∷ xs else if b then o ∷ x ∷ xs else x ∷ with_item number_of xs o) ≡ (if a then (ref_cell o.number, o.value) ∷ writes_of xs else if b then (ref_cell o.number, o.value) ∷ (ref_cell x.number, x.value) ∷ writes_of xs else (ref_cell x.number, x.value) ∷ with_write (writes_of xs) (ref_cell o.number) o.value)
    test true b rest = refl
    test false true rest = refl
    test false false rest = ap (λ ws. (ref_cell x.number, x.value) ∷ ws) rest

before_all : (f : How → Bool) (l : ℕ) (os : List Own) (k : ℕ) → Ascends number_of l os → k < l → with_cell (cells_by f os) (ref_cell k) ≡ ref_cell k ∷ cells_by f os
before_all f l [] k up lt = refl
before_all f l (x ∷ xs) k up lt = test (f x.how) (before_all f (suc x.number) xs k up.1 (omega (arith, less)))
  where
    less : k < x.number
    less = let g = up.0 in omega (arith, g, lt)

    test : (b : Bool) → with_cell (cells_by f xs) (ref_cell k) ≡ ref_cell k ∷ cells_by f xs → with_cell (if b then ref_cell x.number ∷ cells_by f xs else cells_by f xs) (ref_cell k) ≡ ref_cell k ∷ (if b then ref_cell x.number ∷ cells_by f xs else cells_by f xs)
    test true rest =
        ap (λ y. if y then ref_cell x.number ∷ cells_by f xs else if nat_lt k x.number then ref_cell k ∷ ref_cell x.number ∷ cells_by f xs else ref_cell x.number ∷ with_cell (cells_by f xs) (ref_cell k)) (ne_eqb x.number k (more_differs x.number k less))
        ∙ ap (λ y. if y then ref_cell k ∷ ref_cell x.number ∷ cells_by f xs else ref_cell x.number ∷ with_cell (cells_by f xs) (ref_cell k)) (lt-ltb k x.number less)
    test false rest = rest

-- one that came in such a way: its ref joins
pub cells_more : (f : How → Bool) (l : ℕ) (os : List Own) (o : Own) → Ascends number_of l os → f o.how ≡ true → cells_by f (with_item number_of os o) ≡ with_cell (cells_by f os) (ref_cell o.number)
cells_more f l [] o up is = ap (λ b. if b then ref_cell o.number ∷ [] else []) is
cells_more f l (x ∷ xs) o up is = test (x.number == o.number) (nat_lt o.number x.number) refl refl (cells_more f (suc x.number) xs o up.1 is)
  where
    head : (rest : List CellId) → (if f o.how then (ref_cell o.number) ∷ rest else rest) ≡ (ref_cell o.number) ∷ rest
    head rest = ap (λ b. if b then (ref_cell o.number) ∷ rest else rest) is

    same : (b : Bool) → (x.number == o.number) ≡ true → (ref_cell o.number) ∷ cells_by f xs ≡ with_cell (if b then ref_cell x.number ∷ cells_by f xs else cells_by f xs) (ref_cell o.number)
    same true e =
        ap (λ m. ref_cell m ∷ cells_by f xs) (sym (eqb-true x.number o.number e))
        ∙ sym (ap (λ y. if y then ref_cell x.number ∷ cells_by f xs else if nat_lt o.number x.number then (ref_cell o.number) ∷ ref_cell x.number ∷ cells_by f xs else ref_cell x.number ∷ with_cell (cells_by f xs) (ref_cell o.number)) e)
    same false e = sym (before_all f (suc x.number) xs o.number up.1 (let h = eqb-true x.number o.number e in omega (arith, h)))

    past : (b : Bool) → (x.number == o.number) ≡ false → nat_lt o.number x.number ≡ false → cells_by f (with_item number_of xs o) ≡ with_cell (cells_by f xs) (ref_cell o.number) → (if b then ref_cell x.number ∷ cells_by f (with_item number_of xs o) else cells_by f (with_item number_of xs o)) ≡ with_cell (if b then ref_cell x.number ∷ cells_by f xs else cells_by f xs) (ref_cell o.number)
    past true e g rest =
        ap (λ ds. ref_cell x.number ∷ ds) rest
        ∙ sym (
        ap (λ y. if y then ref_cell x.number ∷ cells_by f xs else if nat_lt o.number x.number then (ref_cell o.number) ∷ ref_cell x.number ∷ cells_by f xs else ref_cell x.number ∷ with_cell (cells_by f xs) (ref_cell o.number)) e
        ∙ ap (λ y. if y then (ref_cell o.number) ∷ ref_cell x.number ∷ cells_by f xs else ref_cell x.number ∷ with_cell (cells_by f xs) (ref_cell o.number)) g)
    past false e g rest = rest

    test : (a b : Bool) → (x.number == o.number) ≡ a → nat_lt o.number x.number ≡ b → cells_by f (with_item number_of xs o) ≡ with_cell (cells_by f xs) (ref_cell o.number) → cells_by f (if a then o ∷ xs else if b then o ∷ x ∷ xs else x ∷ with_item number_of xs o) ≡ with_cell (cells_by f (x ∷ xs)) (ref_cell o.number)
    test true b e g rest = head (cells_by f xs) ∙ same (f x.how) e
    test false true e g rest =
        head (cells_by f (x ∷ xs))
        ∙ sym (before_all f x.number (x ∷ xs) o.number (omega arith, up.1) (ltb-true o.number x.number g))
    test false false e g rest = past (f x.how) e g rest

-- one that came in such a way exactly where there was one before: the refs stay
pub cells_steady : (f : How → Bool) (l : ℕ) (os : List Own) (o : Own) → Ascends number_of l os → flag f (item_of number_of os o.number) ≡ f o.how → cells_by f (with_item number_of os o) ≡ cells_by f os
cells_steady f l [] o up is = ap (λ b. if b then ref_cell o.number ∷ [] else []) (sym is)
cells_steady f l (x ∷ xs) o up is = test (x.number == o.number) (nat_lt o.number x.number) refl refl is (cells_steady f (suc x.number) xs o up.1)
  where
    test : (a b : Bool) → (x.number == o.number) ≡ a → nat_lt o.number x.number ≡ b → flag f (if a then Some x else item_of number_of xs o.number) ≡ f o.how → (flag f (item_of number_of xs o.number) ≡ f o.how → cells_by f (with_item number_of xs o) ≡ cells_by f xs) → cells_by f (if a then o ∷ xs else if b then o ∷ x ∷ xs else x ∷ with_item number_of xs o) ≡ cells_by f (x ∷ xs)
    test true b e g h rest =
        ap (λ y. if y then ref_cell o.number ∷ cells_by f xs else cells_by f xs) (sym h)
        ∙ ap (λ m. if f x.how then ref_cell m ∷ cells_by f xs else cells_by f xs) (sym (eqb-true x.number o.number e))
    test false true e g h rest =
        let less = ltb-true o.number x.number g in
        let none = none_below number_of (suc x.number) xs o.number up.1 (omega (arith, less)) in
        ap (λ y. if y then ref_cell o.number ∷ cells_by f (x ∷ xs) else cells_by f (x ∷ xs)) (sym h ∙ ap (flag f) none)
    test false false e g h rest = ap (λ ds. if f x.how then ref_cell x.number ∷ ds else ds) (rest h)

-- ---- what is gathered

abbrev Agrees : List CellId → List Own → Type 0
Agrees ds [] = Unit {0}
Agrees ds (o ∷ os) = (has_number ds o.number ≡ was_set o.how) × Agrees ds os

agrees_cons : (l : ℕ) (ds : List CellId) (d : CellId) (os : List Own) → Ascends number_of l os → d.number < l → Agrees ds os → Agrees (d ∷ ds) os
agrees_cons l ds d [] up lt h = tt
agrees_cons l ds d (o ∷ os) up lt h =
    let g = up.0 in (
      ap (λ x. x || has_number ds o.number) (ne_eqb d.number o.number (less_differs d.number o.number (omega (arith, g, lt)))) ∙ h.0,
      agrees_cons (suc o.number) ds d os up.1 (omega (arith, g, lt)) h.1,
    )

agrees : (l : ℕ) (os : List Own) → Ascends number_of l os → Agrees (cells_by was_set os) os
agrees l [] up = tt
agrees l (o ∷ os) up = test (was_set o.how) refl (agrees (suc o.number) os up.1)
  where
    test : (b : Bool) → was_set o.how ≡ b → Agrees (cells_by was_set os) os → Agrees (if b then ref_cell o.number ∷ cells_by was_set os else cells_by was_set os) (o ∷ os)
    test true e rest = (
      ap (λ x. x || has_number (cells_by was_set os) o.number) (eq-eqb o.number o.number refl) ∙ sym e,
      agrees_cons (suc o.number) (cells_by was_set os) (ref_cell o.number) os up.1 (omega arith) rest,
    )
    test false e rest = (has_none was_set (suc o.number) os o.number up.1 (omega arith) ∙ sym e, rest)

outside_by : (ds : List CellId) (os : List Own) → Agrees ds os → outside_of ds (cells_by was_commuted os) ≡ cells_by only_commuted os
outside_by ds [] h = refl
outside_by ds (o ∷ os) h = test o.how h.0 (outside_by ds os h.1)
  where
    test : (w : How) → has_number ds o.number ≡ was_set w → outside_of ds (cells_by was_commuted os) ≡ cells_by only_commuted os → outside_of ds (if was_commuted w then ref_cell o.number ∷ cells_by was_commuted os else cells_by was_commuted os) ≡ (if only_commuted w then ref_cell o.number ∷ cells_by only_commuted os else cells_by only_commuted os)
    test how.Set e rest = rest
    test how.Commuted e rest =
        ap (λ b. if b then outside_of ds (cells_by was_commuted os) else ref_cell o.number ∷ outside_of ds (cells_by was_commuted os)) e
        ∙ ap (λ cs. ref_cell o.number ∷ cs) rest
    test how.Both e rest =
        ap (λ b. if b then outside_of ds (cells_by was_commuted os) else ref_cell o.number ∷ outside_of ds (cells_by was_commuted os)) e
        ∙ rest

written_by : (ds : List CellId) (os : List Own) → Agrees ds os → writes_to ds (writes_of os) ≡ writes_by was_set os
written_by ds [] h = refl
written_by ds (o ∷ os) h =
    ap (λ b. if b then (ref_cell o.number, o.value) ∷ writes_to ds (writes_of os) else writes_to ds (writes_of os)) h.0
    ∙ ap (λ ws. if was_set o.how then (ref_cell o.number, o.value) ∷ ws else ws) (written_by ds os h.1)

-- the refs that were commuted and not set, one by one
pub commuted_by : (os : List Own) → Ascends number_of 0 os → outside_of (cells_by was_set os) (cells_by was_commuted os) ≡ cells_by only_commuted os
commuted_by os up = outside_by (cells_by was_set os) os (agrees 0 os up)

-- the refs that were set with their values, one by one
pub set_by : (os : List Own) → Ascends number_of 0 os → writes_to (cells_by was_set os) (writes_of os) ≡ writes_by was_set os
set_by os up = written_by (cells_by was_set os) os (agrees 0 os up)

pub cells_by_append : (f : How → Bool) (os : List Own) (ps : List Own) → cells_by f (os ++ ps) ≡ cells_by f os ++ cells_by f ps
cells_by_append f [] ps = refl
cells_by_append f (o ∷ os) ps = test (f o.how) (cells_by_append f os ps)
  where
    test : (b : Bool) → cells_by f (os ++ ps) ≡ cells_by f os ++ cells_by f ps → (if b then ref_cell o.number ∷ cells_by f (os ++ ps) else cells_by f (os ++ ps)) ≡ (if b then ref_cell o.number ∷ cells_by f os else cells_by f os) ++ cells_by f ps
    test true rest = ap (λ cs. ref_cell o.number ∷ cs) rest
    test false rest = rest

pub writes_by_append : (f : How → Bool) (os : List Own) (ps : List Own) → writes_by f (os ++ ps) ≡ writes_by f os ++ writes_by f ps
writes_by_append f [] ps = refl
writes_by_append f (o ∷ os) ps = test (f o.how) (writes_by_append f os ps)
  where
    test : (b : Bool) → writes_by f (os ++ ps) ≡ writes_by f os ++ writes_by f ps → (if b then (ref_cell o.number, o.value) ∷ writes_by f (os ++ ps) else writes_by f (os ++ ps)) ≡ (if b then (ref_cell o.number, o.value) ∷ writes_by f os else writes_by f os) ++ writes_by f ps
    test true rest = ap (λ ws. (ref_cell o.number, o.value) ∷ ws) rest
    test false rest = rest

-- ---- what is written

-- all refs of own values
abbrev pub all_cells : List Own → List CellId
all_cells os = map (λ o. ref_cell o.number) os

in_front : (f : How → Bool) (l : ℕ) (os : List Own) (k : ℕ) (ds : List CellId) → Ascends number_of l os → k < l → with_cells (ref_cell k ∷ ds) (cells_by f os) ≡ ref_cell k ∷ with_cells ds (cells_by f os)
in_front f l [] k ds up lt = refl
in_front f l (o ∷ os) k ds up lt = let less : k < o.number = (let g = up.0 in omega (arith, g, lt)) in test (f o.how) (λ es. in_front f (suc o.number) os k es up.1 (omega (arith, less)))
  where
    less : k < o.number
    less = let g = up.0 in omega (arith, g, lt)

    skips : with_cell (ref_cell k ∷ ds) (ref_cell o.number) ≡ ref_cell k ∷ with_cell ds (ref_cell o.number)
    skips =
        ap (λ y. if y then ref_cell k ∷ ds else if nat_lt o.number k then ref_cell o.number ∷ ref_cell k ∷ ds else ref_cell k ∷ with_cell ds (ref_cell o.number)) (ne_eqb k o.number (less_differs k o.number less))
        ∙ ap (λ y. if y then ref_cell o.number ∷ ref_cell k ∷ ds else ref_cell k ∷ with_cell ds (ref_cell o.number)) (le-ltb o.number k (let h = less in omega (arith, h)))

    test : (b : Bool) → ((es : List CellId) → with_cells (ref_cell k ∷ es) (cells_by f os) ≡ ref_cell k ∷ with_cells es (cells_by f os))
        → with_cells (ref_cell k ∷ ds) (if b then ref_cell o.number ∷ cells_by f os else cells_by f os) ≡ ref_cell k ∷ with_cells ds (if b then ref_cell o.number ∷ cells_by f os else cells_by f os)
    test true more = ap (λ (x : List CellId). with_cells x (cells_by f os)) skips ∙ more (with_cell ds (ref_cell o.number))
    test false more = more ds

-- those that were set, and those others that were commuted, are all
pub all_by : (l : ℕ) (os : List Own) → Ascends number_of l os → with_cells (cells_by was_set os) (cells_by only_commuted os) ≡ all_cells os
all_by l [] up = refl
all_by l (o ∷ os) up = test o.how (all_by (suc o.number) os up.1)
  where
    test : (h : How) → with_cells (cells_by was_set os) (cells_by only_commuted os) ≡ map (λ x. ref_cell x.number) os
        → with_cells (if was_set h then ref_cell o.number ∷ cells_by was_set os else cells_by was_set os) (if only_commuted h then ref_cell o.number ∷ cells_by only_commuted os else cells_by only_commuted os)
        ≡ ref_cell o.number ∷ map (λ x. ref_cell x.number) os
    test how.Set more = in_front only_commuted (suc o.number) os o.number (cells_by was_set os) up.1 (omega arith) ∙ ap (λ (x : List CellId). ref_cell o.number ∷ x) more
    test how.Both more = in_front only_commuted (suc o.number) os o.number (cells_by was_set os) up.1 (omega arith) ∙ ap (λ (x : List CellId). ref_cell o.number ∷ x) more
    test how.Commuted more =
        ap (λ (x : List CellId). with_cells x (cells_by only_commuted os)) (before_all was_set (suc o.number) os o.number up.1 (omega arith))
        ∙ in_front only_commuted (suc o.number) os o.number (cells_by was_set os) up.1 (omega arith)
        ∙ ap (λ (x : List CellId). ref_cell o.number ∷ x) more

-- the refs of writes are those of their own values
pub cells_in_by : (f : How → Bool) (os : List Own) → cells_in (writes_by f os) ≡ cells_by f os
cells_in_by f [] = refl
cells_in_by f (o ∷ os) = test (f o.how) (cells_in_by f os)
  where
    test : (b : Bool) → cells_in (writes_by f os) ≡ cells_by f os → cells_in (if b then (ref_cell o.number, o.value) ∷ writes_by f os else writes_by f os) ≡ (if b then ref_cell o.number ∷ cells_by f os else cells_by f os)
    test true more = ap (λ (x : List CellId). ref_cell o.number ∷ x) more
    test false more = more
