-- What is written piece by piece.
use Rattle.std.proofs.Common.{◌≡◌, ℕ, zero, suc, ◌+◌, ◌<◌, ◌≤◌, List, [], ◌∷◌, ◌++◌, length, get_or, take, drop, add-one, Some, sym, ap, ◌∙◌, append_assoc, arith, Result, Ok, Err, OnOk}
use Rattle.std.specs.List.{slice_get}
use Rattle.std.proofs.lemmas.List.{append-nil, drop_all, drop_more}
use Rattle.txs_value_data.specs.PlainValue.{PlainValue, plain_row}
use Rattle.txs_value_data.specs.Printed.{gap}
use Rattle.txs_value_data.proofs.PlacesLemmas.{take_next}
use Rattle.txs_value_data.proofs.PrintedLemmas.{then_more}
use Rattle.txs_cli_events.specs.LongLines.{each}
use Rattle.txs_cli_events.specs.Shown.{shown, items_shown, later_shown}

-- ---- a list, piece by piece

-- one more is written, before those to come
pub each_more : {A : Type 0} (words : ℕ → A → List ℕ) (xs : List A) (i : ℕ) (x : A) (out new all : List ℕ) → i < length xs → x ≡ get_or xs i x
    → new ≡ out ++ words i x → out ++ each words i (drop i xs) ≡ all → new ++ each words (i + 1) (drop (i + 1) xs) ≡ all
each_more {A} words xs i x out new all l e h so_far =
    let rest = drop (i + 1) xs in
    ap (λ (bs : List ℕ). bs ++ each words (i + 1) rest) h
    ∙ append_assoc out (words i x) (each words (i + 1) rest)
    ∙ ap (λ (n : ℕ). out ++ (words i x ++ each words n rest)) (add-one i)
    ∙ ap (λ (y : A). out ++ each words i (y ∷ rest)) e
    ∙ ap (λ (ys : List A). out ++ each words i ys) (sym (drop_more xs i x l))
    ∙ so_far

-- behind the last none are to come
pub each_end : {A : Type 0} (words : ℕ → A → List ℕ) (xs : List A) (i : ℕ) (out all : List ℕ) → length xs ≤ i → out ++ each words i (drop i xs) ≡ all → out ≡ all
each_end {A} words xs i out all past so_far = sym (append-nil out) ∙ ap (λ (ys : List A). out ++ each words i ys) (sym (drop_all i xs past)) ∙ so_far

-- ---- the items of a vector

later_push : (ds : List PlainValue) (d : PlainValue) → later_shown (plain_row (ds ++ d ∷ [])) ≡ later_shown (plain_row ds) ++ 32 ∷ shown d
later_push [] d = ap (λ (xs : List ℕ). 32 ∷ xs) (append-nil (shown d))
later_push (e ∷ ds) d = ap (λ (xs : List ℕ). 32 ∷ (shown e ++ xs)) (later_push ds d) ∙ ap (λ (xs : List ℕ). 32 ∷ xs) (sym (append_assoc (shown e) (later_shown (plain_row ds)) (32 ∷ shown d)))

items_push : (ds : List PlainValue) (d e : PlainValue) → items_shown (plain_row ((e ∷ ds) ++ d ∷ [])) ≡ items_shown (plain_row (e ∷ ds)) ++ 32 ∷ shown d
items_push ds d e = ap (λ (xs : List ℕ). shown e ++ xs) (later_push ds d) ∙ sym (append_assoc (shown e) (later_shown (plain_row ds)) (32 ∷ shown d))

items_at : (ds : List PlainValue) (i : ℕ) (d : PlainValue) → i < length ds → items_shown (plain_row (take i ds ++ d ∷ [])) ≡ items_shown (plain_row (take i ds)) ++ (gap i ++ shown d)
items_at ds zero d lt = append-nil (shown d)
items_at [] (suc i) d lt = absurd (omega arith)
items_at (e ∷ ds) (suc i) d lt = items_push (take i ds) d e

-- one more item
pub items_next : (ds : List PlainValue) (i : ℕ) (d : PlainValue) → i < length ds → slice_get ds i ≡ Some d → items_shown (plain_row (take (i + 1) ds)) ≡ items_shown (plain_row (take i ds)) ++ (gap i ++ shown d)
items_next ds i d lt is = ap (λ (xs : List PlainValue). items_shown (plain_row xs)) (take_next ds i d is) ∙ items_at ds i d lt

-- ---- parts, one behind the other

-- what follows from what holds where there was memory
pub on_ok : {A E : Type 0} (r : Result A E) {P Q : Type 0} → (P → Q) → OnOk r P → OnOk r Q
on_ok (Ok x) f h = f h
on_ok (Err e) f h = tt

-- a pair behind others
pub pair_more : (old l mid x y new : List ℕ) → mid ≡ old ++ l → new ≡ mid ++ (x ++ y) → new ≡ old ++ (l ++ x ++ y)
pair_more old l mid x y new p q = then_more old l mid (x ++ y) new p q ∙ ap (λ (bs : List ℕ). old ++ bs) (sym (append_assoc l x y))
