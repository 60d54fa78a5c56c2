-- What a list of items prints as, one more item at a time.
use Rattle.std.proofs.Common.{◌≡◌, ℕ, zero, suc, ◌+◌, ◌<◌, List, [], ◌∷◌, ◌++◌, length, get_or, take, sym, ap, ◌∙◌, append_assoc, Some, arith, Result, Ok, Err, if◌then◌else◌}
use Rattle.std.proofs.lemmas.List.{take_more, length-map, append-nil}
use Rattle.std.specs.List.{slice_get}
use Rattle.std.specs.Prelude.{is_ok, OnOk}
use Rattle.txs_value_data.specs.PlainValue.{PlainValue, plain_row}
use Rattle.txs_value_data.specs.Printed.{printed, items_printed, later_printed, gap, Extends}
use Rattle.txs_value_data.specs.View.{plain_of, plains_of}
use Rattle.txs_value_data.proofs.ItemsLemmas.{plain_at}
use Rattle.txs_value_data.proofs.PlacesLemmas.{take_next}
use Rattle.txs_value_data.specs.declared.value.Value.{Value}

later_printed-push : (ds : List PlainValue) (d : PlainValue) → later_printed (plain_row (ds ++ d ∷ [])) ≡ later_printed (plain_row ds) ++ 32 ∷ printed d
later_printed-push [] d = ap (λ xs. 32 ∷ xs) (append-nil (printed d))
later_printed-push (e ∷ ds) d = ap (λ xs. 32 ∷ (printed e ++ xs)) (later_printed-push ds d) ∙ ap (λ xs. 32 ∷ xs) (sym (append_assoc (printed e) (later_printed (plain_row ds)) (32 ∷ printed d)))

items_printed-push : (ds : List PlainValue) (d e : PlainValue) → items_printed (plain_row ((e ∷ ds) ++ d ∷ [])) ≡ items_printed (plain_row (e ∷ ds)) ++ 32 ∷ printed d
items_printed-push ds d e = ap (λ xs. printed e ++ xs) (later_printed-push ds d) ∙ sym (append_assoc (printed e) (later_printed (plain_row ds)) (32 ∷ printed d))

items_printed-at : (ds : List PlainValue) (i : ℕ) (d : PlainValue) → i < length ds → items_printed (plain_row (take i ds ++ d ∷ [])) ≡ items_printed (plain_row (take i ds)) ++ (gap i ++ printed d)
items_printed-at ds zero d lt = append-nil (printed d)
items_printed-at [] (suc i) d lt = absurd (omega arith)
items_printed-at (e ∷ ds) (suc i) d lt = items_printed-push (take i ds) d e

pub items_printed-more : (ds : List PlainValue) (vs : List Value) (v : Value) (i : ℕ) → plains_of vs ≡ ds → i < length vs → v ≡ get_or vs i v
    → items_printed (plain_row (take (i + 1) ds)) ≡ items_printed (plain_row (take i ds)) ++ (gap i ++ printed (plain_of v))
items_printed-more ds vs v i seen lt is =
    let d = plain_of v in
    let there : i < length (plains_of vs) = rw (length-map vs plain_of) lt in
    rw (sym seen, take_more (plains_of vs) i d there, sym (plain_at vs i v d lt is)) (items_printed-at (plains_of vs) i d there)

pub items_printed-next : (ds : List PlainValue) (i : ℕ) (d : PlainValue) → i < length ds → slice_get ds i ≡ Some d → items_printed (plain_row (take (i + 1) ds)) ≡ items_printed (plain_row (take i ds)) ++ (gap i ++ printed d)
items_printed-next ds i d lt is = ap (λ xs. items_printed (plain_row xs)) (take_next ds i d is) ∙ items_printed-at ds i d lt

module _ (old a b p here mid new : List ℕ) (e : here ≡ old ++ a) (f : mid ≡ here ++ b) where
  pub appended : new ≡ mid ++ p → new ≡ old ++ (a ++ (b ++ p))
  appended g = rw (g, f, e) (simp append_assoc)

  pub Extends-appended : Extends mid new → Extends old new
  Extends-appended x = record { more = a ++ (b ++ x.more); is = rw (x.is, f, e) (simp append_assoc) }

pub Extends-after : (old a here new : List ℕ) → here ≡ old ++ a → Extends here new → Extends old new
Extends-after old a here new e x = record { more = a ++ x.more; is = rw (x.is, e) (simp append_assoc) }

-- what is appended, or isn't where there is no memory, extends what was there
pub Extends-by : {T E : Type 0} (r : Result T E) (old s new : List ℕ) → new ≡ (if is_ok r then old ++ s else old) → Extends old new
Extends-by (Ok x) old s new e = record { more = s; is = e }
Extends-by (Err x) old s new e = record { more = []; is = e ∙ sym (append-nil old) }

-- one piece more
pub then_more : (old a mid b new : List ℕ) → mid ≡ old ++ a → new ≡ mid ++ b → new ≡ old ++ (a ++ b)
then_more old a mid b new f e = e ∙ ap (λ l. l ++ b) f ∙ append_assoc old a b

-- the last piece, for which there is memory or isn't
pub ended_by : {T E : Type 0} (r : Result T E) (old a mid s new : List ℕ) → mid ≡ old ++ a → new ≡ (if is_ok r then mid ++ s else mid) → OnOk r (new ≡ old ++ (a ++ s))
ended_by (Ok x) old a mid s new f e = then_more old a mid s new f e
ended_by (Err x) old a mid s new f e = tt
