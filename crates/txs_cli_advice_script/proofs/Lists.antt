-- Laws of forms in lists.
use Rattle.std.proofs.Common.{◌≡◌, ◌<◌, ◌+◌, ℕ, suc, List, [], ◌∷◌, ◌++◌, length, refl, ap, sym, ◌∙◌, Option, Some, None, drop, take, drop-cons, add-one, get_or, slice_get, if◌then◌else◌, Bool, true, false, not, cond, arith}
use Rattle.std.specs.Option.{option_map, option_or}
use Rattle.std.specs.List.{position_or_len}
use Rattle.std.proofs.Math.Seq.{drop-length}
use Rattle.std.proofs.lemmas.List.{map-append, take_more}
use Rattle.std.proofs.lemmas.List.Sums.{fold-append}
use Rattle.std.proofs.lemmas.Option.{slice_get-map}
use Rattle.txs_reader.specs.declared.form.Form.{Form}
use Rattle.txs_reader.specs.Tree.{PlainForm, tree, trees, trees_of}
use Rattle.txs_cli_advice_script.specs.Forms.{defines, first_items, items_of, last_definition, list_of, parts_of}

-- forms in a row, as a list, and in a row again
pub list_of-trees_of : (forms : List PlainForm) → list_of (trees_of forms) ≡ forms
list_of-trees_of [] = refl
list_of-trees_of (form ∷ forms) = ap (λ rest. form ∷ rest) (list_of-trees_of forms)

-- the tree at an index is that of the form there
pub slice_get-trees : (forms : List Form) (i : ℕ) → slice_get (trees forms) i ≡ option_map tree (slice_get forms i)
slice_get-trees forms i = slice_get-map tree forms i

-- the first vector of some forms is the first of them, or the first of the others
first_items-cons : (forms : List Form) (i : ℕ) (form : Form) → i < length forms → form ≡ get_or forms i form
    → first_items (trees (drop i forms)) ≡ option_or (items_of (tree form)) (first_items (trees (drop (i + 1) forms)))
first_items-cons forms i form within is =
    ap (λ (fs : List Form). first_items (trees fs)) (drop-cons forms i form within ∙ ap (λ (f : Form). f ∷ drop (suc i) forms) (sym is) ∙ ap (λ (k : ℕ). form ∷ drop k forms) (sym (add-one i)))

-- a vector is found where none was before it
pub first_found : (forms : List Form) (i : ℕ) (form : Form) (items : List PlainForm) → i < length forms → form ≡ get_or forms i form → items_of (tree form) ≡ Some items
    → first_items (trees (drop i forms)) ≡ first_items (trees forms) → Some items ≡ first_items (trees forms)
first_found forms i form items within is vector before =
    sym (ap (λ (o : Option (List PlainForm)). option_or o (first_items (trees (drop (i + 1) forms)))) vector) ∙ sym (first_items-cons forms i form within is) ∙ before

-- another form is passed
pub first_passed : (forms : List Form) (i : ℕ) (form : Form) → i < length forms → form ≡ get_or forms i form → items_of (tree form) ≡ None
    → first_items (trees (drop i forms)) ≡ first_items (trees forms) → first_items (trees (drop (i + 1) forms)) ≡ first_items (trees forms)
first_passed forms i form within is other before =
    sym (ap (λ (o : Option (List PlainForm)). option_or o (first_items (trees (drop (i + 1) forms)))) other) ∙ sym (first_items-cons forms i form within is) ∙ before

-- the last definition among one form more
pub last_more : (name : List ℕ) (forms : List Form) (i : ℕ) (form : Form) → i < length forms → form ≡ get_or forms i form
    → last_definition name (trees (take (i + 1) forms)) ≡ (if defines name (parts_of (tree form)) then parts_of (tree form) else last_definition name (trees (take i forms)))
last_more name forms i form within is =
    ap (λ (fs : List Form). last_definition name (trees fs)) (take_more forms i form within ∙ ap (λ (f : Form). take i forms ++ f ∷ []) (sym is))
    ∙ ap (last_definition name) (map-append tree (take i forms) (form ∷ []))
    ∙ fold-append (λ found f. if defines name (parts_of f) then parts_of f else found) [] (trees (take i forms)) (tree form ∷ [])

-- the first that passes is the first form, or is among the others
position_cons : (p : PlainForm → Bool) (x : PlainForm) (xs : List PlainForm) → position_or_len p (x ∷ xs) ≡ cond (p x) 0 (1 + position_or_len p xs)
position_cons p x xs = elim (p x) as (λ b. cond (not b) (1 + position_or_len p xs) 0 ≡ cond b 0 (1 + position_or_len p xs)) [ true ↦ refl | false ↦ refl ]

-- the index of the first form that passes, past those before
position_step : (p : PlainForm → Bool) (forms : List Form) (i : ℕ) (form : Form) → i < length forms → form ≡ get_or forms i form
    → position_or_len p (trees (drop i forms)) ≡ cond (p (tree form)) 0 (1 + position_or_len p (trees (drop (i + 1) forms)))
position_step p forms i form within is =
    ap (λ (fs : List Form). position_or_len p (trees fs)) (drop-cons forms i form within ∙ ap (λ (f : Form). f ∷ drop (suc i) forms) (sym is) ∙ ap (λ (k : ℕ). form ∷ drop k forms) (sym (add-one i)))
    ∙ position_cons p (tree form) (trees (drop (i + 1) forms))

pub position_found : (p : PlainForm → Bool) (forms : List Form) (i : ℕ) (form : Form) → i < length forms → form ≡ get_or forms i form → p (tree form) ≡ true
    → position_or_len p (trees forms) ≡ i + position_or_len p (trees (drop i forms)) → i ≡ position_or_len p (trees forms)
position_found p forms i form within is passes before =
    let here : position_or_len p (trees (drop i forms)) ≡ 0 = position_step p forms i form within is ∙ ap (λ b. cond b 0 (1 + position_or_len p (trees (drop (i + 1) forms)))) passes in
    omega (arith, before, here)

pub position_passed : (p : PlainForm → Bool) (forms : List Form) (i : ℕ) (form : Form) → i < length forms → form ≡ get_or forms i form → p (tree form) ≡ false
    → position_or_len p (trees forms) ≡ i + position_or_len p (trees (drop i forms)) → position_or_len p (trees forms) ≡ (i + 1) + position_or_len p (trees (drop (i + 1) forms))
position_passed p forms i form within is other before =
    let here : position_or_len p (trees (drop i forms)) ≡ 1 + position_or_len p (trees (drop (i + 1) forms)) = position_step p forms i form within is ∙ ap (λ b. cond b 0 (1 + position_or_len p (trees (drop (i + 1) forms)))) other in
    omega (arith, before, here)

pub position_none : (p : PlainForm → Bool) (forms : List Form) (i : ℕ) → i ≡ length forms → position_or_len p (trees forms) ≡ i + position_or_len p (trees (drop i forms))
    → length forms ≡ position_or_len p (trees forms)
position_none p forms i end before =
    let here : position_or_len p (trees (drop i forms)) ≡ 0 = ap (λ (fs : List Form). position_or_len p (trees fs)) (ap (λ k. drop k forms) end ∙ drop-length forms) in
    omega (arith, before, here, end)
