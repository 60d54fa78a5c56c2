-- Laws of what is inside of forms, and of the nearest name there.
use Rattle.std.proofs.Common.{◌≡◌, ◌<◌, ◌≤◌, ◌⊎◌, ℕ, zero, suc, List, [], ◌∷◌, length, refl, ap, sym, ◌∙◌, subst, inl, inr, Option, Some, None, Contains, slice_get, slice_index_or, arith}
use Rattle.std.specs.Option.{option_or}
use Rattle.std.proofs.lemmas.List.{length-map}
use Rattle.std.proofs.lemmas.List.Elements.{Contains-append_right}
use Rattle.txs_reader.specs.declared.form.Form.{Form}
use Rattle.txs_value_data.specs.declared.fault.Span.{Span}
use Rattle.txs_reader.specs.declared.form.Bracket.{Bracket}
use Rattle.txs_reader.specs.declared.form.Bracket.TheVariants.{Round, Square}
use Rattle.txs_reader.specs.Tree.{PlainForm, leaf, group, place, tree, trees, trees_of}
use Rattle.txs_cli_advice_script.specs.declared.near.Near.{Near}
use Rattle.txs_cli_advice_script.specs.Nears.{Nearest}
use Rattle.txs_cli_advice_script.specs.Forms.{first_items, items_in, items_of, list_of, name_in, name_defined, names_defined, parts_in}
use Rattle.std.specs.List.{position_or_len}
use Rattle.txs_cli_advice_script.specs.declared.around.Around.{Around}
use Rattle.txs_cli_advice_script.specs.Surroundings.{Inside, whole, deeper, Named, NearestInside, Surrounds, covers, names_of}
use Rattle.txs_cli_advice_script.proofs.Lists.{list_of-trees_of}

-- one more name of a list is the nearest, or none of it is nearer
pub Nearest-more : (names : List (List ℕ)) (y : List ℕ) (a b c : Near) → Nearest names a b → Contains names y → (c.name.now ≡ b.name.now) ⊎ (c.name.now ≡ y) → c.edits ≤ b.edits
    → Nearest names a c
Nearest-more names y a b c before has one nearer = record {
  one = elim one as (λ _. (c.name.now ≡ a.name.now) ⊎ Contains names c.name.now) [
    | inl same ↦ elim before.one as (λ _. (c.name.now ≡ a.name.now) ⊎ Contains names c.name.now) [
      | inl old ↦ inl (same ∙ old)
      | inr there ↦ inr (subst (λ n. Contains names n) (sym same) there)
    ]
    | inr is ↦ inr (subst (λ n. Contains names n) (sym is) has)
  ];
  nearer = let f = before.nearer in omega arith;
}

-- what is as before is the nearest of any
pub Nearest-same : (names : List (List ℕ)) (a : Near) → Nearest names a a
Nearest-same names a = record { one = inl refl; nearer = omega arith }

pub NearestInside-same : (forms : List PlainForm) (a : Near) → NearestInside forms a a
NearestInside-same forms a = record { one = inl refl; nearer = omega arith }

-- the name at an index is one of the names
name_index : (forms : List PlainForm) (i : ℕ) (e : List ℕ) → i < length forms → slice_index_or (names_of forms) i e ≡ name_in (slice_get forms i)
name_index [] i e lt = absurd (omega (arith, lt))
name_index (form ∷ forms) zero e lt = refl
name_index (form ∷ forms) (suc i) e lt = name_index forms i e (omega (arith, lt))

names_length : (forms : List PlainForm) → length (names_of forms) ≡ length forms
names_length [] = refl
names_length (form ∷ forms) = ap suc (names_length forms)

pub Contains-name : (forms : List PlainForm) (i : ℕ) → i < length forms → Contains (names_of forms) (name_in (slice_get forms i))
Contains-name forms i lt = (i, (let e = names_length forms in omega arith), name_index forms i (name_in (slice_get forms i)) lt)

-- the name that the form at an index defines is one of those defined
defined_index : (forms : List PlainForm) (i : ℕ) (e : List ℕ) → i < length forms → slice_index_or (names_defined forms) i e ≡ name_defined (parts_in (slice_get forms i))
defined_index [] i e lt = absurd (omega (arith, lt))
defined_index (form ∷ forms) zero e lt = refl
defined_index (form ∷ forms) (suc i) e lt = defined_index forms i e (omega (arith, lt))

defined_length : (forms : List PlainForm) → length (names_defined forms) ≡ length forms
defined_length [] = refl
defined_length (form ∷ forms) = ap suc (defined_length forms)

pub Contains-defined : (forms : List PlainForm) (i : ℕ) → i < length forms → Contains (names_defined forms) (name_defined (parts_in (slice_get forms i)))
Contains-defined forms i lt = (i, (let e = defined_length forms in omega arith), defined_index forms i (name_defined (parts_in (slice_get forms i))) lt)

-- the form at an index is among the forms
index_of : (forms : List PlainForm) (i : ℕ) (form : PlainForm) → slice_get forms i ≡ Some form → (i < length forms) × (slice_index_or forms i form ≡ form)
index_of [] i form is = absurd (cc)
index_of (x ∷ xs) zero form is = (omega arith, cc)
index_of (x ∷ xs) (suc i) form is = let h = index_of xs i form is in ((let l = h.0 in omega arith), h.1)

pub Contains-at : (forms : List PlainForm) (i : ℕ) (form : PlainForm) → slice_get forms i ≡ Some form → Contains forms form
Contains-at forms i form is = let h = index_of forms i form is in (i, h.0, h.1)

-- the forms inside of a list or vector inside of others are inside of these
pub Inside-trans : (forms outer inner : List PlainForm) → Inside forms outer → Inside outer inner → Inside forms inner
Inside-trans forms outer inner first whole = first
Inside-trans forms outer inner first (deeper middle bracket ps at then has) = deeper middle bracket ps at (Inside-trans forms outer middle first then) has

-- the items of a vector are inside of the forms with it
pub Inside-items : (forms : List PlainForm) (form : PlainForm) (items : List PlainForm) → Contains forms form → items_of form ≡ Some items → Inside forms items
Inside-items forms (leaf x at) items has is = absurd (cc)
Inside-items forms (group Round ps at) items has is = absurd (cc)
Inside-items forms (group Square ps at) items has is = let e : list_of ps ≡ items = cc in subst (λ l. Inside forms l) e (deeper forms Square ps at whole has)

pub Inside-items_in : (forms : List PlainForm) (i : ℕ) (items : List PlainForm) → items_in (slice_get forms i) ≡ Some items → Inside forms items
Inside-items_in forms i items is = found (slice_get forms i) refl is where
  found : (o : Option PlainForm) → slice_get forms i ≡ o → items_in o ≡ Some items → Inside forms items
  found None e is = absurd (cc)
  found (Some form) e is = Inside-items forms form items (Contains-at forms i form e) is

-- the items of the first vector among some forms
abbrev Found : List PlainForm → List PlainForm → Type 0
Found forms items = (form : PlainForm) × Contains forms form × (items_of form ≡ Some items)

found_first : (x : PlainForm) (xs : List PlainForm) (items : List PlainForm) (o : Option (List PlainForm)) → items_of x ≡ o → option_or o (first_items xs) ≡ Some items
    → (first_items xs ≡ Some items → Found xs items) → Found (x ∷ xs) items
found_first x xs items None e rest others = let h : Found xs items = others rest in (h.0, Contains-append_right (x ∷ []) xs h.0 h.1, h.2)
found_first x xs items (Some found) e same others = (x, (0, omega arith, refl), e ∙ same)

vector_first : (forms : List PlainForm) (items : List PlainForm) → first_items forms ≡ Some items → Found forms items
vector_first [] items is = absurd (cc)
vector_first (x ∷ xs) items is = found_first x xs items (items_of x) refl is (λ rest. vector_first xs items rest)

pub Inside-first : (forms : List PlainForm) (items : List PlainForm) → first_items forms ≡ Some items → Inside forms items
Inside-first forms items is = let h = vector_first forms items is in Inside-items forms h.0 items h.1 h.2

-- the nearest name of what is inside
pub NearestInside-of : (forms items : List PlainForm) (a b : Near) → Inside forms items → Nearest (names_of items) a b → NearestInside forms a b
NearestInside-of forms items a b inside near = record {
  one = elim near.one as (λ _. (b.name.now ≡ a.name.now) ⊎ Named forms b.name.now) [
    | inl same ↦ inl same
    | inr has ↦ inr (record { items = items; inside = inside; has = has })
  ];
  nearer = near.nearer;
}

-- the nearest inside of some forms, and then of a part of them
pub NearestInside-trans : (forms outer : List PlainForm) (a b c : Near) → Inside forms outer → NearestInside forms a b → NearestInside outer b c → NearestInside forms a c
NearestInside-trans forms outer a b c inside before then = record {
  one = elim then.one as (λ _. (c.name.now ≡ a.name.now) ⊎ Named forms c.name.now) [
    | inl same ↦ elim before.one as (λ _. (c.name.now ≡ a.name.now) ⊎ Named forms c.name.now) [
      | inl old ↦ inl (same ∙ old)
      | inr there ↦ inr (subst (λ n. Named forms n) (sym same) there)
    ]
    | inr there ↦ inr (record { items = there.items; inside = Inside-trans forms outer there.items inside there.inside; has = there.has })
  ];
  nearer = let f = before.nearer in let g = then.nearer in omega arith;
}

-- names of forms as the program has them
pub Contains-name_at : (forms : List Form) (i : ℕ) (name : List ℕ) → i < length forms → name ≡ name_in (slice_get (trees forms) i) → Contains (names_of (trees forms)) name
Contains-name_at forms i name lt is =
    subst (λ n. Contains (names_of (trees forms)) n) (sym is) (Contains-name (trees forms) i (let e = length-map forms tree in omega arith))

pub Contains-defined_at : (forms : List Form) (i : ℕ) (name : List ℕ) → i < length forms → name ≡ name_defined (parts_in (slice_get (trees forms) i))
    → Contains (names_defined (trees forms)) name
Contains-defined_at forms i name lt is =
    subst (λ n. Contains (names_defined (trees forms)) n) (sym is) (Contains-defined (trees forms) i (let e = length-map forms tree in omega arith))

-- what is around a span, before any step inward
pub Surrounds-first : (forms : List Form) (at : Span) (none : Near) (here : Around) → here.parts.now ≡ forms
    → here.index ≡ position_or_len (λ form. covers (place form) at) (trees forms) → NearestInside (trees forms) none here.near → Surrounds (trees forms) at none here
Surrounds-first forms at none here parts index near = record {
  inside = subst (λ (l : List Form). Inside (trees forms) (trees l)) (sym parts) whole;
  index = index ∙ ap (λ (l : List Form). position_or_len (λ form. covers (place form) at) (trees l)) (sym parts);
  near = near;
}

-- and behind a step
pub Surrounds-next : (forms : List PlainForm) (at : Span) (none : Near) (old new : Around) (inner : List Form) (bracket : Bracket) (span : Span) → Surrounds forms at none old
    → slice_get (trees old.parts.now) old.index ≡ Some (group bracket (trees_of (trees inner)) span) → new.parts.now ≡ inner
    → new.index ≡ position_or_len (λ form. covers (place form) at) (trees inner) → NearestInside (trees inner) old.near new.near → Surrounds forms at none new
Surrounds-next forms at none old new inner bracket span before found parts index near =
    let outer : List PlainForm = trees old.parts.now in
    let row : Inside forms (list_of (trees_of (trees inner))) =
    deeper outer bracket (trees_of (trees inner)) span before.inside (Contains-at outer old.index (group bracket (trees_of (trees inner)) span) found) in
    let inside : Inside forms (trees inner) = subst (λ (l : List PlainForm). Inside forms l) (list_of-trees_of (trees inner)) row in
    record {
      inside = subst (λ (l : List Form). Inside forms (trees l)) (sym parts) inside;
      index = index ∙ ap (λ (l : List Form). position_or_len (λ form. covers (place form) at) (trees l)) (sym parts);
      near = NearestInside-trans forms (trees inner) none old.near new.near inside before.near near;
    }
