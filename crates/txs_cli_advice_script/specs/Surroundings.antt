-- What is around a span: the list that has it as a part, and the names that are in scope there.
use Rattle.std.specs.Prelude.{◌≡◌, ◌≤◌, ◌⊎◌, ℕ, Bool, nat_le, nat_lt, ◌==◌, ◌&&◌, ◌||◌, List, map, Contains, slice_get}
use Rattle.std.specs.List.{position_or_len}
use Rattle.txs_value_data.specs.declared.fault.Span.{Span}
use Rattle.txs_reader.specs.declared.form.Bracket.{Bracket}
use Rattle.txs_reader.specs.Tree.{PlainForm, PlainForms, group, place, trees}
use Rattle.txs_cli_advice_script.specs.declared.near.Near.{Near}
use Rattle.txs_cli_advice_script.specs.Rows.{said_in}
use Rattle.txs_cli_advice_script.specs.declared.around.Around.{Around}
use Rattle.txs_cli_advice_script.specs.declared.around.TheConstants.{CALLERS}
use Rattle.txs_cli_advice_script.specs.Forms.{list_of, name_in, name_of}

-- whether a span is within another
abbrev pub covers : Span → Span → Bool
covers outer inner = nat_le outer.from inner.from && nat_le inner.to outer.to

-- these are the forms themselves, or those of a list or vector among them, at any depth
pub data Inside (forms : List PlainForm) : List PlainForm → Type 0 where
  whole : Inside forms forms
  deeper : (outer : List PlainForm) (bracket : Bracket) (inner : PlainForms) (at : Span) → Inside forms outer → Contains outer (group bracket inner at)
      → Inside forms (list_of inner)

-- the names of forms
abbrev pub names_of : List PlainForm → List (List ℕ)
names_of forms = map name_of forms

-- some forms inside of these have a name among them
pub record Named (forms : List PlainForm) (name : List ℕ) : Type 0 where
  pub items : List PlainForm
  pub inside : Inside forms items
  pub has : Contains (names_of items) name

-- the new name is the old one or that of a form inside of these, and no farther off
pub record NearestInside (forms : List PlainForm) (old new : Near) : Type 0 where
  pub one : (new.name.now ≡ old.name.now) ⊎ Named forms new.name.now
  pub nearer : new.edits ≤ old.edits

-- Some of these forms, at any depth, and the index of the first among them that has the span within it, or past the end. And a name that
-- is near.
pub record Surrounds (forms : List PlainForm) (at : Span) (before : Near) (here : Around) : Type 0 where
  pub inside : Inside forms (trees here.parts.now)
  pub index : here.index ≡ position_or_len (λ form. covers (place form) at) (trees here.parts.now)
  pub near : NearestInside forms before here.near

-- the index of the part at which a list names a function: the first, and behind the cell in a form that changes a cell
abbrev pub function_place : List ℕ → ℕ
function_place head = said_in (map (λ row. (row.0.now, row.1)) CALLERS) head 0

-- whether the part of a list at an index is where a function is named
abbrev pub names_function : List PlainForm → ℕ → Bool
names_function parts index = (index == 0) || (nat_lt 0 (function_place (name_in (slice_get parts 0))) && (index == function_place (name_in (slice_get parts 0))))
