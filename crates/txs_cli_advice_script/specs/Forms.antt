-- What is read off the forms of a script: names, lists, vectors, definitions. And off its text, at a span.
use Rattle.std.specs.Prelude.{ℕ, Bool, not, ◌&&◌, nat_le, if◌then◌else◌, List, [], ◌∷◌, map, length, take, drop, fold, false, Option, Some, None, slice_get}
use Rattle.std.specs.Option.{option_or}
use Rattle.std.specs.Str.{bytes_eq}
use Rattle.txs_value_data.specs.declared.fault.Span.{Span}
use Rattle.txs_reader.specs.declared.form.Bracket.TheVariants.{Round, Square}
use Rattle.txs_reader.specs.Tree.{PlainForm, PlainForms, leaf, group, first, none, symbol}
use Rattle.txs_cli_advice_script.specs.Rows.{said_in}
use Rattle.txs_cli_advice_script.specs.Shown.{text_of}
use Rattle.txs_cli_advice_script.specs.declared.script.TheConstants.{DEFINITIONS}

-- the bytes at a span, and none where the text is shorter
abbrev pub bytes_in : List ℕ → Span → List ℕ
bytes_in text at = if nat_le at.from at.to && nat_le at.to (length text) then drop at.from (take at.to text) else []

-- forms in a row as a list
abbrev pub list_of : PlainForms → List PlainForm
list_of none = []
list_of (first form forms) = form ∷ list_of forms

-- the name that a form is; the empty one where it is no symbol
abbrev pub name_of : PlainForm → List ℕ
name_of (leaf (symbol name) at) = text_of name
name_of form = []

abbrev pub name_in : Option PlainForm → List ℕ
name_in None = []
name_in (Some form) = name_of form

-- the forms of a list; none where it is no list
abbrev pub parts_of : PlainForm → List PlainForm
parts_of (group Round forms at) = list_of forms
parts_of form = []

abbrev pub parts_in : Option PlainForm → List PlainForm
parts_in None = []
parts_in (Some form) = parts_of form

-- the items of a vector, if it is one
abbrev pub items_of : PlainForm → Option (List PlainForm)
items_of (group Square forms at) = Some (list_of forms)
items_of form = None

abbrev pub items_in : Option PlainForm → Option (List PlainForm)
items_in None = None
items_in (Some form) = items_of form

-- the items of the first vector among these, if there is one
abbrev pub first_items : List PlainForm → Option (List PlainForm)
first_items [] = None
first_items (form ∷ forms) = option_or (items_of form) (first_items forms)

-- the name that a list defines, which is its second part where the first is `def` or `defn`; else the empty one
abbrev pub name_defined : List PlainForm → List ℕ
name_defined parts = if said_in (map (λ row. (row.0.now, row.1)) DEFINITIONS) (name_in (slice_get parts 0)) false then name_in (slice_get parts 1) else []

-- the names that these forms define, with the empty one for each that defines none
abbrev pub names_defined : List PlainForm → List (List ℕ)
names_defined forms = map (λ form. name_defined (parts_of form)) forms

abbrev pub is_empty : List ℕ → Bool
is_empty name = bytes_eq name []

-- whether a list of these parts defines a name, which isn't the empty one
abbrev pub defines : List ℕ → List PlainForm → Bool
defines name parts = not (is_empty name) && bytes_eq (name_defined parts) name

-- the parts of the last form that defines a name; none where none does
abbrev pub last_definition : List ℕ → List PlainForm → List PlainForm
last_definition name forms = fold (λ found form. if defines name (parts_of form) then parts_of form else found) [] forms
