-- Renaming a local: the same forms with the same spans, in which the local has another name wherever a symbol stands for it.
use Rattle.std.specs.Prelude.{◌≡◌, ◌≢◌, ℕ, Bool, true, false, ◌||◌, bytes_eq, List, [], Option, Some, None, if◌then◌else◌}
use Rattle.txs_value_data.specs.declared.fault.Span.{Span}
use Rattle.txs_reader.specs.declared.form.Bracket.{Bracket}
use Rattle.txs_reader.specs.declared.form.Bracket.TheVariants.{Round, Square}
use Rattle.txs_reader.specs.Tree.{Leaf, PlainForm as Form, PlainForms as Forms, leaf, group, first, number, symbol, nil, truth, text, keyword}
use Rattle.txs_reader.specs.Tree.{none as no_forms}
use Rattle.txs_resolve_expand.specs.declared.names.FormName.{FormName}
use Rattle.txs_resolve_expand.specs.declared.names.FormName.TheVariants as kind
use Rattle.txs_resolve_expand.specs.Scope.{may_bind}
use Rattle.txs_resolve_expand.specs.Expansions.{form_at, list}

-- the new name in the place of the old one; every other name stays
abbrev pub name_renamed : List ℕ → List ℕ → List ℕ → List ℕ
name_renamed old new name = if bytes_eq name old then new else name

-- a form without parts: a symbol of the old name has the new one
abbrev pub leaf_renamed : List ℕ → List ℕ → Leaf → Leaf
leaf_renamed old new (symbol name) = symbol (name_renamed old new name)
leaf_renamed old new nil = nil
leaf_renamed old new (truth b) = truth b
leaf_renamed old new (number z) = number z
leaf_renamed old new (text bytes) = text bytes
leaf_renamed old new (keyword name) = keyword name

-- whether a form is the symbol of this name
abbrev pub is_named : List ℕ → Form → Bool
is_named name (leaf (symbol n) at) = bytes_eq n name
is_named name _ = false

-- whether one of these names and values binds this name: what is behind them means that local, and none further out
abbrev pub binds : List ℕ → Forms → Bool
binds name no_forms = false
binds name (first binder no_forms) = false
binds name (first binder (first e rest)) = is_named name binder || binds name rest

-- the same of the vector of a `let`
abbrev pub hides : List ℕ → Form → Bool
hides name (leaf x at) = false
hides name (group b pairs at) = binds name pairs

-- the forms that bind names: `let` and `loop`
abbrev pub is_binding : Option FormName → Bool
is_binding (Some kind.Let) = true
is_binding (Some kind.Loop) = true
is_binding _ = false

-- whether a list with this head binds names; a vector binds none
abbrev pub binds_names : Bracket → Form → Bool
binds_names Round head = is_binding (form_at head)
binds_names Square head = false

-- A form in which a local from outside has a new name. Where a `let` or `loop` in it binds the old name again, what sees that
-- binding stays as it is, since there the old name means the inner local.
abbrev mutual
  pub renamed : List ℕ → List ℕ → Form → Form
  renamed old new (leaf x at) = leaf (leaf_renamed old new x) at
  renamed old new (group b forms at) = group b (parts_renamed old new b forms) at

  -- the parts of a list or vector
  pub parts_renamed : List ℕ → List ℕ → Bracket → Forms → Forms
  parts_renamed old new b no_forms = no_forms
  parts_renamed old new b (first head args) = first (renamed old new head) (if binds_names b head then scope_renamed old new args else all_renamed old new args)

  -- each of these forms
  pub all_renamed : List ℕ → List ℕ → Forms → Forms
  all_renamed old new no_forms = no_forms
  all_renamed old new (first e rest) = first (renamed old new e) (all_renamed old new rest)

  -- what is behind `let` or `loop`: the vector, and the body, which sees all its names
  pub scope_renamed : List ℕ → List ℕ → Forms → Forms
  scope_renamed old new no_forms = no_forms
  scope_renamed old new (first vector forms) = first (vector_renamed old new vector) (if hides old vector then forms else all_renamed old new forms)

  -- the vector of names and values; what is none is refused, and stays
  pub vector_renamed : List ℕ → List ℕ → Form → Form
  vector_renamed old new (leaf x at) = leaf x at
  vector_renamed old new (group b pairs at) = group b (pairs_renamed old new pairs) at

  -- names and values in turn: each value sees the names before it
  pub pairs_renamed : List ℕ → List ℕ → Forms → Forms
  pairs_renamed old new no_forms = no_forms
  pairs_renamed old new (first binder no_forms) = first binder no_forms
  pairs_renamed old new (first binder (first e rest)) = first binder (first (renamed old new e) (if is_named old binder then rest else pairs_renamed old new rest))

-- a form without parts is not the symbol of this name
abbrev pub LeafLacks : List ℕ → Leaf → Type 0
LeafLacks name (symbol n) = n ≢ name
LeafLacks name nil = Unit {0}
LeafLacks name (truth b) = Unit {0}
LeafLacks name (number z) = Unit {0}
LeafLacks name (text bytes) = Unit {0}
LeafLacks name (keyword k) = Unit {0}

-- the symbol of this name is nowhere in a form
abbrev mutual
  pub Lacks : List ℕ → Form → Type 0
  Lacks name (leaf x at) = LeafLacks name x
  Lacks name (group b forms at) = AllLack name forms

  -- it is in none of these
  pub AllLack : List ℕ → Forms → Type 0
  AllLack name no_forms = Unit {0}
  AllLack name (first e rest) = Lacks name e × AllLack name rest

-- A local of the first name may have the second one: both are names that a local may have, and that a script can write.
pub record MayRename (old new : List ℕ) : Type 0 where
  pub old_binds : may_bind old ≡ true
  pub new_binds : may_bind new ≡ true
  pub old_written : old ≢ []
  pub new_written : new ≢ []

-- these forms, and those behind them
abbrev pub joined : Forms → Forms → Forms
joined no_forms behind = behind
joined (first e rest) behind = first e (joined rest behind)

-- a `let` or `loop`, by its name, its names and values, and its body
abbrev pub binding_form : FormName → Forms → Span → Forms → Span → Form
binding_form name pairs there forms at = list name (first (group Square pairs there) forms) at

-- whether one of these parameters has this name: then the name means the last of them that has it
abbrev pub has_parameter : List ℕ → Forms → Bool
has_parameter name no_forms = false
has_parameter name (first p rest) = is_named name p || has_parameter name rest

-- a text that tells of a function, and where it is
pub record About : Type 0 where
  pub words : List ℕ
  pub at : Span

-- the definition of a function of this name, with or without a text that tells of it, by its parameters and its body
abbrev pub function_form : List ℕ → Span → Option About → Forms → Span → Forms → Span → Form
function_form name here None params there forms at = list kind.Defn (first (leaf (symbol name) here) (first (group Square params there) forms)) at
function_form name here (Some about) params there forms at =
    list kind.Defn (first (leaf (symbol name) here) (first (leaf (text about.words) about.at) (first (group Square params there) forms))) at
