-- What the names in scope are as plain data.
use Rattle.std.specs.Prelude.{ℕ, List, [], ◌∷◌, Option, Some, None}
use Rattle.std.specs.Borrow.{Bor}
use Rattle.txs_resolve_expand.specs.declared.scope.Definition.{Definition}
use Rattle.txs_resolve_expand.specs.declared.scope.Found.{Found}
use Rattle.txs_resolve_expand.specs.declared.scope.Found.TheVariants.{Form, Dotted, Local, Current, Defined, Operation, Unknown}
use Rattle.txs_resolve_expand.specs.Scope.{Entry, Meaning, a_form, dotted, a_local, the_current, defined_as, operation, unknown}

-- the entries of a map from names, in their order
abbrev pub entries_of : List (Bor (List ℕ) × Definition) → List Entry
entries_of [] = []
entries_of (e ∷ es) = record { name = e.0.now; what = e.1 } ∷ entries_of es

-- the name that is lent, if one is
abbrev pub name_of : Option (Bor (List ℕ)) → Option (List ℕ)
name_of None = None
name_of (Some n) = Some n.now

-- the definition that is lent, if one is
abbrev pub lent : Option (Bor Definition) → Option Definition
lent None = None
lent (Some d) = Some d.now

-- what was found, as what the name stands for
abbrev pub meant : Found → Meaning
meant (Form f) = a_form f
meant Dotted = dotted
meant (Local i) = a_local i
meant Current = the_current
meant (Defined d) = defined_as d.now
meant (Operation op) = operation op
meant Unknown = unknown
