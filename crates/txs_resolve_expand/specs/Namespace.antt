-- The `(ns name)` that a script may begin with, which says nothing of what the script means.
-- From Clojure's reference on namespaces: https://clojure.org/reference/namespaces
use Rattle.std.specs.Prelude.{Bool, false, List, [], ◌∷◌, Option, Some, if◌then◌else◌}
use Rattle.txs_reader.specs.declared.form.Bracket.TheVariants.{Round}
use Rattle.txs_reader.specs.Tree.{PlainForm as Form, PlainForms as Forms, group, first}
use Rattle.txs_reader.specs.Tree.{none as no_forms}
use Rattle.txs_resolve_expand.specs.declared.names.FormName.{FormName}
use Rattle.txs_resolve_expand.specs.declared.names.FormName.TheVariants as kind
use Rattle.txs_resolve_expand.specs.Expansions.{form_at}
use Rattle.txs_resolve_expand.specs.Expressions.{is_symbol}

-- `(ns name)`
abbrev pub names_space : Option FormName → Forms → Bool
names_space (Some kind.Ns) (first name no_forms) = is_symbol name
names_space _ _ = false

-- whether a form is `(ns name)`
abbrev pub is_namespace : Form → Bool
is_namespace (group Round (first head parts) at) = names_space (form_at head) parts
is_namespace form = false

-- a script's forms behind its `(ns name)`, if it begins with one
abbrev pub behind_namespace : List Form → List Form
behind_namespace [] = []
behind_namespace (form ∷ forms) = if is_namespace form then forms else form ∷ forms
