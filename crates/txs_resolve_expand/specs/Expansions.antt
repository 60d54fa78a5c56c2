-- The forms that stand for others, and what each stands for: one level at a time, as Clojure's `macroexpand-1`.
use Rattle.std.specs.Prelude.{ℕ, zero, suc, ◌%◌, Bool, true, false, [], Option, Some, None, if◌then◌else◌}
use Rattle.txs_value_data.specs.declared.fault.Span.{Span}
use Rattle.txs_reader.specs.declared.form.Bracket.TheVariants.{Round, Square}
use Rattle.txs_reader.specs.Tree.{PlainForm as Form, PlainForms as Forms, leaf, group, first, symbol, nil, truth, parts}
use Rattle.txs_reader.specs.Tree.{none as no_forms}
use Rattle.txs_resolve_expand.specs.declared.names.FormName.{FormName}
use Rattle.txs_resolve_expand.specs.declared.names.FormName.TheVariants as kind
use Rattle.txs_value_data.specs.Places.{with_name}
use Rattle.txs_resolve_expand.specs.Scope.{form_name, form_names}

-- the form that a list is, by the name at its head
abbrev pub form_at : Form → Option FormName
form_at (leaf (symbol name) at) = with_name form_name name form_names
form_at _ = None

-- `(name e ..)`: what an expansion makes has the place of the written form
abbrev pub list : FormName → Forms → Span → Form
list f args at = group Round (first (leaf (symbol (form_name f)) at) args) at

-- a body is the `do` of its expressions
abbrev pub body : Forms → Span → Form
body forms at = list kind.Do forms at

-- the symbol of a hidden local: no symbol of a script has an empty name
abbrev pub hidden : Span → Form
hidden at = leaf (symbol []) at

-- three forms, and two, in a row
abbrev pub three : Form → Form → Form → Forms
three a b c = first a (first b (first c no_forms))

-- two forms in a row
abbrev pub two : Form → Form → Forms
two a b = first a (first b no_forms)

-- `(let [h e] choice)`, with the hidden local h
abbrev pub let_hidden : Form → Form → Span → Form
let_hidden e choice at = list kind.Let (two (group Square (two (hidden at) e) at) choice) at

-- whether it is nought
abbrev pub is_zero : ℕ → Bool
is_zero zero = true
is_zero (suc n) = false

-- whether it is twice a number
abbrev pub is_even : ℕ → Bool
is_even n = is_zero (n % 2)

-- What a form stands for, by its name and its parts: Clojure's macros of these names. Of another shape, and of the special
-- forms, there is nothing. `(if-not c ..)` is a special form here, so that the branch that is written first is looked at first.
abbrev pub expansion : FormName → Forms → Span → Option Form
-- (when c e ..) is (if c (do e ..))
expansion kind.When (first c es) at = Some (list kind.If (two c (body es at)) at)
-- (when-not c e ..) is (if-not c (do e ..))
expansion kind.WhenNot (first c es) at = Some (list kind.IfNot (two c (body es at)) at)
-- (and) is true; (and e f ..) is (let [h e] (if h (and f ..) h))
expansion kind.And no_forms at = Some (leaf (truth true) at)
expansion kind.And (first e (first f rest)) at = Some (let_hidden e (list kind.If (three (hidden at) (list kind.And (first f rest) at) (hidden at)) at) at)
-- (or) is nil; (or e f ..) is (let [h e] (if h h (or f ..)))
expansion kind.Or no_forms at = Some (leaf nil at)
expansion kind.Or (first e (first f rest)) at = Some (let_hidden e (list kind.If (three (hidden at) (hidden at) (list kind.Or (first f rest) at)) at) at)
-- (cond) is nil; (cond c e ..) is (if c e (cond ..)), where tests and branches are in turn
expansion kind.Cond no_forms at = Some (leaf nil at)
expansion kind.Cond (first c (first e rest)) at = if is_even (parts rest) then Some (list kind.If (three c e (list kind.Cond rest at)) at) else None
-- (do) is nil
expansion kind.Do no_forms at = Some (leaf nil at)
expansion _ _ at = None

-- the expansion of a list with this name at its head, else the form itself
abbrev pub or_same : Option Form → Form → Form
or_same (Some expanded) form = expanded
or_same None form = form

-- the same where a list has such a name at its head
abbrev pub expansion_by : Option FormName → Forms → Span → Option Form
expansion_by (Some f) args at = expansion f args at
expansion_by None args at = None

-- a form, expanded once where it stands for another: then a special form is at its head
abbrev pub expand_once : Form → Form
expand_once (group Round (first head args) at) = or_same (expansion_by (form_at head) args at) (group Round (first head args) at)
expand_once form = form

-- whether a form of one part is that part
abbrev pub is_alone : Option FormName → Bool
is_alone (Some kind.Do) = true
is_alone (Some kind.And) = true
is_alone (Some kind.Or) = true
is_alone _ = false

-- (do e), (and e) and (or e) are e
abbrev pub alone : Form → Form
alone (group Round (first head (first e no_forms)) at) = if is_alone (form_at head) then alone e else group Round (first head (first e no_forms)) at
alone form = form
