-- Forms as the resolver meets them, and what they are once they are expanded.
use Rattle.std.specs.Prelude.{◌≡◌, Bool, true, false, List, [], Option, Some, None, Ok, Err}
use Rattle.txs_value_data.specs.declared.fault.Span.{Span}
use Rattle.txs_reader.specs.declared.form.Bracket.TheVariants.{Round}
use Rattle.txs_reader.specs.declared.form.Form.{Form as AForm}
use Rattle.txs_reader.specs.Tree.{PlainForm as Form, PlainForms as Forms, Leaf, leaf, group, first, place, symbol, nil, truth, tree, trees, trees_of}
use Rattle.txs_reader.specs.Tree.{none as no_forms}
use Rattle.txs_resolve_expand.specs.declared.names.FormName.{FormName}
use Rattle.txs_resolve_expand.specs.declared.names.FormName.TheVariants as kind
use Rattle.txs_resolve_expand.specs.Scope.{Scope, local_number}
use Rattle.txs_value_cell.specs.declared.form.CellForm.{CellForm}
use Rattle.txs_value_cell.specs.declared.form.CellForm.TheVariants as on_cell
use Rattle.txs_resolve_expand.specs.declared.error.ResolveErrorKind.TheVariants.{BadForm}
use Rattle.txs_resolve_expand.specs.declared.shapes.Change.{Change}
use Rattle.txs_resolve_expand.specs.declared.shapes.Change.TheVariants as change_by
use Rattle.txs_resolve_expand.specs.declared.shapes.Couple.TheVariants as couple
use Rattle.txs_resolve_expand.specs.declared.shapes.Sequence.TheVariants as sequence
use Rattle.txs_resolve_expand.specs.declared.shapes.Spot.{Spot}
use Rattle.txs_resolve_expand.specs.declared.parts.Part.{Part}
use Rattle.txs_resolve_expand.specs.declared.parts.Part.TheVariants as part
use Rattle.txs_resolve_expand.specs.declared.parts.Whole.{Whole}
use Rattle.txs_resolve_expand.specs.declared.parts.Whole.TheVariants as whole
use Rattle.txs_resolve_expand.specs.declared.parts.Special.{Special}
use Rattle.txs_resolve_expand.specs.declared.parts.Special.TheVariants as special
use Rattle.txs_resolve_expand.specs.declared.parts.Core.{Core}
use Rattle.txs_resolve_expand.specs.declared.parts.Core.TheVariants as core
use Rattle.txs_resolve_expand.specs.Answers.{refuse}
use Rattle.txs_resolve_expand.specs.Expansions.{alone, body, expand_once, form_at, hidden, is_alone, list, three, two}
use Rattle.txs_resolve_expand.specs.Expressions.{Answer}
use Rattle.txs_resolve_expand.specs.Expressions as spec

-- the forms as the definition sees them
abbrev pub plain : List AForm → Forms
plain fs = trees_of (trees fs)

-- the choice by a hidden local, of an `and` or an `or` with this rest
abbrev pub hidden_choice : Bool → Forms → Span → Form
hidden_choice false rest at = list kind.If (three (hidden at) (list kind.And rest at) (hidden at)) at
hidden_choice true rest at = list kind.If (three (hidden at) (hidden at) (list kind.Or rest at)) at

-- the form of a part; what an expansion makes is at this place
abbrev pub part_form : Span → Part → Form
part_form at (part.Written f) = tree f.now
part_form at (part.List name fs) = list name (plain fs.now) at
part_form at (part.Prefix fs) = group Round (plain fs.now) at
part_form at part.Nil = leaf nil at
part_form at (part.Hidden n) = hidden at
part_form at (part.Choice n is_or rest) = hidden_choice is_or (plain rest.now) at

-- a hidden local has the number that is kept for it
abbrev pub PartFits : Scope → Part → Type 0
PartFits scope (part.Written f) = Unit {0}
PartFits scope (part.List name fs) = Unit {0}
PartFits scope (part.Prefix fs) = Unit {0}
PartFits scope part.Nil = Unit {0}
PartFits scope (part.Hidden n) = local_number [] scope ≡ Some n
PartFits scope (part.Choice n is_or rest) = local_number [] scope ≡ Some n

-- a form without parts
abbrev pub leaf_of : Form → Leaf
leaf_of (leaf x at) = x
leaf_of (group b fs at) = nil

-- a literal without parts
abbrev pub IsQuoted : Form → Type 0
IsQuoted (leaf (symbol name) at) = ⊥
IsQuoted (leaf x at) = Unit {0}
IsQuoted (group b fs at) = ⊥

-- a form without parts, as the definition sees it
abbrev pub whole_leaf : Whole → Leaf
whole_leaf (whole.Name name) = symbol name.now
whole_leaf (whole.Literal f) = leaf_of (tree f.now)
whole_leaf whole.Nil = nil
whole_leaf whole.Truth = truth true
whole_leaf (whole.Hidden n) = symbol []

-- it can be said so: a literal has no parts, and a hidden local is the nearest one without a name
abbrev pub WholeFits : Scope → Whole → Type 0
WholeFits scope (whole.Name name) = Unit {0}
WholeFits scope (whole.Literal f) = IsQuoted (tree f.now)
WholeFits scope whole.Nil = Unit {0}
WholeFits scope whole.Truth = Unit {0}
WholeFits scope (whole.Hidden n) = local_number [] scope ≡ Some n

-- a special form and its parts, as the definition sees them; what an expansion makes is at this place
abbrev pub special_form : Span → Special → spec.Special
special_form at (special.Row k fs) = spec.row k (plain fs.now)
special_form at (special.Single k p) = spec.one_part k (part_form at p)
special_form at (special.Pair (couple.Core op) p f) = spec.row (sequence.Core op) (two (part_form at p) (tree f.now))
special_form at (special.Pair (couple.Put form) p f) = spec.putting form (part_form at p) (tree f.now)
special_form at (special.Choice turned c a b) = spec.choice turned (part_form at c) (part_form at a) (part_form at b)
special_form at (special.Binding is_loop pairs fs) = spec.binding is_loop (plain pairs.now) (body (plain fs.now) at)
special_form at (special.Hidden is_or f rest) = spec.binding false (two (hidden at) (tree f.now)) (body (first (hidden_choice is_or (plain rest.now) at) no_forms) at)

-- a special form can be said so: each part of it that an expansion made can
abbrev pub SpecialFits : Scope → Special → Type 0
SpecialFits scope (special.Row k fs) = Unit {0}
SpecialFits scope (special.Single k p) = PartFits scope p
SpecialFits scope (special.Pair k p f) = PartFits scope p
SpecialFits scope (special.Choice turned c a b) = PartFits scope c × PartFits scope a × PartFits scope b
SpecialFits scope (special.Binding is_loop pairs fs) = Unit {0}
SpecialFits scope (special.Hidden is_or f rest) = Unit {0}

-- what a form is once it is expanded, as the definition sees it
abbrev pub core_form : Span → Core → spec.Core
core_form at (core.Whole w) = spec.whole (whole_leaf w)
core_form at (core.Parted s) = spec.parted (special_form at s)
core_form at (core.Changing k r f fs) = spec.parted (spec.changing k (tree r.now) (tree f.now) (plain fs.now))

-- it can be said so
abbrev pub CoreFits : Scope → Core → Type 0
CoreFits scope (core.Whole w) = WholeFits scope w
CoreFits scope (core.Parted s) = SpecialFits scope s
CoreFits scope (core.Changing k r f fs) = Unit {0}

-- an answer, as it is seen
abbrev pub seen : {A B : Type 0} → (A → B) → Answer A → Answer B
seen f (Ok x) = Ok (f x)
seen f (Err e) = Err e

-- what a form is, or that it is none
abbrev pub told : Spot → Option Core → Answer spec.Core
told s None = refuse BadForm s.span
told s (Some c) = Ok (core_form s.span c)

-- the form on a cell that calls something
abbrev pub change_form : Change → CellForm
change_form (change_by.Update form) = on_cell.Update form
change_form change_by.Send = on_cell.Send

-- whether a list of these forms has one part behind its head, and is that part
abbrev pub is_single : Forms → Bool
is_single no_forms = false
is_single (first head no_forms) = false
is_single (first head (first e no_forms)) = is_alone (form_at head)
is_single (first head (first e (first f rest))) = false

-- what a list is whose head is a form's name, once it is expanded
abbrev pub table : FormName → Scope → Spot → Forms → Answer spec.Core
table name scope s args = spec.core_of scope s (expand_once (list name args s.span))

-- `if`, or `if-not`
abbrev pub choice_name : Bool → FormName
choice_name false = kind.If
choice_name true = kind.IfNot

-- `when`, or `when-not`
abbrev pub guard_name : Bool → FormName
guard_name false = kind.When
guard_name true = kind.WhenNot

-- `and`, or `or`
abbrev pub logic_name : Bool → FormName
logic_name false = kind.And
logic_name true = kind.Or

-- `let`, or `loop`
abbrev pub binding_name : Bool → FormName
binding_name false = kind.Let
binding_name true = kind.Loop

-- the first of these forms, else nil
abbrev pub first_or_nil : Forms → Span → Form
first_or_nil no_forms at = leaf nil at
first_or_nil (first e rest) at = e

-- the spot of a form itself, which may be another's only part
abbrev pub own_spot : Spot → Form → Spot
own_spot s form = spec.spot_at s.room (place (alone form)) s.wanted

-- what a form is at its own spot, once it is expanded
abbrev pub core_at : Scope → Spot → Form → Answer spec.Core
core_at scope s form = spec.core_of scope (own_spot s form) (expand_once (alone form))
