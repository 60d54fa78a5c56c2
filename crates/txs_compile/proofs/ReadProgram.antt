-- The forms of a script, which were read, are a program whose constants are literals and cells, and whose spans are in order.
use Rattle.std.proofs.Common.{◌≡◌, ◌&&◌, ◌||◌, ◌==◌, ◌-◌, ◌≤◌, ◌<◌, ℕ, zero, suc, Bool, true, false, nat_lt, if◌then◌else◌, List, [], ◌∷◌, ◌++◌, length, Option, Some, None, Ok, Err, refl, sym, ap, subst, ◌∙◌, arith}
use Rattle.std.specs.List.{AllByRecursion}
use Rattle.std.proofs.lemmas.Bool.Decides.{nat_tests}
use Rattle.txs_value_data.specs.Limits.{most_definitions, most_depth, most_items, most_levels, most_threads}
use Rattle.txs_value_data.specs.Operations.{op_name, operations}
use Rattle.txs_value_data.specs.PlainValue.{plain_row}
use Rattle.txs_value_data.specs.View.{plain_of, plains_of}
use Rattle.txs_value_cell.specs.declared.cell.ErrorMode.{ErrorMode}
use Rattle.txs_value_cell.specs.declared.cell.ErrorMode.TheVariants.{Fail}
use Rattle.txs_value_data.specs.declared.fault.Span.{Span}
use Rattle.txs_value_cell.specs.declared.form.CellForm.{CellForm}
use Rattle.txs_value_cell.specs.declared.form.CellForm.TheVariants as on_cell
use Rattle.txs_value_data.specs.declared.op.Op.{Op}
use Rattle.txs_value_data.specs.declared.op.Callee.{Callee}
use Rattle.txs_value_data.specs.declared.op.Callee.TheVariants.{Core as CoreOp, Function as TheFunction}
use Rattle.txs_value_data.specs.declared.value.CellKind.{CellKind}
use Rattle.txs_value_data.specs.declared.value.CellKind.TheVariants.{Ref, Atom, Agent}
use Rattle.txs_value_data.specs.declared.value.Value.{Value}
use Rattle.txs_value_data.specs.declared.value.Value.TheVariants.{Cell, Vector}
use Rattle.txs_reader.specs.declared.form.Bracket.TheVariants.{Round, Square}
use Rattle.txs_reader.specs.Tree.{PlainForm as Form, PlainForms as Forms, Leaf, leaf, group, first, place, number, symbol, nil, truth, text, keyword, parts}
use Rattle.txs_reader.specs.Tree.{none as no_forms}
use Rattle.txs_tree_meaning.specs.Known.{levels, known}
use Rattle.txs_tree_meaning.specs.Tree.{Tree, Trees, Mark, Const, Local, Put, more, PlainProgram}
use Rattle.txs_code_meaning.specs.Spans.{IsOrdered}
use Rattle.txs_resolve_expand.specs.declared.names.FormName.{FormName}
use Rattle.txs_resolve_expand.specs.declared.names.FormName.TheVariants as kind
use Rattle.txs_resolve_expand.specs.declared.scope.Definition.{Definition}
use Rattle.txs_resolve_expand.specs.declared.scope.Definition.TheVariants.{Constant, Cell as ACell, Function as AFunction}
use Rattle.txs_value_data.specs.Places.{with_name}
use Rattle.txs_resolve_expand.specs.Scope.{Scope, Entry, Meaning, a_form, dotted, a_local, the_current, defined_as, operation, unknown, meaning, definition_of, is_none, may_bind, with_local}
use Rattle.txs_resolve_expand.proofs.Meanings.{AllDefined, definition_so, meaning_so}
use Rattle.txs_resolve.specs.declared.definition.CellSort.{CellSort}
use Rattle.txs_resolve.specs.declared.definition.Validation.{Validation}
use Rattle.txs_resolve_expand.specs.declared.error.ResolveError.{ResolveError}
use Rattle.txs_resolve_expand.specs.declared.error.ResolveErrorKind.TheVariants.{BadForm, TooMany, Redefined}
use Rattle.txs_resolve_expand.specs.declared.shapes.Change.{Change}
use Rattle.txs_resolve_expand.specs.declared.shapes.Change.TheVariants as change_by
use Rattle.txs_resolve_expand.specs.declared.shapes.Sequence.{Sequence}
use Rattle.txs_resolve_expand.specs.declared.shapes.Sequence.TheVariants as sequence
use Rattle.txs_resolve_expand.specs.declared.shapes.Single.{Single}
use Rattle.txs_resolve_expand.specs.declared.shapes.Single.TheVariants as single
use Rattle.txs_resolve_expand.specs.declared.shapes.Spot.{Spot}
use Rattle.txs_resolve_expand.specs.Answers.{◌>>=◌, refuse}
use Rattle.txs_resolve_expand.specs.Expansions.{alone, body, expand_once, expansion, expansion_by, form_at, hidden, is_alone, is_even, let_hidden, list, or_same, three, two}
use Rattle.txs_resolve_expand.specs.Expressions.{Answer, Bound, Special, row, one_part, putting, choice, binding, changing, Core as ACore, whole, parted, Resolver, spot_at, spot_mark, in_room, some_room, narrow, symbol_node, leaf_node, leaf_value, callee_of, flag, sequence_node, are_wanted, choice_node, single_node, is_wanted, change_node, binding_node, are_pairs, bound_in, cell_form, of_family, special, is_chain, all_but_last, last_of, operands, applied, list_core, core_of, bound_name, named_all, named_bindings, put_together, made, resolved, named}
use Rattle.txs_resolve.specs.Literals.{is_literal, literal, literals}
use Rattle.txs_resolve_expand.specs.Namespace.{behind_namespace, is_namespace}
use Rattle.txs_resolve.specs.Names.{State, nothing, program, new_name, Defining, only_literal, mode_of, is_error_mode, is_validator, Options, no_options, first_mode, with_mode, first_validator, with_option, with_options, options_from, options_behind, mode_or_fail, opened, cell_of, kind_at, defining_of, validator_named, validator_place, new_cell, with_definition, entered, defined_as_one, NamedForm, named_form, defined_at, parameters, Written, written_behind, untold, written, are_symbols, with_function, function, with_thread, future, top_level, step, steps, Resolves}
use Rattle.txs_resolve.proofs.Scoping.{Every, then_every, one_every, two_every, three_every, if_every}
use Rattle.txs_code_decode.proofs.ValueExact.{plain_row_again}
use Rattle.txs_compile.specs.ReadForms.{IsSymbol, LeafIsRead, IsRead, AreRead}
use Rattle.txs_compile.specs.ReadProgram.{IsLiteralIn, AreLiteralsIn, IsLiteral, HasMode, CellIsRead, TreeIsRead, TreesAreRead, FunctionIsRead, ThreadIsRead, ProgramIsRead}

-- ---- forms, of whose symbols nothing is said

abbrev AnyName : List ℕ → Type 0
AnyName name = Unit {0}

abbrev Kept : Form → Type 0
Kept form = IsRead AnyName form

abbrev AllKept : Forms → Type 0
AllKept forms = AreRead AnyName forms

leaf_kept : (x : Leaf) → LeafIsRead IsSymbol x → LeafIsRead AnyName x
leaf_kept nil h = h
leaf_kept (truth b) h = h
leaf_kept (number z) h = h
leaf_kept (text bytes) h = h
leaf_kept (keyword name) h = h
leaf_kept (symbol name) h = tt

mutual
  kept : (form : Form) → IsRead IsSymbol form → Kept form
  kept (leaf x span) h = (leaf_kept x h.0, h.1)
  kept (group b forms span) h = (all_kept forms h.0, h.1)

  all_kept : (forms : Forms) → AreRead IsSymbol forms → AllKept forms
  all_kept no_forms h = tt
  all_kept (first form rest) h = (kept form h.0, all_kept rest h.1)

place_ordered : (form : Form) → Kept form → IsOrdered (place form)
place_ordered (leaf x span) h = h.1
place_ordered (group b forms span) h = h.1

-- ---- expansions

either : (b : Bool) (x y : Form) → Kept x → Kept y → Kept (if b then x else y)
either true x y h k = h
either false x y h k = k

alone_kept : (form : Form) → Kept form → Kept (alone form)
alone_kept (leaf x at) h = h
alone_kept (group Square forms at) h = h
alone_kept (group Round no_forms at) h = h
alone_kept (group Round (first head no_forms) at) h = h
alone_kept (group Round (first head (first e no_forms)) at) h =
    either (is_alone (form_at head)) (alone e) (group Round (first head (first e no_forms)) at) (alone_kept e h.0.1.0) h
alone_kept (group Round (first head (first e (first f rest))) at) h = h

abbrev KeptIf : Option Form → Type 0
KeptIf None = Unit {0}
KeptIf (Some form) = Kept form

-- a list with the name of a form at its head
list_kept : (name : FormName) (forms : Forms) (at : Span) → AllKept forms → IsOrdered at → Kept (list name forms at)
list_kept name forms at h o = (((tt, o), h), o)

body_kept : (forms : Forms) (at : Span) → AllKept forms → IsOrdered at → Kept (body forms at)
body_kept forms at h o = list_kept kind.Do forms at h o

let_kept : (e c : Form) (at : Span) → Kept e → Kept c → IsOrdered at → Kept (let_hidden e c at)
let_kept e c at h k o = list_kept kind.Let (two (group Square (two (hidden at) e) at) c) at ((((tt, o), (h, tt)), o), (k, tt)) o

cond_kept : (even : Bool) (c e : Form) (rest : Forms) (at : Span) → Kept c → Kept e → AllKept rest → IsOrdered at
    → KeptIf (if even then Some (list kind.If (three c e (list kind.Cond rest at)) at) else None)
cond_kept true c e rest at h k r o = list_kept kind.If (three c e (list kind.Cond rest at)) at (h, (k, (list_kept kind.Cond rest at r o, tt))) o
cond_kept false c e rest at h k r o = tt

expansion_kept : (name : FormName) (args : Forms) (at : Span) → AllKept args → IsOrdered at → KeptIf (expansion name args at)
expansion_kept kind.When no_forms at h o = tt
expansion_kept kind.When (first c es) at h o = list_kept kind.If (two c (body es at)) at (h.0, (body_kept es at h.1 o, tt)) o
expansion_kept kind.WhenNot no_forms at h o = tt
expansion_kept kind.WhenNot (first c es) at h o = list_kept kind.IfNot (two c (body es at)) at (h.0, (body_kept es at h.1 o, tt)) o
expansion_kept kind.And no_forms at h o = (tt, o)
expansion_kept kind.And (first e no_forms) at h o = tt
expansion_kept kind.And (first e (first f rest)) at h o =
    let_kept e (list kind.If (three (hidden at) (list kind.And (first f rest) at) (hidden at)) at) at h.0
    (list_kept kind.If (three (hidden at) (list kind.And (first f rest) at) (hidden at)) at ((tt, o), (list_kept kind.And (first f rest) at h.1 o, ((tt, o), tt))) o) o
expansion_kept kind.Or no_forms at h o = (tt, o)
expansion_kept kind.Or (first e no_forms) at h o = tt
expansion_kept kind.Or (first e (first f rest)) at h o =
    let_kept e (list kind.If (three (hidden at) (hidden at) (list kind.Or (first f rest) at)) at) at h.0
    (list_kept kind.If (three (hidden at) (hidden at) (list kind.Or (first f rest) at)) at ((tt, o), ((tt, o), (list_kept kind.Or (first f rest) at h.1 o, tt))) o) o
expansion_kept kind.Cond no_forms at h o = (tt, o)
expansion_kept kind.Cond (first c no_forms) at h o = tt
expansion_kept kind.Cond (first c (first e rest)) at h o = cond_kept (is_even (parts rest)) c e rest at h.0 h.1.0 h.1.1 o
expansion_kept kind.Do no_forms at h o = (tt, o)
expansion_kept kind.Do (first e rest) at h o = tt
expansion_kept kind.Ns args at h o = tt
expansion_kept kind.Def args at h o = tt
expansion_kept kind.Defn args at h o = tt
expansion_kept kind.Future args at h o = tt
expansion_kept kind.If args at h o = tt
expansion_kept kind.Let args at h o = tt
expansion_kept kind.Loop args at h o = tt
expansion_kept kind.Recur args at h o = tt
expansion_kept kind.IfNot args at h o = tt
expansion_kept kind.Println args at h o = tt
expansion_kept kind.Dosync args at h o = tt
expansion_kept kind.Deref args at h o = tt
expansion_kept kind.RefSet args at h o = tt
expansion_kept kind.Alter args at h o = tt
expansion_kept kind.Commute args at h o = tt
expansion_kept kind.Ensure args at h o = tt
expansion_kept kind.Swap args at h o = tt
expansion_kept kind.Reset args at h o = tt
expansion_kept kind.Send args at h o = tt
expansion_kept kind.Ref args at h o = tt
expansion_kept kind.Atom args at h o = tt
expansion_kept kind.Agent args at h o = tt

expansion_by_kept : (f : Option FormName) (args : Forms) (at : Span) → AllKept args → IsOrdered at → KeptIf (expansion_by f args at)
expansion_by_kept None args at h o = tt
expansion_by_kept (Some name) args at h o = expansion_kept name args at h o

or_same_kept : (o : Option Form) (form : Form) → KeptIf o → Kept form → Kept (or_same o form)
or_same_kept None form h k = k
or_same_kept (Some e) form h k = h

expanded_kept : (form : Form) → Kept form → Kept (expand_once form)
expanded_kept (leaf x at) h = h
expanded_kept (group Square forms at) h = h
expanded_kept (group Round no_forms at) h = h
expanded_kept (group Round (first head args) at) h =
    or_same_kept (expansion_by (form_at head) args at) (group Round (first head args) at) (expansion_by_kept (form_at head) args at h.0.1 h.1) h

-- ---- special forms

abbrev KeptSpecial : Special → Type 0
KeptSpecial (row k forms) = AllKept forms
KeptSpecial (one_part k form) = Kept form
KeptSpecial (putting form r e) = Kept r × Kept e
KeptSpecial (choice turned c a b) = Kept c × Kept a × Kept b
KeptSpecial (binding is_loop pairs form) = AllKept pairs × Kept form
KeptSpecial (changing k r f args) = Kept r × AllKept args

abbrev KeptCore : ACore → Type 0
KeptCore (whole x) = LeafIsRead AnyName x
KeptCore (parted form) = KeptSpecial form

bound_kept : (is_loop : Bool) (s : Spot) (pairs forms : Forms) → AllKept pairs → AllKept forms → IsOrdered s.span → Every KeptCore (bound_in is_loop s pairs forms)
bound_kept is_loop s pairs forms h k o =
    if_every KeptCore (are_pairs pairs) (Ok (parted (binding is_loop pairs (body forms s.span)))) (record { kind = BadForm; at = s.span })
    (λ _. (h, body_kept forms s.span k o))

family_kept : (o : Option CellForm) (at : Span) (args : Forms) → AllKept args → Every KeptCore (of_family o at args)
family_kept None at args k = tt
family_kept (Some (on_cell.Look form)) at no_forms k = tt
family_kept (Some (on_cell.Look form)) at (first r no_forms) k = k.0
family_kept (Some (on_cell.Look form)) at (first r (first e rest)) k = tt
family_kept (Some (on_cell.Put form)) at no_forms k = tt
family_kept (Some (on_cell.Put form)) at (first r no_forms) k = tt
family_kept (Some (on_cell.Put form)) at (first r (first e no_forms)) k = (k.0, k.1.0)
family_kept (Some (on_cell.Put form)) at (first r (first e (first g rest))) k = tt
family_kept (Some (on_cell.Update form)) at no_forms k = tt
family_kept (Some (on_cell.Update form)) at (first r no_forms) k = tt
family_kept (Some (on_cell.Update form)) at (first r (first f args)) k = (k.0, k.1.1)
family_kept (Some on_cell.Send) at no_forms k = tt
family_kept (Some on_cell.Send) at (first r no_forms) k = tt
family_kept (Some on_cell.Send) at (first r (first f args)) k = (k.0, k.1.1)

special_kept : (name : FormName) (s : Spot) (args : Forms) → IsOrdered s.span → AllKept args → Every KeptCore (special name s args)
special_kept kind.If s no_forms o h = tt
special_kept kind.If s (first c no_forms) o h = tt
special_kept kind.If s (first c (first a no_forms)) o h = (h.0, h.1.0, (tt, o))
special_kept kind.If s (first c (first a (first b no_forms))) o h = (h.0, h.1.0, h.1.1.0)
special_kept kind.If s (first c (first a (first b (first d rest)))) o h = tt
special_kept kind.IfNot s no_forms o h = tt
special_kept kind.IfNot s (first c no_forms) o h = tt
special_kept kind.IfNot s (first c (first a no_forms)) o h = (h.0, h.1.0, (tt, o))
special_kept kind.IfNot s (first c (first a (first b no_forms))) o h = (h.0, h.1.0, h.1.1.0)
special_kept kind.IfNot s (first c (first a (first b (first d rest)))) o h = tt
special_kept kind.Do s no_forms o h = tt
special_kept kind.Do s (first f rest) o h = h
special_kept kind.Let s no_forms o h = tt
special_kept kind.Let s (first (leaf x at) forms) o h = tt
special_kept kind.Let s (first (group Round pairs at) forms) o h = tt
special_kept kind.Let s (first (group Square pairs at) forms) o h = bound_kept false s pairs forms h.0.0 h.1 o
special_kept kind.Loop s no_forms o h = tt
special_kept kind.Loop s (first (leaf x at) forms) o h = tt
special_kept kind.Loop s (first (group Round pairs at) forms) o h = tt
special_kept kind.Loop s (first (group Square pairs at) forms) o h = bound_kept true s pairs forms h.0.0 h.1 o
special_kept kind.Recur s args o h = h
special_kept kind.Println s args o h = h
special_kept kind.Dosync s forms o h = body_kept forms s.span h o
special_kept kind.Deref s args o h = family_kept (cell_form kind.Deref) s.span args h
special_kept kind.RefSet s args o h = family_kept (cell_form kind.RefSet) s.span args h
special_kept kind.Alter s args o h = family_kept (cell_form kind.Alter) s.span args h
special_kept kind.Commute s args o h = family_kept (cell_form kind.Commute) s.span args h
special_kept kind.Ensure s args o h = family_kept (cell_form kind.Ensure) s.span args h
special_kept kind.Swap s args o h = family_kept (cell_form kind.Swap) s.span args h
special_kept kind.Reset s args o h = family_kept (cell_form kind.Reset) s.span args h
special_kept kind.Send s args o h = family_kept (cell_form kind.Send) s.span args h
special_kept kind.Ns s args o h = tt
special_kept kind.Def s args o h = tt
special_kept kind.Defn s args o h = tt
special_kept kind.Future s args o h = tt
special_kept kind.When s args o h = tt
special_kept kind.WhenNot s args o h = tt
special_kept kind.And s args o h = tt
special_kept kind.Or s args o h = tt
special_kept kind.Cond s args o h = tt
special_kept kind.Ref s args o h = tt
special_kept kind.Atom s args o h = tt
special_kept kind.Agent s args o h = tt

-- ---- operations and functions on their arguments

all_but_last_kept : (args : Forms) → AllKept args → AllKept (all_but_last args)
all_but_last_kept no_forms h = tt
all_but_last_kept (first e no_forms) h = tt
all_but_last_kept (first e (first f rest)) h = (h.0, all_but_last_kept (first f rest) h.1)

last_kept : (e : Form) (args : Forms) → Kept e → AllKept args → Kept (last_of e args)
last_kept e no_forms h k = h
last_kept e (first f rest) h k = last_kept f rest k.0 k.1

either_all : (b : Bool) (x y : Forms) → AllKept x → AllKept y → AllKept (if b then x else y)
either_all true x y h k = h
either_all false x y h k = k

operands_kept : (op : Op) (head : Form) (args : Forms) (at : Span) → IsOrdered at → Kept head → AllKept args → AllKept (operands op head args at)
operands_kept op head args at o h k =
    either_all (is_chain op (parts args)) (first (group Round (first head (all_but_last args)) at) (first (last_of head args) no_forms)) args
    (((h, all_but_last_kept args k), o), (last_kept head args h k, tt)) k

applied_kept : (callee : Callee) (head : Form) (args : Forms) (at : Span) → IsOrdered at → Kept head → AllKept args → KeptCore (applied callee head args at)
applied_kept (CoreOp op) head args at o h k = operands_kept op head args at o h k
applied_kept (TheFunction n) head args at o h k = k

room_every : {A : Type 0} (P : A → Type 0) (n : ℕ) (e : ResolveError) (a : Answer A) → Every P a → Every P (some_room n (Err e) a)
room_every P zero e a h = tt
room_every P (suc n) e a h = h

-- nothing is said of it
abbrev Any : {A : Type 0} → A → Type 0
Any x = Unit {0}

any : {A : Type 0} (a : Answer A) → Every Any a
any (Ok x) = tt
any (Err e) = tt

list_core_kept : (f : Option FormName) (scope : Scope) (s : Spot) (head : Form) (args : Forms) → IsOrdered s.span → Kept head → AllKept args → Every KeptCore (list_core f scope s head args)
list_core_kept (Some name) scope s head args o h k = special_kept name s args o k
list_core_kept None scope s head args o h k =
    room_every KeptCore s.room (record { kind = TooMany; at = s.span }) (callee_of scope s head >>= λ callee. Ok (applied callee head args s.span))
    (one_every Any KeptCore (callee_of scope s head) (λ callee. applied callee head args s.span) (any (callee_of scope s head))
    (λ callee _. applied_kept callee head args s.span o h k))

core_kept : (scope : Scope) (s : Spot) (form : Form) → IsOrdered s.span → Kept form → Every KeptCore (core_of scope s form)
core_kept scope s (leaf x at) o h = h.0
core_kept scope s (group Square forms at) o h = h.0
core_kept scope s (group Round no_forms at) o h = tt
core_kept scope s (group Round (first head args) at) o h = list_core_kept (form_at head) scope s head args o h.0.0 h.0.1

-- ---- the values of literals

leaf_literal : (P : List ℕ → Type 0) (x : Leaf) → LeafIsRead P x → (levels : ℕ) → IsLiteralIn (plain_of (leaf_value x)) levels
leaf_literal P nil h levels = tt
leaf_literal P (truth b) h levels = tt
leaf_literal P (number z) h levels = h
leaf_literal P (text bytes) h levels = h
leaf_literal P (keyword name) h levels = h
leaf_literal P (symbol name) h levels = tt

abbrev LiteralIn : ℕ → Value → Type 0
LiteralIn levels v = IsLiteralIn (plain_of v) levels

-- so many values that literals may be
abbrev LiteralsIn : ℕ → ℕ → List Value → Type 0
LiteralsIn levels n vs = (length (plains_of vs) ≡ n) × AreLiteralsIn (plain_row (plains_of vs)) levels

unless_every : {A : Type 0} (P : A → Type 0) (b : Bool) (a : Answer A) (e : ResolveError) → (b ≡ false → Every P a) → Every P (if b then Err e else a)
unless_every P true a e h = tt
unless_every P false a e h = h refl

some_levels : (room n : ℕ) → (room == 0 || nat_lt most_items n) ≡ false → (0 < room) × (n ≤ most_items)
some_levels room n e = (left (room == 0) (nat_lt most_items n) refl e, right (room == 0) (nat_lt most_items n) refl e)
  where
    left : (a b : Bool) → (room == 0) ≡ a → (a || b) ≡ false → 0 < room
    left true b t f = absurd cc
    left false b t f = grind (arith, nat_tests)

    right : (a b : Bool) → nat_lt most_items n ≡ b → (a || b) ≡ false → n ≤ most_items
    right true b t f = absurd cc
    right false true t f = absurd cc
    right false false t f = grind (arith, nat_tests)

vector_literal : (room n : ℕ) (vs : List Value) → (0 < room) × (n ≤ most_items) → LiteralsIn (room - 1) n vs → LiteralIn room (Vector (plains_of vs))
vector_literal room n vs few h = (few.0, subst (λ (k : ℕ). k ≤ most_items) (sym (ap length (plain_row_again (plains_of vs)) ∙ h.0)) few.1, h.1)

mutual
  literal_read : (P : List ℕ → Type 0) (room : ℕ) (f : Form) → IsRead P f → Every (LiteralIn room) (literal room f)
  literal_read P room (leaf nil at) h = leaf_literal P nil h.0 room
  literal_read P room (leaf (truth b) at) h = leaf_literal P (truth b) h.0 room
  literal_read P room (leaf (number z) at) h = leaf_literal P (number z) h.0 room
  literal_read P room (leaf (text bytes) at) h = leaf_literal P (text bytes) h.0 room
  literal_read P room (leaf (keyword name) at) h = leaf_literal P (keyword name) h.0 room
  literal_read P room (leaf (symbol name) at) h = tt
  literal_read P room (group Round forms at) h = tt
  literal_read P room (group Square forms at) h =
      unless_every (LiteralIn room) (room == 0 || nat_lt most_items (parts forms)) (literals (room - 1) forms >>= λ vs. Ok (Vector (plains_of vs))) (record { kind = TooMany; at = at })
      (λ e. one_every (LiteralsIn (room - 1) (parts forms)) (LiteralIn room) (literals (room - 1) forms) (λ vs. Vector (plains_of vs)) (literals_read P (room - 1) forms h.0)
      (λ vs k. vector_literal room (parts forms) vs (some_levels room (parts forms) e) k))

  literals_read : (P : List ℕ → Type 0) (room : ℕ) (forms : Forms) → AreRead P forms → Every (LiteralsIn room (parts forms)) (literals room forms)
  literals_read P room no_forms h = (refl, tt)
  literals_read P room (first e rest) h =
      two_every (LiteralIn room) (LiteralsIn room (parts rest)) (LiteralsIn room (suc (parts rest))) (literal room e) (literals room rest) (λ v vs. v ∷ vs) (literal_read P room e h.0) (literals_read P room rest h.1)
      (λ v vs h k. (ap suc k.0, (h, k.1)))

-- ---- what names stand for

abbrev IsNamed : Definition → Type 0
IsNamed (Constant v) = IsLiteral v
IsNamed (ACell c) = Unit {0}
IsNamed (AFunction n l) = Unit {0}

abbrev AreNamed : List Entry → Type 0
AreNamed es = AllDefined IsNamed es

abbrev Meant : Meaning → Type 0
Meant (a_form f) = Unit {0}
Meant dotted = Unit {0}
Meant (a_local i) = Unit {0}
Meant the_current = Unit {0}
Meant (defined_as what) = IsNamed what
Meant (operation op) = Unit {0}
Meant unknown = Unit {0}

meaning_meant : (name : List ℕ) (scope : Scope) → AreNamed scope.defined → Meant (meaning name scope)
meaning_meant name scope h = meaning_so Meant (λ f. tt) tt (λ op. tt) tt name scope (λ i e. tt) (λ e. tt) (λ d e. definition_so IsNamed name scope.defined h d e)

-- ---- trees

constant_read : (s : Spot) (v : Value) → IsLiteral v → IsOrdered s.span → Every TreeIsRead (in_room s (Ok (Const v (spot_mark s))))
constant_read s v h o = room_every TreeIsRead s.room (record { kind = TooMany; at = s.span }) (Ok (Const v (spot_mark s))) (h, o)

symbol_read : (m : Meaning) (s : Spot) → Meant m → IsOrdered s.span → Every TreeIsRead (symbol_node m s)
symbol_read (a_form f) s h o = tt
symbol_read dotted s h o = tt
symbol_read (a_local i) s h o = room_every TreeIsRead s.room (record { kind = TooMany; at = s.span }) (Ok (Local i (spot_mark s))) o
symbol_read the_current s h o = tt
symbol_read (defined_as (Constant v)) s h o = constant_read s v h o
symbol_read (defined_as (ACell c)) s h o = constant_read s (Cell c) tt o
symbol_read (defined_as (AFunction n l)) s h o = tt
symbol_read (operation op) s h o = tt
symbol_read unknown s h o = tt

leaf_read : (scope : Scope) (x : Leaf) (s : Spot) → AreNamed scope.defined → LeafIsRead AnyName x → IsOrdered s.span → Every TreeIsRead (leaf_node scope x s)
leaf_read scope (symbol name) s h k o = symbol_read (meaning name scope) s (meaning_meant name scope h) o
leaf_read scope nil s h k o = constant_read s (leaf_value nil) (leaf_literal AnyName nil k most_depth) o
leaf_read scope (truth b) s h k o = constant_read s (leaf_value (truth b)) (leaf_literal AnyName (truth b) k most_depth) o
leaf_read scope (number z) s h k o = constant_read s (leaf_value (number z)) (leaf_literal AnyName (number z) k most_depth) o
leaf_read scope (text bytes) s h k o = constant_read s (leaf_value (text bytes)) (leaf_literal AnyName (text bytes) k most_depth) o
leaf_read scope (keyword name) s h k o = constant_read s (leaf_value (keyword name)) (leaf_literal AnyName (keyword name) k most_depth) o

sequence_read : (k : Sequence) (ts : Trees) (m : Mark) → TreesAreRead ts → IsOrdered m.span → TreeIsRead (sequence_node k ts m)
sequence_read sequence.Do ts m h o = (h, o)
sequence_read sequence.Recur ts m h o = (h, o)
sequence_read sequence.Println ts m h o = (h, o)
sequence_read sequence.Vector ts m h o = (h, o)
sequence_read (sequence.Core op) ts m h o = (h, o)
sequence_read (sequence.Call n) ts m h o = (h, o)

single_read : (k : Single) (t : Tree) (m : Mark) → TreeIsRead t → IsOrdered m.span → TreeIsRead (single_node k t m)
single_read single.Dosync t m h o = (h, o)
single_read (single.Look look) t m h o = (h, o)

choice_read : (turned : Bool) (test a b : Tree) (m : Mark) → TreeIsRead test → TreeIsRead a → TreeIsRead b → IsOrdered m.span → TreeIsRead (choice_node turned test a b m)
choice_read false test a b m h k l o = (h, k, l, o)
choice_read true test a b m h k l o = (h, l, k, o)

binding_read : (is_loop : Bool) (values : Trees) (body : Tree) (m : Mark) → TreesAreRead values → TreeIsRead body → IsOrdered m.span → TreeIsRead (binding_node is_loop values body m)
binding_read false values body m h k o = (h, k, o)
binding_read true values body m h k o = (h, k, o)

change_read : (k : Change) (t : Tree) (callee : Callee) (args : Trees) (m : Mark) → TreeIsRead t → TreesAreRead args → IsOrdered m.span → TreeIsRead (change_node k t callee args m)
change_read (change_by.Update update) t callee args m h k o = (h, k, o)
change_read change_by.Send t callee args m h k o = (h, k, o)

narrow_every : (P : Trees → Type 0) (n : ℕ) (s : Spot) (a : Answer Trees) → Every P a → Every P (narrow n s a)
narrow_every P n s a h = unless_every P (nat_lt most_items n) a (record { kind = TooMany; at = s.span }) (λ _. h)

abbrev BoundRead : Bound → Type 0
BoundRead b = TreesAreRead b.values × AreNamed b.scope.defined

-- the parts of a form are such trees
abbrev Deeper : Resolver → Type 0
Deeper by = (scope : Scope) (wanted : Bool) (f : Form) → AreNamed scope.defined → Kept f → Every TreeIsRead (by scope wanted f)

module _ (by : Resolver) (each : Deeper by) where
  all_read : (scope : Scope) (inner last : Bool) (forms : Forms) → AreNamed scope.defined → AllKept forms → Every TreesAreRead (named_all by scope inner last forms)
  all_read scope inner last no_forms h k = tt
  all_read scope inner last (first e rest) h k =
      two_every TreeIsRead TreesAreRead TreesAreRead (by scope (flag inner last rest) e) (named_all by scope inner last rest) (λ x y. more x y)
      (each scope (flag inner last rest) e h k.0) (all_read scope inner last rest h k.1) (λ x y p q. (p, q))

  bindings_read : (pairs : Forms) (scope : Scope) → AreNamed scope.defined → AllKept pairs → Every BoundRead (named_bindings by scope pairs)
  bindings_read no_forms scope h k = (tt, h)
  bindings_read (first binder no_forms) scope h k = tt
  bindings_read (first binder (first e rest)) scope h k =
      then_every TreeIsRead BoundRead (by scope true e)
      (λ value. bound_name scope binder >>= λ name. named_bindings by (with_local name scope) rest >>= λ bound. Ok (record { values = more value bound.values; scope = bound.scope }))
      (each scope true e h k.1.0)
      (λ value p. then_every Any BoundRead (bound_name scope binder)
      (λ name. named_bindings by (with_local name scope) rest >>= λ bound. Ok (record { values = more value bound.values; scope = bound.scope }))
      (any (bound_name scope binder))
      (λ name _. one_every BoundRead BoundRead (named_bindings by (with_local name scope) rest) (λ bound. record { values = more value bound.values; scope = bound.scope })
      (bindings_read rest (with_local name scope) h k.1.1) (λ bound q. ((p, q.0), q.1))))

  put_read : (scope : Scope) (s : Spot) (form : Special) → AreNamed scope.defined → KeptSpecial form → IsOrdered s.span → Every TreeIsRead (put_together by scope s form)
  put_read scope s (row k forms) h r o =
      let items = named_all by scope (are_wanted k) (are_wanted k || s.wanted) forms in
      one_every TreesAreRead TreeIsRead (narrow (parts forms) s items) (λ nodes. sequence_node k nodes (spot_mark s))
      (narrow_every TreesAreRead (parts forms) s items (all_read scope (are_wanted k) (are_wanted k || s.wanted) forms h r))
      (λ ts p. sequence_read k ts (spot_mark s) p o)
  put_read scope s (one_part k form) h r o =
      one_every TreeIsRead TreeIsRead (by scope (is_wanted k || s.wanted) form) (λ node. single_node k node (spot_mark s))
      (each scope (is_wanted k || s.wanted) form h r) (λ node p. single_read k node (spot_mark s) p o)
  put_read scope s (putting put c e) h r o =
      two_every TreeIsRead TreeIsRead TreeIsRead (by scope true c) (by scope true e) (λ x y. Put put x y (spot_mark s))
      (each scope true c h r.0) (each scope true e h r.1) (λ x y p q. (p, q, o))
  put_read scope s (choice turned c a b) h r o =
      three_every TreeIsRead TreeIsRead TreeIsRead TreeIsRead (by scope true c) (by scope s.wanted a) (by scope s.wanted b) (λ x y z. choice_node turned x y z (spot_mark s))
      (each scope true c h r.0) (each scope s.wanted a h r.1) (each scope s.wanted b h r.2) (λ x y z p q l. choice_read turned x y z (spot_mark s) p q l o)
  put_read scope s (binding is_loop pairs form) h r o =
      then_every BoundRead TreeIsRead (named_bindings by scope pairs) (λ b. by b.scope s.wanted form >>= λ node. Ok (binding_node is_loop b.values node (spot_mark s)))
      (bindings_read pairs scope h r.0)
      (λ b p. one_every TreeIsRead TreeIsRead (by b.scope s.wanted form) (λ node. binding_node is_loop b.values node (spot_mark s))
      (each b.scope s.wanted form p.1 r.1) (λ node q. binding_read is_loop b.values node (spot_mark s) p.0 q o))
  put_read scope s (changing k c f args) h r o =
      let items = named_all by scope true true args in
      three_every TreeIsRead Any TreesAreRead TreeIsRead (by scope true c) (callee_of scope s f) (narrow (suc (parts args)) s items) (λ x y z. change_node k x y z (spot_mark s))
      (each scope true c h r.0) (any (callee_of scope s f)) (narrow_every TreesAreRead (suc (parts args)) s items (all_read scope true true args h r.1))
      (λ x y z p q l. change_read k x y z (spot_mark s) p l o)

  made_read : (scope : Scope) (s : Spot) (c : ACore) → AreNamed scope.defined → KeptCore c → IsOrdered s.span → Every TreeIsRead (made by scope s c)
  made_read scope s (whole x) h k o = leaf_read scope x s h k o
  made_read scope s (parted form) h k o = room_every TreeIsRead s.room (record { kind = TooMany; at = s.span }) (put_together by scope s form) (put_read scope s form h k o)

  resolved_read : (room : ℕ) (scope : Scope) (wanted : Bool) (form : Form) → AreNamed scope.defined → Kept form → Every TreeIsRead (resolved by room scope wanted form)
  resolved_read room scope wanted form h k =
      let s = spot_at room (place form) wanted in
      let o = place_ordered form k in
      then_every KeptCore TreeIsRead (core_of scope s (expand_once form)) (made by scope s) (core_kept scope s (expand_once form) o (expanded_kept form k))
      (λ c l. made_read scope s c h l o)

named_read : (room : ℕ) (scope : Scope) (wanted : Bool) (form : Form) → AreNamed scope.defined → Kept form → Every TreeIsRead (named room scope wanted form)
unfolding named
named_read zero scope wanted form h k = resolved_read (λ _ _ e. refuse TooMany (place e)) (λ _ _ e _ _. tt) 0 scope wanted (alone form) h (alone_kept form k)
named_read (suc room) scope wanted form h k =
    resolved_read (named room) (λ inner w e l m. named_read room inner w e l m) (suc room) scope wanted (alone form) h (alone_kept form k)

-- ---- scripts

record StateRead (s : State) : Type 0 where
  defined : AreNamed s.defined
  functions : AllByRecursion FunctionIsRead s.functions
  threads : AllByRecursion ThreadIsRead s.threads
  cells : AllByRecursion CellIsRead s.cells

all_more : {A : Type 0} (P : A → Type 0) (xs : List A) (x : A) → AllByRecursion P xs → P x → AllByRecursion P (xs ++ x ∷ [])
all_more P [] x h k = (k, tt)
all_more P (y ∷ xs) x h k = (h.0, all_more P xs x h.1 k)

named_more : (es : List Entry) (e : Entry) → AreNamed es → IsNamed e.what → AreNamed (es ++ e ∷ [])
named_more [] e h k = (k, tt)
named_more (d ∷ es) e h k = (h.0, named_more es e h.1 k)

-- a definition of a literal: a constant, or a cell with its mode
abbrev SortRead : Option CellSort → Type 0
SortRead None = Unit {0}
SortRead (Some sort) = HasMode sort.kind sort.error_mode

abbrev DefiningRead : Option Defining → Type 0
DefiningRead None = Unit {0}
DefiningRead (Some d) = SortRead d.sort × IsRead IsSymbol d.value

only_read : (sort : Option CellSort) (validator : Option Form) (form : Form) → SortRead sort → IsRead IsSymbol form → DefiningRead (only_literal sort validator form)
only_read sort validator form h k = here (is_literal form) where
  here : (b : Bool) → DefiningRead (if b then Some (record { sort = sort; value = form; validator = validator }) else None)
  here true = (h, k)
  here false = tt

-- options of which the error mode is one that such a cell has
abbrev OptionsRead : CellKind → Option Options → Type 0
OptionsRead k None = Unit {0}
OptionsRead k (Some o) = HasMode k (mode_or_fail o.error_mode)

opened_read : (k : CellKind) (o : Option Options) (form : Form) → OptionsRead k o → IsRead IsSymbol form → DefiningRead (opened k o form)
opened_read k None form h r = tt
opened_read k (Some o) form h r = only_read (Some (record { kind = k; error_mode = mode_or_fail o.error_mode })) o.validator form h r

fails : (k : CellKind) → HasMode k Fail
fails Ref = refl
fails Atom = refl
fails Agent = tt

any_agent : (o : Option Options) → OptionsRead Agent o
any_agent None = tt
any_agent (Some o) = tt

mode_read : (k : CellKind) (form : Form) (o : Options) → OptionsRead k (with_mode k form o)
mode_read Ref form o = tt
mode_read Atom form o = tt
mode_read Agent form o = any_agent (first_mode o.error_mode (mode_of form) o.validator)

validator_read : (k : CellKind) (was : Option Form) (form : Form) (mode : Option ErrorMode) → HasMode k (mode_or_fail mode) → OptionsRead k (first_validator was form mode)
validator_read k None form mode h = h
validator_read k (Some other) form mode h = tt

option_read : (k : CellKind) (key form : Form) (o : Options) → HasMode k (mode_or_fail o.error_mode) → OptionsRead k (with_option k key form o)
option_read k key form o h = here (is_validator key) (is_error_mode key) where
  here : (v m : Bool) → OptionsRead k (if v then first_validator o.validator form o.error_mode else (if m then with_mode k form o else None))
  here true m = validator_read k o.validator form o.error_mode h
  here false true = mode_read k form o
  here false false = tt

options_read : (k : CellKind) (o : Options) (behind : Forms) → HasMode k (mode_or_fail o.error_mode) → OptionsRead k (options_from k o behind)
options_read k o no_forms h = h
options_read k o (first key no_forms) h = tt
options_read k o (first key (first form rest)) h = here (with_option k key form o) (option_read k key form o h) (λ p r. options_read k p rest r) where
  here : (p : Option Options) → OptionsRead k p → ((q : Options) → HasMode k (mode_or_fail q.error_mode) → OptionsRead k (options_from k q rest)) → OptionsRead k (with_options p (λ q. options_from k q rest))
  here None r go = tt
  here (Some q) r go = go q r

cell_read : (o : Option CellKind) (args : Forms) → AreRead IsSymbol args → DefiningRead (cell_of o args)
cell_read None args h = tt
cell_read (Some k) no_forms h = tt
cell_read (Some k) (first form behind) h = opened_read k (options_behind k behind) form (options_read k no_options behind (fails k)) h.0

defining_read : (form : Form) → IsRead IsSymbol form → DefiningRead (defining_of form)
defining_read (leaf x at) h = only_read None None (leaf x at) tt h
defining_read (group Square forms at) h = only_read None None (group Square forms at) tt h
defining_read (group Round no_forms at) h = only_read None None (group Round no_forms at) tt h
defining_read (group Round (first head args) at) h = cell_read (kind_at (form_at head)) args h.0.1

definition_read : (sort : Option CellSort) (s : State) (name : List ℕ) (v : Value) (w : Validation) → SortRead sort → IsSymbol name → IsLiteral v → StateRead s → StateRead (with_definition sort s name v w)
definition_read None s name v w k n l h = record { defined = named_more s.defined (record { name = name; what = Constant v }) h.defined l; functions = h.functions; threads = h.threads; cells = h.cells }
definition_read (Some sort) s name v w k n l h = record {
  defined = named_more s.defined (record { name = name; what = ACell (record { kind = sort.kind; number = length s.cells }) }) h.defined tt;
  functions = h.functions;
  threads = h.threads;
  cells = all_more CellIsRead s.cells (new_cell name sort v w.callee) h.cells (record { name = n; mode = k; opening = l });
}

-- a name that can be defined is the name that was asked for
new_name_is : (defined : List Entry) (name : List ℕ) (at : Span) → Every (λ n. n ≡ name) (new_name defined name at)
new_name_is defined name at =
    if_every (λ n. n ≡ name) (may_bind name) (if is_none (with_name op_name name operations) && is_none (definition_of name defined) then Ok name else refuse Redefined at) (record { kind = BadForm; at = at })
    (λ _. if_every (λ n. n ≡ name) (is_none (with_name op_name name operations) && is_none (definition_of name defined)) (Ok name) (record { kind = Redefined; at = at }) (λ _. refl))

one_read : (s : State) (name : List ℕ) (at span : Span) (o : Option Defining) → DefiningRead o → IsSymbol name → StateRead s → Every StateRead (defined_as_one s name at span o)
one_read s name at span None k n h = tt
one_read s name at span (Some d) k n h =
    let w : Option Callee → Validation = λ callee. record { callee = callee; at = validator_place span d.validator } in
    if_every StateRead (nat_lt s.defs most_definitions) (entered s name at span d) (record { kind = TooMany; at = span })
    (λ _. three_every IsLiteral Any (λ m. m ≡ name) StateRead (literal most_depth d.value) (validator_named s.defined span d.validator) (new_name s.defined name at) (λ v callee m. with_definition d.sort s m v (w callee))
    (literal_read IsSymbol most_depth d.value k.1) (any (validator_named s.defined span d.validator)) (new_name_is s.defined name at)
    (λ v callee m l _ e. definition_read d.sort s m v (w callee) k.0 (subst IsSymbol (sym e) n) l h))

abbrev NamedRead : Option NamedForm → Type 0
NamedRead None = Unit {0}
NamedRead (Some f) = IsSymbol f.name × IsRead IsSymbol f.form

defined_read : (s : State) (span : Span) (o : Option NamedForm) → NamedRead o → StateRead s → Every StateRead (defined_at s span o)
defined_read s span None k h = tt
defined_read s span (Some f) k h = one_read s f.name f.at span (defining_of f.form) (defining_read f.form k.1) k.0 h

form_read : (forms : Forms) → AreRead IsSymbol forms → NamedRead (named_form forms)
form_read (first (leaf (symbol name) there) (first form no_forms)) k = (k.0.0, k.1.0)
form_read _ k = tt

abbrev KeptWritten : Option Written → Type 0
KeptWritten None = Unit {0}
KeptWritten (Some w) = AllKept w.body

behind_kept : (name : List ℕ) (at : Span) (forms : Forms) → AllKept forms → KeptWritten (written_behind name at forms)
behind_kept name at no_forms h = tt
behind_kept name at (first (leaf x there) rest) h = tt
behind_kept name at (first (group Round params there) rest) h = tt
behind_kept name at (first (group Square params there) rest) h = here (are_symbols params) where
  here : (b : Bool) → KeptWritten (if b then Some (record { name = name; at = at; parameters = params; body = rest }) else None)
  here true = h.1
  here false = tt

untold_kept : (forms : Forms) → AllKept forms → AllKept (untold forms)
untold_kept no_forms h = h
untold_kept (first (leaf nil at) rest) h = h
untold_kept (first (leaf (truth b) at) rest) h = h
untold_kept (first (leaf (number z) at) rest) h = h
untold_kept (first (leaf (text bytes) at) rest) h = h.1
untold_kept (first (leaf (keyword name) at) rest) h = h
untold_kept (first (leaf (symbol name) at) rest) h = h
untold_kept (first (group b forms at) rest) h = h

written_kept : (forms : Forms) → AllKept forms → KeptWritten (written forms)
written_kept no_forms h = tt
written_kept (first (leaf nil at) rest) h = tt
written_kept (first (leaf (truth b) at) rest) h = tt
written_kept (first (leaf (number z) at) rest) h = tt
written_kept (first (leaf (text bytes) at) rest) h = tt
written_kept (first (leaf (keyword name) at) rest) h = tt
written_kept (first (leaf (symbol name) at) rest) h = behind_kept name at (untold rest) (untold_kept rest h.1)
written_kept (first (group b forms at) rest) h = tt

function_read : (s : State) (span : Span) (o : Option Written) → KeptWritten o → IsOrdered span → StateRead s → Every StateRead (function s span o)
function_read s span None k o h = tt
function_read s span (Some w) k o h =
    if_every StateRead (nat_lt (length s.functions) most_definitions) (all >>= goes) (record { kind = TooMany; at = span })
    (λ _. then_every Any StateRead all goes (any all)
    (λ name _. then_every Any StateRead (parameters [] w.parameters) (rest name) (any (parameters [] w.parameters))
    (λ locals _. one_every TreeIsRead StateRead (node name locals) (λ t. with_function s name (length locals) t span)
    (named_read most_levels (record { locals = locals; defined = s.defined; current = Some name }) true (body w.body span) h.defined (body_kept w.body span k o))
    (λ t p. record {
      defined = named_more s.defined (record { name = name; what = AFunction (length s.functions) (levels (known s.functions) t) }) h.defined tt;
      functions = all_more FunctionIsRead s.functions (record { parameters = length locals; body = t; span = span }) h.functions (p, o);
      threads = h.threads;
      cells = h.cells;
    })))) where
      all : Answer (List ℕ)
      all = new_name s.defined w.name w.at

      node : List ℕ → List (List ℕ) → Answer Tree
      node name locals = named most_levels (record { locals = locals; defined = s.defined; current = Some name }) true (body w.body span)

      rest : List ℕ → List (List ℕ) → Answer State
      rest name locals = node name locals >>= λ t. Ok (with_function s name (length locals) t span)

      goes : List ℕ → Answer State
      goes name = parameters [] w.parameters >>= rest name

future_read : (s : State) (span : Span) (forms : Forms) → AllKept forms → IsOrdered span → StateRead s → Every StateRead (future s span forms)
future_read s span forms k o h =
    let node = named most_levels (record { locals = []; defined = s.defined; current = None }) false (body forms span) in
    if_every StateRead (nat_lt (length s.threads) most_threads) (node >>= λ t. Ok (with_thread s t span)) (record { kind = TooMany; at = span })
    (λ _. one_every TreeIsRead StateRead node (λ t. with_thread s t span)
    (named_read most_levels (record { locals = []; defined = s.defined; current = None }) false (body forms span) h.defined (body_kept forms span k o))
    (λ t p. record { defined = h.defined; functions = h.functions; threads = all_more ThreadIsRead s.threads (record { body = t; span = span }) h.threads (p, o); cells = h.cells }))

top_read : (f : Option FormName) (s : State) (span : Span) (forms : Forms) → AreRead IsSymbol forms → IsOrdered span → StateRead s → Every StateRead (top_level f s span forms)
top_read (Some kind.Def) s span forms k o h = defined_read s span (named_form forms) (form_read forms k) h
top_read (Some kind.Defn) s span forms k o h = function_read s span (written forms) (written_kept forms (all_kept forms k)) o h
top_read (Some kind.Future) s span forms k o h = future_read s span forms (all_kept forms k) o h
top_read _ s span forms k o h = tt

step_read : (s : State) (form : Form) → IsRead IsSymbol form → StateRead s → Every StateRead (step s form)
step_read s (leaf x at) k h = tt
step_read s (group Square forms at) k h = tt
step_read s (group Round no_forms at) k h = tt
step_read s (group Round (first head forms) at) k h = top_read (form_at head) s at forms k.0.1 k.1 h

steps_read : (forms : List Form) (s : State) → AllByRecursion (IsRead IsSymbol) forms → StateRead s → Every StateRead (steps s forms)
steps_read [] s k h = h
steps_read (form ∷ forms) s k h = then_every StateRead StateRead (step s form) (λ t. steps t forms) (step_read s form k.0 h) (λ t g. steps_read forms t k.1 g)

behind_read : (forms : List Form) → AllByRecursion (IsRead IsSymbol) forms → AllByRecursion (IsRead IsSymbol) (behind_namespace forms)
behind_read [] k = tt
behind_read (form ∷ forms) k = here (is_namespace form) where
  here : (b : Bool) → AllByRecursion (IsRead IsSymbol) (if b then forms else form ∷ forms)
  here true = k.1
  here false = k

-- the program that such forms are
pub program_read : (forms : List Form) (p : PlainProgram) → AllByRecursion (IsRead IsSymbol) forms → Resolves forms p → ProgramIsRead p
program_read forms p k e =
    subst (Every ProgramIsRead) e
    (one_every StateRead ProgramIsRead (steps nothing (behind_namespace forms)) program
    (steps_read (behind_namespace forms) nothing (behind_read forms k) (record { defined = tt; functions = tt; threads = tt; cells = tt }))
    (λ s h. record { functions = h.functions; threads = h.threads; cells = h.cells }))
