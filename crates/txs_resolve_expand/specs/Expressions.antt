-- The tree of a form, or the first refusal met: forms are walked in source order, each before its parts.
use Rattle.std.specs.Prelude.{ℕ, zero, suc, ◌-◌, Bool, true, false, ◌&&◌, ◌||◌, nat_lt, List, length, Option, Some, None, Result, Ok, if◌then◌else◌}
use Rattle.txs_value_data.specs.Limits.{most_items, most_locals}
use Rattle.txs_value_data.specs.declared.fault.Span.{Span}
use Rattle.txs_value_data.specs.declared.op.Op.{Op}
use Rattle.txs_value_data.specs.declared.op.Op.TheVariants.{Add, Subtract, Multiply}
use Rattle.txs_value_data.specs.declared.op.Callee.{Callee}
use Rattle.txs_value_data.specs.declared.op.Callee.TheVariants.{Core as CoreOp, Function as TheFunction}
use Rattle.txs_value_cell.specs.declared.form.CellForm.{CellForm}
use Rattle.txs_value_cell.specs.declared.form.CellForm.TheVariants as on_cell
use Rattle.txs_value_cell.specs.declared.form.LookForm.TheVariants.{Deref, Ensure}
use Rattle.txs_value_cell.specs.declared.form.PutForm.{PutForm}
use Rattle.txs_value_cell.specs.declared.form.PutForm.TheVariants.{RefSet, Reset}
use Rattle.txs_value_cell.specs.declared.form.UpdateForm.TheVariants.{Alter, Commute, Swap}
use Rattle.txs_value_data.specs.declared.value.Value.{Value}
use Rattle.txs_value_data.specs.declared.value.Value.TheVariants.{Nil, Truth, Int, Text, Key, Cell}
use Rattle.txs_reader.specs.declared.form.Bracket.TheVariants.{Round, Square}
use Rattle.txs_reader.specs.Tree.{PlainForm as Form, PlainForms as Forms, Leaf, leaf, group, first, place, number, symbol, nil, truth, text, keyword, parts}
use Rattle.txs_reader.specs.Tree.{none as no_forms}
use Rattle.txs_tree_meaning.specs.Tree.{Tree, Trees, Mark, Const, Local, If, Do, Let, Loop, Recur, Core as CoreNode, Call, VectorOf, Println, Dosync, Look, Put, Update, Send, none, more}
use Rattle.txs_tree_meaning.specs.View.{mark_of}
use Rattle.txs_resolve_expand.specs.declared.error.ResolveError.{ResolveError}
use Rattle.txs_resolve_expand.specs.declared.error.ResolveErrorKind.TheVariants.{UnknownName, BadForm, NotCallable, LocalCalled, SelfCall, TooMany}
use Rattle.txs_resolve_expand.specs.declared.names.FormName.{FormName}
use Rattle.txs_resolve_expand.specs.declared.names.FormName.TheVariants as kind
use Rattle.txs_resolve_expand.specs.declared.shapes.Change.{Change}
use Rattle.txs_resolve_expand.specs.declared.shapes.Change.TheVariants as change_by
use Rattle.txs_resolve_expand.specs.declared.shapes.Sequence.{Sequence}
use Rattle.txs_resolve_expand.specs.declared.shapes.Sequence.TheVariants as sequence
use Rattle.txs_resolve_expand.specs.declared.shapes.Single.{Single}
use Rattle.txs_resolve_expand.specs.declared.shapes.Single.TheVariants as single
use Rattle.txs_resolve_expand.specs.declared.shapes.Spot.{Spot}
use Rattle.txs_resolve_expand.specs.declared.scope.Definition.TheVariants.{Constant, Cell as ACell, Function as AFunction}
use Rattle.txs_resolve_expand.specs.Answers.{◌>>=◌, refuse}
use Rattle.txs_resolve_expand.specs.Expansions.{alone, body, expand_once, form_at}
use Rattle.txs_resolve_expand.specs.Scope.{Scope, with_local, may_bind, meaning, Meaning, a_form, dotted, a_local, the_current, defined_as, operation, unknown}

-- an answer: what a form is, or why it is nothing
abbrev pub Answer : Type 0 → Type 0
Answer A = Result A ResolveError

-- where a node is: how many levels it may have, its span, and whether its result is wanted
abbrev pub spot_at : ℕ → Span → Bool → Spot
spot_at room span wanted = record { room = room; span = span; wanted = wanted }

-- the mark of a node at this spot
abbrev pub spot_mark : Spot → Mark
spot_mark s = mark_of s.span s.wanted

-- so many levels further down
abbrev pub below : ℕ → Spot → Spot
below k s = spot_at (s.room - k) s.span s.wanted

-- a node that finds no room is too much
abbrev pub some_room : {A : Type 0} → ℕ → Answer A → Answer A → Answer A
some_room zero refusal next = refusal
some_room (suc n) refusal next = next

-- a node that finds no room here is too much, at its own place
abbrev pub in_room : {A : Type 0} → Spot → Answer A → Answer A
in_room s next = some_room s.room (refuse TooMany s.span) next

-- what has more parts than an instruction can count is too much
abbrev pub narrow : {A : Type 0} → ℕ → Spot → Answer A → Answer A
narrow n s next = if nat_lt most_items n then refuse TooMany s.span else next

-- ---- symbols and literals

-- what a symbol is as a value: a local, a constant or a cell
abbrev pub symbol_node : Meaning → Spot → Answer Tree
symbol_node (a_local i) s = in_room s (Ok (Local i (spot_mark s)))
symbol_node (defined_as (Constant v)) s = in_room s (Ok (Const v (spot_mark s)))
symbol_node (defined_as (ACell c)) s = in_room s (Ok (Const (Cell c) (spot_mark s)))
symbol_node unknown s = refuse UnknownName s.span
symbol_node _ s = refuse BadForm s.span

-- the value of a literal without parts
abbrev pub leaf_value : Leaf → Value
leaf_value nil = Nil
leaf_value (truth b) = Truth b
leaf_value (number z) = Int z
leaf_value (text bytes) = Text bytes
leaf_value (keyword name) = Key name
leaf_value (symbol name) = Nil

-- a form without parts: a symbol by what its name stands for, and all else as its value
abbrev pub leaf_node : Scope → Leaf → Spot → Answer Tree
leaf_node scope (symbol name) s = symbol_node (meaning name scope) s
leaf_node scope x s = in_room s (Ok (Const (leaf_value x) (spot_mark s)))

-- ---- what is called

-- what a name is in the place of a function, for a form at this spot. A function's body is below the call.
abbrev pub callee_at : Meaning → Spot → Span → Answer Callee
callee_at (a_form f) s at = refuse NotCallable at
callee_at dotted s at = refuse BadForm at
callee_at (a_local i) s at = refuse LocalCalled at
callee_at the_current s at = refuse SelfCall at
callee_at (defined_as (AFunction n levels)) s at = if nat_lt levels s.room then Ok (TheFunction n) else refuse TooMany s.span
callee_at (defined_as _) s at = refuse NotCallable at
callee_at (operation op) s at = Ok (CoreOp op)
callee_at unknown s at = refuse UnknownName at

-- the callee of a form on a cell
abbrev pub callee_of : Scope → Spot → Form → Answer Callee
callee_of scope s (leaf (symbol name) at) = callee_at (meaning name scope) s at
callee_of scope s form = refuse NotCallable (place form)

-- ---- nodes of what is resolved

-- the flag of an item, by what is behind it
abbrev pub flag : Bool → Bool → Forms → Bool
flag inner last no_forms = last
flag inner last (first e rest) = inner

-- the node of these items
abbrev pub sequence_node : Sequence → Trees → Mark → Tree
sequence_node sequence.Do nodes m = Do nodes m
sequence_node sequence.Recur nodes m = Recur nodes m
sequence_node sequence.Println nodes m = Println nodes m
sequence_node sequence.Vector nodes m = VectorOf nodes m
sequence_node (sequence.Core op) nodes m = CoreNode op nodes m
sequence_node (sequence.Call n) nodes m = Call n nodes m

-- whether the result of each item is wanted; of a `do` it is that of the last alone, where its own is
abbrev pub are_wanted : Sequence → Bool
are_wanted sequence.Do = false
are_wanted _ = true

-- a choice by a test, which may be turned
abbrev pub choice_node : Bool → Tree → Tree → Tree → Mark → Tree
choice_node false test a b m = If test a b m
choice_node true test a b m = If test b a m

-- a transaction, or a form that reads the cell
abbrev pub single_node : Single → Tree → Mark → Tree
single_node single.Dosync body m = Dosync body m
single_node (single.Look form) cell m = Look form cell m

-- whether the result of its part is wanted whatever becomes of its own: that of a cell is, that of a body isn't
abbrev pub is_wanted : Single → Bool
is_wanted single.Dosync = false
is_wanted (single.Look form) = true

-- a form that gives the cell what is called makes of its value and the arguments, or that sends it
abbrev pub change_node : Change → Tree → Callee → Trees → Mark → Tree
change_node (change_by.Update form) cell callee args m = Update form cell callee args m
change_node change_by.Send cell callee args m = Send cell callee args m

-- a `let`, or a `loop`
abbrev pub binding_node : Bool → Trees → Tree → Mark → Tree
binding_node false values body m = Let values body m
binding_node true values body m = Loop values body m

-- ---- special forms, and their parts in source order

-- a form that isn't read as another, with its parts
pub data Special : Type 0 where
  -- these forms in order
  row : Sequence → Forms → Special
  -- the body of a transaction, or the cell that is read
  one_part : Single → Form → Special
  -- the cell, and the value that it is given
  putting : PutForm → Form → Form → Special
  -- whether the branches are turned, the test, and the two branches
  choice : Bool → Form → Form → Form → Special
  -- whether a recur comes back to it, names and values in turn, and the body that sees them
  binding : Bool → Forms → Form → Special
  -- the cell, what is called, and its further arguments
  changing : Change → Form → Form → Forms → Special

-- what a form is when no more is to expand: one without parts, or a special form
pub data Core : Type 0 where
  whole : Leaf → Core
  parted : Special → Core

-- whether a form is a symbol
abbrev pub is_symbol : Form → Bool
is_symbol (leaf (symbol name) at) = true
is_symbol _ = false

-- names and values in turn
abbrev pub are_pairs : Forms → Bool
are_pairs no_forms = true
are_pairs (first binder no_forms) = false
are_pairs (first binder (first e rest)) = is_symbol binder && are_pairs rest

-- a `let` or `loop` with these names and values, and this body
abbrev pub bound_in : Bool → Spot → Forms → Forms → Answer Core
bound_in is_loop s pairs forms = if are_pairs pairs then Ok (parted (binding is_loop pairs (body forms s.span))) else refuse BadForm s.span

-- the forms on cells, by their names
abbrev pub cell_form : FormName → Option CellForm
cell_form kind.Deref = Some (on_cell.Look Deref)
cell_form kind.Ensure = Some (on_cell.Look Ensure)
cell_form kind.RefSet = Some (on_cell.Put RefSet)
cell_form kind.Reset = Some (on_cell.Put Reset)
cell_form kind.Alter = Some (on_cell.Update Alter)
cell_form kind.Commute = Some (on_cell.Update Commute)
cell_form kind.Swap = Some (on_cell.Update Swap)
cell_form kind.Send = Some on_cell.Send
cell_form _ = None

-- a form on a cell, by what its family wants behind the cell: nothing, a value, or what is called and its arguments
abbrev pub of_family : Option CellForm → Span → Forms → Answer Core
of_family (Some (on_cell.Look form)) at (first r no_forms) = Ok (parted (one_part (single.Look form) r))
of_family (Some (on_cell.Put form)) at (first r (first e no_forms)) = Ok (parted (putting form r e))
of_family (Some (on_cell.Update form)) at (first r (first f args)) = Ok (parted (changing (change_by.Update form) r f args))
of_family (Some on_cell.Send) at (first r (first f args)) = Ok (parted (changing change_by.Send r f args))
of_family _ at _ = refuse BadForm at

-- a special form, by its name and its parts: a `when` without a test and a top-level form are none
abbrev pub special : FormName → Spot → Forms → Answer Core
special kind.If s (first c (first a no_forms)) = Ok (parted (choice false c a (leaf nil s.span)))
special kind.If s (first c (first a (first b no_forms))) = Ok (parted (choice false c a b))
special kind.IfNot s (first c (first a no_forms)) = Ok (parted (choice true c a (leaf nil s.span)))
special kind.IfNot s (first c (first a (first b no_forms))) = Ok (parted (choice true c a b))
special kind.Do s (first e rest) = Ok (parted (row sequence.Do (first e rest)))
special kind.Let s (first (group Square pairs at) forms) = bound_in false s pairs forms
special kind.Loop s (first (group Square pairs at) forms) = bound_in true s pairs forms
special kind.Recur s args = Ok (parted (row sequence.Recur args))
special kind.Println s args = Ok (parted (row sequence.Println args))
special kind.Dosync s forms = Ok (parted (one_part single.Dosync (body forms s.span)))
special name s args = of_family (cell_form name) s.span args

-- the operations that fold any number of arguments from the left
abbrev pub folds : Op → Bool
folds Add = true
folds Subtract = true
folds Multiply = true
folds _ = false

-- whether an operation on so many arguments is the chain of its pairs
abbrev pub is_chain : Op → ℕ → Bool
is_chain op n = folds op && nat_lt 2 n

-- these forms without the last
abbrev pub all_but_last : Forms → Forms
all_but_last no_forms = no_forms
all_but_last (first e no_forms) = no_forms
all_but_last (first e (first f rest)) = first e (all_but_last (first f rest))

-- the last of these forms
abbrev pub last_of : Form → Forms → Form
last_of e no_forms = e
last_of e (first f rest) = last_of f rest

-- what an operation is applied to: (+ a .. y z) is (+ (+ a .. y) z), also of - and *
abbrev pub operands : Op → Form → Forms → Span → Forms
operands op head args at =
    if is_chain op (parts args) then first (group Round (first head (all_but_last args)) at) (first (last_of head args) no_forms) else args

-- an operation or a function on its arguments
abbrev pub applied : Callee → Form → Forms → Span → Core
applied (CoreOp op) head args at = parted (row (sequence.Core op) (operands op head args at))
applied (TheFunction n) head args at = parted (row (sequence.Call n) args)

-- a list, by the form whose name is at its head, else by what is called
abbrev pub list_core : Option FormName → Scope → Spot → Form → Forms → Answer Core
list_core (Some f) scope s head args = special f s args
list_core None scope s head args = in_room s (callee_of scope s head >>= λ callee. Ok (applied callee head args s.span))

-- a form in which no more is to expand
abbrev pub core_of : Scope → Spot → Form → Answer Core
core_of scope s (leaf x at) = Ok (whole x)
core_of scope s (group Square forms at) = Ok (parted (row sequence.Vector forms))
core_of scope s (group Round no_forms at) = refuse BadForm s.span
core_of scope s (group Round (first head args) at) = list_core (form_at head) scope s head args

-- ---- names: the tree of a special form, by the trees of its parts

-- what the parts of a form are resolved by: their scope, and whether the result is wanted
abbrev pub Resolver : Type 0
Resolver = Scope → Bool → Form → Answer Tree

-- each form's node; the last one has a flag of its own
abbrev pub named_all : Resolver → Scope → Bool → Bool → Forms → Answer Trees
named_all deeper scope inner last no_forms = Ok none
named_all deeper scope inner last (first e rest) =
    deeper scope (flag inner last rest) e >>= λ node.
    named_all deeper scope inner last rest >>= λ nodes.
    Ok (more node nodes)

-- the values of a `let` or `loop`, and the names in scope behind them
pub record Bound : Type 0 where
  pub values : Trees
  pub scope : Scope

-- the name that a form binds, where one more local may be in scope: there are at most 200
abbrev pub bound_name : Scope → Form → Answer (List ℕ)
bound_name scope (leaf (symbol name) at) =
    if may_bind name then (if nat_lt (length scope.locals) most_locals then Ok name else refuse TooMany at) else refuse BadForm at
bound_name scope form = refuse BadForm (place form)

-- names and values in turn, of which each value sees the names before it, and is before its own
abbrev pub named_bindings : Resolver → Scope → Forms → Answer Bound
named_bindings deeper scope no_forms = Ok (record { values = none; scope = scope })
named_bindings deeper scope (first binder no_forms) = refuse BadForm (place binder)
named_bindings deeper scope (first binder (first e rest)) =
    deeper scope true e >>= λ value.
    bound_name scope binder >>= λ name.
    named_bindings deeper (with_local name scope) rest >>= λ bound.
    Ok (record { values = more value bound.values; scope = bound.scope })

-- the tree of a special form, whose parts stand one level below it
abbrev pub put_together : Resolver → Scope → Spot → Special → Answer Tree
put_together deeper scope s (row k forms) =
    narrow (parts forms) s (named_all deeper scope (are_wanted k) (are_wanted k || s.wanted) forms) >>= λ nodes.
    Ok (sequence_node k nodes (spot_mark s))
put_together deeper scope s (one_part k form) =
    deeper scope (is_wanted k || s.wanted) form >>= λ node.
    Ok (single_node k node (spot_mark s))
put_together deeper scope s (putting form r e) =
    deeper scope true r >>= λ cell.
    deeper scope true e >>= λ value.
    Ok (Put form cell value (spot_mark s))
-- what is written first is looked at first, also where the branches are turned
put_together deeper scope s (choice turned c a b) =
    deeper scope true c >>= λ test.
    deeper scope s.wanted a >>= λ one.
    deeper scope s.wanted b >>= λ other.
    Ok (choice_node turned test one other (spot_mark s))
put_together deeper scope s (binding is_loop pairs forms) =
    named_bindings deeper scope pairs >>= λ bound.
    deeper bound.scope s.wanted forms >>= λ node.
    Ok (binding_node is_loop bound.values node (spot_mark s))
put_together deeper scope s (changing k r f args) =
    deeper scope true r >>= λ cell.
    callee_of scope s f >>= λ callee.
    narrow (suc (parts args)) s (named_all deeper scope true true args) >>= λ nodes.
    Ok (change_node k cell callee nodes (spot_mark s))

-- the tree of a form in which no more is to expand; a special form finds room or is too much
abbrev pub made : Resolver → Scope → Spot → Core → Answer Tree
made deeper scope s (whole x) = leaf_node scope x s
made deeper scope s (parted form) = in_room s (put_together deeper scope s form)

-- the tree of a form that is no other's only part, at a spot with so much room
abbrev pub resolved : Resolver → ℕ → Scope → Bool → Form → Answer Tree
resolved deeper room scope wanted form =
    let s = spot_at room (place form) wanted in
    core_of scope s (expand_once form) >>= made deeper scope s

-- the tree of a form that may have so many levels; the truth value says whether its result is wanted
unfoldable pub named : ℕ → Scope → Bool → Form → Answer Tree
-- nothing is asked below the last level
named zero scope wanted form = resolved (λ _ _ e. refuse TooMany (place e)) 0 scope wanted (alone form)
named (suc room) scope wanted form = resolved (named room) (suc room) scope wanted (alone form)
