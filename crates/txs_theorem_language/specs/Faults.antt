-- Which fault of names a form has, told of the form as it is written: for each kind of refusal the forms that have it, and its place.
use Rattle.std.specs.Prelude.{◌≡◌, ◌≤◌, ◌<◌, ◌+◌, ◌&&◌, ℕ, suc, Bool, true, false, List, [], length, Option, Some, None, Ok}
use Rattle.txs_value_data.specs.Limits.{most_definitions, most_depth, most_items, most_levels, most_locals, most_parameters, most_threads}
use Rattle.txs_value_data.specs.declared.fault.Span.{Span}
use Rattle.txs_value_data.specs.Operations.{op_name, operations}
use Rattle.txs_value_data.specs.declared.op.Op.{Op}
use Rattle.txs_reader.specs.declared.form.Bracket.TheVariants.{Round, Square}
use Rattle.txs_reader.specs.Tree.{PlainForm as Form, PlainForms as Forms, leaf, group, first, place, symbol, parts}
use Rattle.txs_reader.specs.Tree.{none as no_forms}
use Rattle.txs_resolve_expand.specs.declared.names.FormName.{FormName}
use Rattle.txs_resolve_expand.specs.declared.names.FormName.TheVariants as kind
use Rattle.txs_resolve_expand.specs.declared.scope.Definition.TheVariants.{Constant, Cell as ACell, Function as AFunction}
use Rattle.txs_value_data.specs.Places.{with_name}
use Rattle.txs_resolve_expand.specs.Scope.{Scope, Meaning, a_form, dotted, a_local, the_current, defined_as, operation, unknown, definition_of, is_none, may_bind, meaning}
use Rattle.txs_resolve_expand.specs.declared.error.ResolveError.{ResolveError}
use Rattle.txs_resolve_expand.specs.declared.error.ResolveErrorKind.{ResolveErrorKind}
use Rattle.txs_resolve_expand.specs.declared.error.ResolveErrorKind.TheVariants.{UnknownName, Redefined, BadForm, NotCallable, LocalCalled, SelfCall, TooMany}
use Rattle.txs_resolve_expand.specs.Expansions.{alone, body, form_at, is_even}
use Rattle.txs_resolve_expand.specs.Expressions.{are_pairs, is_chain, is_symbol}
use Rattle.txs_resolve.specs.Names.{State, Defining, NamedForm, Written, defining_of, named_form, parameters, top_scope, written}
use Rattle.txs_theorem_language.specs.FirstForm.{StopsAt}
use Rattle.txs_theorem_language.specs.Standing.{IsOne, StandsIn}

-- ---- what a form is lawfully

-- The shapes of the forms of expressions: what is behind the name at the head, as their docstrings in clojure.core say. Those of
-- the top level (`ns`, `def`, `defn`, `future`), and those that make cells, have none in an expression.
abbrev pub has_shape : FormName → Forms → Bool
has_shape kind.If (first c (first a no_forms)) = true
has_shape kind.If (first c (first a (first b no_forms))) = true
has_shape kind.IfNot (first c (first a no_forms)) = true
has_shape kind.IfNot (first c (first a (first b no_forms))) = true
has_shape kind.When (first c es) = true
has_shape kind.WhenNot (first c es) = true
has_shape kind.Cond no_forms = true
has_shape kind.Cond (first c (first e rest)) = is_even (parts rest)
has_shape kind.And es = true
has_shape kind.Or es = true
has_shape kind.Do es = true
has_shape kind.Recur es = true
has_shape kind.Println es = true
has_shape kind.Dosync es = true
has_shape kind.Let (first (group Square pairs at) es) = are_pairs pairs
has_shape kind.Loop (first (group Square pairs at) es) = are_pairs pairs
has_shape kind.Deref (first r no_forms) = true
has_shape kind.Ensure (first r no_forms) = true
has_shape kind.RefSet (first r (first e no_forms)) = true
has_shape kind.Reset (first r (first e no_forms)) = true
has_shape kind.Alter (first r (first f es)) = true
has_shape kind.Commute (first r (first f es)) = true
has_shape kind.Swap (first r (first f es)) = true
has_shape kind.Send (first r (first f es)) = true
has_shape _ es = false

-- what has a name and is no value: a form, a name with a dot, the function that is being defined, a function, a core operation
abbrev pub is_no_value : Meaning → Bool
is_no_value (a_form f) = true
is_no_value dotted = true
is_no_value the_current = true
is_no_value (defined_as (AFunction n levels)) = true
is_no_value (operation op) = true
is_no_value _ = false

-- what has a name, is no local, and is never called: a form, a constant, a cell
abbrev pub is_no_function : Meaning → Bool
is_no_function (a_form f) = true
is_no_function (defined_as (Constant v)) = true
is_no_function (defined_as (ACell c)) = true
is_no_function _ = false

-- ---- the parts of a form that are no expressions

-- the forms that apply a function to what a cell holds
abbrev pub applies : FormName → Bool
applies kind.Alter = true
applies kind.Commute = true
applies kind.Swap = true
applies kind.Send = true
applies _ = false

-- it is in the place of the function: at the head of a list, where no form's name is, or behind the cell that it is applied to
pub data IsCalled (function : Form) : Form → Type 0 where
  at_head : (args : Forms) (at : Span) → form_at function ≡ None → IsCalled function (group Round (first function args) at)
  behind_cell : (head cell : Form) (f : FormName) (args : Forms) (at : Span) → form_at head ≡ Some f → applies f ≡ true
      → IsCalled function (group Round (first head (first cell (first function args))) at)

-- among names and values in turn it is a name, and so many names are before it
pub data IsBound (name : Form) : ℕ → Forms → Type 0 where
  bound_now : (value : Form) (rest : Forms) → IsBound name 0 (first name (first value rest))
  bound_later : (i : ℕ) (other value : Form) (rest : Forms) → IsBound name i rest → IsBound name (suc i) (first other (first value rest))

-- a `let` or a `loop` binds this symbol, behind so many others
pub data Binds (name : Form) (i : ℕ) : Form → Type 0 where
  in_let : (head : Form) (pairs es : Forms) (there at : Span) → form_at head ≡ Some kind.Let → IsBound name i pairs → Binds name i (group Round (first head (first (group Square pairs there) es)) at)
  in_loop : (head : Form) (pairs es : Forms) (there at : Span) → form_at head ≡ Some kind.Loop → IsBound name i pairs → Binds name i (group Round (first head (first (group Square pairs there) es)) at)

-- the forms that keep a value in a local without a name, where they have two parts or more
abbrev pub hides_local : FormName → Bool
hides_local kind.And = true
hides_local kind.Or = true
hides_local _ = false

-- the forms whose parts all are in one row
abbrev pub is_row : FormName → Bool
is_row kind.Do = true
is_row kind.Recur = true
is_row kind.Println = true
is_row _ = false

-- So many parts of the form are counted together: the items of a vector, the parts of a row, or the arguments of a call, the cell's
-- value among them. Those of an operation on any number of arguments are counted by twos, and so are never too many.
pub data Counts (scope : Scope) : ℕ → Form → Type 0 where
  of_vector : (es : Forms) (at : Span) → Counts scope (parts es) (group Square es at)
  of_row : (head : Form) (f : FormName) (es : Forms) (at : Span) → form_at head ≡ Some f → is_row f ≡ true → Counts scope (parts es) (group Round (first head es) at)
  of_operation : (name : List ℕ) (here : Span) (op : Op) (es : Forms) (at : Span) → meaning name scope ≡ operation op → is_chain op (parts es) ≡ false
      → Counts scope (parts es) (group Round (first (leaf (symbol name) here) es) at)
  of_function : (name : List ℕ) (here : Span) (n levels : ℕ) (es : Forms) (at : Span) → meaning name scope ≡ defined_as (AFunction n levels)
      → Counts scope (parts es) (group Round (first (leaf (symbol name) here) es) at)
  of_change : (head cell function : Form) (f : FormName) (es : Forms) (at : Span) → form_at head ≡ Some f → applies f ≡ true
      → Counts scope (suc (parts es)) (group Round (first head (first cell (first function es))) at)

-- ---- which fault a form has

-- A form that may have so many levels has the fault of this kind, at this place, where it is in this scope.
pub data HasFault (room : ℕ) (scope : Scope) : ResolveErrorKind → Span → Form → Type 0 where
  -- a name that stands for nothing here, as a value or as a function
  is_unknown : (name : List ℕ) (at : Span) → meaning name scope ≡ unknown → HasFault room scope UnknownName at (leaf (symbol name) at)
  calls_unknown : (name : List ℕ) (at : Span) (form : Form) → IsCalled (leaf (symbol name) at) form → meaning name scope ≡ unknown → HasFault room scope UnknownName at form
  -- a name of what is no value; a name with a dot as a function; a list without parts; another shape; a name that no local may have
  is_no_value_here : (name : List ℕ) (at : Span) → is_no_value (meaning name scope) ≡ true → HasFault room scope BadForm at (leaf (symbol name) at)
  calls_dotted : (name : List ℕ) (at : Span) (form : Form) → IsCalled (leaf (symbol name) at) form → meaning name scope ≡ dotted → HasFault room scope BadForm at form
  is_empty : (at : Span) → HasFault room scope BadForm at (group Round no_forms at)
  has_other_shape : (head : Form) (f : FormName) (es : Forms) (at : Span) → form_at head ≡ Some f → has_shape f es ≡ false → HasFault room scope BadForm at (group Round (first head es) at)
  binds_reserved : (name : List ℕ) (at : Span) (i : ℕ) (form : Form) → Binds (leaf (symbol name) at) i form → may_bind name ≡ false → HasFault room scope BadForm at form
  -- what is no symbol as a function, or the name of a form, of a constant or of a cell
  calls_no_symbol : (function form : Form) → IsCalled function form → is_symbol function ≡ false → HasFault room scope NotCallable (place function) form
  calls_no_function : (name : List ℕ) (at : Span) (form : Form) → IsCalled (leaf (symbol name) at) form → is_no_function (meaning name scope) ≡ true → HasFault room scope NotCallable at form
  -- a local as a function
  calls_local : (name : List ℕ) (at : Span) (i : ℕ) (form : Form) → IsCalled (leaf (symbol name) at) form → meaning name scope ≡ a_local i → HasFault room scope LocalCalled at form
  -- the function that is being defined, in its own body
  calls_itself : (name : List ℕ) (at : Span) (form : Form) → IsCalled (leaf (symbol name) at) form → meaning name scope ≡ the_current → HasFault room scope SelfCall at form
  -- no level is left for the form, or not enough for the body of the function that it calls
  finds_no_level : (form : Form) → room ≡ 0 → HasFault room scope TooMany (place form) form
  calls_too_deep : (name : List ℕ) (at : Span) (n levels : ℕ) (form : Form) → IsCalled (leaf (symbol name) at) form → meaning name scope ≡ defined_as (AFunction n levels) → room ≤ levels
      → HasFault room scope TooMany (place form) form
  -- a local past the 200th, with a name or without
  binds_too_many : (name : List ℕ) (at : Span) (i : ℕ) (form : Form) → Binds (leaf (symbol name) at) i form → most_locals ≤ length scope.locals + i → HasFault room scope TooMany at form
  hides_too_many : (head e1 e2 : Form) (f : FormName) (es : Forms) (at : Span) → form_at head ≡ Some f → hides_local f ≡ true → most_locals ≤ length scope.locals
      → HasFault room scope TooMany at (group Round (first head (first e1 (first e2 es))) at)
  -- more than 65,535 parts
  is_too_wide : (n : ℕ) (form : Form) → Counts scope n form → most_items < n → HasFault room scope TooMany (place form) form

-- A form that is in this one has the fault, at the refusal's place. Of `(do e)`, `(and e)` and `(or e)`, which are e, it is that of e.
pub record FaultInForm (k : ℕ) (outer : Scope) (form : Form) (e : ResolveError) : Type 0 where
  pub room : ℕ
  pub scope : Scope
  pub part : Form
  pub stands : StandsIn room scope part k outer form
  pub fault : HasFault room scope e.kind e.at (alone part)

-- ---- which fault a top-level form has

-- the forms of the top level, by the name at the head
abbrev pub is_definition : Option FormName → Bool
is_definition (Some kind.Def) = true
is_definition (Some kind.Defn) = true
is_definition (Some kind.Future) = true
is_definition _ = false

-- a list with such a name at its head
abbrev pub is_top_level : Form → Bool
is_top_level (group Round (first head es) at) = is_definition (form_at head)
is_top_level _ = false

-- whether a name can be defined: it is that of no core operation, and isn't defined yet
abbrev pub is_free : State → List ℕ → Bool
is_free s name = is_none (with_name op_name name operations) && is_none (definition_of name s.defined)

-- a `def` or a `defn` of this name, which is there
pub data Defines : List ℕ → Span → Form → Type 0 where
  by_def : (head : Form) (es : Forms) (at : Span) (f : NamedForm) → form_at head ≡ Some kind.Def → named_form es ≡ Some f → Defines f.name f.at (group Round (first head es) at)
  by_defn : (head : Form) (es : Forms) (at : Span) (w : Written) → form_at head ≡ Some kind.Defn → written es ≡ Some w → Defines w.name w.at (group Round (first head es) at)

-- a vector in this literal, whose vectors may have so many levels, has one too many or has more than 65,535 items
pub data IsTooMuch : ℕ → Span → Form → Type 0 where
  is_too_deep : (room : ℕ) (es : Forms) (at : Span) → room ≡ 0 → IsTooMuch room at (group Square es at)
  is_too_long : (room : ℕ) (es : Forms) (at : Span) → most_items < parts es → IsTooMuch room at (group Square es at)
  has_too_much : (room : ℕ) (es : Forms) (at there : Span) (e : Form) → IsOne e es → IsTooMuch room there e → IsTooMuch (suc room) there (group Square es at)

-- it is one of these, and so many are before it
pub data IsNth (form : Form) : ℕ → Forms → Type 0 where
  nth_now : (rest : Forms) → IsNth form 0 (first form rest)
  nth_later : (i : ℕ) (other : Form) (rest : Forms) → IsNth form i rest → IsNth form (suc i) (first other rest)

-- a `defn` has this symbol as a parameter, behind so many others
pub data HasParameter (name : Form) (i : ℕ) : Form → Type 0 where
  has_parameter : (head : Form) (es : Forms) (at : Span) (w : Written) → form_at head ≡ Some kind.Defn → written es ≡ Some w → IsNth name i w.parameters → HasParameter name i (group Round (first head es) at)

-- A form in the place of the function is refused for this reason at this place, in a definition with this span: by what the forms before it
-- define, for it sees no local, and no function is being defined.
pub data ValidatorFault (s : State) (whole : Span) : ResolveErrorKind → Span → Form → Type 0 where
  -- a name that stands for nothing
  validator_unknown : (name : List ℕ) (at : Span) → meaning name (top_scope s.defined) ≡ unknown → ValidatorFault s whole UnknownName at (leaf (symbol name) at)
  -- a name with a dot
  validator_dotted : (name : List ℕ) (at : Span) → meaning name (top_scope s.defined) ≡ dotted → ValidatorFault s whole BadForm at (leaf (symbol name) at)
  -- what is no symbol, or the name of a form, of a constant or of a cell
  validator_no_symbol : (form : Form) → is_symbol form ≡ false → ValidatorFault s whole NotCallable (place form) form
  validator_no_function : (name : List ℕ) (at : Span) → is_no_function (meaning name (top_scope s.defined)) ≡ true → ValidatorFault s whole NotCallable at (leaf (symbol name) at)
  -- a function of more than 1,000 levels, which no script defines
  validator_too_deep : (name : List ℕ) (at : Span) (n levels : ℕ) → meaning name (top_scope s.defined) ≡ defined_as (AFunction n levels) → most_levels < levels
      → ValidatorFault s whole TooMany whole (leaf (symbol name) at)

-- A top-level form has the fault of this kind, at this place, where the forms before it define this.
pub data HasTopFault (s : State) : ResolveErrorKind → Span → Form → Type 0 where
  -- no form of the top level; a definition of another shape, or of no literal; a name that no definition may have, or no parameter
  is_no_definition : (form : Form) → is_top_level form ≡ false → HasTopFault s BadForm (place form) form
  defines_other : (head : Form) (es : Forms) (at : Span) → form_at head ≡ Some kind.Def → named_form es ≡ None → HasTopFault s BadForm at (group Round (first head es) at)
  defines_no_literal : (head : Form) (es : Forms) (at : Span) (f : NamedForm) → form_at head ≡ Some kind.Def → named_form es ≡ Some f → defining_of f.form ≡ None → HasTopFault s BadForm at (group Round (first head es) at)
  defines_no_function : (head : Form) (es : Forms) (at : Span) → form_at head ≡ Some kind.Defn → written es ≡ None → HasTopFault s BadForm at (group Round (first head es) at)
  defines_reserved : (name : List ℕ) (at : Span) (form : Form) → Defines name at form → may_bind name ≡ false → HasTopFault s BadForm at form
  parameter_reserved : (name : List ℕ) (at : Span) (i : ℕ) (form : Form) → HasParameter (leaf (symbol name) at) i form → may_bind name ≡ false → HasTopFault s BadForm at form
  -- a name that is defined already, or that a core operation has
  defines_again : (name : List ℕ) (at : Span) (form : Form) → Defines name at form → is_free s name ≡ false → HasTopFault s Redefined at form
  -- one more than 1,000 constants and cells, 1,000 functions, 64 threads or 20 parameters; a literal that is no value
  defines_too_many : (head : Form) (es : Forms) (at : Span) → form_at head ≡ Some kind.Def → most_definitions ≤ s.defs → HasTopFault s TooMany at (group Round (first head es) at)
  functions_too_many : (head : Form) (es : Forms) (at : Span) → form_at head ≡ Some kind.Defn → most_definitions ≤ length s.functions → HasTopFault s TooMany at (group Round (first head es) at)
  threads_too_many : (head : Form) (es : Forms) (at : Span) → form_at head ≡ Some kind.Future → most_threads ≤ length s.threads → HasTopFault s TooMany at (group Round (first head es) at)
  parameters_too_many : (name : List ℕ) (at : Span) (i : ℕ) (form : Form) → HasParameter (leaf (symbol name) at) i form → most_parameters ≤ i → HasTopFault s TooMany at form
  defines_too_much : (head : Form) (es : Forms) (at there : Span) (f : NamedForm) (d : Defining) → form_at head ≡ Some kind.Def → named_form es ≡ Some f → defining_of f.form ≡ Some d → IsTooMuch most_depth there d.value
      → HasTopFault s TooMany there (group Round (first head es) at)
  -- the validator of a cell
  defines_with_validator : (why : ResolveErrorKind) (head : Form) (es : Forms) (at there : Span) (f : NamedForm) (d : Defining) (v : Form) → form_at head ≡ Some kind.Def → named_form es ≡ Some f
      → defining_of f.form ≡ Some d → d.validator ≡ Some v → ValidatorFault s at why there v → HasTopFault s why there (group Round (first head es) at)

-- The fault of a top-level form is its own, or that of a form that is in the body of its function or of its thread.
pub data FaultAtTop (s : State) (e : ResolveError) : Form → Type 0 where
  of_itself : (form : Form) → HasTopFault s e.kind e.at form → FaultAtTop s e form
  of_body : (head : Form) (es : Forms) (at : Span) (w : Written) (locals : List (List ℕ)) → form_at head ≡ Some kind.Defn → written es ≡ Some w → parameters [] w.parameters ≡ Ok locals
      → FaultInForm most_levels (record { locals = locals; defined = s.defined; current = Some w.name }) (body w.body at) e → FaultAtTop s e (group Round (first head es) at)
  of_thread : (head : Form) (es : Forms) (at : Span) → form_at head ≡ Some kind.Future
      → FaultInForm most_levels (record { locals = []; defined = s.defined; current = None }) (body es at) e → FaultAtTop s e (group Round (first head es) at)

-- The first of a script's forms that is refused has the fault.
pub record FaultInScript (forms : List Form) (e : ResolveError) : Type 0 where
  pub stop : StopsAt forms e
  pub fault : FaultAtTop stop.defined e stop.form
