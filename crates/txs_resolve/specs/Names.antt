-- Which program the forms of a script are, or the first refusal met.
use Rattle.std.specs.Prelude.{◌≡◌, ℕ, suc, Bool, true, false, ◌&&◌, bytes_eq, codes, nat_lt, List, [], ◌∷◌, ◌++◌, length, Option, Some, None, Ok, Err, if◌then◌else◌}
use Rattle.txs_value_data.specs.Limits.{most_depth, most_levels, most_definitions, most_threads, most_parameters}
use Rattle.txs_value_data.specs.Operations.{op_name, operations}
use Rattle.txs_value_data.specs.declared.fault.Span.{Span}
use Rattle.txs_value_data.specs.declared.op.Callee.{Callee}
use Rattle.txs_value_cell.specs.declared.cell.CellDefinition.{CellDefinition}
use Rattle.txs_value_data.specs.declared.value.CellKind.{CellKind}
use Rattle.txs_value_data.specs.declared.value.CellKind.TheVariants.{Ref, Atom, Agent}
use Rattle.txs_value_data.specs.declared.value.Value.{Value}
use Rattle.txs_reader.specs.declared.form.Bracket.TheVariants.{Round, Square}
use Rattle.txs_reader.specs.Tree.{PlainForm as Form, PlainForms as Forms, leaf, group, first, keyword, place, symbol, text}
use Rattle.txs_reader.specs.Tree.{none as no_forms}
use Rattle.txs_tree_meaning.specs.Known.{levels, known}
use Rattle.txs_tree_meaning.specs.Tree.{Tree, PlainFunction, PlainThread, PlainProgram}
use Rattle.txs_resolve_expand.specs.declared.error.ResolveError.{ResolveError}
use Rattle.txs_resolve_expand.specs.declared.error.ResolveErrorKind.TheVariants.{Redefined, BadForm, TooMany, Memory}
use Rattle.txs_resolve_expand.specs.declared.names.FormName.{FormName}
use Rattle.txs_resolve_expand.specs.declared.names.FormName.TheVariants as kind
use Rattle.txs_resolve_expand.specs.declared.scope.Definition.TheVariants.{Constant, Cell, Function}
use Rattle.txs_resolve.specs.declared.definition.CellSort.{CellSort}
use Rattle.txs_resolve.specs.declared.definition.Validation.{Validation}
use Rattle.txs_value_cell.specs.declared.cell.ErrorMode.{ErrorMode}
use Rattle.txs_value_cell.specs.declared.cell.ErrorMode.TheVariants.{Fail, Continue}
use Rattle.txs_resolve_expand.specs.Expansions.{body, form_at}
use Rattle.txs_resolve_expand.specs.Expressions.{Answer, callee_of, is_symbol, named, spot_at}
use Rattle.txs_resolve.specs.Literals.{is_literal, literal}
use Rattle.txs_resolve_expand.specs.Answers.{◌>>=◌, refuse}
use Rattle.txs_resolve_expand.specs.Namespace.{behind_namespace}
use Rattle.txs_value_data.specs.Places.{with_name}
use Rattle.txs_resolve_expand.specs.Scope.{Scope, Entry, definition_of, may_bind, is_none}

-- what a script has defined so far: names; cells, and where the validator of each stands, or its definition where it has none; functions;
-- threads; and how often `def` stood
pub record State : Type 0 where
  pub defined : List Entry
  pub cells : List CellDefinition
  pub validator_spans : List Span
  pub functions : List PlainFunction
  pub threads : List PlainThread
  pub defs : ℕ

-- before the first form nothing is defined
abbrev pub nothing : State
nothing = record { defined = []; cells = []; validator_spans = []; functions = []; threads = []; defs = 0 }

-- the program of what is defined
abbrev pub program : State → PlainProgram
program s = record { functions = s.functions; cells = s.cells; validator_spans = s.validator_spans; threads = s.threads }

-- ---- names that are defined

-- whether a name can be defined: that of a form and one with a dot can't, that of a core operation or of a definition is one already
abbrev pub new_name : List Entry → List ℕ → Span → Answer (List ℕ)
new_name defined name at =
    if may_bind name
    then (if is_none (with_name op_name name operations) && is_none (definition_of name defined) then Ok name else refuse Redefined at)
    else refuse BadForm at

-- ---- definitions of constants and cells

-- what a definition is of: a constant, or a cell that opens with it, and the form of the cell's validator, if it has one
pub record Defining : Type 0 where
  pub sort : Option CellSort
  pub value : Form
  pub validator : Option Form

-- a definition of a literal, and of nothing else
abbrev pub only_literal : Option CellSort → Option Form → Form → Option Defining
only_literal sort validator form = if is_literal form then Some (record { sort = sort; value = form; validator = validator }) else None

-- the cells that forms make, by their names
abbrev pub cell_kind : FormName → Option CellKind
cell_kind kind.Ref = Some Ref
cell_kind kind.Atom = Some Atom
cell_kind kind.Agent = Some Agent
cell_kind _ = None

-- the error mode of this keyword: `:fail` or `:continue`
abbrev pub mode_of : Form → Option ErrorMode
mode_of (leaf (keyword name) at) =
    if bytes_eq name (codes "fail") then Some Fail else (if bytes_eq name (codes "continue") then Some Continue else None)
mode_of form = None

-- whether a form is the keyword `:error-mode`
abbrev pub is_error_mode : Form → Bool
is_error_mode (leaf (keyword name) at) = bytes_eq name (codes "error-mode")
is_error_mode form = false

-- whether a form is the keyword `:validator`
abbrev pub is_validator : Form → Bool
is_validator (leaf (keyword name) at) = bytes_eq name (codes "validator")
is_validator form = false

-- the options of a cell: its error mode, and the form of its validator
pub record Options : Type 0 where
  pub error_mode : Option ErrorMode
  pub validator : Option Form

-- a cell without options
abbrev pub no_options : Options
no_options = record { error_mode = None; validator = None }

-- an error mode behind these options: none stands among them
abbrev pub first_mode : Option ErrorMode → Option ErrorMode → Option Form → Option Options
first_mode None (Some mode) validator = Some (record { error_mode = Some mode; validator = validator })
first_mode _ _ validator = None

-- the same of an agent, which alone has one
abbrev pub with_mode : CellKind → Form → Options → Option Options
with_mode Agent form o = first_mode o.error_mode (mode_of form) o.validator
with_mode _ form o = None

-- a validator behind these options: none stands among them
abbrev pub first_validator : Option Form → Form → Option ErrorMode → Option Options
first_validator None form mode = Some (record { error_mode = mode; validator = Some form })
first_validator (Some other) form mode = None

-- `:validator f` of any cell, or `:error-mode m` of an agent, behind these options
abbrev pub with_option : CellKind → Form → Form → Options → Option Options
with_option k key form o =
    if is_validator key then first_validator o.validator form o.error_mode else (if is_error_mode key then with_mode k form o else None)

-- what is made of these options, if they are such
abbrev pub with_options : {A : Type 0} → Option Options → (Options → Option A) → Option A
with_options (Some o) f = f o
with_options None f = None

-- the options behind these: keywords and forms in turn, in any order, each keyword at most once
abbrev pub options_from : CellKind → Options → Forms → Option Options
options_from k o no_forms = Some o
options_from k o (first key no_forms) = None
options_from k o (first key (first form rest)) = with_options (with_option k key form o) (λ p. options_from k p rest)

-- the options of a cell of this kind, which stand behind its opening value
abbrev pub options_behind : CellKind → Forms → Option Options
options_behind k forms = options_from k no_options forms

-- without an error mode an agent fails (clojure.org/reference/agents)
abbrev pub mode_or_fail : Option ErrorMode → ErrorMode
mode_or_fail None = Fail
mode_or_fail (Some mode) = mode

-- a cell of this kind and these options that opens with this literal
abbrev pub opened : CellKind → Option Options → Form → Option Defining
opened k (Some o) form = only_literal (Some (record { kind = k; error_mode = mode_or_fail o.error_mode })) o.validator form
opened k None form = None

-- `(ref L ..)`, `(atom L ..)` or `(agent L ..)` with this head and these parts
abbrev pub cell_of : Option CellKind → Forms → Option Defining
cell_of (Some k) (first form behind) = opened k (options_behind k behind) form
cell_of _ _ = None

-- the kind of cell that a list makes, by the form at its head
abbrev pub kind_at : Option FormName → Option CellKind
kind_at (Some name) = cell_kind name
kind_at None = None

-- a literal, or what makes a cell that opens with one
abbrev pub defining_of : Form → Option Defining
defining_of (group Round (first head args) at) = cell_of (kind_at (form_at head)) args
defining_of form = only_literal None None form

-- ---- validators

-- between two top-level forms no local is in scope
abbrev pub top_scope : List Entry → Scope
top_scope defined = record { locals = []; defined = defined; current = None }

-- What a validator calls: an operation or a function that is defined before, looked up as what a form on a cell calls. The cell's own name
-- isn't defined there. Each function finds room, as none has more than 1,000 levels.
abbrev pub validator_named : List Entry → Span → Option Form → Answer (Option Callee)
validator_named defined span None = Ok None
validator_named defined span (Some form) = callee_of (top_scope defined) (spot_at (suc most_levels) span true) form >>= λ callee. Ok (Some callee)

-- where a cell's validator stands, or its definition where it has none
abbrev pub validator_place : Span → Option Form → Span
validator_place span None = span
validator_place span (Some form) = place form

-- a cell that opens with this value, and has this validator
abbrev pub new_cell : List ℕ → CellSort → Value → Option Callee → CellDefinition
new_cell name sort v validator = record { kind = sort.kind; name = name; opening = v; error_mode = sort.error_mode; validator = validator }

-- one more constant
abbrev pub with_constant : State → List ℕ → Value → State
with_constant s name v = record {
  defined = s.defined ++ record { name = name; what = Constant v } ∷ [];
  cells = s.cells;
  validator_spans = s.validator_spans;
  functions = s.functions;
  threads = s.threads;
  defs = suc s.defs;
}

-- one more cell, whose number is that of the cells before it
abbrev pub with_cell : State → List ℕ → CellSort → Value → Validation → State
with_cell s name sort v validation = record {
  defined = s.defined ++ record { name = name; what = Cell (record { kind = sort.kind; number = length s.cells }) } ∷ [];
  cells = s.cells ++ new_cell name sort v validation.callee ∷ [];
  validator_spans = s.validator_spans ++ validation.at ∷ [];
  functions = s.functions;
  threads = s.threads;
  defs = suc s.defs;
}

-- one more constant or cell
abbrev pub with_definition : Option CellSort → State → List ℕ → Value → Validation → State
with_definition None s name v validation = with_constant s name v
with_definition (Some sort) s name v validation = with_cell s name sort v validation

-- a definition of this name, for which there is room: the initial value is looked at before the validator, and that before the name
abbrev pub entered : State → List ℕ → Span → Span → Defining → Answer State
entered s name at span d =
    literal most_depth d.value >>= λ v.
    validator_named s.defined span d.validator >>= λ callee.
    new_name s.defined name at >>= λ n.
    Ok (with_definition d.sort s n v (record { callee = callee; at = validator_place span d.validator }))

-- a definition of this name; there are at most 1,000
abbrev pub defined_as_one : State → List ℕ → Span → Span → Option Defining → Answer State
defined_as_one s name at span None = refuse BadForm span
defined_as_one s name at span (Some d) =
    if nat_lt s.defs most_definitions then entered s name at span d else refuse TooMany span

-- `name form`
pub record NamedForm : Type 0 where
  pub name : List ℕ
  pub at : Span
  pub form : Form

-- `name form`, and nothing else
abbrev pub named_form : Forms → Option NamedForm
named_form (first (leaf (symbol name) at) (first form no_forms)) = Some (record { name = name; at = at; form = form })
named_form _ = None

-- a `def` of other parts has another shape, and is refused as a whole
abbrev pub defined_at : State → Span → Option NamedForm → Answer State
defined_at s span None = refuse BadForm span
defined_at s span (Some f) = defined_as_one s f.name f.at span (defining_of f.form)

-- a `def` with these parts
abbrev pub define : State → Span → Forms → Answer State
define s span parts = defined_at s span (named_form parts)

-- ---- functions

-- the name of a parameter after so many: there are at most 20
abbrev pub parameter : ℕ → Form → Answer (List ℕ)
parameter k (leaf (symbol name) at) = if may_bind name then (if nat_lt k most_parameters then Ok name else refuse TooMany at) else refuse BadForm at
parameter k form = refuse BadForm (place form)

-- the names of parameters behind these, the last first
abbrev pub parameters : List (List ℕ) → Forms → Answer (List (List ℕ))
parameters names no_forms = Ok names
parameters names (first p rest) = parameter (length names) p >>= λ n. parameters (n ∷ names) rest

-- each of these is a symbol
abbrev pub are_symbols : Forms → Bool
are_symbols no_forms = true
are_symbols (first p rest) = is_symbol p && are_symbols rest

-- a function's parts: its name, its parameters and its body; a text behind the name tells of it
pub record Written : Type 0 where
  pub name : List ℕ
  pub at : Span
  pub parameters : Forms
  pub body : Forms

-- the parameters and the body behind a function's name
abbrev pub written_behind : List ℕ → Span → Forms → Option Written
written_behind name at (first (group Square params there) body) =
    if are_symbols params then Some (record { name = name; at = at; parameters = params; body = body }) else None
written_behind name at _ = None

-- without the text that tells of a function, if it has one
abbrev pub untold : Forms → Forms
untold (first (leaf (text bytes) at) rest) = rest
untold forms = forms

-- the parts of a `defn`, if they are those of a function
abbrev pub written : Forms → Option Written
written (first (leaf (symbol name) at) rest) = written_behind name at (untold rest)
written _ = None

-- one more function, whose number is that of the functions before it
abbrev pub with_function : State → List ℕ → ℕ → Tree → Span → State
with_function s name n body span = record {
  defined = s.defined ++ record { name = name; what = Function (length s.functions) (levels (known s.functions) body) } ∷ [];
  cells = s.cells;
  validator_spans = s.validator_spans;
  functions = s.functions ++ record { parameters = n; body = body; span = span } ∷ [];
  threads = s.threads;
  defs = s.defs;
}

-- a function; there are at most 1,000. Its parameters are its first locals, and the result of its body is wanted
abbrev pub function : State → Span → Option Written → Answer State
function s span None = refuse BadForm span
function s span (Some w) =
    if nat_lt (length s.functions) most_definitions then (
    new_name s.defined w.name w.at >>= λ name.
    parameters [] w.parameters >>= λ locals.
    named most_levels (record { locals = locals; defined = s.defined; current = Some name }) true (body w.body span) >>= λ node.
    Ok (with_function s name (length locals) node span))
    else refuse TooMany span

-- ---- threads

-- one more thread
abbrev pub with_thread : State → Tree → Span → State
with_thread s body span = record {
  defined = s.defined;
  cells = s.cells;
  validator_spans = s.validator_spans;
  functions = s.functions;
  threads = s.threads ++ record { body = body; span = span } ∷ [];
  defs = s.defs;
}

-- a thread; there are at most 64. The result of its body isn't wanted
abbrev pub future : State → Span → Forms → Answer State
future s span forms =
    if nat_lt (length s.threads) most_threads then (
    named most_levels (record { locals = []; defined = s.defined; current = None }) false (body forms span) >>= λ node.
    Ok (with_thread s node span))
    else refuse TooMany span

-- ---- scripts

-- a list by the form at its head: a definition, a function or a thread; nothing else is there
abbrev pub top_level : Option FormName → State → Span → Forms → Answer State
top_level (Some kind.Def) s span parts = define s span parts
top_level (Some kind.Defn) s span parts = function s span (written parts)
top_level (Some kind.Future) s span parts = future s span parts
top_level _ s span parts = refuse BadForm span

-- a top-level form
abbrev pub step : State → Form → Answer State
step s (group Round (first head parts) at) = top_level (form_at head) s at parts
step s form = refuse BadForm (place form)

-- top-level forms in order
abbrev pub steps : State → List Form → Answer State
steps s [] = Ok s
steps s (form ∷ forms) = step s form >>= λ t. steps t forms

-- the program of a script, or the first refusal met
abbrev pub named_script : List Form → Answer PlainProgram
named_script forms = steps nothing (behind_namespace forms) >>= λ s. Ok (program s)

-- the forms are this program
abbrev pub Resolves : List Form → PlainProgram → Type 0
Resolves forms p = named_script forms ≡ Ok p

-- the forms are no program, for this reason
abbrev pub ResolveStops : List Form → ResolveError → Type 0
ResolveStops forms e = named_script forms ≡ Err e

-- there was no memory for the program: this has no place among the forms
abbrev pub no_memory : ResolveError
no_memory = record { kind = Memory; at = record { from = 0; to = 0 } }
