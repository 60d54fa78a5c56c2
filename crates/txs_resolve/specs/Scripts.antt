-- What a script has defined so far, as plain data.
use Rattle.std.specs.Prelude.{◌≡◌, ◌≤◌, ℕ, List, [], ◌∷◌, length, map, true, Option, Some, None, Ok}
use Rattle.std.specs.Borrow.{Bor}
use Rattle.txs_reader.specs.declared.form.Form.{Form as AForm}
use Rattle.txs_reader.specs.Tree.{PlainForm as Form, PlainForms as Forms, tree, trees, trees_of}
use Rattle.txs_tree_meaning.specs.Known.{Known, known}
use Rattle.txs_tree_meaning.specs.Scoped.{ScopedCells, ScopedFunctions, ScopedThreads}
use Rattle.txs_tree_meaning.specs.View.{functions_of, threads_of}
use Rattle.txs_value_data.specs.Limits.{most_definitions, most_levels, most_threads}
use Rattle.txs_value_data.specs.Places.{nth}
use Rattle.txs_value_data.specs.declared.fault.Span.{Span}
use Rattle.txs_resolve_expand.specs.declared.scope.Definition.{Definition}
use Rattle.txs_resolve_expand.specs.declared.scope.Definition.TheVariants.{Constant, Cell, Function}
use Rattle.txs_resolve.specs.declared.definition.CellOptions.{CellOptions}
use Rattle.txs_resolve.specs.declared.definition.Opening.{Opening}
use Rattle.txs_resolve.specs.declared.script.Script.{Script}
use Rattle.txs_resolve.specs.declared.script.Signature.{Signature}
use Rattle.txs_resolve.specs.Names.{State, Defining, Options, Written, NamedForm, with_function}
use Rattle.txs_resolve_expand.specs.Scope.{Entry, with_locals}
use Rattle.txs_resolve_expand.specs.Answers.{◌>>=◌}
use Rattle.txs_resolve_expand.specs.Expansions.{body}
use Rattle.txs_resolve_expand.specs.Expressions.{Answer, named}

-- what a script has defined so far, as the resolver keeps it
abbrev pub state_of : Script → State
state_of s = record {
  defined = s.scope.defined;
  cells = s.cells.items;
  validator_spans = s.validator_spans.items;
  functions = functions_of s.functions.items;
  threads = threads_of s.threads.items;
  defs = s.defs;
}

-- a function that is defined is known, with its levels
abbrev pub IsKnown : List Known → Definition → Type 0
IsKnown ks (Constant v) = Unit {0}
IsKnown ks (Cell c) = Unit {0}
IsKnown ks (Function n levels) = (k : Known) × (nth ks n ≡ Some k) × (k.levels ≡ levels)

-- what is known of functions agrees with each of these definitions
abbrev pub AreKnown : List Known → List Entry → Type 0
AreKnown ks [] = Unit {0}
AreKnown ks (e ∷ es) = IsKnown ks e.what × AreKnown ks es

-- what is defined so far is scoped, and keeps the limits
pub record ScopedState (s : State) : Type 0 where
  pub functions : ScopedFunctions [] s.functions
  pub threads : ScopedThreads (known s.functions) s.threads
  pub cells : ScopedCells (known s.functions) s.cells
  pub known : AreKnown (known s.functions) s.defined
  pub placed : length s.validator_spans ≡ length s.cells
  pub few_cells : length s.cells ≤ s.defs
  pub few_defs : s.defs ≤ most_definitions
  pub few_functions : length s.functions ≤ most_definitions
  pub few_threads : length s.threads ≤ most_threads

-- between two top-level forms no local is in scope, and the levels of the functions are known
pub record IsScript (s : Script) : Type 0 where
  pub outside : s.scope.locals ≡ []
  pub idle : s.scope.current ≡ None
  pub levels : s.levels.items ≡ map (λ k. k.levels) (known (functions_of s.functions.items))
  pub scoped : ScopedState (state_of s)

-- the same script with no local in scope
abbrev pub at_top : Script → Script
at_top s = record { scope = with_locals [] s.scope; cells = s.cells; validator_spans = s.validator_spans; functions = s.functions; threads = s.threads; levels = s.levels; defs = s.defs }

-- a function of this name, with these locals as its parameters, whose body is these forms
abbrev pub function_with : List (List ℕ) → State → List ℕ → Span → Forms → Answer State
function_with locals s name span forms =
    named most_levels (record { locals = locals; defined = s.defined; current = Some name }) true (body forms span) >>= λ node.
    Ok (with_function s name (length locals) node span)

-- a form that was found, if one was
abbrev pub form_in : Option (Bor AForm) → Option Form
form_in None = None
form_in (Some f) = Some (tree f.now)

-- the options of a cell, as the definition sees them
abbrev pub options_as : CellOptions → Options
options_as o = record { error_mode = o.error_mode; validator = form_in o.validator }

-- the options that were found, if there are such
abbrev pub options_in : Option CellOptions → Option Options
options_in None = None
options_in (Some o) = Some (options_as o)

-- what a definition is of, with its literal and its validator as the definition sees them
abbrev pub opened_as : Opening → Defining
opened_as d = record { sort = d.sort; value = tree d.value.now; validator = form_in d.validator }

-- what a definition is of, if it is one
abbrev pub defining : Option Opening → Option Defining
defining None = None
defining (Some d) = Some (opened_as d)

-- the parts of a function that were found, if they were
abbrev pub written_in : Option Signature → Option Written
written_in None = None
written_in (Some s) = Some (record { name = s.name.now; at = s.at; parameters = trees_of (trees s.parameters.now); body = trees_of (trees s.body.now) })

-- a name and a form that were found, if they were
abbrev pub name_and_form : Option (Bor (List ℕ) × Span × Bor AForm) → Option NamedForm
name_and_form None = None
name_and_form (Some f) = Some (record { name = f.0.now; at = f.1; form = tree f.2.now })
