-- What the top-level forms of a script define, told of each form alone: its cell and where that has its validator, its name, and where
-- functions and threads stand.
use Rattle.std.specs.Prelude.{◌≢◌, ℕ, List, [], ◌∷◌, ◌++◌, Option, Some, None, Ok, Err}
use Rattle.txs_value_data.specs.Limits.{most_depth}
use Rattle.txs_value_cell.specs.declared.cell.CellDefinition.{CellDefinition}
use Rattle.txs_value_data.specs.declared.fault.Span.{Span}
use Rattle.txs_value_data.specs.declared.value.Value.{Value}
use Rattle.txs_reader.specs.declared.form.Bracket.TheVariants.{Round}
use Rattle.txs_reader.specs.Tree.{PlainForm as Form, PlainForms as Forms, group, first}
use Rattle.txs_resolve_expand.specs.declared.names.FormName.{FormName}
use Rattle.txs_resolve_expand.specs.declared.names.FormName.TheVariants as kind
use Rattle.txs_resolve.specs.declared.definition.CellSort.{CellSort}
use Rattle.txs_resolve_expand.specs.Expansions.{form_at}
use Rattle.txs_resolve_expand.specs.Expressions.{Answer}
use Rattle.txs_resolve.specs.Literals.{literal}
use Rattle.txs_resolve.specs.Names.{Defining, defining_of, NamedForm, named_form, new_cell, validator_place, Written, written}

-- A cell without its validator: what that calls is told by what is defined before.
abbrev pub unvalidated : CellDefinition → CellDefinition
unvalidated c = record { kind = c.kind; name = c.name; opening = c.opening; error_mode = c.error_mode; validator = None }

-- what top-level forms define: cells without their validators, where these stand, names, and the places of functions and of threads, each in
-- script order
pub record Definitions : Type 0 where
  pub cells : List CellDefinition
  pub validator_spans : List Span
  pub names : List (List ℕ)
  pub functions : List Span
  pub threads : List Span

-- nothing
abbrev pub no_definitions : Definitions
no_definitions = record { cells = []; validator_spans = []; names = []; functions = []; threads = [] }

-- the cell of this name that opens with this value, where there is one
abbrev pub opening_cell : List ℕ → CellSort → Answer Value → List CellDefinition
opening_cell name sort (Ok v) = new_cell name sort v None ∷ []
opening_cell name sort (Err e) = []

-- the cell that a definition is of; a constant is none
abbrev pub cell_as : List ℕ → Option CellSort → Form → List CellDefinition
cell_as name (Some sort) value = opening_cell name sort (literal most_depth value)
cell_as name None value = []

-- where the validator of that cell stands, or the definition at this place where it has none
abbrev pub span_as : Span → Option CellSort → Option Form → List Span
span_as at (Some sort) validator = validator_place at validator ∷ []
span_as at None validator = []

-- a `def` of this name
abbrev pub def_of : List ℕ → Option Defining → Span → Definitions
def_of name (Some d) at = record { cells = cell_as name d.sort d.value; validator_spans = span_as at d.sort d.validator; names = name ∷ []; functions = []; threads = [] }
def_of name None at = no_definitions

-- a `def` of this shape
abbrev pub def_as : Option NamedForm → Span → Definitions
def_as (Some f) at = def_of f.name (defining_of f.form) at
def_as None at = no_definitions

-- a `defn` of this shape
abbrev pub defn_as : Option Written → Span → Definitions
defn_as (Some w) at = record { cells = []; validator_spans = []; names = w.name ∷ []; functions = at ∷ []; threads = [] }
defn_as None at = no_definitions

-- a list, by the form at its head
abbrev pub listed_as : Option FormName → Forms → Span → Definitions
listed_as (Some kind.Def) parts at = def_as (named_form parts) at
listed_as (Some kind.Defn) parts at = defn_as (written parts) at
listed_as (Some kind.Future) parts at = record { cells = []; validator_spans = []; names = []; functions = []; threads = at ∷ [] }
listed_as _ parts at = no_definitions

-- what a top-level form defines
abbrev pub defines : Form → Definitions
defines (group Round (first head parts) at) = listed_as (form_at head) parts at
defines form = no_definitions

-- these, and behind them those
abbrev pub and_then : Definitions → Definitions → Definitions
and_then a b = record {
  cells = a.cells ++ b.cells;
  validator_spans = a.validator_spans ++ b.validator_spans;
  names = a.names ++ b.names;
  functions = a.functions ++ b.functions;
  threads = a.threads ++ b.threads;
}

-- what all of these define, in order
abbrev pub define_all : List Form → Definitions
define_all [] = no_definitions
define_all (form ∷ forms) = and_then (defines form) (define_all forms)

-- none of these is this name
abbrev pub IsNew : List ℕ → List (List ℕ) → Type 0
IsNew name [] = Unit {0}
IsNew name (n ∷ ns) = (n ≢ name) × IsNew name ns

-- no name stands twice
abbrev pub AllDiffer : List (List ℕ) → Type 0
AllDiffer [] = Unit {0}
AllDiffer (n ∷ ns) = IsNew n ns × AllDiffer ns
