-- Which values the forms on cells take.
use Rattle.std.specs.Prelude.{ℕ, Result, Ok, Err, zero, suc, List, [], ◌∷◌, map, Option, None}
use Rattle.txs_value_data.specs.declared.fault.FaultKind.{FaultKind}
use Rattle.txs_value_data.specs.declared.fault.FaultKind.TheVariants.{NotARef}
use Rattle.txs_value_data.specs.declared.value.CellId.{CellId}
use Rattle.txs_value_data.specs.declared.value.CellKind.{CellKind}
use Rattle.txs_value_data.specs.declared.value.CellKind.TheVariants.{Ref, Atom, Agent}
use Rattle.txs_value_data.specs.declared.value.Value.{Value}
use Rattle.txs_value_data.specs.declared.value.Value.TheVariants.{Cell}
use Rattle.txs_value_cell.specs.declared.cell.CellDefinition.{CellDefinition}
use Rattle.txs_value_data.specs.declared.op.Callee.{Callee}

-- a value for each cell, by the cell's number
abbrev pub World : Type 0
World = ℕ → Value

-- a cell that is a ref; another is this fault
abbrev pub of_kind_ref : FaultKind → CellKind → CellId → Result CellId FaultKind
of_kind_ref k Ref c = Ok c
of_kind_ref k Atom c = Err k
of_kind_ref k Agent c = Err k

-- a form for refs takes a ref
abbrev pub ref_cell : Value → Result CellId FaultKind
ref_cell (Cell c) = of_kind_ref NotARef c.kind c
ref_cell _ = Err NotARef

-- the validator of each cell, by number; none where any value may be written
abbrev pub Validators : Type 0
Validators = List (Option Callee)

-- the validators that these definitions name
abbrev pub validators_of : List CellDefinition → Validators
validators_of ds = map (λ d. d.validator) ds

-- the validator of the cell with this number, if it has one
abbrev pub validator_at : Validators → ℕ → Option Callee
validator_at [] k = None
validator_at (f ∷ fs) zero = f
validator_at (f ∷ fs) (suc k) = validator_at fs k
