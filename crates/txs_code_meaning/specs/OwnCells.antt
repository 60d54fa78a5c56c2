-- Code that names its own cells alone.
use Rattle.std.specs.Prelude.{◌≡◌, ℕ, zero, suc, List, [], ◌∷◌, Option, Some, None}
use Rattle.txs_value_data.specs.PlainValue.{PlainValue, nil, truth, int, key, text, vector, cell, PlainValues, end, more}
use Rattle.txs_value_data.specs.View.{plain_of}
use Rattle.txs_value_cell.specs.declared.cell.CellDefinition.{CellDefinition}
use Rattle.txs_value_data.specs.declared.value.CellId.{CellId}
use Rattle.txs_value_data.specs.declared.value.CellKind.{CellKind}
use Rattle.txs_value_data.specs.declared.value.Value.{Value}
use Rattle.txs_code_meaning.specs.PlainCode.{PlainCode}

-- the kind of the cell with a number, if it is defined
abbrev pub kind_at : List CellDefinition → ℕ → Option CellKind
kind_at [] n = None
kind_at (d ∷ ds) zero = Some d.kind
kind_at (d ∷ ds) (suc n) = kind_at ds n

-- a cell is one of the defined ones, and of its kind
abbrev pub IsDefined : List CellDefinition → CellId → Type 0
IsDefined cells c = kind_at cells c.number ≡ Some c.kind

-- each cell inside a plain value is one of the defined ones, and of its kind
abbrev mutual
  pub HoldsDefined : List CellDefinition → PlainValue → Type 0
  HoldsDefined cells nil = Unit {0}
  HoldsDefined cells (truth b) = Unit {0}
  HoldsDefined cells (int z) = Unit {0}
  HoldsDefined cells (key bs) = Unit {0}
  HoldsDefined cells (text bs) = Unit {0}
  HoldsDefined cells (vector ds) = RowHoldsDefined cells ds
  HoldsDefined cells (cell c) = IsDefined cells c

  -- so inside each of these
  pub RowHoldsDefined : List CellDefinition → PlainValues → Type 0
  RowHoldsDefined cells end = Unit {0}
  RowHoldsDefined cells (more d ds) = HoldsDefined cells d × RowHoldsDefined cells ds

-- each cell in a value, also inside vectors, is one of the defined ones, and of its kind
abbrev pub NamesDefined : List CellDefinition → Value → Type 0
NamesDefined cells v = HoldsDefined cells (plain_of v)

-- so in each of these values
abbrev pub NameDefined : List CellDefinition → List Value → Type 0
NameDefined cells [] = Unit {0}
NameDefined cells (v ∷ vs) = NamesDefined cells v × NameDefined cells vs

-- a value in which is no cell: where none is defined, it names defined cells alone
abbrev pub NamesNone : Value → Type 0
NamesNone v = NamesDefined [] v

-- no value that one of these cells opens with has a cell in it
abbrev pub OpeningsNameNone : List CellDefinition → Type 0
OpeningsNameNone [] = Unit {0}
OpeningsNameNone (d ∷ ds) = NamesNone d.opening × OpeningsNameNone ds

-- Each cell in a constant, also inside vectors, is one of the code's cells and of its kind, and no value that a cell opens with has a
-- cell in it. Instructions name cells by constants alone.
pub record NamesOwnCells (code : PlainCode) : Type 0 where
  pub constants : NameDefined code.cells code.constants
  pub openings : OpeningsNameNone code.cells
