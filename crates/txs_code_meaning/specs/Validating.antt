-- Whether a cell has a validator.
use Rattle.std.specs.List.{list_any}
use Rattle.std.specs.Prelude.{Bool, List, is_some}
use Rattle.txs_value_cell.specs.declared.cell.CellDefinition.{CellDefinition}

-- a cell has a validator
abbrev pub is_validated : CellDefinition → Bool
is_validated c = is_some c.validator

-- one of these cells has a validator
abbrev pub has_validator : List CellDefinition → Bool
has_validator cells = list_any is_validated cells
