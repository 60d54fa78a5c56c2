-- The lines that tell of cells.
use Rattle.std.specs.Prelude.{ℕ, suc, List, [], ◌∷◌, ◌++◌}
use Rattle.txs_value_data.specs.Printed.{printed}
use Rattle.txs_value_data.specs.View.{plain_of}
use Rattle.txs_value_cell.specs.declared.cell.CellDefinition.{CellDefinition}
use Rattle.txs_value_data.specs.declared.value.CellId.{CellId}
use Rattle.txs_value_data.specs.declared.value.Value.{Value}

-- a cell's line: its name, a space, its value, and a newline
abbrev pub cell_line : List ℕ → Value → List ℕ
cell_line name v = name ++ 32 ∷ printed (plain_of v) ++ 10 ∷ []

-- the lines of cells with these values, in the order of their numbers, of which the first has this one
abbrev pub cell_lines : (CellId → Value) → ℕ → List CellDefinition → List ℕ
cell_lines w n [] = []
cell_lines w n (d ∷ ds) = cell_line d.name (w (record { kind = d.kind; number = n })) ++ cell_lines w (suc n) ds
