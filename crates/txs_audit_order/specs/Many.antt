-- How many cells are of a kind.
use Rattle.std.specs.Prelude.{ℕ, ◌+◌, List, [], ◌∷◌, if◌then◌else◌}
use Rattle.txs_value_cell.specs.Forms.{same_kind}
use Rattle.txs_value_cell.specs.declared.cell.CellDefinition.{CellDefinition}
use Rattle.txs_value_data.specs.declared.value.CellKind.{CellKind}

-- how many of these cells are of this kind
abbrev pub many_of : CellKind → List CellDefinition → ℕ
many_of k [] = 0
many_of k (d ∷ ds) = (if same_kind d.kind k then 1 else 0) + many_of k ds
