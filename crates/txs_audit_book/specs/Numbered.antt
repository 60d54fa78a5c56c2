-- The cells of a kind.
use Rattle.std.specs.Prelude.{ℕ, suc, List, [], ◌∷◌, if◌then◌else◌}
use Rattle.txs_value_cell.specs.Forms.{same_kind}
use Rattle.txs_value_cell.specs.declared.cell.CellDefinition.{CellDefinition}
use Rattle.txs_value_data.specs.declared.value.CellId.{CellId}
use Rattle.txs_value_data.specs.declared.value.CellKind.{CellKind}

-- the cells of this kind from the n-th on, in their order
abbrev pub of_kind : CellKind → ℕ → List CellDefinition → List CellId
of_kind k n [] = []
of_kind k n (d ∷ ds) = if same_kind d.kind k then record { kind = k; number = n } ∷ of_kind k (suc n) ds else of_kind k (suc n) ds
