-- What is held of a transaction.
use Rattle.std.specs.Prelude.{ℕ, Bool, ◌||◌, List}
use Rattle.txs_frame.specs.Frame.{has_number}
use Rattle.txs_value_data.specs.declared.value.CellId.{CellId}

-- whether a number is among those of refs that were set or of those that were ensured
abbrev pub is_among : List CellId → List CellId → ℕ → Bool
is_among sets ensures k = has_number sets k || has_number ensures k
