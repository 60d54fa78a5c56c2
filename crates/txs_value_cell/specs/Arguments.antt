-- The arguments of an action as a list, however they are kept.
use Rattle.std.specs.Prelude.{List, [], ◌∷◌}
use Rattle.txs_value_data.specs.declared.value.Value.{Value}
use Rattle.txs_value_cell.specs.declared.arguments.Kept.{Kept}
use Rattle.txs_value_cell.specs.declared.arguments.Kept.TheVariants.{Nothing, One, Several}

-- the values that are kept
abbrev pub listed : Kept → List Value
listed Nothing = []
listed (One v) = v ∷ []
listed (Several vs) = vs.value.items
