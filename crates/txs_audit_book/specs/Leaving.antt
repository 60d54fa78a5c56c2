-- What the store's book leaves.
use Rattle.std.specs.Prelude.{Bool, false, Option, Some, None}
use Rattle.txs_value_data.specs.declared.value.Value.{Value}
use Rattle.txs_world_protocol.specs.Ask.{same_value}

-- whether there is a value, and it is this one
abbrev pub same_newest : Option Value → Value → Bool
same_newest None v = false
same_newest (Some w) v = same_value w v
