-- The values of constants in a row, one after the other.
use Rattle.std.proofs.Common.{◌+◌, List, ◌++◌, Option, Some, None}
use Rattle.txs_value_data.specs.declared.value.Value.{Value}

-- values in front of those that may be there
abbrev pub in_front : List Value → Option (List Value) → Option (List Value)
in_front vs None = None
in_front vs (Some ws) = Some (vs ++ ws)
