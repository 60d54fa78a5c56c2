-- Which values are logically true.
use Rattle.std.specs.Prelude.{true, false}
use Rattle.txs_value_data.specs.declared.value.Value.{Value}
use Rattle.txs_value_data.specs.declared.value.Value.TheVariants.{Nil, Truth, Int, Key, Text, Vector, Cell}

-- only nil and false are logically false: the first for any other value, the second for these
abbrev pub choose : {A : Type 0} → Value → A → A → A
choose Nil a b = b
choose (Truth false) a b = b
choose (Truth true) a b = a
choose (Int z) a b = a
choose (Key bs) a b = a
choose (Text bs) a b = a
choose (Vector vs) a b = a
choose (Cell c) a b = a
