-- Values, whose items are data already, as data.
use Rattle.std.specs.Prelude.{List, Option, Some, None, map}
use Rattle.txs_value_data.specs.PlainValue.{PlainValue, nil, truth, int, key, text, vector, cell, plain_row, plain_list}
use Rattle.txs_value_data.specs.declared.value.Value.{Value}
use Rattle.txs_value_data.specs.declared.value.Value.TheVariants.{Nil, Truth, Int, Key, Text, Vector, Cell}

-- a value as plain data
abbrev pub plain_of : Value → PlainValue
plain_of Nil = nil
plain_of (Truth b) = truth b
plain_of (Int z) = int z
plain_of (Key bs) = key bs
plain_of (Text bs) = text bs
plain_of (Vector ds) = vector (plain_row ds)
plain_of (Cell c) = cell c

-- the values of a list as plain data
abbrev pub plains_of : List Value → List PlainValue
plains_of vs = map plain_of vs

-- the value that a plain value is, one level opened
abbrev pub value_of : PlainValue → Value
value_of nil = Nil
value_of (truth b) = Truth b
value_of (int z) = Int z
value_of (key bs) = Key bs
value_of (text bs) = Text bs
value_of (vector ds) = Vector (plain_list ds)
value_of (cell c) = Cell c

-- the items of the vector that a value is, none where it is no vector
abbrev pub vector_items : Value → Option (List PlainValue)
vector_items (Vector ds) = Some ds
vector_items _ = None
