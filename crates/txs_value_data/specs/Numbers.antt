-- Numbers, and lists of numbers alone.
use Rattle.std.specs.Prelude.{List, [], ◌∷◌}
use Rattle.txs_value_data.specs.PlainValue.{PlainValue, int}

-- a number
abbrev pub IsNumber : PlainValue → Type 0
IsNumber (int z) = Unit {0}
IsNumber _ = ⊥

-- each item is a number
abbrev pub AreNumbers : List PlainValue → Type 0
AreNumbers [] = Unit {0}
AreNumbers (d ∷ ds) = IsNumber d × AreNumbers ds
