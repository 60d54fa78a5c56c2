-- What a value prints as.
use Rattle.std.specs.Prelude.{◌≡◌, ℕ, zero, suc, List, [], ◌∷◌, ◌++◌, codes, decimal, true, false}
use Rattle.std.specs.Fmt.{signed_decimal}
use Rattle.txs_value_data.specs.PlainValue.{PlainValue, nil, truth, int, key, text, vector, cell, PlainValues, end, more, plain_row}
use Rattle.txs_value_data.specs.View.{plains_of}
use Rattle.txs_value_data.specs.declared.value.CellKind.{CellKind}
use Rattle.txs_value_data.specs.declared.value.CellKind.TheVariants.{Ref, Atom, Agent}
use Rattle.txs_value_data.specs.declared.value.Value.{Value}

-- what is before the number of a cell, by its kind
abbrev pub kind_printed : CellKind → List ℕ
kind_printed Ref = codes "#ref["
kind_printed Atom = codes "#atom["
kind_printed Agent = codes "#agent["

-- what is before the i-th item
abbrev pub gap : ℕ → List ℕ
gap zero = []
gap (suc n) = codes " "

-- the text of a value, as `println` writes it: a text without quotes, a keyword with its colon
abbrev mutual
  pub printed : PlainValue → List ℕ
  printed nil = codes "nil"
  printed (truth true) = codes "true"
  printed (truth false) = codes "false"
  printed (int z) = signed_decimal z
  printed (key bs) = codes ":" ++ bs
  printed (text bs) = bs
  printed (vector ds) = codes "[" ++ items_printed ds ++ codes "]"
  printed (cell c) = kind_printed c.kind ++ decimal c.number ++ codes "]"

  -- the items with a space between each two
  pub items_printed : PlainValues → List ℕ
  items_printed end = []
  items_printed (more d ds) = printed d ++ later_printed ds

  -- the items behind the first, each with a space before it
  pub later_printed : PlainValues → List ℕ
  later_printed end = []
  later_printed (more d ds) = codes " " ++ printed d ++ later_printed ds

-- the new list is the old one with more behind it
pub record Extends (old new : List ℕ) : Type 0 where
  pub more : List ℕ
  pub is : new ≡ old ++ more

-- what `println` writes of its arguments: one space between them, then a newline
abbrev pub printed_line : List Value → List ℕ
printed_line vs = items_printed (plain_row (plains_of vs)) ++ 10 ∷ []
