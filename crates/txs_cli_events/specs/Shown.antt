-- A value as a person types it in Clojure, in one line.
use Rattle.std.specs.Prelude.{ℕ, ◌/◌, ◌%◌, nat_lt, ◌==◌, ◌||◌, if◌then◌else◌, List, [], ◌∷◌, ◌++◌, Option, Some, None, codes}
use Rattle.std.specs.Char.{digit_char}
use Rattle.std.specs.List.{flat_map}
use Rattle.txs_value_data.specs.PlainValue.{PlainValue, nil, truth, int, key, text, vector, cell, PlainValues, end, more}
use Rattle.txs_value_data.specs.Printed.{printed}

-- the letter that is written for this byte behind a backslash: of a backspace, a tab, a line feed, a form feed, a carriage return, a quote and a backslash
unfoldable pub letter_of : ℕ → Option ℕ
letter_of b =
    if b == 8 then Some 98 else if b == 9 then Some 116 else if b == 10 then Some 110 else if b == 12 then Some 102
    else if b == 13 then Some 114 else if b == 34 then Some 34 else if b == 92 then Some 92 else None

-- a digit in base 16: the last of a number
abbrev pub digit : ℕ → ℕ
digit n = digit_char (n % 16)

-- a byte without such a letter: a control character by its number, any other byte as it is
unfoldable pub by_number : ℕ → List ℕ
by_number b = if nat_lt b 32 || b == 127 then 92 ∷ 117 ∷ 48 ∷ 48 ∷ digit (b / 16) ∷ digit b ∷ [] else b ∷ []

-- a byte, by its letter if it has one
abbrev pub escaped_by : Option ℕ → ℕ → List ℕ
escaped_by (Some letter) b = 92 ∷ letter ∷ []
escaped_by None b = by_number b

-- a byte of a text as it is written between quotes
abbrev pub escaped : ℕ → List ℕ
escaped b = escaped_by (letter_of b) b

-- a text between quotes
abbrev pub quoted : List ℕ → List ℕ
quoted bytes = codes "\"" ++ flat_map escaped bytes ++ codes "\""

-- A value as `println` writes it, but each text between quotes.
abbrev mutual
  pub shown : PlainValue → List ℕ
  shown (text bytes) = quoted bytes
  shown (vector ds) = codes "[" ++ items_shown ds ++ codes "]"
  shown nil = printed nil
  shown (truth b) = printed (truth b)
  shown (int z) = printed (int z)
  shown (key bytes) = printed (key bytes)
  shown (cell c) = printed (cell c)

  -- the items with a space between each two
  pub items_shown : PlainValues → List ℕ
  items_shown end = []
  items_shown (more d ds) = shown d ++ later_shown ds

  -- the items behind the first, each with a space before it
  pub later_shown : PlainValues → List ℕ
  later_shown end = []
  later_shown (more d ds) = codes " " ++ shown d ++ later_shown ds
