-- What stands behind a line on the standard error where it is explained.
use Rattle.std.specs.Prelude.{ℕ, List, [], ◌∷◌, ◌++◌, Option, Some, None, codes, decimal}
use Rattle.txs_reader.specs.Place.{line_number, column_number}
use Rattle.txs_reader.specs.Pointed.{pointed}
use Rattle.txs_value_data.specs.declared.fault.Span.{Span}

-- the line and the column of an offset of a text, each behind a colon
abbrev pub place_in : List ℕ → ℕ → List ℕ
place_in text offset = codes ":" ++ decimal (line_number text offset) ++ codes ":" ++ decimal (column_number text offset)

-- the same of where a span begins, if there is one
abbrev pub place_where : List ℕ → Option Span → List ℕ
place_where text None = []
place_where text (Some at) = place_in text at.from

-- the two lines that point to a span, if there is one
abbrev pub shown_where : List ℕ → Option Span → List ℕ
shown_where text None = []
shown_where text (Some at) = pointed text at.from at.to

-- a line with the name of a file, the place, if there is one, and what to do; and behind it the lines that point to the place
abbrev pub explained : List ℕ → List ℕ → Option Span → List ℕ → List ℕ
explained file text at advice = file ++ place_where text at ++ codes ": " ++ advice ++ codes "\n" ++ shown_where text at
