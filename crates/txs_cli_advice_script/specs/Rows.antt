-- Tables: rows of words or of bytes, each with what is said of them.
use Rattle.std.specs.Prelude.{ℕ, Bool, ◌==◌, if◌then◌else◌, List, [], ◌∷◌, Option, Some, None}
use Rattle.std.specs.List.{list_any, slice_split, flat_map}
use Rattle.std.specs.Str.{bytes_eq}

-- the words of a row, which have a space between each two
abbrev pub words : List ℕ → List (List ℕ)
words row = slice_split (λ b. b == 32) row

-- all words of these rows
unfoldable pub words_of : List (List ℕ) → List (List ℕ)
words_of rows = flat_map words rows

-- whether a word is one of a row's
unfoldable pub has_word : List ℕ → List ℕ → Bool
has_word row word = list_any (λ it. bytes_eq it word) (words row)

-- what the first row that has the word says, or this where none has it
unfoldable pub said_in : {U : Type 0} → List (List ℕ × U) → List ℕ → U → U
said_in [] word otherwise = otherwise
said_in (row ∷ rows) word otherwise = if has_word row.0 word then row.1 else said_in rows word otherwise

-- whether a row has one of these bytes
unfoldable pub has_byte : List ℕ → List ℕ → Bool
has_byte row bytes = list_any (λ byte. list_any (λ it. it == byte) bytes) row

-- what the first row that has one of these bytes says
unfoldable pub said_of : List (List ℕ × List ℕ) → List ℕ → Option (List ℕ)
said_of [] bytes = None
said_of (row ∷ rows) bytes = if has_byte row.0 bytes then Some row.1 else said_of rows bytes
