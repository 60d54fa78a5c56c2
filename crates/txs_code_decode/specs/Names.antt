-- The names that code may have.
use Rattle.std.specs.Prelude.{ℕ, Bool, true, false, not, ◌==◌, ◌||◌, ◌&&◌, List, [], ◌∷◌, bytes_eq, codes}
use Rattle.std.specs.Char.{is_ascii_digit}
use Rattle.std.specs.List.{list_all}
use Rattle.txs_value_data.specs.Names.{is_symbol_byte}

-- bytes that begin with a digit
abbrev pub begins_with_digit : List ℕ → Bool
begins_with_digit [] = false
begins_with_digit (b ∷ bs) = is_ascii_digit b

-- bytes that the reader reads as a number: they begin with a digit, or with a sign and a digit
unfoldable pub begins_number : List ℕ → Bool
begins_number [] = false
begins_number (b ∷ bs) = is_ascii_digit b || ((b == 43 || b == 45) && begins_with_digit bs)

-- bytes that begin with `'` or a dot, as no symbol does
unfoldable pub begins_foreign : List ℕ → Bool
begins_foreign [] = false
begins_foreign (b ∷ bs) = b == 39 || b == 46

-- the words that the reader reads as values
unfoldable pub is_literal_word : List ℕ → Bool
is_literal_word bs = bytes_eq bs (codes "nil") || bytes_eq bs (codes "true") || bytes_eq bs (codes "false")

-- the bytes that name a keyword, without its colon: symbol characters
abbrev pub names_keyword : List ℕ → Bool
names_keyword bs = list_all is_symbol_byte bs

-- the bytes that name a cell: those of a symbol, as the reader reads one
unfoldable pub names_cell : List ℕ → Bool
names_cell bs = list_all is_symbol_byte bs && not (begins_number bs) && not (begins_foreign bs) && not (is_literal_word bs)

-- the test of a name: a cell's, or else a keyword's
abbrev pub name_test : Bool → List ℕ → Bool
name_test true = names_cell
name_test false = names_keyword
