-- The byte form of names, texts and values.
use Rattle.std.specs.Prelude.{ℕ, zero, suc, ◌<◌, Bool, true, false, nat_lt, nat_le, List, [], ◌∷◌, ◌++◌, length, slice_index_or, Option, Some, None}
use Rattle.std.specs.Int.{w16, w64, to_be_bytes}
use Rattle.std.specs.Str.{is_utf8}
use mir.Val.{to_z, of_z}
use Rattle.txs_value_data.specs.PlainValue.{PlainValue, nil, truth, int, key, text, vector, cell, PlainValues, end, more, plain_row, plain_list}
use Rattle.txs_value_data.specs.declared.value.CellKind.{CellKind}
use Rattle.txs_value_data.specs.declared.value.CellKind.TheVariants.{Ref}
use Rattle.txs_code_decode.specs.declared.error.CodeErrorKind.{CodeErrorKind}
use Rattle.txs_code_decode.specs.declared.error.CodeErrorKind.TheVariants.{BadOpcode, BadOperand, TooLarge}
use Rattle.txs_code_decode.specs.declared.tag.Tag.{Tag}
use Rattle.txs_code_decode.specs.declared.tag.Tag.TheVariants as tag
use Rattle.txs_code_decode.specs.Format.{Test, Format, byte, some_bytes, number, tested, one_of, only, never, pair, mapped, counted, tagged}
use Rattle.txs_code_decode.specs.Names.{names_keyword, names_cell}

-- ---- tests

-- where the test fails, the field is refused so
abbrev pub must : CodeErrorKind → Bool → Option CodeErrorKind
must kind true = None
must kind false = Some kind

-- a number below another
abbrev pub below : ℕ → Test ℕ
below n k = must BadOperand (nat_lt k n)

-- a count of at most so many
abbrev pub at_most : ℕ → Test ℕ
at_most n k = must TooLarge (nat_le k n)

-- ---- names and texts

-- a byte of length, which isn't 0, and so many bytes, of which this test holds
abbrev pub name_over : (List ℕ → Bool) → Format (List ℕ)
name_over test =
    mapped (λ p. p.1) (λ bs. (length bs, bs)) (pair (tested byte (λ n. must BadOperand (nat_lt 0 n))) (λ n. tested (some_bytes n) (λ bs. must BadOperand (test bs))))

-- the name of a keyword
unfoldable pub keyword_format : Format (List ℕ)
keyword_format = name_over names_keyword

-- the name of a cell
unfoldable pub cell_name_format : Format (List ℕ)
cell_name_format = name_over names_cell

-- a length, and so many bytes of UTF-8
unfoldable pub text_format : Format (List ℕ)
text_format = mapped (λ p. p.1) (λ bs. (length bs, bs)) (pair (number w16) (λ n. tested (some_bytes n) (λ bs. must BadOperand (is_utf8 bs))))

-- ---- values

-- the tags of values, each at the place that is its byte
abbrev pub tags : List Tag
tags = tag.Nil ∷ tag.False ∷ tag.True ∷ tag.Int ∷ tag.Key ∷ tag.Text ∷ tag.Vector ∷ tag.Cell ∷ []

-- the byte of a tag
abbrev pub tag_byte : Tag → ℕ
tag_byte tag.Nil = 0
tag_byte tag.False = 1
tag_byte tag.True = 2
tag_byte tag.Int = 3
tag_byte tag.Key = 4
tag_byte tag.Text = 5
tag_byte tag.Vector = 6
tag_byte tag.Cell = 7

-- the tag of a value
abbrev pub tag_of : PlainValue → Tag
tag_of nil = tag.Nil
tag_of (truth false) = tag.False
tag_of (truth true) = tag.True
tag_of (int z) = tag.Int
tag_of (key bs) = tag.Key
tag_of (text bs) = tag.Text
tag_of (vector vs) = tag.Vector
tag_of (cell c) = tag.Cell

-- a vector stands only where there is room for its level, a cell only where cells may be
abbrev pub tag_test : Bool → ℕ → Test Tag
tag_test cells room tag.Vector = must BadOperand (nat_lt 0 room)
tag_test cells room tag.Cell = must BadOperand cells
tag_test cells room _ = None

-- the tag of a value, where cells may be or not, with room for so many levels of vectors
unfoldable pub tag_format : Bool → ℕ → Format Tag
tag_format cells room = tested (one_of byte tags tag_byte BadOpcode) (tag_test cells room)

-- the two's complement of the number that a value is
abbrev pub int_of : PlainValue → ℕ
int_of (int z) = of_z w64 z
int_of _ = 0

-- the name that a value is
abbrev pub key_of : PlainValue → List ℕ
key_of (key bs) = bs
key_of _ = []

-- the text that a value is
abbrev pub text_of : PlainValue → List ℕ
text_of (text bs) = bs
text_of _ = []

-- the items of the vector that a value is
abbrev pub items_of : PlainValue → List PlainValue
items_of (vector vs) = plain_list vs
items_of _ = []

-- the number of the cell that a value is
abbrev pub cell_number : PlainValue → ℕ
cell_number (cell c) = c.number
cell_number _ = 0

-- the cell with this number, where cells are of these kinds
abbrev pub cell_at : List CellKind → ℕ → PlainValue
cell_at kinds n = cell (record { kind = slice_index_or kinds n Ref; number = n })

-- What is behind a value's tag. Cells are of these kinds, and item is the format of a vector's items.
abbrev pub value_body : List CellKind → Format PlainValue → Tag → Format PlainValue
value_body kinds item tag.Nil = only nil
value_body kinds item tag.False = only (truth false)
value_body kinds item tag.True = only (truth true)
value_body kinds item tag.Int = mapped (λ n. int (to_z w64 n)) int_of (number w64)
value_body kinds item tag.Key = mapped key key_of keyword_format
value_body kinds item tag.Text = mapped text text_of text_format
value_body kinds item tag.Vector = mapped (λ vs. vector (plain_row vs)) items_of (counted (number w16) item)
value_body kinds item tag.Cell = mapped (cell_at kinds) cell_number (tested (number w16) (below (length kinds)))

-- a value, whose vectors have items of a format
abbrev pub value_over : Bool → List CellKind → ℕ → Format PlainValue → Format PlainValue
value_over cells kinds room item = tagged (tag_format cells room) tag_of (value_body kinds item)

-- a value with vectors in so many levels, where cells may be or not, and are of these kinds
unfoldable pub value_format : Bool → List CellKind → ℕ → Format PlainValue
value_format cells kinds zero = value_over cells kinds 0 never
value_format cells kinds (suc room) = value_over cells kinds (suc room) (value_format cells kinds room)

-- a vector's items have one level less than the vector
abbrev pub item_format : Bool → List CellKind → ℕ → Format PlainValue
item_format cells kinds zero = never
item_format cells kinds (suc room) = value_format cells kinds room

-- ---- their bytes

-- a name's bytes: its length in one byte, and its characters
abbrev pub name_bytes : List ℕ → List ℕ
name_bytes bs = length bs ∷ bs

-- a text's bytes: its length in two, and the text
abbrev pub text_bytes : List ℕ → List ℕ
text_bytes bs = to_be_bytes w16 (length bs) ++ bs

-- a value's bytes: a tag, and what it needs
abbrev mutual
  pub value_bytes : PlainValue → List ℕ
  value_bytes nil = 0 ∷ []
  value_bytes (truth false) = 1 ∷ []
  value_bytes (truth true) = 2 ∷ []
  value_bytes (int z) = 3 ∷ to_be_bytes w64 (of_z w64 z)
  value_bytes (key bs) = 4 ∷ name_bytes bs
  value_bytes (text bs) = 5 ∷ text_bytes bs
  value_bytes (vector vs) = 6 ∷ (to_be_bytes w16 (length (plain_list vs)) ++ row_bytes vs)
  value_bytes (cell c) = 7 ∷ to_be_bytes w16 c.number

  -- the bytes of a vector's items, one behind the other
  pub row_bytes : PlainValues → List ℕ
  row_bytes end = []
  row_bytes (more v vs) = value_bytes v ++ row_bytes vs

-- ---- what can be written

-- each text of a value is so short that its length has two bytes, as every value's texts are
abbrev mutual
  pub IsWritable : PlainValue → Type 0
  IsWritable (text bs) = length bs < 65536
  IsWritable (vector vs) = AreWritable vs
  IsWritable _ = Unit {0}

  -- the same of a vector's items
  pub AreWritable : PlainValues → Type 0
  AreWritable end = Unit {0}
  AreWritable (more v vs) = IsWritable v × AreWritable vs
