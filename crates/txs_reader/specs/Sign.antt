-- How a character of a text is shown on a terminal, and how wide it is there.
use Rattle.std.specs.Prelude.{◌≡◌, ℕ, ◌-◌, ◌*◌, ◌/◌, ◌%◌, ◌<◌, ◌≤◌, max, Bool, false, not, nat_lt, ◌==◌, ◌&&◌, ◌||◌, if◌then◌else◌, List, [], ◌∷◌, ◌++◌, length, take, drop, replicate, Option, Some, None, unwrap_or}
use Rattle.std.specs.Char.{digit_char}
use Rattle.std.specs.Int.{is_in_range}
use Rattle.std.specs.List.{flat_map}
use Rattle.bstr.specs.Utf8.{Decoded, pieces}
use Rattle.unicode_width.specs.Width.{char_width}

-- A sign is a character and its bytes, or bytes that are no UTF-8 and no character.
pub record Sign : Type 0 where
  pub char : Option ℕ
  pub bytes : List ℕ

-- These pieces, each with its bytes.
abbrev pub cut : List Decoded → List ℕ → List Sign
cut [] bytes = []
cut (piece ∷ pieces) bytes =
    record { char = piece.char; bytes = take piece.size bytes } ∷ cut pieces (drop piece.size bytes)

-- The signs of a text in their order: its characters, and between them what isn't UTF-8, as Unicode's Table 3-7 breaks it into pieces.
unfoldable pub signs : List ℕ → List Sign
signs bytes = cut (pieces bytes) bytes

-- A character is escaped if it can't be seen or changes how others are seen: a control character other than a tab, a mark of direction,
-- a joiner, a character without width, a separator of lines.
unfoldable pub is_escaped : ℕ → Bool
is_escaped c =
    (nat_lt c 32 && not (c == 9)) || is_in_range 0x7F 0x9F c || (c == 0x061C) || is_in_range 0x200B 0x200F c || is_in_range 0x2028 0x202E c || is_in_range 0x2060 0x206F c || (c == 0xFEFF)

-- Columns of a character: one for a tab, six for one that is escaped, and for any other as many as Unicode gives it by itself.
unfoldable pub columns : ℕ → ℕ
columns c = if c == 9 then 1 else if is_escaped c then 6 else unwrap_or (char_width false c) 0

-- Columns of a sign of so many bytes: a byte that is no UTF-8 takes four.
abbrev pub width_of : Option ℕ → ℕ → ℕ
width_of None size = 4 * size
width_of (Some c) size = columns c

abbrev pub width : Sign → ℕ
width sign = width_of sign.char (length sign.bytes)

-- What a sign takes of a window: its columns, and one if it has none.
abbrev pub room : Sign → ℕ
room sign = max (width sign) 1

-- A digit in base 16: the last of a number.
abbrev pub digit : ℕ → ℕ
digit n = digit_char (n % 16)

-- `\u` and four digits.
abbrev pub escaped : ℕ → List ℕ
escaped c = 92 ∷ 117 ∷ digit (c / 4096) ∷ digit (c / 256) ∷ digit (c / 16) ∷ digit c ∷ []

-- `\x` and two digits.
abbrev pub escaped_byte : ℕ → List ℕ
escaped_byte b = 92 ∷ 120 ∷ digit (b / 16) ∷ digit b ∷ []

-- What is written for a sign: what is escaped by its number, each byte that is no UTF-8 by its value, and any other character as it is.
abbrev pub shown_of : Option ℕ → List ℕ → List ℕ
shown_of None bytes = flat_map escaped_byte bytes
shown_of (Some c) bytes = if is_escaped c then escaped c else bytes

abbrev pub shown : Sign → List ℕ
shown sign = shown_of sign.char sign.bytes

-- What takes the place of a sign in the line below: a tab for a tab, and else blanks, as wide as the sign.
abbrev pub blank_of : Option ℕ → ℕ → List ℕ
blank_of None size = replicate (4 * size) 32
blank_of (Some c) size = if c == 9 then 9 ∷ [] else replicate (columns c) 32

abbrev pub blank : Sign → List ℕ
blank sign = blank_of sign.char (length sign.bytes)

-- The sign at the front of a text is this character, or none, of so many bytes.
pub record First (bytes : List ℕ) (char : Option ℕ) (size : ℕ) : Type 0 where
  pub some : 0 < size
  pub few : size ≤ 4
  pub within : size ≤ length bytes
  pub splits : signs bytes ≡ record { char = char; bytes = take size bytes } ∷ signs (drop size bytes)

-- The sign at the end of a text is this character, or none, of so many bytes.
pub record Last (bytes : List ℕ) (char : Option ℕ) (size : ℕ) : Type 0 where
  pub some : 0 < size
  pub few : size ≤ 4
  pub within : size ≤ length bytes
  pub splits : signs bytes ≡ signs (take (length bytes - size) bytes) ++ record { char = char; bytes = drop (length bytes - size) bytes } ∷ []
