-- Where in a text a byte is, in lines and characters.
use Rattle.std.specs.Prelude.{ℕ, ◌+◌, Bool, nat_le, nat_lt, ◌==◌, ◌||◌, List, ◌++◌, take, drop}
use Rattle.std.specs.List.{count_by, before_first, after_last}

-- A newline is the byte 10.
abbrev pub is_newline : ℕ → Bool
is_newline b = b == 10

-- A byte begins a character unless it is one that continues a character of UTF-8, 0x80 to 0xBF.
abbrev pub begins_character : ℕ → Bool
begins_character b = nat_lt b 128 || nat_le 192 b

-- The characters of these bytes: as many as begin in them.
abbrev pub characters : List ℕ → ℕ
characters bytes = count_by begins_character bytes

-- What is in the line before the offset: the bytes between the last newline, or the text's start, and it.
abbrev pub line_before : List ℕ → ℕ → List ℕ
line_before text offset = after_last is_newline (take offset text)

-- What is in the line from the offset on: the bytes up to the next newline, or the text's end.
abbrev pub line_behind : List ℕ → ℕ → List ℕ
line_behind text offset = before_first is_newline (drop offset text)

-- The line in which the offset is, without its newline. An offset at a newline is in the line that it ends.
abbrev pub line_around : List ℕ → ℕ → List ℕ
line_around text offset = line_before text offset ++ line_behind text offset

-- Lines are counted from 1: one more than the newlines before the offset.
abbrev pub line_number : List ℕ → ℕ → ℕ
line_number text offset = count_by is_newline (take offset text) + 1

-- Columns are counted from 1: one more than the characters in the line before the offset.
abbrev pub column_number : List ℕ → ℕ → ℕ
column_number text offset = characters (line_before text offset) + 1
