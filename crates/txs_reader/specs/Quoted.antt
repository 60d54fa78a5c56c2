-- The inside of a text: plain bytes and escapes, put end to end.
use Rattle.std.specs.Prelude.{ℕ, ◌≡◌, ◌≢◌, ◌==◌, if◌then◌else◌, List, [], ◌∷◌, ◌++◌, Option, None, Some, length, encode_utf8}
use Rattle.std.specs.Char.{IsScalar}
use Rattle.std.specs.Str.Parse.{AllDigits, digits_value}

-- A part of a text's inside: a plain byte, or one of those escapes of Clojure's reader that this profile has.
pub data Part : Type 0 where
  Plain : ℕ → Part
  -- a backslash and one letter
  Short : ℕ → Part
  -- a backslash, a `u` and these digits
  Code : List ℕ → Part

-- the byte that a backslash and `t`, `r`, `n`, `b`, `f`, a backslash or a quote stand for
unfoldable pub short_value : ℕ → Option ℕ
short_value c =
    if c == 116 then Some 9 else if c == 114 then Some 13 else if c == 110 then Some 10 else if c == 98 then Some 8
    else if c == 102 then Some 12 else if c == 92 then Some 92 else if c == 34 then Some 34 else None

-- what a part is written as
abbrev pub part_text : Part → List ℕ
part_text (Plain b) = b ∷ []
part_text (Short c) = 92 ∷ c ∷ []
part_text (Code ds) = 92 ∷ 117 ∷ ds

-- a plain byte is neither a quote nor a backslash; four hexadecimal digits are no surrogate
abbrev pub IsPart : Part → Type 0
IsPart (Plain b) = (b ≢ 34) × (b ≢ 92)
IsPart (Short c) = short_value c ≢ None
IsPart (Code ds) = (length ds ≡ 4) × AllDigits 16 ds × IsScalar (digits_value 16 ds)

-- the byte that is there, if one is
abbrev pub or_none : Option ℕ → List ℕ
or_none None = []
or_none (Some b) = b ∷ []

-- the bytes that a part stands for
abbrev pub part_value : Part → List ℕ
part_value (Plain b) = b ∷ []
part_value (Short c) = or_none (short_value c)
part_value (Code ds) = encode_utf8 (digits_value 16 ds)

-- a part begins there
abbrev pub IsAtPart : List ℕ → Type 0
IsAtPart bytes = (p : Part) × (after : List ℕ) × IsPart p × (bytes ≡ part_text p ++ after)
