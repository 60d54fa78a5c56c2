-- Which part of a long line is shown.
use Rattle.std.specs.Prelude.{◌≡◌, ◌≤◌, ℕ, ◌+◌, ◌-◌, min, Bool, nat_lt, nat_le, if◌then◌else◌, List, [], ◌∷◌, length, drop}
use Rattle.txs_reader.specs.Sign.{Sign, signs, room}

-- So many columns of a line are shown at most, apart from the marks where it is cut.
abbrev pub window : ℕ
window = 72

-- So many of them are kept for what the span begins with and what is behind it, if there is so much.
abbrev pub half : ℕ
half = 36

-- The sum of what each sign has.
abbrev pub total : (Sign → ℕ) → List Sign → ℕ
total f [] = 0
total f (sign ∷ signs) = f sign + total f signs

-- As many signs from the front as have this room.
abbrev pub first_within : ℕ → List Sign → List Sign
first_within n [] = []
first_within n (sign ∷ signs) = if nat_le (room sign) n then sign ∷ first_within (n - room sign) signs else []

-- As many signs from the end as have this room.
abbrev pub last_within : ℕ → List Sign → List Sign
last_within n [] = []
last_within n (sign ∷ signs) = if nat_le (total room (sign ∷ signs)) n then sign ∷ signs else last_within n signs

-- What is shown of the signs in front of a span, given those from its start on. A line that fits is shown whole.
abbrev pub left_part : List Sign → List Sign → List Sign
left_part front back = last_within (window - min half (total room back)) front

-- What is left of the window beside that.
abbrev pub right_room : List Sign → List Sign → ℕ
right_room front back = window - total room (left_part front back)

-- What is shown of the signs from a span's start on.
abbrev pub right_part : List Sign → List Sign → List Sign
right_part front back = first_within (right_room front back) back

-- Whether less than all is shown.
abbrev pub is_cut : List Sign → List Sign → Bool
is_cut part all = nat_lt (length part) (length all)

-- The signs that begin in so many bytes.
abbrev pub begun : ℕ → List Sign → List Sign
begun n [] = []
begun n (sign ∷ signs) = if nat_lt 0 n then sign ∷ begun (n - length sign.bytes) signs else []

-- The signs at the end of a text that have this room begin at this place, and at the text's start if none is left out.
pub record LeftPart (bytes : List ℕ) (n from : ℕ) : Type 0 where
  pub within : from ≤ length bytes
  pub begins : signs (drop from bytes) ≡ last_within n (signs bytes)
  pub is_cut : nat_lt 0 from ≡ is_cut (signs (drop from bytes)) (signs bytes)
