-- Texts by their bytes, and the beginnings of them.
use Rattle.std.specs.Prelude.{ℕ, nat_le, if◌then◌else◌, List, [], length, take}
use Rattle.std.specs.Str.{is_utf8}

-- these bytes if they are characters, else none
abbrev pub text_of : List ℕ → List ℕ
text_of bytes = if is_utf8 bytes then bytes else []

-- so many bytes from the first on, or none where there are fewer
abbrev pub front_of : ℕ → List ℕ → List ℕ
front_of n bytes = if nat_le n (length bytes) then take n bytes else []
