-- What is safe to show on a terminal, and which lines are shown as they are.
use Rattle.std.specs.Prelude.{◌≡◌, ℕ, Bool, true, not, ◌||◌, ◌==◌, if◌then◌else◌, List, [], ◌∷◌, ◌++◌, length, take, replicate, map, max, ◌-◌, encode_utf8_all}
use Rattle.std.specs.Int.{is_in_range}
use Rattle.std.specs.List.{list_all}
use Rattle.std.specs.Str.{all_scalars}
use Rattle.txs_reader.specs.Place.{line_before, line_behind, line_around}
use Rattle.txs_reader.specs.Sign.{is_escaped}

-- These bytes are UTF-8, and none of their characters has to be escaped.
pub record Safe (bytes : List ℕ) : Type 0 where
  pub chars : List ℕ
  pub spells : encode_utf8_all chars ≡ bytes
  pub scalars : all_scalars chars ≡ true
  pub unescaped : list_all (λ c. not (is_escaped c)) chars ≡ true

-- These bytes are two lines that are safe to show.
pub record SafeLines (bytes : List ℕ) : Type 0 where
  pub line : List ℕ
  pub below : List ℕ
  pub is : bytes ≡ line ++ 10 ∷ below ++ 10 ∷ []
  pub line_safe : Safe line
  pub below_safe : Safe below

-- A tab, or a character of ASCII that is printed.
abbrev pub is_plain : ℕ → Bool
is_plain b = (b == 9) || is_in_range 0x20 0x7E b

-- A tab for a tab, and a blank for any other.
abbrev pub plain_blank : ℕ → ℕ
plain_blank b = if b == 9 then 9 else 32

-- A line as it is, and below it a blank for each byte before the span and a caret for each byte of the span: one at least.
abbrev pub plain_lines : List ℕ → ℕ → ℕ → List ℕ
plain_lines text start end =
    line_around text start ++ 10 ∷ map plain_blank (line_before text start) ++ replicate (max (length (take (end - start) (line_behind text start))) 1) 94 ++ 10 ∷ []
