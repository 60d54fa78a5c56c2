-- How a text of a script is written in a picture, as a list of characters.
use Rattle.std.specs.Prelude.{ℕ, Bool, ◌||◌, ◌==◌, if◌then◌else◌, List, [], ◌∷◌, codes}
use Rattle.std.specs.List.{flat_map}
use Rattle.txs_reader.specs.Sign.{is_escaped}

-- A character is hidden if it can't be seen, changes how others are seen, or is none that XML allows.
unfoldable pub is_hidden : ℕ → Bool
is_hidden c = is_escaped c || (c == 0xFFFE) || (c == 0xFFFF)

-- What is written for a character: an entity if it has a meaning in XML, `¶` for a newline, U+FFFD for any other hidden one, and else the character itself.
abbrev pub escaped_character : ℕ → List ℕ
escaped_character c =
    if c == 60 then codes "&lt;" else
    if c == 62 then codes "&gt;" else
    if c == 38 then codes "&amp;" else
    if c == 34 then codes "&quot;" else
    if c == 39 then codes "&#39;" else
    if c == 10 then 0xB6 ∷ [] else
    if is_hidden c then 0xFFFD ∷ [] else
    c ∷ []

-- What is written for a text.
abbrev pub escaped : List ℕ → List ℕ
escaped text = flat_map escaped_character text
