-- Which texts are safe between the tags of XML, and in its attributes.
use Rattle.std.specs.Prelude.{ℕ, Bool, true, false, not, ◌&&◌, ◌||◌, ◌==◌, if◌then◌else◌, List, [], ◌∷◌, codes}
use Rattle.txs_cli_timeline.specs.Escaped.{is_hidden}

-- A character that is markup wherever it is: `<`, `>` or a quote.
abbrev pub is_markup : ℕ → Bool
is_markup c = (c == 60) || (c == 62) || (c == 34) || (c == 39)

-- A character that may be in a text: it is no markup, and isn't hidden.
abbrev pub is_plain : ℕ → Bool
is_plain c = not (is_markup c) && not (is_hidden c)

-- The second text begins with the first.
abbrev pub begins : List ℕ → List ℕ → Bool
begins [] text = true
begins (a ∷ front) [] = false
begins (a ∷ front) (b ∷ text) = (a == b) && begins front text

-- What is behind an `&` makes it an entity.
abbrev pub ends_entity : List ℕ → Bool
ends_entity text =
    begins (codes "lt;") text || begins (codes "gt;") text || begins (codes "amp;") text || begins (codes "quot;") text || begins (codes "#39;") text

-- Each `&` of a text begins an entity.
abbrev pub only_entities : List ℕ → Bool
only_entities [] = true
only_entities (c ∷ text) = (if c == 38 then ends_entity text else true) && only_entities text
