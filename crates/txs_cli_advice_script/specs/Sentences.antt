-- What sentences say, and which of them are safe to show.
use Rattle.std.specs.Prelude.{ℕ, Bool, not, if◌then◌else◌, List, [], ◌∷◌, ◌++◌, codes, decimal, Option, Some, None}
use Rattle.std.specs.List.{list_all}
use Rattle.std.specs.Str.{chars}
use Rattle.txs_reader.specs.Sign.{is_escaped}
use Rattle.txs_cli_advice_script.specs.declared.sentence.Sentence.{Sentence}

-- a number in decimal digits, if there is one
abbrev pub count_text : Option ℕ → List ℕ
count_text None = []
count_text (Some n) = decimal n

-- the parts of a sentence, one after the other
abbrev pub whole_of : Sentence → List ℕ
whole_of said =
    said.front.now ++ said.name.now ++ said.text.now ++ count_text said.first ++ said.other.now ++ said.rest.now ++ count_text said.second ++ said.after.now ++ said.end.now

-- a whole, unless this part of it is empty
abbrev pub unless_empty : List ℕ → List ℕ → Option (List ℕ)
unless_empty [] whole = None
unless_empty (b ∷ bs) whole = Some whole

-- What a sentence says: its parts, one after the other. Without its text it says nothing.
abbrev pub says : Sentence → Option (List ℕ)
says said = unless_empty said.text.now (whole_of said)

-- whether no character of a text has to be escaped: then it is in one line, and a terminal obeys nothing of it
unfoldable pub is_safe : List ℕ → Bool
is_safe text = list_all (λ c. not (is_escaped c)) (chars text)

-- a text, if it is safe
abbrev pub if_safe : List ℕ → Option (List ℕ)
if_safe text = if is_safe text then Some text else None

-- what stands between a name of clojure.core and what to write instead
abbrev pub left_out : List ℕ
left_out = codes "` of clojure.core is not in this profile; "
