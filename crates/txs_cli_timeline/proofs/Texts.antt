-- Escaped texts: they are put together of characters, and are safe.
use Rattle.std.proofs.Common.{◌≡◌, ℕ, Bool, true, false, not, List, [], ◌∷◌, ◌++◌, codes, refl, sym, ap, ◌∙◌}
use Rattle.std.specs.Prelude.{encode_utf8_all, ◌&&◌, ◌||◌, ◌==◌, if◌then◌else◌}
use Rattle.std.specs.List.{flat_map, list_all}
use Rattle.std.proofs.lemmas.Bool.{false≢true}
use Rattle.std.proofs.lemmas.List.Folds.{list_all-append}
use Rattle.std.proofs.lemmas.Str.{encodes-append}
use Rattle.txs_reader.specs.Sign.{is_escaped}
use Rattle.txs_cli_timeline.specs.Escaped.{escaped, escaped_character, is_hidden}
use Rattle.txs_cli_timeline.specs.Entities.{is_plain, ends_entity, only_entities}

-- the bytes of what is written for a character
abbrev pub bytes_of : ℕ → List ℕ
bytes_of c = encode_utf8_all (escaped_character c)

pub bytes_of_text : (cs : List ℕ) → encode_utf8_all (escaped cs) ≡ flat_map bytes_of cs
bytes_of_text [] = refl
bytes_of_text (c ∷ cs) =
    encodes-append (escaped_character c) (escaped cs) ∙ ap (λ (l : List ℕ). bytes_of c ++ l) (bytes_of_text cs)

both_true : (a b : Bool) → a ≡ true → b ≡ true → (a && b) ≡ true
both_true true b p q = q
both_true false b p q = absurd (false≢true p)

-- what is written for a character, by what the tests of it give
abbrev choice : Bool → Bool → Bool → Bool → Bool → Bool → Bool → ℕ → List ℕ
choice less greater and_sign quote apostrophe newline hidden c =
    if less then codes "&lt;" else
    if greater then codes "&gt;" else
    if and_sign then codes "&amp;" else
    if quote then codes "&quot;" else
    if apostrophe then codes "&#39;" else
    if newline then 0xB6 ∷ [] else
    if hidden then 0xFFFD ∷ [] else
    c ∷ []

plain_itself : (a b d e h : Bool) → a ≡ false → b ≡ false → d ≡ false → e ≡ false → h ≡ false → ((not (a || b || d || e) && not h) && true) ≡ true
plain_itself false false false false false p q r s t = refl
plain_itself true b d e h p q r s t = absurd (false≢true (sym p))
plain_itself false true d e h p q r s t = absurd (false≢true (sym q))
plain_itself false false true e h p q r s t = absurd (false≢true (sym r))
plain_itself false false false true h p q r s t = absurd (false≢true (sym s))
plain_itself false false false false true p q r s t = absurd (false≢true (sym t))

plain_less : list_all is_plain (codes "&lt;") ≡ true
unfolding is_hidden is_escaped
plain_less = refl

plain_greater : list_all is_plain (codes "&gt;") ≡ true
unfolding is_hidden is_escaped
plain_greater = refl

plain_and : list_all is_plain (codes "&amp;") ≡ true
unfolding is_hidden is_escaped
plain_and = refl

plain_quote : list_all is_plain (codes "&quot;") ≡ true
unfolding is_hidden is_escaped
plain_quote = refl

plain_apostrophe : list_all is_plain (codes "&#39;") ≡ true
unfolding is_hidden is_escaped
plain_apostrophe = refl

plain_newline : list_all is_plain (0xB6 ∷ []) ≡ true
unfolding is_hidden is_escaped
plain_newline = refl

plain_replaced : list_all is_plain (0xFFFD ∷ []) ≡ true
unfolding is_hidden is_escaped
plain_replaced = refl

plain_choice : (less greater and_sign quote apostrophe newline hidden : Bool) (c : ℕ) → (c == 60) ≡ less → (c == 62) ≡ greater → (c == 34) ≡ quote → (c == 39) ≡ apostrophe → is_hidden c ≡ hidden → list_all is_plain (choice less greater and_sign quote apostrophe newline hidden c) ≡ true
plain_choice true greater and_sign quote apostrophe newline hidden c p q r s t = plain_less
plain_choice false true and_sign quote apostrophe newline hidden c p q r s t = plain_greater
plain_choice false false true quote apostrophe newline hidden c p q r s t = plain_and
plain_choice false false false true apostrophe newline hidden c p q r s t = plain_quote
plain_choice false false false false true newline hidden c p q r s t = plain_apostrophe
plain_choice false false false false false true hidden c p q r s t = plain_newline
plain_choice false false false false false false true c p q r s t = plain_replaced
plain_choice false false false false false false false c p q r s t =
    plain_itself (c == 60) (c == 62) (c == 34) (c == 39) (is_hidden c) p q r s t

plain_character : (c : ℕ) → list_all is_plain (escaped_character c) ≡ true
plain_character c = plain_choice (c == 60) (c == 62) (c == 38) (c == 34) (c == 39) (c == 10) (is_hidden c) c refl refl refl refl refl

-- no character of an escaped text is markup or hidden
pub plain_text : (text : List ℕ) → list_all is_plain (escaped text) ≡ true
plain_text [] = refl
plain_text (c ∷ text) =
    list_all-append is_plain (escaped_character c) (escaped text) ∙ both_true (list_all is_plain (escaped_character c)) (list_all is_plain (escaped text)) (plain_character c) (plain_text text)

entity_itself : (b x r : Bool) → b ≡ false → r ≡ true → ((if b then x else true) && r) ≡ true
entity_itself false x r p h = h
entity_itself true x r p h = absurd (false≢true (sym p))

entity_choice : (less greater and_sign quote apostrophe newline hidden : Bool) (c : ℕ) (rest : List ℕ) → (c == 38) ≡ and_sign → only_entities rest ≡ true → only_entities (choice less greater and_sign quote apostrophe newline hidden c ++ rest) ≡ true
entity_choice true greater and_sign quote apostrophe newline hidden c rest p h = h
entity_choice false true and_sign quote apostrophe newline hidden c rest p h = h
entity_choice false false true quote apostrophe newline hidden c rest p h = h
entity_choice false false false true apostrophe newline hidden c rest p h = h
entity_choice false false false false true newline hidden c rest p h = h
entity_choice false false false false false true hidden c rest p h = h
entity_choice false false false false false false true c rest p h = h
entity_choice false false false false false false false c rest p h =
    entity_itself (c == 38) (ends_entity rest) (only_entities rest) p h

-- each `&` of an escaped text begins an entity
pub entities_text : (text : List ℕ) → only_entities (escaped text) ≡ true
entities_text [] = refl
entities_text (c ∷ text) =
    entity_choice (c == 60) (c == 62) (c == 38) (c == 34) (c == 39) (c == 10) (is_hidden c) c (escaped text) refl (entities_text text)
