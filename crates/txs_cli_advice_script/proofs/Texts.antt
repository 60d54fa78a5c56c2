-- Laws of bytes that are characters, and of texts that may be missing.
use Rattle.std.proofs.Common.{◌≡◌, ℕ, Bool, true, false, List, [], refl, ap, ◌∙◌, if◌then◌else◌, IsUtf8, Option, Some, None, Bor}
use Rattle.std.specs.Str.{is_utf8}
use Rattle.std.specs.Option.{option_copied, option_or}
use Rattle.std.proofs.lemmas.Str.{IsUtf8-from_is_utf8, is_utf8-from_IsUtf8}
use Rattle.txs_cli_advice_script.specs.Shown.{text_of}

-- bytes that are characters are their text
pub text_of-utf8 : (bs : List ℕ) → IsUtf8 bs → text_of bs ≡ bs
text_of-utf8 bs is = ap (λ b. if b then bs else []) (is_utf8-from_IsUtf8 bs is)

text_else : (bs : List ℕ) (b : Bool) → (b ≡ true → ⊥) → (if b then bs else []) ≡ []
text_else bs true not = absurd (not refl)
text_else bs false not = refl

-- others have none
pub text_of-else : (bs : List ℕ) → (IsUtf8 bs → ⊥) → text_of bs ≡ []
text_of-else bs not = text_else bs (is_utf8 bs) (λ is. not (IsUtf8-from_is_utf8 bs is))

-- the bytes of the first of two texts that isn't missing
pub option_copied-or : (a b : Option (Bor (List ℕ))) → option_copied (option_or a b) ≡ option_or (option_copied a) (option_copied b)
option_copied-or None b = refl
option_copied-or (Some x) b = refl

-- what is said of a word by one, and else by another
pub option_copied-either : (a b r : Option (Bor (List ℕ))) (u v : Option (List ℕ)) → r ≡ option_or a b → option_copied a ≡ u → option_copied b ≡ v
    → option_copied r ≡ option_or u v
option_copied-either a b r u v is first second =
    ap option_copied is ∙ option_copied-or a b ∙ ap (λ o. option_or o (option_copied b)) first ∙ ap (λ o. option_or u o) second

pub ruleset text_of_laws = (text_of-utf8, text_of-else)

pub ruleset option_copied_laws = (option_copied-or)
