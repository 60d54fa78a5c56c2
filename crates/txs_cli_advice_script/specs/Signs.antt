-- What is said of words that are left out.
use Rattle.std.specs.Prelude.{ℕ, Bool, ◌==◌, ◌||◌, ◌&&◌, if◌then◌else◌, List, [], ◌∷◌, Option, Some, map}
use Rattle.std.specs.Option.{option_or}
use Rattle.std.specs.Char.{is_ascii_digit}
use Rattle.txs_cli_advice_script.specs.declared.signs.TheConstants.{FIRST, DISPATCH, TAGGED, NUMBERS, DIGITS, QUALIFIED}
use Rattle.txs_cli_advice_script.specs.Rows.{said_of}

-- a number begins with a digit, or with a sign before one
abbrev pub begins_number : ℕ → ℕ → Bool
begins_number first second = is_ascii_digit first || ((first == 43 || first == 45) && is_ascii_digit second)

-- What is said of a word that is left out, given its first two bytes: of one that begins with `#` by the second, of a number by the
-- bytes in it, of another by the first, and else of one with a `/`.
unfoldable pub left_out : ℕ → ℕ → List ℕ → Option (List ℕ)
left_out first second word =
    if first == 35 then option_or (said_of (map (λ row. (row.0.now, row.1.now)) DISPATCH) (second ∷ [])) (Some TAGGED.now)
    else if begins_number first second then option_or (said_of (map (λ row. (row.0.now, row.1.now)) NUMBERS) word) (Some DIGITS.now)
    else option_or (said_of (map (λ row. (row.0.now, row.1.now)) FIRST) (first ∷ [])) (said_of (map (λ row. (row.0.now, row.1.now)) QUALIFIED) word)
