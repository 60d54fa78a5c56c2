-- What `parse` gives at a number.
use Rattle.std.proofs.Common.{◌≡◌, ℕ, zero, suc, ◌<◌, Bool, true, false, cond, ◌&&◌, eqb, ltb, List, [], ◌∷◌, length, get_or, drop, Result, Err, ℤ, pos, negsuc, refl, ap, ◌∙◌, arith}
use Rattle.std.specs.Prelude.{FitsSigned, IsUtf8}
use Rattle.std.specs.Int.{w64}
use Rattle.std.specs.Char.{is_ascii_digit}
use Rattle.std.specs.List.{list_all}
use Rattle.std.specs.Str.{all_ascii_digits}
use Rattle.std.specs.Str.Parse.{IsNumeral, signed_digits_value, without_leading_sign, ParsesSigned}
use Rattle.std.proofs.lemmas.Bool.Decides.{nat_tests}
use Rattle.std.proofs.lemmas.Bool.{false≢true}
use Rattle.std.proofs.lemmas.Str.{IsUtf8-from_ascii}
use Rattle.std.proofs.lemmas.Str.Parse.{numerals_by_value, tells_all_ascii_digits}
use Rattle.std.proofs.lemmas.Result.{OkIff-at_err}
use Rattle.txs_reader.specs.Bytes.{is_numeral, is_number, is_i64}

pub fits_from_i64 : (z : ℤ) → is_i64 z ≡ true → FitsSigned w64 z
fits_from_i64 (pos n) h = record { sfits = grind (arith, nat_tests) }
fits_from_i64 (negsuc n) h = record { sfits = grind (arith, nat_tests) }

and_left : (a b : Bool) → (a && b) ≡ true → a ≡ true
and_left true b h = refl
and_left false b h = absurd (false≢true h)

and_right : (a b : Bool) → (a && b) ≡ true → b ≡ true
and_right true b h = h
and_right false b h = absurd (false≢true h)

same_digits : (ds : List ℕ) → all_ascii_digits ds ≡ list_all is_ascii_digit ds
same_digits [] = refl
same_digits (d ∷ ds) = ap (λ (b : Bool). is_ascii_digit d && b) (same_digits ds)

numeral_digits : (ds : List ℕ) → is_numeral ds ≡ true → all_ascii_digits ds ≡ true
unfolding is_numeral
numeral_digits ds h = same_digits ds ∙ and_left _ _ (and_left _ _ h)

numeral_length : (ds : List ℕ) → is_numeral ds ≡ true → 0 < length ds
unfolding is_numeral
numeral_length ds h = let k : ltb 0 (length ds) ≡ true = and_right _ _ (and_left _ _ h) in grind (arith, nat_tests)

pub numeral_from_test : (ds : List ℕ) → is_numeral ds ≡ true → IsNumeral 10 ds
numeral_from_test ds h = (numeral_length ds h, (numerals_by_value (λ ds. all_ascii_digits ds ≡ true) tells_all_ascii_digits).to ds (numeral_digits ds h))

digit_small : (d : ℕ) → is_ascii_digit d ≡ true → d < 128
digit_small d h = grind (arith, nat_tests)

digits_small : (ds : List ℕ) → all_ascii_digits ds ≡ true → (i : ℕ) → get_or ds i 0 < 128
digits_small [] h i = omega arith
digits_small (d ∷ ds) h zero = digit_small d (and_left _ _ h)
digits_small (d ∷ ds) h (suc i) = digits_small ds (and_right _ _ h) i

sign_small : (b : ℕ) (ds : List ℕ) → b < 128 → ((i : ℕ) → get_or ds i 0 < 128) → (i : ℕ) → get_or (b ∷ ds) i 0 < 128
sign_small b ds lt h zero = lt
sign_small b ds lt h (suc i) = h i

abbrev AllSmall : List ℕ → Type 0
AllSmall bs = (i : ℕ) → get_or bs i 0 < 128

small_by_sign : (b : ℕ) (bs : List ℕ) (minus plus : Bool) → eqb b 45 ≡ minus → eqb b 43 ≡ plus → all_ascii_digits (cond minus bs (drop (cond plus 1 0) (b ∷ bs))) ≡ true → AllSmall (b ∷ bs)
small_by_sign b bs true plus m p h = sign_small b bs (grind (arith, nat_tests)) (digits_small bs h)
small_by_sign b bs false true m p h = sign_small b bs (grind (arith, nat_tests)) (digits_small bs h)
small_by_sign b bs false false m p h = digits_small (b ∷ bs) h

number_small : (w : List ℕ) → all_ascii_digits (without_leading_sign w) ≡ true → AllSmall w
number_small [] h = λ i. omega arith
number_small (b ∷ bs) h = small_by_sign b bs _ _ refl refl h

pub number_utf8 : (w : List ℕ) → is_number w ≡ true → IsUtf8 w
unfolding is_number
number_utf8 w h = IsUtf8-from_ascii w (number_small w (numeral_digits _ h))

pub number_numeral : (w : List ℕ) → is_number w ≡ true → IsNumeral 10 (without_leading_sign w)
unfolding is_number
number_numeral w h = numeral_from_test _ h

not_true : (b : Bool) → (b ≡ true → ⊥) → b ≡ false
not_true true h = absurd (h refl)
not_true false h = refl

pub parsed_err : {E : Type 0} (w : List ℕ) (r : Result ℤ E) (d : E) → ParsesSigned w64 10 w r → r ≡ Err d → is_number w ≡ true → is_i64 (signed_digits_value 10 w) ≡ false
parsed_err w r d h e is = not_true _ (λ fits. OkIff-at_err r _ _ d h e (number_numeral w is, fits_from_i64 _ fits))
