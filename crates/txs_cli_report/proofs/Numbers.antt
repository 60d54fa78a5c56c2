-- What `parse` gives of digits.
use Rattle.std.proofs.Common.{◌≡◌, ℕ, ◌<◌, ◌^◌, Bool, true, false, ◌&&◌, ltb, leb, List, [], ◌∷◌, length, Option, Some, None, Result, Ok, Err, refl, sym, ap, ◌∙◌, if◌then◌else◌, inl, inr, arith}
use Rattle.std.specs.Char.{is_ascii_digit}
use Rattle.std.specs.List.{list_all}
use Rattle.std.specs.Str.{all_ascii_digits}
use Rattle.std.specs.Str.Parse.{digits_value, ParsesUnsigned}
use Rattle.std.proofs.lemmas.Bool.{cases_lt}
use Rattle.std.proofs.lemmas.Bool.Decides.{nat_tests}
use Rattle.std.proofs.lemmas.Str.Parse.{numerals_by_value, tells_all_ascii_digits, parse_digits, IsNumeralModel}
use Rattle.std.proofs.lemmas.Result.{OkIff-at_ok, OkIff-at_err}
use Rattle.txs_cli_report.specs.Plays.{number_in, ranged}

own : IsNumeralModel (λ ds. all_ascii_digits ds ≡ true) (digits_value 10)
own = numerals_by_value (λ ds. all_ascii_digits ds ≡ true) tells_all_ascii_digits

same_digits : (ds : List ℕ) → all_ascii_digits ds ≡ list_all is_ascii_digit ds
same_digits [] = refl
same_digits (d ∷ ds) = ap (λ (b : Bool). is_ascii_digit d && b) (same_digits ds)

abbrev number_if : ℕ → ℕ → List ℕ → Bool → Bool → Option ℕ
number_if least most bs digits some = if digits && some then ranged least most (digits_value 10 bs) else None

abbrev ranged_if : ℕ → Bool → Option ℕ
ranged_if n b = if b then Some n else None

-- other bytes than digits write no number
pub number_of_others : (least most : ℕ) (bs : List ℕ) → list_all is_ascii_digit bs ≡ false → number_in least most bs ≡ None
unfolding number_in
number_of_others least most bs h = ap (λ (b : Bool). number_if least most bs b (ltb 0 (length bs))) h

-- what is read is the number
pub number_of_parsed : {E : Type 0} (least most n : ℕ) (bs : List ℕ) (r : Result ℕ E) → list_all is_ascii_digit bs ≡ true → ParsesUnsigned 32 10 bs r → r ≡ Ok n → number_in least most bs ≡ ranged least most n
unfolding number_in
number_of_parsed least most n bs r digits h e =
    let p = OkIff-at_ok r _ _ n (parse_digits own 32 bs r h (same_digits bs ∙ digits)) e in
    let long : 0 < length bs = p.0.0 in
    let some : ltb 0 (length bs) ≡ true = grind (arith, nat_tests, long) in
    ap (λ (b : Bool). number_if least most bs b (ltb 0 (length bs))) digits ∙ ap (number_if least most bs true) some ∙ ap (ranged least most) (sym p.1)

false_right : (a b : Bool) → b ≡ false → (a && b) ≡ false
false_right true b h = h
false_right false b h = refl

above : (n most : ℕ) → most < n → leb n most ≡ false
above n most h = grind (arith, nat_tests)

out_of_range : (least most n : ℕ) → most < n → ranged least most n ≡ None
out_of_range least most n h = ap (ranged_if n) (false_right (leb least n) (leb n most) (above n most h))

abbrev some_if : ℕ → ℕ → ℕ → Bool → Option ℕ
some_if least most n some = if some then ranged least most n else None

without_number : (least most n k : ℕ) (some : Bool) → ltb 0 k ≡ some → ((0 < k) × (n < 2 ^ 32) → ⊥) → most < 2 ^ 32 → some_if least most n some ≡ None
without_number least most n k false t never small = refl
without_number least most n k true t never small =
    let one : 0 < k = grind (arith, nat_tests, t) in
    elim (cases_lt n (2 ^ 32)) [
      | inl lt ↦ absurd (never (one, lt))
      | inr le ↦ out_of_range least most n (omega (arith, le, small))
    ]

-- digits that aren't read write no number, or one past the range
pub number_of_unparsed : {E : Type 0} (least most : ℕ) (bs : List ℕ) (r : Result ℕ E) (e : E) → list_all is_ascii_digit bs ≡ true → ParsesUnsigned 32 10 bs r → r ≡ Err e → most < 2 ^ 32 → number_in least most bs ≡ None
unfolding number_in
number_of_unparsed least most bs r e digits h is small =
    let never = OkIff-at_err r _ _ e (parse_digits own 32 bs r h (same_digits bs ∙ digits)) is in
    ap (λ (b : Bool). number_if least most bs b (ltb 0 (length bs))) digits
    ∙ without_number least most (digits_value 10 bs) (length bs) (ltb 0 (length bs)) refl never small
