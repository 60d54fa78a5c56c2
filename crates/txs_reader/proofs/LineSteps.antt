-- Lines and columns, one byte further.
use Rattle.std.proofs.Common.{◌≡◌, ◌≢◌, ℕ, ◌+◌, ◌-◌, ◌<◌, Bool, true, false, not, cond, List, [], ◌∷◌, ◌++◌, length, get_or, take, drop, refl, ap, ◌∙◌, arith, eqb, eq-eqb, eqb-true}
use Rattle.std.proofs.lemmas.List.{length-take-le, drop-append-le, take_more}
use Rattle.std.proofs.lemmas.List.Sums.{count_by_more_yes, count_by_more_no, sum_by_push, suffix_len-take_yes, suffix_len-take_no}
use Rattle.std.proofs.Math.Seq.{drop-length}
use Rattle.std.specs.List.{suffix_len}
use Rattle.std.specs.Prelude.{slice_index}
use Rattle.txs_reader.specs.Place.{is_newline, begins_character, characters, line_before, line_number, column_number}

-- a line is made of what is no newline
abbrev plain : ℕ → Bool
plain b = not (is_newline b)

not_ten : (b : ℕ) (t : Bool) → eqb b 10 ≡ t → b ≢ 10 → t ≡ false
not_ten b true e other = absurd (other (eqb-true b 10 e))
not_ten b false e other = refl

module _ (text : List ℕ) (k : ℕ) (within : k < length text) where
  at_last : get_or text (k + 1 - 1) 0 ≡ get_or text k 0
  at_last = ap (λ n. get_or text n 0) (omega arith)

  -- behind a newline nothing stands in the line yet
  line_empty : slice_index text k ≡ 10 → line_before text (k + 1) ≡ []
  line_empty is =
      let newline : plain (get_or text (k + 1 - 1) 0) ≡ false = ap plain (at_last ∙ is) in
      let none : suffix_len plain (take (k + 1) text) ≡ 0 = suffix_len-take_no plain text (k + 1) 0 (omega arith) (omega arith) newline in
      ap (λ n. drop (length (take (k + 1) text) - n) (take (k + 1) text)) none
      ∙ ap (λ n. drop n (take (k + 1) text)) (omega arith)
      ∙ drop-length (take (k + 1) text)

  pub newline_ends : slice_index text k ≡ 10 → (line_number text (k + 1) ≡ line_number text k + 1) × (column_number text (k + 1) ≡ 1)
  newline_ends is = (
    ap (λ n. n + 1) (count_by_more_yes is_newline text k 0 within (eq-eqb (get_or text k 0) 10 is)),
    ap (λ xs. characters xs + 1) (line_empty is),
  )

  -- behind any other byte it has that byte at its end
  line_longer : is_newline (get_or text k 0) ≡ false → line_before text (k + 1) ≡ line_before text k ++ get_or text k 0 ∷ []
  line_longer is_not =
      let front = take k text in
      let s = suffix_len plain front in
      let last : plain (get_or text (k + 1 - 1) 0) ≡ true = ap plain at_last ∙ ap not is_not in
      let less : take (k + 1 - 1) text ≡ front = ap (λ n. take n text) (omega arith) in
      let more : suffix_len plain (take (k + 1) text) ≡ 1 + s = suffix_len-take_yes plain text (k + 1) 0 (omega arith) (omega arith) last ∙ ap (λ xs. 1 + suffix_len plain xs) less in
      let long : length (take (k + 1) text) ≡ k + 1 = length-take-le (k + 1) text (omega arith) in
      let short : length front ≡ k = length-take-le k text (omega arith) in
      let from : length (take (k + 1) text) - suffix_len plain (take (k + 1) text) ≡ length front - s = omega (arith, more, long, short) in
      ap (λ n. drop n (take (k + 1) text)) from
      ∙ ap (drop (length front - s)) (take_more text k 0 within)
      ∙ drop-append-le (length front - s) front (get_or text k 0 ∷ []) (omega arith)

  pub line_goes_on : slice_index text k ≢ 10 → (line_number text (k + 1) ≡ line_number text k) × (column_number text (k + 1) ≡ column_number text k + cond (begins_character (slice_index text k)) 1 0)
  line_goes_on is_not =
      let other : is_newline (get_or text k 0) ≡ false = not_ten (get_or text k 0) _ refl is_not in
      let columns : characters (line_before text (k + 1)) ≡ characters (line_before text k) + cond (begins_character (get_or text k 0)) 1 0 =
      ap characters (line_longer other) ∙ sum_by_push (λ b. cond (begins_character b) 1 0) (line_before text k) (get_or text k 0)
      in
      (ap (λ n. n + 1) (count_by_more_no is_newline text k 0 within other), omega (arith, columns))
