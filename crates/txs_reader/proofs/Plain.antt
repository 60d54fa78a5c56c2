-- Plain lines, which are shown as they are.
use Rattle.std.proofs.Common.{◌≡◌, ◌≤◌, ◌<◌, ℕ, zero, suc, ◌+◌, ◌-◌, Bool, true, false, cond, List, [], ◌∷◌, ◌++◌, length, take, drop, map, min, max, replicate, Some, refl, sym, ap, ◌∙◌, length-append, arith}
use Rattle.std.proofs.lemmas.Bool.{false≢true, lt-ltb}
use Rattle.std.proofs.lemmas.Bool.Decides.{nat_tests}
use Rattle.std.proofs.lemmas.List.{take_at, drop_at}
use Rattle.std.proofs.lemmas.List.Folds.{list_all-append}
use Rattle.std.specs.List.{flat_map, list_all}
use Rattle.std.specs.Prelude.{slice_index, ◌&&◌, ◌==◌}
use Rattle.bstr.specs.Utf8.{decoded, good}
use Rattle.bstr.proofs.lemmas.PieceLemmas.{value-1}
use Rattle.unicode_width.specs.Width.{char_width}
use Rattle.txs_reader.specs.Place.{line_before, line_behind, line_around}
use Rattle.txs_reader.specs.Sign.{Sign, signs, is_escaped, escaped, columns, room, width, shown, blank}
use Rattle.txs_reader.specs.Window.{total, first_within, left_part, right_room, right_part, begun, is_cut}
use Rattle.txs_reader.specs.Pointed.{seen, two_lines, without_return, pointed}
use Rattle.txs_reader.specs.Safe.{is_plain, plain_blank, plain_lines}
use Rattle.txs_reader.proofs.Signs.{signs-nil, First-decoded, first_within-all, last_within-all, ltb_same}
use Rattle.txs_reader.proofs.TwoLines.{seen-all}

pub both-first : (a b : Bool) → (a && b) ≡ true → a ≡ true
both-first true b h = refl
both-first false b h = h

pub both-second : (a b : Bool) → (a && b) ≡ true → b ≡ true
both-second true b h = h
both-second false b h = absurd (false≢true h)

pub both-true : (a b : Bool) → a ≡ true → b ≡ true → (a && b) ≡ true
both-true true b p q = q
both-true false b p q = p

-- the sign of a plain byte
abbrev of_byte : ℕ → Sign
of_byte b = record { char = Some b; bytes = b ∷ [] }

abbrev AllPlain : List ℕ → Type 0
AllPlain xs = list_all is_plain xs ≡ true

plain-first : (x : ℕ) (xs : List ℕ) → AllPlain (x ∷ xs) → is_plain x ≡ true
plain-first x xs h = both-first (is_plain x) (list_all is_plain xs) h

plain-rest : (x : ℕ) (xs : List ℕ) → AllPlain (x ∷ xs) → AllPlain xs
plain-rest x xs h = both-second (is_plain x) (list_all is_plain xs) h

plain-columns : (b : ℕ) → is_plain b ≡ true → columns b ≡ 1
unfolding columns is_escaped char_width
plain-columns b h = grind (arith, nat_tests)

plain-escaped : (b : ℕ) → is_plain b ≡ true → is_escaped b ≡ false
unfolding is_escaped
plain-escaped b h = grind (arith, nat_tests)

plain-decoded : (b : ℕ) (bs : List ℕ) → is_plain b ≡ true → decoded (b ∷ bs) ≡ good b 1
plain-decoded b bs h =
    let low : b < 0x80 = grind (arith, nat_tests) in
    value-1 (length (b ∷ bs)) b (slice_index (b ∷ bs) 1) (slice_index (b ∷ bs) 2) (slice_index (b ∷ bs) 3) (omega arith, low)

-- the signs of a plain text
plain-signs : (bs : List ℕ) → AllPlain bs → signs bs ≡ map of_byte bs
plain-signs [] h = signs-nil
plain-signs (b ∷ bs) h =
    (First-decoded (b ∷ bs) (omega arith)).splits
    ∙ ap (λ p. record { char = p.char; bytes = take p.size (b ∷ bs) } ∷ signs (drop p.size (b ∷ bs))) (plain-decoded b bs (plain-first b bs h))
    ∙ ap (λ ss. of_byte b ∷ ss) (plain-signs bs (plain-rest b bs h))

plain-room : (bs : List ℕ) → AllPlain bs → total room (map of_byte bs) ≡ length bs
plain-room [] h = refl
plain-room (b ∷ bs) h =
    let one = plain-columns b (plain-first b bs h) in
    let rest = plain-room bs (plain-rest b bs h) in
    omega (arith, one, rest)

plain-wide : (bs : List ℕ) → AllPlain bs → total width (map of_byte bs) ≡ length bs
plain-wide [] h = refl
plain-wide (b ∷ bs) h =
    let one = plain-columns b (plain-first b bs h) in
    let rest = plain-wide bs (plain-rest b bs h) in
    omega (arith, one, rest)

plain-shown : (bs : List ℕ) → AllPlain bs → flat_map shown (map of_byte bs) ≡ bs
plain-shown [] h = refl
plain-shown (b ∷ bs) h =
    ap (λ t. cond t (escaped b) (b ∷ []) ++ flat_map shown (map of_byte bs)) (plain-escaped b (plain-first b bs h))
    ∙ ap (λ xs. b ∷ xs) (plain-shown bs (plain-rest b bs h))

blank-by : (t : Bool) → cond {A = List ℕ} t (9 ∷ []) (replicate 1 32) ≡ cond {A = ℕ} t 9 32 ∷ []
blank-by true = refl
blank-by false = refl

plain-blanks : (bs : List ℕ) → AllPlain bs → flat_map blank (map of_byte bs) ≡ map plain_blank bs
plain-blanks [] h = refl
plain-blanks (b ∷ bs) h =
    ap (λ n. cond (b == 9) (9 ∷ []) (replicate n 32) ++ flat_map blank (map of_byte bs)) (plain-columns b (plain-first b bs h))
    ∙ ap (λ xs. xs ++ flat_map blank (map of_byte bs)) (blank-by (b == 9))
    ∙ ap (λ xs. plain_blank b ∷ xs) (plain-blanks bs (plain-rest b bs h))

plain-begun : (n : ℕ) (bs : List ℕ) → begun n (map of_byte bs) ≡ map of_byte (take n bs)
plain-begun zero [] = refl
plain-begun (suc n) [] = refl
plain-begun zero (b ∷ bs) = refl
plain-begun (suc n) (b ∷ bs) =
    let less : suc n - 1 ≡ n = omega arith in
    ap (λ t. cond t (of_byte b ∷ begun (suc n - 1) (map of_byte bs)) []) (lt-ltb 0 (suc n) (omega arith))
    ∙ ap (λ k. of_byte b ∷ begun k (map of_byte bs)) less
    ∙ ap (λ ss. of_byte b ∷ ss) (plain-begun n bs)

plain-take : (n : ℕ) (bs : List ℕ) → AllPlain bs → AllPlain (take n bs)
plain-take zero bs h = refl
plain-take (suc n) [] h = refl
plain-take (suc n) (b ∷ bs) h = both-true (is_plain b) (list_all is_plain (take n bs)) (plain-first b bs h) (plain-take n bs (plain-rest b bs h))

-- the two lines
plain-two : (xs ys : List ℕ) (size : ℕ) → AllPlain xs → AllPlain ys → length xs + length ys ≤ 72
    → two_lines (signs xs) (signs ys) size ≡ (xs ++ ys) ++ 10 ∷ map plain_blank xs ++ replicate (max (length (take size ys)) 1) 94 ++ 10 ∷ []
plain-two xs ys size hx hy few =
    let fs = map of_byte xs in
    let bs = map of_byte ys in
    let room_x = plain-room xs hx in
    let room_y = plain-room ys hy in
    let left : left_part fs bs ≡ fs = last_within-all fs (72 - min 36 (total room bs)) (omega (arith, room_x, room_y, few)) in
    let rest : right_room fs bs ≡ 72 - length xs = ap (λ ss. 72 - total room ss) left ∙ ap (λ n. 72 - n) room_x in
    let right : right_part fs bs ≡ bs = ap (λ n. first_within n bs) rest ∙ first_within-all bs (72 - length xs) (omega (arith, room_y, few)) in
    let text : seen (right_room fs bs) bs ≡ ys = ap (λ n. seen n bs) rest ∙ seen-all (72 - length xs) bs (omega (arith, room_y, few)) ∙ plain-shown ys hy in
    let whole : is_cut (left_part fs bs) fs ≡ false = ap (λ ss. is_cut ss fs) left ∙ ltb_same (length fs) in
    let shown_x : flat_map shown (left_part fs bs) ≡ xs = ap (flat_map shown) left ∙ plain-shown xs hx in
    let blank_x : flat_map blank (left_part fs bs) ≡ map plain_blank xs = ap (flat_map blank) left ∙ plain-blanks xs hx in
    let wide : total width (begun size (right_part fs bs)) ≡ length (take size ys) =
    ap (λ ss. total width (begun size ss)) right ∙ ap (total width) (plain-begun size ys) ∙ plain-wide (take size ys) (plain-take size ys hy)
    in
    ap (λ ss. two_lines ss (signs ys) size) (plain-signs xs hx)
    ∙ ap (λ ss. two_lines fs ss size) (plain-signs ys hy)
    ∙ rw (whole, shown_x, text, blank_x, wide) refl

-- no carriage return is at the end of a plain line
plain-return : (bs : List ℕ) (k : ℕ) → AllPlain bs → slice_index bs k == 13 ≡ false
plain-return [] k h = refl
plain-return (b ∷ bs) zero h = let plain = plain-first b bs h in grind (arith, nat_tests)
plain-return (b ∷ bs) (suc k) h = plain-return bs k (plain-rest b bs h)

plain-kept : (line : List ℕ) → AllPlain line → without_return line ≡ line
plain-kept line h = ap (λ t. cond t (take (length line - 1) line) line) (plain-return line (length line - 1) h)

pub pointed-plain : (text : List ℕ) (start end : ℕ) → AllPlain (line_around text start) → length (line_around text start) ≤ 72 → pointed text start end ≡ plain_lines text start end
pointed-plain text start end h few =
    let xs = line_before text start in
    let ys = line_behind text start in
    let both = sym (list_all-append is_plain xs ys) ∙ h in
    let front_is : take (length xs) (without_return (xs ++ ys)) ≡ xs = ap (take (length xs)) (plain-kept (xs ++ ys) h) ∙ take_at xs ys (length xs) refl in
    let back_is : drop (length xs) (without_return (xs ++ ys)) ≡ ys = ap (drop (length xs)) (plain-kept (xs ++ ys) h) ∙ drop_at xs ys (length xs) refl in
    ap (λ fs. two_lines (signs fs) (signs (drop (length xs) (without_return (xs ++ ys)))) (end - start)) front_is
    ∙ ap (λ bs. two_lines (signs xs) (signs bs) (end - start)) back_is
    ∙ plain-two xs ys (end - start) (both-first (list_all is_plain xs) (list_all is_plain ys) both) (both-second (list_all is_plain xs) (list_all is_plain ys) both) (omega (arith, length-append xs ys, few))
