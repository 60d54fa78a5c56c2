-- What the two lines are, by the parts that are appended.
use Rattle.std.proofs.Common.{◌≡◌, ◌≤◌, ℕ, ◌-◌, Bool, List, [], ◌∷◌, ◌++◌, length, drop, min, max, replicate, sym, ap, ◌∙◌, append-nil, append_assoc, arith}
use Rattle.std.specs.Prelude.{nat_lt}
use Rattle.std.specs.List.{flat_map}
use Rattle.txs_reader.specs.Sign.{Sign, signs, room, width, shown, blank}
use Rattle.txs_reader.specs.Window.{total, first_within, last_within, left_part, right_room, begun, is_cut, LeftPart}
use Rattle.txs_reader.specs.Pointed.{mark, seen, seen_part, two_lines}
use Rattle.txs_reader.proofs.Signs.{first_within-all, last_within-room, ltb_same}

-- where all have room nothing is cut
pub seen-all : (n : ℕ) (ss : List Sign) → total room ss ≤ n → seen n ss ≡ flat_map shown ss
seen-all n ss fits =
    ap (λ part. seen_part part ss) (first_within-all ss n fits)
    ∙ ap (λ b. flat_map shown ss ++ mark b 46) (ltb_same (length ss))
    ∙ append-nil (flat_map shown ss)

abbrev lines_by : Bool → List Sign → ℕ → List Sign → ℕ → List ℕ
lines_by cut left limit back carets =
    (mark cut 46 ++ seen 72 left ++ seen limit back ++ 10 ∷ []) ++ (mark cut 32 ++ flat_map blank left ++ replicate carets 94 ++ 10 ∷ [])

pub lines_are : (front back left : List ℕ) (kept from full carets size : ℕ)
    → kept ≡ min 36 (total room (signs back))
    → LeftPart front (72 - kept) from
    → left ≡ drop from front
    → full ≡ min 72 (total room (signs left))
    → carets ≡ max (total width (begun size (first_within (72 - full) (signs back)))) 1
    → lines_by (nat_lt 0 from) (signs left) (72 - full) (signs back) carets ≡ two_lines (signs front) (signs back) size
lines_are front back left kept from full carets size kept_is is left_is full_is carets_is =
    let part = left_part (signs front) (signs back) in
    let rest = right_room (signs front) (signs back) in
    let part_is : signs left ≡ part = ap signs left_is ∙ is.begins ∙ ap (λ k. last_within (72 - k) (signs front)) kept_is in
    let cut_is : nat_lt 0 from ≡ is_cut part (signs front) = is.is_cut ∙ ap (λ p. is_cut p (signs front)) (ap signs (sym left_is) ∙ part_is) in
    let fits : total room part ≤ 72 = omega (arith, last_within-room (signs front) (72 - min 36 (total room (signs back)))) in
    let rest_is : 72 - full ≡ rest = omega (arith, fits, full_is, ap (total room) part_is) in
    let carets_same : carets ≡ max (total width (begun size (first_within rest (signs back)))) 1 = carets_is ∙ ap (λ k. max (total width (begun size (first_within k (signs back)))) 1) rest_is in
    ap (λ p. lines_by (nat_lt 0 from) p (72 - full) (signs back) carets) part_is
    ∙ ap (λ b. lines_by b part (72 - full) (signs back) carets) cut_is
    ∙ ap (λ k. lines_by (is_cut part (signs front)) part k (signs back) carets) rest_is
    ∙ ap (λ k. lines_by (is_cut part (signs front)) part rest (signs back) k) carets_same
    ∙ rw (seen-all 72 part fits) (simp append_assoc)
