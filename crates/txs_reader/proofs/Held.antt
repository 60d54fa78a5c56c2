-- What a window holds.
use Rattle.std.proofs.Common.{◌≡◌, ◌≤◌, ◌<◌, ℕ, ◌+◌, ◌-◌, false, List, [], ◌∷◌, length, take, drop, min, Option, Some, None, ap, ◌∙◌, length-take, arith}
use Rattle.bstr.specs.Utf8.{decoded}
use Rattle.unicode_width.proofs.Rules.{width_or_zero-le}
use Rattle.txs_reader.specs.Sign.{Sign, signs, columns, room, width_of}
use Rattle.txs_reader.specs.Window.{total, first_within, left_part, right_part}
use Rattle.txs_reader.proofs.Signs.{signs-nil, First-decoded, first_within-all, first_within-fits, first_within-room, last_within-all, last_within-room}

pub held-few : (front back : List Sign) → total room (left_part front back) + total room (right_part front back) ≤ 72
held-few front back =
    omega (arith, last_within-room front (72 - min 36 (total room back)), first_within-room back (72 - total room (left_part front back)))

pub held-whole : (front back : List Sign) → total room front + total room back ≤ 72 → (left_part front back ≡ front) × (right_part front back ≡ back)
held-whole front back few =
    let left : left_part front back ≡ front = last_within-all front (72 - min 36 (total room back)) (omega (arith, few)) in
    let is : total room (left_part front back) ≡ total room front = ap (total room) left in
    (left, first_within-all back (72 - total room (left_part front back)) (omega (arith, few, is)))

columns-few : (c : ℕ) → columns c ≤ 6
unfolding columns
columns-few c = let few = width_or_zero-le false c in grind arith

width-few : (c : Option ℕ) (n : ℕ) → n ≤ 4 → width_of c n ≤ 16
width-few None n few = omega (arith, few)
width-few (Some c) n few = omega (arith, columns-few c)

pub held-begins : (front : List Sign) (bytes : List ℕ) → 0 < length (signs bytes) → 0 < length (right_part front (signs bytes))
held-begins front [] some = absurd (omega (arith, some, ap length signs-nil))
held-begins front (b ∷ bytes) some =
    let text = b ∷ bytes in
    let is = First-decoded text (omega arith) in
    let n = (decoded text).size in
    let first : Sign = record { char = (decoded text).char; bytes = take n text } in
    let later = signs (drop n text) in
    let size = length-take n text in
    let small : room first ≤ 36 = omega (arith, width-few first.char (length first.bytes) (omega (arith, size, is.few))) in
    let all : total room (signs text) ≡ room first + total room later = ap (total room) is.splits in
    let left = last_within-room front (72 - min 36 (total room (signs text))) in
    let rest = 72 - total room (left_part front (signs text)) in
    let part : first_within rest (signs text) ≡ first ∷ first_within (rest - room first) later =
    ap (first_within rest) is.splits ∙ first_within-fits rest first later (omega (arith, small, all, left))
    in
    omega (arith, ap length part)
