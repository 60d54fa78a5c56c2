-- What stands at the front of a text is one piece alone.
use Rattle.std.proofs.Common.{◌≡◌, ℕ, Bool, true, false, not, cond, ◌&&◌, ◌||◌, eqb, List, [], ◌∷◌, ◌++◌, Option, None, Some, Result, Ok, refl, sym, ap, ◌∙◌, append_assoc, arith}
use Rattle.std.specs.List.{list_all, flat_map}
use Rattle.txs_reader.specs.Quoted.{part_text}
use Rattle.txs_reader.proofs.Texts.{one_text, quote_no_part}
use Rattle.std.proofs.lemmas.Bool.{false≢true}
use Rattle.std.proofs.lemmas.Bool.Decides.{nat_tests}
use Rattle.txs_reader.specs.declared.form.Bracket.{Bracket}
use Rattle.txs_reader.specs.declared.form.Bracket.TheVariants.{Round, Square}
use Rattle.txs_reader.specs.declared.error.ReadErrorKind.{ReadErrorKind}
use Rattle.txs_reader.specs.Bytes.{is_white, is_left_out_byte, is_mark, is_word_byte, begins_part, begins_with, meaning}
use Rattle.txs_reader.specs.Tree.{Leaf}
use Rattle.txs_reader.specs.Script.{Piece, White, Comment, Opening, Closing, Quoted, Word, opening_byte, closing_byte, written, IsWord, IsPiece, EndsAt}

-- ---- the class of a byte

abbrev pub classed : (a b c d e f : Bool) → ℕ
classed a b c d e f = cond a 0 (cond b 1 (cond c 2 (cond d 3 (cond e 4 (cond f 6 5)))))

abbrev pub class : ℕ → ℕ
class b = classed (is_white b) (is_left_out_byte b) (eqb b 59) (eqb b 40 || eqb b 91 || eqb b 64) (eqb b 41 || eqb b 93) (eqb b 34)

-- the class of the first byte
abbrev pub rank : Piece → ℕ
rank (White b) = 0
rank (Comment c) = 2
rank (Opening b) = 3
rank (Closing b) = 4
rank (Word w x) = 5
rank (Quoted ps) = 6

white_class : (b : ℕ) → is_white b ≡ true → class b ≡ 0
white_class b e = rw e refl

left_out_white : (b : ℕ) → is_left_out_byte b ≡ true → is_white b ≡ false
unfolding is_white is_left_out_byte
left_out_white b e = grind (arith, nat_tests)

pub left_out_class : (b : ℕ) → is_left_out_byte b ≡ true → class b ≡ 1
left_out_class b e = rw (left_out_white b e, e) refl

pub comment_class : class 59 ≡ 2
unfolding is_white is_left_out_byte
comment_class = refl

pub opening_class : (b : Option Bracket) → class (opening_byte b) ≡ 3
unfolding is_white is_left_out_byte
opening_class None = refl
opening_class (Some Round) = refl
opening_class (Some Square) = refl

pub quote_class : class 34 ≡ 6
unfolding is_white is_left_out_byte
quote_class = refl

pub closing_class : (b : Bracket) → class (closing_byte b) ≡ 4
unfolding is_white is_left_out_byte
closing_class Round = refl
closing_class Square = refl

split_word : (a b c d e f g h i : Bool) → not (a || b || (c || d || e || f || g || h || i)) ≡ true → classed a b c (d || f || h) (e || g) i ≡ 5
split_word true b c d e f g h i p = absurd cc
split_word false true c d e f g h i p = absurd cc
split_word false false true d e f g h i p = absurd cc
split_word false false false true e f g h i p = absurd cc
split_word false false false false true f g h i p = absurd cc
split_word false false false false false true g h i p = absurd cc
split_word false false false false false false true h i p = absurd cc
split_word false false false false false false false true i p = absurd cc
split_word false false false false false false false false true p = absurd cc
split_word false false false false false false false false false p = refl

pub word_class : (b : ℕ) → is_word_byte b ≡ true → class b ≡ 5
unfolding is_word_byte is_mark
word_class b e = split_word (is_white b) (is_left_out_byte b) (eqb b 59) (eqb b 40) (eqb b 41) (eqb b 91) (eqb b 93) (eqb b 64) (eqb b 34) e

-- what begins a part is in none of the other classes
split_part : (a b c d e f g : Bool) → not (a || c || d || e) ≡ true → (classed a b c f (d || e) g ≡ 0 → ⊥) × (classed a b c f (d || e) g ≡ 2 → ⊥) × (classed a b c f (d || e) g ≡ 4 → ⊥) × (classed a b c f (d || e) g ≡ 9 → ⊥)
split_part true b c d e f g p = absurd cc
split_part false b true d e f g p = absurd cc
split_part false b false true e f g p = absurd cc
split_part false b false false true f g p = absurd cc
split_part false true false false false f g p = (λ h. omega (arith, h), λ h. omega (arith, h), λ h. omega (arith, h), λ h. omega (arith, h))
split_part false false false false false true g p = (λ h. omega (arith, h), λ h. omega (arith, h), λ h. omega (arith, h), λ h. omega (arith, h))
split_part false false false false false false true p = (λ h. omega (arith, h), λ h. omega (arith, h), λ h. omega (arith, h), λ h. omega (arith, h))
split_part false false false false false false false p = (λ h. omega (arith, h), λ h. omega (arith, h), λ h. omega (arith, h), λ h. omega (arith, h))

pub record PartClass (b : ℕ) : Type 0 where
  pub not_white : class b ≡ 0 → ⊥
  pub not_comment : class b ≡ 2 → ⊥
  pub not_closing : class b ≡ 4 → ⊥
  pub not_end : class b ≡ 9 → ⊥

pub part_class : (b : ℕ) → begins_part b ≡ true → PartClass b
unfolding begins_part
part_class b e =
    let s = split_part (is_white b) (is_left_out_byte b) (eqb b 59) (eqb b 41) (eqb b 93) (eqb b 40 || eqb b 91 || eqb b 64) (eqb b 34) e in
    record { not_white = s.0; not_comment = s.1; not_closing = s.2; not_end = s.3 }

-- the class of the first byte, 9 for none
abbrev pub class_of : List ℕ → ℕ
class_of [] = 9
class_of (b ∷ bs) = class b

and_left : (a b : Bool) → (a && b) ≡ true → a ≡ true
and_left true b h = refl
and_left false b h = absurd (false≢true h)

and_right : (a b : Bool) → (a && b) ≡ true → b ≡ true
and_right true b h = h
and_right false b h = absurd (false≢true h)

pub word_front : (w more : List ℕ) → IsWord w → class_of (w ++ more) ≡ 5
word_front [] more h = absurd (omega (arith, h.0))
word_front (b ∷ w) more h = word_class b (and_left _ _ h.1)

pub piece_front : (p : Piece) (more : List ℕ) → IsPiece p → class_of (written p ++ more) ≡ rank p
piece_front (White b) more is = white_class b is
piece_front (Comment c) more is = comment_class
piece_front (Opening b) more is = opening_class b
piece_front (Closing b) more is = closing_class b
piece_front (Quoted ps) more is = quote_class
piece_front (Word w x) more is = word_front w more is.0

-- ---- one piece alone

-- two runs as long as they can be are one
pub one_run : (test : ℕ → Bool) (a b x y : List ℕ) → a ++ x ≡ b ++ y → list_all test a ≡ true → list_all test b ≡ true → begins_with test x ≡ false → begins_with test y ≡ false → (a ≡ b) × (x ≡ y)
one_run test [] [] x y e p q r s = (refl, e)
one_run test [] (d ∷ b) x y e p q r s = absurd (false≢true (sym r ∙ ap (begins_with test) e ∙ and_left _ _ q))
one_run test (c ∷ a) [] x y e p q r s = absurd (false≢true (sym s ∙ ap (begins_with test) (sym e) ∙ and_left _ _ p))
one_run test (c ∷ a) (d ∷ b) x y e p q r s =
    let heads : c ≡ d = cc in
    let tails : a ++ x ≡ b ++ y = cc in
    let rest = one_run test a b x y tails (and_right _ _ p) (and_right _ _ q) r s in
    (let k : a ≡ b = rest.0 in cc, rest.1)

opening_one : (b c : Option Bracket) → opening_byte b ≡ opening_byte c → b ≡ c
opening_one None None e = refl
opening_one (Some Round) (Some Round) e = refl
opening_one (Some Square) (Some Square) e = refl
opening_one None (Some Round) e = absurd (omega (arith, e))
opening_one None (Some Square) e = absurd (omega (arith, e))
opening_one (Some Round) None e = absurd (omega (arith, e))
opening_one (Some Square) None e = absurd (omega (arith, e))
opening_one (Some Round) (Some Square) e = absurd (omega (arith, e))
opening_one (Some Square) (Some Round) e = absurd (omega (arith, e))

pub closing_one : (b c : Bracket) → closing_byte b ≡ closing_byte c → b ≡ c
closing_one Round Round e = refl
closing_one Square Square e = refl
closing_one Round Square e = absurd (omega (arith, e))
closing_one Square Round e = absurd (omega (arith, e))

abbrev ok : Leaf → Result Leaf ReadErrorKind
ok x = Ok x

ok_one : (x y : Leaf) → ok x ≡ ok y → x ≡ y
ok_one x y e = cc

same_rank : (p q : Piece) (x y : List ℕ) → written p ++ x ≡ written q ++ y → IsPiece p → IsPiece q → rank p ≡ rank q
same_rank p q x y e is_p is_q = sym (piece_front p x is_p) ∙ ap class_of e ∙ piece_front q y is_q

by_rank : (p q : Piece) (x y : List ℕ) → rank p ≡ rank q → written p ++ x ≡ written q ++ y → IsPiece p → IsPiece q → EndsAt p x → EndsAt q y → (p ≡ q) × (x ≡ y)
by_rank (White b) (White c) x y r e is_p is_q p_ends q_ends = (let k : b ≡ c = cc in ap White k, cc)
by_rank (Comment b) (Comment c) x y r e is_p is_q p_ends q_ends =
    let tails : b ++ x ≡ c ++ y = cc in
    let one = one_run _ b c x y tails is_p is_q p_ends q_ends in
    (ap Comment one.0, one.1)
by_rank (Opening b) (Opening c) x y r e is_p is_q p_ends q_ends = (let k : opening_byte b ≡ opening_byte c = cc in ap Opening (opening_one b c k), cc)
by_rank (Closing b) (Closing c) x y r e is_p is_q p_ends q_ends = (let k : closing_byte b ≡ closing_byte c = cc in ap Closing (closing_one b c k), cc)
by_rank (Quoted b) (Quoted c) x y r e is_p is_q p_ends q_ends =
    let tails : (flat_map part_text b ++ 34 ∷ []) ++ x ≡ (flat_map part_text c ++ 34 ∷ []) ++ y = cc in
    let one = one_text b c (34 ∷ x) (34 ∷ y) (sym (append_assoc (flat_map part_text b) (34 ∷ []) x) ∙ tails ∙ append_assoc (flat_map part_text c) (34 ∷ []) y) is_p.0 is_q.0 (quote_no_part x) (quote_no_part y) in
    let rest : 34 ∷ x ≡ 34 ∷ y = one.1 in
    (ap Quoted one.0, cc)
by_rank (Word v i) (Word w j) x y r e is_p is_q p_ends q_ends =
    let one = one_run is_word_byte v w x y e is_p.0.1 is_q.0.1 p_ends q_ends in
    let leaves : i ≡ j = ok_one i j (sym is_p.1 ∙ ap meaning one.0 ∙ is_q.1) in
    let words : v ≡ w = one.0 in
    (cc, one.1)
by_rank p q x y r e is_p is_q p_ends q_ends = absurd (omega (arith, r))

pub one_piece : (p q : Piece) (x y : List ℕ) → written p ++ x ≡ written q ++ y → IsPiece p → IsPiece q → EndsAt p x → EndsAt q y → (p ≡ q) × (x ≡ y)
one_piece p q x y e is_p is_q p_ends q_ends = by_rank p q x y (same_rank p q x y e is_p is_q) e is_p is_q p_ends q_ends
