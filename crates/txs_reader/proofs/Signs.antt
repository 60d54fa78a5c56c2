-- Signs, one by one.
use Rattle.std.proofs.Common.{⊎_elim, false, cond, ltb, None, append-nil, ◌≡◌, ◌≤◌, ◌<◌, ℕ, zero, suc, ◌+◌, ◌-◌, List, [], ◌∷◌, ◌++◌, length, take, drop, max, Option, refl, sym, ap, ◌∙◌, subst, arith, length-append, length-drop, append_assoc}
use Rattle.std.proofs.lemmas.List.{drop-take, length-take-le, take-take, drop-drop, take_all}
use Rattle.std.proofs.Math.Seq.{drop-length}
use Rattle.bstr.specs.Utf8.{Decoded, decoded, pieces, IsLastPiece}
use Rattle.bstr.proofs.lemmas.PieceLemmas.{piece-bounds, pieces-nil, pieces-step, pieces-sizes, sizes}
use Rattle.bstr.proofs.lemmas.SoundLemmas.{IsLastPiece-decoded}
use Rattle.std.proofs.lemmas.Bool.{cases_lt, le-leb, lt-leb, lt-ltb}
use Rattle.std.proofs.lemmas.Bool.Decides.{nat_tests}
use Rattle.txs_reader.specs.Sign.{Sign, cut, signs, room, width, width_of, First, Last}
use Rattle.txs_reader.specs.Window.{total, first_within, last_within, begun, is_cut, LeftPart}

pub signs-nil : signs [] ≡ []
unfolding signs
signs-nil = ap (λ ps. cut ps []) pieces-nil

pub First-decoded : (bytes : List ℕ) → 0 < length bytes → First bytes (decoded bytes).char (decoded bytes).size
unfolding signs
First-decoded bytes some =
    let bounds = piece-bounds bytes some in
    record { some = bounds.0; few = bounds.1; within = bounds.2; splits = ap (λ ps. cut ps bytes) (pieces-step bytes some) }

-- pieces put end to end, over the bytes that they are of
cut-append : (ps qs : List Decoded) (bytes : List ℕ) → cut (ps ++ qs) bytes ≡ cut ps (take (sizes ps) bytes) ++ cut qs (drop (sizes ps) bytes)
unfolding sizes
cut-append [] qs bytes = refl
cut-append (p ∷ ps) qs bytes =
    let n = sizes ps in
    let first : take p.size bytes ≡ take p.size (take (p.size + n) bytes) = sym (take-take p.size (p.size + n) bytes (omega arith)) in
    let rest : cut (ps ++ qs) (drop p.size bytes) ≡ cut ps (drop p.size (take (p.size + n) bytes)) ++ cut qs (drop (p.size + n) bytes) =
    cut-append ps qs (drop p.size bytes)
    ∙ ap (λ xs. cut ps xs ++ cut qs (drop n (drop p.size bytes))) (sym (drop-take p.size n bytes))
    ∙ ap (λ xs. cut ps (drop p.size (take (p.size + n) bytes)) ++ cut qs xs) (drop-drop n p.size bytes)
    in
    ap (λ xs. record { char = p.char; bytes = xs } ∷ cut (ps ++ qs) (drop p.size bytes)) first
    ∙ ap (λ ss. record { char = p.char; bytes = take p.size (take (p.size + n) bytes) } ∷ ss) rest

pub Last-piece : (bytes : List ℕ) (p : Decoded) → IsLastPiece bytes p → Last bytes p.char p.size
unfolding signs
Last-piece bytes p is =
    let n = length bytes - p.size in
    let front = take n bytes in
    let long : length front ≡ n = length-take-le n bytes (omega arith) in
    let size : sizes (pieces front) ≡ n = pieces-sizes (length front) front (omega arith) ∙ long in
    let back : length (drop n bytes) ≡ p.size = omega (arith, length-drop n bytes, is.fits) in
    let bounds = piece-bounds (drop n bytes) (omega (arith, back, is.some)) in
    let few : p.size ≤ 4 = subst (λ q. q.size ≤ 4) (sym (IsLastPiece-decoded bytes p is)) bounds.1 in
    record {
      some = is.some;
      few = few;
      within = is.fits;
      splits =
          ap (λ ps. cut ps bytes) is.splits
          ∙ cut-append (pieces front) (p ∷ []) bytes
          ∙ ap (λ k. cut (pieces front) (take k bytes) ++ record { char = p.char; bytes = take p.size (drop k bytes) } ∷ []) size
          ∙ ap (λ xs. cut (pieces front) front ++ record { char = p.char; bytes = xs } ∷ []) (take_all p.size (drop n bytes) (omega arith));
    }

-- ---- what one sign adds

pub first_within-fits : (n : ℕ) (s : Sign) (ss : List Sign) → room s ≤ n → first_within n (s ∷ ss) ≡ s ∷ first_within (n - room s) ss
first_within-fits n s ss fits = ap (λ b. cond b (s ∷ first_within (n - room s) ss) []) (le-leb (room s) n fits)

first_within-over : (n : ℕ) (s : Sign) (ss : List Sign) → n < room s → first_within n (s ∷ ss) ≡ []
first_within-over n s ss over = ap (λ b. cond b (s ∷ first_within (n - room s) ss) []) (lt-leb (room s) n over)

pub begun-none : (ss : List Sign) → total width (begun 0 ss) ≡ 0
begun-none [] = refl
begun-none (s ∷ ss) = ap (λ b. total width (cond b (s ∷ begun (0 - length s.bytes) ss) [])) no_less
  where
    no_less : ltb 0 0 ≡ false
    no_less = refl

-- ---- where the signs at the end of a text begin

-- the bytes of signs
abbrev spelled : List Sign → ℕ
spelled ss = total (λ s. length s.bytes) ss

spelled-signs : (f : ℕ) (bytes : List ℕ) → length bytes ≤ f → spelled (signs bytes) ≡ length bytes
spelled-signs f [] le = ap spelled signs-nil
spelled-signs zero (b ∷ bytes) le = absurd (omega arith)
spelled-signs (suc f) (b ∷ bytes) le =
    let text = b ∷ bytes in
    let is = First-decoded text (omega arith) in
    let n = (decoded text).size in
    let left = length-drop n text in
    ap spelled is.splits
    ∙ ap (λ k. k + spelled (signs (drop n text))) (length-take-le n text is.within)
    ∙ ap (λ k. n + k) (spelled-signs f (drop n text) (omega (arith, left, is.some)))
    ∙ omega (arith, left, is.within)

abbrev heads : List Sign → Sign
heads [] = record { char = None; bytes = [] }
heads (s ∷ ss) = s

abbrev tails : List Sign → List Sign
tails [] = []
tails (s ∷ ss) = ss

-- what is behind some signs of a text are the signs of what is behind their bytes
rest_is : (xs ys : List Sign) (bytes : List ℕ) → signs bytes ≡ xs ++ ys → signs (drop (spelled xs) bytes) ≡ ys
rest_is [] ys bytes is = is
rest_is (x ∷ xs) ys [] is = absurd (nil≢cons (sym signs-nil ∙ is))
  where
    nil≢cons : {s : Sign} {ss : List Sign} → [] ≡ s ∷ ss → ⊥
    nil≢cons e = omega (arith, ap length e)
rest_is (x ∷ xs) ys (b ∷ bytes) is =
    let text = b ∷ bytes in
    let first = First-decoded text (omega arith) in
    let n = (decoded text).size in
    let both = sym first.splits ∙ is in
    let size : n ≡ length x.bytes = sym (length-take-le n text first.within) ∙ ap (λ ss. length (heads ss).bytes) both in
    ap signs (sym (drop-drop (spelled xs) (length x.bytes) text))
    ∙ ap (λ k. signs (drop (spelled xs) (drop k text))) (sym size)
    ∙ rest_is xs ys (drop n text) (ap tails both)

-- the signs at the front that have room, where all have
pub first_within-all : (ss : List Sign) (k : ℕ) → total room ss ≤ k → first_within k ss ≡ ss
first_within-all [] k fits = refl
first_within-all (s ∷ ss) k fits = first_within-fits k s ss (omega (arith, fits)) ∙ ap (λ xs. s ∷ xs) (first_within-all ss (k - room s) (omega (arith, fits)))

pub first_within-room : (ss : List Sign) (k : ℕ) → total room (first_within k ss) ≤ k
first_within-room [] k = omega arith
first_within-room (s ∷ ss) k =
    ⊎_elim
    (λ over. omega (arith, ap (total room) (first_within-over k s ss over)))
    (λ fits. omega (arith, fits, ap (total room) (first_within-fits k s ss fits), first_within-room ss (k - room s)))
    (cases_lt k (room s))

-- the signs at the end that have room, where all have, and where the one before them hasn't
pub last_within-all : (ss : List Sign) (k : ℕ) → total room ss ≤ k → last_within k ss ≡ ss
last_within-all [] k fits = refl
last_within-all (s ∷ ss) k fits = ap (λ b. cond b (s ∷ ss) (last_within k ss)) (le-leb (total room (s ∷ ss)) k fits)

total-append : (f : Sign → ℕ) (xs ys : List Sign) → total f (xs ++ ys) ≡ total f xs + total f ys
total-append f [] ys = omega arith
total-append f (x ∷ xs) ys = ap (λ n. f x + n) (total-append f xs ys) ∙ omega arith

last_within-skips : (xs : List Sign) (s : Sign) (ys : List Sign) (k : ℕ) → total room ys ≤ k → k < room s + total room ys → last_within k (xs ++ s ∷ ys) ≡ ys
last_within-skips [] s ys k fits over =
    ap (λ b. cond b (s ∷ ys) (last_within k ys)) (lt-leb (total room (s ∷ ys)) k over) ∙ last_within-all ys k fits
last_within-skips (x ∷ xs) s ys k fits over =
    let more = total-append room xs (s ∷ ys) in
    ap (λ b. cond b (x ∷ (xs ++ s ∷ ys)) (last_within k (xs ++ s ∷ ys))) (lt-leb (total room (x ∷ (xs ++ s ∷ ys))) k (omega (arith, more, over)))
    ∙ last_within-skips xs s ys k fits over

pub last_within-room : (ss : List Sign) (k : ℕ) → total room (last_within k ss) ≤ k
last_within-room [] k = omega arith
last_within-room (s ∷ ss) k =
    ⊎_elim
    (λ over. omega (arith, last_within-room ss k, ap (λ b. total room (cond b (s ∷ ss) (last_within k ss))) (lt-leb (total room (s ∷ ss)) k over)))
    (λ fits. omega (arith, fits, ap (total room) (last_within-all (s ∷ ss) k fits)))
    (cases_lt k (total room (s ∷ ss)))

pub ltb_same : (n : ℕ) → ltb n n ≡ false
ltb_same n = grind (arith, nat_tests)

pub signs-empty : (bytes : List ℕ) → length bytes ≡ 0 → signs bytes ≡ []
signs-empty [] none = signs-nil
signs-empty (b ∷ bytes) none = absurd (omega (arith, none))

-- these signs at the end of a text have room, and what is left of it
pub record Split (bytes : List ℕ) (limit from left : ℕ) : Type 0 where
  pub within : from ≤ length bytes
  pub parts : signs bytes ≡ signs (take from bytes) ++ signs (drop from bytes)
  pub room : left + total room (signs (drop from bytes)) ≡ limit

pub Split-all : (bytes : List ℕ) (limit : ℕ) → Split bytes limit (length bytes) limit
Split-all bytes limit =
    let none : signs (drop (length bytes) bytes) ≡ [] = ap signs (drop-length bytes) ∙ signs-nil in
    record {
      within = omega arith;
      parts = sym (append-nil (signs bytes)) ∙ ap (λ xs. signs xs ++ []) (sym (take_all (length bytes) bytes (omega arith))) ∙ ap (λ ss. signs (take (length bytes) bytes) ++ ss) (sym none);
      room = ap (λ ss. limit + total room ss) none ∙ omega arith;
    }

module _ (bytes : List ℕ) (limit from left : ℕ) (now : Split bytes limit from left) (c : Option ℕ) (n : ℕ) (is : Last (take from bytes) c n) where
  abbrev last : Sign
  last = record { char = c; bytes = drop (length (take from bytes) - n) (take from bytes) }

  abbrev fewer : List ℕ
  fewer = take (from - n) bytes

  front_long : length (take from bytes) ≡ from
  front_long = length-take-le from bytes now.within

  last_long : length last.bytes ≡ n
  last_long = omega (arith, length-drop (length (take from bytes) - n) (take from bytes), is.within)

  last_room : room last ≡ max (width_of c n) 1
  last_room = ap (λ k. max (width_of c k) 1) last_long

  front_less : take (length (take from bytes) - n) (take from bytes) ≡ fewer
  front_less = take-take (length (take from bytes) - n) from bytes (omega (arith, front_long)) ∙ ap (λ k. take (k - n) bytes) front_long

  split_there : signs bytes ≡ signs fewer ++ (last ∷ signs (drop from bytes))
  split_there =
      now.parts
      ∙ ap (λ ss. ss ++ signs (drop from bytes)) (is.splits ∙ ap (λ xs. signs xs ++ last ∷ []) front_less)
      ∙ append_assoc (signs fewer) (last ∷ []) (signs (drop from bytes))

  back_more : signs (drop (from - n) bytes) ≡ last ∷ signs (drop from bytes)
  back_more =
      let size : spelled (signs fewer) ≡ from - n = spelled-signs (length fewer) fewer (omega arith) ∙ length-take-le (from - n) bytes (omega (arith, now.within)) in
      ap (λ k. signs (drop k bytes)) (sym size) ∙ rest_is (signs fewer) (last ∷ signs (drop from bytes)) bytes split_there

  pub Split-more : max (width_of c n) 1 ≤ left → Split bytes limit (from - n) (left - max (width_of c n) 1)
  Split-more fits = record {
    within = omega (arith, now.within);
    parts = split_there ∙ ap (λ ss. signs fewer ++ ss) (sym back_more);
    room = ap (λ ss. left - max (width_of c n) 1 + total room ss) back_more ∙ omega (arith, last_room, now.room, fits);
  }

  pub Split-over : left < max (width_of c n) 1 → 0 < from → LeftPart bytes limit from
  Split-over over some =
      let back = signs (drop from bytes) in
      record {
        within = now.within;
        begins = sym (ap (last_within limit) split_there ∙ last_within-skips (signs fewer) last back limit (omega (arith, now.room)) (omega (arith, now.room, last_room, over)));
        is_cut = lt-ltb 0 from some ∙ sym (lt-ltb (length back) (length (signs bytes)) (omega (arith, ap length split_there, length-append (signs fewer) (last ∷ back))));
      }

pub Split-none : (bytes : List ℕ) (limit from left : ℕ) → Split bytes limit from left → from ≡ 0 → LeftPart bytes limit from
Split-none bytes limit from left now none =
    let whole : signs (drop from bytes) ≡ signs bytes = ap (λ k. signs (drop k bytes)) none in
    record {
      within = now.within;
      begins = whole ∙ sym (last_within-all (signs bytes) limit (omega (arith, now.room, ap (total room) whole)));
      is_cut = ap (λ k. ltb 0 k) none ∙ sym (ap (λ ss. is_cut ss (signs bytes)) whole ∙ ltb_same (length (signs bytes)));
    }
