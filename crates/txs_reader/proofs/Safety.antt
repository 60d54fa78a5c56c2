-- What is shown is safe.
use Rattle.std.proofs.Common.{◌≡◌, ◌≤◌, ◌<◌, ℕ, zero, suc, ◌-◌, ◌*◌, ◌/◌, ◌%◌, Bool, true, false, cond, not, leb, List, [], ◌∷◌, ◌++◌, length, take, drop, replicate, min, max, Option, Some, None, refl, sym, ap, ◌∙◌, subst, append-nil, append_assoc, length-drop, arith}
use Rattle.std.proofs.lemmas.Bool.Decides.{nat_tests}
use Rattle.std.proofs.lemmas.List.{take_at}
use Rattle.std.proofs.lemmas.List.Folds.{list_all-append}
use Rattle.std.proofs.Math.Utf8.{scalar}
use Rattle.std.proofs.lemmas.Str.{encode_ascii, encodes-append}
use Rattle.std.specs.Char.{digit_char, encode_utf8}
use Rattle.std.specs.List.{flat_map}
use Rattle.std.specs.Prelude.{◌==◌, encode_utf8_all}
use Rattle.std.specs.Str.{all_scalars}
use Rattle.bstr.specs.Utf8.{decoded}
use Rattle.bstr.proofs.lemmas.SoundLemmas.{SpellsChar, SpellsChar-decoded}
use Rattle.txs_reader.specs.Place.{line_before}
use Rattle.txs_reader.specs.Sign.{Sign, signs, is_escaped, columns, room, width, digit, escaped, escaped_byte, shown_of, shown, blank_of, blank}
use Rattle.txs_reader.specs.Window.{total, first_within, last_within, left_part, right_room, right_part, begun, is_cut}
use Rattle.txs_reader.specs.Pointed.{line_shown, mark, seen, upper, indent, carets, two_lines, front, back, pointed}
use Rattle.txs_reader.specs.Safe.{Safe, SafeLines}
use Rattle.txs_reader.proofs.Plain.{both-first, both-second, both-true}
use Rattle.txs_reader.proofs.Signs.{signs-nil, First-decoded}

Safe-nil : Safe []
Safe-nil = record { chars = []; spells = refl; scalars = refl; unescaped = refl }

all_scalars-append : (xs ys : List ℕ) → all_scalars xs ≡ true → all_scalars ys ≡ true → all_scalars (xs ++ ys) ≡ true
all_scalars-append [] ys p q = q
all_scalars-append (x ∷ xs) ys p q =
    both-true (scalar x) (all_scalars (xs ++ ys)) (both-first (scalar x) (all_scalars xs) p) (all_scalars-append xs ys (both-second (scalar x) (all_scalars xs) p) q)

Safe-append : (xs ys : List ℕ) → Safe xs → Safe ys → Safe (xs ++ ys)
Safe-append xs ys a b = record {
  chars = a.chars ++ b.chars;
  spells = encodes-append a.chars b.chars ∙ ap (λ x. x ++ encode_utf8_all b.chars) a.spells ∙ ap (λ y. xs ++ y) b.spells;
  scalars = all_scalars-append a.chars b.chars a.scalars b.scalars;
  unescaped = list_all-append (λ c. not (is_escaped c)) a.chars b.chars ∙ both-true _ _ a.unescaped b.unescaped;
}

scalar-low : (b : ℕ) → b < 127 → scalar b ≡ true
scalar-low b low = grind (arith, nat_tests)

-- a character of ASCII that is printed
visible : (b : ℕ) → 32 ≤ b → b < 127 → not (is_escaped b) ≡ true
unfolding is_escaped
visible b low high = grind (arith, nat_tests)

Safe-visible : (b : ℕ) → 32 ≤ b → b < 127 → Safe (b ∷ [])
Safe-visible b low high = record {
  chars = b ∷ [];
  spells = append-nil (encode_utf8 b) ∙ encode_ascii b (omega (arith, high));
  scalars = both-true (scalar b) true (scalar-low b (omega (arith, high))) refl;
  unescaped = both-true _ _ (visible b low high) refl;
}

Safe-visibles : (n b : ℕ) → 32 ≤ b → b < 127 → Safe (replicate n b)
Safe-visibles zero b low high = Safe-nil
Safe-visibles (suc n) b low high = Safe-append (b ∷ []) (replicate n b) (Safe-visible b low high) (Safe-visibles n b low high)

Safe-tab : Safe (9 ∷ [])
unfolding is_escaped
Safe-tab = record { chars = 9 ∷ []; spells = append-nil (encode_utf8 9) ∙ encode_ascii 9 (omega arith); scalars = refl; unescaped = refl }

digit_char-low : (d : ℕ) → d < 16 → (48 ≤ digit_char d) × (digit_char d ≤ 102)
digit_char-low d few = grind (arith, nat_tests)

Safe-digit : (n : ℕ) → Safe (digit n ∷ [])
Safe-digit n =
    let range = digit_char-low (n % 16) (omega arith) in
    Safe-visible (digit n) (omega (arith, range.0)) (omega (arith, range.1))

Safe-cons : (b : ℕ) (bs : List ℕ) → Safe (b ∷ []) → Safe bs → Safe (b ∷ bs)
Safe-cons b bs first rest = Safe-append (b ∷ []) bs first rest

Safe-low : (b : ℕ) (bs : List ℕ) → 32 ≤ b → b < 127 → Safe bs → Safe (b ∷ bs)
Safe-low b bs low high rest = Safe-cons b bs (Safe-visible b low high) rest

Safe-escaped : (c : ℕ) → Safe (escaped c)
Safe-escaped c =
    Safe-low 92 _ (omega arith) (omega arith) (Safe-low 117 _ (omega arith) (omega arith)
    (Safe-cons _ _ (Safe-digit (c / 4096)) (Safe-cons _ _ (Safe-digit (c / 256)) (Safe-cons _ _ (Safe-digit (c / 16)) (Safe-digit c)))))

Safe-bytes : (bytes : List ℕ) → Safe (flat_map escaped_byte bytes)
Safe-bytes [] = Safe-nil
Safe-bytes (b ∷ bytes) =
    Safe-append (escaped_byte b) (flat_map escaped_byte bytes)
    (Safe-low 92 _ (omega arith) (omega arith) (Safe-low 120 _ (omega arith) (omega arith) (Safe-cons _ _ (Safe-digit (b / 16)) (Safe-digit b))))
    (Safe-bytes bytes)

-- a character as it is
Safe-as_is : (rest : List ℕ) (c n : ℕ) → SpellsChar rest c n → is_escaped c ≡ false → Safe (take n rest)
Safe-as_is rest c n is plain =
    let bytes : take n rest ≡ encode_utf8 c = ap (take n) is.bytes ∙ take_at (encode_utf8 c) (drop n rest) n is.width in
    record {
      chars = c ∷ [];
      spells = append-nil (encode_utf8 c) ∙ sym bytes;
      scalars = both-true (scalar c) true is.scalar refl;
      unescaped = both-true (not (is_escaped c)) true (ap not plain) refl;
    }

Safe-char : (rest : List ℕ) (c n : ℕ) → SpellsChar rest c n → (t : Bool) → is_escaped c ≡ t → Safe (cond t (escaped c) (take n rest))
Safe-char rest c n is true e = Safe-escaped c
Safe-char rest c n is false e = Safe-as_is rest c n is e

Safe-shown : (rest : List ℕ) (o : Option ℕ) → (decoded rest).char ≡ o → Safe (shown_of o (take (decoded rest).size rest))
Safe-shown rest None is = Safe-bytes (take (decoded rest).size rest)
Safe-shown rest (Some c) is = Safe-char rest c (decoded rest).size (SpellsChar-decoded rest c is) (is_escaped c) refl

-- ---- signs, each of which is shown safely

abbrev AllSafe : List Sign → Type 0
AllSafe [] = Unit {0}
AllSafe (s ∷ ss) = Safe (shown s) × AllSafe ss

AllSafe-signs : (f : ℕ) (bytes : List ℕ) → length bytes ≤ f → AllSafe (signs bytes)
AllSafe-signs f [] le = subst AllSafe (sym signs-nil) tt
AllSafe-signs zero (b ∷ bytes) le = absurd (omega (arith, le))
AllSafe-signs (suc f) (b ∷ bytes) le =
    let text = b ∷ bytes in
    let is = First-decoded text (omega arith) in
    let n = (decoded text).size in
    subst AllSafe (sym is.splits) (Safe-shown text (decoded text).char refl, AllSafe-signs f (drop n text) (omega (arith, le, length-drop n text, is.some)))

AllSafe-cond : (t : Bool) (xs ys : List Sign) → AllSafe xs → AllSafe ys → AllSafe (cond t xs ys)
AllSafe-cond true xs ys p q = p
AllSafe-cond false xs ys p q = q

AllSafe-first : (n : ℕ) (ss : List Sign) → AllSafe ss → AllSafe (first_within n ss)
AllSafe-first n [] h = tt
AllSafe-first n (s ∷ ss) h =
    AllSafe-cond (leb (room s) n) (s ∷ first_within (n - room s) ss) [] (h.0, AllSafe-first (n - room s) ss h.1) tt

AllSafe-last : (n : ℕ) (ss : List Sign) → AllSafe ss → AllSafe (last_within n ss)
AllSafe-last n [] h = tt
AllSafe-last n (s ∷ ss) h = AllSafe-cond (leb (total room (s ∷ ss)) n) (s ∷ ss) (last_within n ss) h (AllSafe-last n ss h.1)

Safe-all : (ss : List Sign) → AllSafe ss → Safe (flat_map shown ss)
Safe-all [] h = Safe-nil
Safe-all (s ∷ ss) h = Safe-append (shown s) (flat_map shown ss) h.0 (Safe-all ss h.1)

Safe-cond : (t : Bool) (xs ys : List ℕ) → Safe xs → Safe ys → Safe (cond t xs ys)
Safe-cond true xs ys p q = p
Safe-cond false xs ys p q = q

Safe-blank : (o : Option ℕ) (n : ℕ) → Safe (blank_of o n)
Safe-blank None n = Safe-visibles (4 * n) 32 (omega arith) (omega arith)
Safe-blank (Some c) n = Safe-cond (c == 9) (9 ∷ []) (replicate (columns c) 32) Safe-tab (Safe-visibles (columns c) 32 (omega arith) (omega arith))

Safe-blanks : (ss : List Sign) → Safe (flat_map blank ss)
Safe-blanks [] = Safe-nil
Safe-blanks (s ∷ ss) = Safe-append (blank s) (flat_map blank ss) (Safe-blank s.char (length s.bytes)) (Safe-blanks ss)

Safe-mark : (t : Bool) (b : ℕ) → 32 ≤ b → b < 127 → Safe (mark t b)
Safe-mark t b low high = Safe-cond t (replicate 3 b) [] (Safe-visibles 3 b low high) Safe-nil

Safe-seen : (n : ℕ) (ss : List Sign) → AllSafe ss → Safe (seen n ss)
Safe-seen n ss h =
    let part = first_within n ss in
    Safe-append (flat_map shown part) (mark (is_cut part ss) 46) (Safe-all part (AllSafe-first n ss h)) (Safe-mark (is_cut part ss) 46 (omega arith) (omega arith))

Safe-two : (front back : List Sign) (size : ℕ) → AllSafe front → AllSafe back → SafeLines (two_lines front back size)
Safe-two front back size p q =
    let part = left_part front back in
    let cut = is_cut part front in
    let wide = max (total width (begun size (right_part front back))) 1 in
    record {
      line = upper front back;
      below = indent front back ++ carets front back size;
      is = simp append_assoc refl;
      line_safe =
          Safe-append (mark cut 46 ++ flat_map shown part) (seen (right_room front back) back)
          (Safe-append (mark cut 46) (flat_map shown part) (Safe-mark cut 46 (omega arith) (omega arith)) (Safe-all part (AllSafe-last (72 - min 36 (total room back)) front p)))
          (Safe-seen (right_room front back) back q);
      below_safe =
          Safe-append (indent front back) (replicate wide 94)
          (Safe-append (mark cut 32) (flat_map blank part) (Safe-mark cut 32 (omega arith) (omega arith)) (Safe-blanks part))
          (Safe-visibles wide 94 (omega arith) (omega arith));
    }

pub pointed-safe : (text : List ℕ) (start end : ℕ) → SafeLines (pointed text start end)
pointed-safe text start end =
    let line = line_shown text start in
    let at = length (line_before text start) in
    Safe-two (front text start) (back text start) (end - start)
    (AllSafe-signs (length (take at line)) (take at line) (omega arith)) (AllSafe-signs (length (drop at line)) (drop at line) (omega arith))
