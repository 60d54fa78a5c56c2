-- Bytes of UTF-8, cut where an ASCII byte stands; and the bytes that a text stands for.
use Rattle.std.proofs.Common.{◌≡◌, ℕ, zero, suc, ◌+◌, ◌<◌, Bool, true, false, ltb, List, [], ◌∷◌, ◌++◌, length, length-append, get_or, take, drop, Option, Some, None, refl, sym, ap, subst, append_assoc, arith}
use Rattle.std.specs.Prelude.{IsUtf8, ◌==◌, if◌then◌else◌, encode_utf8}
use Rattle.std.specs.List.{AllByRecursion, flat_map}
use Rattle.std.specs.Char.{digit_value}
use Rattle.std.specs.Str.Parse.{AllDigits, digits_value}
use Rattle.std.proofs.lemmas.Bool.Decides.{nat_tests}
use Rattle.std.proofs.lemmas.List.{append-nil}
use Rattle.std.proofs.lemmas.Str.{IsUtf8-append, IsUtf8-take, IsUtf8-drop, IsUtf8-encode, IsUtf8-from_ascii, IsCharBoundary-before_ascii, IsCharBoundary-after_ascii}
use Rattle.txs_reader.specs.Quoted.{Part, Plain, Short, Code, short_value, or_none, part_text, part_value, IsPart}

-- what stands at the seam
at_seam : (xs : List ℕ) (b : ℕ) (ys : List ℕ) → get_or (xs ++ b ∷ ys) (length xs) 0 ≡ b
at_seam [] b ys = refl
at_seam (x ∷ xs) b ys = at_seam xs b ys

before_seam : (xs ys : List ℕ) → take (length xs) (xs ++ ys) ≡ xs
before_seam [] ys = refl
before_seam (x ∷ xs) ys = ap (λ zs. x ∷ zs) (before_seam xs ys)

one_more : (n : ℕ) → suc n ≡ n + 1
one_more n = omega arith

past_seam : (xs : List ℕ) (b : ℕ) (ys : List ℕ) → drop (suc (length xs)) (xs ++ b ∷ ys) ≡ ys
past_seam [] b ys = refl
past_seam (x ∷ xs) b ys = past_seam xs b ys

behind_seam : (xs : List ℕ) (b : ℕ) (ys : List ℕ) → drop (length xs + 1) (xs ++ b ∷ ys) ≡ ys
behind_seam xs b ys = subst (λ (n : ℕ). drop n (xs ++ b ∷ ys) ≡ ys) (one_more (length xs)) (past_seam xs b ys)

-- before an ASCII byte and behind it is UTF-8
pub cut_before : (xs : List ℕ) (b : ℕ) (ys : List ℕ) → b < 128 → IsUtf8 (xs ++ b ∷ ys) → IsUtf8 xs
cut_before xs b ys lt u =
    let inside : length xs < length (xs ++ b ∷ ys) = omega (arith, length-append xs (b ∷ ys)) in
    let small : get_or (xs ++ b ∷ ys) (length xs) 0 < 128 = omega (arith, lt, at_seam xs b ys) in
    subst IsUtf8 (before_seam xs (b ∷ ys)) (IsUtf8-take (xs ++ b ∷ ys) (length xs) u (IsCharBoundary-before_ascii (xs ++ b ∷ ys) (length xs) inside small))

pub cut_behind : (xs : List ℕ) (b : ℕ) (ys : List ℕ) → b < 128 → IsUtf8 (xs ++ b ∷ ys) → IsUtf8 ys
cut_behind xs b ys lt u =
    let inside : length xs < length (xs ++ b ∷ ys) = omega (arith, length-append xs (b ∷ ys)) in
    let small : get_or (xs ++ b ∷ ys) (length xs) 0 < 128 = omega (arith, lt, at_seam xs b ys) in
    subst IsUtf8 (behind_seam xs b ys) (IsUtf8-drop (xs ++ b ∷ ys) (length xs + 1) u (IsCharBoundary-after_ascii (xs ++ b ∷ ys) (length xs) u inside small))

one_small : (b : ℕ) → b < 128 → (i : ℕ) → get_or (b ∷ []) i 0 < 128
one_small b lt zero = lt
one_small b lt (suc i) = omega arith

-- an ASCII byte is UTF-8
pub one_byte : (b : ℕ) → b < 128 → IsUtf8 (b ∷ [])
one_byte b lt = IsUtf8-from_ascii (b ∷ []) (one_small b lt)

-- ASCII bytes before it may go
pub behind_ascii : (w : List ℕ) (more : List ℕ) → AllByRecursion (λ b. b < 128) w → IsUtf8 (w ++ more) → IsUtf8 more
behind_ascii [] more all u = u
behind_ascii (b ∷ w) more all u = behind_ascii w more all.1 (cut_behind [] b (w ++ more) all.0 u)

-- ---- texts

abbrev IsShort : ℕ → Option ℕ → Type 0
IsShort c None = Unit {0}
IsShort c (Some v) = (c < 128) × (v < 128)

short_if : (c n v : ℕ) (b : Bool) (o : Option ℕ) → (c == n) ≡ b → n < 128 → v < 128 → IsShort c o → IsShort c (if b then Some v else o)
short_if c n v true o e l m h = (grind (arith, nat_tests), m)
short_if c n v false o e l m h = h

short_is : (c : ℕ) → IsShort c (short_value c)
unfolding short_value
short_is c =
    short_if c 116 9 _ _ refl (omega arith) (omega arith) (short_if c 114 13 _ _ refl (omega arith) (omega arith) (short_if c 110 10 _ _ refl (omega arith) (omega arith)
    (short_if c 98 8 _ _ refl (omega arith) (omega arith) (short_if c 102 12 _ _ refl (omega arith) (omega arith) (short_if c 92 92 _ _ refl (omega arith) (omega arith)
    (short_if c 34 34 _ None refl (omega arith) (omega arith) tt))))))

digit_ascii : (c : ℕ) → digit_value c < 16 → c < 128
digit_ascii c h = by_test (ltb c 123) refl
  where
    by_test : (b : Bool) → ltb c 123 ≡ b → c < 128
    by_test true e = grind (arith, nat_tests)
    by_test false e = absurd (grind (arith, nat_tests))

digits_ascii : (ds : List ℕ) → AllDigits 16 ds → AllByRecursion (λ b. b < 128) ds
digits_ascii [] h = tt
digits_ascii (d ∷ ds) h = (digit_ascii d h.0, digits_ascii ds h.1)

-- a short escape, and what stands behind it
short_utf8 : (run : List ℕ) (c : ℕ) (more value : List ℕ) → (short_value c ≡ None → ⊥) → (IsUtf8 more → IsUtf8 value) → (o : Option ℕ) → IsShort c o → short_value c ≡ o → IsUtf8 (run ++ 92 ∷ c ∷ more) → IsUtf8 (run ++ (or_none (short_value c) ++ value))
short_utf8 run c more value is later None small e u = absurd (is e)
short_utf8 run c more value is later (Some v) small e u =
    subst (λ (o : Option ℕ). IsUtf8 (run ++ (or_none o ++ value))) (sym e)
    (IsUtf8-append run (v ∷ value) (cut_before run 92 (c ∷ more) (omega arith) u)
    (IsUtf8-append (v ∷ []) value (one_byte v small.1) (later (cut_behind [] c more small.0 (cut_behind run 92 (c ∷ more) (omega arith) u)))))

-- a run of plain bytes, and the parts behind it
pub text_utf8 : (run : List ℕ) (ps : List Part) (rest : List ℕ) → AllByRecursion IsPart ps → IsUtf8 (run ++ (flat_map part_text ps ++ 34 ∷ rest)) → IsUtf8 (run ++ flat_map part_value ps)
text_utf8 run [] rest all u = subst IsUtf8 (sym (append-nil run)) (cut_before run 34 rest (omega arith) u)
text_utf8 run (Plain b ∷ ps) rest all u =
    subst IsUtf8 (append_assoc run (b ∷ []) (flat_map part_value ps)) (text_utf8 (run ++ b ∷ []) ps rest all.1 (subst IsUtf8 (sym (append_assoc run (b ∷ []) (flat_map part_text ps ++ 34 ∷ rest))) u))
text_utf8 run (Short c ∷ ps) rest all u =
    short_utf8 run c (flat_map part_text ps ++ 34 ∷ rest) (flat_map part_value ps) all.0 (λ v. text_utf8 [] ps rest all.1 v) (short_value c) (short_is c) refl u
text_utf8 run (Code ds ∷ ps) rest all u =
    let value = encode_utf8 (digits_value 16 ds) in
    let more = flat_map part_text ps ++ 34 ∷ rest in
    let behind : IsUtf8 ((ds ++ flat_map part_text ps) ++ 34 ∷ rest) = cut_behind [] 117 ((ds ++ flat_map part_text ps) ++ 34 ∷ rest) (omega arith) (cut_behind run 92 (117 ∷ ((ds ++ flat_map part_text ps) ++ 34 ∷ rest)) (omega arith) u) in
    IsUtf8-append run (value ++ flat_map part_value ps) (cut_before run 92 (117 ∷ ((ds ++ flat_map part_text ps) ++ 34 ∷ rest)) (omega arith) u)
    (IsUtf8-append value (flat_map part_value ps) (IsUtf8-encode (digits_value 16 ds) all.0.2)
    (text_utf8 [] ps rest all.1 (behind_ascii ds more (digits_ascii ds all.0.1) (subst IsUtf8 (append_assoc ds (flat_map part_text ps) (34 ∷ rest)) behind))))
