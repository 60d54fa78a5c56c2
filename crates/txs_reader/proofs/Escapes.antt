-- What stands at a place of a text's inside.
use Rattle.std.proofs.Common.{◌≡◌, ◌≢◌, ℕ, suc, ◌+◌, ◌<◌, ◌≤◌, ◌⊎◌, inl, inr, Bool, true, false, cond, eqb, ltb, ◌&&◌, List, [], ◌∷◌, ◌++◌, Option, Some, None, length, length-append, get_or, take, drop, ◌-◌, length-take, length-drop, refl, sym, ap, subst, ◌∙◌, append_assoc, arith}
use Rattle.std.proofs.lemmas.Bool.{cases_Bool, cases_lt, cases_eq, false≢true}
use Rattle.std.proofs.lemmas.Bool.Decides.{nat_tests}
use Rattle.std.proofs.lemmas.List.{append-nil, drop-drop, take-append-drop, get_or-drop}
use Rattle.std.proofs.lemmas.List.Concat.{flat_map-append}
use Rattle.std.proofs.lemmas.Str.{encode_ascii}
use Rattle.std.proofs.Math.Seq.{drop-cons}
use Rattle.std.specs.List.{flat_map, list_all, AllByRecursion}
use Rattle.std.specs.Char.{digit_value, IsScalar}
use Rattle.std.specs.Prelude.{encode_utf8}
use Rattle.std.specs.Str.Parse.{AllDigits, digits_value}
use Rattle.txs_reader.specs.Bytes.{is_plain, begins_with, IsRun}
use Rattle.txs_reader.specs.Quoted.{Part, Plain, Short, Code, short_value, part_text, part_value, or_none, IsPart, IsAtPart}
use Rattle.txs_reader.specs.Escapes.{BeginsEscape, TextUpTo}

-- ---- escapes

-- a backslash, a `u` and four digits
record IsCode (c : ℕ) (cs : List ℕ) : Type 0 where
  letter : c ≡ 117
  digits : List ℕ
  behind : List ℕ
  is : IsPart (Code digits)
  front : cs ≡ digits ++ behind

at_escape : (c : ℕ) (cs : List ℕ) → IsAtPart (92 ∷ c ∷ cs) → (short_value c ≢ None) ⊎ IsCode c cs
at_escape c cs (Plain b, after, is, e) = absurd (is.1 cc)
at_escape c cs (Short d, after, is, e) = let k : d ≡ c = cc in inl (subst (λ (b : ℕ). short_value b ≢ None) k is)
at_escape c cs (Code ds, after, is, e) = inr (record { letter = cc; digits = ds; behind = after; is = is; front = cc })

no_short : short_value 117 ≡ None
unfolding short_value
no_short = refl

four_alone : (ds behind : List ℕ) (a b c d : ℕ) (rest : List ℕ) → length ds ≡ 4 → a ∷ b ∷ c ∷ d ∷ rest ≡ ds ++ behind → ds ≡ a ∷ b ∷ c ∷ d ∷ []
four_alone (w ∷ x ∷ y ∷ z ∷ []) behind a b c d rest l e = cc
four_alone [] behind a b c d rest l e = absurd (omega (arith, l))
four_alone (w ∷ []) behind a b c d rest l e = absurd (omega (arith, l))
four_alone (w ∷ x ∷ []) behind a b c d rest l e = absurd (omega (arith, l))
four_alone (w ∷ x ∷ y ∷ []) behind a b c d rest l e = absurd (omega (arith, l))
four_alone (w ∷ x ∷ y ∷ z ∷ v ∷ ds) behind a b c d rest l e = absurd (omega (arith, l))

abbrev pub four : List ℕ → List ℕ
four bs = get_or bs 2 0 ∷ get_or bs 3 0 ∷ get_or bs 4 0 ∷ get_or bs 5 0 ∷ []

six : (bs : List ℕ) → 6 ≤ length bs → get_or bs 0 0 ≡ 92 → get_or bs 1 0 ≡ 117 → bs ≡ 92 ∷ 117 ∷ (four bs ++ drop 6 bs)
six (p ∷ q ∷ a ∷ b ∷ c ∷ d ∷ rest) le e f = ap (λ (n : ℕ). n ∷ q ∷ a ∷ b ∷ c ∷ d ∷ rest) e ∙ ap (λ (n : ℕ). 92 ∷ n ∷ a ∷ b ∷ c ∷ d ∷ rest) f
six [] le e f = absurd (omega (arith, le))
six (p ∷ []) le e f = absurd (omega (arith, le))
six (p ∷ q ∷ []) le e f = absurd (omega (arith, le))
six (p ∷ q ∷ a ∷ []) le e f = absurd (omega (arith, le))
six (p ∷ q ∷ a ∷ b ∷ []) le e f = absurd (omega (arith, le))
six (p ∷ q ∷ a ∷ b ∷ c ∷ []) le e f = absurd (omega (arith, le))

code_parts : (bs : List ℕ) → 6 ≤ length bs → get_or bs 0 0 ≡ 92 → get_or bs 1 0 ≡ 117 → IsAtPart bs → IsPart (Code (four bs))
code_parts bs le e f h =
    elim (at_escape 117 (four bs ++ drop 6 bs) (subst IsAtPart (six bs le e f) h)) [
      | inl short ↦ absurd (short no_short)
      | inr code ↦ subst (λ (ds : List ℕ). IsPart (Code ds)) (four_alone code.digits code.behind _ _ _ _ (drop 6 bs) code.is.0 code.front) code.is
    ]

pub code_begins : (bs : List ℕ) (v : ℕ) → 6 ≤ length bs → get_or bs 0 0 ≡ 92 → get_or bs 1 0 ≡ 117 → AllDigits 16 (four bs) → IsScalar v → v ≡ digits_value 16 (four bs) → BeginsEscape bs v 6
code_begins bs v le e f digits is value = record {
  part = Code (four bs);
  after = drop 6 bs;
  is = (refl, digits, subst IsScalar value is);
  front = six bs le e f;
  value = ap encode_utf8 (sym value);
  size = refl;
}

pub code_not_digits : (bs : List ℕ) → 6 ≤ length bs → get_or bs 0 0 ≡ 92 → get_or bs 1 0 ≡ 117 → ¬ AllDigits 16 (four bs) → ¬ IsAtPart bs
code_not_digits bs le e f no_digits h = no_digits (code_parts bs le e f h).1

pub code_not_scalar : (bs : List ℕ) (v : ℕ) → 6 ≤ length bs → get_or bs 0 0 ≡ 92 → get_or bs 1 0 ≡ 117 → ¬ IsScalar v → v ≡ digits_value 16 (four bs) → ¬ IsAtPart bs
code_not_scalar bs v le e f no_scalar value h = no_scalar (subst IsScalar (sym value) (code_parts bs le e f h).2)

pub code_cut : (bs : List ℕ) → 2 ≤ length bs → length bs < 6 → get_or bs 0 0 ≡ 92 → get_or bs 1 0 ≡ 117 → ¬ IsAtPart bs
code_cut [] le lt e f h = omega (arith, le)
code_cut (p ∷ []) le lt e f h = omega (arith, le)
code_cut (p ∷ q ∷ bs) le lt e f h =
    elim (at_escape q bs (subst (λ (n : ℕ). IsAtPart (n ∷ q ∷ bs)) e h)) [
      | inl short ↦ short (ap short_value f ∙ no_short)
      | inr code ↦ omega (arith, lt, ap length code.front, length-append code.digits code.behind, code.is.0)
    ]

pub short_not : (bs : List ℕ) → 2 ≤ length bs → get_or bs 0 0 ≡ 92 → get_or bs 1 0 ≢ 117 → short_value (get_or bs 1 0) ≡ None → ¬ IsAtPart bs
short_not [] le e ne none h = omega (arith, le)
short_not (p ∷ []) le e ne none h = omega (arith, le)
short_not (p ∷ q ∷ bs) le e ne none h =
    elim (at_escape q bs (subst (λ (n : ℕ). IsAtPart (n ∷ q ∷ bs)) e h)) [
      | inl short ↦ short none
      | inr code ↦ ne code.letter
    ]

pub cut : (bs : List ℕ) → length bs < 2 → get_or bs 0 0 ≡ 92 → ¬ IsAtPart bs
cut [] lt e (Plain b, after, is, f) = absurd cc
cut [] lt e (Short b, after, is, f) = absurd cc
cut [] lt e (Code b, after, is, f) = absurd cc
cut (p ∷ q ∷ bs) lt e h = omega (arith, lt)
cut (p ∷ []) lt e (Plain b, after, is, f) = is.1 (cc e)
cut (p ∷ []) lt e (Short b, after, is, f) = absurd cc
cut (p ∷ []) lt e (Code b, after, is, f) = absurd cc

small_chain : (a b c d e f g : Bool) (v : ℕ) → cond a (Some 9) (cond b (Some 13) (cond c (Some 10) (cond d (Some 8) (cond e (Some 12) (cond f (Some 92) (cond g (Some 34) None)))))) ≡ Some v → v < 128
small_chain true b c d e f g v h = let k : 9 ≡ v = cc in omega (arith, k)
small_chain false true c d e f g v h = let k : 13 ≡ v = cc in omega (arith, k)
small_chain false false true d e f g v h = let k : 10 ≡ v = cc in omega (arith, k)
small_chain false false false true e f g v h = let k : 8 ≡ v = cc in omega (arith, k)
small_chain false false false false true f g v h = let k : 12 ≡ v = cc in omega (arith, k)
small_chain false false false false false true g v h = let k : 92 ≡ v = cc in omega (arith, k)
small_chain false false false false false false true v h = let k : 34 ≡ v = cc in omega (arith, k)
small_chain false false false false false false false v h = absurd cc

short_small : (c v : ℕ) → short_value c ≡ Some v → v < 128
unfolding short_value
short_small c v e = small_chain _ _ _ _ _ _ _ v e

some_none : (v : ℕ) (o : Option ℕ) → o ≡ Some v → o ≡ None → ⊥
some_none v o e f = absurd cc

two : (bs : List ℕ) → 2 ≤ length bs → get_or bs 0 0 ≡ 92 → bs ≡ 92 ∷ get_or bs 1 0 ∷ drop 2 bs
two [] le e = absurd (omega (arith, le))
two (p ∷ []) le e = absurd (omega (arith, le))
two (p ∷ q ∷ bs) le e = ap (λ (n : ℕ). n ∷ q ∷ bs) e

pub short_begins : (bs : List ℕ) (v : ℕ) → 2 ≤ length bs → get_or bs 0 0 ≡ 92 → short_value (get_or bs 1 0) ≡ Some v → BeginsEscape bs v 2
short_begins bs v le e value = record {
  part = Short (get_or bs 1 0);
  after = drop 2 bs;
  is = some_none v _ value;
  front = two bs le e;
  value = ap or_none value ∙ sym (encode_ascii v (short_small _ v value));
  size = refl;
}

digits_or_not : (ds : List ℕ) → AllDigits 16 ds ⊎ ¬ AllDigits 16 ds
digits_or_not [] = inl tt
digits_or_not (d ∷ ds) =
    elim (cases_lt (digit_value d) 16) [
      | inl lt ↦ elim (digits_or_not ds) [
        | inl all ↦ inl (lt, all)
        | inr fails ↦ inr (λ h. fails h.1)
      ]
      | inr ge ↦ inr (λ h. too_large h.0 ge)
    ]
  where
    too_large : {m n : ℕ} → m < n → n ≤ m → ⊥
    too_large lt ge = omega arith

scalar_or_not : (v : ℕ) → IsScalar v ⊎ ¬ IsScalar v
scalar_or_not v =
    elim (cases_Bool _) [
      | inl is ↦ inl is
      | inr isnt ↦ inr (λ h. false≢true (sym isnt ∙ h))
    ]

part_of : (bs : List ℕ) (v n : ℕ) → BeginsEscape bs v n → IsAtPart bs
part_of bs v n b = (b.part, b.after, b.is, b.front)

short_or_not : (bs : List ℕ) (o : Option ℕ) → 2 ≤ length bs → get_or bs 0 0 ≡ 92 → get_or bs 1 0 ≢ 117 → short_value (get_or bs 1 0) ≡ o → IsAtPart bs ⊎ ¬ IsAtPart bs
short_or_not bs (Some v) le e ne value = inl (part_of bs v 2 (short_begins bs v le e value))
short_or_not bs None le e ne value = inr (short_not bs le e ne value)

code_or_not : (bs : List ℕ) → 6 ≤ length bs → get_or bs 0 0 ≡ 92 → get_or bs 1 0 ≡ 117 → IsAtPart bs ⊎ ¬ IsAtPart bs
code_or_not bs le e f =
    elim (digits_or_not (four bs)) [
      | inl digits ↦ elim (scalar_or_not (digits_value 16 (four bs))) [
        | inl is ↦ inl (part_of bs _ 6 (code_begins bs _ le e f digits is refl))
        | inr isnt ↦ inr (code_not_scalar bs _ le e f isnt refl)
      ]
      | inr fails ↦ inr (code_not_digits bs le e f fails)
    ]

pub escape_or_not : (bs : List ℕ) → get_or bs 0 0 ≡ 92 → IsAtPart bs ⊎ ¬ IsAtPart bs
escape_or_not bs e =
    elim (cases_lt (length bs) 2) [
      | inl lt ↦ inr (cut bs lt e)
      | inr two ↦ elim (cases_eq (get_or bs 1 0) 117) [
        | inl u ↦ elim (cases_lt (length bs) 6) [
          | inl lt ↦ inr (code_cut bs two lt e u)
          | inr six ↦ code_or_not bs six e u
        ]
        | inr ne ↦ short_or_not bs _ two e ne refl
      ]
    ]

-- ---- how far a text has been read

drop-front : (xs ys : List ℕ) → drop (length xs) (xs ++ ys) ≡ ys
drop-front [] ys = refl
drop-front (x ∷ xs) ys = drop-front xs ys

pub drop_past : (bytes xs after : List ℕ) (k : ℕ) → drop k bytes ≡ xs ++ after → drop (k + length xs) bytes ≡ after
drop_past bytes xs after k e = sym (drop-drop (length xs) k bytes) ∙ ap (drop (length xs)) e ∙ drop-front xs after

each-push : (ps : List Part) (p : Part) → AllByRecursion IsPart ps → IsPart p → AllByRecursion IsPart (ps ++ p ∷ [])
each-push [] p h is = (is, tt)
each-push (q ∷ ps) p h is = (h.0, each-push ps p h.1 is)

one_by_one : (f : Part → List ℕ) (ps : List Part) (p : Part) → flat_map f (ps ++ p ∷ []) ≡ flat_map f ps ++ f p
one_by_one f ps p = flat_map-append f ps (p ∷ []) ∙ ap (λ (bs : List ℕ). flat_map f ps ++ bs) (append-nil (f p))

pub part_more : (bytes : List ℕ) (at k : ℕ) (out : List ℕ) (p : Part) (after : List ℕ) → TextUpTo bytes at k out → IsPart p → drop k bytes ≡ part_text p ++ after → TextUpTo bytes at (k + length (part_text p)) (out ++ part_value p)
part_more bytes at k out p after t is e = record {
  parts = t.parts ++ p ∷ [];
  each = each-push t.parts p t.each is;
  front =
      t.front
      ∙ ap (λ (bs : List ℕ). 34 ∷ (flat_map part_text t.parts ++ bs)) (e ∙ ap (λ (bs : List ℕ). part_text p ++ bs) (sym (drop_past bytes (part_text p) after k e)))
      ∙ ap (λ (bs : List ℕ). 34 ∷ bs) (sym (append_assoc (flat_map part_text t.parts) (part_text p) _) ∙ ap (λ (bs : List ℕ). bs ++ drop (k + length (part_text p)) bytes) (sym (one_by_one part_text t.parts p)));
  value = one_by_one part_value t.parts p ∙ ap (λ (bs : List ℕ). bs ++ part_value p) t.value;
  size = omega (arith, t.size, ap length (one_by_one part_text t.parts p), length-append (flat_map part_text t.parts) (part_text p));
}

pub text_begins : (bytes : List ℕ) (at : ℕ) → drop at bytes ≡ 34 ∷ drop (at + 1) bytes → TextUpTo bytes at (at + 1) []
text_begins bytes at e = record { parts = []; each = tt; front = e; value = refl; size = omega arith }

and_left : (a b : Bool) → (a && b) ≡ true → a ≡ true
and_left true b h = refl
and_left false b h = absurd (false≢true h)

and_right : (a b : Bool) → (a && b) ≡ true → b ≡ true
and_right true b h = h
and_right false b h = absurd (false≢true h)

pub plain_byte : (b : ℕ) → is_plain b ≡ true → IsPart (Plain b)
unfolding is_plain
plain_byte b h = (grind (arith, nat_tests), grind (arith, nat_tests))

-- bytes that are neither quotes nor backslashes
pub plain_more : (bytes : List ℕ) (at k : ℕ) (out xs after : List ℕ) → TextUpTo bytes at k out → drop k bytes ≡ xs ++ after → list_all is_plain xs ≡ true → TextUpTo bytes at (k + length xs) (out ++ xs)
plain_more bytes at k out [] after t e all =
    subst (λ (n : ℕ). TextUpTo bytes at n (out ++ [])) (omega arith) (subst (λ (bs : List ℕ). TextUpTo bytes at k bs) (sym (append-nil out)) t)
plain_more bytes at k out (x ∷ xs) after t e all =
    let one = part_more bytes at k out (Plain x) (xs ++ after) t (plain_byte x (and_left _ _ all)) e in
    let more = plain_more bytes at (k + 1) (out ++ x ∷ []) xs after one (drop_past bytes (x ∷ []) (xs ++ after) k e) (and_right _ _ all) in
    let places : k + 1 + length xs ≡ k + suc (length xs) = omega arith in
    subst (λ (n : ℕ). TextUpTo bytes at n (out ++ x ∷ xs)) places (subst (λ (bs : List ℕ). TextUpTo bytes at (k + 1 + length xs) bs) (append_assoc out (x ∷ []) xs) more)

-- ---- what the reader of texts knows

none_past : (c : ℕ) → 128 ≤ c → short_value c ≡ None
unfolding short_value
none_past c ge =
    let a : eqb c 116 ≡ false = grind (arith, nat_tests) in
    let b : eqb c 114 ≡ false = grind (arith, nat_tests) in
    let d : eqb c 110 ≡ false = grind (arith, nat_tests) in
    let e : eqb c 98 ≡ false = grind (arith, nat_tests) in
    let f : eqb c 102 ≡ false = grind (arith, nat_tests) in
    let g : eqb c 92 ≡ false = grind (arith, nat_tests) in
    let h : eqb c 34 ≡ false = grind (arith, nat_tests) in
    rw (a, b, d, e, f, g, h) refl

letter_small : (c : ℕ) → short_value c ≢ None → c < 128
letter_small c h =
    elim (cases_lt c 128) [
      | inl lt ↦ lt
      | inr ge ↦ absurd (h (none_past c ge))
    ]

digit_past : (d : ℕ) → 128 ≤ d → digit_value d ≡ 36
digit_past d ge =
    let a : ltb d 48 ≡ false = grind (arith, nat_tests) in
    let b : ltb d 58 ≡ false = grind (arith, nat_tests) in
    let c : ltb d 65 ≡ false = grind (arith, nat_tests) in
    let e : ltb d 91 ≡ false = grind (arith, nat_tests) in
    let f : ltb d 97 ≡ false = grind (arith, nat_tests) in
    let g : ltb d 123 ≡ false = grind (arith, nat_tests) in
    rw (a, b, c, e, f, g) refl

digit_small : (d : ℕ) → digit_value d < 16 → d < 128
digit_small d h =
    elim (cases_lt d 128) [
      | inl lt ↦ lt
      | inr ge ↦ absurd (omega (arith, h, digit_past d ge))
    ]

-- an escape ends in an ASCII byte
pub record EscapeEnd (bs : List ℕ) (len : ℕ) : Type 0 where
  pub small : get_or bs (len - 1) 0 < 128
  pub long : 2 ≤ len
  pub within : len ≤ length bs

part_end : (p : Part) (after bs : List ℕ) (len : ℕ) → IsPart p → bs ≡ part_text p ++ after → length (part_text p) ≡ len → get_or bs 0 0 ≡ 92 → EscapeEnd bs len
part_end (Plain b) after bs len is e l begins = absurd (is.1 (ap (λ (xs : List ℕ). get_or xs 0 0) (sym e) ∙ begins))
part_end (Short d) after bs len is e l begins = record { small = rw (e, ← l) (letter_small d is); long = omega (arith, l); within = omega (arith, l, ap length e) }
part_end (Code (a ∷ b ∷ c ∷ d ∷ [])) after bs len is e l begins = record { small = rw (e, ← l) (digit_small d is.1.1.1.1.0); long = omega (arith, l); within = omega (arith, l, ap length e) }
part_end (Code []) after bs len is e l begins = absurd (omega (arith, is.0))
part_end (Code (a ∷ [])) after bs len is e l begins = absurd (omega (arith, is.0))
part_end (Code (a ∷ b ∷ [])) after bs len is e l begins = absurd (omega (arith, is.0))
part_end (Code (a ∷ b ∷ c ∷ [])) after bs len is e l begins = absurd (omega (arith, is.0))
part_end (Code (a ∷ b ∷ c ∷ d ∷ f ∷ ds)) after bs len is e l begins = absurd (omega (arith, is.0))

pub escape_end : (bs : List ℕ) (c len : ℕ) → get_or bs 0 0 ≡ 92 → BeginsEscape bs c len → EscapeEnd bs len
escape_end bs c len begins b = part_end b.part b.after bs len b.is b.front b.size begins

pub escape_more : (bytes : List ℕ) (at k c len : ℕ) (out new bs : List ℕ) → TextUpTo bytes at k out → bs ≡ drop k bytes → BeginsEscape bs c len → new ≡ out ++ encode_utf8 c → TextUpTo bytes at (k + len) new
escape_more bytes at k c len out new bs t e b n =
    let more = part_more bytes at k out b.part b.after t b.is (sym e ∙ b.front) in
    subst (λ (v : List ℕ). TextUpTo bytes at (k + len) v) (ap (λ (v : List ℕ). out ++ v) b.value ∙ sym n) (subst (λ (m : ℕ). TextUpTo bytes at (k + m) (out ++ part_value b.part)) b.size more)

head_at : (bytes : List ℕ) (k : ℕ) → k < length bytes → drop k bytes ≡ get_or bytes k 0 ∷ drop (suc k) bytes
head_at bytes k lt = drop-cons bytes k 0 lt

pub byte_of : (bytes bs : List ℕ) (k i : ℕ) → bs ≡ drop k bytes → get_or bs i 0 ≡ get_or bytes (k + i) 0
byte_of bytes bs k i e = ap (λ (xs : List ℕ). get_or xs i 0) e ∙ get_or-drop k bytes i 0

-- bytes up to a quote or a backslash
pub record PlainUpTo (bytes : List ℕ) (at k n : ℕ) (out : List ℕ) : Type 0 where
  pub so_far : TextUpTo bytes at (k + n) out
  pub inside : k + n < length bytes
  pub stops : is_plain (get_or bytes (k + n) 0) ≡ false

pub plain_run : (bytes : List ℕ) (at k n : ℕ) (out new bs : List ℕ) → TextUpTo bytes at k out → bs ≡ drop k bytes → IsRun is_plain bs n → n < length bs → new ≡ out ++ take (k + n - k) (drop k bytes) → PlainUpTo bytes at k n new
plain_run bytes at k n out new bs t e run lt is =
    let taken : length (take n (drop k bytes)) ≡ n = omega (arith, length-take n (drop k bytes), run.short, ap length e) in
    let split : drop k bytes ≡ take n (drop k bytes) ++ drop n (drop k bytes) = sym (take-append-drop n (drop k bytes)) in
    let all : list_all is_plain (take n (drop k bytes)) ≡ true = subst (λ (xs : List ℕ). list_all is_plain (take n xs) ≡ true) e run.each in
    let ends : begins_with is_plain (drop n (drop k bytes)) ≡ false = subst (λ (xs : List ℕ). begins_with is_plain (drop n xs) ≡ false) e run.ends in
    let inside : k + n < length bytes = omega (arith, lt, ap length e, length-drop k bytes) in
    let m : k + n - k ≡ n = omega arith in
    let text = plain_more bytes at k out (take n (drop k bytes)) (drop n (drop k bytes)) t split all in
    record {
      so_far = subst (λ (v : List ℕ). TextUpTo bytes at (k + n) v) (ap (λ (i : ℕ). out ++ take i (drop k bytes)) (sym m) ∙ sym is) (subst (λ (i : ℕ). TextUpTo bytes at (k + i) (out ++ take n (drop k bytes))) taken text);
      inside = inside;
      stops = sym (ap (begins_with is_plain) (drop-drop n k bytes ∙ head_at bytes (k + n) inside)) ∙ ends;
    }

pub plain_rest : (bytes : List ℕ) (at k : ℕ) (out bs : List ℕ) → TextUpTo bytes at k out → bs ≡ drop k bytes → list_all is_plain bs ≡ true → TextUpTo bytes at (k + length bs) (out ++ bs) × (drop (k + length bs) bytes ≡ [])
plain_rest bytes at k out bs t e all =
    let split : drop k bytes ≡ bs ++ [] = sym e ∙ sym (append-nil bs) in
    (plain_more bytes at k out bs [] t split all, drop_past bytes bs [] k split)

pub mark_small : (b : ℕ) → is_plain b ≡ false → b < 128
unfolding is_plain
mark_small b h = grind (arith, nat_tests)

pub backslash : (b : ℕ) → is_plain b ≡ false → b ≢ 34 → b ≡ 92
unfolding is_plain
backslash b h ne = grind (arith, nat_tests)

pub head_of_rest : (bytes : List ℕ) (k : ℕ) → k < length bytes → get_or (drop k bytes) 0 0 ≡ get_or bytes k 0
head_of_rest bytes k lt = ap (λ (bs : List ℕ). get_or bs 0 0) (head_at bytes k lt)

-- behind the plain bytes stands no plain one
pub mark_at : (bytes : List ℕ) (k n : ℕ) (bs : List ℕ) → bs ≡ drop k bytes → IsRun is_plain bs n → n < length bs → is_plain (get_or bytes (k + n) 0) ≡ false
mark_at bytes k n bs e run lt =
    let ends : begins_with is_plain (drop n (drop k bytes)) ≡ false = subst (λ (xs : List ℕ). begins_with is_plain (drop n xs) ≡ false) e run.ends in
    let inside : k + n < length bytes = omega (arith, lt, ap length e, length-drop k bytes) in
    sym (ap (begins_with is_plain) (drop-drop n k bytes ∙ head_at bytes (k + n) inside)) ∙ ends
