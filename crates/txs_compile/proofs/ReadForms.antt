-- The forms of a script are such as the reader reads: each token of its text is, and forms spell tokens.
use Rattle.std.proofs.Common.{◌≡◌, ℕ, suc, ◌+◌, ◌-◌, ◌<◌, ◌≤◌, Bool, true, false, not, ◌&&◌, eqb, ltb, List, [], ◌∷◌, ◌++◌, length, length-append, Option, Some, None, refl, sym, ap, subst, ◌∙◌, append_assoc, arith}
use Rattle.std.specs.Prelude.{IsUtf8, bytes_eq, drop, if◌then◌else◌}
use Rattle.std.specs.List.{AllByRecursion, flat_map}
use Rattle.std.proofs.lemmas.Bool.{false≢true}
use Rattle.std.proofs.lemmas.Bool.Decides.{nat_tests}
use Rattle.std.proofs.lemmas.List.{append-nil}
use Rattle.std.proofs.lemmas.Slice.Eq.{bytes_eq-Decides}
use Rattle.std.proofs.lemmas.Str.{IsUtf8-nil, IsUtf8-append}
use Rattle.txs_value_data.specs.Limits.{most_script}
use Rattle.txs_value_data.specs.declared.fault.Span.{Span}
use Rattle.txs_reader.specs.declared.form.Bracket.{Bracket}
use Rattle.txs_reader.specs.declared.form.Bracket.TheVariants.{Round, Square}
use Rattle.txs_reader.specs.Bytes.{is_white, is_line_end, begins_with}
use Rattle.txs_reader.specs.Quoted.{part_text}
use Rattle.txs_reader.specs.Script.{Piece, White, Comment, Opening, Closing, Quoted, Word, written, IsPiece, EndsAt, Splits, Sign, opens, closes, stands_for, Token, between, token, tokens, is_sugar, spelled, spelled_within}
use Rattle.txs_reader.specs.Tree.{symbol, PlainForm, leaf, group, PlainForms, none, first, place, deref}
use Rattle.txs_code_meaning.specs.Spans.{IsOrdered}
use Rattle.txs_compile.specs.ReadForms.{IsSymbol, LeafIsRead, IsRead, AreRead, FormsAreRead}
use Rattle.txs_compile.proofs.Utf8.{cut_behind, one_byte, behind_ascii, text_utf8}
use Rattle.txs_compile.proofs.Words.{word_read, deref_read}

-- ---- tokens

abbrev SignIsRead : Sign → Type 0
SignIsRead (opens b) = Unit {0}
SignIsRead (closes b) = Unit {0}
SignIsRead (stands_for x) = LeafIsRead IsSymbol x

-- a token of a script of n bytes
abbrev IsToken : ℕ → Token → Type 0
IsToken n t = SignIsRead t.sign × (t.span.from < t.span.to) × (t.span.to ≤ n)

abbrev AreTokens : ℕ → List Token → Type 0
AreTokens n ts = AllByRecursion (IsToken n) ts

both : (n : ℕ) (xs ys : List Token) → AreTokens n xs → AreTokens n ys → AreTokens n (xs ++ ys)
both n [] ys h k = k
both n (x ∷ xs) ys h k = (h.0, both n xs ys h.1 k)

ahead : (n : ℕ) (xs ys : List Token) → AreTokens n (xs ++ ys) → AreTokens n xs
ahead n [] ys h = tt
ahead n (x ∷ xs) ys h = (h.0, ahead n xs ys h.1)

behind : (n : ℕ) (xs ys : List Token) → AreTokens n (xs ++ ys) → AreTokens n ys
behind n [] ys h = h
behind n (x ∷ xs) ys h = behind n xs ys h.1

-- ---- what follows a piece is UTF-8

white_small : (b : ℕ) → is_white b ≡ true → b < 128
unfolding is_white
white_small b h = by_test (ltb b 128) refl
  where
    by_test : (t : Bool) → ltb b 128 ≡ t → b < 128
    by_test true e = grind (arith, nat_tests)
    by_test false e = absurd (grind (arith, nat_tests))

line_end_small : (b : ℕ) → not (is_line_end b) ≡ false → b < 128
line_end_small b h = by_test (ltb b 128) refl
  where
    by_test : (t : Bool) → ltb b 128 ≡ t → b < 128
    by_test true e = grind (arith, nat_tests)
    by_test false e = absurd (grind (arith, nat_tests))

behind_comment : (c more : List ℕ) → begins_with (λ b. not (is_line_end b)) more ≡ false → IsUtf8 (c ++ more) → IsUtf8 more
behind_comment c [] e u = IsUtf8-nil
behind_comment c (b ∷ more) e u =
    let small = line_end_small b e in
    IsUtf8-append (b ∷ []) more (one_byte b small) (cut_behind c b more small u)

behind_piece : (p : Piece) (more : List ℕ) → IsPiece p → EndsAt p more → IsUtf8 (written p ++ more) → IsUtf8 more
behind_piece (White b) more is ends u = cut_behind [] b more (white_small b is) u
behind_piece (Comment c) more is ends u = behind_comment (59 ∷ c) more ends u
behind_piece (Opening None) more is ends u = cut_behind [] 64 more (omega arith) u
behind_piece (Opening (Some Round)) more is ends u = cut_behind [] 40 more (omega arith) u
behind_piece (Opening (Some Square)) more is ends u = cut_behind [] 91 more (omega arith) u
behind_piece (Closing Round) more is ends u = cut_behind [] 41 more (omega arith) u
behind_piece (Closing Square) more is ends u = cut_behind [] 93 more (omega arith) u
behind_piece (Quoted ps) more is ends u = cut_behind (34 ∷ flat_map part_text ps) 34 more (omega arith) (subst IsUtf8 (append_assoc (34 ∷ flat_map part_text ps) (34 ∷ []) more) u)
behind_piece (Word w x) more is ends u = behind_ascii w more (word_read w x is.1).ascii u

-- ---- the tokens of a text

token_read : (n at : ℕ) (p : Piece) (more : List ℕ) → IsPiece p → IsUtf8 (written p ++ more) → at + length (written p) ≤ n → AreTokens n (token at p)
token_read n at (White b) more is u le = tt
token_read n at (Comment c) more is u le = tt
token_read n at (Opening b) more is u le = ((tt, omega arith, le), tt)
token_read n at (Closing b) more is u le = ((tt, omega arith, le), tt)
token_read n at (Quoted ps) more is u le =
    let inner = cut_behind [] 34 ((flat_map part_text ps ++ 34 ∷ []) ++ more) (omega arith) u in
    (((text_utf8 [] ps more is.0 (subst IsUtf8 (append_assoc (flat_map part_text ps) (34 ∷ []) more) inner), is.1), omega arith, le), tt)
token_read n at (Word w x) more is u le = (((word_read w x is.1).leaf, omega (arith, is.0.0), le), tt)

tokens_read : (n at : ℕ) (bytes : List ℕ) (ps : List Piece) (rest : List ℕ) → IsUtf8 bytes → at + length bytes ≤ n → Splits bytes ps rest → AreTokens n (tokens at ps)
tokens_read n at bytes [] rest u le s = tt
tokens_read n at bytes (p ∷ ps) rest u le s =
    let more = s.0 in
    let whole : IsUtf8 (written p ++ more) = subst IsUtf8 s.1 u in
    let long : length bytes ≡ length (written p) + length more = ap length s.1 ∙ length-append (written p) more in
    both n (token at p) (tokens (at + length (written p)) ps) (token_read n at p more s.2 whole (omega (arith, le, long)))
    (tokens_read n (at + length (written p)) more ps rest (behind_piece p more s.2 s.3 whole) (omega (arith, le, long)) s.4)

-- ---- tokens stand one behind the other

abbrev Rising : ℕ → List Token → Type 0
Rising n [] = Unit {0}
Rising n (t ∷ ts) = (n ≤ t.span.from) × Rising (suc t.span.from) ts

rising_from : (m n : ℕ) (ts : List Token) → m ≤ n → Rising n ts → Rising m ts
rising_from m n [] le h = tt
rising_from m n (t ∷ ts) le h = (omega (arith, h.0), h.1)

rising_ahead : (n : ℕ) (xs ys : List Token) → Rising n (xs ++ ys) → Rising n xs
rising_ahead n [] ys h = tt
rising_ahead n (x ∷ xs) ys h = (h.0, rising_ahead (suc x.span.from) xs ys h.1)

rising_behind : (n : ℕ) (xs ys : List Token) → Rising n (xs ++ ys) → Rising n ys
rising_behind n [] ys h = h
rising_behind n (x ∷ xs) ys h = rising_from n (suc x.span.from) ys (omega (arith, h.0)) (rising_behind (suc x.span.from) xs ys h.1)

some_bytes : (p : Piece) → IsPiece p → 1 ≤ length (written p)
some_bytes (White b) is = omega arith
some_bytes (Comment c) is = omega arith
some_bytes (Opening b) is = omega arith
some_bytes (Closing b) is = omega arith
some_bytes (Quoted ps) is = omega arith
some_bytes (Word w x) is = omega (arith, is.0.0)

rising_token : (at n : ℕ) (p : Piece) (ts : List Token) → 1 ≤ n → Rising (at + n) ts → Rising at (token at p ++ ts)
rising_token at n (White b) ts le h = rising_from at (at + n) ts (omega arith) h
rising_token at n (Comment c) ts le h = rising_from at (at + n) ts (omega arith) h
rising_token at n (Opening b) ts le h = (omega arith, rising_from (suc at) (at + n) ts (omega arith) h)
rising_token at n (Closing b) ts le h = (omega arith, rising_from (suc at) (at + n) ts (omega arith) h)
rising_token at n (Quoted ps) ts le h = (omega arith, rising_from (suc at) (at + n) ts (omega arith) h)
rising_token at n (Word w x) ts le h = (omega arith, rising_from (suc at) (at + n) ts (omega arith) h)

rising_tokens : (bytes : List ℕ) (at : ℕ) (ps : List Piece) (rest : List ℕ) → Splits bytes ps rest → Rising at (tokens at ps)
rising_tokens bytes at [] rest s = tt
rising_tokens bytes at (p ∷ ps) rest s = rising_token at (length (written p)) p _ (some_bytes p s.2) (rising_tokens s.0 (at + length (written p)) ps rest s.4)

-- ---- the forms that tokens spell

and_left : (a b : Bool) → (a && b) ≡ true → a ≡ true
and_left true b h = refl
and_left false b h = absurd (false≢true h)

and_right : (a b : Bool) → (a && b) ≡ true → b ≡ true
and_right true b h = h
and_right false b h = absurd (false≢true h)

same_number : (m n : ℕ) → eqb m n ≡ true → m ≡ n
same_number m n e = grind (arith, nat_tests)

-- a form stands at a place or behind it, and is such as the reader reads
record StandsRead (n : ℕ) (t : PlainForm) : Type 0 where
  from : n ≤ (place t).from
  span : IsOrdered (place t)
  read : IsRead IsSymbol t

abbrev opening_of : Option Bracket → Span → Token
opening_of b span = record { sign = opens b; span = between span.from (span.from + 1) }

module _ (most : ℕ) (short : most ≤ most_script) where
  group_read : (n : ℕ) (b : Bracket) (ts : PlainForms) (span : Span)
      → ((m : ℕ) → Rising m (spelled_within ts) → AreTokens most (spelled_within ts) → AreRead IsSymbol ts)
      → (is_sugar b ts span ≡ true → Rising n (opening_of None span ∷ drop 1 (spelled_within ts)) → AreTokens most (opening_of None span ∷ drop 1 (spelled_within ts)) → StandsRead n (group b ts span))
      → (s : Bool) → is_sugar b ts span ≡ s
      → Rising n (if s then opening_of None span ∷ drop 1 (spelled_within ts) else opening_of (Some b) span ∷ (spelled_within ts ++ record { sign = closes b; span = between (span.to - 1) span.to } ∷ []))
      → AreTokens most (if s then opening_of None span ∷ drop 1 (spelled_within ts) else opening_of (Some b) span ∷ (spelled_within ts ++ record { sign = closes b; span = between (span.to - 1) span.to } ∷ []))
      → StandsRead n (group b ts span)
  group_read n b ts span inner sugared true e rising are = sugared e rising are
  group_read n b ts span inner sugared false e rising are =
      let close : Token = record { sign = closes b; span = between (span.to - 1) span.to } in
      let last = rising_behind (suc span.from) (spelled_within ts) (close ∷ []) rising.1 in
      let end = behind most (spelled_within ts) (close ∷ []) are.1 in
      let order : IsOrdered span = (omega (arith, last.0, end.0.1), omega (arith, end.0.2, short)) in
      record {
        from = rising.0;
        span = order;
        read = (inner (suc span.from) (rising_ahead (suc span.from) (spelled_within ts) (close ∷ []) rising.1) (ahead most (spelled_within ts) (close ∷ []) are.1), order);
      }

  mutual
    form_read : (n : ℕ) (t : PlainForm) → Rising n (spelled t) → AreTokens most (spelled t) → StandsRead n t
    form_read n (leaf x span) rising are = let order : IsOrdered span = (omega (arith, are.0.1), omega (arith, are.0.2, short)) in record { from = rising.0; span = order; read = (are.0.0, order) }
    form_read n (group b ts span) rising are =
        group_read n b ts span (λ m r a. forms_read m ts r a) (λ e r a. sugar_read n b ts span e r a) (is_sugar b ts span) refl rising are

    sugar_read : (n : ℕ) (b : Bracket) (ts : PlainForms) (span : Span) → is_sugar b ts span ≡ true → Rising n (opening_of None span ∷ drop 1 (spelled_within ts)) → AreTokens most (opening_of None span ∷ drop 1 (spelled_within ts)) → StandsRead n (group b ts span)
    sugar_read n Round (first (leaf (symbol s) at) (first t none)) span e rising are =
        let one : (bytes_eq s deref && eqb at.from span.from && eqb at.to (span.from + 1)) ≡ true = and_left (bytes_eq s deref && eqb at.from span.from && eqb at.to (span.from + 1)) (eqb (place t).to span.to) e in
        let two : (bytes_eq s deref && eqb at.from span.from) ≡ true = and_left (bytes_eq s deref && eqb at.from span.from) (eqb at.to (span.from + 1)) one in
        let name : s ≡ deref = (bytes_eq-Decides s deref).0 (and_left (bytes_eq s deref) (eqb at.from span.from) two) in
        let from : at.from ≡ span.from = same_number at.from span.from (and_right (bytes_eq s deref) (eqb at.from span.from) two) in
        let to : at.to ≡ span.from + 1 = same_number at.to (span.from + 1) (and_right (bytes_eq s deref && eqb at.from span.from) (eqb at.to (span.from + 1)) one) in
        let end : (place t).to ≡ span.to = same_number (place t).to span.to (and_right (bytes_eq s deref && eqb at.from span.from && eqb at.to (span.from + 1)) (eqb (place t).to span.to) e) in
        let alone : spelled t ++ [] ≡ spelled t = append-nil (spelled t) in
        let inner = form_read (suc span.from) t (subst (Rising (suc span.from)) alone rising.1) (subst (AreTokens most) alone are.1) in
        let order : IsOrdered span = (omega (arith, end, inner.from, inner.span.0), omega (arith, end, inner.span.1)) in
        record {
          from = rising.0;
          span = order;
          read = (((subst IsSymbol (sym name) deref_read, (omega (arith, from, to), omega (arith, to, are.0.2, short))), (inner.read, tt)), order);
        }
    sugar_read n b ts span e rising are = absurd (false≢true e)

    forms_read : (n : ℕ) (ts : PlainForms) → Rising n (spelled_within ts) → AreTokens most (spelled_within ts) → AreRead IsSymbol ts
    forms_read n none rising are = tt
    forms_read n (first t ts) rising are = (
      (form_read n t (rising_ahead n (spelled t) (spelled_within ts) rising) (ahead most (spelled t) (spelled_within ts) are)).read,
      forms_read n ts (rising_behind n (spelled t) (spelled_within ts) rising) (behind most (spelled t) (spelled_within ts) are),
    )

  all_read : (n : ℕ) (ts : List PlainForm) → Rising n (flat_map spelled ts) → AreTokens most (flat_map spelled ts) → AllByRecursion (IsRead IsSymbol) ts
  all_read n [] rising are = tt
  all_read n (t ∷ ts) rising are = (
    (form_read n t (rising_ahead n (spelled t) (flat_map spelled ts) rising) (ahead most (spelled t) (flat_map spelled ts) are)).read,
    all_read n ts (rising_behind n (spelled t) (flat_map spelled ts) rising) (behind most (spelled t) (flat_map spelled ts) are),
  )

pub forms_are_read : FormsAreRead
forms_are_read bytes forms reads =
    let most = length bytes in
    all_read most reads.short 0 forms (subst (Rising 0) reads.holds.spells (rising_tokens bytes 0 reads.holds.pieces [] reads.holds.splits))
    (subst (AreTokens most) reads.holds.spells (tokens_read most 0 bytes reads.holds.pieces [] reads.utf8 (omega arith) reads.holds.splits))
