-- Tokens stand one behind the other: so a list in brackets was not written with the sign `@`.
use Rattle.std.proofs.Common.{◌≡◌, ℕ, suc, ◌+◌, ◌<◌, ◌≤◌, Bool, true, false, ◌&&◌, eqb, List, [], ◌∷◌, ◌++◌, length, inl, inr, refl, sym, ap, subst, ◌∙◌, append_assoc, arith}
use Rattle.std.proofs.lemmas.Bool.{cases_Bool, false≢true}
use Rattle.std.proofs.lemmas.Bool.Decides.{nat_tests}
use Rattle.std.proofs.lemmas.List.{append-nil}
use Rattle.std.proofs.lemmas.List.Concat.{flat_map-append}
use Rattle.std.specs.List.{flat_map}
use Rattle.txs_value_data.specs.declared.fault.Span.{Span}
use Rattle.txs_reader.specs.declared.form.Bracket.{Bracket}
use Rattle.txs_reader.specs.declared.form.Bracket.TheVariants.{Round}
use Rattle.txs_reader.specs.Tree.{Leaf, symbol, PlainForm, leaf, trees_of}
use Rattle.txs_reader.specs.Script.{Piece, White, Comment, Opening, Closing, Quoted, Word, written, IsPiece, Splits, opens, stands_for, Token, between, token, tokens, spelled, is_sugar, Open, begun, Holds}

abbrev Rising : ℕ → List Token → Type 0
Rising n [] = Unit {0}
Rising n (t ∷ ts) = (n ≤ t.span.from) × Rising (suc t.span.from) ts

rising_from : (m n : ℕ) (ts : List Token) → m ≤ n → Rising n ts → Rising m ts
rising_from m n [] le h = tt
rising_from m n (t ∷ ts) le h = (omega (arith, h.0), h.1)

some_bytes : (p : Piece) → IsPiece p → 1 ≤ length (written p)
some_bytes (White b) is = omega arith
some_bytes (Comment c) is = omega arith
some_bytes (Opening b) is = omega arith
some_bytes (Closing b) is = omega arith
some_bytes (Quoted ps) is = omega arith
some_bytes (Word w x) is = omega (arith, is.0.0)

rising-token : (at n : ℕ) (p : Piece) (ts : List Token) → 1 ≤ n → Rising (at + n) ts → Rising at (token at p ++ ts)
rising-token at n (White b) ts le h = rising_from at (at + n) ts (omega arith) h
rising-token at n (Comment c) ts le h = rising_from at (at + n) ts (omega arith) h
rising-token at n (Opening b) ts le h = (omega arith, rising_from (suc at) (at + n) ts (omega arith) h)
rising-token at n (Closing b) ts le h = (omega arith, rising_from (suc at) (at + n) ts (omega arith) h)
rising-token at n (Quoted ps) ts le h = (omega arith, rising_from (suc at) (at + n) ts (omega arith) h)
rising-token at n (Word w x) ts le h = (omega arith, rising_from (suc at) (at + n) ts (omega arith) h)

rising-tokens : (bytes : List ℕ) (at : ℕ) (ps : List Piece) (rest : List ℕ) → Splits bytes ps rest → Rising at (tokens at ps)
rising-tokens bytes at [] rest s = tt
rising-tokens bytes at (p ∷ ps) rest s = rising-token at (length (written p)) p _ (some_bytes p s.2) (rising-tokens s.0 (at + length (written p)) ps rest s.4)

apart : (n : ℕ) (before : List Token) (x y : Token) (behind : List Token) → Rising n (before ++ x ∷ y ∷ behind) → x.span.from < y.span.from
apart n [] x y behind h = omega (arith, h.1.0)
apart n (t ∷ before) x y behind h = apart (suc t.span.from) before x y behind h.1

-- the first part of what is written with `@`
record FirstPart (fs : List PlainForm) (from : ℕ) : Type 0 where
  name : List ℕ
  span : Span
  others : List PlainForm
  is : fs ≡ leaf (symbol name) span ∷ others
  begins : span.from ≡ from

and_left : (a b : Bool) → (a && b) ≡ true → a ≡ true
and_left true b h = refl
and_left false b h = absurd (false≢true h)

and_right : (a b : Bool) → (a && b) ≡ true → b ≡ true
and_right true b h = h
and_right false b h = absurd (false≢true h)

same_number : (m n : ℕ) → eqb m n ≡ true → m ≡ n
same_number m n e = grind (arith, nat_tests)

first_part : (b : Bracket) (fs : List PlainForm) (span : Span) → is_sugar b (trees_of fs) span ≡ true → FirstPart fs span.from
first_part Round (leaf (symbol s) at ∷ t ∷ []) span e =
    record { name = s; span = at; others = t ∷ []; is = refl; begins = same_number _ _ (and_right _ _ (and_left _ _ (and_left _ _ e))) }
first_part b fs span e = absurd (false≢true e)

-- what is spelled, with the opening and the first form behind it in sight
in_sight : (os : List Open) (o : Open) (x : Leaf) (span : Span) (gs : List PlainForm) → flat_map begun (os ++ o ∷ []) ++ flat_map spelled (leaf x span ∷ gs) ≡ (flat_map begun os ++ flat_map spelled o.before) ++ record { sign = opens o.bracket; span = between o.from (o.from + 1) } ∷ record { sign = stands_for x; span = span } ∷ flat_map spelled gs
in_sight os o x span gs =
    ap (λ (ts : List Token). ts ++ flat_map spelled (leaf x span ∷ gs)) (flat_map-append begun os (o ∷ []) ∙ ap (λ (ts : List Token). flat_map begun os ++ ts) (append-nil (begun o)))
    ∙ append_assoc (flat_map begun os) (begun o) _
    ∙ ap (λ (ts : List Token). flat_map begun os ++ ts) (append_assoc (flat_map spelled o.before) _ _)
    ∙ sym (append_assoc (flat_map begun os) (flat_map spelled o.before) _)

pub no_sugar : (bytes : List ℕ) (os : List Open) (o : Open) (fs : List PlainForm) (rest : List ℕ) (b : Bracket) (to : ℕ) → Holds bytes (os ++ o ∷ []) fs rest → is_sugar b (trees_of fs) (between o.from to) ≡ false
no_sugar bytes os o fs rest b to h =
    elim (cases_Bool (is_sugar b (trees_of fs) (between o.from to))) [
      | inl t ↦
          let f = first_part b fs (between o.from to) t in
          let spells = h.spells ∙ ap (λ (gs : List PlainForm). flat_map begun (os ++ o ∷ []) ++ flat_map spelled gs) f.is ∙ in_sight os o (symbol f.name) f.span f.others in
          let lt : o.from < f.span.from = apart 0 _ _ _ _ (subst (Rising 0) spells (rising-tokens bytes 0 h.pieces rest h.splits)) in
          absurd (omega (arith, lt, f.begins))
      | inr e ↦ e
    ]
