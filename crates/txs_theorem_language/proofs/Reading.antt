-- The forms of a text stand in it one behind the other, and so do the parts of each.
use Rattle.std.proofs.Common.{◌≡◌, ℕ, ◌+◌, ◌-◌, ◌<◌, ◌≤◌, Bool, true, false, ◌&&◌, Some, None, List, [], ◌∷◌, ◌++◌, length, refl, sym, ap, subst, ◌∙◌, append_assoc, arith, if◌then◌else◌}
use Rattle.std.proofs.lemmas.Bool.{false≢true}
use Rattle.std.proofs.lemmas.Bool.Decides.{nat_tests}
use Rattle.std.proofs.lemmas.List.{append-nil}
use Rattle.std.specs.List.{flat_map}
use Rattle.std.specs.Prelude.{bytes_eq, ◌==◌, drop}
use Rattle.txs_value_data.specs.declared.fault.Span.{Span}
use Rattle.txs_reader.specs.declared.form.Bracket.{Bracket}
use Rattle.txs_reader.specs.declared.form.Bracket.TheVariants.{Round}
use Rattle.txs_reader.specs.Tree.{symbol, PlainForm as Form, PlainForms as Forms, leaf, group, first, place, trees_of, deref}
use Rattle.txs_reader.specs.Tree.{none as no_forms}
use Rattle.txs_reader.specs.Script.{Piece, White, Comment, Opening, Closing, Quoted, Word, written, IsPiece, Splits, opens, closes, Token, between, token, tokens, spelled, spelled_within, is_sugar, Reads}
use Rattle.txs_theorem_language.specs.TextOrder.{Nests, NestIn}

-- tokens with bytes of their own stand one behind the other, from this offset up to that one
abbrev Laid : ℕ → ℕ → List Token → Type 0
Laid from to [] = from ≤ to
Laid from to (t ∷ ts) = (from ≤ t.span.from) × (t.span.from < t.span.to) × Laid t.span.to to ts

laid_from : (m n to : ℕ) (ts : List Token) → m ≤ n → Laid n to ts → Laid m to ts
laid_from m n to [] le h = omega (arith, le, h)
laid_from m n to (t ∷ ts) le h = (omega (arith, le, h.0), h.1, h.2)

laid_token : (at n to : ℕ) (p : Piece) (ts : List Token) → n ≡ length (written p) → IsPiece p → Laid (at + n) to ts → Laid at to (token at p ++ ts)
laid_token at n to (White b) ts is ok h = laid_from at (at + n) to ts (omega arith) h
laid_token at n to (Comment c) ts is ok h = laid_from at (at + n) to ts (omega arith) h
laid_token at n to (Opening b) ts is ok h = (omega arith, omega arith, laid_from (at + 1) (at + n) to ts (omega (arith, is)) h)
laid_token at n to (Closing b) ts is ok h = (omega arith, omega arith, laid_from (at + 1) (at + n) to ts (omega (arith, is)) h)
laid_token at n to (Quoted ps) ts is ok h = (omega arith, omega arith, laid_from (at + length (written (Quoted ps))) (at + n) to ts (omega (arith, is)) h)
laid_token at n to (Word w x) ts is ok h = (omega arith, omega (arith, ok.0.0), laid_from (at + length w) (at + n) to ts (omega (arith, is)) h)

-- how many bytes pieces have
abbrev size : List Piece → ℕ
size [] = 0
size (p ∷ ps) = length (written p) + size ps

laid_tokens : (bytes : List ℕ) (at to : ℕ) (ps : List Piece) (rest : List ℕ) → Splits bytes ps rest → at + size ps ≤ to → Laid at to (tokens at ps)
laid_tokens bytes at to [] rest s le = omega (arith, le)
laid_tokens bytes at to (p ∷ ps) rest s le =
    laid_token at (length (written p)) to p (tokens (at + length (written p)) ps) refl s.2
    (laid_tokens s.0 (at + length (written p)) to ps rest s.4 (omega (arith, le)))

length_append : (xs ys : List ℕ) → length (xs ++ ys) ≡ length xs + length ys
length_append [] ys = omega arith
length_append (x ∷ xs) ys = omega (arith, length_append xs ys)

size_within : (bytes : List ℕ) (ps : List Piece) (rest : List ℕ) → Splits bytes ps rest → size ps ≤ length bytes
size_within bytes [] rest s = omega arith
size_within bytes (p ∷ ps) rest s =
    omega (arith, size_within s.0 ps rest s.4, ap length s.1, length_append (written p) s.0)

-- ---- forms

nest_wider : (m n a b : ℕ) (fs : Forms) → m ≤ n → a ≤ b → NestIn n a fs → NestIn m b fs
nest_wider m n a b no_forms le ge h = omega (arith, le, ge, h)
nest_wider m n a b (first f fs) le ge h = (omega (arith, le, h.0), h.1, nest_wider (place f).to (place f).to a b fs (omega arith) ge h.2)

-- a form stands from here on, and these tokens behind it
record Stood (from to : ℕ) (f : Form) (ts : List Token) : Type 0 where
  begins : from ≤ (place f).from
  nests : Nests f
  behind : Laid (place f).to to ts

-- forms stand up to somewhere, and these tokens behind them
record RowStood (from to : ℕ) (fs : Forms) (ts : List Token) : Type 0 where
  end : ℕ
  nests : NestIn from end fs
  behind : Laid end to ts

and_left : (a b : Bool) → (a && b) ≡ true → a ≡ true
and_left true b h = refl
and_left false b h = absurd (false≢true h)

and_right : (a b : Bool) → (a && b) ≡ true → b ≡ true
and_right true b h = h
and_right false b h = absurd (false≢true h)

in_brackets : (b : Bracket) (fs : Forms) (at : Span) (from to : ℕ) (ts : List Token) → from ≤ at.from → RowStood (at.from + 1) to fs (record { sign = closes b; span = between (at.to - 1) at.to } ∷ ts) → Stood from to (group b fs at) ts
in_brackets b fs at from to ts le r =
    let h = r.behind in
    record {
      begins = le;
      nests = (omega (arith, nest_ends (at.from + 1) r.end fs r.nests, h.0, h.1), nest_wider at.from (at.from + 1) r.end at.to fs (omega arith) (omega (arith, h.0, h.1)) r.nests);
      behind = h.2;
    }
  where
    nests_on : (f : Form) → Nests f → (place f).from < (place f).to
    nests_on (leaf x span) h = h
    nests_on (group c gs span) h = h.0

    nest_ends : (m n : ℕ) (gs : Forms) → NestIn m n gs → m ≤ n
    nest_ends m n no_forms h = h
    nest_ends m n (first f gs) h = omega (arith, h.0, nests_on f h.1, nest_ends (place f).to n gs h.2)

mutual
  stood : (f : Form) (from to : ℕ) (ts : List Token) → Laid from to (spelled f ++ ts) → Stood from to f ts
  stood (leaf x at) from to ts h = record { begins = h.0; nests = h.1; behind = h.2 }
  stood (group b fs at) from to ts h =
      by (λ is le k. stood_sugar b fs at from to ts is le k) (λ k. stood_row fs (at.from + 1) to (record { sign = closes b; span = between (at.to - 1) at.to } ∷ ts) k) (is_sugar b fs at) refl h
    where
      by : (is_sugar b fs at ≡ true → from ≤ at.from → Laid (at.from + 1) to (drop 1 (spelled_within fs) ++ ts) → Stood from to (group b fs at) ts)
          → (Laid (at.from + 1) to (spelled_within fs ++ record { sign = closes b; span = between (at.to - 1) at.to } ∷ ts) → RowStood (at.from + 1) to fs (record { sign = closes b; span = between (at.to - 1) at.to } ∷ ts))
          → (y : Bool) → is_sugar b fs at ≡ y →
          Laid from to ((if y then record { sign = opens None; span = between at.from (at.from + 1) } ∷ drop 1 (spelled_within fs)
          else record { sign = opens (Some b); span = between at.from (at.from + 1) } ∷ (spelled_within fs ++ record { sign = closes b; span = between (at.to - 1) at.to } ∷ [])) ++ ts)
          → Stood from to (group b fs at) ts
      by sugar row true is k = sugar is k.0 k.2
      by sugar row false is k =
          in_brackets b fs at from to ts k.0
          (row (subst (Laid (at.from + 1) to) (append_assoc (spelled_within fs) (record { sign = closes b; span = between (at.to - 1) at.to } ∷ []) ts) k.2))

  stood_sugar : (b : Bracket) (fs : Forms) (at : Span) (from to : ℕ) (ts : List Token) → is_sugar b fs at ≡ true → from ≤ at.from → Laid (at.from + 1) to (drop 1 (spelled_within fs) ++ ts) → Stood from to (group b fs at) ts
  stood_sugar Round (first (leaf (symbol s) sat) (first t no_forms)) at from to ts is le h =
      let one = bytes_eq s deref in
      let two = sat.from == at.from in
      let three = sat.to == at.from + 1 in
      let four = (place t).to == at.to in
      let k = stood t (at.from + 1) to ts (subst (λ l. Laid (at.from + 1) to (l ++ ts)) (append-nil (spelled t)) h) in
      let e4 : (place t).to ≡ at.to = grind (arith, nat_tests, and_right (one && two && three) four is) in
      let e3 : sat.to ≡ at.from + 1 = grind (arith, nat_tests, and_right (one && two) three (and_left (one && two && three) four is)) in
      let e2 : sat.from ≡ at.from = grind (arith, nat_tests, and_right one two (and_left (one && two) three (and_left (one && two && three) four is))) in
      record {
        begins = le;
        nests = (omega (arith, e4, k.begins, nests_on t k.nests), (omega (arith, e2), omega (arith, e2, e3), (omega (arith, e3, k.begins), k.nests, omega (arith, e4))));
        behind = subst (λ n. Laid n to ts) e4 k.behind;
      }
    where
      nests_on : (f : Form) → Nests f → (place f).from < (place f).to
      nests_on (leaf x span) h = h
      nests_on (group c gs span) h = h.0
  stood_sugar _ _ at from to ts is le h = absurd (false≢true is)

  stood_row : (fs : Forms) (from to : ℕ) (ts : List Token) → Laid from to (spelled_within fs ++ ts) → RowStood from to fs ts
  stood_row no_forms from to ts h = record { end = from; nests = omega arith; behind = h }
  stood_row (first f fs) from to ts h =
      let one = stood f from to (spelled_within fs ++ ts) (subst (Laid from to) (append_assoc (spelled f) (spelled_within fs) ts) h) in
      let rest = stood_row fs (place f).to to ts one.behind in
      record { end = rest.end; nests = (one.begins, one.nests, rest.nests); behind = rest.behind }

spelled_all : (fs : List Form) → flat_map spelled fs ≡ spelled_within (trees_of fs)
spelled_all [] = refl
spelled_all (f ∷ fs) = ap (λ l. spelled f ++ l) (spelled_all fs)

pub forms_nest : (bytes : List ℕ) (forms : List Form) → Reads bytes forms → NestIn 0 (length bytes) (trees_of forms)
forms_nest bytes forms h =
    let spells = h.holds.spells ∙ spelled_all forms in
    let laid : Laid 0 (length bytes) (tokens 0 h.holds.pieces) = laid_tokens bytes 0 (length bytes) h.holds.pieces [] h.holds.splits (omega (arith, size_within bytes h.holds.pieces [] h.holds.splits)) in
    let r = stood_row (trees_of forms) 0 (length bytes) [] (subst (Laid 0 (length bytes)) (spells ∙ sym (append-nil (spelled_within (trees_of forms)))) laid) in
    nest_wider 0 0 r.end (length bytes) (trees_of forms) (omega arith) r.behind r.nests
