-- Lists told by places, operations by their numbers, and instructions beside their spans.
use Rattle.std.proofs.Common.{◌≡◌, ◌≢◌, ℕ, zero, suc, ◌+◌, ◌<◌, ◌≤◌, List, [], ◌∷◌, ◌++◌, length, map, get_or, take, add-one, Bool, Ok, Option, Some, None, refl, sym, ap, ◌∙◌, arith, inl, inr}
use Rattle.std.specs.Prelude.{MatchOption}
use Rattle.std.proofs.lemmas.Bool.{cases_lt}
use Rattle.txs_value_data.specs.Operations.{op_number, operations}
use Rattle.txs_value_data.specs.Places.{nth}
use Rattle.txs_value_data.specs.declared.fault.Span.{Span}
use Rattle.txs_value_data.specs.declared.op.Op.{Op}
use Rattle.txs_value_data.specs.declared.op.Op.TheVariants as ops
use Rattle.txs_code_meaning.specs.declared.instr.Instr.{Instr}
use Rattle.std.specs.Int.{w32}
use Rattle.txs_code_meaning.specs.PlainCode.{CodeBody}
use Rattle.txs_code_decode.specs.CodeForm.{all_instructions, body_format, instructions, paired, parameters_format}
use Rattle.txs_code_decode.specs.Format.{byte_at, counted, number, tested}
use Rattle.txs_code_decode.specs.ValueForm.{at_most}
use Rattle.txs_code_decode.specs.InstrForm.{placed_format}
use Rattle.txs_value_data.proofs.OperationsLemmas.{number-of_operation, op_there}
use Rattle.txs_code_decode.proofs.Exact.{InOrder, in_order_by}

-- past its end a list has nothing
pub nth_past : {A : Type 0} (xs : List A) (i : ℕ) → length xs ≤ i → nth xs i ≡ None
nth_past [] i le = refl
nth_past (x ∷ xs) zero le = absurd (omega (arith, le))
nth_past (x ∷ xs) (suc i) le = nth_past xs i (omega (arith, le))

-- before it, an item
pub nth_is : {A : Type 0} (xs : List A) (i : ℕ) (d : A) → i < length xs → nth xs i ≡ Some (get_or xs i d)
nth_is [] i d lt = absurd (omega (arith, lt))
nth_is (x ∷ xs) zero d lt = refl
nth_is (x ∷ xs) (suc i) d lt = nth_is xs i d (omega (arith, lt))

-- the operation of a number stands there
pub op_found : (op : Op) (n : ℕ) → op_number op ≡ n → nth operations n ≡ Some op
op_found op n e = ap (nth operations) (sym e) ∙ op_there op

pub in_order : InOrder op_number 0 operations
in_order = in_order_by op_number 0 operations refl

-- the operation that was found of a number, if there is one, is the one that stands there
pub op_answer : (r : Option Op) (n : ℕ) → MatchOption r ((op : Op) → op_number op ≢ n) (λ op. op_number op ≡ n) → r ≡ nth operations n
op_answer (Some op) n h = sym (op_found op n h)
op_answer None n h =
    elim (cases_lt n (length operations)) [
      | inl lt ↦ absurd (h (get_or operations n ops.Add) (number-of_operation n ops.Add lt))
      | inr le ↦ sym (nth_past operations n le)
    ]

-- instructions put beside their spans, one more
pub paired_more : (is : List Instr) (ss : List Span) (i : Instr) (s : Span) → length ss ≡ length is → paired (is ++ i ∷ []) (ss ++ s ∷ []) ≡ paired is ss ++ (i, s) ∷ []
paired_more [] [] i s e = refl
paired_more [] (x ∷ ss) i s e = absurd (omega (arith, e))
paired_more (j ∷ is) [] i s e = absurd (omega (arith, e))
paired_more (j ∷ is) (x ∷ ss) i s e = ap (λ ps. (j, x) ∷ ps) (paired_more is ss i s (omega (arith, e)))

-- instructions put beside their spans, and taken again
pub firsts : (is : List Instr) (ss : List Span) → length ss ≡ length is → map (λ p. p.0) (paired is ss) ≡ is
firsts [] [] e = refl
firsts [] (x ∷ ss) e = refl
firsts (i ∷ is) [] e = absurd (omega (arith, e))
firsts (i ∷ is) (s ∷ ss) e = ap (λ is. i ∷ is) (firsts is ss (omega (arith, e)))

-- and the spans
pub seconds : (is : List Instr) (ss : List Span) → length ss ≡ length is → map (λ p. p.1) (paired is ss) ≡ ss
seconds [] [] e = refl
seconds [] (x ∷ ss) e = absurd (omega (arith, e))
seconds (i ∷ is) [] e = absurd (omega (arith, e))
seconds (i ∷ is) (s ∷ ss) e = ap (λ ss. s ∷ ss) (seconds is ss (omega (arith, e)))

all_suc : (bs : List CodeBody) (i : ℕ) (b : CodeBody) → i < length bs → b ≡ get_or bs i b → all_instructions (take (suc i) bs) ≡ all_instructions (take i bs) + instructions b
all_suc [] i b lt e = absurd (omega (arith, lt))
all_suc (a ∷ bs) zero b lt e = let same = ap instructions e in omega (arith, same)
all_suc (a ∷ bs) (suc i) b lt e = omega (arith, all_suc bs i b (omega (arith, lt)) e)

-- one more body has its instructions more
pub all_next : (bs : List CodeBody) (i : ℕ) (b : CodeBody) → i < length bs → b ≡ get_or bs i b → all_instructions (take (i + 1) bs) ≡ all_instructions (take i bs) + instructions b
all_next bs i b lt e = rw add-one (all_suc bs i b lt e)

-- a body, read part by part
pub body_reads : (thread : Bool) (ks fs left : ℕ) (bytes r1 r2 r3 : List ℕ) (p l : ℕ) (is : List Instr) (ss : List Span) → (parameters_format thread).read bytes ≡ Ok (p, r1) → byte_at r1 ≡ Ok (l, r2)
    → (counted (tested (number w32) (at_most left)) (placed_format ks fs)).read r2 ≡ Ok (paired is ss, r3) → length ss ≡ length is
    → (body_format thread ks fs left).read bytes ≡ Ok (record { parameters = p; locals = l; instrs = is; spans = ss }, r3)
unfolding body_format
body_reads thread ks fs left bytes r1 r2 r3 p l is ss h1 h2 h3 n = rw (h1, h2, h3, firsts is ss n, seconds is ss n) refl
