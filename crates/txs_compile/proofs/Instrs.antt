-- Instructions that name what is there, and count few arguments, have a byte form.
use Rattle.std.proofs.Common.{◌≡◌, ℕ, suc, ◌+◌, ◌<◌, ◌≤◌, List, [], ◌∷◌, length, Some, refl, subst, arith}
use Rattle.std.specs.Prelude.{nat_lt, nat_le}
use Rattle.std.specs.List.{AllByRecursion}
use Rattle.txs_value_data.specs.Limits.{most_items, most_locals}
use Rattle.txs_value_data.proofs.OperationsLemmas.{op_number-below, op_there}
use Rattle.txs_value_data.specs.Places.{nth}
use Rattle.txs_value_data.specs.declared.fault.Span.{Span}
use Rattle.txs_value_cell.specs.declared.form.LookForm.TheVariants.{Deref, Ensure}
use Rattle.txs_value_cell.specs.declared.form.PutForm.TheVariants.{RefSet, Reset}
use Rattle.txs_value_cell.specs.declared.form.UpdateForm.TheVariants as update
use Rattle.txs_value_data.specs.declared.op.Callee.{Callee}
use Rattle.txs_value_data.specs.declared.op.Callee.TheVariants as callee
use Rattle.txs_value_data.specs.declared.op.Op.{Op}
use Rattle.txs_value_data.specs.declared.value.Value.{Value}
use Rattle.txs_code_meaning.specs.declared.instr.Instr.{Instr}
use Rattle.txs_code_meaning.specs.declared.instr.Instr.TheVariants as instr
use Rattle.txs_code_meaning.specs.declared.instr.OpenForm.TheVariants as open_form
use Rattle.txs_code_meaning.specs.PlainCode.{CodeBody, plain_instr, plain_instrs}
use Rattle.txs_code_meaning.specs.Spans.{IsOrdered, AreOrdered}
use Rattle.txs_code_meaning.specs.WellTyped.{CalleeTakes, IsLawful}
use Rattle.txs_code_decode.specs.declared.error.CodeErrorKind.TheVariants.{BadOperand}
use Rattle.txs_code_decode.specs.CodeForm.{paired}
use Rattle.txs_code_decode.specs.InstrForm.{op_format, callee_format, opcode_format, instr_format, span_format, placed_format}
use Rattle.txs_compile.proofs.Counts.{IsFew, AreFew}
use Rattle.txs_compile.proofs.Values.{must_true, is_below, is_within}

-- ---- operations and callees

op_fits : (op : Op) → op_format.fits op
unfolding op_format
op_fits op = (omega (arith, op_number-below op), op_there op)

-- a callee is an operation, or one of so many functions
abbrev pub IsCallee : ℕ → Callee → Type 0
IsCallee fs (callee.Core op) = Unit {0}
IsCallee fs (callee.Function f) = f < fs

pub callee_fits : (fs : ℕ) (c : Callee) → fs ≤ 1000 → IsCallee fs c → (callee_format fs).fits c
unfolding callee_format
callee_fits fs (callee.Core op) few h = ((omega arith, refl), ((omega (arith, op_number-below op), op_there op), refl))
callee_fits fs (callee.Function f) few h = ((omega arith, refl), ((omega (arith, h, few), must_true BadOperand (nat_lt f fs) (is_below f fs h)), refl))

-- ---- instructions

-- so many constants, functions and locals there are, and instructions of the body
pub record Sizes : Type 0 where
  pub constants : ℕ
  pub functions : ℕ
  pub locals : ℕ
  pub instrs : ℕ

-- what an instruction names is there, and it counts few arguments
abbrev pub Named : Sizes → Instr → Type 0
Named z (instr.Const k) = k < z.constants
Named z (instr.Local i) = i < z.locals
Named z (instr.Store i) = i < z.locals
Named z instr.Pop = Unit {0}
Named z (instr.Jump to) = to < z.instrs
Named z (instr.JumpFalse to) = to < z.instrs
Named z (instr.Core op n) = n ≤ most_items
Named z (instr.Call f) = f < z.functions
Named z instr.Return = Unit {0}
Named z (instr.Vector n) = n ≤ most_items
Named z (instr.Print n) = n ≤ most_items
Named z (instr.Look look) = Unit {0}
Named z (instr.Put put) = Unit {0}
Named z instr.TxBegin = Unit {0}
Named z instr.TxEnd = Unit {0}
Named z (instr.Open open_form.Alter n) = n ≤ most_items
Named z (instr.Open (open_form.Commute c) n) = IsCallee z.functions c × (n ≤ most_items)
Named z (instr.Open (open_form.Swap c) n) = IsCallee z.functions c × (n ≤ most_items)
Named z (instr.Close form) = Unit {0}
Named z (instr.Send c n) = IsCallee z.functions c × (n ≤ most_items)
Named z instr.Halt = Unit {0}

-- the sizes of what the limits allow
pub record IsSized (z : Sizes) : Type 0 where
  pub constants : z.constants ≤ 1000000
  pub functions : z.functions ≤ 1000
  pub locals : z.locals ≤ most_locals
  pub instrs : z.instrs ≤ 1000000

instr_fits : (z : Sizes) → IsSized z → (i : Instr) → Named z i → (instr_format z.constants z.functions).fits i
unfolding instr_format opcode_format
instr_fits z s (instr.Const k) h = ((omega arith, refl), ((omega (arith, h, s.constants), must_true BadOperand (nat_lt k z.constants) (is_below k z.constants h)), refl))
instr_fits z s (instr.Local i) h = ((omega arith, refl), (omega (arith, h, s.locals), refl))
instr_fits z s (instr.Store i) h = ((omega arith, refl), (omega (arith, h, s.locals), refl))
instr_fits z s instr.Pop h = ((omega arith, refl), refl)
instr_fits z s (instr.Jump to) h = ((omega arith, refl), (omega (arith, h, s.instrs), refl))
instr_fits z s (instr.JumpFalse to) h = ((omega arith, refl), (omega (arith, h, s.instrs), refl))
instr_fits z s (instr.Core op n) h = ((omega arith, refl), ((op_fits op, omega (arith, h)), refl))
instr_fits z s (instr.Call f) h = ((omega arith, refl), ((omega (arith, h, s.functions), must_true BadOperand (nat_lt f z.functions) (is_below f z.functions h)), refl))
instr_fits z s instr.Return h = ((omega arith, refl), refl)
instr_fits z s (instr.Vector n) h = ((omega arith, refl), (omega (arith, h), refl))
instr_fits z s (instr.Print n) h = ((omega arith, refl), (omega (arith, h), refl))
instr_fits z s (instr.Look Deref) h = ((omega arith, refl), refl)
instr_fits z s (instr.Look Ensure) h = ((omega arith, refl), refl)
instr_fits z s (instr.Put RefSet) h = ((omega arith, refl), refl)
instr_fits z s (instr.Put Reset) h = ((omega arith, refl), refl)
instr_fits z s instr.TxBegin h = ((omega arith, refl), refl)
instr_fits z s instr.TxEnd h = ((omega arith, refl), refl)
instr_fits z s (instr.Open open_form.Alter n) h = ((omega arith, refl), (omega (arith, h), refl))
instr_fits z s (instr.Open (open_form.Commute c) n) h = ((omega arith, refl), ((callee_fits z.functions c s.functions h.0, omega (arith, h.1)), refl))
instr_fits z s (instr.Open (open_form.Swap c) n) h = ((omega arith, refl), ((callee_fits z.functions c s.functions h.0, omega (arith, h.1)), refl))
instr_fits z s (instr.Close update.Alter) h = ((omega arith, refl), refl)
instr_fits z s (instr.Close update.Commute) h = ((omega arith, refl), refl)
instr_fits z s (instr.Close update.Swap) h = ((omega arith, refl), refl)
instr_fits z s (instr.Send c n) h = ((omega arith, refl), ((callee_fits z.functions c s.functions h.0, omega (arith, h.1)), refl))
instr_fits z s instr.Halt h = ((omega arith, refl), refl)

span_fits : (span : Span) → IsOrdered span → span_format.fits span
unfolding span_format
span_fits span h = ((omega (arith, h.0, h.1), (omega (arith, h.1), must_true BadOperand (nat_le span.from span.to) (is_within span.from span.to h.0))), refl)

pub placed_fit : (z : Sizes) → IsSized z → (is : List Instr) (ss : List Span) → AllByRecursion (Named z) is → AreOrdered ss → AllByRecursion (placed_format z.constants z.functions).fits (paired is ss)
unfolding placed_format
placed_fit z s [] ss h o = tt
placed_fit z s (i ∷ is) [] h o = tt
placed_fit z s (i ∷ is) (span ∷ ss) h o = ((instr_fits z s i h.0, span_fits span o.0), placed_fit z s is ss h.1 o.1)

-- ---- lawful instructions name what is there

callee_named : (callable fs : ℕ) (ps : List ℕ) (c : Callee) (n : ℕ) → callable ≤ fs → CalleeTakes callable ps c n → IsCallee fs c
callee_named callable fs ps (callee.Core op) n le h = tt
callee_named callable fs ps (callee.Function f) n le h = omega (arith, h.0, le)

-- what an instruction counts, as the machine sees it
abbrev Counts : Instr → Type 0
Counts (instr.Core op n) = n ≤ most_items
Counts (instr.Vector n) = n ≤ most_items
Counts (instr.Print n) = n ≤ most_items
Counts (instr.Open f n) = n ≤ most_items
Counts (instr.Send c n) = n ≤ most_items
Counts _ = Unit {0}

lawful_named : (callable fs : ℕ) (ps : List ℕ) (ks : List Value) (b : CodeBody) (at : ℕ) (i : Instr) → callable ≤ fs → IsLawful callable ps ks b at i → Counts i
    → Named (record { constants = length ks; functions = fs; locals = b.locals; instrs = length b.instrs }) i
lawful_named callable fs ps ks b at (instr.Const k) le h c = h
lawful_named callable fs ps ks b at (instr.Local i) le h c = h
lawful_named callable fs ps ks b at (instr.Store i) le h c = h
lawful_named callable fs ps ks b at instr.Pop le h c = tt
lawful_named callable fs ps ks b at (instr.Jump to) le h c = h.0
lawful_named callable fs ps ks b at (instr.JumpFalse to) le h c = h.0
lawful_named callable fs ps ks b at (instr.Core op n) le h c = c
lawful_named callable fs ps ks b at (instr.Call f) le h c = omega (arith, h, le)
lawful_named callable fs ps ks b at instr.Return le h c = tt
lawful_named callable fs ps ks b at (instr.Vector n) le h c = c
lawful_named callable fs ps ks b at (instr.Print n) le h c = c
lawful_named callable fs ps ks b at (instr.Look look) le h c = tt
lawful_named callable fs ps ks b at (instr.Put put) le h c = tt
lawful_named callable fs ps ks b at instr.TxBegin le h c = tt
lawful_named callable fs ps ks b at instr.TxEnd le h c = tt
lawful_named callable fs ps ks b at (instr.Open open_form.Alter n) le h c = c
lawful_named callable fs ps ks b at (instr.Open (open_form.Commute f) n) le h c = (callee_named callable fs ps f (n + 1) le h.0, c)
lawful_named callable fs ps ks b at (instr.Open (open_form.Swap f) n) le h c = (callee_named callable fs ps f (n + 1) le h.0, c)
lawful_named callable fs ps ks b at (instr.Close form) le h c = tt
lawful_named callable fs ps ks b at (instr.Send f n) le h c = (callee_named callable fs ps f (n + 1) le h, c)
lawful_named callable fs ps ks b at instr.Halt le h c = tt

counts_back : (ps : List ℕ) (ks : List Value) (i : Instr) (span : Span) → IsFew (plain_instr ps ks i span) → Counts i
counts_back ps ks (instr.Const k) span h = tt
counts_back ps ks (instr.Local i) span h = tt
counts_back ps ks (instr.Store i) span h = tt
counts_back ps ks instr.Pop span h = tt
counts_back ps ks (instr.Jump to) span h = tt
counts_back ps ks (instr.JumpFalse to) span h = tt
counts_back ps ks (instr.Core op n) span h = h
counts_back ps ks (instr.Call f) span h = tt
counts_back ps ks instr.Return span h = tt
counts_back ps ks (instr.Vector n) span h = h
counts_back ps ks (instr.Print n) span h = h
counts_back ps ks (instr.Look look) span h = tt
counts_back ps ks (instr.Put put) span h = tt
counts_back ps ks instr.TxBegin span h = tt
counts_back ps ks instr.TxEnd span h = tt
counts_back ps ks (instr.Open f n) span h = h
counts_back ps ks (instr.Close form) span h = tt
counts_back ps ks (instr.Send c n) span h = h
counts_back ps ks instr.Halt span h = tt

next : (from at : ℕ) → from + suc at ≡ suc from + at
next from at = omega arith

-- each instruction of a lawful body, of which the plain ones count few arguments
pub all_named : (callable fs : ℕ) (ps : List ℕ) (ks : List Value) (b : CodeBody) → callable ≤ fs → (from : ℕ) (is : List Instr) (ss : List Span) → length ss ≡ length is
    → ((at : ℕ) (i : Instr) → nth is at ≡ Some i → IsLawful callable ps ks b (from + at) i) → AreFew (plain_instrs ps ks is ss)
    → AllByRecursion (Named (record { constants = length ks; functions = fs; locals = b.locals; instrs = length b.instrs })) is
all_named callable fs ps ks b le from [] ss e h few = tt
all_named callable fs ps ks b le from (i ∷ is) [] e h few = absurd (omega (arith, e))
all_named callable fs ps ks b le from (i ∷ is) (span ∷ ss) e h few = (
  lawful_named callable fs ps ks b (from + 0) i le (h 0 i refl) (counts_back ps ks i span few.0),
  all_named callable fs ps ks b le (suc from) is ss (omega (arith, e)) (λ at j there. subst (λ (n : ℕ). IsLawful callable ps ks b n j) (next from at) (h (suc at) j there)) few.1,
)
