-- The formats of instructions, bodies and code are exact.
use Rattle.std.proofs.Common.{◌≡◌, ℕ, zero, suc, ◌-◌, Bool, true, false, List, [], ◌∷◌, length, map, None, is_some, refl, sym, ap}
use Rattle.std.specs.Prelude.{◌==◌, ◌||◌}
use Rattle.std.specs.List.{AllByRecursion}
use Rattle.std.specs.Int.{w16, w32}
use Rattle.std.proofs.lemmas.Bool.{eqb-true}
use Rattle.txs_value_data.specs.Limits.{most_definitions, most_threads}
use Rattle.txs_value_cell.specs.declared.cell.CellDefinition.{CellDefinition}
use Rattle.txs_value_data.specs.declared.fault.Span.{Span}
use Rattle.txs_value_data.specs.declared.op.Callee.{Callee}
use Rattle.txs_value_data.specs.declared.value.CellKind.{CellKind}
use Rattle.txs_code_meaning.specs.PlainCode.{CodeBody}
use Rattle.txs_code_meaning.specs.declared.instr.Instr.{Instr}
use Rattle.txs_code_meaning.specs.declared.instr.Instr.TheVariants as instr
use Rattle.txs_code_meaning.specs.declared.instr.OpenForm.TheVariants as open_form
use Rattle.txs_value_cell.specs.declared.form.LookForm.TheVariants.{Deref, Ensure}
use Rattle.txs_value_cell.specs.declared.form.PutForm.TheVariants.{RefSet, Reset}
use Rattle.txs_value_cell.specs.declared.form.UpdateForm.TheVariants as update
use Rattle.txs_code_decode.specs.declared.error.CodeErrorKind.{CodeErrorKind}
use Rattle.txs_code_decode.specs.declared.error.CodeErrorKind.TheVariants.{BadMagic, BadOpcode, BadOperand}
use Rattle.txs_code_decode.specs.declared.opcode.Opcode.{Opcode}
use Rattle.txs_code_decode.specs.declared.opcode.Opcode.TheVariants as opcode
use Rattle.txs_code_decode.specs.CellForm.{cell_format, constant_format, kinds_of, validator_format}
use Rattle.txs_code_meaning.specs.Validating.{has_validator, is_validated}
use Rattle.txs_code_decode.specs.CodeForm.{paired, body_parts, body_of, parameters_format, body_format, instructions, all_instructions, bodies_format, functions_format, threads_format, most_instructions, magic, magic_1, magic_2, magic_format, cells_format, told_cells_format, constants_format, program_format, code_format}
use Rattle.txs_code_decode.specs.Format.{Format, byte, number, tested, SharingFits, sharing}
use Rattle.txs_code_decode.specs.InstrForm.{op_format, callee_format, opcodes, opcode_byte, opcode_of, opcode_format, operand, operation, named, callee_and_count, operands, instr_format, span_format, placed_format}
use Rattle.txs_code_decode.specs.ValueForm.{must, below, at_most}
use Rattle.txs_code_decode.proofs.Exact.{Exact, InOrder, in_order_by, byte_exact, tested_exact, before_exact, one_of_exact, only_exact, pair_exact, mapped_exact, counted_exact, tagged_exact, sharing_exact}
use Rattle.txs_code_decode.proofs.CellExact.{op_exact, callee_exact, cell_exact}
use Rattle.txs_code_decode.proofs.ValueExact.{n16, n32, constant_exact}

-- ---- instructions

callee_count_exact : (functions : ℕ) (make : Callee → ℕ → Instr) → ((c : Callee) (n : ℕ) → (named (make c n) ≡ c) × (operand (make c n) ≡ n)) → Exact (callee_and_count functions make)
callee_count_exact functions make back =
    mapped_exact (λ p. make p.0 p.1) (λ i. (named i, operand i)) _ (pair_exact (callee_format functions) (λ c. number w16) (callee_exact functions) (λ c. n16))
    (λ p fits. let b = back p.0 p.1 in λ i. (b.0 i, b.1 i))

operands_exact : (ks fs : ℕ) (o : Opcode) → Exact (operands ks fs o)
operands_exact ks fs opcode.Const = mapped_exact instr.Const operand _ (tested_exact _ (below ks) n32) (λ n fits. refl)
operands_exact ks fs opcode.Local = mapped_exact instr.Local operand byte byte_exact (λ n fits. refl)
operands_exact ks fs opcode.Store = mapped_exact instr.Store operand byte byte_exact (λ n fits. refl)
operands_exact ks fs opcode.Pop = only_exact instr.Pop
operands_exact ks fs opcode.Jump = mapped_exact instr.Jump operand _ n32 (λ n fits. refl)
operands_exact ks fs opcode.JumpFalse = mapped_exact instr.JumpFalse operand _ n32 (λ n fits. refl)
operands_exact ks fs opcode.Core = mapped_exact (λ p. instr.Core p.0 p.1) (λ i. (operation i, operand i)) _ (pair_exact op_format (λ op. number w16) op_exact (λ op. n16)) (λ p fits. refl)
operands_exact ks fs opcode.Call = mapped_exact instr.Call operand _ (tested_exact _ (below fs) n16) (λ n fits. refl)
operands_exact ks fs opcode.Return = only_exact instr.Return
operands_exact ks fs opcode.Vector = mapped_exact instr.Vector operand _ n16 (λ n fits. refl)
operands_exact ks fs opcode.Print = mapped_exact instr.Print operand _ n16 (λ n fits. refl)
operands_exact ks fs opcode.Deref = only_exact (instr.Look Deref)
operands_exact ks fs opcode.TxBegin = only_exact instr.TxBegin
operands_exact ks fs opcode.TxEnd = only_exact instr.TxEnd
operands_exact ks fs opcode.RefSet = only_exact (instr.Put RefSet)
operands_exact ks fs opcode.AlterOpen = mapped_exact (instr.Open open_form.Alter) operand _ n16 (λ n fits. refl)
operands_exact ks fs opcode.AlterClose = only_exact (instr.Close update.Alter)
operands_exact ks fs opcode.CommuteOpen = callee_count_exact fs (λ c. instr.Open (open_form.Commute c)) (λ c n. (refl, refl))
operands_exact ks fs opcode.CommuteClose = only_exact (instr.Close update.Commute)
operands_exact ks fs opcode.Ensure = only_exact (instr.Look Ensure)
operands_exact ks fs opcode.SwapOpen = callee_count_exact fs (λ c. instr.Open (open_form.Swap c)) (λ c n. (refl, refl))
operands_exact ks fs opcode.SwapClose = only_exact (instr.Close update.Swap)
operands_exact ks fs opcode.Reset = only_exact (instr.Put Reset)
operands_exact ks fs opcode.Send = callee_count_exact fs instr.Send (λ c n. (refl, refl))
operands_exact ks fs opcode.Halt = only_exact instr.Halt

opcode_tells : (ks fs : ℕ) (o : Opcode) (i : Instr) → (operands ks fs o).fits i → opcode_of i ≡ o
opcode_tells ks fs opcode.Const i fits = ap opcode_of (sym fits.1)
opcode_tells ks fs opcode.Local i fits = ap opcode_of (sym fits.1)
opcode_tells ks fs opcode.Store i fits = ap opcode_of (sym fits.1)
opcode_tells ks fs opcode.Pop i fits = ap opcode_of fits
opcode_tells ks fs opcode.Jump i fits = ap opcode_of (sym fits.1)
opcode_tells ks fs opcode.JumpFalse i fits = ap opcode_of (sym fits.1)
opcode_tells ks fs opcode.Core i fits = ap opcode_of (sym fits.1)
opcode_tells ks fs opcode.Call i fits = ap opcode_of (sym fits.1)
opcode_tells ks fs opcode.Return i fits = ap opcode_of fits
opcode_tells ks fs opcode.Vector i fits = ap opcode_of (sym fits.1)
opcode_tells ks fs opcode.Print i fits = ap opcode_of (sym fits.1)
opcode_tells ks fs opcode.Deref i fits = ap opcode_of fits
opcode_tells ks fs opcode.TxBegin i fits = ap opcode_of fits
opcode_tells ks fs opcode.TxEnd i fits = ap opcode_of fits
opcode_tells ks fs opcode.RefSet i fits = ap opcode_of fits
opcode_tells ks fs opcode.AlterOpen i fits = ap opcode_of (sym fits.1)
opcode_tells ks fs opcode.AlterClose i fits = ap opcode_of fits
opcode_tells ks fs opcode.CommuteOpen i fits = ap opcode_of (sym fits.1)
opcode_tells ks fs opcode.CommuteClose i fits = ap opcode_of fits
opcode_tells ks fs opcode.Ensure i fits = ap opcode_of fits
opcode_tells ks fs opcode.SwapOpen i fits = ap opcode_of (sym fits.1)
opcode_tells ks fs opcode.SwapClose i fits = ap opcode_of fits
opcode_tells ks fs opcode.Reset i fits = ap opcode_of fits
opcode_tells ks fs opcode.Send i fits = ap opcode_of (sym fits.1)
opcode_tells ks fs opcode.Halt i fits = ap opcode_of fits

opcodes_in_order : InOrder opcode_byte 0 opcodes
opcodes_in_order = in_order_by opcode_byte 0 opcodes refl

opcode_exact : Exact opcode_format
unfolding opcode_format
opcode_exact = one_of_exact byte opcodes opcode_byte BadOpcode byte_exact opcodes_in_order

instr_exact : (ks fs : ℕ) → Exact (instr_format ks fs)
unfolding instr_format
instr_exact ks fs = tagged_exact opcode_format opcode_of (operands ks fs) opcode_exact (operands_exact ks fs) (opcode_tells ks fs)

span_exact : Exact span_format
unfolding span_format
span_exact = mapped_exact _ _ _ (pair_exact (number w32) _ n32 (λ from. tested_exact (number w32) _ n32)) (λ p fits. refl)

placed_exact : (ks fs : ℕ) → Exact (placed_format ks fs)
unfolding placed_format
placed_exact ks fs = pair_exact (instr_format ks fs) (λ i. span_format) (instr_exact ks fs) (λ i. span_exact)

-- ---- bodies

parameters_exact : (thread : Bool) → Exact (parameters_format thread)
parameters_exact true = tested_exact byte _ byte_exact
parameters_exact false = byte_exact

paired_again : (ps : List (Instr × Span)) → paired (map (λ p. p.0) ps) (map (λ p. p.1) ps) ≡ ps
paired_again [] = refl
paired_again (p ∷ ps) = ap (λ qs. p ∷ qs) (paired_again ps)

body_exact : (thread : Bool) (ks fs left : ℕ) → Exact (body_format thread ks fs left)
unfolding body_format
body_exact thread ks fs left =
    mapped_exact body_of body_parts _
    (pair_exact (parameters_format thread) _ (parameters_exact thread) (λ p. pair_exact byte _ byte_exact (λ locals. counted_exact (tested (number w32) (at_most left)) (placed_format ks fs) (tested_exact _ (at_most left) n32) (placed_exact ks fs))))
    (λ p fits. ap (λ (ps : List (Instr × Span)). (p.0, (p.1.0, ps))) (paired_again p.1.1))

sharing_long : {A : Type 0} (size : A → ℕ) (f : ℕ → Format A) (n left : ℕ) (xs : List A) → (sharing size f n left).fits xs → length xs ≡ n
unfolding SharingFits
sharing_long size f zero left [] fits = refl
sharing_long size f zero left (x ∷ xs) fits = absurd fits
sharing_long size f (suc n) left [] fits = absurd fits
sharing_long size f (suc n) left (x ∷ xs) fits = ap suc (sharing_long size f n _ xs fits.1)

bodies_exact : (most : ℕ) (body : ℕ → ℕ → Format CodeBody) (left : ℕ) → ((n rest : ℕ) → Exact (body n rest)) → Exact (bodies_format most body left)
bodies_exact most body left h =
    mapped_exact (λ p. p.1) (λ bs. (length bs, bs)) _
    (pair_exact (tested (number w16) (at_most most)) _ (tested_exact _ (at_most most) n16) (λ n. sharing_exact instructions (body n) (h n) n left))
    (λ p fits. ap (λ (n : ℕ). (n, p.1)) (sharing_long instructions (body p.0) p.0 left p.1 fits.1))

functions_exact : (ks : ℕ) → Exact (functions_format ks)
unfolding functions_format
functions_exact ks = bodies_exact most_definitions (λ n. body_format false ks n) most_instructions (λ n left. body_exact false ks n left)

threads_exact : (ks fs left : ℕ) → Exact (threads_format ks fs left)
unfolding threads_format
threads_exact ks fs left = bodies_exact most_threads (λ n. body_format true ks fs) left (λ n rest. body_exact true ks fs rest)

-- ---- code

must_hold : (kind : CodeErrorKind) (b : Bool) → must kind b ≡ None → b ≡ true
must_hold kind true e = refl
must_hold kind false e = absurd cc

-- a number that is one of two is that of which it is known whether it is the second
one_magic : (n : ℕ) (first second : Bool) → (n == magic_1) ≡ first → (n == magic_2) ≡ second → (first || second) ≡ true → magic second ≡ n
one_magic n first true e f is = sym (eqb-true n magic_2 f)
one_magic n true false e f is = sym (eqb-true n magic_1 e)
one_magic n false false e f is = absurd cc

magic_exact : Exact magic_format
unfolding magic_format
magic_exact =
    mapped_exact _ magic _ (tested_exact (number w32) _ n32) (λ n fits. one_magic n (n == magic_1) (n == magic_2) refl refl (must_hold BadMagic (n == magic_1 || n == magic_2) fits.1))

cells_exact : (validated : Bool) → Exact (cells_format validated)
unfolding cells_format
cells_exact validated = counted_exact _ (cell_format validated) (tested_exact (number w16) (at_most 1000) n16) (cell_exact validated)

told_cells_exact : (validated : Bool) → Exact (told_cells_format validated)
unfolding told_cells_format
told_cells_exact validated = before_exact 1 (cells_format validated) _ (cells_exact validated)

-- a cell of code whose cells have no validators has none
unvalidated : (c : CellDefinition) → (cell_format false).fits c → is_validated c ≡ false
unfolding cell_format validator_format
unvalidated c fits = ap is_some fits.0.1.1.1.1

none_validated : (cells : List CellDefinition) → AllByRecursion (cell_format false).fits cells → has_validator cells ≡ false
none_validated [] all = refl
none_validated (c ∷ cells) all = rw (unvalidated c all.0) (none_validated cells all.1)

-- cells tell what the magic told of them
told_so : (validated : Bool) (cells : List CellDefinition) → (told_cells_format validated).fits cells → has_validator cells ≡ validated
unfolding told_cells_format cells_format
told_so true cells fits = must_hold BadOperand (has_validator cells) fits.1
told_so false cells fits = none_validated cells fits.0.0.1.1

constants_exact : (kinds : List CellKind) → Exact (constants_format kinds)
unfolding constants_format
constants_exact kinds = counted_exact _ (constant_format true kinds) (tested_exact (number w32) (at_most 1000000) n32) (constant_exact true kinds)

program_exact : (ks : ℕ) → Exact (program_format ks)
unfolding program_format
program_exact ks = pair_exact (functions_format ks) _ (functions_exact ks) (λ fs. threads_exact ks (length fs) (most_instructions - all_instructions fs))

pub code_exact : Exact code_format
unfolding code_format
code_exact =
    mapped_exact _ _ _
    (pair_exact magic_format _ magic_exact (λ validated. pair_exact (told_cells_format validated) _ (told_cells_exact validated) (λ cells. pair_exact (constants_format (kinds_of cells)) _ (constants_exact (kinds_of cells)) (λ ks. program_exact (length ks)))))
    (λ p fits. ap (λ (b : Bool). (b, p.1)) (told_so p.0 p.1.0 fits.1.0))
