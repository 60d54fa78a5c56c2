-- The byte form of instructions.
use Rattle.std.specs.Prelude.{ℕ, nat_le, List, [], ◌∷◌, ◌++◌}
use Rattle.std.specs.Int.{w16, w32, to_be_bytes}
use Rattle.txs_value_data.specs.Operations.{op_number, operations}
use Rattle.txs_value_data.specs.declared.fault.Span.{Span}
use Rattle.txs_value_cell.specs.declared.form.LookForm.TheVariants.{Deref, Ensure}
use Rattle.txs_value_cell.specs.declared.form.PutForm.TheVariants.{RefSet, Reset}
use Rattle.txs_value_cell.specs.declared.form.UpdateForm.TheVariants as update
use Rattle.txs_value_data.specs.declared.op.Callee.{Callee}
use Rattle.txs_value_data.specs.declared.op.Callee.TheVariants as callee
use Rattle.txs_value_data.specs.declared.op.Op.{Op}
use Rattle.txs_value_data.specs.declared.op.Op.TheVariants as ops
use Rattle.txs_code_meaning.specs.declared.instr.Instr.{Instr}
use Rattle.txs_code_meaning.specs.declared.instr.Instr.TheVariants as instr
use Rattle.txs_code_meaning.specs.declared.instr.OpenForm.TheVariants as open_form
use Rattle.txs_code_decode.specs.declared.error.CodeErrorKind.TheVariants.{BadOpcode, BadOperand}
use Rattle.txs_code_decode.specs.declared.opcode.Opcode.{Opcode}
use Rattle.txs_code_decode.specs.declared.opcode.Opcode.TheVariants as opcode
use Rattle.txs_code_decode.specs.declared.operands.Called.{Called}
use Rattle.txs_code_decode.specs.declared.operands.Called.TheVariants as called
use Rattle.txs_code_decode.specs.declared.operands.Numbered.{Numbered}
use Rattle.txs_code_decode.specs.declared.operands.Numbered.TheVariants as numbered
use Rattle.txs_code_decode.specs.declared.tag.CalleeTag.{CalleeTag}
use Rattle.txs_code_decode.specs.declared.tag.CalleeTag.TheVariants as callee_tag
use Rattle.txs_code_decode.specs.Format.{Format, byte, number, tested, one_of, only, pair, mapped, tagged}
use Rattle.txs_code_decode.specs.ValueForm.{must, below}

-- ---- operations and callees

-- an operation in a byte
unfoldable pub op_format : Format Op
op_format = one_of byte operations op_number BadOperand

-- the tags of callees, each at the place that is its byte
abbrev pub callee_tags : List CalleeTag
callee_tags = callee_tag.Core ∷ callee_tag.Function ∷ []

-- the byte of a callee's tag
abbrev pub callee_byte : CalleeTag → ℕ
callee_byte callee_tag.Core = 0
callee_byte callee_tag.Function = 1

-- the tag of a callee
abbrev pub callee_tag_of : Callee → CalleeTag
callee_tag_of (callee.Core op) = callee_tag.Core
callee_tag_of (callee.Function f) = callee_tag.Function

-- the operation that a callee is
abbrev pub callee_op : Callee → Op
callee_op (callee.Core op) = op
callee_op (callee.Function f) = ops.Add

-- the number of the function that a callee is
abbrev pub callee_function : Callee → ℕ
callee_function (callee.Core op) = 0
callee_function (callee.Function f) = f

-- what is behind a callee's tag, where there are so many functions: its number in two bytes
abbrev pub callee_body : ℕ → CalleeTag → Format Callee
callee_body functions callee_tag.Core = mapped callee.Core callee_op (one_of (number w16) operations op_number BadOperand)
callee_body functions callee_tag.Function = mapped callee.Function callee_function (tested (number w16) (below functions))

-- a callee, where there are so many functions
unfoldable pub callee_format : ℕ → Format Callee
callee_format functions = tagged (one_of byte callee_tags callee_byte BadOperand) callee_tag_of (callee_body functions)

-- a callee's bytes
abbrev pub callee_bytes : Callee → List ℕ
callee_bytes (callee.Core op) = 0 ∷ to_be_bytes w16 (op_number op)
callee_bytes (callee.Function f) = 1 ∷ to_be_bytes w16 f

-- ---- instructions

-- the instructions' bytes, each at its place
abbrev pub opcodes : List Opcode
opcodes =
    opcode.Const ∷ opcode.Local ∷ opcode.Store ∷ opcode.Pop ∷ opcode.Jump ∷ opcode.JumpFalse ∷ opcode.Core ∷ opcode.Call ∷ opcode.Return ∷ opcode.Vector ∷ opcode.Print ∷ opcode.Deref ∷ opcode.TxBegin ∷ opcode.TxEnd
    ∷ opcode.RefSet ∷ opcode.AlterOpen ∷ opcode.AlterClose ∷ opcode.CommuteOpen ∷ opcode.CommuteClose ∷ opcode.Ensure ∷ opcode.SwapOpen ∷ opcode.SwapClose ∷ opcode.Reset ∷ opcode.Send ∷ opcode.Halt ∷ []

-- the byte of an instruction
abbrev pub opcode_byte : Opcode → ℕ
opcode_byte opcode.Const = 0
opcode_byte opcode.Local = 1
opcode_byte opcode.Store = 2
opcode_byte opcode.Pop = 3
opcode_byte opcode.Jump = 4
opcode_byte opcode.JumpFalse = 5
opcode_byte opcode.Core = 6
opcode_byte opcode.Call = 7
opcode_byte opcode.Return = 8
opcode_byte opcode.Vector = 9
opcode_byte opcode.Print = 10
opcode_byte opcode.Deref = 11
opcode_byte opcode.TxBegin = 12
opcode_byte opcode.TxEnd = 13
opcode_byte opcode.RefSet = 14
opcode_byte opcode.AlterOpen = 15
opcode_byte opcode.AlterClose = 16
opcode_byte opcode.CommuteOpen = 17
opcode_byte opcode.CommuteClose = 18
opcode_byte opcode.Ensure = 19
opcode_byte opcode.SwapOpen = 20
opcode_byte opcode.SwapClose = 21
opcode_byte opcode.Reset = 22
opcode_byte opcode.Send = 23
opcode_byte opcode.Halt = 24

-- which instruction it is
abbrev pub opcode_of : Instr → Opcode
opcode_of (instr.Const k) = opcode.Const
opcode_of (instr.Local i) = opcode.Local
opcode_of (instr.Store i) = opcode.Store
opcode_of instr.Pop = opcode.Pop
opcode_of (instr.Jump to) = opcode.Jump
opcode_of (instr.JumpFalse to) = opcode.JumpFalse
opcode_of (instr.Core op n) = opcode.Core
opcode_of (instr.Call f) = opcode.Call
opcode_of instr.Return = opcode.Return
opcode_of (instr.Vector n) = opcode.Vector
opcode_of (instr.Print n) = opcode.Print
opcode_of (instr.Look Deref) = opcode.Deref
opcode_of (instr.Look Ensure) = opcode.Ensure
opcode_of (instr.Put RefSet) = opcode.RefSet
opcode_of (instr.Put Reset) = opcode.Reset
opcode_of instr.TxBegin = opcode.TxBegin
opcode_of instr.TxEnd = opcode.TxEnd
opcode_of (instr.Open open_form.Alter n) = opcode.AlterOpen
opcode_of (instr.Open (open_form.Commute c) n) = opcode.CommuteOpen
opcode_of (instr.Open (open_form.Swap c) n) = opcode.SwapOpen
opcode_of (instr.Close update.Alter) = opcode.AlterClose
opcode_of (instr.Close update.Commute) = opcode.CommuteClose
opcode_of (instr.Close update.Swap) = opcode.SwapClose
opcode_of (instr.Send c n) = opcode.Send
opcode_of instr.Halt = opcode.Halt

-- the number among an instruction's operands, where it has one; its last, where it has two
abbrev pub operand : Instr → ℕ
operand (instr.Const k) = k
operand (instr.Local i) = i
operand (instr.Store i) = i
operand (instr.Jump to) = to
operand (instr.JumpFalse to) = to
operand (instr.Core op n) = n
operand (instr.Call f) = f
operand (instr.Vector n) = n
operand (instr.Print n) = n
operand (instr.Open by n) = n
operand (instr.Send c n) = n
operand _ = 0

-- the operation among them
abbrev pub operation : Instr → Op
operation (instr.Core op n) = op
operation _ = ops.Add

-- the callee among them
abbrev pub named : Instr → Callee
named (instr.Open (open_form.Commute c) n) = c
named (instr.Open (open_form.Swap c) n) = c
named (instr.Send c n) = c
named _ = callee.Core ops.Add

-- a callee and a count of arguments
abbrev pub callee_and_count : ℕ → (Callee → ℕ → Instr) → Format Instr
callee_and_count functions make = mapped (λ p. make p.0 p.1) (λ i. (named i, operand i)) (pair (callee_format functions) (λ c. number w16))

-- the instruction of a callee and a count of arguments
abbrev pub called_instr : Called → Callee → ℕ → Instr
called_instr called.Commute = λ c. instr.Open (open_form.Commute c)
called_instr called.Swap = λ c. instr.Open (open_form.Swap c)
called_instr called.Send = instr.Send

-- the instruction of which a number is the operand
abbrev pub numbered_opcode : Numbered → Opcode
numbered_opcode numbered.Local = opcode.Local
numbered_opcode numbered.Store = opcode.Store
numbered_opcode numbered.Jump = opcode.Jump
numbered_opcode numbered.JumpFalse = opcode.JumpFalse
numbered_opcode numbered.Vector = opcode.Vector
numbered_opcode numbered.Print = opcode.Print
numbered_opcode numbered.Alter = opcode.AlterOpen

-- the operands behind an instruction's byte, where there are so many constants and functions
abbrev pub operands : ℕ → ℕ → Opcode → Format Instr
operands constants functions opcode.Const = mapped instr.Const operand (tested (number w32) (below constants))
operands constants functions opcode.Local = mapped instr.Local operand byte
operands constants functions opcode.Store = mapped instr.Store operand byte
operands constants functions opcode.Pop = only instr.Pop
operands constants functions opcode.Jump = mapped instr.Jump operand (number w32)
operands constants functions opcode.JumpFalse = mapped instr.JumpFalse operand (number w32)
operands constants functions opcode.Core = mapped (λ p. instr.Core p.0 p.1) (λ i. (operation i, operand i)) (pair op_format (λ op. number w16))
operands constants functions opcode.Call = mapped instr.Call operand (tested (number w16) (below functions))
operands constants functions opcode.Return = only instr.Return
operands constants functions opcode.Vector = mapped instr.Vector operand (number w16)
operands constants functions opcode.Print = mapped instr.Print operand (number w16)
operands constants functions opcode.Deref = only (instr.Look Deref)
operands constants functions opcode.TxBegin = only instr.TxBegin
operands constants functions opcode.TxEnd = only instr.TxEnd
operands constants functions opcode.RefSet = only (instr.Put RefSet)
operands constants functions opcode.AlterOpen = mapped (instr.Open open_form.Alter) operand (number w16)
operands constants functions opcode.AlterClose = only (instr.Close update.Alter)
operands constants functions opcode.CommuteOpen = callee_and_count functions (λ c. instr.Open (open_form.Commute c))
operands constants functions opcode.CommuteClose = only (instr.Close update.Commute)
operands constants functions opcode.Ensure = only (instr.Look Ensure)
operands constants functions opcode.SwapOpen = callee_and_count functions (λ c. instr.Open (open_form.Swap c))
operands constants functions opcode.SwapClose = only (instr.Close update.Swap)
operands constants functions opcode.Reset = only (instr.Put Reset)
operands constants functions opcode.Send = callee_and_count functions instr.Send
operands constants functions opcode.Halt = only instr.Halt

-- which instruction is here
unfoldable pub opcode_format : Format Opcode
opcode_format = one_of byte opcodes opcode_byte BadOpcode

-- an instruction, where there are so many constants and functions
unfoldable pub instr_format : ℕ → ℕ → Format Instr
instr_format constants functions = tagged opcode_format opcode_of (operands constants functions)

-- a span, which doesn't end before it begins
unfoldable pub span_format : Format Span
span_format =
    mapped (λ p. record { from = p.0; to = p.1 }) (λ s. (s.from, s.to)) (pair (number w32) (λ from. tested (number w32) (λ to. must BadOperand (nat_le from to))))

-- an instruction and the span of what it was made for
unfoldable pub placed_format : ℕ → ℕ → Format (Instr × Span)
placed_format constants functions = pair (instr_format constants functions) (λ i. span_format)

-- ---- their bytes

-- the bytes of an instruction's operands
abbrev pub operand_bytes : Instr → List ℕ
operand_bytes (instr.Const k) = to_be_bytes w32 k
operand_bytes (instr.Local i) = i ∷ []
operand_bytes (instr.Store i) = i ∷ []
operand_bytes instr.Pop = []
operand_bytes (instr.Jump to) = to_be_bytes w32 to
operand_bytes (instr.JumpFalse to) = to_be_bytes w32 to
operand_bytes (instr.Core op n) = op_number op ∷ to_be_bytes w16 n
operand_bytes (instr.Call f) = to_be_bytes w16 f
operand_bytes instr.Return = []
operand_bytes (instr.Vector n) = to_be_bytes w16 n
operand_bytes (instr.Print n) = to_be_bytes w16 n
operand_bytes (instr.Look form) = []
operand_bytes (instr.Put form) = []
operand_bytes instr.TxBegin = []
operand_bytes instr.TxEnd = []
operand_bytes (instr.Open open_form.Alter n) = to_be_bytes w16 n
operand_bytes (instr.Open (open_form.Commute c) n) = callee_bytes c ++ to_be_bytes w16 n
operand_bytes (instr.Open (open_form.Swap c) n) = callee_bytes c ++ to_be_bytes w16 n
operand_bytes (instr.Close form) = []
operand_bytes (instr.Send c n) = callee_bytes c ++ to_be_bytes w16 n
operand_bytes instr.Halt = []

-- an instruction's bytes: which it is, and its operands
abbrev pub instr_bytes : Instr → List ℕ
instr_bytes i = opcode_byte (opcode_of i) ∷ operand_bytes i

-- a span's bytes
abbrev pub span_bytes : Span → List ℕ
span_bytes s = to_be_bytes w32 s.from ++ to_be_bytes w32 s.to

-- an instruction's bytes with those of its span
abbrev pub placed_bytes : Instr × Span → List ℕ
placed_bytes p = instr_bytes p.0 ++ span_bytes p.1
