-- The listing of code: a line for each cell, each constant, each body and each instruction.
use Rattle.std.specs.Prelude.{ℕ, suc, List, [], ◌∷◌, ◌++◌, Option, Some, None, codes, decimal}
use Rattle.txs_value_data.specs.Operations.{op_name}
use Rattle.txs_value_data.specs.Printed.{printed}
use Rattle.txs_value_data.specs.View.{plain_of}
use Rattle.txs_value_cell.specs.declared.cell.CellDefinition.{CellDefinition}
use Rattle.txs_value_cell.specs.declared.cell.ErrorMode.{ErrorMode}
use Rattle.txs_value_cell.specs.declared.cell.ErrorMode.TheVariants.{Fail, Continue}
use Rattle.txs_value_data.specs.declared.fault.Span.{Span}
use Rattle.txs_value_cell.specs.declared.form.LookForm.TheVariants.{Deref, Ensure}
use Rattle.txs_value_cell.specs.declared.form.PutForm.TheVariants.{RefSet, Reset}
use Rattle.txs_value_cell.specs.declared.form.UpdateForm.TheVariants as update
use Rattle.txs_value_data.specs.declared.op.Callee.{Callee}
use Rattle.txs_value_data.specs.declared.op.Callee.TheVariants as callee
use Rattle.txs_value_data.specs.declared.value.CellKind.{CellKind}
use Rattle.txs_value_data.specs.declared.value.CellKind.TheVariants.{Ref, Atom, Agent}
use Rattle.txs_value_data.specs.declared.value.Value.{Value}
use Rattle.txs_code_meaning.specs.PlainCode.{CodeBody, PlainCode}
use Rattle.txs_code_meaning.specs.declared.instr.Instr.{Instr}
use Rattle.txs_code_meaning.specs.declared.instr.Instr.TheVariants as instr
use Rattle.txs_code_meaning.specs.declared.instr.OpenForm.TheVariants as open_form
use Rattle.txs_disasm.specs.declared.lines.BodyKind.{BodyKind}
use Rattle.txs_disasm.specs.declared.lines.BodyKind.TheVariants.{Function, Thread}

-- ---- words

-- a word behind a space
abbrev pub word : List ℕ → List ℕ
word bytes = codes " " ++ bytes

-- a number behind a space
abbrev pub number : ℕ → List ℕ
number n = codes " " ++ decimal n

-- a kind of cells
abbrev pub kind_name : CellKind → List ℕ
kind_name Ref = codes "ref"
kind_name Atom = codes "atom"
kind_name Agent = codes "agent"

-- what stands behind a cell's opening value: that it goes on after an action that faulted
abbrev pub mode_words : ErrorMode → List ℕ
mode_words Fail = []
mode_words Continue = codes " continue"

-- the name of an instruction
abbrev pub instr_name : Instr → List ℕ
instr_name (instr.Const k) = codes "const"
instr_name (instr.Local i) = codes "local"
instr_name (instr.Store i) = codes "store"
instr_name instr.Pop = codes "pop"
instr_name (instr.Jump to) = codes "jump"
instr_name (instr.JumpFalse to) = codes "jump_false"
instr_name (instr.Core op n) = codes "core"
instr_name (instr.Call f) = codes "call"
instr_name instr.Return = codes "return"
instr_name (instr.Vector n) = codes "vector"
instr_name (instr.Print n) = codes "print"
instr_name (instr.Look Deref) = codes "deref"
instr_name (instr.Look Ensure) = codes "ensure"
instr_name (instr.Put RefSet) = codes "ref_set"
instr_name (instr.Put Reset) = codes "reset"
instr_name instr.TxBegin = codes "tx_begin"
instr_name instr.TxEnd = codes "tx_end"
instr_name (instr.Open open_form.Alter n) = codes "alter_open"
instr_name (instr.Open (open_form.Commute c) n) = codes "commute_open"
instr_name (instr.Open (open_form.Swap c) n) = codes "swap_open"
instr_name (instr.Close update.Alter) = codes "alter_close"
instr_name (instr.Close update.Commute) = codes "commute_close"
instr_name (instr.Close update.Swap) = codes "swap_close"
instr_name (instr.Send c n) = codes "send"
instr_name instr.Halt = codes "halt"

-- a callee: `core` and the name of the operation, or `fn` and the number of the function
abbrev pub callee_words : Callee → List ℕ
callee_words (callee.Core op) = codes " core" ++ word (op_name op)
callee_words (callee.Function f) = codes " fn" ++ number f

-- what stands at the end of the line of a cell with a validator: the callee
abbrev pub validator_words : Option Callee → List ℕ
validator_words None = []
validator_words (Some f) = codes " validator" ++ callee_words f

-- the operands of an instruction, in the order of the byte form: an operation by its name, a callee as above, all else by number
abbrev pub operands : Instr → List ℕ
operands (instr.Const k) = number k
operands (instr.Local i) = number i
operands (instr.Store i) = number i
operands instr.Pop = []
operands (instr.Jump to) = number to
operands (instr.JumpFalse to) = number to
operands (instr.Core op n) = word (op_name op) ++ number n
operands (instr.Call f) = number f
operands instr.Return = []
operands (instr.Vector n) = number n
operands (instr.Print n) = number n
operands (instr.Look form) = []
operands (instr.Put form) = []
operands instr.TxBegin = []
operands instr.TxEnd = []
operands (instr.Open open_form.Alter n) = number n
operands (instr.Open (open_form.Commute c) n) = callee_words c ++ number n
operands (instr.Open (open_form.Swap c) n) = callee_words c ++ number n
operands (instr.Close form) = []
operands (instr.Send c n) = callee_words c ++ number n
operands instr.Halt = []

-- a span, as `@from..to`
abbrev pub at_span : Span → List ℕ
at_span span = codes " @" ++ decimal span.from ++ codes ".." ++ decimal span.to

-- ---- lines

-- the line of a cell: its number, its kind, its name, its opening value as `println` writes it, and its validator
abbrev pub cell_line : ℕ → CellDefinition → List ℕ
cell_line k cell = codes "cell" ++ number k ++ word (kind_name cell.kind) ++ word cell.name ++ word (printed (plain_of cell.opening)) ++ mode_words cell.error_mode ++ validator_words cell.validator ++ codes "\n"

-- the line of a constant: its number, and its value as `println` writes it
abbrev pub constant_line : ℕ → Value → List ℕ
constant_line k value = codes "const" ++ number k ++ word (printed (plain_of value)) ++ codes "\n"

-- how the line of a body begins: what it is, its number, and of a function how many parameters it has
abbrev pub body_head : BodyKind → ℕ → ℕ → List ℕ
body_head Function k parameters = codes "fn" ++ number k ++ codes " params" ++ number parameters
body_head Thread k parameters = codes "thread" ++ number k

-- the line of a body, with how many locals it has
abbrev pub body_line : BodyKind → ℕ → CodeBody → List ℕ
body_line kind k body = body_head kind k body.parameters ++ codes " locals" ++ number body.locals ++ codes "\n"

-- the line of an instruction at a place of its body: two spaces, the place, the name, the operands, the span
abbrev pub instr_line : ℕ → Instr → Span → List ℕ
instr_line place instr span = codes " " ++ number place ++ word (instr_name instr) ++ operands instr ++ at_span span ++ codes "\n"

-- ---- code

-- what stands for each of a list, by its number, of which the first is this one
abbrev pub numbered : {A : Type 0} → (ℕ → A → List ℕ) → ℕ → List A → List ℕ
numbered lines k [] = []
numbered lines k (x ∷ xs) = lines k x ++ numbered lines (suc k) xs

-- the lines of instructions with their spans, of which the first is at this place
abbrev pub instr_lines : ℕ → List Instr → List Span → List ℕ
instr_lines place (instr ∷ instrs) (span ∷ spans) = instr_line place instr span ++ instr_lines (suc place) instrs spans
instr_lines place _ _ = []

-- a body: its line, and those of its instructions, whose places are counted from 0
abbrev pub body_lines : BodyKind → ℕ → CodeBody → List ℕ
body_lines kind k body = body_line kind k body ++ instr_lines 0 body.instrs body.spans

-- The listing of code: the cells, the constants, the functions and the threads, each numbered from 0.
abbrev pub listing : PlainCode → List ℕ
listing code = numbered cell_line 0 code.cells ++ numbered constant_line 0 code.constants ++ numbered (body_lines Function) 0 code.functions ++ numbered (body_lines Thread) 0 code.threads
