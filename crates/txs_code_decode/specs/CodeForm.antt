-- The byte form of code: a magic, the cells, the constants, the functions, the threads.
use Rattle.std.specs.Prelude.{◌≡◌, ℕ, ◌+◌, ◌-◌, ◌<◌, ◌^◌, ◌==◌, Bool, true, false, not, ◌||◌, List, [], ◌∷◌, ◌++◌, length, map, codes, Option, Some, None, Result, Ok, Err}
use Rattle.std.specs.List.{flat_map, AllByRecursion}
use Rattle.std.specs.Int.{Width, w16, w32, to_be_bytes}
use Rattle.txs_value_data.specs.Limits.{most_definitions, most_threads}
use Rattle.txs_value_data.specs.View.{plain_of}
use Rattle.txs_value_cell.specs.declared.cell.CellDefinition.{CellDefinition}
use Rattle.txs_value_data.specs.declared.fault.Span.{Span}
use Rattle.txs_value_data.specs.declared.value.CellKind.{CellKind}
use Rattle.txs_value_data.specs.declared.value.Value.{Value}
use Rattle.txs_code_meaning.specs.declared.instr.Instr.{Instr}
use Rattle.txs_code_meaning.specs.PlainCode.{CodeBody, PlainCode}
use Rattle.txs_code_decode.specs.declared.error.CodeError.{CodeError}
use Rattle.txs_code_decode.specs.declared.error.CodeErrorKind.TheVariants.{BadMagic, BadOperand, Memory as NoMemory}
use Rattle.txs_code_decode.specs.declared.error.Refusal.{Refusal}
use Rattle.txs_code_decode.specs.declared.error.Stop.{Stop}
use Rattle.txs_code_decode.specs.declared.error.Stop.TheVariants as stops
use Rattle.txs_code_decode.specs.CellForm.{cell_format, constant_format, kinds_of, cell_bytes, constant_bytes}
use Rattle.txs_code_meaning.specs.Validating.{has_validator}
use Rattle.txs_code_decode.specs.Errors.{out_of_memory}
use Rattle.txs_code_decode.specs.Format.{Format, byte, number, tested, tested_before, pair, mapped, counted, sharing, whole}
use Rattle.txs_code_decode.specs.InstrForm.{placed_format, placed_bytes}
use Rattle.txs_code_decode.specs.ValueForm.{IsWritable, must, at_most}

-- ---- limits

-- the constants of code
abbrev pub most_constants : ℕ
most_constants = 1000000

-- the instructions of all bodies of code
abbrev pub most_instructions : ℕ
most_instructions = 1000000

-- ---- bodies

-- instructions beside their spans
abbrev pub paired : List Instr → List Span → List (Instr × Span)
paired (i ∷ is) (s ∷ ss) = (i, s) ∷ paired is ss
paired _ _ = []

-- the parts of a body as they stand one behind the other
abbrev pub body_parts : CodeBody → ℕ × (ℕ × List (Instr × Span))
body_parts b = (b.parameters, (b.locals, paired b.instrs b.spans))

-- the body of such parts
abbrev pub body_of : ℕ × (ℕ × List (Instr × Span)) → CodeBody
body_of p = record { parameters = p.0; locals = p.1.0; instrs = map (λ x. x.0) p.1.1; spans = map (λ x. x.1) p.1.1 }

-- the parameters of a body: any number of a function, none of a thread
abbrev pub parameters_format : Bool → Format ℕ
parameters_format true = tested byte (λ n. must BadOperand (n == 0))
parameters_format false = byte

-- A body, which is a thread's or not, where there are so many constants and functions: its parameters, its locals, and at most so many
-- instructions.
unfoldable pub body_format : Bool → ℕ → ℕ → ℕ → Format CodeBody
body_format thread constants functions left =
    mapped body_of body_parts (pair (parameters_format thread) (λ p. pair byte (λ locals. counted (tested (number w32) (at_most left)) (placed_format constants functions))))

-- how many instructions a body has
abbrev pub instructions : CodeBody → ℕ
instructions b = length b.instrs

-- how many bodies have together
abbrev pub all_instructions : List CodeBody → ℕ
all_instructions [] = 0
all_instructions (b ∷ bs) = instructions b + all_instructions bs

-- a count of at most so many bodies, and the bodies, which share a limit of instructions
abbrev pub bodies_format : ℕ → (ℕ → ℕ → Format CodeBody) → ℕ → Format (List CodeBody)
bodies_format most body left = mapped (λ p. p.1) (λ bs. (length bs, bs)) (pair (tested (number w16) (at_most most)) (λ n. sharing instructions (body n) n left))

-- the functions, each of which may name every other
unfoldable pub functions_format : ℕ → Format (List CodeBody)
functions_format constants = bodies_format most_definitions (λ n. body_format false constants n) most_instructions

-- the threads, where there are so many functions, and so many instructions may yet come
unfoldable pub threads_format : ℕ → ℕ → ℕ → Format (List CodeBody)
threads_format constants functions left = bodies_format most_threads (λ n. body_format true constants functions) left

-- ---- code

-- `TXS1` as a number, with which code begins whose cells have no validators
abbrev pub magic_1 : ℕ
magic_1 = 1415074609

-- `TXS2` as a number, with which code begins a cell of which has one
abbrev pub magic_2 : ℕ
magic_2 = 1415074610

-- the number with which code begins whose cells have validators or not
abbrev pub magic : Bool → ℕ
magic false = magic_1
magic true = magic_2

-- the first four bytes, which tell whether cells have validators
unfoldable pub magic_format : Format Bool
magic_format = mapped (λ n. n == magic_2) magic (tested (number w32) (λ n. must BadMagic (n == magic_1 || n == magic_2)))

-- the cells, which have validators or not
unfoldable pub cells_format : Bool → Format (List CellDefinition)
cells_format validated = counted (tested (number w16) (at_most most_definitions)) (cell_format validated)

-- The cells, of which one has a validator where the magic says so. Where none has, it is the last byte of the magic that is refused.
unfoldable pub told_cells_format : Bool → Format (List CellDefinition)
told_cells_format validated = tested_before 1 (cells_format validated) (λ cells. must BadOperand (not validated || has_validator cells))

-- the constants, where cells are of these kinds
unfoldable pub constants_format : List CellKind → Format (List Value)
constants_format kinds = counted (tested (number w32) (at_most most_constants)) (constant_format true kinds)

-- functions and threads, where there are so many constants
unfoldable pub program_format : ℕ → Format (List CodeBody × List CodeBody)
program_format constants = pair (functions_format constants) (λ fs. threads_format constants (length fs) (most_instructions - all_instructions fs))

-- the magic, the cells, the constants, the functions, the threads
unfoldable pub code_format : Format PlainCode
code_format =
    mapped
    (λ p. record { cells = p.1.0; constants = p.1.1.0; functions = p.1.1.1.0; threads = p.1.1.1.1 })
    (λ c. (has_validator c.cells, (c.cells, (c.constants, (c.functions, c.threads)))))
    (pair magic_format (λ validated. pair (told_cells_format validated) (λ cells. pair (constants_format (kinds_of cells)) (λ ks. program_format (length ks)))))

-- Code has a byte form: its counts are within their limits, its names and texts such as are read, its spans in order, and constants,
-- cells, functions and operations that it names are there.
abbrev pub HasForm : PlainCode → Type 0
HasForm code = code_format.fits code

-- ---- the bytes of code

-- a count, and the bytes of each
abbrev pub counted_bytes : {A : Type 0} → Width → (A → List ℕ) → List A → List ℕ
counted_bytes w f xs = to_be_bytes w (length xs) ++ flat_map f xs

-- a body's bytes
abbrev pub body_bytes : CodeBody → List ℕ
body_bytes b = b.parameters ∷ b.locals ∷ counted_bytes w32 placed_bytes (paired b.instrs b.spans)

-- the bytes with which code begins whose cells have validators or not
abbrev pub magic_bytes : Bool → List ℕ
magic_bytes false = codes "TXS1"
magic_bytes true = codes "TXS2"

-- The byte form of code: `TXS1`, or `TXS2` where a cell has a validator, and the cells, the constants, the functions, the threads, each
-- behind its count.
abbrev pub form : PlainCode → List ℕ
form code =
    magic_bytes (has_validator code.cells) ++ (counted_bytes w16 (cell_bytes (has_validator code.cells)) code.cells ++ (counted_bytes w32 constant_bytes code.constants ++ (counted_bytes w16 body_bytes code.functions ++ counted_bytes w16 body_bytes code.threads)))

-- ---- what can be written

-- the opening value of each cell can be written
abbrev pub AreCells : List CellDefinition → Type 0
AreCells cells = AllByRecursion (λ c. IsWritable (plain_of c.opening)) cells

-- each of these values can
abbrev pub AreConstants : List Value → Type 0
AreConstants values = AllByRecursion (λ v. IsWritable (plain_of v)) values

-- the count of each body's instructions has four bytes
abbrev pub AreBodies : List CodeBody → Type 0
AreBodies bodies = AllByRecursion (λ b. length b.instrs < 2 ^ 32) bodies

-- The counts of code fit their fields, and each of its parts can be written, as is so of all code that has a form.
pub record IsSmall (c : PlainCode) : Type 0 where
  pub few_cells : length c.cells < 2 ^ 16
  pub few_constants : length c.constants < 2 ^ 32
  pub few_functions : length c.functions < 2 ^ 16
  pub few_threads : length c.threads < 2 ^ 16
  pub cells : AreCells c.cells
  pub constants : AreConstants c.constants
  pub functions : AreBodies c.functions
  pub threads : AreBodies c.threads

-- ---- what reading all bytes gives

-- a refusal with its place among so many bytes
abbrev pub refusal_of : ℕ → Refusal → CodeError
refusal_of n r = record { kind = r.kind; at = n - r.left }

-- why reading so many bytes stopped, with its place among them
abbrev pub error_of : ℕ → Stop → CodeError
error_of n stops.Memory = out_of_memory
error_of n (stops.Refused r) = refusal_of n r

-- the answer, with the place of a refusal among so many bytes
abbrev pub at_place : ℕ → Result PlainCode Refusal → Result PlainCode CodeError
at_place n (Ok code) = Ok code
at_place n (Err r) = Err (refusal_of n r)

-- the code that the bytes are the form of, or the first refusal from left to right, with its place
abbrev pub decoded : List ℕ → Result PlainCode CodeError
decoded bytes = at_place (length bytes) (whole code_format bytes)

-- the bytes begin as those of code do
abbrev pub HasMagic : List ℕ → Type 0
HasMagic bytes = (validated : Bool) × (rest : List ℕ) × (bytes ≡ magic_bytes validated ++ rest)

-- a stop is answered as running out of memory
abbrev pub IsMemory : Stop → Type 0
IsMemory stops.Memory = Unit {0}
IsMemory (stops.Refused r) = r.kind ≡ NoMemory

-- the answer is this, unless it is running out of memory
abbrev pub Answers : Result PlainCode CodeError → Result PlainCode CodeError → Type 0
Answers (Ok code) wanted = wanted ≡ Ok code
Answers (Err e) wanted = (e ≡ out_of_memory → ⊥) → wanted ≡ Err e

-- the bytes of code that has a form, or none of code that has none
abbrev pub FormOf : PlainCode → Option (List ℕ) → Type 0
FormOf code None = HasForm code → ⊥
FormOf code (Some bytes) = HasForm code × (bytes ≡ form code)
