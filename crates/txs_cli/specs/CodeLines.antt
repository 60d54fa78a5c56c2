-- The lines of bytes that aren't taken as code.
use Rattle.std.specs.Prelude.{ℕ, List, [], ◌++◌, codes, decimal}
use Rattle.txs_code_decode.specs.Errors.{code_error_number, code_error_name}
use Rattle.txs_verify.specs.Errors.{verify_number, verify_name}
use Rattle.txs_verify.specs.declared.error.BodyName.{BodyName}
use Rattle.txs_verify.specs.declared.error.BodyName.TheVariants.{Function, Thread, Cell}
use Rattle.txs_verify.specs.declared.load_error.LoadError.{LoadError}
use Rattle.txs_verify.specs.declared.load_error.LoadError.TheVariants.{Bytes, Code, Memory}

-- the front of a refusal's line: its number and its name
abbrev pub refused_front : ℕ → List ℕ → List ℕ
refused_front number name = codes "refused " ++ decimal number ++ codes " " ++ name

-- a word, a number, and the line's end
abbrev pub at_number : List ℕ → ℕ → List ℕ
at_number word n = word ++ decimal n ++ codes "\n"

-- where an instruction is: " in fn F at P", or " in thread T at P"; or a validator: " in cell K at 0"
abbrev pub in_body : BodyName → ℕ → List ℕ
in_body (Function n) at = codes " in fn " ++ decimal n ++ at_number (codes " at ") at
in_body (Thread n) at = codes " in thread " ++ decimal n ++ at_number (codes " at ") at
in_body (Cell n) at = codes " in cell " ++ decimal n ++ at_number (codes " at ") at

-- The line of bytes that aren't taken as code: the place among the bytes, or that of the instruction. Of want of memory the program tells otherwise.
abbrev pub load_line : LoadError → List ℕ
load_line (Bytes e) = refused_front (code_error_number e.kind) (code_error_name e.kind) ++ at_number (codes " at ") e.at
load_line (Code e) = refused_front (verify_number e.kind) (verify_name e.kind) ++ in_body e.body e.at
load_line Memory = []
