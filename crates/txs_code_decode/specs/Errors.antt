-- How the refusals of bytes are reported.
use Rattle.std.specs.Prelude.{ℕ, List, codes}
use Rattle.txs_code_decode.specs.declared.error.CodeError.{CodeError}
use Rattle.txs_code_decode.specs.declared.error.CodeErrorKind.{CodeErrorKind}
use Rattle.txs_code_decode.specs.declared.error.CodeErrorKind.TheVariants.{BadMagic, Truncated, BadOpcode, BadOperand, Trailing, TooLarge, Memory}

-- the number of each reason
abbrev pub code_error_number : CodeErrorKind → ℕ
code_error_number BadMagic = 31
code_error_number Truncated = 32
code_error_number BadOpcode = 33
code_error_number BadOperand = 34
code_error_number Trailing = 35
code_error_number TooLarge = 36
code_error_number Memory = 0

-- its name
abbrev pub code_error_name : CodeErrorKind → List ℕ
code_error_name BadMagic = codes "BadMagic"
code_error_name Truncated = codes "Truncated"
code_error_name BadOpcode = codes "BadOpcode"
code_error_name BadOperand = codes "BadOperand"
code_error_name Trailing = codes "Trailing"
code_error_name TooLarge = codes "TooLarge"
code_error_name Memory = codes "Memory"

-- running out of memory has no place
abbrev pub out_of_memory : CodeError
out_of_memory = record { kind = Memory; at = 0 }
