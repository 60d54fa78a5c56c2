-- How the refusals of the checks are reported.
use Rattle.std.specs.Prelude.{ℕ, List, codes}
use Rattle.txs_check.specs.declared.error.CheckError.{CheckError}
use Rattle.txs_check.specs.declared.error.CheckErrorKind.{CheckErrorKind}
use Rattle.txs_check.specs.declared.error.CheckErrorKind.TheVariants.{RecurNotTail, RecurCount, RecurAcrossDosync, Arity, NotPure, InsideOnly, OutsideOnly, CodeTooLarge, Memory}

-- the number of each reason
abbrev pub check_number : CheckErrorKind → ℕ
check_number RecurNotTail = 21
check_number RecurCount = 22
check_number RecurAcrossDosync = 23
check_number Arity = 24
check_number NotPure = 25
check_number InsideOnly = 26
check_number OutsideOnly = 27
check_number CodeTooLarge = 28
check_number Memory = 0

-- its name
abbrev pub check_name : CheckErrorKind → List ℕ
check_name RecurNotTail = codes "RecurNotTail"
check_name RecurCount = codes "RecurCount"
check_name RecurAcrossDosync = codes "RecurAcrossDosync"
check_name Arity = codes "Arity"
check_name NotPure = codes "NotPure"
check_name InsideOnly = codes "InsideOnly"
check_name OutsideOnly = codes "OutsideOnly"
check_name CodeTooLarge = codes "CodeTooLarge"
check_name Memory = codes "Memory"

-- running out of memory has no place
abbrev pub out_of_memory : CheckError
out_of_memory = record { kind = Memory; at = record { from = 0; to = 0 } }
