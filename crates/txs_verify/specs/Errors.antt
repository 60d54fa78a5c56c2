-- How the refusals of code are reported.
use Rattle.std.specs.Prelude.{ℕ, List, codes}
use Rattle.txs_verify.specs.declared.error.VerifyErrorKind.{VerifyErrorKind}
use Rattle.txs_verify.specs.declared.error.VerifyErrorKind.TheVariants.{JumpOut, StackLow, StackDiffers, LocalOut, ArityWrong, CallOrder, TxNesting, FallsOff, Memory}

-- the number of each reason
abbrev pub verify_number : VerifyErrorKind → ℕ
verify_number JumpOut = 41
verify_number StackLow = 42
verify_number StackDiffers = 43
verify_number LocalOut = 44
verify_number ArityWrong = 45
verify_number CallOrder = 46
verify_number TxNesting = 47
verify_number FallsOff = 48
verify_number Memory = 0

-- its name
abbrev pub verify_name : VerifyErrorKind → List ℕ
verify_name JumpOut = codes "JumpOut"
verify_name StackLow = codes "StackLow"
verify_name StackDiffers = codes "StackDiffers"
verify_name LocalOut = codes "LocalOut"
verify_name ArityWrong = codes "ArityWrong"
verify_name CallOrder = codes "CallOrder"
verify_name TxNesting = codes "TxNesting"
verify_name FallsOff = codes "FallsOff"
verify_name Memory = codes "Memory"
