use Rattle.std.proofs.Common.{take}
use Rattle.txs_code_decode.specs.CodeForm.{AreConstants}
use Rattle.txs_code_encode.proofs.small.are_constants.Given as goal

abbrev pub invariant-loop-value : goal.invariant-loop-value
invariant-loop-value l = AreConstants (take l.value-index l.values)
