use Rattle.std.proofs.Common.{take}
use Rattle.txs_code_decode.specs.CodeForm.{AreBodies}
use Rattle.txs_code_encode.proofs.small.are_bodies.Given as goal

abbrev pub invariant-loop-body : goal.invariant-loop-body
invariant-loop-body l = AreBodies (take l.body-index l.bodies)
