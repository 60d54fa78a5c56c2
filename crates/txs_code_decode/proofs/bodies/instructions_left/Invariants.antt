use Rattle.std.proofs.Common.{◌≡◌, ◌-◌, take}
use Rattle.txs_code_decode.specs.CodeForm.{all_instructions}
use Rattle.txs_code_decode.proofs.bodies.instructions_left.Given as goal

abbrev pub invariant-loop-body : goal.invariant-loop-body
invariant-loop-body l = l.left ≡ 1000000 - all_instructions (take l.body-index l.bodies)
