use Rattle.std.proofs.Common.{◌<◌, ◌^◌, length}
use Rattle.txs_code_encode.proofs.SameLemmas.{agree}
use Rattle.txs_code_encode.proofs.WrittenLemmas.{all_whole}
use Rattle.txs_code_encode.proofs.small.are_bodies.Goals as goal

pub returns : goal.returns
returns c = agree (all_whole (λ b. length b.instrs < 2 ^ 32) c.args.bodies.now c.loop-body.body-index c.loop-body-test.false c.loop-body.invariant)
