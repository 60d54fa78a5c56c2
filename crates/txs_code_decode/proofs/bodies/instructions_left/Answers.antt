use Rattle.std.proofs.Common.{arith}
use Rattle.txs_code_decode.proofs.Lists.{all_next}
use Rattle.txs_code_decode.proofs.bodies.instructions_left.Goals as goal

pub loop-body-preserved : goal.loop-body-preserved
loop-body-preserved c =
    let more = all_next c.args.bodies.now c.loop-body.body-index c.body-item.result c.loop-body-test.true c.body-item.is in
    omega (arith, c.left_after-left.ensures, c.loop-body.invariant, more)
