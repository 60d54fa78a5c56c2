use Rattle.txs_code_decode.specs.CodeForm.{body_format, instructions}
use Rattle.txs_code_decode.specs.Format.{sharing_at}
use Rattle.txs_code_decode.proofs.Many.{shares_on, share_ends, share_done}
use Rattle.txs_code_decode.proofs.bodies.bodies_at.Goals as goal

pub returns-in-Err : goal.returns-in-Err
returns-in-Err c =
    let f = body_format c.args.thread c.args.constants c.args.functions in
    share_ends instructions f c.in-Err.stop c.loop.bodies.items c.args.count c.loop.counter c.loop.left c.loop.rest.now (sharing_at instructions f c.args.count c.args.limit c.args.bytes.now) c.loop-test.true c.in-Err.ensures c.loop.invariant

pub loop-preserved : goal.loop-preserved
loop-preserved c =
    let f = body_format c.args.thread c.args.constants c.args.functions in
    rw (c.in_ok-push-in-Ok.ensures.items, c.left_after-left.ensures) (shares_on instructions f c.loop.bodies.items c.args.count c.loop.counter c.loop.left c.loop.rest.now c.in-Ok.body c.in-Ok.after.now (sharing_at instructions f c.args.count c.args.limit c.args.bytes.now) c.loop-test.true c.in-Ok.ensures c.loop.invariant)

pub returns : goal.returns
returns c =
    let f = body_format c.args.thread c.args.constants c.args.functions in
    share_done instructions f c.loop.bodies.items c.args.count c.loop.counter c.loop.left c.loop.rest.now (sharing_at instructions f c.args.count c.args.limit c.args.bytes.now) c.loop-test.false c.loop.invariant
