use Rattle.std.specs.Int.{w16, to_be_bytes}
use Rattle.std.proofs.Common.{◌<◌, ◌^◌, length}
use Rattle.txs_code_decode.specs.CodeForm.{body_bytes}
use Rattle.txs_code_decode.proofs.FormLemmas.{all_at}
use Rattle.txs_code_encode.proofs.WrittenLemmas.{flat_done, flat_next}
use Rattle.txs_code_encode.proofs.encoding.put_bodies.Goals as goal

pub put_body-requires : goal.put_body-requires
put_body-requires c = all_at (λ b. length b.instrs < 2 ^ 32) c.args.bodies.now c.loop-body.body-index c.body-item.result c.requires.short c.loop-body-test.true c.body-item.is

pub loop-body-preserved : goal.loop-body-preserved
loop-body-preserved c =
    flat_next body_bytes c.args.bodies.now c.loop-body.body-index c.body-item.result c.args.out.now.items (to_be_bytes w16 (length c.args.bodies.now)) c.loop-body.out.items c.put_body.new.out.items c.loop-body-test.true c.body-item.is c.loop-body.invariant c.in_ok-put_body.ensures

pub returns : goal.returns
returns c =
    flat_done body_bytes c.args.bodies.now c.loop-body.body-index c.args.out.now.items (to_be_bytes w16 (length c.args.bodies.now)) c.loop-body.out.items c.loop-body-test.false c.loop-body.invariant
