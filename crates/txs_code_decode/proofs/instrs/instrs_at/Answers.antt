use Rattle.std.proofs.Common.{◌∷◌, [], arith, length-append}
use Rattle.txs_code_decode.specs.CodeForm.{paired}
use Rattle.txs_code_decode.specs.Format.{many_at}
use Rattle.txs_code_decode.specs.InstrForm.{placed_format}
use Rattle.txs_code_decode.proofs.Lists.{paired_more}
use Rattle.txs_code_decode.proofs.Many.{goes_on, ends, is_done}
use Rattle.txs_code_decode.proofs.instrs.instrs_at.Goals as goal

pub returns-in-Err-clause-value : goal.returns-in-Err-clause-value
returns-in-Err-clause-value c =
    let read = (placed_format c.args.constants c.args.functions).read in
    ends read c.in-Err.stop (paired c.loop.body.instrs.items c.loop.body.spans.items) c.args.count c.loop.counter c.loop.rest.now (many_at read c.args.count c.args.bytes.now) c.loop-test.true c.in-Err.ensures c.loop.invariant.told

pub loop-preserved : goal.loop-preserved
loop-preserved c =
    let read = (placed_format c.args.constants c.args.functions).read in
    let more = paired_more c.loop.body.instrs.items c.loop.body.spans.items c.in-Ok.instr c.in-Ok.span c.loop.invariant.as_many in
    record {
      told = rw (c.in_ok-push-in-Ok.ensures.items, c.in_ok-push-in-Ok-2.ensures.items, more) (goes_on read (paired c.loop.body.instrs.items c.loop.body.spans.items) c.args.count c.loop.counter c.loop.rest.now (c.in-Ok.instr, c.in-Ok.span) c.in-Ok.after.now (many_at read c.args.count c.args.bytes.now) c.loop-test.true c.in-Ok.ensures c.loop.invariant.told);
      as_many = rw (c.in_ok-push-in-Ok.ensures.items, c.in_ok-push-in-Ok-2.ensures.items) (omega (arith, c.loop.invariant.as_many, length-append c.loop.body.instrs.items (c.in-Ok.instr ∷ []), length-append c.loop.body.spans.items (c.in-Ok.span ∷ [])));
    }

pub returns-clause-value : goal.returns-clause-value
returns-clause-value c =
    let read = (placed_format c.args.constants c.args.functions).read in
    is_done read (paired c.loop.body.instrs.items c.loop.body.spans.items) c.args.count c.loop.counter c.loop.rest.now (many_at read c.args.count c.args.bytes.now) c.loop-test.false c.loop.invariant.told
