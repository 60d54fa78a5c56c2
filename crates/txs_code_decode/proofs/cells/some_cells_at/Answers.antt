use Rattle.std.specs.Prelude.{true}
use Rattle.txs_code_decode.specs.CellForm.{cell_format}
use Rattle.txs_code_decode.specs.Format.{many_at}
use Rattle.txs_code_decode.proofs.Many.{goes_on, ends, is_done}
use Rattle.txs_code_decode.proofs.cells.some_cells_at.Goals as goal

pub returns-in-Err : goal.returns-in-Err
returns-in-Err c =
    let read = (cell_format c.args.validated).read in
    ends read c.in-Err.stop c.loop.cells.items c.args.count c.loop.counter c.loop.rest.now (many_at read c.args.count c.args.bytes.now) c.loop-test.true c.in-Err.ensures c.loop.invariant

pub loop-preserved : goal.loop-preserved
loop-preserved c =
    let read = (cell_format c.args.validated).read in
    rw c.in_ok-push-in-Ok.ensures.items (goes_on read c.loop.cells.items c.args.count c.loop.counter c.loop.rest.now c.in-Ok.cell c.in-Ok.after.now (many_at read c.args.count c.args.bytes.now) c.loop-test.true c.in-Ok.ensures c.loop.invariant)

pub returns : goal.returns
returns c =
    let read = (cell_format c.args.validated).read in
    is_done read c.loop.cells.items c.args.count c.loop.counter c.loop.rest.now (many_at read c.args.count c.args.bytes.now) c.loop-test.false c.loop.invariant
