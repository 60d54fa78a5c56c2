use Rattle.std.proofs.Common.{length}
use Rattle.std.specs.Int.{w16, to_be_bytes}
use Rattle.txs_value_data.specs.View.{plain_of}
use Rattle.txs_code_decode.specs.ValueForm.{IsWritable}
use Rattle.txs_code_decode.specs.CellForm.{cell_bytes}
use Rattle.txs_code_decode.proofs.FormLemmas.{all_at}
use Rattle.txs_code_encode.proofs.WrittenLemmas.{flat_done, flat_next}
use Rattle.txs_code_encode.proofs.encoding.put_cells.Goals as goal

pub put_cell-requires : goal.put_cell-requires
put_cell-requires c = all_at (λ c. IsWritable (plain_of c.opening)) c.args.cells.now c.loop-cell.cell-index c.cell-item.result c.requires.writable c.loop-cell-test.true c.cell-item.is

pub loop-cell-preserved : goal.loop-cell-preserved
loop-cell-preserved c =
    flat_next (cell_bytes c.args.validated) c.args.cells.now c.loop-cell.cell-index c.cell-item.result c.args.out.now.items (to_be_bytes w16 (length c.args.cells.now)) c.loop-cell.out.items c.put_cell.new.out.items c.loop-cell-test.true c.cell-item.is c.loop-cell.invariant c.in_ok-put_cell.ensures

pub returns : goal.returns
returns c =
    flat_done (cell_bytes c.args.validated) c.args.cells.now c.loop-cell.cell-index c.args.out.now.items (to_be_bytes w16 (length c.args.cells.now)) c.loop-cell.out.items c.loop-cell-test.false c.loop-cell.invariant
