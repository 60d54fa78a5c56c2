use Rattle.std.proofs.Common.{take}
use Rattle.txs_code_decode.specs.CodeForm.{AreCells}
use Rattle.txs_code_encode.proofs.small.are_cells.Given as goal

abbrev pub invariant-loop-cell : goal.invariant-loop-cell
invariant-loop-cell l = AreCells (take l.cell-index l.cells)
