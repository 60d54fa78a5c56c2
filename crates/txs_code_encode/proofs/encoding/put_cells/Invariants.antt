use Rattle.std.proofs.Common.{◌≡◌, ◌++◌, length, take}
use Rattle.std.specs.Int.{w16, to_be_bytes}
use Rattle.std.specs.List.{flat_map}
use Rattle.txs_code_decode.specs.CellForm.{cell_bytes}
use Rattle.txs_code_encode.proofs.encoding.put_cells.Given as goal

abbrev pub invariant-loop-cell : goal.invariant-loop-cell
invariant-loop-cell l = l.out.items ≡ l.fn.out.items ++ (to_be_bytes w16 (length l.cells) ++ flat_map (cell_bytes l.validated) (take l.cell-index l.cells))
