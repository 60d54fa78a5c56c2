use Rattle.std.proofs.Common.{◌≡◌, length, take, vec_capacity}
use Rattle.txs_value_cell.proofs.cell.copy_cells.Given as goal

abbrev pub invariant-loop-cell : goal.invariant-loop-cell
invariant-loop-cell l =
    record {
      many : length l.copies.items ≡ l.cell-index;
      room : vec_capacity l.copies ≡ length l.cells;
      same : l.copies.items ≡ take l.cell-index l.cells;
    }
