use Rattle.std.proofs.Common.{◌≡◌, length, take, vec_capacity}
use Rattle.txs_world_book.specs.Served.{cells_of}
use Rattle.txs_world_book.proofs.cell.open_cells.Given as goal

abbrev pub invariant-loop-definition : goal.invariant-loop-definition
invariant-loop-definition l =
    record {
      many : length l.cells.items ≡ l.definition-index;
      room : vec_capacity l.cells ≡ length l.definitions;
      built : l.cells.items ≡ cells_of (take l.definition-index l.definitions);
    }
