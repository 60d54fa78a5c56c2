use Rattle.std.proofs.Common.{◌≡◌, ◌∷◌, [], length, map, take, vec_capacity}
use Rattle.txs_world_book.specs.declared.cell.StoreCell.{StoreCell}
use Rattle.txs_audit_book.proofs.values.open_histories.Given as goal

abbrev pub invariant-loop-cell : goal.invariant-loop-cell
invariant-loop-cell l =
    record {
      many : length l.histories.items ≡ l.cell-index;
      room : vec_capacity l.histories ≡ length l.cells;
      built : l.histories.items ≡ map (λ (s : StoreCell). (0, s.opening) ∷ []) (take l.cell-index l.cells);
    }
