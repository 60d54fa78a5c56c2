use Rattle.std.proofs.Common.{◌≡◌, ◌≤◌, length, take, drop, map, true, vec_capacity}
use Rattle.txs_world_book.specs.Book.{opening, newest, has_refs}
use Rattle.txs_world.proofs.store.Store.share_all.Given as goal

abbrev pub invariant-loop-cell : goal.invariant-loop-cell
invariant-loop-cell l =
    record {
      refs : has_refs l.self.cells (drop l.cell-index l.cells) ≡ true;
      many : length l.values.items ≡ l.cell-index;
      room : length l.cells ≤ vec_capacity l.values;
      values : l.values.items ≡ map (λ c. newest (opening l.self.cells) l.self.book c.number) (take l.cell-index l.cells);
    }
