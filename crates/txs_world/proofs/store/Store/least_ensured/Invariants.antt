use Rattle.std.proofs.Common.{◌≡◌, drop, true}
use Rattle.txs_world_book.specs.Book.{has_refs, least, least_written}
use Rattle.txs_world.proofs.store.Store.least_ensured.Given as goal

-- the refs to come are the store's, and with what was found they give the answer
abbrev pub invariant-loop-cell : goal.invariant-loop-cell
invariant-loop-cell l =
    record {
      refs : has_refs l.self.cells (drop l.cell-index l.cells) ≡ true;
      answer : least l.found (least_written l.self.book l.at (drop l.cell-index l.cells)) ≡ least_written l.self.book l.at l.cells;
    }
