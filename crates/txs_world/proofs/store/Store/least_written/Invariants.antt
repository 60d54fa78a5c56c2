use Rattle.std.proofs.Common.{◌≡◌, drop, true}
use Rattle.txs_world_book.specs.Book.{cells_in, has_refs, least, least_written}
use Rattle.txs_world.proofs.store.Store.least_written.Given as goal

-- the refs to come are the store's, and with what was found they give the answer
abbrev pub invariant-loop-write : goal.invariant-loop-write
invariant-loop-write l =
    record {
      refs : has_refs l.self.cells (cells_in (drop l.write-index l.writes)) ≡ true;
      answer : least l.found (least_written l.self.book l.at (cells_in (drop l.write-index l.writes))) ≡ least_written l.self.book l.at (cells_in l.writes);
    }
