use Rattle.std.proofs.Common.{◌≡◌, drop}
use Rattle.txs_world_book.specs.Book.{are_refs, cells_in}
use Rattle.txs_world_book.proofs.named.are_written.Given as goal

abbrev pub invariant-loop-write : goal.invariant-loop-write
invariant-loop-write l = are_refs l.cells l.least (cells_in (drop l.write-index l.writes)) ≡ are_refs l.cells 0 (cells_in l.writes)
