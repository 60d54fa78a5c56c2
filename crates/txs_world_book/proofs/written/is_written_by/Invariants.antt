use Rattle.std.proofs.Common.{◌≡◌, drop}
use Rattle.txs_world_book.specs.Book.{is_buffered}
use Rattle.txs_world_book.proofs.written.is_written_by.Given as goal

abbrev pub invariant-loop-write : goal.invariant-loop-write
invariant-loop-write l = is_buffered (drop l.write-index l.writes) l.number ≡ is_buffered l.writes l.number
