use Rattle.std.proofs.Common.{◌≡◌, drop}
use Rattle.txs_world_book.specs.Book.{has_refs}
use Rattle.txs_world_book.proofs.named.has_refs.Given as goal

abbrev pub invariant-loop-cell : goal.invariant-loop-cell
invariant-loop-cell l = has_refs l.cells (drop l.cell-index l.refs) ≡ has_refs l.cells l.refs
