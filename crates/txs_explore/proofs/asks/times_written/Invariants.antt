use Rattle.std.proofs.Common.{◌≡◌, ◌≤◌, ◌+◌, drop}
use Rattle.txs_world_book.specs.Book.{times_written}
use Rattle.txs_explore.proofs.asks.times_written.Given as goal

abbrev pub invariant-loop-i : goal.invariant-loop-i
invariant-loop-i l = record { counted : l.times + times_written l.number 0 (drop l.i l.book) ≡ times_written l.number l.at l.book; few : l.times ≤ l.i }
