use Rattle.std.proofs.Common.{◌≡◌, ◌<◌, ℕ, get_or}
use Rattle.txs_cli_events.specs.Noted.{events_in}
use Rattle.txs_cli_events.proofs.check.are_whole_books.Given as goal

abbrev pub invariant-loop-book : goal.invariant-loop-book
invariant-loop-book l = (b : ℕ) → b < l.book → get_or l.counts b 0 ≡ events_in l.report b
