use Rattle.std.proofs.Common.{◌≡◌, ◌<◌, ℕ, length, get_or}
use Rattle.txs_cli_events.specs.Noted.{trace_at}
use Rattle.txs_cli_events.proofs.check.are_whole_traces.Given as goal

abbrev pub invariant-loop-k : goal.invariant-loop-k
invariant-loop-k l = (j : ℕ) → j < l.k → get_or l.counts j 0 ≡ length (trace_at l.report j)
