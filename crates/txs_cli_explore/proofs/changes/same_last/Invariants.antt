use Rattle.std.proofs.Common.{◌≡◌, ◌-◌, drop, length}
use Rattle.txs_cli_explore.specs.Changes.{lines_of}
use Rattle.txs_cli_explore.proofs.changes.same_last.Given as goal

abbrev pub invariant-loop-i : goal.invariant-loop-i
invariant-loop-i l = drop (length l.a - l.i) (lines_of l.a) ≡ drop (length l.b - l.i) (lines_of l.b)
