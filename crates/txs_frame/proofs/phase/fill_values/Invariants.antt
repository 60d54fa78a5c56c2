use Rattle.std.proofs.Common.{length}
use Rattle.txs_frame.proofs.Phasing.{IsFilling}
use Rattle.txs_frame.proofs.phase.fill_values.Given as goal

abbrev pub invariant-loop-value : goal.invariant-loop-value
invariant-loop-value l = IsFilling l.fn.writes.items l.fn.values l.left.items l.writes.items

abbrev pub decreases-loop-value : goal.decreases-loop-value
decreases-loop-value l = length l.left.items
