use Rattle.txs_reader.proofs.Signs.{Split}
use Rattle.txs_reader.proofs.window.last_within.Given as goal

abbrev pub invariant-loop-from : goal.invariant-loop-from
invariant-loop-from l = Split l.bytes l.limit l.from l.left

abbrev pub decreases-loop-from : goal.decreases-loop-from
decreases-loop-from l = l.from
