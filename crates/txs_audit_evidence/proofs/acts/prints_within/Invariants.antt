use Rattle.std.proofs.Common.{◌≤◌, ◌-◌}
use Rattle.txs_audit_evidence.proofs.acts.prints_within.Given as goal

abbrev pub invariant-loop-meaning : goal.invariant-loop-meaning
invariant-loop-meaning l = l.bound ≤ l.turns

abbrev pub decreases-loop-meaning : goal.decreases-loop-meaning
decreases-loop-meaning l = l.turns - l.bound
