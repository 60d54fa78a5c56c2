use Rattle.std.proofs.Common.{◌≤◌, ◌-◌}
use Rattle.txs_audit_evidence.proofs.acts.rest_within.Given as goal

abbrev pub invariant-loop-found : goal.invariant-loop-found
invariant-loop-found l = l.bound ≤ l.turns

abbrev pub decreases-loop-found : goal.decreases-loop-found
decreases-loop-found l = l.turns - l.bound
