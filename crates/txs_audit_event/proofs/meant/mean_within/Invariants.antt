use Rattle.std.proofs.Common.{◌≤◌, ◌-◌}
use Rattle.txs_audit_event.proofs.meant.mean_within.Given as goal

abbrev pub invariant-loop-meant : goal.invariant-loop-meant
invariant-loop-meant l = l.bound ≤ l.turns

abbrev pub decreases-loop-meant : goal.decreases-loop-meant
decreases-loop-meant l = l.turns - l.bound
