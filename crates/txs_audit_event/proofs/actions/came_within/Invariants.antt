use Rattle.std.proofs.Common.{◌≤◌, ◌-◌}
use Rattle.txs_audit_event.proofs.actions.came_within.Given as goal

abbrev pub invariant-loop-came : goal.invariant-loop-came
invariant-loop-came l = l.bound ≤ l.turns

abbrev pub decreases-loop-came : goal.decreases-loop-came
decreases-loop-came l = l.turns - l.bound
