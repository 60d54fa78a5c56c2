use Rattle.std.proofs.Common.{◌≡◌, ◌-◌, length, take, true}
use Rattle.txs_audit_order.specs.Going.{are_taken}
use Rattle.txs_audit_order.proofs.taking.pass.Given as goal

abbrev pub invariant-loop-passed : goal.invariant-loop-passed
invariant-loop-passed l = are_taken l.cut (take l.passed l.row) ≡ true

abbrev pub decreases-loop-passed : goal.decreases-loop-passed
decreases-loop-passed l = length l.row - l.passed
