use Rattle.txs_audit_order.specs.Going.{IsGone, left_in}
use Rattle.txs_audit_order.proofs.taking.take_rest.Given as goal

abbrev pub invariant-loop-book : goal.invariant-loop-book
invariant-loop-book l = IsGone l.lengths l.rows l.cut.items

-- how many events are left
abbrev pub decreases-loop-book : goal.decreases-loop-book
decreases-loop-book l = left_in l.lengths l.cut.items
