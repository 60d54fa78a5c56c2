use Rattle.std.proofs.Common.{◌≡◌, ◌-◌, length}
use Rattle.txs_audit_order.specs.Waiting.{left_from}
use Rattle.txs_audit_order.proofs.left.first_left.Given as goal

abbrev pub invariant-loop-book : goal.invariant-loop-book
invariant-loop-book l = left_from l.lengths l.cut l.book (length l.lengths - l.book) ≡ left_from l.lengths l.cut 0 (length l.lengths)
