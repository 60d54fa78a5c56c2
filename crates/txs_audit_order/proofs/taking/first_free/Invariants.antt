use Rattle.std.proofs.Common.{◌≡◌, ◌-◌, length}
use Rattle.txs_audit_order.specs.Going.{first_to_go}
use Rattle.txs_audit_order.proofs.taking.first_free.Given as goal

abbrev pub invariant-loop-book : goal.invariant-loop-book
invariant-loop-book l = first_to_go l.lengths l.rows l.cut l.book (length l.lengths - l.book) ≡ first_to_go l.lengths l.rows l.cut 0 (length l.lengths)
