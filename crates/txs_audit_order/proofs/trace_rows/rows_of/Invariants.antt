use Rattle.std.proofs.Common.{take}
use Rattle.txs_audit_order.specs.Rows.{AreRows}
use Rattle.txs_audit_order.proofs.trace_rows.rows_of.Given as goal

abbrev pub invariant-loop-i : goal.invariant-loop-i
invariant-loop-i l = AreRows l.actors (take l.i l.book) l.rows.items
