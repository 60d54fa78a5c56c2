use Rattle.std.proofs.Common.{suc}
use Rattle.txs_theorem_audit.specs.Audited.{books_of, report_as}
use Rattle.txs_audit_order.specs.Rows.{AllRows}
use Rattle.txs_audit_order.proofs.trace_rows.all_rows.Given as goal

abbrev pub invariant-loop-book : goal.invariant-loop-book
invariant-loop-book l = AllRows l.actors (suc l.book-index) (books_of (report_as l.fn.report)) l.all.items
