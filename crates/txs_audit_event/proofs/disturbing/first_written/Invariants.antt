use Rattle.std.proofs.Common.{◌≡◌, drop, take}
use Rattle.txs_audit_event.specs.Transactions.{first_written}
use Rattle.txs_audit_event.proofs.disturbing.first_written.Given as goal

abbrev pub invariant-loop-cell : goal.invariant-loop-cell
invariant-loop-cell l = first_written (take l.events l.books.report.book) l.at (drop l.cell-index l.refs) ≡ first_written (take l.events l.books.report.book) l.at l.refs
