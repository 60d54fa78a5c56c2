use Rattle.txs_world_book.specs.Served.{cells_of}
use Rattle.txs_theorem_audit.specs.Audited.{books_of}
use Rattle.txs_audit_evidence.proofs.Judging.{Left}
use Rattle.txs_audit_evidence.proofs.transactions.transactions_found.Given as goal

-- what is found of the rest is what is found of all
abbrev pub invariant-loop-i : goal.invariant-loop-i
invariant-loop-i l = Left (cells_of l.books.program.cells) (books_of l.books.report) l.actor l.first l.trace l.txs l.i l.next l.serial
