use Rattle.std.proofs.Common.{◌≡◌, drop, take}
use Rattle.txs_world_book.specs.Book.{first_failed}
use Rattle.txs_world_book.specs.Served.{cells_of}
use Rattle.txs_audit_evidence.proofs.transactions.first_failed.Given as goal

abbrev pub invariant-loop-action : goal.invariant-loop-action
invariant-loop-action l = first_failed (cells_of l.books.program.cells) (take l.events l.books.report.book) (drop l.action-index l.sends) ≡ first_failed (cells_of l.books.program.cells) (take l.events l.books.report.book) l.sends
