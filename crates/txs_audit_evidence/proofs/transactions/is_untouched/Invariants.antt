use Rattle.std.proofs.Common.{◌≡◌, drop, take}
use Rattle.txs_theorem_audit.specs.Verdict.{is_untouched}
use Rattle.txs_audit_evidence.proofs.transactions.is_untouched.Given as goal

abbrev pub invariant-loop-cell : goal.invariant-loop-cell
invariant-loop-cell l = is_untouched (take l.events l.books.report.book) l.at (drop l.cell-index l.refs) ≡ is_untouched (take l.events l.books.report.book) l.at l.refs
