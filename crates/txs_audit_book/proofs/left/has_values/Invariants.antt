use Rattle.std.proofs.Common.{◌≡◌, drop}
use Rattle.txs_theorem_audit.specs.Audited.{PlainReport}
use Rattle.txs_theorem_audit.specs.Verdict.{has_values}
use Rattle.txs_audit_book.proofs.left.has_values.Given as goal

-- what is answered is what the other cells give
abbrev pub invariant-loop-i : goal.invariant-loop-i
invariant-loop-i l = (r : PlainReport) → r.book ≡ l.replay.book → has_values l.cells r l.i (drop l.i l.cells) (drop l.i l.values) ≡ has_values l.cells r 0 l.cells l.values
