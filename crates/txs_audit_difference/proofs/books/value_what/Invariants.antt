use Rattle.std.proofs.Common.{◌≡◌, drop}
use Rattle.txs_theorem_audit.specs.Audited.{PlainReport}
use Rattle.txs_audit_difference.specs.Difference.{value_what}
use Rattle.txs_audit_difference.proofs.books.value_what.Given as goal

-- what is answered is what the other cells give
abbrev pub invariant-loop-i : goal.invariant-loop-i
invariant-loop-i l = (r : PlainReport) → r.book ≡ l.replay.book → value_what l.cells r l.i (drop l.i l.cells) (drop l.i l.values) ≡ value_what l.cells r 0 l.cells l.values
