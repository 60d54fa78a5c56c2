use Rattle.std.proofs.Common.{◌≡◌, drop}
use Rattle.txs_theorem_audit.specs.Verdict.{has_failed}
use Rattle.txs_audit_book.proofs.left.has_failed.Given as goal

-- what is answered is what the other agents give
abbrev pub invariant-loop-i : goal.invariant-loop-i
invariant-loop-i l = has_failed l.replay.cells l.replay.book (drop l.i l.agents) (drop l.i l.failed) ≡ has_failed l.replay.cells l.replay.book l.agents l.failed
