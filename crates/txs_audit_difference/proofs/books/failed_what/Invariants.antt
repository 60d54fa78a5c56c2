use Rattle.std.proofs.Common.{◌≡◌, drop}
use Rattle.txs_audit_difference.specs.Difference.{failed_what}
use Rattle.txs_audit_difference.proofs.books.failed_what.Given as goal

-- what is answered is what the other agents give
abbrev pub invariant-loop-i : goal.invariant-loop-i
invariant-loop-i l = failed_what l.replay.cells l.replay.book (drop l.i l.agents) (drop l.i l.failed) ≡ failed_what l.replay.cells l.replay.book l.agents l.failed
