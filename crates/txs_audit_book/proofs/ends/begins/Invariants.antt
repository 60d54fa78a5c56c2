use Rattle.std.proofs.Common.{◌≡◌, drop}
use Rattle.txs_theorem_audit.specs.Verdict.{begins}
use Rattle.txs_audit_book.proofs.ends.begins.Given as goal

abbrev pub invariant-loop-i : goal.invariant-loop-i
invariant-loop-i l = begins (drop l.i l.part) (drop l.i l.whole) ≡ begins l.part l.whole
