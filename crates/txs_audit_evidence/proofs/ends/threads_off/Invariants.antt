use Rattle.std.proofs.Common.{◌≡◌, drop}
use Rattle.std.specs.Prelude.{map}
use Rattle.txs_theorem_audit.specs.Audited.{ran_as}
use Rattle.txs_theorem_audit.specs.Verdict.{threads_over}
use Rattle.txs_audit_book.specs.Answered.{terms_as}
use Rattle.txs_audit_evidence.proofs.ends.threads_off.Given as goal

-- what is found is what the other threads give
abbrev pub invariant-loop-i : goal.invariant-loop-i
invariant-loop-i l = threads_over (terms_as l.terms) l.i (map ran_as (drop l.i l.threads)) ≡ threads_over (terms_as l.terms) 0 (map ran_as l.threads)
