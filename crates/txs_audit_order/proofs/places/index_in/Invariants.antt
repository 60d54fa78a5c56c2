use Rattle.std.proofs.Common.{◌≡◌, ◌+◌, drop}
use Rattle.txs_theorem_audit.specs.Verdict.{index_in}
use Rattle.txs_audit_order.specs.Named.{plain_trace}
use Rattle.txs_audit_order.proofs.places.index_in.Given as goal

-- the event isn't at any of the places so far
abbrev pub invariant-loop-i : goal.invariant-loop-i
invariant-loop-i l = index_in l.book l.at (plain_trace l.trace) ≡ l.i + index_in l.book l.at (plain_trace (drop l.i l.trace))
