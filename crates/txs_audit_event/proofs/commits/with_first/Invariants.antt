use Rattle.std.proofs.Common.{◌≡◌, ◌∷◌, take}
use Rattle.txs_audit_event.proofs.commits.with_first.Given as goal

abbrev pub invariant-loop-other : goal.invariant-loop-other
invariant-loop-other l = l.values.items ≡ l.fn.first ∷ take l.other-index l.others
