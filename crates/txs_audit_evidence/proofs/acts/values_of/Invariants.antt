use Rattle.std.proofs.Common.{◌≡◌, ◌∷◌, take}
use Rattle.txs_audit_evidence.proofs.acts.values_of.Given as goal

abbrev pub invariant-loop-arg : goal.invariant-loop-arg
invariant-loop-arg l = l.values.items ≡ l.state ∷ take l.arg-index l.args
