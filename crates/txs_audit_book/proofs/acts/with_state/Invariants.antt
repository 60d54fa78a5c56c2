use Rattle.std.proofs.Common.{◌≡◌, ◌∷◌, take}
use Rattle.txs_audit_book.proofs.acts.with_state.Given as goal

abbrev pub invariant-loop-arg : goal.invariant-loop-arg
invariant-loop-arg l = l.values.items ≡ l.state ∷ take l.arg-index l.args
