use Rattle.txs_verify.specs.Standing.{IsSeen}
use Rattle.txs_verify.proofs.standing.look_over.Given as goal

abbrev pub invariant-loop-at : goal.invariant-loop-at
invariant-loop-at l = IsSeen l.kinds l.thread l.instrs l.marks l.at l.kind
