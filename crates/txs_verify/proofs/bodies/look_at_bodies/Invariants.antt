use Rattle.txs_verify.specs.Verdict.{AreRightBodies}
use Rattle.txs_verify.proofs.bodies.look_at_bodies.Given as goal

abbrev pub invariant-loop-n : goal.invariant-loop-n
invariant-loop-n l = AreRightBodies l.thread l.functions l.bodies l.n
