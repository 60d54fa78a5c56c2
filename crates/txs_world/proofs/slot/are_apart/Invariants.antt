use Rattle.txs_world.proofs.Zipping.{Walks}
use Rattle.txs_world.proofs.slot.are_apart.Given as goal

abbrev pub invariant-loop-write : goal.invariant-loop-write
invariant-loop-write l = Walks l.commuted l.sets l.rest l.commuted l.write-index
