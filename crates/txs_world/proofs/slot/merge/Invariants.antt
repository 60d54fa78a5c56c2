use Rattle.std.proofs.Common.{◌≡◌, ◌++◌, drop}
use Rattle.txs_world.proofs.Zipping.{zipped}
use Rattle.txs_world.proofs.slot.merge.Given as goal

-- what is put together, and what the walk makes of the rest, is the whole
abbrev pub invariant-loop-write : goal.invariant-loop-write
invariant-loop-write l = l.joined.items ++ zipped (drop l.write-index l.sets) l.rest ≡ zipped l.sets l.commuted
