use Rattle.std.proofs.Common.{◌≡◌, ◌++◌, take}
use Rattle.txs_world.proofs.slot.append.Given as goal

abbrev pub invariant-loop-write : goal.invariant-loop-write
invariant-loop-write l = l.copies.items ≡ l.initial.copies.items ++ take l.write-index l.writes
