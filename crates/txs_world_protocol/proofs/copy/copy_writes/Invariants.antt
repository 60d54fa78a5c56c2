use Rattle.std.proofs.Common.{◌≡◌, take, length, vec_capacity}
use Rattle.txs_world_protocol.proofs.copy.copy_writes.Given as goal

abbrev pub invariant-loop-write : goal.invariant-loop-write
invariant-loop-write l = record { items : l.copies.items ≡ take l.write-index l.writes; capacity : vec_capacity l.copies ≡ length l.writes }
