use Rattle.std.proofs.Common.{◌≡◌, length, take, vec_capacity}
use Rattle.txs_frame.proofs.phase.copied.Given as goal

abbrev pub invariant-loop-write : goal.invariant-loop-write
invariant-loop-write l =
    record {
      many : length l.writes.items ≡ l.write-index;
      room : vec_capacity l.writes ≡ length l.all;
      same : l.writes.items ≡ take l.write-index l.all;
    }
