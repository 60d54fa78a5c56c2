use Rattle.std.proofs.Common.{◌≡◌, length, true, vec_len}
use Rattle.txs_world.specs.Kept.{put_all, all_below}
use Rattle.txs_world.proofs.slot.put_all.Given as goal

abbrev pub decreases-loop-cell : goal.decreases-loop-cell
decreases-loop-cell l = vec_len l.writes

-- what is left has its places, and putting it completes the whole
abbrev pub invariant-loop-cell : goal.invariant-loop-cell
invariant-loop-cell l =
    record {
      places : all_below (length l.slots.items) l.writes.items ≡ true;
      whole : put_all l.events l.slots.items l.writes.items ≡ put_all l.events l.fn.slots.items l.fn.writes.items;
    }
