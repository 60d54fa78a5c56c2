use Rattle.std.proofs.Common.{◌≡◌, length, take, vec_capacity}
use Rattle.txs_world.specs.Kept.{open_slots}
use Rattle.txs_world.proofs.slot.open_slots.Given as goal

abbrev pub invariant-loop-cell : goal.invariant-loop-cell
invariant-loop-cell l =
    record {
      many : length l.slots.items ≡ l.cell-index;
      room : vec_capacity l.slots ≡ length l.cells;
      built : l.slots.items ≡ open_slots (take l.cell-index l.cells);
    }
