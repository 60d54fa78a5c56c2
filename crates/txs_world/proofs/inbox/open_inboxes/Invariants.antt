use Rattle.std.proofs.Common.{◌≡◌, length, take, vec_capacity}
use Rattle.txs_world.specs.Inboxes.{plain_inboxes, open_inboxes}
use Rattle.txs_world.proofs.inbox.open_inboxes.Given as goal

abbrev pub invariant-loop-cell : goal.invariant-loop-cell
invariant-loop-cell l =
    record {
      many : length l.inboxes.items ≡ l.cell-index;
      room : vec_capacity l.inboxes ≡ length l.cells;
      built : plain_inboxes l.inboxes.items ≡ open_inboxes (take l.cell-index l.cells);
    }
