use Rattle.std.proofs.Common.{◌≡◌, length, map, take, vec_capacity}
use Rattle.txs_world_book.specs.declared.cell.StoreCell.{StoreCell}
use Rattle.txs_audit_book.specs.Gone.{plain_inboxes, no_inbox}
use Rattle.txs_audit_book.proofs.inbox.open_inboxes.Given as goal

abbrev pub invariant-loop-cell : goal.invariant-loop-cell
invariant-loop-cell l =
    record {
      many : length l.inboxes.items ≡ l.cell-index;
      room : vec_capacity l.inboxes ≡ length l.cells;
      built : plain_inboxes l.inboxes.items ≡ map (λ (s : StoreCell). no_inbox) (take l.cell-index l.cells);
    }
