use Rattle.std.proofs.Common.{◌≡◌, drop, length, true}
use Rattle.txs_audit_book.specs.Gone.{plain_inboxes}
use Rattle.txs_audit_book.specs.Moves.{entered_all, all_sent_below}
use Rattle.txs_audit_book.proofs.inbox.send_all.Given as goal

-- what is left has its places, and sending it completes the whole
abbrev pub invariant-loop-action : goal.invariant-loop-action
invariant-loop-action l =
    record {
      places : all_sent_below (length l.inboxes.items) (drop l.action-index l.actions) ≡ true;
      whole : entered_all (plain_inboxes l.inboxes.items) (drop l.action-index l.actions) ≡ entered_all (plain_inboxes l.fn.inboxes.items) l.actions;
    }
