use Rattle.std.proofs.Common.{◌≡◌, drop, take, true, length}
use Rattle.txs_world.specs.Inboxes.{plain_inboxes, all_sent_below, promises, Promised}
use Rattle.txs_world.proofs.inbox.promise_all.Given as goal

-- those to come have their places, and as much is promised as those before need
abbrev pub invariant-loop-action : goal.invariant-loop-action
invariant-loop-action l =
    record {
      places : all_sent_below (length l.inboxes.items) (drop l.action-index l.actions) ≡ true;
      same : plain_inboxes l.inboxes.items ≡ plain_inboxes l.initial.inboxes.items;
      promised : Promised (promises l.inboxes.items) (take l.action-index l.actions) l.actions;
    }
