use Rattle.std.proofs.Common.{◌≡◌, drop, take, true, length}
use Rattle.txs_world.specs.Inboxes.{plain_inboxes, all_sent_below, rooms, RoomFor, promises, Promised}
use Rattle.txs_world.proofs.inbox.make_room_for.Given as goal

-- those to come have their places, and the agents of those before the room that was promised
abbrev pub invariant-loop-action : goal.invariant-loop-action
invariant-loop-action l =
    record {
      places : all_sent_below (length l.inboxes.items) (drop l.action-index l.actions) ≡ true;
      same : plain_inboxes l.inboxes.items ≡ plain_inboxes l.fn.inboxes.items;
      promised : Promised (promises l.inboxes.items) l.actions l.actions;
      room : RoomFor (rooms l.inboxes.items) l.actions (take l.action-index l.actions);
    }
