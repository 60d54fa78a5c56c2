use Rattle.std.proofs.Common.{◌≡◌, length, true}
use Rattle.std.specs.VecDeque.{deque_len}
use Rattle.txs_world.specs.Inboxes.{plain_inboxes, mailed_all, all_sent_below, rooms, HaveRoom}
use Rattle.txs_world.proofs.inbox.mail_all.Given as goal

abbrev pub decreases-loop-action : goal.decreases-loop-action
decreases-loop-action l = deque_len l.actions

-- what is left has its places and its room, and putting it completes the whole
abbrev pub invariant-loop-action : goal.invariant-loop-action
invariant-loop-action l =
    record {
      places : all_sent_below (length l.inboxes.items) l.actions.items ≡ true;
      room : HaveRoom (rooms l.inboxes.items) l.actions.items;
      whole : mailed_all (plain_inboxes l.inboxes.items) l.actions.items ≡ mailed_all (plain_inboxes l.fn.inboxes.items) l.fn.actions.items;
    }
