use Rattle.std.proofs.Common.{◌≡◌, ◌≤◌, length, take}
use Rattle.std.specs.VecDeque.{deque_capacity, deque_len}
use Rattle.txs_world.proofs.inbox.fill_queue.Given as goal

abbrev pub invariant-loop-action : goal.invariant-loop-action
invariant-loop-action l =
    record {
      many : deque_len l.queue ≡ l.action-index;
      room : length l.actions ≤ deque_capacity l.queue;
      built : l.queue.items ≡ take l.action-index l.actions;
    }
