use Rattle.std.proofs.Common.{◌≡◌, ◌+◌, ◌≤◌, ◌++◌, length, drop}
use Rattle.txs_tree_meaning.specs.Sound.{nodes_of_all}
use Rattle.txs_tree_meaning.specs.View.{threads_of}
use Rattle.txs_gen.specs.Bodies.{threads_from, thread_rooms, AreSoundThreads}
use Rattle.txs_gen.specs.Generated.{constants_of_threads}
use Rattle.txs_gen.proofs.threads.threads_code.Given as goal

abbrev pub invariant-loop-thread : goal.invariant-loop-thread
invariant-loop-thread l = record {
  bodies : l.bodies.items ++ threads_from (threads_of (drop l.thread-index l.threads)) (length l.constants.items) ≡ threads_from (threads_of l.threads) (length l.fn.before.items);
  rooms : l.rooms.items ++ thread_rooms (threads_of (drop l.thread-index l.threads)) ≡ thread_rooms (threads_of l.threads);
  constants : l.constants.items ++ constants_of_threads (threads_of (drop l.thread-index l.threads)) ≡ l.fn.before.items ++ constants_of_threads (threads_of l.threads);
  part : AreSoundThreads (threads_of (drop l.thread-index l.threads));
  few : length l.constants.items + nodes_of_all (threads_of (drop l.thread-index l.threads)) ≤ 200000;
}
