use Rattle.std.proofs.Common.{◌≡◌, drop, map}
use Rattle.txs_tree_meaning.specs.View.{threads_of}
use Rattle.txs_check.specs.Refused.{room, thread_body}
use Rattle.txs_check.proofs.bodies.room_after_threads.Given as goal

abbrev pub invariant-loop-thread : goal.invariant-loop-thread
invariant-loop-thread l = room l.left (map thread_body (threads_of (drop l.thread-index l.threads))) ≡ room l.fn.left (map thread_body (threads_of l.threads))
