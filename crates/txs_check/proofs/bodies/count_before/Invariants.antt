use Rattle.std.proofs.Common.{◌≡◌, ◌+◌, drop}
use Rattle.txs_tree_meaning.specs.View.{threads_of}
use Rattle.txs_check.specs.Refused.{before}
use Rattle.txs_check.proofs.bodies.count_before.Given as goal

abbrev pub invariant-loop-thread : goal.invariant-loop-thread
invariant-loop-thread l = record {
  seen : l.count ≡ l.thread-index;
  same : l.count + before l.from (threads_of (drop l.thread-index l.threads)) ≡ before l.from (threads_of l.threads);
}
