use Rattle.std.proofs.Common.{◌≡◌, ◌≤◌, ◌+◌, drop}
use Rattle.txs_tree_meaning.specs.Sound.{nodes_of_all}
use Rattle.txs_tree_meaning.specs.View.{threads_of}
use Rattle.txs_opt.proofs.inline_program.left_of_threads.Given as goal

abbrev pub invariant-loop-thread : goal.invariant-loop-thread
invariant-loop-thread l = record {
  whole : nodes_of_all (threads_of l.threads) + l.left ≡ l.limit + nodes_of_all (threads_of (drop l.thread-index l.threads));
  fewer : l.left ≤ l.limit;
}
