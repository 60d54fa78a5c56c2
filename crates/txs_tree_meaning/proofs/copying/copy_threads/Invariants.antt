use Rattle.std.proofs.Common.{◌≡◌, take}
use Rattle.txs_tree_meaning.specs.View.{threads_of}
use Rattle.txs_tree_meaning.proofs.copying.copy_threads.Given as goal

abbrev pub invariant-loop-thread : goal.invariant-loop-thread
invariant-loop-thread l = threads_of l.copies.items ≡ threads_of (take l.thread-index l.threads)
