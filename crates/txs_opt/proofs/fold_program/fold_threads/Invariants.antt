use Rattle.std.proofs.Common.{◌≡◌, take}
use Rattle.txs_tree_meaning.specs.View.{threads_of}
use Rattle.txs_opt.specs.Fold.{folded_threads}
use Rattle.txs_opt.proofs.fold_program.fold_threads.Given as goal

abbrev pub invariant-loop-thread : goal.invariant-loop-thread
invariant-loop-thread l = threads_of l.anew.items ≡ folded_threads (threads_of (take l.thread-index l.threads))
