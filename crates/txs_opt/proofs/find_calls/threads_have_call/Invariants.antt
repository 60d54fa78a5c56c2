use Rattle.std.proofs.Common.{◌≡◌, drop}
use Rattle.txs_tree_meaning.specs.View.{threads_of}
use Rattle.txs_opt.specs.Optimised.{threads_call}
use Rattle.txs_opt.proofs.find_calls.threads_have_call.Given as goal

abbrev pub invariant-loop-thread : goal.invariant-loop-thread
invariant-loop-thread l = threads_call (threads_of (drop l.thread-index l.threads)) ≡ threads_call (threads_of l.threads)
