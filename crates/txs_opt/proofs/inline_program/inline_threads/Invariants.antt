use Rattle.std.proofs.Common.{◌≡◌, ◌++◌, drop}
use Rattle.txs_tree_meaning.specs.View.{functions_of, threads_of}
use Rattle.txs_opt.specs.Inline.{threads_inlined}
use Rattle.txs_opt.proofs.inline_program.inline_threads.Given as goal

abbrev pub invariant-loop-thread : goal.invariant-loop-thread
invariant-loop-thread l = threads_of l.anew.items ++ threads_inlined (functions_of l.done) l.left (threads_of (drop l.thread-index l.threads)) ≡ threads_inlined (functions_of l.done) l.budget (threads_of l.threads)
