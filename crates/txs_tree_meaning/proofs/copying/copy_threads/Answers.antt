use Rattle.std.proofs.Common.{List, sym, subst}
use Rattle.txs_tree_meaning.specs.Known.{known}
use Rattle.txs_tree_meaning.specs.Scoped.{ScopedThreads}
use Rattle.txs_tree_meaning.specs.View.{functions_of, threads_of}
use Rattle.txs_tree_meaning.specs.declared.node.Thread.{Thread}
use Rattle.txs_tree_meaning.proofs.Copies.{threads_more, thread_top}
use Rattle.txs_tree_meaning.proofs.copying.copy_threads.Goals as goal

pub copy_thread-requires : goal.copy_thread-requires
copy_thread-requires c =
    let scoped = subst (λ (l : List Thread). ScopedThreads (known (functions_of c.args.program.now.functions)) (threads_of l)) (sym c.threads-threads.ensures.value) c.is_sound.ensures.scoped.threads in
    thread_top c.threads-threads.result.now (known (functions_of c.args.program.now.functions)) c.loop-thread.thread-index c.thread-item.result scoped c.loop-thread-test.true c.thread-item.is

pub loop-thread-preserved : goal.loop-thread-preserved
loop-thread-preserved c =
    threads_more c.threads-threads.result.now c.loop-thread.copies.items c.push.new.self.items c.loop-thread.thread-index c.thread-item.result c.in_ok-copy_thread.field-0 c.loop-thread-test.true c.thread-item.is c.loop-thread.invariant c.in_ok-push.ensures.items c.in_ok-copy_thread.ensures
