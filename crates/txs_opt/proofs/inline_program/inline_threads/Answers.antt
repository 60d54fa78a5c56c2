use Rattle.std.proofs.Common.{List, sym, subst}
use Rattle.txs_tree_meaning.specs.Known.{known}
use Rattle.txs_tree_meaning.specs.Scoped.{ScopedThreads}
use Rattle.txs_tree_meaning.specs.View.{functions_of, threads_of}
use Rattle.txs_tree_meaning.specs.declared.node.Thread.{Thread}
use Rattle.txs_tree_meaning.proofs.Copies.{thread_reach}
use Rattle.txs_opt.specs.Inline.{threads_inlined}
use Rattle.txs_opt.proofs.InlinedRows.{threads_step}
use Rattle.txs_opt.proofs.inline_program.inline_threads.Goals as goal

pub inline_thread-requires : goal.inline_thread-requires
inline_thread-requires c =
    let scoped = subst (λ (l : List Thread). ScopedThreads (known (functions_of c.args.program.now.functions)) (threads_of l)) (sym c.threads-threads.ensures.value) c.is_sound.ensures.scoped.threads in
    thread_reach c.threads-threads.result.now (known (functions_of c.args.program.now.functions)) c.loop-thread.thread-index c.thread-item.result scoped c.loop-thread-test.true c.thread-item.is

pub loop-thread-preserved : goal.loop-thread-preserved
loop-thread-preserved c =
    threads_step (functions_of c.args.done.now) c.threads-threads.result.now c.loop-thread.anew.items c.push.new.self.items c.loop-thread.left c.inline_thread.new.budget c.loop-thread.thread-index c.thread-item.result c.in_ok-inline_thread.field-0
    (threads_inlined (functions_of c.args.done.now) c.args.budget (threads_of c.threads-threads.result.now)) c.loop-thread-test.true c.thread-item.is c.loop-thread.invariant c.in_ok-push.ensures.items c.in_ok-inline_thread.ensures.0 c.in_ok-inline_thread.ensures.1
