use Rattle.txs_opt.proofs.Programs.{threads_more}
use Rattle.txs_opt.proofs.fold_program.fold_threads.Goals as goal

pub loop-thread-preserved : goal.loop-thread-preserved
loop-thread-preserved c =
    threads_more c.args.threads.now c.loop-thread.anew.items c.push.new.self.items c.loop-thread.thread-index c.thread-item.result c.in_ok-fold_thread.field-0 c.loop-thread-test.true c.thread-item.is c.loop-thread.invariant c.in_ok-push.ensures.items c.in_ok-fold_thread.ensures
