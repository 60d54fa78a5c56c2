use Rattle.std.proofs.Common.{drop}
use Rattle.txs_threads.specs.Run.{AllEnded}
use Rattle.txs_threads.proofs.left.have_ended.Given as goal

abbrev pub invariant-loop-thread : goal.invariant-loop-thread
invariant-loop-thread l =
    record {
      on : AllEnded l.threads → AllEnded (drop l.thread-index l.threads);
      back : AllEnded (drop l.thread-index l.threads) → AllEnded l.threads;
    }
