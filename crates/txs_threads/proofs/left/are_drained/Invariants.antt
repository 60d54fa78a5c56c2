use Rattle.std.proofs.Common.{drop}
use Rattle.txs_threads.specs.Run.{AllDrained}
use Rattle.txs_threads.proofs.left.are_drained.Given as goal

abbrev pub invariant-loop-i : goal.invariant-loop-i
invariant-loop-i l =
    record {
      on : AllDrained l.shared l.agents l.rans → AllDrained l.shared (drop l.i l.agents) (drop l.i l.rans);
      back : AllDrained l.shared (drop l.i l.agents) (drop l.i l.rans) → AllDrained l.shared l.agents l.rans;
    }
