use Rattle.txs_machine.specs.Playing.{AreReported}
use Rattle.txs_machine.proofs.schedule.report_threads.Given as goal

abbrev pub invariant-loop-player : goal.invariant-loop-player
invariant-loop-player l = AreReported l.code l.yielded l.rans.items
