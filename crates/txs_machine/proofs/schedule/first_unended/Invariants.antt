use Rattle.std.proofs.Common.{take}
use Rattle.txs_machine.specs.Playing.{AllEnded}
use Rattle.txs_machine.proofs.schedule.first_unended.Given as goal

abbrev pub invariant-loop-k : goal.invariant-loop-k
invariant-loop-k l = AllEnded (take l.k l.players)
