use Rattle.std.proofs.Common.{take}
use Rattle.txs_machine.specs.Running.{AreIdle}
use Rattle.txs_machine.proofs.agents.is_any_working.Given as goal

abbrev pub invariant-loop-i : goal.invariant-loop-i
invariant-loop-i l = AreIdle l.code l.shared (take l.i l.agents)
