use Rattle.txs_machine.specs.Playing.{AreReported}
use Rattle.txs_machine.specs.Running.{attendants}
use Rattle.txs_machine.proofs.schedule.report_agents.Given as goal

abbrev pub invariant-loop-agent : goal.invariant-loop-agent
invariant-loop-agent l = AreReported l.code (attendants l.yielded) l.rans.items
