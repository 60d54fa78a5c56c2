use Rattle.txs_machine.proofs.Exact.{schedules_exact}
use Rattle.txs_machine.proofs.law.schedules_are_exact.Goals as goal

pub returns : goal.returns
returns c = schedules_exact
