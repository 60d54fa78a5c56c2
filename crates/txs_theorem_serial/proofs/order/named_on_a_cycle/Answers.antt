use Rattle.txs_theorem_serial.proofs.Cycle.{on_cycle}
use Rattle.txs_theorem_serial.proofs.order.named_on_a_cycle.Goals as goal

pub returns : goal.returns
returns c = on_cycle
