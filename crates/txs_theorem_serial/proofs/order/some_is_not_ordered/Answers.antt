use Rattle.txs_theorem_serial.proofs.Cycle.{not_ordered}
use Rattle.txs_theorem_serial.proofs.order.some_is_not_ordered.Goals as goal

pub returns : goal.returns
returns c = not_ordered
