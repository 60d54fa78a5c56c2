use Rattle.txs_theorem_serial.proofs.Timed.{ordered}
use Rattle.txs_theorem_serial.proofs.order.none_is_ordered.Goals as goal

pub returns : goal.returns
returns c = ordered
