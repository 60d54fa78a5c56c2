use Rattle.txs_theorem_serial.proofs.Reached.{one_end}
use Rattle.txs_theorem_serial.proofs.order.one_last_cut.Goals as goal

pub returns : goal.returns
returns c = one_end
