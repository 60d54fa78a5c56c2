use Rattle.txs_theorem_serial.proofs.Within.{links_are_within}
use Rattle.txs_theorem_serial.proofs.order.links_are_within.Goals as goal

pub returns : goal.returns
returns c = links_are_within
