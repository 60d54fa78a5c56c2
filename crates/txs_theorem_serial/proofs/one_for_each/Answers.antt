use Rattle.txs_theorem_serial.proofs.Counting.{one_for_each}
use Rattle.txs_theorem_serial.proofs.one_for_each.Goals as goal

pub returns : goal.returns
returns c = one_for_each
