use Rattle.txs_theorem_serial.proofs.Alone.{covered_is_serial}
use Rattle.txs_theorem_serial.proofs.covered_is_serial.Goals as goal

pub returns : goal.returns
returns c = covered_is_serial
