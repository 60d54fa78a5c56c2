use Rattle.txs_theorem_serial.proofs.Together.{runs_are_serial}
use Rattle.txs_theorem_serial.proofs.runs_are_serial.Goals as goal

pub returns : goal.returns
returns c = runs_are_serial
