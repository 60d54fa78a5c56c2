use Rattle.txs_theorem_serial.proofs.Together.{commits_serial}
use Rattle.txs_theorem_serial.proofs.commits_serial.Goals as goal

pub returns : goal.returns
returns c = commits_serial
