use Rattle.txs_theorem_audit.proofs.Serial.{explained_is_serial}
use Rattle.txs_theorem_audit.proofs.explained_is_serial.Goals as goal

pub returns : goal.returns
returns c = explained_is_serial
