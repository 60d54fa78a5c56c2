use Rattle.txs_theorem_audit.proofs.Serial.{explained_actions_are_serial}
use Rattle.txs_theorem_audit.proofs.explained_actions_are_serial.Goals as goal

pub returns : goal.returns
returns c = explained_actions_are_serial
