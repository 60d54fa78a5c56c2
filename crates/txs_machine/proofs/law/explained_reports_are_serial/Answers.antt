use Rattle.txs_machine.proofs.Serial.{covered_are_serial, reports_are_serial}
use Rattle.txs_machine.proofs.law.explained_reports_are_serial.Goals as goal

pub returns : goal.returns
returns c = record { each = covered_are_serial; all = reports_are_serial }
