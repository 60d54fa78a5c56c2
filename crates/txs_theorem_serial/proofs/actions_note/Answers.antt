use Rattle.txs_theorem_serial.proofs.Noting.{actions_note}
use Rattle.txs_theorem_serial.proofs.actions_note.Goals as goal

pub returns : goal.returns
returns c = actions_note
