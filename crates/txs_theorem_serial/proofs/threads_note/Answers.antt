use Rattle.txs_theorem_serial.proofs.Noting.{threads_note}
use Rattle.txs_theorem_serial.proofs.threads_note.Goals as goal

pub returns : goal.returns
returns c = threads_note
