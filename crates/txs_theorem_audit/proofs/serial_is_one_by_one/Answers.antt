use Rattle.txs_theorem_audit.proofs.Ordered.{serial_is_one_by_one}
use Rattle.txs_theorem_audit.proofs.serial_is_one_by_one.Goals as goal

pub returns : goal.returns
returns c = serial_is_one_by_one
