use Rattle.txs_theorem_audit.proofs.NotSerial.{skew_is_not_one_by_one}
use Rattle.txs_theorem_audit.proofs.skew_is_not_one_by_one.Goals as goal

pub returns : goal.returns
returns c = skew_is_not_one_by_one
