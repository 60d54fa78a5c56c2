use Rattle.txs_theorem_audit.proofs.Evaluating.{least_told}
use Rattle.txs_theorem_audit.proofs.answered.least_is_answered.Goals as goal

pub returns : goal.returns
returns c = least_told
