use Rattle.txs_theorem_audit.proofs.Evaluating.{full_told}
use Rattle.txs_theorem_audit.proofs.answered.full_is_answered.Goals as goal

pub returns : goal.returns
returns c = full_told
