use Rattle.txs_theorem_audit.proofs.Evaluating.{action_told}
use Rattle.txs_theorem_audit.proofs.answered.action_is_answered.Goals as goal

pub returns : goal.returns
returns c = action_told
