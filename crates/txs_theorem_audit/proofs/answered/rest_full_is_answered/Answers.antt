use Rattle.txs_theorem_audit.proofs.Evaluating.{rest_full_told}
use Rattle.txs_theorem_audit.proofs.answered.rest_full_is_answered.Goals as goal

pub returns : goal.returns
returns c = rest_full_told
