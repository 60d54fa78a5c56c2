use Rattle.txs_theorem_audit.proofs.Evaluating.{end_told}
use Rattle.txs_theorem_audit.proofs.answered.end_is_answered.Goals as goal

pub returns : goal.returns
returns c = end_told
