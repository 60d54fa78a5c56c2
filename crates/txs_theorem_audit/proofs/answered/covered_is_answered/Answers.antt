use Rattle.txs_theorem_audit.proofs.Evaluating.{covered_told}
use Rattle.txs_theorem_audit.proofs.answered.covered_is_answered.Goals as goal

pub returns : goal.returns
returns c = covered_told
