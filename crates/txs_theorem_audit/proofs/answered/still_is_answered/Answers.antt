use Rattle.txs_theorem_audit.proofs.Evaluating.{still_told}
use Rattle.txs_theorem_audit.proofs.answered.still_is_answered.Goals as goal

pub returns : goal.returns
returns c = still_told
