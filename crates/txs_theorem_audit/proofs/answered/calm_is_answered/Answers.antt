use Rattle.txs_theorem_audit.proofs.Evaluating.{calm_found_told}
use Rattle.txs_theorem_audit.proofs.answered.calm_is_answered.Goals as goal

pub returns : goal.returns
returns c = calm_found_told
