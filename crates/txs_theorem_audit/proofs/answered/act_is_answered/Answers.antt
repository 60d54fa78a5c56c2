use Rattle.txs_theorem_audit.proofs.Evaluating.{act_told}
use Rattle.txs_theorem_audit.proofs.answered.act_is_answered.Goals as goal

pub returns : goal.returns
returns c = act_told
