use Rattle.txs_theorem_audit.proofs.Staying.{action_stays}
use Rattle.txs_theorem_audit.proofs.action_stays.Goals as goal

pub returns : goal.returns
returns c = action_stays
