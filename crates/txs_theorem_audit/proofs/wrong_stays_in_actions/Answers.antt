use Rattle.txs_theorem_audit.proofs.Beginning.{wrong_stays_in_actions}
use Rattle.txs_theorem_audit.proofs.wrong_stays_in_actions.Goals as goal

pub returns : goal.returns
returns c = wrong_stays_in_actions
