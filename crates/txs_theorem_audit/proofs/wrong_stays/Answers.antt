use Rattle.txs_theorem_audit.proofs.Beginning.{wrong_stays}
use Rattle.txs_theorem_audit.proofs.wrong_stays.Goals as goal

pub returns : goal.returns
returns c = wrong_stays
