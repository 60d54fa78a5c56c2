use Rattle.txs_theorem_audit.proofs.Staying.{rest_stays}
use Rattle.txs_theorem_audit.proofs.rest_stays.Goals as goal

pub returns : goal.returns
returns c = rest_stays
