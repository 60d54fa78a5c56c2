use Rattle.txs_resolve.proofs.Marking.{resolved_marked}
use Rattle.txs_resolve.proofs.law.resolved_is_marked.Goals as goal

pub returns : goal.returns
returns c = resolved_marked
