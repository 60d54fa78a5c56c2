use Rattle.txs_resolve.proofs.ScopedScripts.{resolved_scoped}
use Rattle.txs_resolve.proofs.law.resolved_is_scoped.Goals as goal

pub returns : goal.returns
returns c = resolved_scoped
