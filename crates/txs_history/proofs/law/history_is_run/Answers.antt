use Rattle.txs_history.proofs.Interleaving.{history_is_run}
use Rattle.txs_history.proofs.law.history_is_run.Goals as goal

pub returns : goal.returns
returns c = history_is_run
