use Rattle.txs_theorem_runs.proofs.Alone as alone
use Rattle.txs_theorem_runs.proofs.law.alone_history.Goals as goal

pub returns : goal.returns
returns c = alone.alone_history c.history_of_whole.ensures
