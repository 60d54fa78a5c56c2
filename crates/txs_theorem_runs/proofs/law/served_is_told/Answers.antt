use Rattle.txs_theorem_runs.proofs.Told as told
use Rattle.txs_theorem_runs.proofs.law.served_is_told.Goals as goal

pub returns : goal.returns
returns c = told.served_is_told
