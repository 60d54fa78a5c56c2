use Rattle.txs_theorem_runs.proofs.Told as told
use Rattle.txs_theorem_runs.proofs.law.others_leave_told.Goals as goal

pub returns : goal.returns
returns c = told.others_leave_told
