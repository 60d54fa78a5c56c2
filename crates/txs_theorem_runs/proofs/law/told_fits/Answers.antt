use Rattle.txs_theorem_runs.proofs.Told as told
use Rattle.txs_theorem_runs.proofs.law.told_fits.Goals as goal

pub returns : goal.returns
returns c = told.told_fits c.unwritten_stays.ensures
