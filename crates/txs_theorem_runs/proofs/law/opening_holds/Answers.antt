use Rattle.txs_theorem_runs.proofs.Told.{fresh_stands}
use Rattle.txs_theorem_runs.proofs.Whole as whole
use Rattle.txs_theorem_runs.proofs.law.opening_holds.Goals as goal

pub returns : goal.returns
returns c = whole.opening_holds fresh_stands
