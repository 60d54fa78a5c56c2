use Rattle.txs_theorem_runs.proofs.Known.{standing_staged}
use Rattle.txs_theorem_runs.proofs.law.standing_is_staged.Goals as goal

pub returns : goal.returns
returns c = standing_staged
