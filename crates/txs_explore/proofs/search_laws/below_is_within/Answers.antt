use Rattle.txs_explore.proofs.Running.{below_within}
use Rattle.txs_explore.proofs.search_laws.below_is_within.Goals as goal

pub returns : goal.returns
returns c = below_within
