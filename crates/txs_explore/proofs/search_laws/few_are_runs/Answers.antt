use Rattle.txs_explore.proofs.Runs.{few_are_runs}
use Rattle.txs_explore.proofs.search_laws.few_are_runs.Goals as goal

pub returns : goal.returns
returns c = few_are_runs
