use Rattle.txs_explore.proofs.Runs.{ways_are_runs}
use Rattle.txs_explore.proofs.search_laws.ways_are_runs.Goals as goal

pub returns : goal.returns
returns c = ways_are_runs
