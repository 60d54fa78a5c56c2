use Rattle.txs_explore.proofs.Runs.{runs_come_by_asks}
use Rattle.txs_explore.proofs.search_laws.runs_come_by_asks.Goals as goal

pub returns : goal.returns
returns c = runs_come_by_asks
