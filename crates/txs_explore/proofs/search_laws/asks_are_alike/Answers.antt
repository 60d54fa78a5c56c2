use Rattle.txs_explore.proofs.Runs.{asks_are_alike}
use Rattle.txs_explore.proofs.search_laws.asks_are_alike.Goals as goal

pub returns : goal.returns
returns c = asks_are_alike
