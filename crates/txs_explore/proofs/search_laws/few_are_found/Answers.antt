use Rattle.txs_explore.proofs.Runs.{few_are_found}
use Rattle.txs_explore.proofs.search_laws.few_are_found.Goals as goal

pub returns : goal.returns
returns c = few_are_found
