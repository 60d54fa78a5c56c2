use Rattle.txs_explore.proofs.Runs.{runs_are_found}
use Rattle.txs_explore.proofs.search_laws.runs_are_found.Goals as goal

pub returns : goal.returns
returns c = runs_are_found
