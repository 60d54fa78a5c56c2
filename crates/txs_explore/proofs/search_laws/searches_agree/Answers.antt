use Rattle.txs_explore.proofs.Runs.{searches_agree}
use Rattle.txs_explore.proofs.search_laws.searches_agree.Goals as goal

pub returns : goal.returns
returns c = searches_agree
