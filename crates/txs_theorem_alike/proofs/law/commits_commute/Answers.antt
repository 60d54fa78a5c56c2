use Rattle.txs_theorem_alike.proofs.Commuting as commuting_proof
use Rattle.txs_theorem_alike.proofs.law.commits_commute.Goals as goal

pub returns : goal.returns
returns c = commuting_proof.commits_commute
