use Rattle.txs_theorem_alike.proofs.Exchanging as exchanging_proof
use Rattle.txs_theorem_alike.proofs.law.commits_exchange.Goals as goal

pub returns : goal.returns
returns c = exchanging_proof.commits_exchange
