use Rattle.txs_theorem_alike.proofs.Retried as retried_proof
use Rattle.txs_theorem_alike.proofs.law.retries_occur.Goals as goal

pub returns : goal.returns
returns c = retried_proof.retries_occur
