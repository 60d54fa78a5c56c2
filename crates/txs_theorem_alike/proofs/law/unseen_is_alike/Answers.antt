use Rattle.txs_theorem_alike.proofs.Unseen as unseen_proof
use Rattle.txs_theorem_alike.proofs.law.unseen_is_alike.Goals as goal

pub returns : goal.returns
returns c = unseen_proof.unseen
