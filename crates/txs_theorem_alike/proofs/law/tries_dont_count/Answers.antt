use Rattle.txs_theorem_alike.proofs.TriesLeft as triesleft_proof
use Rattle.txs_theorem_alike.proofs.law.tries_dont_count.Goals as goal

pub returns : goal.returns
returns c = triesleft_proof.tries_dont_count
