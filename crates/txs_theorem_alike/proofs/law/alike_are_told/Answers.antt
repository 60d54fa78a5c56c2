use Rattle.txs_theorem_alike.proofs.Relating as relating_proof
use Rattle.txs_theorem_alike.proofs.law.alike_are_told.Goals as goal

pub returns : goal.returns
returns c = relating_proof.told
