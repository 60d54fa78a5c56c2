use Rattle.txs_theorem_alike.proofs.Stages as stages_proof
use Rattle.txs_theorem_alike.proofs.law.asks_keep_alike.Goals as goal

pub returns : goal.returns
returns c = stages_proof.steps
