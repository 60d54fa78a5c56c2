use Rattle.txs_theorem_alike.proofs.Failing as failing_proof
use Rattle.txs_theorem_alike.proofs.law.turn_keeps_start.Goals as goal

pub returns : goal.returns
returns c = failing_proof.turn_keeps_start
