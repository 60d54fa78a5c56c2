use Rattle.txs_theorem_alike.proofs.Turns as turns_proof
use Rattle.txs_theorem_alike.proofs.law.turn_keeps_alike.Goals as goal

pub returns : goal.returns
returns c = turns_proof.turn_keeps_alike
