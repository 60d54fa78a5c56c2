use Rattle.txs_theorem_alike.proofs.States as states_proof
use Rattle.txs_theorem_alike.proofs.law.turns_keep_states.Goals as goal

pub returns : goal.returns
returns c = states_proof.turns_keep_states
