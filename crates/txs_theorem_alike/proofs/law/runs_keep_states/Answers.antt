use Rattle.txs_theorem_alike.proofs.States as states_proof
use Rattle.txs_theorem_alike.proofs.law.runs_keep_states.Goals as goal

pub returns : goal.returns
returns c = states_proof.runs_keep_states c.play_holds.ensures
