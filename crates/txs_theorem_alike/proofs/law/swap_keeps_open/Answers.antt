use Rattle.txs_theorem_alike.proofs.Swaps as swaps_proof
use Rattle.txs_theorem_alike.proofs.law.swap_keeps_open.Goals as goal

pub returns-clause-steps : goal.returns-clause-steps
returns-clause-steps c = swaps_proof.swap_keeps_open

pub returns-clause-changed : goal.returns-clause-changed
returns-clause-changed c = swaps_proof.changed_is_back
