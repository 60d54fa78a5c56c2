use Rattle.txs_theorem_alike.proofs.Natural as natural_proof
use Rattle.txs_theorem_alike.proofs.law.turn_is_natural.Goals as goal

pub returns-clause-turn : goal.returns-clause-turn
returns-clause-turn c = natural_proof.turn_is_natural

pub returns-clause-run : goal.returns-clause-run
returns-clause-run c = natural_proof.run_is_natural
