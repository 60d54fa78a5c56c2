use Rattle.txs_theorem_alike.proofs.Actors as actors_proof
use Rattle.txs_theorem_alike.proofs.law.actors_run_alike.Goals as goal

pub returns : goal.returns
returns c = actors_proof.actors_run_alike
