use Rattle.txs_theorem_alike.proofs.Actors as actors_proof
use Rattle.txs_theorem_alike.proofs.law.turns_are_alike.Goals as goal

pub returns-clause-turn : goal.returns-clause-turn
returns-clause-turn c = actors_proof.turns_alike

pub returns-clause-reply : goal.returns-clause-reply
returns-clause-reply c = actors_proof.replies_alike

pub returns-clause-takes : goal.returns-clause-takes
returns-clause-takes c = actors_proof.staged_takes

pub returns-clause-told : goal.returns-clause-told
returns-clause-told c = actors_proof.told_alike
