use Rattle.txs_machine_actor.proofs.Following
use Rattle.txs_machine_actor.proofs.law.actors_run.Goals as goal

pub returns : goal.returns
returns c = Following.actors_run
