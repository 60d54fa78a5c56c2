use Rattle.txs_theorem_threads.proofs.Actions.{sound_follows_agents}
use Rattle.txs_theorem_threads.proofs.sound_follows_agents.Goals as goal

pub returns : goal.returns
returns c = sound_follows_agents
