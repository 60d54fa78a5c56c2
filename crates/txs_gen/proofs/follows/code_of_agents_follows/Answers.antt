use Rattle.txs_gen.proofs.Actions.{agents_follow}
use Rattle.txs_gen.proofs.follows.code_of_agents_follows.Goals as goal

pub returns : goal.returns
returns c = agents_follow c.sound_follows_agents.ensures
