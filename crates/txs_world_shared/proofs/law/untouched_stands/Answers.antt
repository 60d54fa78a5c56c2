use Rattle.txs_world_shared.proofs.Opening as opening
use Rattle.txs_world_shared.proofs.law.untouched_stands.Goals as goal

pub returns : goal.returns
returns c = opening.untouched_stands
