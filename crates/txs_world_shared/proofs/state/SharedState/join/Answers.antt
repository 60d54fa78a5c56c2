use Rattle.std.proofs.Common.{rules}
use Rattle.txs_world_shared.proofs.state.SharedState.join.Goals as goal

pub returns : goal.returns
returns c = search rules
