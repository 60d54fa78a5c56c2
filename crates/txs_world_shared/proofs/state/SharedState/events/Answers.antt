use Rattle.std.proofs.Common.{rules}
use Rattle.txs_world_shared.proofs.state.SharedState.events.Goals as goal

pub returns-clause-value : goal.returns-clause-value
returns-clause-value c = search rules

pub returns-clause-stands : goal.returns-clause-stands
returns-clause-stands c = search rules
