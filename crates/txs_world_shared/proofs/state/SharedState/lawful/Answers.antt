use Rattle.std.proofs.Common.{rules}
use Rattle.txs_world_shared.proofs.state.SharedState.lawful.Goals as goal

pub returns-then-has_atom : goal.returns-then-has_atom
returns-then-has_atom c = search rules
