use Rattle.std.proofs.Common.{rules}
use Rattle.txs_world_shared.proofs.state.SharedState.newest.Goals as goal

pub returns-in-Atom : goal.returns-in-Atom
returns-in-Atom c = search rules
