use Rattle.std.proofs.Common.{rules}
use Rattle.txs_world_shared.proofs.state.SharedState.home.Goals as goal

pub returns-in-Atom-clause-number : goal.returns-in-Atom-clause-number
returns-in-Atom-clause-number c = search rules
