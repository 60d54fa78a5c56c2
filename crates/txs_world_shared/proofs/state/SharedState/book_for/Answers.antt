use Rattle.std.proofs.Common.{rules}
use Rattle.txs_world_shared.proofs.state.SharedState.book_for.Goals as goal

pub returns-in-Some-clause-number : goal.returns-in-Some-clause-number
returns-in-Some-clause-number c = search rules
