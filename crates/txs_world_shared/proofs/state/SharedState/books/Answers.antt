use Rattle.std.proofs.Common.{arith}
use Rattle.std.proofs.lemmas.Grind.{common_steps}
use Rattle.txs_world_shared.proofs.state.SharedState.books.Goals as goal

pub returns-clause-number : goal.returns-clause-number
returns-clause-number c = grind (arith, common_steps)

pub returns-clause-rest : goal.returns-clause-rest
returns-clause-rest c = grind (arith, common_steps)
