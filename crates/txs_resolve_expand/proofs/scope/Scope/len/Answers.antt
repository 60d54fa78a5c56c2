use Rattle.std.proofs.Common.{arith}
use Rattle.std.proofs.lemmas.Grind.{common_steps}
use Rattle.txs_resolve_expand.proofs.scope.Scope.len.Goals as goal

pub returns : goal.returns
returns c = grind (arith, common_steps)
