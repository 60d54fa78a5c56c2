use Rattle.std.proofs.Common.{arith}
use Rattle.std.proofs.lemmas.Grind.{common_steps}
use Rattle.txs_value_apply.specs.Core.{core, takes}
use Rattle.txs_value_apply.proofs.operate.apply_owned.Goals as goal

pub returns-in-Pop-clause-value : goal.returns-in-Pop-clause-value
unfolding core takes
returns-in-Pop-clause-value c = grind (arith, common_steps)
