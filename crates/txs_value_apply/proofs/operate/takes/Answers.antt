use Rattle.std.proofs.Common.{rules}
use Rattle.txs_value_apply.specs.Core.{takes}
use Rattle.txs_value_apply.proofs.operate.takes.Goals as goal

pub returns-in-Subtract : goal.returns-in-Subtract
unfolding takes
returns-in-Subtract c = search rules
