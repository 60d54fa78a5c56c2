use Rattle.std.proofs.Common.{rules}
use Rattle.txs_value_data.specs.Limits.{reruns}
use Rattle.txs_machine_transaction.proofs.kept.KeptTransaction.begin.Goals as goal

pub returns : goal.returns
unfolding reruns
returns c = search rules
