use Rattle.std.proofs.Common.{rules}
use Rattle.txs_value_data.proofs.value.Items.get.Goals as goal

pub returns : goal.returns
returns c = search rules
