use Rattle.std.proofs.Common.{rules}
use Rattle.txs_value_data.proofs.value.Items.len.Goals as goal

pub returns-clause-value : goal.returns-clause-value
returns-clause-value c = search rules
