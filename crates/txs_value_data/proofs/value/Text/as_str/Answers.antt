use Rattle.std.proofs.Common.{rules}
use Rattle.txs_value_data.proofs.value.Text.as_str.Goals as goal

pub returns : goal.returns
returns c = search rules
