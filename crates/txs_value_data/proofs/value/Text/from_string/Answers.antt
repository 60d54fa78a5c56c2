use Rattle.std.proofs.Common.{rules}
use Rattle.txs_value_data.proofs.value.Text.from_string.Goals as goal

pub returns : goal.returns
returns c = search rules
