use Rattle.std.proofs.Common.{rules}
use Rattle.txs_value_data.proofs.value.Value.into_items.Goals as goal

pub returns-in-Vector : goal.returns-in-Vector
returns-in-Vector c = search rules
