use Rattle.std.proofs.Common.{rules}
use Rattle.txs_value_data.proofs.value.Body.from_vec.Goals as goal

pub returns : goal.returns
returns c = search rules
