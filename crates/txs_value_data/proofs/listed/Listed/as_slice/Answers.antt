use Rattle.std.proofs.Common.{rules}
use Rattle.txs_value_data.proofs.listed.Listed.as_slice.Goals as goal

pub returns : goal.returns
returns g c = search rules
