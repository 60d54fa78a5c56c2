use Rattle.std.proofs.Common.{rules}
use Rattle.txs_value_data.proofs.op.Op.number.Goals as goal

pub returns : goal.returns
returns c = search rules
