use Rattle.std.proofs.Common.{rules}
use Rattle.txs_value_data.proofs.op.Op.name.Goals as goal

pub returns-in-Rem : goal.returns-in-Rem
returns-in-Rem c = search rules
