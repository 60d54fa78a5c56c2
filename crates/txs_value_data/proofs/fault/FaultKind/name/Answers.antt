use Rattle.std.proofs.Common.{rules}
use Rattle.txs_value_data.proofs.fault.FaultKind.name.Goals as goal

pub returns-in-PopEmpty : goal.returns-in-PopEmpty
returns-in-PopEmpty c = search rules
