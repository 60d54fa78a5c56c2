use Rattle.std.proofs.Common.{rules}
use Rattle.txs_reader.proofs.error.ReadErrorKind.name.Goals as goal

pub returns-in-LeftOut : goal.returns-in-LeftOut
returns-in-LeftOut c = search rules
