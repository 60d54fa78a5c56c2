use Rattle.std.proofs.Common.{rules}
use Rattle.txs_check.proofs.error.CheckErrorKind.name.Goals as goal

pub returns-in-InsideOnly : goal.returns-in-InsideOnly
returns-in-InsideOnly c = search rules
