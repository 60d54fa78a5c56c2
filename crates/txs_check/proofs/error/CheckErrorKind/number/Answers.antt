use Rattle.std.proofs.Common.{rules}
use Rattle.txs_check.proofs.error.CheckErrorKind.number.Goals as goal

pub returns-in-CodeTooLarge : goal.returns-in-CodeTooLarge
returns-in-CodeTooLarge c = search rules
