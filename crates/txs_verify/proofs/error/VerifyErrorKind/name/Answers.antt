use Rattle.std.proofs.Common.{rules}
use Rattle.txs_verify.proofs.error.VerifyErrorKind.name.Goals as goal

pub returns-in-CallOrder : goal.returns-in-CallOrder
returns-in-CallOrder c = search rules
