use Rattle.std.proofs.Common.{rules}
use Rattle.txs_verify.proofs.error.VerifyErrorKind.number.Goals as goal

pub returns-in-LocalOut : goal.returns-in-LocalOut
returns-in-LocalOut c = search rules
