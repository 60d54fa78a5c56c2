use Rattle.std.proofs.Common.{rules}
use Rattle.txs_code_decode.proofs.error.CodeErrorKind.number.Goals as goal

pub returns-in-Trailing : goal.returns-in-Trailing
returns-in-Trailing c = search rules
