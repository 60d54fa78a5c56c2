use Rattle.std.proofs.Common.{rules}
use Rattle.txs_code_decode.proofs.error.CodeErrorKind.name.Goals as goal

pub returns-in-BadOpcode : goal.returns-in-BadOpcode
returns-in-BadOpcode c = search rules
