use Rattle.std.proofs.Common.{rules}
use Rattle.txs_code_meaning.proofs.code.Code.constants.Goals as goal

pub returns : goal.returns
returns c = search rules
