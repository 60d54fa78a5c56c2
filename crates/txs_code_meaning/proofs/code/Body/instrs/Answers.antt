use Rattle.std.proofs.Common.{rules}
use Rattle.txs_code_meaning.proofs.code.Body.instrs.Goals as goal

pub returns : goal.returns
returns c = search rules
