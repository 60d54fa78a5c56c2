use Rattle.std.proofs.Common.{rules}
use Rattle.txs_verify.proofs.walk.agree.Goals as goal

pub returns-clause-gives : goal.returns-clause-gives
returns-clause-gives c = search rules
