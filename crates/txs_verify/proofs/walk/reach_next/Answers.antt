use Rattle.std.proofs.Common.{rules}
use Rattle.txs_verify.proofs.walk.reach_next.Goals as goal

pub returns-in-Return : goal.returns-in-Return
returns-in-Return c = search rules
