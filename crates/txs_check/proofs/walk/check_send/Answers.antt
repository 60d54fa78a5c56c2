use Rattle.std.proofs.Common.{rules}
use Rattle.txs_check.proofs.walk.check_send.Goals as goal

pub returns : goal.returns
returns c = search rules
