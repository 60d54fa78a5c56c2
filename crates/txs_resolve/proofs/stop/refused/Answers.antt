use Rattle.std.proofs.Common.{rules}
use Rattle.txs_resolve.proofs.stop.refused.Goals as goal

pub returns : goal.returns
returns c = search rules
