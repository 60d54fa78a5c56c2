use Rattle.std.proofs.Common.{rules}
use Rattle.txs_resolve.proofs.below.hide.Goals as goal

pub returns : goal.returns
returns c = search rules
