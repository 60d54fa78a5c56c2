use Rattle.std.proofs.Common.{rules}
use Rattle.txs_frame.proofs.phase.Phase.writes.Goals as goal

pub returns : goal.returns
returns c = search rules
