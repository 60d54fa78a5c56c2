use Rattle.std.proofs.Common.{refl}
use Rattle.txs_frame.proofs.phase.Phase.begin.Goals as goal

pub invariant_of-result : goal.invariant_of-result
invariant_of-result c = c.requires

pub returns : goal.returns
returns c = refl
