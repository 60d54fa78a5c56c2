use Rattle.txs_theorem_audit.proofs.Piecing.{halves_are_whole}
use Rattle.txs_theorem_audit.proofs.halves_are_whole.Goals as goal

pub returns : goal.returns
returns c = halves_are_whole
