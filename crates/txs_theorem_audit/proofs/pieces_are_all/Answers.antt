use Rattle.txs_theorem_audit.proofs.Piecing.{pieces_are_all}
use Rattle.txs_theorem_audit.proofs.pieces_are_all.Goals as goal

pub returns : goal.returns
returns c = pieces_are_all
