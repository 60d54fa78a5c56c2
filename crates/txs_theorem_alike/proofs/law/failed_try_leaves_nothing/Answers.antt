use Rattle.txs_theorem_alike.proofs.Leaving as leaving_proof
use Rattle.txs_theorem_alike.proofs.law.failed_try_leaves_nothing.Goals as goal

pub returns : goal.returns
returns c = leaving_proof.failed_try_leaves_nothing c.play_holds.ensures
