use Rattle.txs_theorem_alike.proofs.Whole as whole_proof
use Rattle.txs_theorem_alike.proofs.law.failed_tries_are_left_out.Goals as goal

pub returns : goal.returns
returns c = whole_proof.failed_tries_are_left_out c.play_holds.ensures
