use Rattle.txs_theorem_alike.proofs.LeftOut as leftout_proof
use Rattle.txs_theorem_alike.proofs.law.tries_are_left_out.Goals as goal

pub returns : goal.returns
returns c = leftout_proof.tries_are_left_out c.play_holds.ensures
