use Rattle.txs_theorem_alike.proofs.Unnoticed as unnoticed_proof
use Rattle.txs_theorem_alike.proofs.law.looks_are_left_out.Goals as goal

pub returns : goal.returns
returns c = unnoticed_proof.looks_are_left_out c.play_holds.ensures
