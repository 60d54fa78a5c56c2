use Rattle.txs_theorem_alike.proofs.Answering as answering_proof
use Rattle.txs_theorem_alike.proofs.law.alike_answer_alike.Goals as goal

pub returns : goal.returns
returns c = answering_proof.answers
