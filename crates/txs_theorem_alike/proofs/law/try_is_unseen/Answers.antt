use Rattle.txs_theorem_alike.proofs.Leaving as leaving_proof
use Rattle.txs_theorem_alike.proofs.law.try_is_unseen.Goals as goal

pub returns-clause-own : goal.returns-clause-own
returns-clause-own c = leaving_proof.try_is_unseen

pub returns-clause-others : goal.returns-clause-others
returns-clause-others c = leaving_proof.others_go_on
