use Rattle.txs_theorem_alike.proofs.Equal as equal_proof
use Rattle.txs_theorem_alike.proofs.States as states_proof
use Rattle.txs_theorem_alike.proofs.law.states_relate.Goals as goal

pub returns-clause-itself : goal.returns-clause-itself
returns-clause-itself c = equal_proof.states_itself

pub returns-clause-back : goal.returns-clause-back
returns-clause-back c = equal_proof.states_back

pub returns-clause-on : goal.returns-clause-on
returns-clause-on c = equal_proof.states_on

pub returns-clause-stages : goal.returns-clause-stages
returns-clause-stages c = states_proof.alike_have_stages

pub returns-clause-alike : goal.returns-clause-alike
returns-clause-alike c = states_proof.stages_are_alike
