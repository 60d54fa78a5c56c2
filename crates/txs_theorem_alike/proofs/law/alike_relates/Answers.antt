use Rattle.txs_theorem_alike.proofs.Relating as relating_proof
use Rattle.txs_theorem_alike.proofs.Within as within_proof
use Rattle.txs_theorem_alike.proofs.law.alike_relates.Goals as goal

pub returns-clause-itself : goal.returns-clause-itself
returns-clause-itself c = relating_proof.itself

pub returns-clause-back : goal.returns-clause-back
returns-clause-back c = relating_proof.back

pub returns-clause-on : goal.returns-clause-on
returns-clause-on c = relating_proof.on

pub returns-clause-within : goal.returns-clause-within
returns-clause-within c = within_proof.places_are_within
