use Rattle.txs_theorem_alike.proofs.Keys as keys_proof
use Rattle.txs_theorem_alike.proofs.law.keys_are_exact.Goals as goal

pub returns-clause-state : goal.returns-clause-state
returns-clause-state c = keys_proof.exact

pub returns-clause-point : goal.returns-clause-point
returns-clause-point c = keys_proof.point_exact

pub returns-clause-view : goal.returns-clause-view
returns-clause-view c = keys_proof.view_exact
