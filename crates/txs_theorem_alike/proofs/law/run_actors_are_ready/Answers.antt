use Rattle.txs_theorem_alike.proofs.Failures as failures_proof
use Rattle.txs_theorem_alike.proofs.law.run_actors_are_ready.Goals as goal

pub returns-clause-left : goal.returns-clause-left
returns-clause-left c = failures_proof.few_failures_leave_tries

pub returns-clause-ready : goal.returns-clause-ready
returns-clause-ready c = failures_proof.run_actors_are_ready
