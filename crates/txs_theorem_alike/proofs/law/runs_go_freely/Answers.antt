use Rattle.txs_theorem_alike.proofs.Free as free_proof
use Rattle.txs_theorem_alike.proofs.law.runs_go_freely.Goals as goal

pub returns-clause-seen : goal.returns-clause-seen
returns-clause-seen c = free_proof.failures_are_seen

pub returns-clause-free : goal.returns-clause-free
returns-clause-free c = free_proof.runs_go_freely c.every_ask_is_lawful.ensures
