use Rattle.txs_theorem_audit_runs.proofs.Running.{runs_never_differ}
use Rattle.txs_theorem_audit_runs.proofs.runs_never_differ.Goals as goal

pub returns : goal.returns
returns c = runs_never_differ c.differs_is_not_explained.ensures c.runs_are_explained.ensures
