use Rattle.txs_theorem_audit_runs.proofs.Running.{runs_are_explained}
use Rattle.txs_theorem_audit_runs.proofs.runs_are_explained.Goals as goal

pub returns : goal.returns
returns c = runs_are_explained c.runs_are_ordered.ensures
