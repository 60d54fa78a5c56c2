use Rattle.txs_theorem_audit_runs.proofs.Ordered.{runs_are_ordered}
use Rattle.txs_theorem_audit_runs.proofs.order.runs_are_ordered.Goals as goal

pub returns : goal.returns
returns c = runs_are_ordered
