use Rattle.txs_theorem_runs.proofs.Report.{typed_staged}
use Rattle.txs_theorem_runs.proofs.law.typed_threads_are_staged.Goals as goal

pub returns : goal.returns
returns c = typed_staged
