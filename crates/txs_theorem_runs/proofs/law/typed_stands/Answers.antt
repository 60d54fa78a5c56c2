use Rattle.txs_theorem_runs.proofs.Typed as typed
use Rattle.txs_theorem_runs.proofs.law.typed_stands.Goals as goal

pub returns : goal.returns
returns c = typed.typed_stands
