use Rattle.txs_theorem_audit.proofs.Evaluating.{noted_told}
use Rattle.txs_theorem_audit.proofs.answered.noted_are_answered.Goals as goal

pub returns : goal.returns
returns c = noted_told
