use Rattle.txs_audit_difference.proofs.Truly.{differences_true}
use Rattle.txs_audit_difference.proofs.law.differences_are_true.Goals as goal

pub returns : goal.returns
returns c = differences_true
