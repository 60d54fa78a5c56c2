use Rattle.txs_audit_event.proofs.Truly.{acts_true}
use Rattle.txs_audit_event.proofs.law.acts_are_true.Goals as goal

pub returns : goal.returns
returns c = acts_true
