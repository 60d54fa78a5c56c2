use Rattle.txs_audit_event.proofs.Truly.{ends_true}
use Rattle.txs_audit_event.proofs.law.ends_are_true.Goals as goal

pub returns : goal.returns
returns c = ends_true
