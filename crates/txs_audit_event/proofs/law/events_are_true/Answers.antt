use Rattle.txs_audit_event.proofs.Truly.{events_true}
use Rattle.txs_audit_event.proofs.law.events_are_true.Goals as goal

pub returns : goal.returns
returns c = events_true
