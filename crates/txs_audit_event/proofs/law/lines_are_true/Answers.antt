use Rattle.txs_audit_event.proofs.Truly.{lines_true}
use Rattle.txs_audit_event.proofs.law.lines_are_true.Goals as goal

pub returns : goal.returns
returns c = lines_true
