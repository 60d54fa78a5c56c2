use Rattle.txs_theorem_audit.proofs.Staying.{thread_stays}
use Rattle.txs_theorem_audit.proofs.thread_stays.Goals as goal

pub returns : goal.returns
returns c = thread_stays
