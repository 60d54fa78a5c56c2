use Rattle.std.proofs.Common.{rules}
use Rattle.txs_machine_transaction.proofs.kept.KeptPending.begin.Goals as goal

pub returns : goal.returns
returns c = search rules
