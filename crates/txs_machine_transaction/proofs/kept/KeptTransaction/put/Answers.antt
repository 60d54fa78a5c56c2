use Rattle.std.proofs.Common.{rules}
use Rattle.txs_machine_transaction.proofs.kept.KeptTransaction.put.Goals as goal

pub returns-in-Running : goal.returns-in-Running
returns-in-Running c = search rules
