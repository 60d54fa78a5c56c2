use Rattle.std.proofs.Common.{rules}
use Rattle.txs_machine_transaction.proofs.kept.KeptTransaction.whole.Goals as goal

pub returns-in-None-clause-running : goal.returns-in-None-clause-running
returns-in-None-clause-running c = search rules
