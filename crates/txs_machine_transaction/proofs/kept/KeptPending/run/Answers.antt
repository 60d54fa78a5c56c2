use Rattle.std.proofs.Common.{rules}
use Rattle.txs_machine_transaction.proofs.kept.KeptPending.run.Goals as goal

pub returns-clause-begun : goal.returns-clause-begun
returns-clause-begun c = search rules
