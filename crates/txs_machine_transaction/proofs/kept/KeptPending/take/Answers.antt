use Rattle.std.proofs.Common.{rules}
use Rattle.txs_machine_transaction.proofs.kept.KeptPending.take.Goals as goal

pub returns-clause-taken : goal.returns-clause-taken
returns-clause-taken c = search rules
