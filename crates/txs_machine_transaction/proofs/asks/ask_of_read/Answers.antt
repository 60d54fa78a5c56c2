use Rattle.std.proofs.Common.{rules}
use Rattle.txs_machine_transaction.proofs.asks.ask_of_read.Goals as goal

pub returns-then-runs : goal.returns-then-runs
returns-then-runs c = search rules
