use Rattle.std.proofs.Common.{rules}
use Rattle.txs_tree_eval_transaction.proofs.values.operate.Goals as goal

pub returns-in-Err-Fault : goal.returns-in-Err-Fault
returns-in-Err-Fault c = search rules
