use Rattle.std.proofs.Common.{rules}
use Rattle.txs_tree_eval_transaction.proofs.work.TxWork.look.Goals as goal

pub returns : goal.returns
returns c = search rules
