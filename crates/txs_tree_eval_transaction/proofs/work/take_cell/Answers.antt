use Rattle.std.proofs.Common.{rules, arith}
use Rattle.std.proofs.lemmas.Grind.{common_steps}
use Rattle.txs_tree_eval_transaction.proofs.work.take_cell.Goals as goal

pub returns-in-Err : goal.returns-in-Err
returns-in-Err c = first_of (search rules, grind (arith, common_steps))
