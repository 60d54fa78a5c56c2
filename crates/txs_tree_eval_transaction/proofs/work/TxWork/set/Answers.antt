use Rattle.std.proofs.Common.{rules, arith}
use Rattle.std.proofs.lemmas.Grind.{common_steps}
use Rattle.txs_tree_eval_transaction.proofs.work.TxWork.set.Goals as goal

pub returns-in-Err-SetAfterCommute : goal.returns-in-Err-SetAfterCommute
returns-in-Err-SetAfterCommute c = first_of (search rules, grind (arith, common_steps))
