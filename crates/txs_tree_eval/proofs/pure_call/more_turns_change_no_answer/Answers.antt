use Rattle.txs_tree_eval.proofs.MoreTurns.{meaning_lasts}
use Rattle.txs_tree_eval.proofs.pure_call.more_turns_change_no_answer.Goals as goal

pub returns : goal.returns
returns c n m functions callee values le = meaning_lasts n m le functions callee values
