use Rattle.std.specs.Prelude.{length}
use Rattle.txs_tree_eval_transaction.proofs.past.+entry_at.Given as goal

abbrev pub decreases-entry_at : goal.decreases-entry_at
decreases-entry_at l = length l.items.now
