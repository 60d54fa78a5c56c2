use Rattle.std.proofs.Common.{◌≡◌, drop}
use Rattle.txs_tree_meaning.specs.Transaction.{merged}
use Rattle.txs_tree_eval_transaction.proofs.writes.merge.Given as goal

abbrev pub invariant-loop-other : goal.invariant-loop-other
invariant-loop-other l = merged l.writes.items (drop l.other-index l.others) ≡ merged l.fn.writes.items l.others
