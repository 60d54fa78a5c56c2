use Rattle.std.proofs.Common.{◌≡◌, take}
use Rattle.txs_tree_meaning.specs.Transaction.{valued}
use Rattle.txs_tree_eval_transaction.specs.Views.{plain_view, world_of}
use Rattle.txs_tree_eval_transaction.proofs.writes.valued.Given as goal

abbrev pub invariant-loop-cell : goal.invariant-loop-cell
invariant-loop-cell l = l.writes.items ≡ valued (take l.cell-index l.cells) (world_of (plain_view l.world))
