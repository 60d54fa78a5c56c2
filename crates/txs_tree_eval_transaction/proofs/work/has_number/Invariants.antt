use Rattle.std.proofs.Common.{◌≡◌, drop}
use Rattle.txs_frame.specs.Frame.{has_number}
use Rattle.txs_tree_eval_transaction.proofs.work.has_number.Given as goal

abbrev pub invariant-loop-cell : goal.invariant-loop-cell
invariant-loop-cell l = has_number (drop l.cell-index l.cells) l.number ≡ has_number l.cells l.number
