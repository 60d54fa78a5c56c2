use Rattle.std.proofs.Common.{◌≡◌, take}
use Rattle.txs_frame.specs.Kept.{cells_by, only_commuted}
use Rattle.txs_frame.proofs.frame.TxFrame.commuted.Given as goal

abbrev pub invariant-loop-own : goal.invariant-loop-own
invariant-loop-own l = l.cells.items ≡ cells_by only_commuted (take l.own-index l.own-items)
