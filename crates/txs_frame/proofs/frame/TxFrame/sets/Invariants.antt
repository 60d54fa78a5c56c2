use Rattle.std.proofs.Common.{◌≡◌, take}
use Rattle.txs_frame.specs.Kept.{cells_by, was_set}
use Rattle.txs_frame.proofs.frame.TxFrame.sets.Given as goal

abbrev pub invariant-loop-own : goal.invariant-loop-own
invariant-loop-own l = l.refs.items ≡ cells_by was_set (take l.own-index l.own-items)
