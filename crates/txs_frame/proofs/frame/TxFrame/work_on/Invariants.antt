use Rattle.std.proofs.Common.{◌≡◌, take}
use Rattle.txs_frame.specs.Frame.{by_ref}
use Rattle.txs_frame.proofs.frame.TxFrame.work_on.Given as goal

abbrev pub invariant-loop-cell : goal.invariant-loop-cell
invariant-loop-cell l = l.work.items ≡ by_ref (take l.cell-index l.cells) l.self.commutes
