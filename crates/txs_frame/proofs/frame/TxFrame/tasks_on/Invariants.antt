use Rattle.std.proofs.Common.{◌≡◌, map, take}
use Rattle.txs_frame.specs.Frame.{by_ref}
use Rattle.txs_frame.specs.declared.phase.Task.TheVariants.{Redoes}
use Rattle.txs_frame.proofs.frame.TxFrame.tasks_on.Given as goal

abbrev pub invariant-loop-cell : goal.invariant-loop-cell
invariant-loop-cell l = l.tasks.items ≡ map Redoes (by_ref (take l.cell-index l.refs) l.self.commutes)
