use Rattle.std.proofs.Common.{◌≡◌, ◌++◌, map, take}
use Rattle.txs_frame.specs.Frame.{commutes_of}
use Rattle.txs_frame.specs.declared.phase.Task.TheVariants.{Redoes}
use Rattle.txs_frame.proofs.phase.push_redone_of.Given as goal

abbrev pub invariant-loop-commute : goal.invariant-loop-commute
invariant-loop-commute l = l.tasks.items ≡ l.fn.tasks.items ++ map Redoes (commutes_of l.number (take l.commute-index l.commutes))
