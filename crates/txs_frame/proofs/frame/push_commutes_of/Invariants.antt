use Rattle.std.proofs.Common.{◌≡◌, ◌++◌, take}
use Rattle.txs_frame.specs.Frame.{commutes_of}
use Rattle.txs_frame.proofs.frame.push_commutes_of.Given as goal

abbrev pub invariant-loop-commute : goal.invariant-loop-commute
invariant-loop-commute l = l.work.items ≡ l.fn.work.items ++ commutes_of l.number (take l.commute-index l.commutes)
