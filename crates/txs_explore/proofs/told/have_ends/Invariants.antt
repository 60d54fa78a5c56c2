use Rattle.std.proofs.Common.{◌≡◌, map, take}
use Rattle.txs_explore.specs.Reported.{entries_of, entry_end}
use Rattle.txs_explore.specs.Ways.{as_end}
use Rattle.txs_explore.proofs.told.have_ends.Given as goal

abbrev pub invariant-loop-i : goal.invariant-loop-i
invariant-loop-i l = map as_end (take l.i l.ends) ≡ map entry_end (take l.i (entries_of l.report))
