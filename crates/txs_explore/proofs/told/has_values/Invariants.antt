use Rattle.std.proofs.Common.{◌≡◌, ◌++◌, drop, take}
use Rattle.txs_world_shared.specs.Parts.{values_from, values_of}
use Rattle.txs_world_shared.specs.SharedState.{newest_of}
use Rattle.txs_explore.proofs.told.has_values.Given as goal

abbrev pub invariant-loop-i : goal.invariant-loop-i
invariant-loop-i l = take l.i l.values ++ values_from (newest_of l.shared) l.i (drop l.i l.cells) ≡ values_of l.shared
