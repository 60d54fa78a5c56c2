use Rattle.std.proofs.Common.{◌≡◌, take}
use Rattle.txs_world_shared.proofs.state.SharedState.made_for.Given as goal

abbrev pub invariant-loop-i : goal.invariant-loop-i
invariant-loop-i l = take l.i l.own ≡ take l.i l.cells
