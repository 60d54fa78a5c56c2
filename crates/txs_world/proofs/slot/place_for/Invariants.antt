use Rattle.std.proofs.Common.{◌≡◌, ◌+◌, drop}
use Rattle.txs_world.specs.Places.{place_of}
use Rattle.txs_world.proofs.slot.place_for.Given as goal

abbrev pub invariant-loop-i : goal.invariant-loop-i
invariant-loop-i l = l.i + place_of l.number (drop l.i l.writes) ≡ place_of l.number l.writes
