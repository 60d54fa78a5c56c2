use Rattle.std.proofs.Common.{◌≡◌, ◌-◌, drop, length, None}
use Rattle.txs_world.specs.Kept.{version_at}
use Rattle.txs_world.proofs.slot.Slot.value_at.Given as goal

-- no version behind these was made by the first events
abbrev pub invariant-loop-newer : goal.invariant-loop-newer
invariant-loop-newer l = version_at l.at (drop (length l.self.ring.items - l.newer) l.self.ring.items) ≡ None
