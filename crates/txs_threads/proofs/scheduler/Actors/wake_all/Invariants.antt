use Rattle.std.proofs.Common.{◌≡◌, length}
use Rattle.txs_threads.proofs.scheduler.Actors.wake_all.Given as goal

abbrev pub invariant-loop-cell : goal.invariant-loop-cell
invariant-loop-cell g l = (l.self.down.items ≡ l.fn.self.down.items) × (length l.self.parked.items ≡ length l.fn.self.parked.items)
