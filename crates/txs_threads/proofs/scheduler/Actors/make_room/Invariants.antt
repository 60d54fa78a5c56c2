use Rattle.std.proofs.Common.{◌≡◌}
use Rattle.txs_threads.proofs.scheduler.Actors.make_room.Given as goal

abbrev pub invariant-loop : goal.invariant-loop
invariant-loop g l = (l.self.ready.items ≡ l.fn.self.ready.items) × (l.self.down.items ≡ l.fn.self.down.items)
