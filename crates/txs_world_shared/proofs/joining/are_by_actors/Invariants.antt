use Rattle.std.proofs.Common.{drop}
use Rattle.txs_world_shared.specs.Apart.{MadeByActors}
use Rattle.txs_world_shared.proofs.joining.are_by_actors.Given as goal

abbrev pub invariant-loop-event : goal.invariant-loop-event
invariant-loop-event l = (MadeByActors l.actors l.events → MadeByActors l.actors (drop l.event-index l.events)) × (MadeByActors l.actors (drop l.event-index l.events) → MadeByActors l.actors l.events)
