use mathlib.Core.List.{IsPrefix}
use Rattle.txs_history_run.specs.Back.{ActorsSeen}
use Rattle.txs_history_run.proofs.ending.show_actors.Given as goal

abbrev pub invariant-loop-i : goal.invariant-loop-i
invariant-loop-i g l = IsPrefix l.fn.past l.past × ActorsSeen l.i l.actors l.past
