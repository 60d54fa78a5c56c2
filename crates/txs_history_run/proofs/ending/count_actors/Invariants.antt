use Rattle.txs_history_run.specs.Back.{ActorsFollow}
use Rattle.txs_history_run.proofs.ending.count_actors.Given as goal

abbrev pub invariant-loop-i : goal.invariant-loop-i
invariant-loop-i g l = ActorsFollow g.J.Run.code g.J.Run.limit l.i l.actors l.sum
