use Rattle.txs_history_run.specs.Callees.{IsSentAmong, MarksMore}
use Rattle.txs_history_run.proofs.callees.mark_bodies.Given as goal

-- just what the bodies before send is marked besides
abbrev pub invariant-loop-k : goal.invariant-loop-k
invariant-loop-k l = MarksMore (IsSentAmong l.code l.bodies l.k) l.fn.marks.items l.marks.items
