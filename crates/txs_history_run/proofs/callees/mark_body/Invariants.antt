use Rattle.txs_history_run.specs.Callees.{IsSentBefore, MarksMore}
use Rattle.txs_history_run.proofs.callees.mark_body.Given as goal

-- just what the marked places before send is marked besides
abbrev pub invariant-loop-at : goal.invariant-loop-at
invariant-loop-at l = MarksMore (IsSentBefore l.body.instrs l.places.items l.at) l.fn.marks.items l.marks.items
