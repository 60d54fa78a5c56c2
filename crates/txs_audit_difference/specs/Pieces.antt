-- What differs in a piece: in a thread, in an action of an agent that is over, or at an agent's end.
use Rattle.std.specs.Prelude.{ℕ, suc, Bool, ◌-◌, List, [], ◌∷◌, ◌++◌, length, take, drop, Option, Some, None, Result, if◌then◌else◌}
use Rattle.txs_value_data.specs.Places.{nth}
use Rattle.txs_value_data.specs.declared.fault.Fault.{Fault}
use Rattle.txs_value_data.specs.declared.fault.Span.{Span}
use Rattle.txs_value_cell.specs.Agents.{agents_from}
use Rattle.txs_value_cell.specs.declared.action.Action.{Action}
use Rattle.txs_value_data.specs.declared.value.CellId.{CellId}
use Rattle.txs_value_data.specs.declared.value.Value.{Value}
use Rattle.txs_world_protocol.specs.SeenEvent.{SeenEvent}
use Rattle.txs_world_protocol.specs.declared.event.Event.{Event}
use Rattle.txs_world_protocol.specs.declared.event.EventKind.{EventKind}
use Rattle.txs_world_protocol.specs.declared.event.EventKind.TheVariants.{Act}
use Rattle.txs_world_protocol.specs.declared.event.Outcome.{Outcome}
use Rattle.txs_world_book.specs.Book.{newest, opening}
use Rattle.txs_world_book.specs.Served.{cells_of}
use Rattle.txs_world.specs.Store.{next_action}
use Rattle.txs_tree_meaning.specs.Known.{known}
use Rattle.txs_tree_meaning.specs.Meaning.{Completion}
use Rattle.txs_tree_meaning.specs.Thread.{ThreadState, action_in, around_action}
use Rattle.txs_tree_meaning.specs.Tree.{PlainProgram}
use Rattle.txs_theorem_runs.specs.Told.{Place, seen_of}
use Rattle.txs_theorem_audit.specs.Audited.{PlainActorReport, PlainReport, books_of}
use Rattle.txs_theorem_audit.specs.Pieces.{Piece, OfThread, OfAct, OfEnd, acts_print, part_of}
use Rattle.txs_theorem_audit.specs.Verdict.{begins, is_full_stop, is_sent_call, is_stopped, least_of, printed_by}
use Rattle.txs_theorem_audit.specs.Evaluated.{means_on}
use Rattle.txs_audit_event.specs.Meant.{thread_means}
use Rattle.txs_audit_event.specs.Lines.{full_what, outcome_of, part_what, printed_what, stop_what}
use Rattle.txs_audit_event.specs.Transactions.{awaited, event_what, gave_what}
use Rattle.txs_audit_difference.specs.declared.told.Difference.{Difference}
use Rattle.txs_audit_event.specs.declared.what.What.{What}
use Rattle.txs_audit_event.specs.declared.what.What.TheVariants as what

-- what differs there, in no action
abbrev pub at_event : What → ℕ → ℕ → Difference
at_event w a i = record { actor = a; event = i; action = None; what = w }

-- what differs there, in an action with this span
abbrev pub in_action : Span → What → ℕ → ℕ → Difference
in_action span w a i = record { actor = a; event = i; action = Some span; what = w }

-- what differs at one of some events, where nth of them there is this event at this place, or behind them
abbrev pub at_or_behind : PlainProgram → PlainReport → ℕ → (List SeenEvent → Completion ThreadState Value) → Option (List Action) → List SeenEvent → ℕ → Option SeenEvent → Option Place → What → What
at_or_behind p r n m held es i (Some e) (Some q) behind = event_what p r n m held es i e q
at_or_behind p r n m held es i (Some e) None behind = what.Event None
at_or_behind p r n m held es i None o behind = behind

-- the same of the i-th event of a part of a trace
abbrev pub part_at : PlainProgram → PlainReport → ℕ → (List SeenEvent → Completion ThreadState Value) → Option (List Action) → List Place → ℕ → What → What
part_at p r n m held since i behind =
    at_or_behind p r n m held (seen_of p.cells (books_of r) since) i (nth (seen_of p.cells (books_of r) since) i) (nth since i) behind

-- ---- threads

-- what differs of a thread's end that means this
abbrev pub thread_end : PlainReport → (List SeenEvent → Completion ThreadState Value) → List SeenEvent → PlainActorReport → What
thread_end r m es ran = stop_what (books_of r) (outcome_of (m es)) (awaited (m es)) (printed_by (m es)) (least_of m es) ran

-- what differs in a thread at the i-th of its events, or behind them
abbrev pub thread_what : PlainProgram → PlainReport → ℕ → (List SeenEvent → Completion ThreadState Value) → ℕ → Option PlainActorReport → What
thread_what p r n m i None = what.Event None
thread_what p r n m i (Some ran) = part_at p r n m None ran.trace i (thread_end r m (seen_of p.cells (books_of r) ran.trace) ran)

-- ---- actions

-- the state of an agent after these events of the store's book
abbrev pub state_after : PlainProgram → List Event → CellId → Value
state_after p done g = newest (opening (cells_of p.cells)) done g.number

-- what an action means on this state, before the agent's validator looks at its value
abbrev pub unvalidated : PlainProgram → ℕ → Action → Value → List SeenEvent → Completion ThreadState Value
unvalidated p n x v es = action_in (around_action p.cells p.functions n) x.callee x.span (v ∷ x.args) es

-- what differs in an action on this state, whose events are these, at the i-th of them, or behind them
abbrev pub action_what : PlainProgram → PlainReport → ℕ → Action → Value → List Place → ℕ → What → What
action_what p r n x v since i behind = part_at p r n (unvalidated p n x v) (Some []) since i behind

-- what differs of an action that may be sent, and of another one
abbrev pub sent_action : PlainProgram → Action → What → What
sent_action p x w = if is_sent_call (known p.functions) x.callee (suc (length x.args)) then w else what.Event None

-- what differs of what an action came to
abbrev pub came_what : PlainProgram → PlainReport → ℕ → List Event → Action → Value → List Place → Result Value Fault → List Action → What
came_what p r n done x v since new sends = gave_what (cells_of p.cells) done x.span new sends (means_on p n x v (seen_of p.cells (books_of r) since))

-- what differs in an action that is over with an act, at the i-th event of its part of the trace, or at the act
abbrev pub acted_what : PlainProgram → PlainReport → ℕ → List Event → Action → Value → List Place → ℕ → Result Value Fault → List Action → What
acted_what p r n done x v since i new sends = action_what p r n x v since i (came_what p r n done x v since new sends)

abbrev pub over_what : PlainProgram → PlainReport → ℕ → ℕ → ℕ → ℕ → List Event → CellId → List Place → Result Value Fault → List Action → Option Action → Difference
over_what p r n a j i done g since new sends None = at_event (what.Event None) a j
over_what p r n a j i done g since new sends (Some x) = in_action x.span (sent_action p x (acted_what p r n done x (state_after p done g) since i new sends)) a j

abbrev pub kind_what : PlainProgram → PlainReport → ℕ → ℕ → ℕ → List Place → ℕ → Place → EventKind → Difference
kind_what p r n a j since k q (Act g number new sends) =
    over_what p r n a j (j - (k - length since)) (take q.at (books_of r q.book)) g since new sends (next_action (cells_of p.cells) (take q.at (books_of r q.book)) g)
kind_what p r n a j since k q kind = at_event (what.Event None) a j

abbrev pub act_what : PlainProgram → PlainReport → ℕ → ℕ → ℕ → List Place → ℕ → Place → Option Event → Difference
act_what p r n a j since k q None = at_event (what.Event None) a j
act_what p r n a j since k q (Some e) = kind_what p r n a j since k q e.kind

abbrev pub act_what_at : PlainProgram → PlainReport → ℕ → ℕ → ℕ → ℕ → ℕ → PlainActorReport → Option Place → Difference
act_what_at p r n a j i k ran None = at_event (what.Event None) a j
act_what_at p r n a j i k ran (Some q) = act_what p r n a j (part_of i k ran.trace) k q (nth (books_of r q.book) q.at)

abbrev pub act_what_in : PlainProgram → PlainReport → ℕ → ℕ → ℕ → ℕ → ℕ → Option PlainActorReport → Difference
act_what_in p r n a j i k None = at_event (what.Event None) a j
act_what_in p r n a j i k (Some ran) = act_what_at p r n a j i k ran (nth ran.trace k)

-- ---- ends

-- what differs of what an action printed that isn't over, where the actions before it printed this
abbrev pub still_printed : PlainProgram → PlainReport → ℕ → Action → Value → List Place → List ℕ → List ℕ → What
still_printed p r n x v since outs out =
    part_what (outs ++ printed_by (means_on p n x v (seen_of p.cells (books_of r) since))) (outs ++ least_of (means_on p n x v) (seen_of p.cells (books_of r) since)) out

-- the book of the event that something needs next that ends so, or waits for an event of this book: an action that is over needs its act
abbrev pub needed_by : Option Outcome → Option ℕ → Option ℕ
needed_by None asks = asks
needed_by (Some o) asks = Some 0

-- the same of an action that means this
abbrev pub needed_of : Completion ThreadState Value → Option ℕ
needed_of c = needed_by (outcome_of c) (awaited c)

-- what differs of a stop for a full book
abbrev pub still_full : PlainProgram → PlainReport → ℕ → Action → Value → List Place → List ℕ → List ℕ → What
still_full p r n x v since outs out =
    full_what (books_of r) (needed_of (unvalidated p n x v (seen_of p.cells (books_of r) since))) (outs ++ printed_by (means_on p n x v (seen_of p.cells (books_of r) since))) out

-- what differs behind the events of an action that isn't over, by whether its agent's actor was stopped for a full book
abbrev pub still_behind : PlainProgram → PlainReport → ℕ → Bool → Action → Value → List Place → List ℕ → List ℕ → What
still_behind p r n full x v since outs out = if full then still_full p r n x v since outs out else still_printed p r n x v since outs out

-- what differs in an action that isn't over, at the i-th of its events, or behind them
abbrev pub waiting_what : PlainProgram → PlainReport → ℕ → Bool → Action → Value → List Place → ℕ → List ℕ → List ℕ → What
waiting_what p r n full x v since i outs out = action_what p r n x v since i (still_behind p r n full x v since outs out)

abbrev pub still_what : PlainProgram → PlainReport → ℕ → Bool → ℕ → ℕ → ℕ → CellId → List Place → List ℕ → List ℕ → Option Action → Difference
still_what p r n full a j i g since outs out None = at_event what.Idle a j
still_what p r n full a j i g since outs out (Some x) = in_action x.span (sent_action p x (waiting_what p r n full x (state_after p r.book g) since i outs out)) a j

-- what differs at an agent's end: the actor ended, it printed other than its actions, or it did so in the first action that waits
abbrev pub end_of_agent : PlainProgram → PlainReport → ℕ → ℕ → ℕ → CellId → List Place → List ℕ → PlainActorReport → Difference
end_of_agent p r n a j g since outs ran =
    if is_stopped ran.outcome
    then (if begins outs ran.printed
    then still_what p r n (is_full_stop ran.outcome) a j (j - (length ran.trace - length since)) g since outs ran.printed (next_action (cells_of p.cells) r.book g)
    else at_event (printed_what outs ran.printed) a j)
    else at_event (what.Ended None ran.outcome) a j

abbrev pub end_what_in : PlainProgram → PlainReport → ℕ → ℕ → ℕ → ℕ → Option CellId → Option PlainActorReport → Difference
end_what_in p r n a j i None o = at_event (what.Event None) a j
end_what_in p r n a j i (Some g) None = at_event (what.Event None) a j
end_what_in p r n a j i (Some g) (Some ran) = end_of_agent p r n a j g (drop i ran.trace) (acts_print p r n [] ran.trace) ran

-- ---- all pieces

-- what differs in a piece of which an audit finds that it is off at event j of actor a
abbrev pub piece_what : PlainProgram → PlainReport → ℕ → Piece → ℕ → ℕ → Difference
piece_what p r n (OfThread i) a j = at_event (thread_what p r n (thread_means p n (nth p.threads i)) j (nth r.threads i)) a j
piece_what p r n (OfAct i from at) a j = act_what_in p r n a j from at (nth r.agents i)
piece_what p r n (OfEnd i from) a j = end_what_in p r n a j from (nth (agents_from 0 p.cells) i) (nth r.agents i)
