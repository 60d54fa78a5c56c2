-- What differs at an event: of the transaction that it ended, or of the form that it is of.
use Rattle.std.specs.Prelude.{ℕ, zero, suc, Bool, true, false, ◌&&◌, ◌==◌, ◌-◌, nat_lt, List, [], ◌∷◌, ◌++◌, length, drop, take, Option, Some, None, Result, Ok, Err, if◌then◌else◌}
use Rattle.txs_value_data.specs.Places.{nth, fault_at}
use Rattle.txs_value_data.specs.declared.fault.Fault.{Fault}
use Rattle.txs_value_data.specs.declared.fault.FaultKind.TheVariants.{AgentFailed}
use Rattle.txs_value_data.specs.declared.fault.Span.{Span}
use Rattle.txs_value_data.specs.declared.op.Callee.{Callee}
use Rattle.txs_value_data.specs.declared.op.Callee.TheVariants.{Core as CoreOp, Function}
use Rattle.txs_value_apply.specs.Core.{takes}
use Rattle.txs_value_cell.specs.Cells.{World}
use Rattle.txs_value_cell.specs.declared.action.Action.{Action}
use Rattle.txs_value_data.specs.declared.value.CellId.{CellId}
use Rattle.txs_value_data.specs.declared.value.CellKind.TheVariants.{Agent}
use Rattle.txs_value_data.specs.declared.value.Value.{Value}
use Rattle.txs_world_protocol.specs.Ask.{Writes, same_action, same_cell, same_new, same_value}
use Rattle.txs_world_protocol.specs.SeenEvent.{SeenEvent}
use Rattle.txs_world_protocol.specs.declared.event.Event.{Event}
use Rattle.txs_world_protocol.specs.declared.event.EventKind.{EventKind}
use Rattle.txs_world_protocol.specs.declared.event.EventKind.TheVariants.{Read, Commit, Retry, Fail, Refused, Send, SendRefused, Act, Swap, Broke}
use Rattle.txs_world_protocol.specs.declared.event.Outcome.{Outcome}
use Rattle.txs_world_protocol.specs.declared.event.Outcome.TheVariants.{Done, Failed}
use Rattle.txs_world_book.specs.Book.{first_failed, written, writes_to}
use Rattle.txs_world_book.specs.Served.{cells_of}
use Rattle.txs_world_book.specs.declared.cell.StoreCell.{StoreCell}
use Rattle.txs_frame.specs.Frame.{PlainTxFrame, sends_of_commit, set_writes}
use Rattle.txs_check.specs.Signatures.{is_pure_call}
use Rattle.txs_tree_meaning.specs.Known.{Known, known}
use Rattle.txs_tree_meaning.specs.Meaning.{Completion, Completes, Recurs, Faults, Retries, Waits, OutOfTurns, Invalid, Applies}
use Rattle.txs_tree_meaning.specs.Pure.{pure_meaning}
use Rattle.txs_tree_meaning.specs.Right.{is_wrong}
use Rattle.txs_tree_meaning.specs.Thread.{TxRun, ThreadState}
use Rattle.txs_tree_meaning.specs.Transaction.{commute_writes, merged}
use Rattle.txs_tree_meaning.specs.Tree.{PlainFunction, PlainProgram}
use Rattle.txs_theorem_runs.specs.Told.{Place}
use Rattle.txs_theorem_audit.specs.Audited.{PlainReport, books_of}
use Rattle.txs_theorem_audit.specs.Verdict.{held_by}
use Rattle.txs_audit_event.specs.Lines.{outcome_of}
use Rattle.txs_audit_event.specs.declared.asking.Faulted.{Faulted}
use Rattle.txs_audit_event.specs.declared.what.What.{What}
use Rattle.txs_audit_event.specs.declared.what.What.TheVariants as what

-- ---- what is supposed

-- the same event, as if it were of this kind and its transaction had these worlds at its read point and its view
abbrev pub supposed : SeenEvent → World → World → EventKind → SeenEvent
supposed e R Q kind = record { book = e.book; kind = kind; R = R; Q = Q; C = e.C }

-- The end of a transaction that was refused: a thread that has a `dosync` next faults at it there, and notes what its body did. Which places and which agent
-- the event names is not asked.
abbrev pub refusal : EventKind
refusal = Refused 0 0 (record { kind = Agent; number = 0 })

-- that of one that failed
abbrev pub failure : EventKind
failure = Fail 0 0

-- that of a swap whose callee faulted
abbrev pub break : EventKind
break = Broke 0

-- what a transaction did, if there is one
abbrev pub done_of : Option TxRun → Option PlainTxFrame
done_of None = None
done_of (Some x) = Some x.state.done

-- what the last of these transactions did
abbrev pub last_done : List TxRun → Option PlainTxFrame
last_done xs = done_of (nth xs (length xs - 1))

-- how a meaning faults that eats all events, and what the last transaction did that it notes
abbrev pub faulted : Completion ThreadState Value → Option Faulted
faulted (Completes v t) = None
faulted (Recurs vs t) = None
faulted (Faults f t) = if length t.todo == 0 then Some (record { fault = f; done = last_done t.txs }) else None
faulted (Retries t) = None
faulted (Waits t) = None
faulted (OutOfTurns t) = None
faulted Invalid = None

-- how something that means this faults where the event behind these were that one
abbrev pub faulted_at : (List SeenEvent → Completion ThreadState Value) → List SeenEvent → SeenEvent → Option Faulted
faulted_at m front e = faulted (m (front ++ e ∷ []))

-- the book that a meaning waits for
abbrev pub awaited : Completion ThreadState Value → Option ℕ
awaited (Completes v t) = None
awaited (Recurs vs t) = None
awaited (Faults f t) = None
awaited (Retries t) = None
awaited (Waits t) = t.asks
awaited (OutOfTurns t) = None
awaited Invalid = None

-- what there is, else another one
abbrev pub or_what : Option What → What → What
or_what None w = w
or_what (Some v) w = v

-- the same of another one that there may be
abbrev pub or_else : Option What → Option What → Option What
or_else None v = v
or_else (Some w) v = Some w

-- ---- what a commit wrote and sent

-- whether a callee is pure, and takes so many values
abbrev pub is_pure_callee : List Known → Callee → ℕ → Bool
is_pure_callee ks (CoreOp op) n = takes op n
is_pure_callee ks (Function f) n = is_pure_call ks f n

-- a callee on values, where it is pure
abbrev pub applied : ℕ → List PlainFunction → Applies (Unit {0})
applied n functions callee vs u = if is_pure_callee (known functions) callee (length vs) then pure_meaning n functions callee vs else Invalid

-- what a part gives, if it comes to its end
abbrev pub given : {A : Type 0} → Completion (Unit {0}) A → Option A
given (Completes a u) = Some a
given (Recurs vs u) = None
given (Faults f u) = None
given (Retries u) = None
given (Waits u) = None
given (OutOfTurns u) = None
given Invalid = None

-- the values that were set, and these behind them
abbrev pub with_sets : PlainTxFrame → Option Writes → Option Writes
with_sets w None = None
with_sets w (Some ws) = Some (merged (set_writes w) ws)

-- what a transaction writes at its commit, where each of its commutes gives a value on this world: the refs that it set, and those others that it commuted
abbrev pub writes_meant : ℕ → List PlainFunction → PlainTxFrame → World → Option Writes
writes_meant n functions w C = with_sets w (given (commute_writes (applied n functions) w C tt))

-- a write that is expected, against one of the same ref
abbrev pub changed_what : Span → CellId × Value → CellId × Value → Option What
changed_what span x y = if same_value x.1 y.1 then None else Some (what.Wrote x.0 (Some x.1) (Some y.1) span)

-- a write that is expected, against the one in its place
abbrev pub write_what : Span → CellId × Value → CellId × Value → Option What
write_what span x y =
    if same_cell x.0 y.0 then changed_what span x y
    else if nat_lt y.0.number x.0.number then Some (what.Wrote y.0 None (Some y.1) span)
    else Some (what.Wrote x.0 (Some x.1) None span)

-- the same where there is none in its place
abbrev pub place_what : Span → CellId × Value → Option (CellId × Value) → Option What
place_what span x None = Some (what.Wrote x.0 (Some x.1) None span)
place_what span x (Some y) = write_what span x y

-- a write behind all that are expected
abbrev pub rest_what : Span → Option (CellId × Value) → Option What
rest_what span None = None
rest_what span (Some y) = Some (what.Wrote y.0 None (Some y.1) span)

-- the first ref, by ascending number, that two commits give another value
abbrev pub wrote_what : Span → Writes → Writes → Option What
wrote_what span [] ys = rest_what span (nth ys 0)
wrote_what span (x ∷ xs) ys = or_else (place_what span x (nth ys 0)) (wrote_what span xs (drop 1 ys))

-- whether this is the action in its place, if there is one
abbrev pub is_sent_at : Action → Option Action → Bool
is_sent_at x None = false
is_sent_at x (Some y) = same_action x y

-- an action behind all that are expected
abbrev pub more_what : Span → ℕ → Option Action → Option What
more_what span n None = None
more_what span n (Some y) = Some (what.Sends n None (Some y) span)

-- the first action that is another one, from the n-th on
abbrev pub sent_what : Span → ℕ → List Action → List Action → Option What
sent_what span n [] ys = more_what span n (nth ys 0)
sent_what span n (x ∷ xs) ys = if is_sent_at x (nth ys 0) then sent_what span (suc n) xs (drop 1 ys) else Some (what.Sends n (Some x) (nth ys 0) span)

-- what differs of a commit that writes and sends this, where the text writes that and sends that
abbrev pub ended_what : Span → Option Writes → List Action → Writes → List Action → Option What
ended_what span None held ws sends = sent_what span 0 held sends
ended_what span (Some meant) held ws sends = or_else (wrote_what span meant ws) (sent_what span 0 held sends)

-- ---- what disturbed a transaction

-- the first of these refs that is written at index p or later
abbrev pub first_written : List Event → ℕ → List CellId → Option CellId
first_written done p [] = None
first_written done p (c ∷ cs) = if written c.number p done then Some c else first_written done p cs

-- the index of the first event that writes the cell with this number at index p or later; how many events there are where none does
abbrev pub writer_of : ℕ → ℕ → List Event → ℕ
writer_of k p [] = 0
writer_of k zero (e ∷ es) = if writes_to e.kind k then 0 else suc (writer_of k zero es)
writer_of k (suc p) (e ∷ es) = suc (writer_of k p es)

-- what disturbed a transaction that set this ref, or else ensured it, if there is one
abbrev pub by_what : List Event → ℕ → Span → Bool → Option CellId → Option What
by_what done p span set None = None
by_what done p span set (Some c) = Some (what.Disturbed c set (writer_of c.number p done) span)

-- what disturbed a transaction with this read point that did this: of the refs that it set first, and then of those that it ensured
abbrev pub disturbed_what : List Event → ℕ → Span → PlainTxFrame → Option What
disturbed_what done p span w = or_else (by_what done p span true (first_written done p w.sets)) (by_what done p span false (first_written done p w.ensures))

-- ---- an event

-- what is supposed of something that means this, behind these events: what the form that is next gives where the event is another one, and what the body of a
-- `dosync` did, which is then noted last
pub record Asked : Type 0 where
  pub means : List SeenEvent → Completion ThreadState Value
  -- the sends that it holds: none of a thread's
  pub held : Option (List Action)
  pub front : List SeenEvent
  pub event : SeenEvent

-- how it faults where the event were of this kind
abbrev pub asked_on : Asked → World → World → EventKind → Option Faulted
asked_on x R Q kind = faulted_at x.means x.front (supposed x.event R Q kind)

-- another event is next
abbrev pub other_what : Asked → What
other_what x = what.Event (awaited (x.means x.front))

-- the text faults so, or another event is next
abbrev pub fault_what : Asked → Option Faulted → What
fault_what x None = other_what x
fault_what x (Some f) = what.Faults f.fault

-- a `dosync` is next, or another event
abbrev pub dosync_what : Asked → Option Faulted → What
dosync_what x None = other_what x
dosync_what x (Some f) = what.Dosync f.fault.span

-- what differs of a commit, by what its transaction did; how it may have failed is handed in
abbrev pub commit_run : PlainProgram → ℕ → Asked → Writes → List Action → Span → Option PlainTxFrame → What
commit_run p n x ws sends span None = other_what x
commit_run p n x ws sends span (Some w) = or_what (ended_what span (writes_meant n p.functions w x.event.C) (sends_of_commit x.held w.sends) ws sends) (other_what x)

abbrev pub commit_what : PlainProgram → ℕ → Asked → Writes → List Action → Option Faulted → What
commit_what p n x ws sends None = fault_what x (asked_on x x.event.R x.event.C failure)
commit_what p n x ws sends (Some f) = commit_run p n x ws sends f.fault.span f.done

-- a failure of a `dosync` that doesn't fault
abbrev pub fail_what : Asked → Option Faulted → What
fail_what x None = other_what x
fail_what x (Some f) = what.NoFault f.fault.span

-- a retry without its cause
abbrev pub cause_what : Asked → CellId → Option Faulted → What
cause_what x c None = fault_what x (asked_on x x.event.R x.event.Q failure)
cause_what x c (Some f) = what.Cause c f.fault.span

-- another action than the one that a `send` sends
abbrev pub send_what : Asked → Option Faulted → What
send_what x None = dosync_what x (asked_on x x.event.R x.event.Q refusal)
send_what x (Some f) = what.Sent f.fault.span

-- What differs at an event that isn't allowed. A commit's writes and sends, a failure or a retry are compared with what the `dosync` there did; of another event it is
-- told which form is next, where that is known.
abbrev pub wrong_what : PlainProgram → ℕ → Asked → EventKind → What
wrong_what p n x (Read c) = dosync_what x (asked_on x x.event.R x.event.Q refusal)
wrong_what p n x (Commit at view ws sends) = commit_what p n x ws sends (asked_on x x.event.R x.event.C refusal)
wrong_what p n x (Retry since c cause) = cause_what x c (asked_on x x.event.R x.event.Q refusal)
wrong_what p n x (Fail at view) = fail_what x (asked_on x x.event.R x.event.Q refusal)
wrong_what p n x (Refused at view g) = fault_what x (asked_on x x.event.R x.event.Q failure)
wrong_what p n x (Send a) = send_what x (asked_on x x.event.R x.event.Q (SendRefused a.agent))
wrong_what p n x (SendRefused g) = dosync_what x (asked_on x x.event.R x.event.Q refusal)
wrong_what p n x (Act g number new sends) = other_what x
wrong_what p n x (Swap new) = fault_what x (asked_on x x.event.C x.event.C break)
wrong_what p n x (Broke at) = other_what x

-- what disturbed the transaction of a commit
abbrev pub committed_run : List Event → ℕ → Asked → Span → Option PlainTxFrame → What
committed_run done at x span None = other_what x
committed_run done at x span (Some w) = or_what (disturbed_what done at span w) (other_what x)

-- that of a refusal, or that another agent had failed first
abbrev pub refused_run : List StoreCell → List Event → ℕ → CellId → Asked → Span → Option PlainTxFrame → What
refused_run cells done at g x span None = other_what x
refused_run cells done at g x span (Some w) = or_what (disturbed_what done at span w) (what.Refusal (first_failed cells done w.sends) g span)

abbrev pub committed_what : List Event → ℕ → Asked → Option Faulted → What
committed_what done at x None = other_what x
committed_what done at x (Some f) = committed_run done at x f.fault.span f.done

abbrev pub refused_what : List StoreCell → List Event → ℕ → CellId → Asked → Option Faulted → What
refused_what cells done at g x None = other_what x
refused_what cells done at g x (Some f) = refused_run cells done at g x f.fault.span f.done

-- What differs at an event that is allowed, behind these events of its book: its transaction was disturbed.
abbrev pub calm_what : List StoreCell → List Event → Asked → EventKind → What
calm_what cells done x (Commit at view ws sends) = committed_what done at x (asked_on x x.event.R x.event.C refusal)
calm_what cells done x (Refused at view g) = refused_what cells done at g x (asked_on x x.event.R x.event.Q refusal)
calm_what cells done x (Read c) = other_what x
calm_what cells done x (Retry since c cause) = other_what x
calm_what cells done x (Fail at view) = other_what x
calm_what cells done x (Send a) = other_what x
calm_what cells done x (SendRefused g) = other_what x
calm_what cells done x (Act g number new sends) = other_what x
calm_what cells done x (Swap new) = other_what x
calm_what cells done x (Broke at) = other_what x

-- the same of the event at a place, if there is one
abbrev pub calm_at : List StoreCell → List Event → Asked → Option Event → What
calm_at cells done x None = other_what x
calm_at cells done x (Some e) = calm_what cells done x e.kind

-- what differs at an event that is allowed: the text was over before it, or its transaction was disturbed
abbrev pub late_what : List StoreCell → List Event → Asked → Option Event → Option Outcome → What
late_what cells done x e None = calm_at cells done x e
late_what cells done x e (Some o) = what.Over o

-- what differs at an event that stands behind these in its book
abbrev pub asked_what : PlainProgram → ℕ → List Event → Option Event → Asked → What
asked_what p n done e x =
    if is_wrong (x.means (x.front ++ x.event ∷ [])) then wrong_what p n x x.event.kind
    else late_what (cells_of p.cells) done x e (outcome_of (x.means x.front))

-- what differs at the event at index i of these, which is at a place of the books
abbrev pub event_what : PlainProgram → PlainReport → ℕ → (List SeenEvent → Completion ThreadState Value) → Option (List Action) → List SeenEvent → ℕ → SeenEvent → Place → What
event_what p r n m held es i e q =
    asked_what p n (take q.at (books_of r q.book)) (nth (books_of r q.book) q.at) (record { means = m; held = held; front = take i es; event = e })

-- ---- what an action came to

-- what differs of what an action came to, where the text gives this and sends that; its `send` is at this place
abbrev pub booked_what : Span → Result Value Fault → List Action → Result Value Fault → List Action → What
booked_what span meant held new sends = if same_new meant new then or_what (sent_what span 0 held sends) (what.Event None) else what.Gave meant new

-- the same of a value, by the first agent of its sends that had failed
abbrev pub valued_what : Option CellId → Span → Value → List Action → Result Value Fault → List Action → What
valued_what None span v held new sends = booked_what span (Ok v) held new sends
valued_what (Some g) span v held new sends = booked_what span (Err (fault_at AgentFailed span)) [] new sends

-- the same of an action that means this
abbrev pub gave_what : List StoreCell → List Event → Span → Result Value Fault → List Action → Completion ThreadState Value → What
gave_what cells done span new sends (Completes v t) = valued_what (first_failed cells done (held_by t)) span v (held_by t) new sends
gave_what cells done span new sends (Recurs vs t) = what.Event None
gave_what cells done span new sends (Faults f t) = booked_what span (Err f) [] new sends
gave_what cells done span new sends (Retries t) = what.Event None
gave_what cells done span new sends (Waits t) = what.Unfinished
gave_what cells done span new sends (OutOfTurns t) = what.Event None
gave_what cells done span new sends Invalid = what.Event None
