-- What an actor and the shared state say to each other, and what each such exchange leaves of the actor's state.
use Rattle.std.specs.Prelude.{ℕ, Bool, true, false, List, [], ◌∷◌, ◌++◌, Option, Some, None, Result, Ok, Err, if◌then◌else◌}
use Rattle.txs_world_protocol.specs.Ask.{Writes, buffered, Exchange, same_ask}
use Rattle.txs_world_protocol.specs.declared.ask.Ask.{Ask}
use Rattle.txs_world_protocol.specs.declared.ask.Ask.TheVariants as ask
use Rattle.txs_world_protocol.specs.declared.ask.Reply.{Reply}
use Rattle.txs_world_protocol.specs.declared.ask.Reply.TheVariants as reply
use Rattle.txs_frame.specs.Frame.{PlainTxFrame, empty_frame, commuted, set_writes, set_ref, ensure_ref, commute_ref, hold_send, sends_of_commit}
use Rattle.txs_frame.specs.declared.frame.Commute.{Commute}
use Rattle.txs_value_cell.specs.Forms.{rule, cell_of}
use Rattle.txs_value_data.specs.Places.{fault_at}
use Rattle.txs_value_data.specs.Printed.{printed_line}
use Rattle.txs_value_cell.specs.declared.action.Action.{Action}
use Rattle.txs_value_data.specs.declared.fault.Fault.{Fault}
use Rattle.txs_value_data.specs.declared.fault.FaultKind.{FaultKind}
use Rattle.txs_value_data.specs.declared.fault.FaultKind.TheVariants.{AgentFailed}
use Rattle.txs_value_data.specs.declared.fault.Span.{Span}
use Rattle.txs_value_cell.specs.declared.form.CellForm.{CellForm}
use Rattle.txs_value_cell.specs.declared.form.CellForm.TheVariants as form
use Rattle.txs_value_cell.specs.declared.form.LookForm.{LookForm}
use Rattle.txs_value_cell.specs.declared.form.LookForm.TheVariants.{Deref, Ensure}
use Rattle.txs_value_cell.specs.declared.form.PutForm.{PutForm}
use Rattle.txs_value_cell.specs.declared.form.PutForm.TheVariants.{RefSet, Reset}
use Rattle.txs_value_cell.specs.declared.form.UpdateForm.{UpdateForm}
use Rattle.txs_value_cell.specs.declared.form.UpdateForm.TheVariants as update
use Rattle.txs_value_data.specs.declared.op.Callee.{Callee}
use Rattle.txs_value_data.specs.declared.value.CellId.{CellId}
use Rattle.txs_value_data.specs.declared.value.Value.{Value}
use Rattle.txs_value_data.specs.declared.value.Value.TheVariants.{Nil, Cell}

-- an action that runs: its agent, the action, the sends that it holds, and the fault that it is over with, where that is yet to be handed in
pub record InHand : Type 0 where
  pub agent : CellId
  pub action : Action
  pub sends : List Action
  pub fault : Option Fault

-- the sends that are held, in an action
abbrev pub held_in : Option InHand → Option (List Action)
held_in None = None
held_in (Some h) = Some h.sends

-- these sends are held too, in an action
abbrev pub now_holding : List Action → Option InHand → Option InHand
now_holding sends None = None
now_holding sends (Some h) = Some (record h { sends = h.sends ++ sends })

-- An actor's state but for its code: the exchanges to come, the bytes that it has printed, its transaction's read point, the place
-- of its last view (the read point where there is none), what the transaction has done, and the commute that is open.
pub record ActorState : Type 0 where
  pub todo : List Exchange
  pub printed : List ℕ
  pub at : ℕ
  pub view : ℕ
  pub done : PlainTxFrame
  pub commuting : Option Commute
  -- the action that an agent runs
  pub acting : Option InHand
  -- whether the validator that was applied last accepts its value, until that is looked at
  pub accepted : Option Bool
  -- the ask that has no answer yet
  pub wants : Option Ask

-- an ask's answer, or none (no exchange is left, or the next one is of another ask)
pub data Reception : Type 0 where
  Replied : (r : Reply) (s : ActorState) → Reception
  Unreplied : (s : ActorState) → Reception

-- the ask takes the first exchange to come, if that is of the same ask; else the actor waits with it
abbrev pub receives : Ask → ActorState → List Exchange → Reception
receives a s [] = Unreplied (record s { wants = Some a })
receives a s (x ∷ xs) = if same_ask a x.ask then Replied x.reply (record s { todo = xs }) else Unreplied (record s { wants = Some a })

-- an ask of the shared state
unfoldable pub asks : Ask → ActorState → Reception
asks a s = receives a s s.todo

-- what a step gives
pub data StepResult (A : Type 0) : Type 0 where
  Continue : (a : A) (s : ActorState) → StepResult A
  Break : (f : Fault) (s : ActorState) → StepResult A
  -- the transaction has to run again
  Redo : (s : ActorState) → StepResult A
  -- an ask has no answer yet
  Await : (s : ActorState) → StepResult A
  -- an unlawful reply, or a form where it may not stand
  Malformed : StepResult A

-- continues with what a step gave
abbrev pub on_step : {A B : Type 0} → StepResult A → (A → ActorState → StepResult B) → StepResult B
on_step (Continue a s) go = go a s
on_step (Break f s) go = Break f s
on_step (Redo s) go = Redo s
on_step (Await s) go = Await s
on_step Malformed go = Malformed

-- a value, or a fault at this span
abbrev pub step_of : {A : Type 0} → Result A FaultKind → Span → ActorState → StepResult A
step_of (Ok a) span s = Continue a s
step_of (Err k) span s = Break (fault_at k span) s

-- ---- how replies are read

-- what a reply says to who asked: an answer, that the transaction has to run again, or nothing that goes with the ask
pub data Reading (A : Type 0) : Type 0 where
  Says : (a : A) → Reading A
  SaysRetry : Reading A
  SaysNothing : Reading A

-- a reading as a step
abbrev pub read_as : {A : Type 0} → Reading A → ActorState → StepResult A
read_as (Says a) s = Continue a s
read_as SaysRetry s = Redo s
read_as SaysNothing s = Malformed

-- what was received, read in this way
abbrev pub heard : {A : Type 0} → (Reply → Reading A) → Reception → StepResult A
heard reads (Replied r s) = read_as (reads r) s
heard reads (Unreplied s) = Await s

-- the read point of a transaction that begins
abbrev pub read_point : Reply → Reading ℕ
read_point (reply.At p) = Says p
read_point _ = SaysNothing

-- an ask that is only done
abbrev pub just_done : Reply → Reading (Unit {0})
just_done reply.Done = Says tt
just_done _ = SaysNothing

-- a ref's value at the read point, or the transaction has to run again
abbrev pub value_there : Reply → Reading Value
value_there (reply.Is v) = Says v
value_there (reply.Retry c) = SaysRetry
value_there _ = SaysNothing

-- a cell's newest value
abbrev pub newest_value : Reply → Reading Value
newest_value (reply.Is v) = Says v
newest_value _ = SaysNothing

-- the place of a view, and the values there
abbrev pub views : Reply → Reading (ℕ × List Value)
views (reply.Views q vs) = Says (q, vs)
views _ = SaysNothing

-- how an end is answered: it is done, a cell changed since it was viewed, the transaction has to run again, or an agent has failed
pub data Verdict : Type 0 where
  Landed Outdated Undone Denied : Verdict

-- how a commit is answered
abbrev pub commit_verdict : Reply → Reading Verdict
commit_verdict reply.Done = Says Landed
commit_verdict (reply.Changed c) = Says Outdated
commit_verdict (reply.Retry c) = Says Undone
commit_verdict (reply.AgentIsFailed g) = Says Denied
commit_verdict _ = SaysNothing

-- an atom's place and its value there
abbrev pub opened : Reply → Reading (ℕ × Value)
opened (reply.Opened p v) = Says (p, v)
opened _ = SaysNothing

-- how the end of a swap is answered
abbrev pub swap_verdict : Reply → Reading Verdict
swap_verdict reply.Done = Says Landed
swap_verdict (reply.Changed c) = Says Outdated
swap_verdict _ = SaysNothing

-- how a send is answered
abbrev pub send_verdict : Reply → Reading Verdict
send_verdict reply.Done = Says Landed
send_verdict (reply.AgentIsFailed g) = Says Denied
send_verdict _ = SaysNothing

-- an action that was taken, with the agent's state
pub record Taken : Type 0 where
  pub action : Action
  pub state : Value

-- the action that was handed out, or none
abbrev pub handed_out : Reply → Reading (Option Taken)
handed_out (reply.Action n a v) = Says (Some (record { action = a; state = v }))
handed_out reply.Idle = Says None
handed_out _ = SaysNothing

-- ---- transactions

-- the transaction begins at this read point, and has done nothing
abbrev pub begun : ℕ → ActorState → StepResult (Unit {0})
begun p s = Continue tt (record s { at = p; view = p; done = empty_frame; commuting = None })

-- a transaction begins
unfoldable pub begin : ActorState → StepResult (Unit {0})
begin s = on_step (heard read_point (asks ask.Begin s)) begun

-- a transaction ends with a fault
unfoldable pub fail : ActorState → StepResult (Unit {0})
fail s = heard just_done (asks (ask.Fail s.at s.view) s)

-- the transaction's own value, if it has one, else what the store answers
abbrev pub buffered_or : Option Value → ActorState → StepResult Value → StepResult Value
buffered_or (Some v) s r = Continue v s
buffered_or None s r = r

-- a ref's value in a transaction: its own, else what the store answers
unfoldable pub look : CellId → ActorState → StepResult Value
look c s = buffered_or (buffered s.done.values c.number) s (heard value_there (asks (ask.Look c s.at) s))

-- one more cell with its value
abbrev pub with_first : CellId → Value → Option Writes → Option Writes
with_first c v None = None
with_first c v (Some ws) = Some ((c, v) ∷ ws)

-- cells with the values that were answered for them, one each
abbrev pub paired : List CellId → List Value → Option Writes
paired [] [] = Some []
paired (c ∷ cs) (v ∷ vs) = with_first c v (paired cs vs)
paired _ _ = None

-- the viewed values, at the place of the view, where there is one for each cell that was asked
abbrev pub viewed : ℕ → Option Writes → ActorState → StepResult Writes
viewed q None s = Malformed
viewed q (Some ws) s = Continue ws (record s { view = q })

-- the newest values of some refs
abbrev pub view_of : List CellId → ActorState → StepResult Writes
view_of cs s = on_step (heard views (asks (ask.View cs) s)) (λ x s1. viewed x.0 (paired cs x.1) s1)

-- the commute phase begins: the newest values of the refs that were commuted and not set
unfoldable pub view : ActorState → StepResult Writes
view s = view_of (commuted s.done) s

-- these sends are held, in an action
abbrev pub holding : List Action → ActorState → ActorState
holding sends s = record s { acting = now_holding sends s.acting }

-- what a transaction leaves that committed: an action holds its sends
abbrev pub landed : Verdict → ActorState → StepResult Verdict
landed Landed s = Continue Landed (holding s.done.sends s)
landed Outdated s = Continue Outdated s
landed Undone s = Continue Undone s
landed Denied s = Continue Denied s

-- a transaction ends, with these values of the refs that were commuted and not set
unfoldable pub commit : Writes → ActorState → StepResult Verdict
commit ws s =
    on_step (heard commit_verdict (asks (ask.Commit s.at (set_writes s.done) s.done.ensures s.view ws (sends_of_commit (held_in s.acting) s.done.sends)) s)) landed

-- ---- outside transactions

-- a cell's newest value
unfoldable pub peek : CellId → ActorState → StepResult Value
peek c s = heard newest_value (asks (ask.Peek c) s)

-- a swap that is applied: its atom, and the place in the atom's book that it was opened at
pub record SwapInHand : Type 0 where
  pub cell : CellId
  pub at : ℕ

-- a swap begins with the value of this atom
unfoldable pub open_atom : CellId → ActorState → StepResult (SwapInHand × Value)
open_atom c s = on_step (heard opened (asks (ask.OpenAt c) s)) (λ x s1. Continue (record { cell = c; at = x.0 }, x.1) s1)

-- a swap ends with the atom's new value, unless the atom changed since
unfoldable pub close_swap : SwapInHand → Value → ActorState → StepResult Verdict
close_swap w v s = heard swap_verdict (asks (ask.CloseAt w.cell (Some w.at) v) s)

-- a swap ends with a fault
unfoldable pub break_swap : SwapInHand → ActorState → StepResult (Unit {0})
break_swap w s = heard just_done (asks (ask.Broke w.cell w.at) s)

-- an atom gets a value
unfoldable pub reset_atom : CellId → Value → ActorState → StepResult Value
reset_atom c v s = on_step (heard just_done (asks (ask.CloseAt c None v) s)) (λ u s1. Continue v s1)

-- the agent, where the action is sent; a refusal is a fault
abbrev pub sent : Action → Verdict → ActorState → StepResult Value
sent a Landed s = Continue (Cell a.agent) s
sent a Outdated s = Malformed
sent a Undone s = Malformed
sent a Denied s = Break (fault_at AgentFailed a.span) s

-- an action is sent
unfoldable pub send_now : Action → ActorState → StepResult Value
send_now a s = on_step (heard send_verdict (asks (ask.Send a) s)) (sent a)

-- ---- agents

-- an agent takes the first action of its mailbox, if there is one
unfoldable pub take_action : CellId → ActorState → StepResult (Option Taken)
take_action g s = heard handed_out (asks (ask.Take g) s)

-- an action was handed in, also where an agent of its sends had failed
abbrev pub taken_back : Reply → Reading (Unit {0})
taken_back reply.Done = Says tt
taken_back (reply.AgentIsFailed g) = Says tt
taken_back _ = SaysNothing

-- an agent's action ends, with the new state and its sends, or a fault
unfoldable pub finish : CellId → Result Value Fault → List Action → ActorState → StepResult (Unit {0})
finish g new sends s = heard taken_back (asks (ask.Finish g new sends) s)

-- ---- the forms, inside a transaction and outside

-- the cell that a form takes of a value, or its fault
abbrev pub cell_at : CellForm → Bool → Span → Value → ActorState → StepResult CellId
cell_at f inside span v s = step_of (cell_of (rule f) inside v) span s

-- what reads a cell, by form and place
abbrev pub read_cell : LookForm → Bool → CellId → ActorState → StepResult Value
-- in a transaction the ref's value there, outside the newest one
read_cell Deref true c s = look c s
read_cell Deref false c s = peek c s
-- the ref is kept from change by others, once it is read
read_cell Ensure true c s = on_step (look c s) (λ v s1. Continue v (record s1 { done = ensure_ref c s1.done }))
read_cell Ensure false c s = Malformed

-- `deref` and `ensure`
abbrev pub read : LookForm → Bool → Span → Value → ActorState → StepResult Value
read f inside span v s = on_step (cell_at (form.Look f) inside span v s) (read_cell f inside)

-- a ref is set, unless it was commuted
abbrev pub set_own : Span → Value → CellId → ActorState → StepResult Value
set_own span v c s = on_step (step_of (set_ref c v s.done) span s) (λ w s1. Continue v (record s1 { done = w }))

-- what puts a value, by form and place
abbrev pub assign_cell : PutForm → Bool → Span → Value → CellId → ActorState → StepResult Value
assign_cell RefSet true span v c s = set_own span v c s
assign_cell RefSet false span v c s = Malformed
assign_cell Reset false span v c s = reset_atom c v s
assign_cell Reset true span v c s = Malformed

-- `ref-set` and `reset!`
abbrev pub assign : PutForm → Bool → Span → Value → Value → ActorState → StepResult Value
assign f inside span c v s = on_step (cell_at (form.Put f) inside span c s) (assign_cell f inside span v)

-- the updates that a transaction makes
pub data RefUpdate : Type 0 where
  Alters : RefUpdate
  Commutes : (callee : Callee) → RefUpdate

-- the form that an update is
abbrev pub update_form : RefUpdate → UpdateForm
update_form Alters = update.Alter
update_form (Commutes callee) = update.Commute

-- what is kept of an update while its callee is applied
abbrev pub kept_open : RefUpdate → CellId → List Value → Option Commute
kept_open Alters c vs = None
kept_open (Commutes callee) c vs = Some (record { cell = c; callee = callee; args = vs })

-- `alter` and `commute` up to the ref's value
abbrev pub open_update : RefUpdate → Bool → Span → Value → List Value → ActorState → StepResult Value
open_update u false span v vs s = Malformed
open_update u true span v vs s =
    on_step (cell_at (form.Update (update_form u)) true span v s) (λ c s1. on_step (look c s1) (λ x s2. Continue x (record s2 { commuting = kept_open u c vs })))

-- a ref is set, or the commute that was open is kept
abbrev pub close_own : Option Commute → Span → Value → CellId → ActorState → StepResult Value
close_own None span w c s = set_own span w c s
close_own (Some o) span w c s = Continue w (record s { done = commute_ref c o.callee o.args w s.done; commuting = None })

-- `alter` and `commute` with what the callee gave
abbrev pub close_update : Span → Value → Value → ActorState → StepResult Value
close_update span v w s = on_step (cell_at (form.Update update.Alter) true span v s) (close_own s.commuting span w)

-- `swap!` up to the atom's value
abbrev pub open_swap : Bool → Span → Value → ActorState → StepResult (SwapInHand × Value)
open_swap true span v s = Malformed
open_swap false span v s = on_step (cell_at (form.Update update.Swap) false span v s) open_atom

-- a send outside every transaction: a thread's is made, an action's is held
abbrev pub send_or_hold : Option InHand → Action → ActorState → StepResult Value
send_or_hold None a s = send_now a s
send_or_hold (Some h) a s = Continue (Cell a.agent) (holding (a ∷ []) s)

-- a send, held or made
abbrev pub send_action : Bool → Action → ActorState → StepResult Value
-- a transaction holds it
send_action true a s = Continue (Cell a.agent) (record s { done = hold_send a s.done })
send_action false a s = send_or_hold s.acting a s

-- `send`
abbrev pub send_to : Bool → Span → Value → Callee → List Value → ActorState → StepResult Value
send_to inside span v callee vs s =
    on_step (cell_at form.Send inside span v s) (λ g s1. send_action inside (record { agent = g; callee = callee; args = vs; span = span }) s1)

-- a line is printed
unfoldable pub print : Bool → List Value → ActorState → StepResult Value
print true vs s = Malformed
print false vs s = Continue Nil (record s { printed = s.printed ++ printed_line vs })
