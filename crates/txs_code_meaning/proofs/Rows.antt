-- Small code, run by computing on what the shared state answers. An exchange is taken only where its ask is the one that is made, so
-- each row says what is asked, and in which order.
use Rattle.std.proofs.Common.{◌≡◌, ℕ, pos, List, [], ◌∷◌, Option, Some, None, Ok, Err, length, refl}
use Rattle.txs_world_protocol.specs.Ask.{Exchange}
use Rattle.txs_world_protocol.specs.declared.ask.Ask.{Ask}
use Rattle.txs_world_protocol.specs.declared.ask.Ask.TheVariants as ask
use Rattle.txs_world_protocol.specs.declared.ask.Reply.{Reply}
use Rattle.txs_world_protocol.specs.declared.ask.Reply.TheVariants as reply
use Rattle.txs_value_apply.specs.Core.{core}
use Rattle.txs_value_data.specs.Limits.{reruns}
use Rattle.txs_value_data.specs.Places.{fault_at}
use Rattle.txs_value_data.specs.Printed.{printed_line}
use Rattle.txs_value_cell.specs.declared.action.Action.{Action}
use Rattle.txs_value_data.specs.declared.fault.Fault.{Fault}
use Rattle.txs_value_data.specs.declared.fault.FaultKind.TheVariants.{DivideByZero, SetAfterCommute, RetryLimit, AgentFailed}
use Rattle.txs_value_data.specs.declared.fault.Span.{Span}
use Rattle.txs_value_cell.specs.declared.form.LookForm.TheVariants.{Deref}
use Rattle.txs_value_cell.specs.declared.form.PutForm.TheVariants.{RefSet}
use Rattle.txs_value_cell.specs.declared.form.UpdateForm.TheVariants as update
use Rattle.txs_value_data.specs.declared.op.Callee.{Callee}
use Rattle.txs_value_data.specs.declared.op.Callee.TheVariants as callee
use Rattle.txs_value_data.specs.declared.op.Op.TheVariants.{Add, Inc, Quot}
use Rattle.txs_value_data.specs.declared.value.CellId.{CellId}
use Rattle.txs_value_data.specs.declared.value.CellKind.TheVariants as kind
use Rattle.txs_value_data.specs.declared.value.Value.{Value}
use Rattle.txs_value_data.specs.declared.value.Value.TheVariants.{Int, Cell}
use Rattle.txs_code_meaning.specs.declared.instr.OpenForm.TheVariants as open_form
use Rattle.txs_code_meaning.specs.ActorState.{ActorState, asks, begin, fail, look, view, commit, open_atom, close_swap, break_swap, send_now, take_action, finish, print}
use Rattle.txs_code_meaning.specs.Machine.{PlainInstr, Push, Load, Store, Pop, CoreOf, CallOf, Return, PrintOf, TxBegin, TxEnd, LookOf, PutOf, OpenOf, CloseOf, SendOf, Halt, PlainBody, ThreadCode, Restarting, Ended, Failed, Asking, Unfinished, Stuck, Outcome, run, exec}
use Rattle.txs_code_meaning.specs.Opening.{fresh, opening, target, agent_target}

-- ---- cells, values, code

abbrev r0 : CellId
r0 = record { kind = kind.Ref; number = 0 }

abbrev r1 : CellId
r1 = record { kind = kind.Ref; number = 1 }

abbrev a0 : CellId
a0 = record { kind = kind.Atom; number = 2 }

abbrev g0 : CellId
g0 = record { kind = kind.Agent; number = 3 }

abbrev int : ℕ → Value
int n = Int (pos n)

-- spans are told apart by where they begin
abbrev at : ℕ → Span
at k = record { from = k; to = 99 }

-- an ask, answered so
abbrev answered : Ask → Reply → Exchange
answered q r = record { ask = q; reply = r }

-- functions: the sum of two, one that divides by zero, and six by a number
abbrev adds : PlainBody
adds = record { locals = 2; instrs = Load 0 ∷ Load 1 ∷ CoreOf Add 2 (at 80) ∷ Return ∷ [] }

abbrev breaks : PlainBody
breaks = record { locals = 1; instrs = Load 0 ∷ Push (int 0) ∷ CoreOf Quot 2 (at 81) ∷ Return ∷ [] }

abbrev six_by : PlainBody
six_by = record { locals = 1; instrs = Push (int 6) ∷ Load 0 ∷ CoreOf Quot 2 (at 82) ∷ Return ∷ [] }

abbrev thread : ℕ → List PlainInstr → ThreadCode
thread locals instrs = record { functions = adds ∷ breaks ∷ six_by ∷ []; validators = []; main = record { locals = locals; instrs = instrs } }

-- how a run came out: whether it ended, with which fault, the bytes that it printed, how many exchanges are left, and the ask that has
-- no answer
pub record Result : Type 0 where
  pub fault : Option Fault
  pub printed : List ℕ
  pub left : ℕ
  pub wants : Option Ask

abbrev ended : Option Fault → ActorState → Option Result
ended f s = Some (record { fault = f; printed = s.printed; left = length s.todo; wants = s.wants })

abbrev result : Outcome → Option Result
result (Ended s) = ended None s
result (Failed f s) = ended (Some f) s
result (Asking s) = ended None s
result (Unfinished s) = None
result Stuck = None

-- all is done, and nothing is asked
abbrev done : List ℕ → Option Result
done printed = Some (record { fault = None; printed = printed; left = 0; wants = None })

-- a fault ended it
abbrev broken : Fault → Option Result
broken f = Some (record { fault = Some f; printed = []; left = 0; wants = None })

-- it waits with this ask
abbrev waiting : Ask → Option Result
waiting q = Some (record { fault = None; printed = []; left = 0; wants = Some q })

-- ---- the commute phase

-- two commutes of a ref, an operation and a function: the second one takes the transaction's own value
abbrev two_commutes : ThreadCode
two_commutes =
    thread 0 (
    TxBegin (at 1) ∷
    Push (Cell r0) ∷ OpenOf (open_form.Commute (callee.Core Inc)) 0 (at 2) ∷ CoreOf Inc 1 (at 2) ∷ CloseOf update.Commute (at 2) ∷ Pop ∷
    Push (Cell r0) ∷ Push (int 10) ∷ OpenOf (open_form.Commute (callee.Function 0)) 1 (at 3) ∷ CallOf 0 2 ∷ CloseOf update.Commute (at 3) ∷
    TxEnd ∷ PrintOf 1 ∷ Halt ∷ [])

-- The ref changes between the view and the commit: the commutes alone are made again, on the newer value. What the form gives is what the
-- transaction had.
commutes_again : result (target two_commutes 40 (
    answered ask.Begin (reply.At 0) ∷
    answered (ask.Look r0 0) (reply.Is (int 0)) ∷
    answered (ask.View (r0 ∷ [])) (reply.Views 1 (int 1 ∷ [])) ∷
    answered (ask.Commit 0 [] [] 1 ((r0, int 12) ∷ []) []) (reply.Changed r0) ∷
    answered (ask.View (r0 ∷ [])) (reply.Views 2 (int 5 ∷ [])) ∷
    answered (ask.Commit 0 [] [] 2 ((r0, int 16) ∷ []) []) reply.Done ∷ [])) ≡ done (printed_line (int 11 ∷ []))
unfolding asks begin look view commit print core reruns
commutes_again = refl

-- Two refs, of which the first is set as well: it has its own value, and is not viewed.
abbrev set_and_commuted : ThreadCode
set_and_commuted =
    thread 0 (
    TxBegin (at 1) ∷
    Push (Cell r0) ∷ Push (int 7) ∷ PutOf RefSet (at 2) ∷ Pop ∷
    Push (Cell r0) ∷ OpenOf (open_form.Commute (callee.Core Inc)) 0 (at 3) ∷ CoreOf Inc 1 (at 3) ∷ CloseOf update.Commute (at 3) ∷ Pop ∷
    Push (Cell r1) ∷ OpenOf (open_form.Commute (callee.Core Inc)) 0 (at 4) ∷ CoreOf Inc 1 (at 4) ∷ CloseOf update.Commute (at 4) ∷
    TxEnd ∷ Halt ∷ [])

set_is_not_viewed : result (target set_and_commuted 40 (
    answered ask.Begin (reply.At 3) ∷
    answered (ask.Look r1 3) (reply.Is (int 20)) ∷
    answered (ask.View (r1 ∷ [])) (reply.Views 4 (int 30 ∷ [])) ∷
    answered (ask.Commit 3 ((r0, int 8) ∷ []) [] 4 ((r1, int 31) ∷ []) []) reply.Done ∷ [])) ≡ done []
unfolding asks begin look view commit core reruns
set_is_not_viewed = refl

-- six by the number in the ref
abbrev divides : ThreadCode
divides = thread 0 (TxBegin (at 1) ∷ Push (Cell r0) ∷ OpenOf (open_form.Commute (callee.Function 2)) 0 (at 2) ∷ CallOf 2 1 ∷ CloseOf update.Commute (at 2) ∷ TxEnd ∷ Halt ∷ [])

-- the ref is zero at the view: the transaction ends with the fault, at that view
phase_faults : result (target divides 40 (
    answered ask.Begin (reply.At 0) ∷
    answered (ask.Look r0 0) (reply.Is (int 2)) ∷
    answered (ask.View (r0 ∷ [])) (reply.Views 1 (int 0 ∷ [])) ∷
    answered (ask.Fail 0 1) reply.Done ∷ [])) ≡ broken (fault_at DivideByZero (at 82))
unfolding asks begin look view fail core reruns
phase_faults = refl

-- `ref-set` after `commute` of one ref faults
abbrev commute_then_set : ThreadCode
commute_then_set =
    thread 0 (
    TxBegin (at 1) ∷
    Push (Cell r0) ∷ OpenOf (open_form.Commute (callee.Core Inc)) 0 (at 2) ∷ CoreOf Inc 1 (at 2) ∷ CloseOf update.Commute (at 2) ∷ Pop ∷
    Push (Cell r0) ∷ Push (int 7) ∷ PutOf RefSet (at 3) ∷ TxEnd ∷ Halt ∷ [])

set_after_commute : result (target commute_then_set 40 (
    answered ask.Begin (reply.At 0) ∷
    answered (ask.Look r0 0) (reply.Is (int 0)) ∷
    answered (ask.Fail 0 0) reply.Done ∷ [])) ≡ broken (fault_at SetAfterCommute (at 3))
unfolding asks begin look fail core reruns
set_after_commute = refl

-- ---- tries

-- It changes below the transaction's depth the stack, and a local, and then reads a ref: hand-made, since no tree has such code.
abbrev changes_below : ThreadCode
changes_below =
    thread 1 (
    Push (int 1) ∷ Store 0 ∷ Push (int 7) ∷
    TxBegin (at 1) ∷ Pop ∷ Push (int 2) ∷ Store 0 ∷ Push (Cell r0) ∷ LookOf Deref (at 2) ∷ TxEnd ∷
    Halt ∷ [])

abbrev no_longer_there : List Exchange
no_longer_there = answered ask.Begin (reply.At 4) ∷ answered (ask.Look r0 4) (reply.Retry r0) ∷ []

-- The transaction begins again with the stack and the locals that it began with, and one try less.
retry_restores : run changes_below 9 (opening changes_below no_longer_there) ≡ Unfinished (record {
  body = 0;
  place = 3;
  stack = int 7 ∷ [];
  locals = int 1 ∷ [];
  frames = [];
  doing = Restarting 9998;
  state = record (fresh []) { at = 4; view = 4 };
})
unfolding asks begin look reruns
retry_restores = refl

-- a commit that has to run again asks for a new read point
retry_begins_again : result (target changes_below 40 (
    answered ask.Begin (reply.At 4) ∷
    answered (ask.Look r0 4) (reply.Is (int 5)) ∷
    answered (ask.Commit 4 [] [] 4 [] []) (reply.Retry r0) ∷
    answered ask.Begin (reply.At 6) ∷
    answered (ask.Look r0 6) (reply.Is (int 8)) ∷
    answered (ask.Commit 6 [] [] 6 [] []) reply.Done ∷ [])) ≡ done []
unfolding asks begin look commit reruns
retry_begins_again = refl

-- where one more try is left: what runs again and what is changed count alike, and the last one is a fault with no further ask
limit : result (exec two_commutes 40 (record (opening two_commutes (
    answered ask.Begin (reply.At 0) ∷
    answered (ask.Look r0 0) (reply.Is (int 0)) ∷
    answered (ask.View (r0 ∷ [])) (reply.Views 0 (int 0 ∷ [])) ∷
    answered (ask.Commit 0 [] [] 0 ((r0, int 11) ∷ []) []) (reply.Changed r0) ∷
    answered (ask.View (r0 ∷ [])) (reply.Views 1 (int 1 ∷ [])) ∷
    answered (ask.Commit 0 [] [] 1 ((r0, int 12) ∷ []) []) (reply.Retry r0) ∷ [])) { doing = Restarting 1 })) ≡ broken (fault_at RetryLimit (at 1))
unfolding asks begin look view commit core
limit = refl

-- ---- swaps

-- three is added to an atom, and the new value printed
abbrev adds_three : ThreadCode
adds_three =
    thread 0 (
    Push (Cell a0) ∷ Push (int 3) ∷ OpenOf (open_form.Swap (callee.Core Add)) 1 (at 1) ∷ CoreOf Add 2 (at 1) ∷ CloseOf update.Swap (at 1) ∷
    PrintOf 1 ∷ Halt ∷ [])

-- the atom changes meanwhile: the swap is made again, from its open, with the arguments that were evaluated
swap_again : result (target adds_three 40 (
    answered (ask.OpenAt a0) (reply.Opened 0 (int 1)) ∷
    answered (ask.CloseAt a0 (Some 0) (int 4)) (reply.Changed a0) ∷
    answered (ask.OpenAt a0) (reply.Opened 1 (int 10)) ∷
    answered (ask.CloseAt a0 (Some 1) (int 13)) reply.Done ∷ [])) ≡ done (printed_line (int 13 ∷ []))
unfolding asks open_atom close_swap print core
swap_again = refl

-- a callee that faults breaks the swap off
abbrev breaks_atom : ThreadCode
breaks_atom = thread 0 (Push (Cell a0) ∷ OpenOf (open_form.Swap (callee.Function 1)) 0 (at 1) ∷ CallOf 1 1 ∷ CloseOf update.Swap (at 1) ∷ Halt ∷ [])

swap_breaks : result (target breaks_atom 40 (
    answered (ask.OpenAt a0) (reply.Opened 2 (int 1)) ∷
    answered (ask.Broke a0 2) reply.Done ∷ [])) ≡ broken (fault_at DivideByZero (at 81))
unfolding asks open_atom break_swap core
swap_breaks = refl

-- ---- sends and actions

abbrev action : Callee → List Value → Action
action f vs = record { agent = g0; callee = f; args = vs; span = at 5 }

-- a send in a transaction is held; where its agent has failed, the commit is a fault at the transaction
abbrev sends_inside : ThreadCode
sends_inside = thread 0 (TxBegin (at 1) ∷ Push (Cell g0) ∷ Push (int 4) ∷ SendOf (callee.Core Add) 1 (at 5) ∷ TxEnd ∷ Halt ∷ [])

held_send : result (target sends_inside 40 (
    answered ask.Begin (reply.At 0) ∷
    answered (ask.Commit 0 [] [] 0 [] (action (callee.Core Add) (int 4 ∷ []) ∷ [])) (reply.AgentIsFailed g0) ∷ [])) ≡ broken (fault_at AgentFailed (at 1))
unfolding asks begin commit reruns
held_send = refl

-- outside a transaction it is sent at once
abbrev sends_outside : ThreadCode
sends_outside = thread 0 (Push (Cell g0) ∷ Push (int 4) ∷ SendOf (callee.Core Add) 1 (at 5) ∷ Halt ∷ [])

send_refused : result (target sends_outside 40 (answered (ask.Send (action (callee.Core Add) (int 4 ∷ []))) (reply.AgentIsFailed g0) ∷ [])) ≡ broken (fault_at AgentFailed (at 5))
unfolding asks send_now
send_refused = refl

-- An action that faults in its function is handed in with the fault, and the agent goes on from the start; an operation is run at once; and
-- an agent that is handed out none takes again.
action_faults : result (agent_target (record { bodies = adds ∷ breaks ∷ []; validators = [] }) g0 40 (
    answered (ask.Take g0) (reply.Action 1 (action (callee.Function 1) []) (int 6)) ∷
    answered (ask.Finish g0 (Err (fault_at DivideByZero (at 81))) []) reply.Done ∷
    answered (ask.Take g0) (reply.Action 2 (action (callee.Core Add) (int 4 ∷ [])) (int 6)) ∷
    answered (ask.Finish g0 (Ok (int 10)) []) reply.Done ∷
    answered (ask.Take g0) reply.Idle ∷ [])) ≡ waiting (ask.Take g0)
unfolding asks take_action finish core
action_faults = refl

-- What an action sends in a transaction is handed in with its state. One that faults there fails first, and hands the fault in next.
abbrev sends_in_tx : PlainBody
sends_in_tx = record { locals = 1; instrs = TxBegin (at 1) ∷ Push (Cell g0) ∷ SendOf (callee.Core Inc) 0 (at 5) ∷ TxEnd ∷ Pop ∷ Load 0 ∷ Return ∷ [] }

abbrev faults_in_tx : PlainBody
faults_in_tx = record { locals = 1; instrs = TxBegin (at 1) ∷ Push (int 6) ∷ Push (int 0) ∷ CoreOf Quot 2 (at 82) ∷ TxEnd ∷ Return ∷ [] }

actions_transact : result (agent_target (record { bodies = sends_in_tx ∷ faults_in_tx ∷ []; validators = [] }) g0 60 (
    answered (ask.Take g0) (reply.Action 1 (action (callee.Function 0) []) (int 6)) ∷
    answered ask.Begin (reply.At 0) ∷
    answered (ask.Commit 0 [] [] 0 [] []) reply.Done ∷
    answered (ask.Finish g0 (Ok (int 6)) (action (callee.Core Inc) [] ∷ [])) reply.Done ∷
    answered (ask.Take g0) (reply.Action 2 (action (callee.Function 1) []) (int 6)) ∷
    answered ask.Begin (reply.At 0) ∷
    answered (ask.Fail 0 0) reply.Done ∷
    answered (ask.Finish g0 (Err (fault_at DivideByZero (at 82))) []) reply.Done ∷
    answered (ask.Take g0) reply.Idle ∷ [])) ≡ waiting (ask.Take g0)
unfolding asks take_action finish begin commit fail core reruns
actions_transact = refl
