-- No turn asks twice.
use Rattle.std.proofs.Common.{◌≡◌, ℕ, zero, suc, Bool, true, false, List, [], ◌∷◌, Option, Some, None, Result, Ok, Err, refl, sym, subst, if◌then◌else◌, arith}
use Rattle.txs_world_protocol.specs.Ask.{Writes, buffered, Exchange, same_ask}
use Rattle.txs_world_protocol.specs.declared.ask.Ask.{Ask}
use Rattle.txs_world_protocol.specs.declared.ask.Ask.TheVariants as ask
use Rattle.txs_world_protocol.specs.declared.ask.Reply.{Reply}
use Rattle.txs_frame.specs.Frame.{commuted, set_writes, set_ref, sends_of_commit}
use Rattle.txs_frame.specs.Phase.{tasks_of, to_write}
use Rattle.txs_frame.specs.declared.frame.Commute.{Commute}
use Rattle.txs_frame.specs.declared.phase.Task.{Task}
use Rattle.txs_frame.specs.declared.phase.Task.TheVariants.{Redoes, Validates}
use Rattle.txs_value_apply.specs.Core.{core, vector_of}
use Rattle.txs_value_cell.specs.Cells.{validator_at}
use Rattle.txs_value_cell.specs.Forms.{rule, cell_of}
use Rattle.txs_value_data.specs.Limits.{reruns}
use Rattle.txs_value_data.specs.Places.{nth, fault_at}
use Rattle.txs_value_cell.specs.declared.action.Action.{Action}
use Rattle.txs_value_data.specs.declared.fault.Fault.{Fault}
use Rattle.txs_value_data.specs.declared.fault.FaultKind.{FaultKind}
use Rattle.txs_value_data.specs.declared.fault.FaultKind.TheVariants.{InvalidState, RetryLimit, AgentFailed}
use Rattle.txs_value_data.specs.declared.fault.Span.{Span}
use Rattle.txs_value_cell.specs.declared.form.CellForm.TheVariants as form
use Rattle.txs_value_cell.specs.declared.form.LookForm.{LookForm}
use Rattle.txs_value_cell.specs.declared.form.LookForm.TheVariants.{Deref, Ensure}
use Rattle.txs_value_cell.specs.declared.form.PutForm.{PutForm}
use Rattle.txs_value_cell.specs.declared.form.PutForm.TheVariants.{RefSet, Reset}
use Rattle.txs_value_cell.specs.declared.form.UpdateForm.{UpdateForm}
use Rattle.txs_value_cell.specs.declared.form.UpdateForm.TheVariants as update
use Rattle.txs_value_data.specs.declared.op.Callee.{Callee}
use Rattle.txs_value_data.specs.declared.op.Callee.TheVariants as callee
use Rattle.txs_value_data.specs.declared.value.CellId.{CellId}
use Rattle.txs_value_data.specs.declared.value.Value.{Value}
use Rattle.txs_value_data.specs.declared.value.Value.TheVariants.{Cell}
use Rattle.txs_code_meaning.specs.declared.instr.OpenForm.{OpenForm}
use Rattle.txs_code_meaning.specs.declared.instr.OpenForm.TheVariants as open_form
use Rattle.txs_code_meaning.specs.ActorState.{ActorState, Reception, Replied, Unreplied, receives, asks, StepResult, Continue, Break, Redo, Await, Malformed, on_step, step_of, Reading, Says, SaysRetry, SaysNothing, read_as, heard, read_point, just_done, value_there, newest_value, views, Verdict, Landed, Outdated, Undone, Denied, commit_verdict, opened, swap_verdict, send_verdict, sent, Taken, handed_out, begun, begin, fail, buffered_or, look, paired, viewed, view, commit, peek, SwapInHand, open_atom, close_swap, break_swap, reset_atom, send_now, take_action, finish, read_cell, read, set_own, assign_cell, assign, RefUpdate, Alters, Commutes, update_form, kept_open, open_update, close_own, close_update, open_swap, send_to, print, InHand, send_or_hold, holding, held_in, landed, taken_back, send_action}
use Rattle.txs_code_meaning.specs.Laws.{TakesOne, TurnTakesOne, MaySend, SendsLawfully, AsksOnce}
use Rattle.txs_code_meaning.specs.Machine.{PlainInstr, Push, Load, Store, Pop, Jump, JumpFalse, CoreOf, CallOf, Return, MakeVector, PrintOf, TxBegin, TxEnd, LookOf, PutOf, OpenOf, CloseOf, SendOf, Halt, TakeOf, RunOf, FinishOf, ThreadCode, fetch, Frame, Savepoint, Activity, Outside, Restarting, Running, Applying, Swapping, is_inside, Configuration, Turned, Unfinished, told, raise, try_more, rerun, retried, on, found, on_top, on_args, on_args_of, on_two, gives, starts, begins, decided, lands, settles, arguments_of, applies, ends, returns_to, opens_ref, opens_atom, opens, swap_decided, closes_swap, closes, started, runs_callee, runs, act, ends_with, fails_with, hands_in, fault_in, validates, where_accepted, where_valid, works, puts, finishes, Destination, to_stack, to_commutes, to_validation, state_after, staying, first_place, rested}

-- ---- steps

-- a step that takes one exchange at most, and none where it waits or faults
abbrev StepTakesOne : {A : Type 0} → List Exchange → StepResult A → Type 0
StepTakesOne before (Continue a s) = TakesOne before s.todo
StepTakesOne before (Break f s) = s.todo ≡ before
StepTakesOne before (Redo s) = TakesOne before s.todo
StepTakesOne before (Await s) = s.todo ≡ before
StepTakesOne before Malformed = Unit {0}

-- the same of a step that may fault on what it was answered
abbrev StepTakesSome : {A : Type 0} → List Exchange → StepResult A → Type 0
StepTakesSome before (Continue a s) = TakesOne before s.todo
StepTakesSome before (Break f s) = TakesOne before s.todo
StepTakesSome before (Redo s) = TakesOne before s.todo
StepTakesSome before (Await s) = s.todo ≡ before
StepTakesSome before Malformed = Unit {0}

-- what goes on with an answer, without an ask
abbrev Quiet : {A : Type 0} → List Exchange → StepResult A → Type 0
Quiet before (Continue a s) = s.todo ≡ before
Quiet before (Break f s) = s.todo ≡ before
Quiet before (Redo s) = ⊥
Quiet before (Await s) = ⊥
Quiet before Malformed = Unit {0}

-- and without a fault
abbrev Calm : {A : Type 0} → List Exchange → StepResult A → Type 0
Calm before (Continue a s) = s.todo ≡ before
Calm before (Break f s) = ⊥
Calm before (Redo s) = ⊥
Calm before (Await s) = ⊥
Calm before Malformed = Unit {0}

none_taken : (before after : List Exchange) → after ≡ before → TakesOne before after
none_taken before after e = ([], omega arith, sym e)

takes_none : (xs : List Exchange) → TakesOne xs xs
takes_none xs = none_taken xs xs refl

as_before : (before mid after : List Exchange) → after ≡ mid → TakesOne before mid → TakesOne before after
as_before before mid after e h = subst (λ l. TakesOne before l) (sym e) h

abbrev ReceptionTakesOne : List Exchange → Reception → Type 0
ReceptionTakesOne before (Replied r s) = TakesOne before s.todo
ReceptionTakesOne before (Unreplied s) = s.todo ≡ before

asks_once : (q : Ask) (s : ActorState) → ReceptionTakesOne s.todo (asks q s)
unfolding asks
asks_once q s = go s.todo refl
  where
    go : (l : List Exchange) → s.todo ≡ l → ReceptionTakesOne l (receives q s l)
    go [] e = e
    go (x ∷ l) e = test (same_ask q x.ask)
      where
        test : (b : Bool) → ReceptionTakesOne (x ∷ l) (if b then Replied x.reply (record s { todo = l }) else Unreplied (record s { wants = Some q }))
        test true = (x ∷ [], omega arith, refl)
        test false = e

reading_once : {A : Type 0} (before : List Exchange) (r : Reading A) (s : ActorState) → TakesOne before s.todo → StepTakesOne before (read_as r s)
reading_once before (Says a) s h = h
reading_once before SaysRetry s h = h
reading_once before SaysNothing s h = tt

heard_once : {A : Type 0} (before : List Exchange) (reads : Reply → Reading A) (h : Reception) → ReceptionTakesOne before h → StepTakesOne before (heard reads h)
heard_once before reads (Replied r s) h = reading_once before (reads r) s h
heard_once before reads (Unreplied s) h = h

ask_once : {A : Type 0} (reads : Reply → Reading A) (q : Ask) (s : ActorState) → StepTakesOne s.todo (heard reads (asks q s))
ask_once reads q s = heard_once s.todo reads (asks q s) (asks_once q s)

calm_once : {A : Type 0} (before mid : List Exchange) (r : StepResult A) → TakesOne before mid → Calm mid r → StepTakesOne before r
calm_once before mid (Continue a s) h e = as_before before mid s.todo e h
calm_once before mid (Break f s) h e = absurd e
calm_once before mid (Redo s) h e = absurd e
calm_once before mid (Await s) h e = absurd e
calm_once before mid Malformed h e = tt

quiet_some : {A : Type 0} (before mid : List Exchange) (r : StepResult A) → TakesOne before mid → Quiet mid r → StepTakesSome before r
quiet_some before mid (Continue a s) h e = as_before before mid s.todo e h
quiet_some before mid (Break f s) h e = as_before before mid s.todo e h
quiet_some before mid (Redo s) h e = absurd e
quiet_some before mid (Await s) h e = absurd e
quiet_some before mid Malformed h e = tt

-- an ask, and what its answer makes
ask_then : {A B : Type 0} (before : List Exchange) (x : StepResult A) (go : A → ActorState → StepResult B) → StepTakesOne before x → ((a : A) (s : ActorState) → Calm s.todo (go a s)) → StepTakesOne before (on_step x go)
ask_then before (Continue a s) go h k = calm_once before s.todo (go a s) h (k a s)
ask_then before (Break f s) go h k = h
ask_then before (Redo s) go h k = h
ask_then before (Await s) go h k = h
ask_then before Malformed go h k = tt

ask_then_some : {A B : Type 0} (before : List Exchange) (x : StepResult A) (go : A → ActorState → StepResult B) → StepTakesOne before x → ((a : A) (s : ActorState) → Quiet s.todo (go a s)) → StepTakesSome before (on_step x go)
ask_then_some before (Continue a s) go h k = quiet_some before s.todo (go a s) h (k a s)
ask_then_some before (Break f s) go h k = none_taken before s.todo h
ask_then_some before (Redo s) go h k = h
ask_then_some before (Await s) go h k = h
ask_then_some before Malformed go h k = tt

-- a test, and then a step
then_once : {A B : Type 0} (r : Result A FaultKind) (span : Span) (s : ActorState) (go : A → ActorState → StepResult B) → ((a : A) → StepTakesOne s.todo (go a s)) → StepTakesOne s.todo (on_step (step_of r span s) go)
then_once (Ok a) span s go k = k a
then_once (Err f) span s go k = refl

then_some : {A B : Type 0} (r : Result A FaultKind) (span : Span) (s : ActorState) (go : A → ActorState → StepResult B) → ((a : A) → StepTakesSome s.todo (go a s)) → StepTakesSome s.todo (on_step (step_of r span s) go)
then_some (Ok a) span s go k = k a
then_some (Err f) span s go k = takes_none s.todo

step_of_once : {A : Type 0} (r : Result A FaultKind) (span : Span) (s : ActorState) → StepTakesOne s.todo (step_of r span s)
step_of_once (Ok a) span s = takes_none s.todo
step_of_once (Err f) span s = refl

-- ---- asks

begin_once : (s : ActorState) → StepTakesOne s.todo (begin s)
unfolding begin
begin_once s = ask_then s.todo (heard read_point (asks ask.Begin s)) begun (ask_once read_point ask.Begin s) (λ p s1. refl)

fail_once : (s : ActorState) → StepTakesOne s.todo (fail s)
unfolding fail
fail_once s = ask_once just_done (ask.Fail s.at s.view) s

own_once : (s : ActorState) (o : Option Value) (r : StepResult Value) → StepTakesOne s.todo r → StepTakesOne s.todo (buffered_or o s r)
own_once s (Some v) r h = takes_none s.todo
own_once s None r h = h

look_once : (c : CellId) (s : ActorState) → StepTakesOne s.todo (look c s)
unfolding look
look_once c s = own_once s (buffered s.done.values c.number) (heard value_there (asks (ask.Look c s.at) s)) (ask_once value_there (ask.Look c s.at) s)

viewed_calm : (q : ℕ) (o : Option Writes) (s : ActorState) → Calm s.todo (viewed q o s)
viewed_calm q None s = tt
viewed_calm q (Some ws) s = refl

view_once : (s : ActorState) → StepTakesOne s.todo (view s)
unfolding view
view_once s =
    let q = ask.View (commuted s.done) in
    ask_then s.todo (heard views (asks q s)) (λ x s1. viewed x.0 (paired (commuted s.done) x.1) s1) (ask_once views q s) (λ x s1. viewed_calm x.0 (paired (commuted s.done) x.1) s1)

landed_calm : (v : Verdict) (s : ActorState) → Calm s.todo (landed v s)
landed_calm Landed s = refl
landed_calm Outdated s = refl
landed_calm Undone s = refl
landed_calm Denied s = refl

commit_once : (ws : Writes) (s : ActorState) → StepTakesOne s.todo (commit ws s)
unfolding commit
commit_once ws s =
    let q = ask.Commit s.at (set_writes s.done) s.done.ensures s.view ws (sends_of_commit (held_in s.acting) s.done.sends) in
    ask_then s.todo (heard commit_verdict (asks q s)) landed (ask_once commit_verdict q s) landed_calm

peek_once : (c : CellId) (s : ActorState) → StepTakesOne s.todo (peek c s)
unfolding peek
peek_once c s = ask_once newest_value (ask.Peek c) s

open_atom_once : (c : CellId) (s : ActorState) → StepTakesOne s.todo (open_atom c s)
unfolding open_atom
open_atom_once c s = ask_then s.todo (heard opened (asks (ask.OpenAt c) s)) _ (ask_once opened (ask.OpenAt c) s) (λ x s1. refl)

close_swap_once : (w : SwapInHand) (v : Value) (s : ActorState) → StepTakesOne s.todo (close_swap w v s)
unfolding close_swap
close_swap_once w v s = ask_once swap_verdict (ask.CloseAt w.cell (Some w.at) v) s

break_swap_once : (w : SwapInHand) (s : ActorState) → StepTakesOne s.todo (break_swap w s)
unfolding break_swap
break_swap_once w s = ask_once just_done (ask.Broke w.cell w.at) s

reset_once : (c : CellId) (v : Value) (s : ActorState) → StepTakesOne s.todo (reset_atom c v s)
unfolding reset_atom
reset_once c v s = ask_then s.todo (heard just_done (asks (ask.CloseAt c None v) s)) _ (ask_once just_done (ask.CloseAt c None v) s) (λ u s1. refl)

sent_quiet : (a : Action) (v : Verdict) (s : ActorState) → Quiet s.todo (sent a v s)
sent_quiet a Landed s = refl
sent_quiet a Outdated s = tt
sent_quiet a Undone s = tt
sent_quiet a Denied s = refl

send_now_once : (a : Action) (s : ActorState) → StepTakesSome s.todo (send_now a s)
unfolding send_now
send_now_once a s = ask_then_some s.todo (heard send_verdict (asks (ask.Send a) s)) (sent a) (ask_once send_verdict (ask.Send a) s) (sent_quiet a)

take_once : (g : CellId) (s : ActorState) → StepTakesOne s.todo (take_action g s)
unfolding take_action
take_once g s = ask_once handed_out (ask.Take g) s

finish_once : (g : CellId) (new : Result Value Fault) (sends : List Action) (s : ActorState) → StepTakesOne s.todo (finish g new sends s)
unfolding finish
finish_once g new sends s = ask_once taken_back (ask.Finish g new sends) s

-- ---- forms

read_cell_once : (f : LookForm) (inside : Bool) (c : CellId) (s : ActorState) → StepTakesOne s.todo (read_cell f inside c s)
read_cell_once Deref true c s = look_once c s
read_cell_once Deref false c s = peek_once c s
read_cell_once Ensure true c s = ask_then s.todo (look c s) _ (look_once c s) (λ v s1. refl)
read_cell_once Ensure false c s = tt

read_once : (f : LookForm) (inside : Bool) (span : Span) (v : Value) (s : ActorState) → StepTakesOne s.todo (read f inside span v s)
read_once f inside span v s = then_once (cell_of (rule (form.Look f)) inside v) span s (read_cell f inside) (λ c. read_cell_once f inside c s)

set_once : (span : Span) (v : Value) (c : CellId) (s : ActorState) → StepTakesOne s.todo (set_own span v c s)
set_once span v c s = then_once (set_ref c v s.done) span s _ (λ w. takes_none s.todo)

assign_cell_once : (f : PutForm) (inside : Bool) (span : Span) (v : Value) (c : CellId) (s : ActorState) → StepTakesOne s.todo (assign_cell f inside span v c s)
assign_cell_once RefSet true span v c s = set_once span v c s
assign_cell_once RefSet false span v c s = tt
assign_cell_once Reset false span v c s = reset_once c v s
assign_cell_once Reset true span v c s = tt

assign_once : (f : PutForm) (inside : Bool) (span : Span) (c v : Value) (s : ActorState) → StepTakesOne s.todo (assign f inside span c v s)
assign_once f inside span c v s = then_once (cell_of (rule (form.Put f)) inside c) span s (assign_cell f inside span v) (λ d. assign_cell_once f inside span v d s)

open_update_once : (u : RefUpdate) (inside : Bool) (span : Span) (v : Value) (vs : List Value) (s : ActorState) → StepTakesOne s.todo (open_update u inside span v vs s)
open_update_once u false span v vs s = tt
open_update_once u true span v vs s =
    let open_look : CellId → ActorState → StepResult Value = λ c s1. on_step (look c s1) (λ x s2. Continue x (record s2 { commuting = kept_open u c vs })) in
    then_once (cell_of (rule (form.Update (update_form u))) true v) span s open_look (λ c. ask_then s.todo (look c s) _ (look_once c s) (λ x s2. refl))

close_own_once : (o : Option Commute) (span : Span) (w : Value) (c : CellId) (s : ActorState) → StepTakesOne s.todo (close_own o span w c s)
close_own_once None span w c s = set_once span w c s
close_own_once (Some o) span w c s = takes_none s.todo

close_update_once : (span : Span) (v w : Value) (s : ActorState) → StepTakesOne s.todo (close_update span v w s)
close_update_once span v w s = then_once (cell_of (rule (form.Update update.Alter)) true v) span s (close_own s.commuting span w) (λ c. close_own_once s.commuting span w c s)

open_swap_once : (inside : Bool) (span : Span) (v : Value) (s : ActorState) → StepTakesOne s.todo (open_swap inside span v s)
open_swap_once true span v s = tt
open_swap_once false span v s = then_once (cell_of (rule (form.Update update.Swap)) false v) span s open_atom (λ c. open_atom_once c s)

send_inside_once : (span : Span) (v : Value) (f : Callee) (vs : List Value) (s : ActorState) → StepTakesOne s.todo (send_to true span v f vs s)
send_inside_once span v f vs s = then_once (cell_of (rule form.Send) true v) span s _ (λ g. takes_none s.todo)

send_outside_once : (span : Span) (v : Value) (f : Callee) (vs : List Value) (s : ActorState) → StepTakesSome s.todo (send_to false span v f vs s)
send_outside_once span v f vs s = then_some (cell_of (rule form.Send) false v) span s _ (λ g. or_hold (record { agent = g; callee = f; args = vs; span = span }) s.acting)
  where
    or_hold : (a : Action) (o : Option InHand) → StepTakesSome s.todo (send_or_hold o a s)
    or_hold a None = send_now_once a s
    or_hold a (Some h) = takes_none s.todo

print_once : (inside : Bool) (vs : List Value) (s : ActorState) → StepTakesOne s.todo (print inside vs s)
unfolding print
print_once true vs s = tt
print_once false vs s = takes_none s.todo

found_once : (o : Option Value) (s : ActorState) → StepTakesOne s.todo (found o s)
found_once None s = tt
found_once (Some v) s = takes_none s.todo

-- ---- turns

told_once : (before : List Exchange) (x : StepResult (Unit {0})) (go : ActorState → Turned Configuration) → StepTakesOne before x → ((s : ActorState) → TakesOne before s.todo → TurnTakesOne before (go s)) → TurnTakesOne before (told x go)
told_once before (Continue u s) go h k = k s h
told_once before (Break f s) go h k = tt
told_once before (Redo s) go h k = tt
told_once before (Await s) go h k = h
told_once before Malformed go h k = tt

over_once : (o : Option InHand) (f : Fault) (s : ActorState) → TurnTakesOne s.todo (ends_with o f s)
over_once None f s = takes_none s.todo
over_once (Some h) f s = told_once s.todo (finish h.agent (Err f) [] s) _ (finish_once h.agent (Err f) [] s) (λ s1 g. g)

fails_once : (before : List Exchange) (o : Option InHand) (f : Fault) (s : ActorState) → TakesOne before s.todo → TurnTakesOne before (fails_with o f s)
fails_once before None f s h = h
fails_once before (Some a) f s h = h

raise_once : (doing : Activity) (f : Fault) (s : ActorState) → TurnTakesOne s.todo (raise doing f s)
raise_once Outside f s = over_once s.acting f s
raise_once (Restarting left) f s = fails_once s.todo s.acting f s (takes_none s.todo)
raise_once (Running left inner from) f s = told_once s.todo (fail s) _ (fail_once s) (λ s1 h. fails_once s.todo s1.acting f s1 h)
raise_once (Applying left from work values) f s = told_once s.todo (fail s) _ (fail_once s) (λ s1 h. fails_once s.todo s1.acting f s1 h)
raise_once (Swapping swap from) f s = told_once s.todo (break_swap swap s) _ (break_swap_once swap s) (λ s1 h. fails_once s.todo s1.acting f s1 h)

tries_once : (before : List Exchange) (left : ℕ) (from : Savepoint) (s : ActorState) (go : ℕ → Configuration) → TakesOne before s.todo → ((k : ℕ) → (go k).state ≡ s) → TurnTakesOne before (try_more left from s go)
tries_once before zero from s go h k = fails_once before s.acting (fault_at RetryLimit from.span) s h
tries_once before (suc left) from s go h k = subst (λ t. TakesOne before t.todo) (sym (k left)) h

rerun_once : (before : List Exchange) (left : ℕ) (from : Savepoint) (s : ActorState) → TakesOne before s.todo → TurnTakesOne before (rerun left from s)
rerun_once before left from s h = tries_once before left from s _ h (λ k. refl)

retried_once : (before : List Exchange) (doing : Activity) (s : ActorState) → TakesOne before s.todo → TurnTakesOne before (retried doing s)
retried_once before Outside s h = tt
retried_once before (Restarting left) s h = tt
retried_once before (Running left inner from) s h = rerun_once before left from s h
retried_once before (Applying left from work values) s h = tt
retried_once before (Swapping swap from) s h = tt

-- what goes on with a step's answer asks nothing
abbrev GoesOn : {A : Type 0} → List Exchange → (A → ActorState → Turned Configuration) → Type 0
GoesOn {A} before go = (a : A) (s : ActorState) → TakesOne before s.todo → TurnTakesOne before (go a s)

on_once : {A : Type 0} (before : List Exchange) (doing : Activity) (x : StepResult A) (go : A → ActorState → Turned Configuration) → StepTakesOne before x → GoesOn before go → TurnTakesOne before (on doing x go)
on_once before doing (Continue a s) go h k = k a s h
on_once before doing (Break f s) go h k = subst (λ l. TurnTakesOne l (raise doing f s)) h (raise_once doing f s)
on_once before doing (Redo s) go h k = retried_once before doing s h
on_once before doing (Await s) go h k = h
on_once before doing Malformed go h k = tt

-- where a step faults, this action is in hand
abbrev FaultsIn : {A : Type 0} → Option InHand → StepResult A → Type 0
FaultsIn o (Continue a s) = s.acting ≡ o
FaultsIn o (Break f s) = s.acting ≡ o
FaultsIn o (Redo s) = Unit {0}
FaultsIn o (Await s) = Unit {0}
FaultsIn o Malformed = Unit {0}

read_in : {A : Type 0} (r : Reading A) (s : ActorState) → FaultsIn s.acting (read_as r s)
read_in (Says a) s = refl
read_in SaysRetry s = tt
read_in SaysNothing s = tt

ask_in : {A : Type 0} (reads : Reply → Reading A) (q : Ask) (s : ActorState) → FaultsIn s.acting (heard reads (asks q s))
unfolding asks
ask_in reads q s = go s.todo
  where
    by : (b : Bool) (x : Exchange) (xs : List Exchange) → FaultsIn s.acting (heard reads (if b then Replied x.reply (record s { todo = xs }) else Unreplied (record s { wants = Some q })))
    by true x xs = read_in (reads x.reply) (record s { todo = xs })
    by false x xs = tt

    go : (xs : List Exchange) → FaultsIn s.acting (heard reads (receives q s xs))
    go [] = tt
    go (x ∷ xs) = by (same_ask q x.ask) x xs

sent_in : (a : Action) (d : Verdict) (o : Option InHand) (s : ActorState) → s.acting ≡ o → FaultsIn o (sent a d s)
sent_in a Landed o s e = e
sent_in a Outdated o s e = tt
sent_in a Undone o s e = tt
sent_in a Denied o s e = e

then_in : {A B : Type 0} (o : Option InHand) (x : StepResult A) (go : A → ActorState → StepResult B) → FaultsIn o x → ((a : A) (s : ActorState) → s.acting ≡ o → FaultsIn o (go a s)) → FaultsIn o (on_step x go)
then_in o (Continue a s) go e k = k a s e
then_in o (Break f s) go e k = e
then_in o (Redo s) go e k = tt
then_in o (Await s) go e k = tt
then_in o Malformed go e k = tt

send_in : (a : Action) (s : ActorState) → FaultsIn s.acting (send_now a s)
unfolding send_now
send_in a s = then_in s.acting (heard send_verdict (asks (ask.Send a) s)) (sent a) (ask_in send_verdict (ask.Send a) s) (λ d t e. sent_in a d s.acting t e)

-- outside transactions, swaps and actions a fault asks nothing
on_outside : {A : Type 0} (before : List Exchange) (x : StepResult A) (go : A → ActorState → Turned Configuration) → StepTakesSome before x → FaultsIn None x → GoesOn before go → TurnTakesOne before (on Outside x go)
on_outside before (Continue a s) go h e k = k a s h
on_outside before (Break f s) go h e k = subst (λ o. TurnTakesOne before (ends_with o f s)) (sym e) h
on_outside before (Redo s) go h e k = tt
on_outside before (Await s) go h e k = h
on_outside before Malformed go h e k = tt

on_restarting : {A : Type 0} (before : List Exchange) (left : ℕ) (x : StepResult A) (go : A → ActorState → Turned Configuration) → StepTakesSome before x → GoesOn before go → TurnTakesOne before (on (Restarting left) x go)
on_restarting before left (Continue a s) go h k = k a s h
on_restarting before left (Break f s) go h k = fails_once before s.acting f s h
on_restarting before left (Redo s) go h k = tt
on_restarting before left (Await s) go h k = h
on_restarting before left Malformed go h k = tt

gives_once : (c : Configuration) (rest : List Value) (x : StepResult Value) → StepTakesOne c.state.todo x → TurnTakesOne c.state.todo (gives c rest x)
gives_once c rest x h = on_once c.state.todo c.doing x _ h (λ v s h1. h1)

top_once : (before : List Exchange) (stack : List Value) (go : Value → List Value → Turned Configuration) → ((v : Value) (rest : List Value) → TurnTakesOne before (go v rest)) → TurnTakesOne before (on_top stack go)
top_once before [] go k = tt
top_once before (v ∷ stack) go k = k v stack

args_once : (before : List Exchange) (n : ℕ) (stack vs : List Value) (go : List Value → List Value → Turned Configuration) → ((ws rest : List Value) → TurnTakesOne before (go ws rest)) → TurnTakesOne before (on_args n stack vs go)
args_once before zero stack vs go k = k vs stack
args_once before (suc n) [] vs go k = tt
args_once before (suc n) (v ∷ stack) vs go k = args_once before n stack (v ∷ vs) go k

args_of_once : (before : List Exchange) (n : ℕ) (stack : List Value) (go : List Value → Value → List Value → Turned Configuration) → ((ws : List Value) (v : Value) (rest : List Value) → TurnTakesOne before (go ws v rest)) → TurnTakesOne before (on_args_of n stack go)
args_of_once before n stack go k = args_once before n stack [] _ (λ ws under. top_once before under _ (k ws))

two_once : (before : List Exchange) (stack : List Value) (go : Value → Value → List Value → Turned Configuration) → ((w v : Value) (rest : List Value) → TurnTakesOne before (go w v rest)) → TurnTakesOne before (on_two stack go)
two_once before stack go k = top_once before stack _ (λ w under. top_once before under _ (k w))

starts_once : (left : ℕ) (span : Span) (c : Configuration) → TurnTakesOne c.state.todo (starts left span c)
starts_once left span c = on_once c.state.todo c.doing (begin c.state) _ (begin_once c.state) (λ u s h. h)

begins_once : (doing : Activity) (span : Span) (c : Configuration) → TurnTakesOne c.state.todo (begins doing span c)
begins_once Outside span c = starts_once reruns span c
begins_once (Restarting left) span c = starts_once left span c
begins_once (Running left inner from) span c = takes_none c.state.todo
begins_once (Applying left from work values) span c = tt
begins_once (Swapping swap from) span c = tt

decided_once : (before : List Exchange) (v : Verdict) (left : ℕ) (from : Savepoint) (c : Configuration) (s : ActorState) → TakesOne before s.todo → TurnTakesOne before (decided v left from c s)
decided_once before Landed left from c s h = h
decided_once before Outdated left from c s h = tries_once before left from s _ h (λ k. refl)
decided_once before Undone left from c s h = rerun_once before left from s h
decided_once before Denied left from c s h = fails_once before s.acting (fault_at AgentFailed from.span) s h

lands_once : (left : ℕ) (from : Savepoint) (ws : Writes) (c : Configuration) → TurnTakesOne c.state.todo (lands left from ws c)
lands_once left from ws c = on_once c.state.todo c.doing (commit ws c.state) _ (commit_once ws c.state) (λ v s h. decided_once c.state.todo v left from c s h)

applies_once : (code : ThreadCode) (f : Callee) (left : ℕ) (from : Savepoint) (k : Commute) (work : List Task) (ws : Writes) (c : Configuration) → TurnTakesOne c.state.todo (applies code f left from k work ws c)
applies_once code (callee.Core op) left from k work ws c = on_once c.state.todo c.doing _ _ (step_of_once (core op (arguments_of k ws)) from.span c.state) (λ v s h. h)
applies_once code (callee.Function f) left from k work ws c = takes_none c.state.todo

validates_once : (code : ThreadCode) (f : Callee) (v : Value) (span : Span) (c : Configuration) → TurnTakesOne c.state.todo (validates code f v span c)
validates_once code (callee.Core op) v span c = on_once c.state.todo c.doing _ _ (step_of_once (core op (v ∷ [])) span c.state) (λ a s h. h)
validates_once code (callee.Function f) v span c = takes_none c.state.todo

accepted_once : (code : ThreadCode) (o : Option Bool) (f : Callee) (v : Value) (span : Span) (c : Configuration) (go : Configuration → Turned Configuration)
    → ((c1 : Configuration) → c1.state.todo ≡ c.state.todo → TurnTakesOne c.state.todo (go c1)) → TurnTakesOne c.state.todo (where_accepted code o f v span c go)
accepted_once code None f v span c go k = validates_once code f v span c
accepted_once code (Some true) f v span c go k = k (record c { state = record c.state { accepted = None } }) refl
accepted_once code (Some false) f v span c go k = raise_once c.doing (fault_at InvalidState span) (record c.state { accepted = None })

valid_once : (code : ThreadCode) (o : Option Callee) (v : Value) (span : Span) (c : Configuration) (go : Configuration → Turned Configuration)
    → ((c1 : Configuration) → c1.state.todo ≡ c.state.todo → TurnTakesOne c.state.todo (go c1)) → TurnTakesOne c.state.todo (where_valid code o v span c go)
valid_once code None v span c go k = k c refl
valid_once code (Some f) v span c go k = accepted_once code c.state.accepted f v span c go k

works_once : (code : ThreadCode) (left : ℕ) (from : Savepoint) (work : List Task) (ws : Writes) (c : Configuration) → TurnTakesOne c.state.todo (works code left from work ws c)
works_once code left from [] ws c = lands_once left from ws c
works_once code left from (Redoes k ∷ work) ws c = applies_once code k.callee left from k work ws c
works_once code left from (Validates r f ∷ work) ws c =
    accepted_once code c.state.accepted f (to_write ws c.state.done r.number) from.span (staying (Applying left from (Validates r f ∷ work) ws) c.state c) (λ c1. works code left from work ws (staying (Applying left from work ws) c1.state c1))
    (λ c1 e. subst (λ before. TurnTakesOne before (works code left from work ws (staying (Applying left from work ws) c1.state c1))) e (works_once code left from work ws (staying (Applying left from work ws) c1.state c1)))

settles_once : (code : ThreadCode) (cs : List CellId) (left : ℕ) (from : Savepoint) (c : Configuration) → TurnTakesOne c.state.todo (settles code cs left from c)
settles_once code [] left from c = works_once code left from (tasks_of code.validators c.state.done) [] c
settles_once code (d ∷ cs) left from c = on_once c.state.todo c.doing (view c.state) _ (view_once c.state) (λ ws s h. h)

ends_once : (code : ThreadCode) (doing : Activity) (c : Configuration) → TurnTakesOne c.state.todo (ends code doing c)
ends_once code Outside c = tt
ends_once code (Restarting left) c = tt
ends_once code (Running left (suc inner) from) c = takes_none c.state.todo
ends_once code (Running left zero from) c = settles_once code (commuted c.state.done) left from c
ends_once code (Applying left from work ws) c = works_once code left from work ws c
ends_once code (Swapping swap from) c = tt

returns_once : (frames : List Frame) (v : Value) (c : Configuration) → TurnTakesOne c.state.todo (returns_to frames v c)
returns_once [] v c = tt
returns_once (f ∷ frames) v c = by f.awaits
  where
    by : (d : Destination) → TakesOne c.state.todo (state_after d v c.state).todo
    by to_stack = takes_none c.state.todo
    by to_commutes = takes_none c.state.todo
    by to_validation = takes_none c.state.todo

opens_ref_once : (u : RefUpdate) (span : Span) (vs : List Value) (cell : Value) (rest : List Value) (c : Configuration) → TurnTakesOne c.state.todo (opens_ref u span vs cell rest c)
opens_ref_once u span vs cell rest c = on_once c.state.todo c.doing _ _ (open_update_once u (is_inside c.doing) span cell vs c.state) (λ v s h. h)

opens_atom_once : (doing : Activity) (span : Span) (vs : List Value) (cell : Value) (rest : List Value) (c : Configuration) → TurnTakesOne c.state.todo (opens_atom doing span vs cell rest c)
opens_atom_once Outside span vs cell rest c = on_once c.state.todo c.doing _ _ (open_swap_once false span cell c.state) (λ o s h. h)
opens_atom_once (Restarting left) span vs cell rest c = tt
opens_atom_once (Running left inner from) span vs cell rest c = tt
opens_atom_once (Applying left from work values) span vs cell rest c = tt
opens_atom_once (Swapping swap from) span vs cell rest c = tt

opens_once : (by : OpenForm) (span : Span) (vs : List Value) (cell : Value) (rest : List Value) (c : Configuration) → TurnTakesOne c.state.todo (opens by span vs cell rest c)
opens_once open_form.Alter span vs cell rest c = opens_ref_once Alters span vs cell rest c
opens_once (open_form.Commute f) span vs cell rest c = opens_ref_once (Commutes f) span vs cell rest c
opens_once (open_form.Swap f) span vs cell rest c = opens_atom_once c.doing span vs cell rest c

swap_decided_once : (before : List Exchange) (v : Verdict) (from : Savepoint) (w : Value) (rest : List Value) (c : Configuration) (s : ActorState) → TakesOne before s.todo → TurnTakesOne before (swap_decided v from w rest c s)
swap_decided_once before Landed from w rest c s h = h
swap_decided_once before Outdated from w rest c s h = h
swap_decided_once before Undone from w rest c s h = tt
swap_decided_once before Denied from w rest c s h = tt

swap_closed_once : (swap : SwapInHand) (from : Savepoint) (w : Value) (rest : List Value) (c : Configuration) → TurnTakesOne c.state.todo (on c.doing (close_swap swap w c.state) (λ verdict s. swap_decided verdict from w rest c s))
swap_closed_once swap from w rest c = on_once c.state.todo c.doing _ _ (close_swap_once swap w c.state) (λ v s h. swap_decided_once c.state.todo v from w rest c s h)

closes_swap_once : (code : ThreadCode) (doing : Activity) (w : Value) (rest : List Value) (c : Configuration) → TurnTakesOne c.state.todo (closes_swap code doing w rest c)
closes_swap_once code (Swapping swap from) w rest c =
    valid_once code (validator_at code.validators swap.cell.number) w from.span c (λ c1. on c1.doing (close_swap swap w c1.state) (λ verdict s. swap_decided verdict from w rest c1 s))
    (λ c1 e. subst (λ before. TurnTakesOne before (on c1.doing (close_swap swap w c1.state) (λ verdict s. swap_decided verdict from w rest c1 s))) e (swap_closed_once swap from w rest c1))
closes_swap_once code Outside w rest c = tt
closes_swap_once code (Restarting left) w rest c = tt
closes_swap_once code (Running left inner from) w rest c = tt
closes_swap_once code (Applying left from work values) w rest c = tt

puts_once : (code : ThreadCode) (by : PutForm) (span : Span) (w cell : Value) (rest : List Value) (c : Configuration) → TurnTakesOne c.state.todo (puts code by span w cell rest c)
puts_once code RefSet span w cell rest c = gives_once c rest _ (assign_once RefSet (is_inside c.doing) span cell w c.state)
puts_once code Reset span w cell rest c = by (cell_of (rule (form.Put Reset)) (is_inside c.doing) cell)
  where
    by : (r : Result CellId FaultKind) → TurnTakesOne c.state.todo (on c.doing (step_of r span c.state) (λ a s. where_valid code (validator_at code.validators a.number) w span c (λ c1. gives c1 rest (assign_cell Reset (is_inside c.doing) span w a c1.state))))
    by (Ok a) =
        valid_once code (validator_at code.validators a.number) w span c (λ c1. gives c1 rest (assign_cell Reset (is_inside c.doing) span w a c1.state))
        (λ c1 e. subst (λ before. TurnTakesOne before (gives c1 rest (assign_cell Reset (is_inside c.doing) span w a c1.state))) e (gives_once c1 rest _ (assign_cell_once Reset (is_inside c.doing) span w a c1.state)))
    by (Err k) = raise_once c.doing (fault_at k span) c.state

finishes_once : (code : ThreadCode) (g : CellId) (o : Option InHand) (v : Value) (c : Configuration) → TurnTakesOne c.state.todo (finishes code g o v c)
finishes_once code g None v c = tt
finishes_once code g (Some h) v c =
    valid_once code (validator_at code.validators h.action.agent.number) v h.action.span c (λ c1. told (finish g (Ok v) h.sends c1.state) (λ s. Unfinished (first_place [] (rested s))))
    (λ c1 e. subst (λ before. TurnTakesOne before (told (finish g (Ok v) h.sends c1.state) (λ s. Unfinished (first_place [] (rested s))))) e (told_once c1.state.todo _ _ (finish_once g (Ok v) h.sends c1.state) (λ s q. q)))

hands_in_once : (code : ThreadCode) (g : CellId) (o : Option InHand) (f : Option Fault) (c : Configuration) → TurnTakesOne c.state.todo (hands_in code g o f c)
hands_in_once code g o (Some f) c = told_once c.state.todo (finish g (Err f) [] c.state) _ (finish_once g (Err f) [] c.state) (λ s h. h)
hands_in_once code g o None c = top_once c.state.todo c.stack _ (λ v rest. finishes_once code g o v c)

closes_once : (code : ThreadCode) (by : UpdateForm) (span : Span) (w cell : Value) (rest : List Value) (c : Configuration) → TurnTakesOne c.state.todo (closes code by span w cell rest c)
closes_once code update.Alter span w cell rest c = gives_once c rest _ (close_update_once span cell w c.state)
closes_once code update.Commute span w cell rest c = gives_once c rest _ (close_update_once span cell w c.state)
closes_once code update.Swap span w cell rest c = closes_swap_once code c.doing w rest c

send_once : (doing : Activity) → MaySend doing → (span : Span) (v : Value) (f : Callee) (vs : List Value) (s : ActorState) (go : Value → ActorState → Turned Configuration) → GoesOn s.todo go → TurnTakesOne s.todo (on doing (send_to (is_inside doing) span v f vs s) go)
send_once Outside ok span v f vs s go k = by (cell_of (rule form.Send) false v)
  where
    or_hold : (a : Action) (o : Option InHand) → s.acting ≡ o → TurnTakesOne s.todo (on Outside (send_or_hold o a s) go)
    or_hold a None e = on_outside s.todo (send_now a s) go (send_now_once a s) (subst (λ o. FaultsIn o (send_now a s)) e (send_in a s)) k
    or_hold a (Some h) e = k (Cell a.agent) (holding (a ∷ []) s) (takes_none s.todo)

    by : (r : Result CellId FaultKind) → TurnTakesOne s.todo (on Outside (on_step (step_of r span s) (λ g s1. send_action false (record { agent = g; callee = f; args = vs; span = span }) s1)) go)
    by (Ok g) = or_hold (record { agent = g; callee = f; args = vs; span = span }) s.acting refl
    by (Err y) = raise_once Outside (fault_at y span) s
send_once (Restarting left) ok span v f vs s go k = on_restarting s.todo left _ go (send_outside_once span v f vs s) k
send_once (Running left inner from) ok span v f vs s go k = on_once s.todo (Running left inner from) _ go (send_inside_once span v f vs s) k
send_once (Applying left from work values) ok span v f vs s go k = on_once s.todo (Applying left from work values) _ go (send_inside_once span v f vs s) k
send_once (Swapping swap from) ok span v f vs s go k = absurd ok

started_once : (before : List Exchange) (g : CellId) (o : Option Taken) (c : Configuration) (s : ActorState) → TakesOne before s.todo → TurnTakesOne before (started g o c s)
started_once before g None c s h = h
started_once before g (Some t) c s h = h

runs_callee_once : (code : ThreadCode) (f : Callee) (a : Action) (v : Value) (rest : List Value) (c : Configuration) → TurnTakesOne c.state.todo (runs_callee code f a v rest c)
runs_callee_once code (callee.Core op) a v rest c = gives_once c rest _ (step_of_once (core op (v ∷ a.args)) a.span c.state)
runs_callee_once code (callee.Function f) a v rest c = takes_none c.state.todo

runs_once : (code : ThreadCode) (o : Option InHand) (v : Value) (rest : List Value) (c : Configuration) → TurnTakesOne c.state.todo (runs code o v rest c)
runs_once code None v rest c = tt
runs_once code (Some h) v rest c = runs_callee_once code h.action.callee h.action v rest c

act_once : (code : ThreadCode) (i : Option PlainInstr) (c : Configuration) → SendsLawfully i c.doing → TurnTakesOne c.state.todo (act code i c)
act_once code None c ok = tt
act_once code (Some (Push v)) c ok = takes_none c.state.todo
act_once code (Some (Load i)) c ok = gives_once c c.stack _ (found_once (nth c.locals i) c.state)
act_once code (Some (Store i)) c ok = top_once c.state.todo c.stack _ (λ v rest. takes_none c.state.todo)
act_once code (Some Pop) c ok = top_once c.state.todo c.stack _ (λ v rest. takes_none c.state.todo)
act_once code (Some (Jump to)) c ok = takes_none c.state.todo
act_once code (Some (JumpFalse to)) c ok = top_once c.state.todo c.stack _ (λ v rest. takes_none c.state.todo)
act_once code (Some (CoreOf op args span)) c ok = args_once c.state.todo args c.stack [] _ (λ vs rest. gives_once c rest _ (step_of_once (core op vs) span c.state))
act_once code (Some (CallOf f args)) c ok = args_once c.state.todo args c.stack [] _ (λ vs rest. takes_none c.state.todo)
act_once code (Some Return) c ok = top_once c.state.todo c.stack _ (λ v rest. returns_once c.frames v c)
act_once code (Some (MakeVector items span)) c ok = args_once c.state.todo items c.stack [] _ (λ vs rest. gives_once c rest _ (step_of_once (vector_of vs) span c.state))
act_once code (Some (PrintOf args)) c ok = args_once c.state.todo args c.stack [] _ (λ vs rest. gives_once c rest _ (print_once (is_inside c.doing) vs c.state))
act_once code (Some (TxBegin span)) c ok = begins_once c.doing span c
act_once code (Some TxEnd) c ok = ends_once code c.doing c
act_once code (Some (LookOf by span)) c ok = top_once c.state.todo c.stack _ (λ cell rest. gives_once c rest _ (read_once by (is_inside c.doing) span cell c.state))
act_once code (Some (PutOf by span)) c ok = two_once c.state.todo c.stack _ (λ w cell rest. puts_once code by span w cell rest c)
act_once code (Some (OpenOf by args span)) c ok = args_of_once c.state.todo args c.stack _ (λ vs cell rest. opens_once by span vs cell rest c)
act_once code (Some (CloseOf by span)) c ok = two_once c.state.todo c.stack _ (λ w cell rest. closes_once code by span w cell rest c)
act_once code (Some (SendOf f args span)) c ok = args_of_once c.state.todo args c.stack _ (λ vs cell rest. send_once c.doing ok span cell f vs c.state _ (λ v s h. h))
act_once code (Some Halt) c ok = takes_none c.state.todo
act_once code (Some (TakeOf g)) c ok = on_once c.state.todo c.doing _ _ (take_once g c.state) (λ o s h. started_once c.state.todo g o c s h)
act_once code (Some RunOf) c ok = top_once c.state.todo c.stack _ (λ v rest. runs_once code c.state.acting v rest c)
act_once code (Some (FinishOf g)) c ok = hands_in_once code g c.state.acting (fault_in c.state.acting) c

-- no turn asks twice
pub turn_asks_once : AsksOnce
turn_asks_once code c ok = act_once code (fetch code c.body c.place) c ok
