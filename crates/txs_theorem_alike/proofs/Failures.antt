-- An actor has a try left while few tries have failed.
use Rattle.std.proofs.Common.{◌≡◌, ◌<◌, ◌≤◌, ◌+◌, ℕ, zero, suc, Bool, true, false, List, [], ◌∷◌, map, Option, Some, None, Result, Ok, Err, refl, sym, ap, ◌∙◌, subst, if◌then◌else◌, arith}
use Rattle.txs_world_protocol.specs.Ask.{Writes, buffered, Exchange, same_ask}
use Rattle.txs_world_protocol.proofs.AskLemmas.{same_ask-sound}
use Rattle.txs_world_protocol.specs.declared.ask.Ask.{Ask}
use Rattle.txs_world_protocol.specs.declared.ask.Ask.TheVariants as ask
use Rattle.txs_world_protocol.specs.declared.ask.Reply.{Reply}
use Rattle.txs_world_protocol.specs.declared.ask.Reply.TheVariants as reply
use Rattle.txs_frame.specs.Frame.{commuted, set_writes, set_ref, sends_of_commit}
use Rattle.txs_frame.specs.Phase.{tasks_of, to_write}
use Rattle.txs_frame.specs.declared.frame.Commute.{Commute}
use Rattle.txs_frame.specs.declared.phase.Task.{Task}
use Rattle.txs_frame.specs.declared.phase.Task.TheVariants.{Redoes, Validates}
use Rattle.txs_value_apply.specs.Core.{core, vector_of}
use Rattle.txs_value_cell.specs.Cells.{validator_at}
use Rattle.txs_value_cell.specs.Forms.{rule, cell_of}
use Rattle.txs_value_data.specs.Limits.{reruns}
use Rattle.txs_value_data.specs.Places.{nth, fault_at}
use Rattle.txs_value_cell.specs.declared.action.Action.{Action}
use Rattle.txs_value_data.specs.declared.fault.Fault.{Fault}
use Rattle.txs_value_data.specs.declared.fault.FaultKind.{FaultKind}
use Rattle.txs_value_data.specs.declared.fault.FaultKind.TheVariants.{InvalidState, RetryLimit, AgentFailed}
use Rattle.txs_value_data.specs.declared.fault.Span.{Span}
use Rattle.txs_value_cell.specs.declared.form.CellForm.{CellForm}
use Rattle.txs_value_cell.specs.declared.form.CellForm.TheVariants as form
use Rattle.txs_value_cell.specs.declared.form.LookForm.{LookForm}
use Rattle.txs_value_cell.specs.declared.form.LookForm.TheVariants.{Deref, Ensure}
use Rattle.txs_value_cell.specs.declared.form.PutForm.{PutForm}
use Rattle.txs_value_cell.specs.declared.form.PutForm.TheVariants.{RefSet, Reset}
use Rattle.txs_value_cell.specs.declared.form.UpdateForm.{UpdateForm}
use Rattle.txs_value_cell.specs.declared.form.UpdateForm.TheVariants as update
use Rattle.txs_value_data.specs.declared.op.Callee.{Callee}
use Rattle.txs_value_data.specs.declared.op.Callee.TheVariants as callee
use Rattle.txs_value_data.specs.declared.value.CellId.{CellId}
use Rattle.txs_value_data.specs.declared.value.Value.{Value}
use Rattle.txs_code_meaning.specs.declared.instr.OpenForm.{OpenForm}
use Rattle.txs_code_meaning.specs.declared.instr.OpenForm.TheVariants as open_form
use Rattle.txs_code_meaning.specs.ActorState.{ActorState, Reception, Replied, Unreplied, receives, asks, StepResult, Continue, Break, Redo, Await, Malformed, on_step, step_of, Reading, Says, SaysRetry, SaysNothing, read_as, heard, read_point, just_done, value_there, newest_value, views, Verdict, Landed, Outdated, Undone, Denied, commit_verdict, opened, swap_verdict, send_verdict, sent, Taken, handed_out, begun, begin, fail, buffered_or, look, paired, viewed, view, commit, peek, SwapInHand, open_atom, close_swap, break_swap, reset_atom, send_now, take_action, finish, cell_at, read_cell, read, set_own, assign_cell, assign, RefUpdate, Alters, Commutes, update_form, kept_open, open_update, close_own, close_update, open_swap, send_action, send_to, print, InHand, send_or_hold, held_in, landed, taken_back}
use Rattle.txs_code_meaning.specs.Machine.{back_to, PlainInstr, Push, Load, Store, Pop, Jump, JumpFalse, CoreOf, CallOf, Return, MakeVector, PrintOf, TxBegin, TxEnd, LookOf, PutOf, OpenOf, CloseOf, SendOf, Halt, TakeOf, RunOf, FinishOf, ThreadCode, fetch, Frame, Savepoint, Activity, Outside, Restarting, Running, Applying, Swapping, is_inside, Configuration, Turned, Ended, Failed, Asking, Unfinished, Stuck, and_then, told, raise, try_more, rerun, retried, on, found, on_top, on_args, on_args_of, on_two, gives, starts, begins, decided, lands, settles, arguments_of, applies, ends, returns_to, opens_ref, opens_atom, opens, swap_decided, closes_swap, closes, started, runs_callee, runs, act, turn, run, ends_with, fails_with, hands_in, fault_in, validates, where_accepted, where_valid, works, puts, finishes, Destination, to_stack, to_commutes, to_validation, doing_after, applied, state_after, staying, first_place, rested}
use Rattle.txs_code_meaning.specs.Opening.{opening}
use Rattle.txs_theorem_runs.specs.Staged.{IsStaged}
use Rattle.txs_theorem_runs.specs.Told.{exchange_of}
use Rattle.txs_theorem_alike.specs.TriesLeft.{IsLeft, HasTry}
use Rattle.txs_theorem_alike.specs.Actors.{IsReady}
use Rattle.txs_theorem_alike.specs.Failures.{counts, failures, FewFailuresLeaveTries, RunActorsAreReady}
use Rattle.txs_theorem_alike.proofs.Actors.{staged_takes}

-- ---- replies

-- what is said of a reading, where so many failures are to come, of so many before it
abbrev ReadingFalls : {A : Type 0} → (ℕ → A → ℕ → Type 0) → ℕ → ℕ → Reading A → Type 0
ReadingFalls P f n (Says a) = P f a n
ReadingFalls P f n SaysRetry = suc n ≤ f
ReadingFalls P f n SaysNothing = Unit {0}

-- no more are to come than before
abbrev Free : {A : Type 0} → ℕ → A → ℕ → Type 0
Free f a n = n ≤ f

-- an end that has to be made again is one fewer
abbrev ByVerdict : ℕ → Verdict → ℕ → Type 0
ByVerdict f Landed n = n ≤ f
ByVerdict f Outdated n = suc n ≤ f
ByVerdict f Undone n = suc n ≤ f
ByVerdict f Denied n = n ≤ f

abbrev ReadsFall : {A : Type 0} → Ask → (ℕ → A → ℕ → Type 0) → (Reply → Reading A) → Type 0
ReadsFall q P reads = (r : Reply) (n f : ℕ) → counts q r n ≤ f → ReadingFalls P f n (reads r)

read_point_falls : (q : Ask) → ReadsFall q Free read_point
read_point_falls q (reply.At p) n f h = h
read_point_falls q (reply.Is v) n f h = tt
read_point_falls q (reply.Views p vs) n f h = tt
read_point_falls q reply.Done n f h = tt
read_point_falls q (reply.Retry c) n f h = tt
read_point_falls q (reply.Changed c) n f h = tt
read_point_falls q (reply.AgentIsFailed g) n f h = tt
read_point_falls q (reply.Action i a v) n f h = tt
read_point_falls q reply.Idle n f h = tt
read_point_falls q (reply.Opened p v) n f h = tt
read_point_falls q reply.Full n f h = tt
read_point_falls q reply.Memory n f h = tt

just_done_falls : (q : Ask) → ReadsFall q Free just_done
just_done_falls q (reply.At p) n f h = tt
just_done_falls q (reply.Is v) n f h = tt
just_done_falls q (reply.Views p vs) n f h = tt
just_done_falls q reply.Done n f h = h
just_done_falls q (reply.Retry c) n f h = tt
just_done_falls q (reply.Changed c) n f h = tt
just_done_falls q (reply.AgentIsFailed g) n f h = tt
just_done_falls q (reply.Action i a v) n f h = tt
just_done_falls q reply.Idle n f h = tt
just_done_falls q (reply.Opened p v) n f h = tt
just_done_falls q reply.Full n f h = tt
just_done_falls q reply.Memory n f h = tt

value_there_falls : (q : Ask) → ReadsFall q Free value_there
value_there_falls q (reply.At p) n f h = tt
value_there_falls q (reply.Is v) n f h = h
value_there_falls q (reply.Views p vs) n f h = tt
value_there_falls q reply.Done n f h = tt
value_there_falls q (reply.Retry c) n f h = h
value_there_falls q (reply.Changed c) n f h = tt
value_there_falls q (reply.AgentIsFailed g) n f h = tt
value_there_falls q (reply.Action i a v) n f h = tt
value_there_falls q reply.Idle n f h = tt
value_there_falls q (reply.Opened p v) n f h = tt
value_there_falls q reply.Full n f h = tt
value_there_falls q reply.Memory n f h = tt

newest_value_falls : (q : Ask) → ReadsFall q Free newest_value
newest_value_falls q (reply.At p) n f h = tt
newest_value_falls q (reply.Is v) n f h = h
newest_value_falls q (reply.Views p vs) n f h = tt
newest_value_falls q reply.Done n f h = tt
newest_value_falls q (reply.Retry c) n f h = tt
newest_value_falls q (reply.Changed c) n f h = tt
newest_value_falls q (reply.AgentIsFailed g) n f h = tt
newest_value_falls q (reply.Action i a v) n f h = tt
newest_value_falls q reply.Idle n f h = tt
newest_value_falls q (reply.Opened p v) n f h = tt
newest_value_falls q reply.Full n f h = tt
newest_value_falls q reply.Memory n f h = tt

views_falls : (q : Ask) → ReadsFall q Free views
views_falls q (reply.At p) n f h = tt
views_falls q (reply.Is v) n f h = tt
views_falls q (reply.Views p vs) n f h = h
views_falls q reply.Done n f h = tt
views_falls q (reply.Retry c) n f h = tt
views_falls q (reply.Changed c) n f h = tt
views_falls q (reply.AgentIsFailed g) n f h = tt
views_falls q (reply.Action i a v) n f h = tt
views_falls q reply.Idle n f h = tt
views_falls q (reply.Opened p v) n f h = tt
views_falls q reply.Full n f h = tt
views_falls q reply.Memory n f h = tt

commit_verdict_falls : (p v : ℕ) (sets commuted : Writes) (ensured : List CellId) (sends : List Action) → ReadsFall (ask.Commit p sets ensured v commuted sends) ByVerdict commit_verdict
commit_verdict_falls p v sets commuted ensured sends (reply.At i) n f h = tt
commit_verdict_falls p v sets commuted ensured sends (reply.Is u) n f h = tt
commit_verdict_falls p v sets commuted ensured sends (reply.Views i vs) n f h = tt
commit_verdict_falls p v sets commuted ensured sends reply.Done n f h = h
commit_verdict_falls p v sets commuted ensured sends (reply.Retry c) n f h = h
commit_verdict_falls p v sets commuted ensured sends (reply.Changed c) n f h = h
commit_verdict_falls p v sets commuted ensured sends (reply.AgentIsFailed g) n f h = h
commit_verdict_falls p v sets commuted ensured sends (reply.Action i a u) n f h = tt
commit_verdict_falls p v sets commuted ensured sends reply.Idle n f h = tt
commit_verdict_falls p v sets commuted ensured sends (reply.Opened i u) n f h = tt
commit_verdict_falls p v sets commuted ensured sends reply.Full n f h = tt
commit_verdict_falls p v sets commuted ensured sends reply.Memory n f h = tt

opened_falls : (q : Ask) → ReadsFall q Free opened
opened_falls q (reply.At p) n f h = tt
opened_falls q (reply.Is v) n f h = tt
opened_falls q (reply.Views p vs) n f h = tt
opened_falls q reply.Done n f h = tt
opened_falls q (reply.Retry c) n f h = tt
opened_falls q (reply.Changed c) n f h = tt
opened_falls q (reply.AgentIsFailed g) n f h = tt
opened_falls q (reply.Action i a v) n f h = tt
opened_falls q reply.Idle n f h = tt
opened_falls q (reply.Opened p v) n f h = h
opened_falls q reply.Full n f h = tt
opened_falls q reply.Memory n f h = tt

swap_verdict_falls : (c : CellId) (p : ℕ) (v : Value) → ReadsFall (ask.CloseAt c (Some p) v) Free swap_verdict
swap_verdict_falls e p v (reply.At i) n f h = tt
swap_verdict_falls e p v (reply.Is u) n f h = tt
swap_verdict_falls e p v (reply.Views i vs) n f h = tt
swap_verdict_falls e p v reply.Done n f h = h
swap_verdict_falls e p v (reply.Retry c) n f h = tt
swap_verdict_falls e p v (reply.Changed c) n f h = h
swap_verdict_falls e p v (reply.AgentIsFailed g) n f h = tt
swap_verdict_falls e p v (reply.Action i a u) n f h = tt
swap_verdict_falls e p v reply.Idle n f h = tt
swap_verdict_falls e p v (reply.Opened i u) n f h = tt
swap_verdict_falls e p v reply.Full n f h = tt
swap_verdict_falls e p v reply.Memory n f h = tt

send_verdict_falls : (q : Ask) → ReadsFall q Free send_verdict
send_verdict_falls q (reply.At p) n f h = tt
send_verdict_falls q (reply.Is v) n f h = tt
send_verdict_falls q (reply.Views p vs) n f h = tt
send_verdict_falls q reply.Done n f h = h
send_verdict_falls q (reply.Retry c) n f h = tt
send_verdict_falls q (reply.Changed c) n f h = tt
send_verdict_falls q (reply.AgentIsFailed g) n f h = h
send_verdict_falls q (reply.Action i a v) n f h = tt
send_verdict_falls q reply.Idle n f h = tt
send_verdict_falls q (reply.Opened p v) n f h = tt
send_verdict_falls q reply.Full n f h = tt
send_verdict_falls q reply.Memory n f h = tt

handed_out_falls : (q : Ask) → ReadsFall q Free handed_out
handed_out_falls q (reply.At p) n f h = tt
handed_out_falls q (reply.Is v) n f h = tt
handed_out_falls q (reply.Views p vs) n f h = tt
handed_out_falls q reply.Done n f h = tt
handed_out_falls q (reply.Retry c) n f h = tt
handed_out_falls q (reply.Changed c) n f h = tt
handed_out_falls q (reply.AgentIsFailed g) n f h = tt
handed_out_falls q (reply.Action i a v) n f h = h
handed_out_falls q reply.Idle n f h = h
handed_out_falls q (reply.Opened p v) n f h = tt
handed_out_falls q reply.Full n f h = tt
handed_out_falls q reply.Memory n f h = tt

taken_back_falls : (q : Ask) → ReadsFall q Free taken_back
taken_back_falls q (reply.At p) n f h = tt
taken_back_falls q (reply.Is v) n f h = tt
taken_back_falls q (reply.Views p vs) n f h = tt
taken_back_falls q reply.Done n f h = h
taken_back_falls q (reply.Retry c) n f h = tt
taken_back_falls q (reply.Changed c) n f h = tt
taken_back_falls q (reply.AgentIsFailed g) n f h = h
taken_back_falls q (reply.Action i a v) n f h = tt
taken_back_falls q reply.Idle n f h = tt
taken_back_falls q (reply.Opened p v) n f h = tt
taken_back_falls q reply.Full n f h = tt
taken_back_falls q reply.Memory n f h = tt

-- ---- steps

abbrev many : ActorState → ℕ
many s = failures s.todo

abbrev StepFalls : {A : Type 0} → (ℕ → A → ℕ → Type 0) → ℕ → StepResult A → Type 0
StepFalls P f (Continue a s) = P f a (many s)
StepFalls P f (Break x s) = many s ≤ f
StepFalls P f (Redo s) = suc (many s) ≤ f
StepFalls P f (Await s) = Unit {0}
StepFalls P f Malformed = Unit {0}

abbrev Falls : {A : Type 0} → ℕ → StepResult A → Type 0
Falls f x = StepFalls Free f x

abbrev ReceptionFalls : Ask → ℕ → Reception → Type 0
ReceptionFalls q f (Replied r s) = counts q r (many s) ≤ f
ReceptionFalls q f (Unreplied s) = Unit {0}

itself : (n : ℕ) → n ≤ n
itself n = omega arith

asks_fall : (q : Ask) (s : ActorState) → ReceptionFalls q (many s) (asks q s)
unfolding asks
asks_fall q s = go s.todo
  where
    go : (l : List Exchange) → ReceptionFalls q (failures l) (receives q s l)
    go [] = tt
    go (x ∷ l) = test (same_ask q x.ask) refl
      where
        test : (b : Bool) → same_ask q x.ask ≡ b → ReceptionFalls q (failures (x ∷ l)) (if b then Replied x.reply (record s { todo = l }) else Unreplied (record s { wants = Some q }))
        test true e = subst (λ p. counts p x.reply (failures l) ≤ counts x.ask x.reply (failures l)) (sym (same_ask-sound q x.ask e)) (itself (counts x.ask x.reply (failures l)))
        test false e = tt

reading_falls : {A : Type 0} (P : ℕ → A → ℕ → Type 0) (f : ℕ) (r : Reading A) (s : ActorState) → ReadingFalls P f (many s) r → StepFalls P f (read_as r s)
reading_falls P f (Says a) s h = h
reading_falls P f SaysRetry s h = h
reading_falls P f SaysNothing s h = tt

heard_falls : {A : Type 0} (q : Ask) (P : ℕ → A → ℕ → Type 0) (f : ℕ) (reads : Reply → Reading A) → ReadsFall q P reads → (h : Reception) → ReceptionFalls q f h → StepFalls P f (heard reads h)
heard_falls q P f reads falls (Replied r s) h = reading_falls P f (reads r) s (falls r (many s) f h)
heard_falls q P f reads falls (Unreplied s) h = tt

this_falls : {A : Type 0} (P : ℕ → A → ℕ → Type 0) (reads : Reply → Reading A) (q : Ask) → ReadsFall q P reads → (s : ActorState) → StepFalls P (many s) (heard reads (asks q s))
this_falls P reads q falls s = heard_falls q P (many s) reads falls (asks q s) (asks_fall q s)

ask_falls : {A : Type 0} (P : ℕ → A → ℕ → Type 0) (reads : Reply → Reading A) → ((q : Ask) → ReadsFall q P reads) → (q : Ask) (s : ActorState) → StepFalls P (many s) (heard reads (asks q s))
ask_falls P reads falls q s = this_falls P reads q (falls q) s

then_falls : {A B : Type 0} (P : ℕ → A → ℕ → Type 0) (Q : ℕ → B → ℕ → Type 0) (f : ℕ) (x : StepResult A) (go : A → ActorState → StepResult B) → StepFalls P f x → ((a : A) (s : ActorState) → P f a (many s) → StepFalls Q f (go a s)) → StepFalls Q f (on_step x go)
then_falls P Q f (Continue a s) go h k = k a s h
then_falls P Q f (Break x s) go h k = h
then_falls P Q f (Redo s) go h k = h
then_falls P Q f (Await s) go h k = tt
then_falls P Q f Malformed go h k = tt

step_of_falls : {A : Type 0} (r : Result A FaultKind) (span : Span) (s : ActorState) → Falls (many s) (step_of r span s)
step_of_falls (Ok a) span s = itself (many s)
step_of_falls (Err k) span s = itself (many s)

begin_falls : (s : ActorState) → Falls (many s) (begin s)
unfolding begin
begin_falls s = then_falls Free Free (many s) (heard read_point (asks ask.Begin s)) begun (ask_falls Free read_point read_point_falls ask.Begin s) (λ p s1 h. h)

fail_falls : (s : ActorState) → Falls (many s) (fail s)
unfolding fail
fail_falls s = ask_falls Free just_done just_done_falls (ask.Fail s.at s.view) s

own_falls : (s : ActorState) (o : Option Value) (x : StepResult Value) → Falls (many s) x → Falls (many s) (buffered_or o s x)
own_falls s (Some v) x h = itself (many s)
own_falls s None x h = h

look_falls : (c : CellId) (s : ActorState) → Falls (many s) (look c s)
unfolding look
look_falls c s = own_falls s (buffered s.done.values c.number) (heard value_there (asks (ask.Look c s.at) s)) (ask_falls Free value_there value_there_falls (ask.Look c s.at) s)

viewed_falls : (f q : ℕ) (o : Option Writes) (s : ActorState) → many s ≤ f → Falls f (viewed q o s)
viewed_falls f q None s h = tt
viewed_falls f q (Some ws) s h = h

view_falls : (s : ActorState) → Falls (many s) (view s)
unfolding view
view_falls s =
    let q = ask.View (commuted s.done) in
    then_falls Free Free (many s) (heard views (asks q s)) (λ x s1. viewed x.0 (paired (commuted s.done) x.1) s1) (ask_falls Free views views_falls q s) (λ x s1 h. viewed_falls (many s) x.0 (paired (commuted s.done) x.1) s1 h)

landed_falls : (f : ℕ) (v : Verdict) (s : ActorState) → ByVerdict f v (many s) → StepFalls ByVerdict f (landed v s)
landed_falls f Landed s h = h
landed_falls f Outdated s h = h
landed_falls f Undone s h = h
landed_falls f Denied s h = h

commit_falls : (ws : Writes) (s : ActorState) → StepFalls ByVerdict (many s) (commit ws s)
unfolding commit
commit_falls ws s =
    let q = ask.Commit s.at (set_writes s.done) s.done.ensures s.view ws (sends_of_commit (held_in s.acting) s.done.sends) in
    then_falls ByVerdict ByVerdict (many s) (heard commit_verdict (asks q s)) landed (this_falls ByVerdict commit_verdict q (commit_verdict_falls s.at s.view (set_writes s.done) ws s.done.ensures (sends_of_commit (held_in s.acting) s.done.sends)) s) (landed_falls (many s))

peek_falls : (c : CellId) (s : ActorState) → Falls (many s) (peek c s)
unfolding peek
peek_falls c s = ask_falls Free newest_value newest_value_falls (ask.Peek c) s

open_atom_falls : (c : CellId) (s : ActorState) → Falls (many s) (open_atom c s)
unfolding open_atom
open_atom_falls c s = then_falls Free Free (many s) (heard opened (asks (ask.OpenAt c) s)) _ (ask_falls Free opened opened_falls (ask.OpenAt c) s) (λ x s1 h. h)

close_swap_falls : (w : SwapInHand) (v : Value) (s : ActorState) → Falls (many s) (close_swap w v s)
unfolding close_swap
close_swap_falls w v s = this_falls Free swap_verdict (ask.CloseAt w.cell (Some w.at) v) (swap_verdict_falls w.cell w.at v) s

break_swap_falls : (w : SwapInHand) (s : ActorState) → Falls (many s) (break_swap w s)
unfolding break_swap
break_swap_falls w s = ask_falls Free just_done just_done_falls (ask.Broke w.cell w.at) s

reset_falls : (c : CellId) (v : Value) (s : ActorState) → Falls (many s) (reset_atom c v s)
unfolding reset_atom
reset_falls c v s = then_falls Free Free (many s) (heard just_done (asks (ask.CloseAt c None v) s)) _ (ask_falls Free just_done just_done_falls (ask.CloseAt c None v) s) (λ u s1 h. h)

sent_falls : (f : ℕ) (a : Action) (v : Verdict) (s : ActorState) → many s ≤ f → Falls f (sent a v s)
sent_falls f a Landed s h = h
sent_falls f a Outdated s h = tt
sent_falls f a Undone s h = tt
sent_falls f a Denied s h = h

send_now_falls : (a : Action) (s : ActorState) → Falls (many s) (send_now a s)
unfolding send_now
send_now_falls a s = then_falls Free Free (many s) (heard send_verdict (asks (ask.Send a) s)) (sent a) (ask_falls Free send_verdict send_verdict_falls (ask.Send a) s) (λ v s1 h. sent_falls (many s) a v s1 h)

take_falls : (g : CellId) (s : ActorState) → Falls (many s) (take_action g s)
unfolding take_action
take_falls g s = ask_falls Free handed_out handed_out_falls (ask.Take g) s

finish_falls : (g : CellId) (new : Result Value Fault) (sends : List Action) (s : ActorState) → Falls (many s) (finish g new sends s)
unfolding finish
finish_falls g new sends s = ask_falls Free taken_back taken_back_falls (ask.Finish g new sends) s

-- ---- forms

abbrev at_most : {A : Type 0} (f n : ℕ) (x : StepResult A) → Type 0
at_most f n x = Falls f x

less_falls : {A : Type 0} (f n : ℕ) (x : StepResult A) → n ≤ f → Falls n x → Falls f x
less_falls f n (Continue a s) l h = omega (arith, l, h)
less_falls f n (Break x s) l h = omega (arith, l, h)
less_falls f n (Redo s) l h = omega (arith, l, h)
less_falls f n (Await s) l h = tt
less_falls f n Malformed l h = tt

-- a cell, and what is done with it
cell_falls : {B : Type 0} (form : CellForm) (inside : Bool) (span : Span) (v : Value) (s : ActorState) (go : CellId → ActorState → StepResult B) → ((c : CellId) (s1 : ActorState) → Falls (many s1) (go c s1)) → Falls (many s) (on_step (cell_at form inside span v s) go)
cell_falls form inside span v s go k = then_falls Free Free (many s) (cell_at form inside span v s) go (step_of_falls (cell_of (rule form) inside v) span s) (λ c s1 h. less_falls (many s) (many s1) (go c s1) h (k c s1))

read_cell_falls : (f : LookForm) (inside : Bool) (c : CellId) (s : ActorState) → Falls (many s) (read_cell f inside c s)
read_cell_falls Deref true c s = look_falls c s
read_cell_falls Deref false c s = peek_falls c s
read_cell_falls Ensure true c s = then_falls Free Free (many s) (look c s) _ (look_falls c s) (λ v s1 h. h)
read_cell_falls Ensure false c s = tt

read_falls : (f : LookForm) (inside : Bool) (span : Span) (v : Value) (s : ActorState) → Falls (many s) (read f inside span v s)
read_falls f inside span v s = cell_falls (form.Look f) inside span v s (read_cell f inside) (read_cell_falls f inside)

set_falls : (span : Span) (v : Value) (c : CellId) (s : ActorState) → Falls (many s) (set_own span v c s)
set_falls span v c s = then_falls Free Free (many s) (step_of (set_ref c v s.done) span s) _ (step_of_falls (set_ref c v s.done) span s) (λ w s1 h. h)

assign_cell_falls : (f : PutForm) (inside : Bool) (span : Span) (v : Value) (c : CellId) (s : ActorState) → Falls (many s) (assign_cell f inside span v c s)
assign_cell_falls RefSet true span v c s = set_falls span v c s
assign_cell_falls RefSet false span v c s = tt
assign_cell_falls Reset false span v c s = reset_falls c v s
assign_cell_falls Reset true span v c s = tt

assign_falls : (f : PutForm) (inside : Bool) (span : Span) (c v : Value) (s : ActorState) → Falls (many s) (assign f inside span c v s)
assign_falls f inside span c v s = cell_falls (form.Put f) inside span c s (assign_cell f inside span v) (assign_cell_falls f inside span v)

open_update_falls : (u : RefUpdate) (inside : Bool) (span : Span) (v : Value) (vs : List Value) (s : ActorState) → Falls (many s) (open_update u inside span v vs s)
open_update_falls u false span v vs s = tt
open_update_falls u true span v vs s =
    let open_look : CellId → ActorState → StepResult Value = λ c s1. on_step (look c s1) (λ x s2. Continue x (record s2 { commuting = kept_open u c vs })) in
    cell_falls (form.Update (update_form u)) true span v s open_look (λ c s1. then_falls Free Free (many s1) (look c s1) _ (look_falls c s1) (λ x s2 h. h))

close_own_falls : (o : Option Commute) (span : Span) (w : Value) (c : CellId) (s : ActorState) → Falls (many s) (close_own o span w c s)
close_own_falls None span w c s = set_falls span w c s
close_own_falls (Some o) span w c s = itself (many s)

close_update_falls : (span : Span) (v w : Value) (s : ActorState) → Falls (many s) (close_update span v w s)
close_update_falls span v w s = cell_falls (form.Update update.Alter) true span v s (close_own s.commuting span w) (close_own_falls s.commuting span w)

open_swap_falls : (inside : Bool) (span : Span) (v : Value) (s : ActorState) → Falls (many s) (open_swap inside span v s)
open_swap_falls true span v s = tt
open_swap_falls false span v s = cell_falls (form.Update update.Swap) false span v s open_atom open_atom_falls

send_action_falls : (inside : Bool) (a : Action) (s : ActorState) → Falls (many s) (send_action inside a s)
send_action_falls true a s = itself (many s)
send_action_falls false a s = or_hold s.acting
  where
    or_hold : (o : Option InHand) → Falls (many s) (send_or_hold o a s)
    or_hold None = send_now_falls a s
    or_hold (Some h) = itself (many s)

send_falls : (inside : Bool) (span : Span) (v : Value) (callee : Callee) (vs : List Value) (s : ActorState) → Falls (many s) (send_to inside span v callee vs s)
send_falls inside span v callee vs s =
    let action : CellId → Action = λ g. record { agent = g; callee = callee; args = vs; span = span } in
    cell_falls form.Send inside span v s (λ g s1. send_action inside (action g) s1) (λ g s1. send_action_falls inside (action g) s1)

print_falls : (inside : Bool) (vs : List Value) (s : ActorState) → Falls (many s) (print inside vs s)
unfolding print
print_falls true vs s = tt
print_falls false vs s = itself (many s)

found_falls : (o : Option Value) (s : ActorState) → Falls (many s) (found o s)
found_falls None s = tt
found_falls (Some v) s = itself (many s)

-- ---- turns

module _ (all : ℕ) where
  -- the tries that are left, and those that failed, are no fewer than a transaction has
  abbrev IsEnough : ℕ → ℕ → Type 0
  IsEnough left n = reruns + n ≤ left + all

  abbrev Enough : Activity → ℕ → Type 0
  Enough Outside n = Unit {0}
  Enough (Restarting left) n = IsEnough left n
  Enough (Running left inner from) n = IsEnough left n
  Enough (Applying left from work values) n = IsEnough left n
  Enough (Swapping swap from) n = Unit {0}

  abbrev Here : Configuration → Type 0
  Here c = (many c.state ≤ all) × Enough c.doing (many c.state)

  abbrev Keeps : Turned Configuration → Type 0
  Keeps (Ended s) = Unit {0}
  Keeps (Failed f s) = Unit {0}
  Keeps (Asking s) = Unit {0}
  Keeps (Unfinished c) = Here c
  Keeps Stuck = Unit {0}

  fewer : (doing : Activity) (f n : ℕ) → n ≤ f → Enough doing f → Enough doing n
  fewer Outside f n l h = tt
  fewer (Restarting left) f n l h = omega (arith, l, h)
  fewer (Running left inner from) f n l h = omega (arith, l, h)
  fewer (Applying left from work values) f n l h = omega (arith, l, h)
  fewer (Swapping swap from) f n l h = tt

  within : (f n : ℕ) → n ≤ f → f ≤ all → n ≤ all
  within f n l h = omega (arith, l, h)

  on_here : (c : Configuration) → Here c → (n : ℕ) → n ≤ many c.state → (n ≤ all) × Enough c.doing n
  on_here c h n l = (within (many c.state) n l h.0, fewer c.doing (many c.state) n l h.1)

  told_keeps : (f : ℕ) → f ≤ all → (x : StepResult (Unit {0})) (go : ActorState → Turned Configuration) → Falls f x → ((s : ActorState) → many s ≤ all → Keeps (go s)) → Keeps (told x go)
  told_keeps f l (Continue u s) go h k = k s (within f (many s) h l)
  told_keeps f l (Break x s) go h k = tt
  told_keeps f l (Redo s) go h k = tt
  told_keeps f l (Await s) go h k = tt
  told_keeps f l Malformed go h k = tt

  fails_keep : (o : Option InHand) (f : Fault) (s : ActorState) → many s ≤ all → Keeps (fails_with o f s)
  fails_keep None f s h = tt
  fails_keep (Some x) f s h = (h, tt)

  over_keeps : (o : Option InHand) (f : Fault) (s : ActorState) → many s ≤ all → Keeps (ends_with o f s)
  over_keeps None f s h = tt
  over_keeps (Some x) f s h = told_keeps (many s) h (finish x.agent (Err f) [] s) _ (finish_falls x.agent (Err f) [] s) (λ s1 l. (l, tt))

  raise_keeps : (doing : Activity) (f : Fault) (s : ActorState) → many s ≤ all → Keeps (raise doing f s)
  raise_keeps Outside f s h = over_keeps s.acting f s h
  raise_keeps (Restarting left) f s h = fails_keep s.acting f s h
  raise_keeps (Running left inner from) f s h = told_keeps (many s) h (fail s) _ (fail_falls s) (λ s1 l. fails_keep s1.acting f s1 l)
  raise_keeps (Applying left from work values) f s h = told_keeps (many s) h (fail s) _ (fail_falls s) (λ s1 l. fails_keep s1.acting f s1 l)
  raise_keeps (Swapping swap from) f s h = told_keeps (many s) h (break_swap swap s) _ (break_swap_falls swap s) (λ s1 l. fails_keep s1.acting f s1 l)

  -- a try that failed is counted
  try_keeps : (left f : ℕ) (from : Savepoint) (s : ActorState) (go : ℕ → Configuration) → f ≤ all → IsEnough left f → suc (many s) ≤ f → ((k : ℕ) → many s ≤ all → IsEnough k (many s) → Keeps (Unfinished (go k))) → Keeps (try_more left from s go)
  try_keeps zero f from s go l e h k = fails_keep s.acting (fault_at RetryLimit from.span) s (omega (arith, l, h))
  try_keeps (suc left) f from s go l e h k = k left (omega (arith, l, h)) (omega (arith, e, h))

  rerun_keeps : (left f : ℕ) (from : Savepoint) (s : ActorState) → f ≤ all → IsEnough left f → suc (many s) ≤ f → Keeps (rerun left from s)
  rerun_keeps left f from s l e h = try_keeps left f from s (λ k. back_to from (Restarting k) s) l e h (λ k m n. (m, n))

  retried_keeps : (doing : Activity) (f : ℕ) (s : ActorState) → f ≤ all → Enough doing f → suc (many s) ≤ f → Keeps (retried doing s)
  retried_keeps Outside f s l e h = tt
  retried_keeps (Restarting left) f s l e h = tt
  retried_keeps (Running left inner from) f s l e h = rerun_keeps left f from s l e h
  retried_keeps (Applying left from work values) f s l e h = tt
  retried_keeps (Swapping swap from) f s l e h = tt

  on_by : {A : Type 0} (P : ℕ → A → ℕ → Type 0) (c : Configuration) → Here c → (x : StepResult A) (go : A → ActorState → Turned Configuration) → StepFalls P (many c.state) x → ((v : A) (s : ActorState) → P (many c.state) v (many s) → Keeps (go v s)) → Keeps (on c.doing x go)
  on_by P c h (Continue v s) go e k = k v s e
  on_by P c h (Break f s) go e k = raise_keeps c.doing f s (within (many c.state) (many s) e h.0)
  on_by P c h (Redo s) go e k = retried_keeps c.doing (many c.state) s h.0 h.1 e
  on_by P c h (Await s) go e k = tt
  on_by P c h Malformed go e k = tt

  on_keeps : {A : Type 0} (c : Configuration) → Here c → (x : StepResult A) (go : A → ActorState → Turned Configuration) → Falls (many c.state) x → ((v : A) (s : ActorState) → many s ≤ many c.state → Keeps (go v s)) → Keeps (on c.doing x go)
  on_keeps c h x go e k = on_by Free c h x go e k

  gives_keeps : (c : Configuration) → Here c → (rest : List Value) (x : StepResult Value) → Falls (many c.state) x → Keeps (gives c rest x)
  gives_keeps c h rest x e = on_keeps c h x _ e (λ v s l. on_here c h (many s) l)

  top_keeps : (stack : List Value) (a : Value → List Value → Turned Configuration) → ((v : Value) (rest : List Value) → Keeps (a v rest)) → Keeps (on_top stack a)
  top_keeps [] a k = tt
  top_keeps (v ∷ stack) a k = k v stack

  args_keep : (m : ℕ) (stack vs : List Value) (a : List Value → List Value → Turned Configuration) → ((ws rest : List Value) → Keeps (a ws rest)) → Keeps (on_args m stack vs a)
  args_keep zero stack vs a k = k vs stack
  args_keep (suc m) [] vs a k = tt
  args_keep (suc m) (v ∷ stack) vs a k = args_keep m stack (v ∷ vs) a k

  args_of_keep : (m : ℕ) (stack : List Value) (a : List Value → Value → List Value → Turned Configuration) → ((ws : List Value) (v : Value) (rest : List Value) → Keeps (a ws v rest)) → Keeps (on_args_of m stack a)
  args_of_keep m stack a k = args_keep m stack [] _ (λ ws under. top_keeps under _ (k ws))

  two_keep : (stack : List Value) (a : Value → Value → List Value → Turned Configuration) → ((w v : Value) (rest : List Value) → Keeps (a w v rest)) → Keeps (on_two stack a)
  two_keep stack a k = top_keeps stack _ (λ w under. top_keeps under _ (k w))

  starts_keep : (left : ℕ) (span : Span) (c : Configuration) → Here c → IsEnough left (many c.state) → Keeps (starts left span c)
  starts_keep left span c h e = on_keeps c h (begin c.state) _ (begin_falls c.state) (λ u s l. (within (many c.state) (many s) l h.0, omega (arith, e, l)))

  begins_keep : (doing : Activity) (span : Span) (c : Configuration) → Here c → Enough doing (many c.state) → Keeps (begins doing span c)
  begins_keep Outside span c h e = starts_keep reruns span c h (omega (arith, h.0))
  begins_keep (Restarting left) span c h e = starts_keep left span c h e
  begins_keep (Running left inner from) span c h e = (h.0, e)
  begins_keep (Applying left from work values) span c h e = tt
  begins_keep (Swapping swap from) span c h e = tt

  decided_keeps : (v : Verdict) (left f : ℕ) (from : Savepoint) (c : Configuration) (s : ActorState) → f ≤ all → IsEnough left f → ByVerdict f v (many s) → Keeps (decided v left from c s)
  decided_keeps Landed left f from c s l e h = (within f (many s) h l, tt)
  decided_keeps Outdated left f from c s l e h = try_keeps left f from s (λ k. staying (Running k 0 from) s c) l e h (λ k m n. (m, n))
  decided_keeps Undone left f from c s l e h = rerun_keeps left f from s l e h
  decided_keeps Denied left f from c s l e h = fails_keep s.acting (fault_at AgentFailed from.span) s (within f (many s) h l)

  lands_keep : (left : ℕ) (from : Savepoint) (ws : Writes) (c : Configuration) → Here c → IsEnough left (many c.state) → Keeps (lands left from ws c)
  lands_keep left from ws c h e = on_by ByVerdict c h (commit ws c.state) _ (commit_falls ws c.state) (λ v s l. decided_keeps v left (many c.state) from c s h.0 e l)

  applies_keep : (code : ThreadCode) (f : Callee) (left : ℕ) (from : Savepoint) (k : Commute) (work : List Task) (ws : Writes) (c : Configuration) → Here c → IsEnough left (many c.state) → Keeps (applies code f left from k work ws c)
  applies_keep code (callee.Core op) left from k work ws c h e = on_keeps c h (step_of (core op (arguments_of k ws)) from.span c.state) _ (step_of_falls (core op (arguments_of k ws)) from.span c.state) (λ v s l. (within (many c.state) (many s) l h.0, omega (arith, e, l)))
  applies_keep code (callee.Function f) left from k work ws c h e = h

  validates_keep : (code : ThreadCode) (f : Callee) (v : Value) (span : Span) (c : Configuration) → Here c → Keeps (validates code f v span c)
  validates_keep code (callee.Core op) v span c h = on_keeps c h (step_of (core op (v ∷ [])) span c.state) _ (step_of_falls (core op (v ∷ [])) span c.state) (λ a s l. on_here c h (many s) l)
  validates_keep code (callee.Function f) v span c h = h

  accepted_keeps : (code : ThreadCode) (o : Option Bool) (f : Callee) (v : Value) (span : Span) (c : Configuration) → Here c → (a : Configuration → Turned Configuration)
      → ((c1 : Configuration) → Here c1 → many c1.state ≤ many c.state → Keeps (a c1)) → Keeps (where_accepted code o f v span c a)
  accepted_keeps code None f v span c h a k = validates_keep code f v span c h
  accepted_keeps code (Some true) f v span c h a k = k (record c { state = record c.state { accepted = None } }) h (itself (many c.state))
  accepted_keeps code (Some false) f v span c h a k = raise_keeps c.doing (fault_at InvalidState span) (record c.state { accepted = None }) h.0

  valid_keeps : (code : ThreadCode) (o : Option Callee) (v : Value) (span : Span) (c : Configuration) → Here c → (a : Configuration → Turned Configuration)
      → ((c1 : Configuration) → Here c1 → many c1.state ≤ many c.state → Keeps (a c1)) → Keeps (where_valid code o v span c a)
  valid_keeps code None v span c h a k = k c h (itself (many c.state))
  valid_keeps code (Some f) v span c h a k = accepted_keeps code c.state.accepted f v span c h a k

  works_keep : (code : ThreadCode) (left : ℕ) (from : Savepoint) (work : List Task) (ws : Writes) (c : Configuration) → Here c → IsEnough left (many c.state) → Keeps (works code left from work ws c)
  works_keep code left from [] ws c h e = lands_keep left from ws c h e
  works_keep code left from (Redoes k ∷ work) ws c h e = applies_keep code k.callee left from k work ws c h e
  works_keep code left from (Validates r f ∷ work) ws c h e =
      accepted_keeps code c.state.accepted f (to_write ws c.state.done r.number) from.span (staying (Applying left from (Validates r f ∷ work) ws) c.state c) (h.0, e) (λ c1. works code left from work ws (staying (Applying left from work ws) c1.state c1))
      (λ c1 h1 l. works_keep code left from work ws (staying (Applying left from work ws) c1.state c1) (h1.0, omega (arith, e, l)) (omega (arith, e, l)))

  settles_keep : (code : ThreadCode) (cs : List CellId) (left : ℕ) (from : Savepoint) (c : Configuration) → Here c → IsEnough left (many c.state) → Keeps (settles code cs left from c)
  settles_keep code [] left from c h e = works_keep code left from (tasks_of code.validators c.state.done) [] c h e
  settles_keep code (d ∷ cs) left from c h e = on_keeps c h (view c.state) _ (view_falls c.state) (λ ws s l. (within (many c.state) (many s) l h.0, omega (arith, e, l)))

  ends_keep : (code : ThreadCode) (doing : Activity) (c : Configuration) → Here c → Enough doing (many c.state) → Keeps (ends code doing c)
  ends_keep code Outside c h e = tt
  ends_keep code (Restarting left) c h e = tt
  ends_keep code (Running left (suc inner) from) c h e = (h.0, e)
  ends_keep code (Running left zero from) c h e = settles_keep code (commuted c.state.done) left from c h e
  ends_keep code (Applying left from work ws) c h e = works_keep code left from work ws c h e
  ends_keep code (Swapping swap from) c h e = tt

  applied_keeps : (v : Value) (n : ℕ) (doing : Activity) → Enough doing n → Enough (applied v doing) n
  applied_keeps v n Outside h = h
  applied_keeps v n (Restarting left) h = h
  applied_keeps v n (Running left inner from) h = h
  applied_keeps v n (Applying left from [] values) h = h
  applied_keeps v n (Applying left from (Redoes k ∷ work) values) h = h
  applied_keeps v n (Applying left from (Validates r f ∷ work) values) h = h
  applied_keeps v n (Swapping swap from) h = h

  returns_keep : (frames : List Frame) (v : Value) (c : Configuration) → Here c → Keeps (returns_to frames v c)
  returns_keep [] v c h = tt
  returns_keep (f ∷ frames) v c h = by f.awaits
    where
      by : (d : Destination) → (many (state_after d v c.state) ≤ all) × Enough (doing_after d v c.doing) (many (state_after d v c.state))
      by to_stack = h
      by to_commutes = (h.0, applied_keeps v (many c.state) c.doing h.1)
      by to_validation = h

  opens_ref_keep : (u : RefUpdate) (span : Span) (vs : List Value) (cell : Value) (rest : List Value) (c : Configuration) → Here c → Keeps (opens_ref u span vs cell rest c)
  opens_ref_keep u span vs cell rest c h = on_keeps c h (open_update u (is_inside c.doing) span cell vs c.state) _ (open_update_falls u (is_inside c.doing) span cell vs c.state) (λ v s l. on_here c h (many s) l)

  opens_atom_keep : (doing : Activity) (span : Span) (vs : List Value) (cell : Value) (rest : List Value) (c : Configuration) → Here c → Keeps (opens_atom doing span vs cell rest c)
  opens_atom_keep Outside span vs cell rest c h = on_keeps c h (open_swap false span cell c.state) _ (open_swap_falls false span cell c.state) (λ o s l. (within (many c.state) (many s) l h.0, tt))
  opens_atom_keep (Restarting left) span vs cell rest c h = tt
  opens_atom_keep (Running left inner from) span vs cell rest c h = tt
  opens_atom_keep (Applying left from work values) span vs cell rest c h = tt
  opens_atom_keep (Swapping swap from) span vs cell rest c h = tt

  opens_keep : (form : OpenForm) (span : Span) (vs : List Value) (cell : Value) (rest : List Value) (c : Configuration) → Here c → Keeps (opens form span vs cell rest c)
  opens_keep open_form.Alter span vs cell rest c h = opens_ref_keep Alters span vs cell rest c h
  opens_keep (open_form.Commute f) span vs cell rest c h = opens_ref_keep (Commutes f) span vs cell rest c h
  opens_keep (open_form.Swap f) span vs cell rest c h = opens_atom_keep c.doing span vs cell rest c h

  swap_decided_keeps : (v : Verdict) (from : Savepoint) (w : Value) (rest : List Value) (c : Configuration) (s : ActorState) → many s ≤ all → Keeps (swap_decided v from w rest c s)
  swap_decided_keeps Landed from w rest c s h = (h, tt)
  swap_decided_keeps Outdated from w rest c s h = (h, tt)
  swap_decided_keeps Undone from w rest c s h = tt
  swap_decided_keeps Denied from w rest c s h = tt

  closes_swap_keep : (code : ThreadCode) (doing : Activity) (w : Value) (rest : List Value) (c : Configuration) → Here c → Keeps (closes_swap code doing w rest c)
  closes_swap_keep code (Swapping swap from) w rest c h =
      valid_keeps code (validator_at code.validators swap.cell.number) w from.span c h (λ c1. on c1.doing (close_swap swap w c1.state) (λ verdict s. swap_decided verdict from w rest c1 s))
      (λ c1 h1 l. on_keeps c1 h1 (close_swap swap w c1.state) _ (close_swap_falls swap w c1.state) (λ v s m. swap_decided_keeps v from w rest c1 s (within (many c1.state) (many s) m h1.0)))
  closes_swap_keep code Outside w rest c h = tt
  closes_swap_keep code (Restarting left) w rest c h = tt
  closes_swap_keep code (Running left inner from) w rest c h = tt
  closes_swap_keep code (Applying left from work values) w rest c h = tt

  puts_keep : (code : ThreadCode) (f : PutForm) (span : Span) (w cell : Value) (rest : List Value) (c : Configuration) → Here c → Keeps (puts code f span w cell rest c)
  puts_keep code RefSet span w cell rest c h = gives_keeps c h rest _ (assign_falls RefSet (is_inside c.doing) span cell w c.state)
  puts_keep code Reset span w cell rest c h =
      on_keeps c h (cell_at (form.Put Reset) (is_inside c.doing) span cell c.state) _ (step_of_falls (cell_of (rule (form.Put Reset)) (is_inside c.doing) cell) span c.state)
      (λ a s l. valid_keeps code (validator_at code.validators a.number) w span c h (λ c1. gives c1 rest (assign_cell Reset (is_inside c.doing) span w a c1.state)) (λ c1 h1 m. gives_keeps c1 h1 rest _ (assign_cell_falls Reset (is_inside c.doing) span w a c1.state)))

  rests_keep : (f : ℕ) → f ≤ all → (x : StepResult (Unit {0})) → Falls f x → Keeps (told x (λ s. Unfinished (first_place [] (rested s))))
  rests_keep f l x e = told_keeps f l x _ e (λ s m. (m, tt))

  finishes_keep : (code : ThreadCode) (g : CellId) (o : Option InHand) (v : Value) (c : Configuration) → Here c → Keeps (finishes code g o v c)
  finishes_keep code g None v c h = tt
  finishes_keep code g (Some x) v c h =
      valid_keeps code (validator_at code.validators x.action.agent.number) v x.action.span c h (λ c1. told (finish g (Ok v) x.sends c1.state) (λ s. Unfinished (first_place [] (rested s))))
      (λ c1 h1 l. rests_keep (many c1.state) h1.0 (finish g (Ok v) x.sends c1.state) (finish_falls g (Ok v) x.sends c1.state))

  hands_in_keep : (code : ThreadCode) (g : CellId) (o : Option InHand) (f : Option Fault) (c : Configuration) → Here c → Keeps (hands_in code g o f c)
  hands_in_keep code g o (Some f) c h = rests_keep (many c.state) h.0 (finish g (Err f) [] c.state) (finish_falls g (Err f) [] c.state)
  hands_in_keep code g o None c h = top_keeps c.stack _ (λ v rest. finishes_keep code g o v c h)

  closes_keep : (code : ThreadCode) (form : UpdateForm) (span : Span) (w cell : Value) (rest : List Value) (c : Configuration) → Here c → Keeps (closes code form span w cell rest c)
  closes_keep code update.Alter span w cell rest c h = gives_keeps c h rest _ (close_update_falls span cell w c.state)
  closes_keep code update.Commute span w cell rest c h = gives_keeps c h rest _ (close_update_falls span cell w c.state)
  closes_keep code update.Swap span w cell rest c h = closes_swap_keep code c.doing w rest c h

  started_keeps : (g : CellId) (o : Option Taken) (c : Configuration) (s : ActorState) → (many s ≤ all) × Enough c.doing (many s) → Keeps (started g o c s)
  started_keeps g None c s h = h
  started_keeps g (Some t) c s h = h

  runs_callee_keep : (code : ThreadCode) (f : Callee) (a : Action) (v : Value) (rest : List Value) (c : Configuration) → Here c → Keeps (runs_callee code f a v rest c)
  runs_callee_keep code (callee.Core op) a v rest c h = gives_keeps c h rest _ (step_of_falls (core op (v ∷ a.args)) a.span c.state)
  runs_callee_keep code (callee.Function f) a v rest c h = h

  runs_keep : (code : ThreadCode) (o : Option InHand) (v : Value) (rest : List Value) (c : Configuration) → Here c → Keeps (runs code o v rest c)
  runs_keep code None v rest c h = tt
  runs_keep code (Some x) v rest c h = runs_callee_keep code x.action.callee x.action v rest c h

  act_keeps : (code : ThreadCode) (i : Option PlainInstr) (c : Configuration) → Here c → Keeps (act code i c)
  act_keeps code None c h = tt
  act_keeps code (Some (Push v)) c h = h
  act_keeps code (Some (Load i)) c h = gives_keeps c h c.stack _ (found_falls (nth c.locals i) c.state)
  act_keeps code (Some (Store i)) c h = top_keeps c.stack _ (λ v rest. h)
  act_keeps code (Some Pop) c h = top_keeps c.stack _ (λ v rest. h)
  act_keeps code (Some (Jump to)) c h = h
  act_keeps code (Some (JumpFalse to)) c h = top_keeps c.stack _ (λ v rest. h)
  act_keeps code (Some (CoreOf op args span)) c h = args_keep args c.stack [] _ (λ vs rest. gives_keeps c h rest _ (step_of_falls (core op vs) span c.state))
  act_keeps code (Some (CallOf f args)) c h = args_keep args c.stack [] _ (λ vs rest. h)
  act_keeps code (Some Return) c h = top_keeps c.stack _ (λ v rest. returns_keep c.frames v c h)
  act_keeps code (Some (MakeVector items span)) c h = args_keep items c.stack [] _ (λ vs rest. gives_keeps c h rest _ (step_of_falls (vector_of vs) span c.state))
  act_keeps code (Some (PrintOf args)) c h = args_keep args c.stack [] _ (λ vs rest. gives_keeps c h rest _ (print_falls (is_inside c.doing) vs c.state))
  act_keeps code (Some (TxBegin span)) c h = begins_keep c.doing span c h h.1
  act_keeps code (Some TxEnd) c h = ends_keep code c.doing c h h.1
  act_keeps code (Some (LookOf form span)) c h = top_keeps c.stack _ (λ cell rest. gives_keeps c h rest _ (read_falls form (is_inside c.doing) span cell c.state))
  act_keeps code (Some (PutOf form span)) c h = two_keep c.stack _ (λ w cell rest. puts_keep code form span w cell rest c h)
  act_keeps code (Some (OpenOf form args span)) c h = args_of_keep args c.stack _ (λ vs cell rest. opens_keep form span vs cell rest c h)
  act_keeps code (Some (CloseOf form span)) c h = two_keep c.stack _ (λ w cell rest. closes_keep code form span w cell rest c h)
  act_keeps code (Some (SendOf callee args span)) c h = args_of_keep args c.stack _ (λ vs cell rest. gives_keeps c h rest _ (send_falls (is_inside c.doing) span cell callee vs c.state))
  act_keeps code (Some Halt) c h = tt
  act_keeps code (Some (TakeOf g)) c h = on_keeps c h (take_action g c.state) _ (take_falls g c.state) (λ o s l. started_keeps g o c s (on_here c h (many s) l))
  act_keeps code (Some RunOf) c h = top_keeps c.stack _ (λ v rest. runs_keep code c.state.acting v rest c h)
  act_keeps code (Some (FinishOf g)) c h = hands_in_keep code g c.state.acting (fault_in c.state.acting) c h

  then_keeps : (t : Turned Configuration) (go : Configuration → Turned Configuration) → Keeps t → ((c : Configuration) → Here c → Keeps (go c)) → Keeps (and_then t go)
  then_keeps (Ended s) go h k = tt
  then_keeps (Failed f s) go h k = tt
  then_keeps (Asking s) go h k = tt
  then_keeps (Unfinished c) go h k = k c h
  then_keeps Stuck go h k = tt

  pub run_keeps : (code : ThreadCode) (m : ℕ) (c : Configuration) → Here c → Keeps (run code m c)
  run_keeps code zero c h = h
  run_keeps code (suc m) c h = then_keeps (turn code c) (run code m) (act_keeps code (fetch code c.body c.place) c h) (run_keeps code m)

-- ---- a try is left

is_left : (left all n : ℕ) → n ≡ 0 → all < reruns → reruns + n ≤ left + all → IsLeft left
is_left zero all n z l h = absurd (omega (arith, z, l, h))
is_left (suc left) all n z l h = tt

has_try : (all n : ℕ) (doing : Activity) → n ≡ 0 → all < reruns → Enough all doing n → HasTry doing
has_try all n Outside z l h = tt
has_try all n (Restarting left) z l h = is_left left all n z l h
has_try all n (Running left inner from) z l h = is_left left all n z l h
has_try all n (Applying left from work values) z l h = is_left left all n z l h
has_try all n (Swapping swap from) z l h = tt

pub few_failures_leave_tries : FewFailuresLeaveTries
few_failures_leave_tries code m xs c ran heard few =
    let kept : Here (failures xs) c = subst (λ o. Keeps (failures xs) o) ran (run_keeps (failures xs) code m (opening code xs) (itself (failures xs), tt)) in
    has_try (failures xs) (many c.state) c.doing (ap failures heard) few kept.1

pub run_actors_are_ready : RunActorsAreReady
run_actors_are_ready cells threads agent code books a x asks h few = by x.at refl
  where
    by : (o : Turned Configuration) → x.at ≡ o → IsReady code o
    by (Ended s) e = tt
    by (Failed f s) e = tt
    by (Asking s) e = tt
    by (Unfinished c) e =
        let ran = h.ran ∙ e in
        let staged : IsStaged agent h.stage (Unfinished c) = subst (λ o. IsStaged agent h.stage o) e h.staged in
        ((staged.0, few_failures_leave_tries code x.turns (map exchange_of x.entries) c ran staged.0 few), staged_takes agent code c h.stage (asks x.turns (map exchange_of x.entries) c ran staged.0) staged.1)
    by Stuck e = tt
