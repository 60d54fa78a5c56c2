-- What a run has printed and consumed only grows.
use Rattle.std.proofs.Common.{ℕ, zero, suc, Bool, true, false, List, [], Option, Some, None, Result, Ok, Err, refl, sym, ap, arith, append_assoc, ◌≡◌, ◌≤◌, ◌∷◌, ◌++◌, ◌∙◌, if◌then◌else◌}
use Rattle.std.proofs.lemmas.List.{append-nil}
use Rattle.txs_world_protocol.specs.Ask.{Writes, buffered, Exchange, same_ask}
use Rattle.txs_world_protocol.specs.declared.ask.Ask.{Ask}
use Rattle.txs_world_protocol.specs.declared.ask.Ask.TheVariants as ask
use Rattle.txs_world_protocol.specs.declared.ask.Reply.{Reply}
use Rattle.txs_frame.specs.Frame.{commuted, set_writes, set_ref, sends_of_commit}
use Rattle.txs_frame.specs.Phase.{tasks_of, to_write}
use Rattle.txs_frame.specs.declared.frame.Commute.{Commute}
use Rattle.txs_frame.specs.declared.phase.Task.{Task}
use Rattle.txs_frame.specs.declared.phase.Task.TheVariants.{Redoes, Validates}
use Rattle.txs_value_apply.specs.Core.{core, vector_of}
use Rattle.txs_value_cell.specs.Cells.{validator_at}
use Rattle.txs_value_cell.specs.Forms.{rule, cell_of}
use Rattle.txs_value_data.specs.Limits.{reruns}
use Rattle.txs_value_data.specs.Places.{nth, fault_at}
use Rattle.txs_value_data.specs.Printed.{printed_line}
use Rattle.txs_value_cell.specs.declared.action.Action.{Action}
use Rattle.txs_value_data.specs.declared.fault.Fault.{Fault}
use Rattle.txs_value_data.specs.declared.fault.FaultKind.{FaultKind}
use Rattle.txs_value_data.specs.declared.fault.FaultKind.TheVariants.{InvalidState, RetryLimit, AgentFailed}
use Rattle.txs_value_data.specs.declared.fault.Span.{Span}
use Rattle.txs_value_cell.specs.declared.form.CellForm.{CellForm}
use Rattle.txs_value_cell.specs.declared.form.CellForm.TheVariants as form
use Rattle.txs_value_cell.specs.declared.form.LookForm.{LookForm}
use Rattle.txs_value_cell.specs.declared.form.LookForm.TheVariants.{Deref, Ensure}
use Rattle.txs_value_cell.specs.declared.form.PutForm.{PutForm}
use Rattle.txs_value_cell.specs.declared.form.PutForm.TheVariants.{RefSet, Reset}
use Rattle.txs_value_cell.specs.declared.form.UpdateForm.{UpdateForm}
use Rattle.txs_value_cell.specs.declared.form.UpdateForm.TheVariants as update_of
use Rattle.txs_value_data.specs.declared.op.Callee.{Callee}
use Rattle.txs_value_data.specs.declared.op.Callee.TheVariants as callee_of
use Rattle.txs_value_data.specs.declared.value.CellId.{CellId}
use Rattle.txs_value_data.specs.declared.value.Value.{Value}
use Rattle.txs_code_meaning.specs.declared.instr.OpenForm.{OpenForm}
use Rattle.txs_code_meaning.specs.declared.instr.OpenForm.TheVariants as open_form
use Rattle.txs_code_meaning.specs.ActorState.{ActorState, Reception, Replied, Unreplied, receives, asks, StepResult, Continue, Break, Redo, Await, Malformed, on_step, step_of, Reading, Says, SaysRetry, SaysNothing, read_as, heard, read_point, just_done, value_there, newest_value, views, Verdict, Landed, Outdated, Undone, Denied, commit_verdict, opened, swap_verdict, send_verdict, sent, Taken, handed_out, begun, begin, fail, buffered_or, look, paired, viewed, view, commit, peek, SwapInHand, open_atom, close_swap, break_swap, reset_atom, send_now, take_action, finish, cell_at, read_cell, read, set_own, assign_cell, assign, RefUpdate, Alters, Commutes, update_form, open_update, close_own, close_update, open_swap, send_action, send_to, print, InHand, held_in, landed, taken_back, send_or_hold}
use Rattle.txs_code_meaning.specs.Machine.{PlainInstr, Push, Load, Store, Pop, Jump, JumpFalse, CoreOf, CallOf, Return, MakeVector, PrintOf, TxBegin, TxEnd, LookOf, PutOf, OpenOf, CloseOf, SendOf, Halt, TakeOf, RunOf, FinishOf, ThreadCode, fetch, Frame, Savepoint, Activity, Outside, Restarting, Running, Applying, Swapping, is_inside, Configuration, Outcome, Turned, Ended, Failed, Asking, Unfinished, Stuck, and_then, told, raise, try_more, retried, on, found, on_top, on_args, gives, starts, begins, decided, lands, settles, arguments_of, applies, ends, returns_to, opens_ref, opens_atom, opens, swap_decided, closes_swap, closes, started, runs_callee, runs, act, turn, exec, ends_with, fails_with, hands_in, fault_in, staying, first_place, rested, validates, where_accepted, where_valid, works, puts, finishes, Destination, to_stack, to_commutes, to_validation, state_after}
use Rattle.txs_code_meaning.proofs.Alike.{then_alike}

pub record Grows (s t : ActorState) : Type 0 where
  pub more : List ℕ
  pub done : List Exchange
  pub prints : t.printed ≡ s.printed ++ more
  pub eats : s.todo ≡ done ++ t.todo

still : (s t : ActorState) → t.printed ≡ s.printed → s.todo ≡ t.todo → Grows s t
still s t p e = record { more = []; done = []; prints = p ∙ sym (append-nil s.printed); eats = e }

then_grows : (s t u : ActorState) → Grows s t → Grows t u → Grows s u
then_grows s t u g h = record {
  more = g.more ++ h.more;
  done = g.done ++ h.done;
  prints = h.prints ∙ ap (λ l. l ++ h.more) g.prints ∙ append_assoc s.printed g.more h.more;
  eats = g.eats ∙ ap (λ l. g.done ++ l) h.eats ∙ sym (append_assoc g.done h.done u.todo);
}

-- ---- steps

abbrev ReceptionGrows : ActorState → Reception → Type 0
ReceptionGrows s (Replied r t) = Grows s t
ReceptionGrows s (Unreplied t) = Grows s t

asks_grow : (a : Ask) (s : ActorState) → ReceptionGrows s (asks a s)
unfolding asks
asks_grow a s = go s.todo refl
  where
    go : (l : List Exchange) → s.todo ≡ l → ReceptionGrows s (receives a s l)
    go [] e = still s _ refl refl
    go (x ∷ xs) e = test (same_ask a x.ask)
      where
        test : (b : Bool) → ReceptionGrows s (if b then Replied x.reply (record s { todo = xs }) else Unreplied (record s { wants = Some a }))
        test true = record { more = []; done = x ∷ []; prints = sym (append-nil s.printed); eats = e }
        test false = still s _ refl refl

abbrev StepGrows : {A : Type 0} → ActorState → StepResult A → Type 0
StepGrows s (Continue v t) = Grows s t
StepGrows s (Break f t) = Grows s t
StepGrows s (Redo t) = Grows s t
StepGrows s (Await t) = Grows s t
StepGrows s Malformed = Unit {0}

reading_grows : {A : Type 0} (r : Reading A) (s t : ActorState) → Grows s t → StepGrows s (read_as r t)
reading_grows (Says a) s t g = g
reading_grows SaysRetry s t g = g
reading_grows SaysNothing s t g = tt

heard_grows : {A : Type 0} (reads : Reply → Reading A) (x : Reception) (s : ActorState) → ReceptionGrows s x → StepGrows s (heard reads x)
heard_grows reads (Replied r t) s g = reading_grows (reads r) s t g
heard_grows reads (Unreplied t) s g = g

ask_grows : {A : Type 0} (reads : Reply → Reading A) (a : Ask) (s : ActorState) → StepGrows s (heard reads (asks a s))
ask_grows reads a s = heard_grows reads (asks a s) s (asks_grow a s)

-- a step from where another came
step_after : {A : Type 0} (s t : ActorState) (x : StepResult A) → Grows s t → StepGrows t x → StepGrows s x
step_after s t (Continue a u) g h = then_grows s t u g h
step_after s t (Break f u) g h = then_grows s t u g h
step_after s t (Redo u) g h = then_grows s t u g h
step_after s t (Await u) g h = then_grows s t u g h
step_after s t Malformed g h = tt

step_grows : {A B : Type 0} (x : StepResult A) (go : A → ActorState → StepResult B) (s : ActorState) → StepGrows s x → ((a : A) (t : ActorState) → StepGrows t (go a t)) → StepGrows s (on_step x go)
step_grows (Continue a t) go s g h = step_after s t (go a t) g (h a t)
step_grows (Break f t) go s g h = g
step_grows (Redo t) go s g h = g
step_grows (Await t) go s g h = g
step_grows Malformed go s g h = tt

of_grows : {A : Type 0} (r : Result A FaultKind) (span : Span) (s : ActorState) → StepGrows s (step_of r span s)
of_grows (Ok a) span s = still s s refl refl
of_grows (Err k) span s = still s s refl refl

begin_grows : (s : ActorState) → StepGrows s (begin s)
unfolding begin
begin_grows s = step_grows (heard read_point (asks ask.Begin s)) begun s (ask_grows read_point ask.Begin s) (λ p t. still t _ refl refl)

fail_grows : (s : ActorState) → StepGrows s (fail s)
unfolding fail
fail_grows s = ask_grows just_done (ask.Fail s.at s.view) s

own_grows : (s : ActorState) (o : Option Value) (x : StepResult Value) → StepGrows s x → StepGrows s (buffered_or o s x)
own_grows s (Some v) x h = still s s refl refl
own_grows s None x h = h

look_grows : (c : CellId) (s : ActorState) → StepGrows s (look c s)
unfolding look
look_grows c s = own_grows s (buffered s.done.values c.number) (heard value_there (asks (ask.Look c s.at) s)) (ask_grows value_there (ask.Look c s.at) s)

viewed_grows : (q : ℕ) (o : Option Writes) (s : ActorState) → StepGrows s (viewed q o s)
viewed_grows q None s = tt
viewed_grows q (Some ws) s = still s _ refl refl

view_grows : (s : ActorState) → StepGrows s (view s)
unfolding view
view_grows s =
    let q = ask.View (commuted s.done) in
    let go : ℕ × List Value → ActorState → StepResult Writes = λ x s1. viewed x.0 (paired (commuted s.done) x.1) s1 in
    step_grows (heard views (asks q s)) go s (ask_grows views q s) (λ x t. viewed_grows x.0 (paired (commuted s.done) x.1) t)

landed_grows : (v : Verdict) (s : ActorState) → StepGrows s (landed v s)
landed_grows Landed s = still s _ refl refl
landed_grows Outdated s = still s s refl refl
landed_grows Undone s = still s s refl refl
landed_grows Denied s = still s s refl refl

commit_grows : (ws : Writes) (s : ActorState) → StepGrows s (commit ws s)
unfolding commit
commit_grows ws s =
    let q = ask.Commit s.at (set_writes s.done) s.done.ensures s.view ws (sends_of_commit (held_in s.acting) s.done.sends) in
    step_grows (heard commit_verdict (asks q s)) landed s (ask_grows commit_verdict q s) landed_grows

peek_grows : (c : CellId) (s : ActorState) → StepGrows s (peek c s)
unfolding peek
peek_grows c s = ask_grows newest_value (ask.Peek c) s

open_atom_grows : (c : CellId) (s : ActorState) → StepGrows s (open_atom c s)
unfolding open_atom
open_atom_grows c s = step_grows (heard opened (asks (ask.OpenAt c) s)) _ s (ask_grows opened (ask.OpenAt c) s) (λ x t. still t t refl refl)

close_swap_grows : (w : SwapInHand) (v : Value) (s : ActorState) → StepGrows s (close_swap w v s)
unfolding close_swap
close_swap_grows w v s = ask_grows swap_verdict (ask.CloseAt w.cell (Some w.at) v) s

break_swap_grows : (w : SwapInHand) (s : ActorState) → StepGrows s (break_swap w s)
unfolding break_swap
break_swap_grows w s = ask_grows just_done (ask.Broke w.cell w.at) s

reset_grows : (c : CellId) (v : Value) (s : ActorState) → StepGrows s (reset_atom c v s)
unfolding reset_atom
reset_grows c v s = step_grows (heard just_done (asks (ask.CloseAt c None v) s)) _ s (ask_grows just_done (ask.CloseAt c None v) s) (λ u t. still t t refl refl)

sent_grows : (a : Action) (d : Verdict) (s : ActorState) → StepGrows s (sent a d s)
sent_grows a Landed s = still s s refl refl
sent_grows a Outdated s = tt
sent_grows a Undone s = tt
sent_grows a Denied s = still s s refl refl

send_now_grows : (a : Action) (s : ActorState) → StepGrows s (send_now a s)
unfolding send_now
send_now_grows a s = step_grows (heard send_verdict (asks (ask.Send a) s)) (sent a) s (ask_grows send_verdict (ask.Send a) s) (λ d t. sent_grows a d t)

take_grows : (g : CellId) (s : ActorState) → StepGrows s (take_action g s)
unfolding take_action
take_grows g s = ask_grows handed_out (ask.Take g) s

finish_grows : (g : CellId) (new : Result Value Fault) (sends : List Action) (s : ActorState) → StepGrows s (finish g new sends s)
unfolding finish
finish_grows g new sends s = ask_grows taken_back (ask.Finish g new sends) s

print_grows : (b : Bool) (vs : List Value) (s : ActorState) → StepGrows s (print b vs s)
unfolding print
print_grows true vs s = tt
print_grows false vs s = record { more = printed_line vs; done = []; prints = refl; eats = refl }

cell_grows : (f : CellForm) (b : Bool) (span : Span) (v : Value) (s : ActorState) → StepGrows s (cell_at f b span v s)
cell_grows f b span v s = of_grows (cell_of (rule f) b v) span s

read_cell_grows : (f : LookForm) (b : Bool) (c : CellId) (s : ActorState) → StepGrows s (read_cell f b c s)
read_cell_grows Deref true c s = look_grows c s
read_cell_grows Deref false c s = peek_grows c s
read_cell_grows Ensure true c s = step_grows (look c s) _ s (look_grows c s) (λ v t. still t _ refl refl)
read_cell_grows Ensure false c s = tt

read_grows : (f : LookForm) (b : Bool) (span : Span) (v : Value) (s : ActorState) → StepGrows s (read f b span v s)
read_grows f b span v s = step_grows (cell_at (form.Look f) b span v s) (read_cell f b) s (cell_grows (form.Look f) b span v s) (read_cell_grows f b)

set_own_grows : (span : Span) (v : Value) (c : CellId) (s : ActorState) → StepGrows s (set_own span v c s)
set_own_grows span v c s = step_grows (step_of (set_ref c v s.done) span s) _ s (of_grows (set_ref c v s.done) span s) (λ w t. still t _ refl refl)

assign_cell_grows : (f : PutForm) (b : Bool) (span : Span) (v : Value) (c : CellId) (s : ActorState) → StepGrows s (assign_cell f b span v c s)
assign_cell_grows RefSet true span v c s = set_own_grows span v c s
assign_cell_grows RefSet false span v c s = tt
assign_cell_grows Reset false span v c s = reset_grows c v s
assign_cell_grows Reset true span v c s = tt

assign_grows : (f : PutForm) (b : Bool) (span : Span) (c v : Value) (s : ActorState) → StepGrows s (assign f b span c v s)
assign_grows f b span c v s = step_grows (cell_at (form.Put f) b span c s) (assign_cell f b span v) s (cell_grows (form.Put f) b span c s) (assign_cell_grows f b span v)

open_update_grows : (u : RefUpdate) (b : Bool) (span : Span) (v : Value) (vs : List Value) (s : ActorState) → StepGrows s (open_update u b span v vs s)
open_update_grows u false span v vs s = tt
open_update_grows u true span v vs s =
    step_grows (cell_at (form.Update (update_form u)) true span v s) _ s (cell_grows (form.Update (update_form u)) true span v s) (λ c t. step_grows (look c t) _ t (look_grows c t) (λ x t1. still t1 _ refl refl))

close_own_grows : (o : Option Commute) (span : Span) (w : Value) (c : CellId) (s : ActorState) → StepGrows s (close_own o span w c s)
close_own_grows None span w c s = set_own_grows span w c s
close_own_grows (Some o) span w c s = still s _ refl refl

close_update_grows : (span : Span) (v w : Value) (s : ActorState) → StepGrows s (close_update span v w s)
close_update_grows span v w s = step_grows (cell_at (form.Update update_of.Alter) true span v s) (close_own s.commuting span w) s (cell_grows (form.Update update_of.Alter) true span v s) (close_own_grows s.commuting span w)

open_swap_grows : (b : Bool) (span : Span) (v : Value) (s : ActorState) → StepGrows s (open_swap b span v s)
open_swap_grows true span v s = tt
open_swap_grows false span v s = step_grows (cell_at (form.Update update_of.Swap) false span v s) open_atom s (cell_grows (form.Update update_of.Swap) false span v s) open_atom_grows

send_action_grows : (b : Bool) (a : Action) (s : ActorState) → StepGrows s (send_action b a s)
send_action_grows true a s = still s _ refl refl
send_action_grows false a s = or_hold s.acting
  where
    or_hold : (o : Option InHand) → StepGrows s (send_or_hold o a s)
    or_hold None = send_now_grows a s
    or_hold (Some h) = still s _ refl refl

send_grows : (b : Bool) (span : Span) (v : Value) (c : Callee) (vs : List Value) (s : ActorState) → StepGrows s (send_to b span v c vs s)
send_grows b span v c vs s = step_grows (cell_at form.Send b span v s) _ s (cell_grows form.Send b span v s) (λ g t. send_action_grows b (record { agent = g; callee = c; args = vs; span = span }) t)

found_grows : (o : Option Value) (s : ActorState) → StepGrows s (found o s)
found_grows None s = tt
found_grows (Some v) s = still s s refl refl

-- ---- turns

-- what a turn comes to has grown from this state
abbrev TurnGrows : ActorState → Turned Configuration → Type 0
TurnGrows s (Ended t) = Grows s t
TurnGrows s (Failed f t) = Grows s t
TurnGrows s (Asking t) = Grows s t
TurnGrows s (Unfinished c) = Grows s c.state
TurnGrows s Stuck = Unit {0}

turn_after : (s t : ActorState) (x : Turned Configuration) → Grows s t → TurnGrows t x → TurnGrows s x
turn_after s t (Ended u) g h = then_grows s t u g h
turn_after s t (Failed f u) g h = then_grows s t u g h
turn_after s t (Asking u) g h = then_grows s t u g h
turn_after s t (Unfinished c) g h = then_grows s t c.state g h
turn_after s t Stuck g h = tt

told_grows : (x : StepResult (Unit {0})) (go : ActorState → Turned Configuration) (s : ActorState) → StepGrows s x → ((t : ActorState) → TurnGrows t (go t)) → TurnGrows s (told x go)
told_grows (Continue u t) go s g h = turn_after s t (go t) g (h t)
told_grows (Break f t) go s g h = tt
told_grows (Redo t) go s g h = tt
told_grows (Await t) go s g h = g
told_grows Malformed go s g h = tt

over_grows : (o : Option InHand) (f : Fault) (s : ActorState) → TurnGrows s (ends_with o f s)
over_grows None f s = still s s refl refl
over_grows (Some h) f s = told_grows (finish h.agent (Err f) [] s) _ s (finish_grows h.agent (Err f) [] s) (λ t. still t _ refl refl)

fails_grows : (o : Option InHand) (f : Fault) (s : ActorState) → TurnGrows s (fails_with o f s)
fails_grows None f s = still s s refl refl
fails_grows (Some h) f s = still s _ refl refl

raise_grows : (doing : Activity) (f : Fault) (s : ActorState) → TurnGrows s (raise doing f s)
raise_grows Outside f s = over_grows s.acting f s
raise_grows (Restarting left) f s = fails_grows s.acting f s
raise_grows (Running left inner from) f s = told_grows (fail s) _ s (fail_grows s) (λ t. fails_grows t.acting f t)
raise_grows (Applying left from work values) f s = told_grows (fail s) _ s (fail_grows s) (λ t. fails_grows t.acting f t)
raise_grows (Swapping swap from) f s = told_grows (break_swap swap s) _ s (break_swap_grows swap s) (λ t. fails_grows t.acting f t)

-- one more try
abbrev StateKept : ActorState → (ℕ → Configuration) → Type 0
StateKept s go = (k : ℕ) → Grows s (go k).state

try_grows : (left : ℕ) (from : Savepoint) (s : ActorState) (go : ℕ → Configuration) → StateKept s go → TurnGrows s (try_more left from s go)
try_grows zero from s go h = fails_grows s.acting (fault_at RetryLimit from.span) s
try_grows (suc left) from s go h = h left

retried_grows : (doing : Activity) (s : ActorState) → TurnGrows s (retried doing s)
retried_grows Outside s = tt
retried_grows (Restarting left) s = tt
retried_grows (Running left inner from) s = try_grows left from s _ (λ k. still s s refl refl)
retried_grows (Applying left from work values) s = tt
retried_grows (Swapping swap from) s = tt

on_grows : {A : Type 0} (doing : Activity) (x : StepResult A) (go : A → ActorState → Turned Configuration) (s : ActorState) → StepGrows s x → ((a : A) (t : ActorState) → TurnGrows t (go a t)) → TurnGrows s (on doing x go)
on_grows doing (Continue a t) go s g h = turn_after s t (go a t) g (h a t)
on_grows doing (Break f t) go s g h = turn_after s t (raise doing f t) g (raise_grows doing f t)
on_grows doing (Redo t) go s g h = turn_after s t (retried doing t) g (retried_grows doing t)
on_grows doing (Await t) go s g h = g
on_grows doing Malformed go s g h = tt

top_grows : (s : ActorState) (stack : List Value) (go : Value → List Value → Turned Configuration) → ((v : Value) (rest : List Value) → TurnGrows s (go v rest)) → TurnGrows s (on_top stack go)
top_grows s [] go h = tt
top_grows s (v ∷ stack) go h = h v stack

args_grows : (s : ActorState) (n : ℕ) (stack vs : List Value) (go : List Value → List Value → Turned Configuration) → ((ws rest : List Value) → TurnGrows s (go ws rest)) → TurnGrows s (on_args n stack vs go)
args_grows s zero stack vs go h = h vs stack
args_grows s (suc n) [] vs go h = tt
args_grows s (suc n) (v ∷ stack) vs go h = args_grows s n stack (v ∷ vs) go h

gives_grows : (c : Configuration) (rest : List Value) (x : StepResult Value) → StepGrows c.state x → TurnGrows c.state (gives c rest x)
gives_grows c rest x g = on_grows c.doing x _ c.state g (λ v t. still t t refl refl)

starts_grows : (left : ℕ) (span : Span) (c : Configuration) → TurnGrows c.state (starts left span c)
starts_grows left span c = on_grows c.doing (begin c.state) _ c.state (begin_grows c.state) (λ u t. still t t refl refl)

begins_grows : (doing : Activity) (span : Span) (c : Configuration) → TurnGrows c.state (begins doing span c)
begins_grows Outside span c = starts_grows reruns span c
begins_grows (Restarting left) span c = starts_grows left span c
begins_grows (Running left inner from) span c = still c.state c.state refl refl
begins_grows (Applying left from work values) span c = tt
begins_grows (Swapping swap from) span c = tt

decided_grows : (verdict : Verdict) (left : ℕ) (from : Savepoint) (c : Configuration) (s : ActorState) → TurnGrows s (decided verdict left from c s)
decided_grows Landed left from c s = still s s refl refl
decided_grows Outdated left from c s = try_grows left from s _ (λ k. still s s refl refl)
decided_grows Undone left from c s = try_grows left from s _ (λ k. still s s refl refl)
decided_grows Denied left from c s = fails_grows s.acting (fault_at AgentFailed from.span) s

lands_grows : (left : ℕ) (from : Savepoint) (values : Writes) (c : Configuration) → TurnGrows c.state (lands left from values c)
lands_grows left from values c = on_grows c.doing (commit values c.state) _ c.state (commit_grows values c.state) (λ verdict t. decided_grows verdict left from c t)

applies_grows : (code : ThreadCode) (callee : Callee) (left : ℕ) (from : Savepoint) (k : Commute) (work : List Task) (values : Writes) (c : Configuration) → TurnGrows c.state (applies code callee left from k work values c)
applies_grows code (callee_of.Core op) left from k work values c =
    on_grows c.doing (step_of (core op (arguments_of k values)) from.span c.state) _ c.state (of_grows (core op (arguments_of k values)) from.span c.state) (λ v t. still t t refl refl)
applies_grows code (callee_of.Function f) left from k work values c = still c.state c.state refl refl

validates_grows : (code : ThreadCode) (f : Callee) (v : Value) (span : Span) (c : Configuration) → TurnGrows c.state (validates code f v span c)
validates_grows code (callee_of.Core op) v span c = on_grows c.doing (step_of (core op (v ∷ [])) span c.state) _ c.state (of_grows (core op (v ∷ [])) span c.state) (λ answer t. still t _ refl refl)
validates_grows code (callee_of.Function f) v span c = still c.state c.state refl refl

-- what goes on grows from where it goes on
abbrev NextGrows : (Configuration → Turned Configuration) → Type 0
NextGrows go = (c : Configuration) → TurnGrows c.state (go c)

accepted_grows : (code : ThreadCode) (o : Option Bool) (f : Callee) (v : Value) (span : Span) (c : Configuration) (go : Configuration → Turned Configuration) → NextGrows go → TurnGrows c.state (where_accepted code o f v span c go)
accepted_grows code None f v span c go h = validates_grows code f v span c
accepted_grows code (Some true) f v span c go h =
    let s : ActorState = record c.state { accepted = None } in
    turn_after c.state s (go (record c { state = s })) (still c.state s refl refl) (h (record c { state = s }))
accepted_grows code (Some false) f v span c go h =
    let s : ActorState = record c.state { accepted = None } in
    turn_after c.state s (raise c.doing (fault_at InvalidState span) s) (still c.state s refl refl) (raise_grows c.doing (fault_at InvalidState span) s)

valid_grows : (code : ThreadCode) (o : Option Callee) (v : Value) (span : Span) (c : Configuration) (go : Configuration → Turned Configuration) → NextGrows go → TurnGrows c.state (where_valid code o v span c go)
valid_grows code None v span c go h = h c
valid_grows code (Some f) v span c go h = accepted_grows code c.state.accepted f v span c go h

works_grows : (code : ThreadCode) (left : ℕ) (from : Savepoint) (work : List Task) (values : Writes) (c : Configuration) → TurnGrows c.state (works code left from work values c)
works_grows code left from [] values c = lands_grows left from values c
works_grows code left from (Redoes k ∷ work) values c = applies_grows code k.callee left from k work values c
works_grows code left from (Validates r f ∷ work) values c =
    accepted_grows code c.state.accepted f (to_write values c.state.done r.number) from.span (staying (Applying left from (Validates r f ∷ work) values) c.state c)
    (λ c1. works code left from work values (staying (Applying left from work values) c1.state c1)) (λ c1. works_grows code left from work values (staying (Applying left from work values) c1.state c1))

settles_grows : (code : ThreadCode) (cs : List CellId) (left : ℕ) (from : Savepoint) (c : Configuration) → TurnGrows c.state (settles code cs left from c)
settles_grows code [] left from c = works_grows code left from (tasks_of code.validators c.state.done) [] c
settles_grows code (d ∷ ds) left from c = on_grows c.doing (view c.state) _ c.state (view_grows c.state) (λ values t. still t t refl refl)

ends_grows : (code : ThreadCode) (doing : Activity) (c : Configuration) → TurnGrows c.state (ends code doing c)
ends_grows code Outside c = tt
ends_grows code (Restarting left) c = tt
ends_grows code (Running left (suc inner) from) c = still c.state c.state refl refl
ends_grows code (Running left zero from) c = settles_grows code (commuted c.state.done) left from c
ends_grows code (Applying left from work values) c = works_grows code left from work values c
ends_grows code (Swapping swap from) c = tt

returns_grows : (frames : List Frame) (v : Value) (c : Configuration) → TurnGrows c.state (returns_to frames v c)
returns_grows [] v c = tt
returns_grows (f ∷ frames) v c = by f.awaits
  where
    by : (d : Destination) → Grows c.state (state_after d v c.state)
    by to_stack = still c.state c.state refl refl
    by to_commutes = still c.state c.state refl refl
    by to_validation = still c.state _ refl refl

puts_grows : (code : ThreadCode) (f : PutForm) (span : Span) (w cell : Value) (rest : List Value) (c : Configuration) → TurnGrows c.state (puts code f span w cell rest c)
puts_grows code RefSet span w cell rest c = gives_grows c rest (assign RefSet (is_inside c.doing) span cell w c.state) (assign_grows RefSet (is_inside c.doing) span cell w c.state)
puts_grows code Reset span w cell rest c = by (cell_of (rule (form.Put Reset)) (is_inside c.doing) cell)
  where
    go : CellId → Configuration → Turned Configuration
    go a c1 = gives c1 rest (assign_cell Reset (is_inside c.doing) span w a c1.state)

    by : (r : Result CellId FaultKind) → TurnGrows c.state (on c.doing (step_of r span c.state) (λ a s. where_valid code (validator_at code.validators a.number) w span c (go a)))
    by (Ok a) = valid_grows code (validator_at code.validators a.number) w span c (go a) (λ c1. gives_grows c1 rest (assign_cell Reset (is_inside c.doing) span w a c1.state) (assign_cell_grows Reset (is_inside c.doing) span w a c1.state))
    by (Err k) = raise_grows c.doing (fault_at k span) c.state

opens_ref_grows : (u : RefUpdate) (span : Span) (vs : List Value) (cell : Value) (rest : List Value) (c : Configuration) → TurnGrows c.state (opens_ref u span vs cell rest c)
opens_ref_grows u span vs cell rest c =
    on_grows c.doing (open_update u (is_inside c.doing) span cell vs c.state) _ c.state (open_update_grows u (is_inside c.doing) span cell vs c.state) (λ v t. still t t refl refl)

opens_atom_grows : (doing : Activity) (span : Span) (vs : List Value) (cell : Value) (rest : List Value) (c : Configuration) → TurnGrows c.state (opens_atom doing span vs cell rest c)
opens_atom_grows Outside span vs cell rest c = on_grows c.doing (open_swap false span cell c.state) _ c.state (open_swap_grows false span cell c.state) (λ o t. still t t refl refl)
opens_atom_grows (Restarting left) span vs cell rest c = tt
opens_atom_grows (Running left inner from) span vs cell rest c = tt
opens_atom_grows (Applying left from work values) span vs cell rest c = tt
opens_atom_grows (Swapping swap from) span vs cell rest c = tt

opens_grows : (f : OpenForm) (span : Span) (vs : List Value) (cell : Value) (rest : List Value) (c : Configuration) → TurnGrows c.state (opens f span vs cell rest c)
opens_grows open_form.Alter span vs cell rest c = opens_ref_grows Alters span vs cell rest c
opens_grows (open_form.Commute callee) span vs cell rest c = opens_ref_grows (Commutes callee) span vs cell rest c
opens_grows (open_form.Swap callee) span vs cell rest c = opens_atom_grows c.doing span vs cell rest c

swap_decided_grows : (verdict : Verdict) (from : Savepoint) (w : Value) (rest : List Value) (c : Configuration) (s : ActorState) → TurnGrows s (swap_decided verdict from w rest c s)
swap_decided_grows Landed from w rest c s = still s s refl refl
swap_decided_grows Outdated from w rest c s = still s s refl refl
swap_decided_grows Undone from w rest c s = tt
swap_decided_grows Denied from w rest c s = tt

closes_swap_grows : (code : ThreadCode) (doing : Activity) (w : Value) (rest : List Value) (c : Configuration) → TurnGrows c.state (closes_swap code doing w rest c)
closes_swap_grows code (Swapping swap from) w rest c =
    valid_grows code (validator_at code.validators swap.cell.number) w from.span c (λ c1. on c1.doing (close_swap swap w c1.state) (λ verdict s. swap_decided verdict from w rest c1 s))
    (λ c1. on_grows c1.doing (close_swap swap w c1.state) _ c1.state (close_swap_grows swap w c1.state) (λ verdict t. swap_decided_grows verdict from w rest c1 t))
closes_swap_grows code Outside w rest c = tt
closes_swap_grows code (Restarting left) w rest c = tt
closes_swap_grows code (Running left inner from) w rest c = tt
closes_swap_grows code (Applying left from work values) w rest c = tt

closes_grows : (code : ThreadCode) (f : UpdateForm) (span : Span) (w cell : Value) (rest : List Value) (c : Configuration) → TurnGrows c.state (closes code f span w cell rest c)
closes_grows code update_of.Alter span w cell rest c = gives_grows c rest (close_update span cell w c.state) (close_update_grows span cell w c.state)
closes_grows code update_of.Commute span w cell rest c = gives_grows c rest (close_update span cell w c.state) (close_update_grows span cell w c.state)
closes_grows code update_of.Swap span w cell rest c = closes_swap_grows code c.doing w rest c

finishes_grows : (code : ThreadCode) (g : CellId) (o : Option InHand) (v : Value) (c : Configuration) → TurnGrows c.state (finishes code g o v c)
finishes_grows code g None v c = tt
finishes_grows code g (Some h) v c =
    valid_grows code (validator_at code.validators h.action.agent.number) v h.action.span c (λ c1. told (finish g (Ok v) h.sends c1.state) (λ s. Unfinished (first_place [] (rested s))))
    (λ c1. told_grows (finish g (Ok v) h.sends c1.state) _ c1.state (finish_grows g (Ok v) h.sends c1.state) (λ t. still t _ refl refl))

hands_in_grows : (code : ThreadCode) (g : CellId) (o : Option InHand) (f : Option Fault) (c : Configuration) → TurnGrows c.state (hands_in code g o f c)
hands_in_grows code g o (Some f) c = told_grows (finish g (Err f) [] c.state) _ c.state (finish_grows g (Err f) [] c.state) (λ t. still t _ refl refl)
hands_in_grows code g o None c = top_grows c.state c.stack _ (λ v rest. finishes_grows code g o v c)

started_grows : (g : CellId) (o : Option Taken) (c : Configuration) (s : ActorState) → TurnGrows s (started g o c s)
started_grows g None c s = still s s refl refl
started_grows g (Some t) c s = still s _ refl refl

runs_callee_grows : (code : ThreadCode) (callee : Callee) (a : Action) (v : Value) (rest : List Value) (c : Configuration) → TurnGrows c.state (runs_callee code callee a v rest c)
runs_callee_grows code (callee_of.Core op) a v rest c = gives_grows c rest (step_of (core op (v ∷ a.args)) a.span c.state) (of_grows (core op (v ∷ a.args)) a.span c.state)
runs_callee_grows code (callee_of.Function f) a v rest c = still c.state c.state refl refl

runs_grows : (code : ThreadCode) (o : Option InHand) (v : Value) (rest : List Value) (c : Configuration) → TurnGrows c.state (runs code o v rest c)
runs_grows code None v rest c = tt
runs_grows code (Some h) v rest c = runs_callee_grows code h.action.callee h.action v rest c

act_grows : (code : ThreadCode) (i : Option PlainInstr) (c : Configuration) → TurnGrows c.state (act code i c)
act_grows code None c = tt
act_grows code (Some (Push v)) c = still c.state c.state refl refl
act_grows code (Some (Load i)) c = gives_grows c c.stack (found (nth c.locals i) c.state) (found_grows (nth c.locals i) c.state)
act_grows code (Some (Store i)) c = top_grows c.state c.stack _ (λ v rest. still c.state c.state refl refl)
act_grows code (Some Pop) c = top_grows c.state c.stack _ (λ v rest. still c.state c.state refl refl)
act_grows code (Some (Jump to)) c = still c.state c.state refl refl
act_grows code (Some (JumpFalse to)) c = top_grows c.state c.stack _ (λ v rest. still c.state c.state refl refl)
act_grows code (Some (CoreOf op args span)) c = args_grows c.state args c.stack [] _ (λ vs rest. gives_grows c rest (step_of (core op vs) span c.state) (of_grows (core op vs) span c.state))
act_grows code (Some (CallOf f args)) c = args_grows c.state args c.stack [] _ (λ vs rest. still c.state c.state refl refl)
act_grows code (Some Return) c = top_grows c.state c.stack _ (λ v rest. returns_grows c.frames v c)
act_grows code (Some (MakeVector items span)) c = args_grows c.state items c.stack [] _ (λ vs rest. gives_grows c rest (step_of (vector_of vs) span c.state) (of_grows (vector_of vs) span c.state))
act_grows code (Some (PrintOf args)) c = args_grows c.state args c.stack [] _ (λ vs rest. gives_grows c rest (print (is_inside c.doing) vs c.state) (print_grows (is_inside c.doing) vs c.state))
act_grows code (Some (TxBegin span)) c = begins_grows c.doing span c
act_grows code (Some TxEnd) c = ends_grows code c.doing c
act_grows code (Some (LookOf f span)) c = top_grows c.state c.stack _ (λ cell rest. gives_grows c rest (read f (is_inside c.doing) span cell c.state) (read_grows f (is_inside c.doing) span cell c.state))
act_grows code (Some (PutOf f span)) c = top_grows c.state c.stack _ (λ w under. top_grows c.state under _ (λ cell rest. puts_grows code f span w cell rest c))
act_grows code (Some (OpenOf f args span)) c = args_grows c.state args c.stack [] _ (λ vs under. top_grows c.state under _ (λ cell rest. opens_grows f span vs cell rest c))
act_grows code (Some (CloseOf f span)) c = top_grows c.state c.stack _ (λ w under. top_grows c.state under _ (λ cell rest. closes_grows code f span w cell rest c))
act_grows code (Some (SendOf callee args span)) c = args_grows c.state args c.stack [] _ (λ vs under. top_grows c.state under _ (λ cell rest. gives_grows c rest (send_to (is_inside c.doing) span cell callee vs c.state) (send_grows (is_inside c.doing) span cell callee vs c.state)))
act_grows code (Some Halt) c = still c.state c.state refl refl
act_grows code (Some (TakeOf g)) c = on_grows c.doing (take_action g c.state) _ c.state (take_grows g c.state) (λ o t. started_grows g o c t)
act_grows code (Some RunOf) c = top_grows c.state c.stack _ (λ v rest. runs_grows code c.state.acting v rest c)
act_grows code (Some (FinishOf g)) c = hands_in_grows code g c.state.acting (fault_in c.state.acting) c

-- ---- runs

-- an outcome whose state grew from this one
abbrev pub GrowsTo : ActorState → Outcome → Type 0
GrowsTo s (Ended t) = Grows s t
GrowsTo s (Failed f t) = Grows s t
GrowsTo s (Asking t) = Grows s t
GrowsTo s (Unfinished t) = Grows s t
GrowsTo s Stuck = Unit {0}

further : (s t : ActorState) (o : Outcome) → Grows s t → GrowsTo t o → GrowsTo s o
further s t (Ended u) g h = then_grows s t u g h
further s t (Failed f u) g h = then_grows s t u g h
further s t (Asking u) g h = then_grows s t u g h
further s t (Unfinished u) g h = then_grows s t u g h
further s t Stuck g h = tt

after_turn : (s : ActorState) (x : Turned Configuration) (next : Configuration → Outcome) → TurnGrows s x → ((c : Configuration) → GrowsTo c.state (next c)) → GrowsTo s (and_then x next)
after_turn s (Ended t) next g h = g
after_turn s (Failed f t) next g h = g
after_turn s (Asking t) next g h = g
after_turn s (Unfinished c) next g h = further s c.state (next c) g (h c)
after_turn s Stuck next g h = tt

exec_grows : (code : ThreadCode) (n : ℕ) (c : Configuration) → GrowsTo c.state (exec code n c)
exec_grows code zero c = still c.state c.state refl refl
exec_grows code (suc n) c = after_turn c.state (turn code c) (exec code n) (act_grows code (fetch code c.body c.place) c) (exec_grows code n)

-- what more turns make of an outcome
abbrev pub Later : Outcome → Outcome → Type 0
Later (Unfinished s) o = GrowsTo s o
Later (Ended s) o = Unit {0}
Later (Failed f s) o = Unit {0}
Later (Asking s) o = Unit {0}
Later Stuck o = Unit {0}

later_same : (o : Outcome) → Later o o
later_same (Unfinished s) = still s s refl refl
later_same (Ended s) = tt
later_same (Failed f s) = tt
later_same (Asking s) = tt
later_same Stuck = tt

pub later : (code : ThreadCode) (m n : ℕ) → m ≤ n → (c : Configuration) → Later (exec code m c) (exec code n c)
later code zero n le c = exec_grows code n c
later code (suc m) zero le c = absurd (omega (arith, le))
later code (suc m) (suc n) le c = then_alike Later later_same (exec code m) (exec code n) (later code m n (omega (arith, le))) (turn code c)
