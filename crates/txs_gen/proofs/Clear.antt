-- No step but a validator's answer leaves an answer of a validator.
use Rattle.std.proofs.Common.{ℕ, Bool, true, false, List, [], ◌∷◌, Option, Some, None, Result, Ok, Err, if◌then◌else◌}
use Rattle.txs_world_protocol.specs.Ask.{buffered, Exchange, same_ask}
use Rattle.txs_world_protocol.specs.declared.ask.Ask.{Ask}
use Rattle.txs_world_protocol.specs.declared.ask.Ask.TheVariants as ask
use Rattle.txs_world_protocol.specs.declared.ask.Reply.{Reply}
use Rattle.txs_frame.specs.Frame.{set_ref}
use Rattle.txs_frame.specs.declared.frame.Commute.{Commute}
use Rattle.txs_value_cell.specs.Forms.{rule, cell_of}
use Rattle.txs_value_cell.specs.declared.action.Action.{Action}
use Rattle.txs_value_data.specs.declared.fault.FaultKind.{FaultKind}
use Rattle.txs_value_data.specs.declared.fault.Span.{Span}
use Rattle.txs_value_cell.specs.declared.form.CellForm.{CellForm}
use Rattle.txs_value_cell.specs.declared.form.CellForm.TheVariants as form
use Rattle.txs_value_cell.specs.declared.form.LookForm.{LookForm}
use Rattle.txs_value_cell.specs.declared.form.LookForm.TheVariants.{Deref, Ensure}
use Rattle.txs_value_cell.specs.declared.form.PutForm.{PutForm}
use Rattle.txs_value_cell.specs.declared.form.PutForm.TheVariants.{RefSet, Reset}
use Rattle.txs_value_cell.specs.declared.form.UpdateForm.TheVariants as update
use Rattle.txs_value_data.specs.declared.op.Callee.{Callee}
use Rattle.txs_value_data.specs.declared.value.CellId.{CellId}
use Rattle.txs_value_data.specs.declared.value.Value.{Value}
use Rattle.txs_code_meaning.specs.ActorState.{ActorState, Reception, Replied, Unreplied, receives, asks, StepResult, Continue, Break, Redo, Await, Malformed, on_step, step_of, Reading, Says, SaysRetry, SaysNothing, read_as, heard, just_done, value_there, newest_value, Verdict, Landed, Outdated, Undone, Denied, opened, swap_verdict, send_verdict, sent, buffered_or, look, peek, SwapInHand, open_atom, close_swap, reset_atom, send_now, cell_at, read_cell, read, set_own, assign_cell, assign, RefUpdate, update_form, open_update, close_own, close_update, open_swap, send_action, send_to, print, InHand, send_or_hold}
use Rattle.txs_code_meaning.specs.Machine.{ThreadCode, Activity, Configuration, Unfinished, raise, retried, on}
use Rattle.txs_theorem_threads.specs.OnReplies.{res}
use Rattle.txs_gen.proofs.Steps.{Lands, of, Simulates, raised_by, one_to, one_comes}
use Rattle.txs_gen.proofs.Validated.{Clear, AtHand}

-- what continues does so without such an answer
abbrev pub StepClear : {A : Type 0} → StepResult A → Type 0
StepClear (Continue a s) = Clear s
StepClear (Break f s) = Unit {0}
StepClear (Redo s) = Unit {0}
StepClear (Await s) = Unit {0}
StepClear Malformed = Unit {0}

abbrev ReceptionClear : Reception → Type 0
ReceptionClear (Replied r s) = Clear s
ReceptionClear (Unreplied s) = Unit {0}

asks_clear : (a : Ask) (s : ActorState) → Clear s → ReceptionClear (asks a s)
unfolding asks
asks_clear a s e = go s.todo
  where
    go : (l : List Exchange) → ReceptionClear (receives a s l)
    go [] = tt
    go (x ∷ xs) = test (same_ask a x.ask)
      where
        test : (b : Bool) → ReceptionClear (if b then Replied x.reply (record s { todo = xs }) else Unreplied (record s { wants = Some a }))
        test true = e
        test false = tt

reading_clear : {A : Type 0} (r : Reading A) (s : ActorState) → Clear s → StepClear (read_as r s)
reading_clear (Says a) s e = e
reading_clear SaysRetry s e = tt
reading_clear SaysNothing s e = tt

heard_clear : {A : Type 0} (reads : Reply → Reading A) (x : Reception) → ReceptionClear x → StepClear (heard reads x)
heard_clear reads (Replied r s) e = reading_clear (reads r) s e
heard_clear reads (Unreplied s) e = tt

ask_clear : {A : Type 0} (reads : Reply → Reading A) (a : Ask) (s : ActorState) → Clear s → StepClear (heard reads (asks a s))
ask_clear reads a s e = heard_clear reads (asks a s) (asks_clear a s e)

then_clear : {A B : Type 0} (x : StepResult A) (go : A → ActorState → StepResult B) → StepClear x → ((a : A) (s : ActorState) → Clear s → StepClear (go a s)) → StepClear (on_step x go)
then_clear (Continue a s) go e h = h a s e
then_clear (Break f s) go e h = tt
then_clear (Redo s) go e h = tt
then_clear (Await s) go e h = tt
then_clear Malformed go e h = tt

pub step_clear : {A : Type 0} (r : Result A FaultKind) (span : Span) (s : ActorState) → Clear s → StepClear (step_of r span s)
step_clear (Ok a) span s e = e
step_clear (Err k) span s e = tt

-- ---- transactions

own_clear : (s : ActorState) (o : Option Value) (x : StepResult Value) → Clear s → StepClear x → StepClear (buffered_or o s x)
own_clear s (Some v) x e h = e
own_clear s None x e h = h

look_clear : (c : CellId) (s : ActorState) → Clear s → StepClear (look c s)
unfolding look
look_clear c s e = own_clear s (buffered s.done.values c.number) (heard value_there (asks (ask.Look c s.at) s)) e (ask_clear value_there (ask.Look c s.at) s e)

-- ---- outside transactions

peek_clear : (c : CellId) (s : ActorState) → Clear s → StepClear (peek c s)
unfolding peek
peek_clear c s e = ask_clear newest_value (ask.Peek c) s e

open_atom_clear : (c : CellId) (s : ActorState) → Clear s → StepClear (open_atom c s)
unfolding open_atom
open_atom_clear c s e = then_clear (heard opened (asks (ask.OpenAt c) s)) _ (ask_clear opened (ask.OpenAt c) s e) (λ x t h. h)

pub close_swap_clear : (w : SwapInHand) (v : Value) (s : ActorState) → Clear s → StepClear (close_swap w v s)
unfolding close_swap
close_swap_clear w v s e = ask_clear swap_verdict (ask.CloseAt w.cell (Some w.at) v) s e

reset_clear : (c : CellId) (v : Value) (s : ActorState) → Clear s → StepClear (reset_atom c v s)
unfolding reset_atom
reset_clear c v s e = then_clear (heard just_done (asks (ask.CloseAt c None v) s)) _ (ask_clear just_done (ask.CloseAt c None v) s e) (λ u t h. h)

sent_clear : (a : Action) (d : Verdict) (s : ActorState) → Clear s → StepClear (sent a d s)
sent_clear a Landed s e = e
sent_clear a Outdated s e = tt
sent_clear a Undone s e = tt
sent_clear a Denied s e = tt

send_now_clear : (a : Action) (s : ActorState) → Clear s → StepClear (send_now a s)
unfolding send_now
send_now_clear a s e = then_clear (heard send_verdict (asks (ask.Send a) s)) (sent a) (ask_clear send_verdict (ask.Send a) s e) (λ d t h. sent_clear a d t h)

-- ---- the forms

pub print_clear : (b : Bool) (vs : List Value) (s : ActorState) → Clear s → StepClear (print b vs s)
unfolding print
print_clear true vs s e = tt
print_clear false vs s e = e

pub cell_clear : (f : CellForm) (b : Bool) (span : Span) (v : Value) (s : ActorState) → Clear s → StepClear (cell_at f b span v s)
cell_clear f b span v s e = step_clear (cell_of (rule f) b v) span s e

read_cell_clear : (f : LookForm) (b : Bool) (c : CellId) (s : ActorState) → Clear s → StepClear (read_cell f b c s)
read_cell_clear Deref true c s e = look_clear c s e
read_cell_clear Deref false c s e = peek_clear c s e
read_cell_clear Ensure true c s e = then_clear (look c s) _ (look_clear c s e) (λ v t h. h)
read_cell_clear Ensure false c s e = tt

pub read_clear : (f : LookForm) (b : Bool) (span : Span) (v : Value) (s : ActorState) → Clear s → StepClear (read f b span v s)
read_clear f b span v s e = then_clear (cell_at (form.Look f) b span v s) (read_cell f b) (cell_clear (form.Look f) b span v s e) (read_cell_clear f b)

set_own_clear : (span : Span) (v : Value) (c : CellId) (s : ActorState) → Clear s → StepClear (set_own span v c s)
set_own_clear span v c s e = then_clear (step_of (set_ref c v s.done) span s) _ (step_clear (set_ref c v s.done) span s e) (λ w t h. h)

pub assign_cell_clear : (f : PutForm) (b : Bool) (span : Span) (v : Value) (c : CellId) (s : ActorState) → Clear s → StepClear (assign_cell f b span v c s)
assign_cell_clear RefSet true span v c s e = set_own_clear span v c s e
assign_cell_clear RefSet false span v c s e = tt
assign_cell_clear Reset false span v c s e = reset_clear c v s e
assign_cell_clear Reset true span v c s e = tt

pub assign_clear : (f : PutForm) (b : Bool) (span : Span) (c v : Value) (s : ActorState) → Clear s → StepClear (assign f b span c v s)
assign_clear f b span c v s e = then_clear (cell_at (form.Put f) b span c s) (assign_cell f b span v) (cell_clear (form.Put f) b span c s e) (assign_cell_clear f b span v)

pub open_update_clear : (u : RefUpdate) (b : Bool) (span : Span) (v : Value) (vs : List Value) (s : ActorState) → Clear s → StepClear (open_update u b span v vs s)
open_update_clear u false span v vs s e = tt
open_update_clear u true span v vs s e =
    then_clear (cell_at (form.Update (update_form u)) true span v s) _ (cell_clear (form.Update (update_form u)) true span v s e) (λ c t h. then_clear (look c t) _ (look_clear c t h) (λ x t1 h1. h1))

close_own_clear : (o : Option Commute) (span : Span) (w : Value) (c : CellId) (s : ActorState) → Clear s → StepClear (close_own o span w c s)
close_own_clear None span w c s e = set_own_clear span w c s e
close_own_clear (Some o) span w c s e = e

pub close_update_clear : (span : Span) (v w : Value) (s : ActorState) → Clear s → StepClear (close_update span v w s)
close_update_clear span v w s e = then_clear (cell_at (form.Update update.Alter) true span v s) (close_own s.commuting span w) (cell_clear (form.Update update.Alter) true span v s e) (close_own_clear s.commuting span w)

pub open_swap_clear : (b : Bool) (span : Span) (v : Value) (s : ActorState) → Clear s → StepClear (open_swap b span v s)
open_swap_clear true span v s e = tt
open_swap_clear false span v s e = then_clear (cell_at (form.Update update.Swap) false span v s) open_atom (cell_clear (form.Update update.Swap) false span v s e) open_atom_clear

send_action_clear : (b : Bool) (a : Action) (s : ActorState) → Clear s → StepClear (send_action b a s)
send_action_clear true a s e = e
send_action_clear false a s e = or_hold s.acting
  where
    or_hold : (o : Option InHand) → StepClear (send_or_hold o a s)
    or_hold None = send_now_clear a s e
    or_hold (Some h) = e

pub send_clear : (b : Bool) (span : Span) (v : Value) (c : Callee) (vs : List Value) (s : ActorState) → Clear s → StepClear (send_to b span v c vs s)
send_clear b span v c vs s e = then_clear (cell_at form.Send b span v s) _ (cell_clear form.Send b span v s e) (λ g t h. send_action_clear b (record { agent = g; callee = c; args = vs; span = span }) t h)

-- ---- what turns come to

-- a turn that does a step, and what continues from there
pub step_clears : {A : Type 0} (code : ThreadCode) (n : ℕ) (doing : Activity) (G : Lands A) (R : Lands (List Value)) (c : Configuration) (st : StepResult A) (next : A → ActorState → Configuration) → AtHand code c (on doing st (λ v s. Unfinished (next v s))) → StepClear st → ((v : A) (s : ActorState) → Clear s → G v s (next v s)) →
    Simulates code n (of doing) G R c (res st)
step_clears code n doing G R c (Continue v s) next at e g = (next v s, g v s e, one_to code c (next v s) at)
step_clears code n doing G R c (Break f s) next at e g = raised_by code doing f s c (one_comes code c (raise doing f s) at)
step_clears code n doing G R c (Redo s) next at e g = one_comes code c (retried doing s) at
step_clears code n doing G R c (Await s) next at e g = (1, at 0)
step_clears code n doing G R c Malformed next at e g = tt
