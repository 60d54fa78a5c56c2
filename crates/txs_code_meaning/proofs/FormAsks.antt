-- Forms on cells ask what their rows of the table say.
use Rattle.std.proofs.Common.{Bool, true, false, List, [], ◌∷◌, Option, Some, None, Result, Ok, Err, refl, if◌then◌else◌}
use Rattle.txs_world_protocol.specs.Ask.{buffered, Exchange, same_ask}
use Rattle.txs_world_protocol.specs.declared.ask.Ask.{Ask}
use Rattle.txs_world_protocol.specs.declared.ask.Ask.TheVariants as ask
use Rattle.txs_world_protocol.specs.declared.ask.Reply.{Reply}
use Rattle.txs_frame.specs.Frame.{set_ref}
use Rattle.txs_frame.specs.declared.frame.Commute.{Commute}
use Rattle.txs_value_cell.specs.Forms.{rule, cell_of, cell_of_kind, cell_if, same_kind}
use Rattle.txs_value_cell.specs.declared.action.Action.{Action}
use Rattle.txs_value_data.specs.declared.fault.FaultKind.{FaultKind}
use Rattle.txs_value_data.specs.declared.fault.Span.{Span}
use Rattle.txs_value_cell.specs.declared.form.CellForm.TheVariants as form
use Rattle.txs_value_cell.specs.declared.form.FormAsk.{FormAsk}
use Rattle.txs_value_cell.specs.declared.form.FormAsk.TheVariants.{Nothing, ItsValue, Replacing, Swapping, Sending}
use Rattle.txs_value_cell.specs.declared.form.FormRule.{FormRule}
use Rattle.txs_value_cell.specs.declared.form.LookForm.{LookForm}
use Rattle.txs_value_cell.specs.declared.form.LookForm.TheVariants.{Deref, Ensure}
use Rattle.txs_value_cell.specs.declared.form.PutForm.{PutForm}
use Rattle.txs_value_cell.specs.declared.form.PutForm.TheVariants.{RefSet, Reset}
use Rattle.txs_value_cell.specs.declared.form.UpdateForm.TheVariants as update
use Rattle.txs_value_data.specs.declared.value.CellId.{CellId}
use Rattle.txs_value_data.specs.declared.value.CellKind.{CellKind}
use Rattle.txs_value_data.specs.declared.value.Value.{Value}
use Rattle.txs_value_data.specs.declared.value.Value.TheVariants.{Cell}
use Rattle.txs_code_meaning.specs.ActorState.{ActorState, Reception, Replied, Unreplied, receives, asks, StepResult, Continue, Break, Redo, Await, Malformed, on_step, step_of, Reading, Says, SaysRetry, SaysNothing, read_as, heard, just_done, value_there, newest_value, Verdict, Landed, Outdated, Undone, Denied, opened, swap_verdict, send_verdict, sent, buffered_or, look, peek, SwapInHand, open_atom, close_swap, break_swap, reset_atom, send_now, read_cell, set_own, assign_cell, RefUpdate, Alters, Commutes, update_form, open_update, close_own, open_swap, send_action, InHand, send_or_hold}
use Rattle.txs_code_meaning.specs.FormAsks.{IsAskOf, WantsSo, AsksSo, asked_by, FormsAskAsTold}

-- what waits with an ask of the kind
abbrev WaitsSo : FormAsk → Bool → CellId → Reception → Type 0
WaitsSo k inside c (Replied r s) = Unit {0}
WaitsSo k inside c (Unreplied s) = WantsSo k inside c s.wants

asks_so : (k : FormAsk) (inside : Bool) (c : CellId) (q : Ask) (s : ActorState) → IsAskOf k inside c q → WaitsSo k inside c (asks q s)
unfolding asks
asks_so k inside c q s h = go s.todo
  where
    go : (l : List Exchange) → WaitsSo k inside c (receives q s l)
    go [] = h
    go (x ∷ l) = test (same_ask q x.ask)
      where
        test : (b : Bool) → WaitsSo k inside c (if b then Replied x.reply (record s { todo = l }) else Unreplied (record s { wants = Some q }))
        test true = tt
        test false = h

reading_so : {A : Type 0} (k : FormAsk) (inside : Bool) (c : CellId) (r : Reading A) (s : ActorState) → AsksSo k inside c (read_as r s)
reading_so k inside c (Says a) s = tt
reading_so k inside c SaysRetry s = tt
reading_so k inside c SaysNothing s = tt

heard_so : {A : Type 0} (k : FormAsk) (inside : Bool) (c : CellId) (reads : Reply → Reading A) (h : Reception) → WaitsSo k inside c h → AsksSo k inside c (heard reads h)
heard_so k inside c reads (Replied r s) h = reading_so k inside c (reads r) s
heard_so k inside c reads (Unreplied s) h = h

ask_so : {A : Type 0} (k : FormAsk) (inside : Bool) (c : CellId) (reads : Reply → Reading A) (q : Ask) (s : ActorState) → IsAskOf k inside c q → AsksSo k inside c (heard reads (asks q s))
ask_so k inside c reads q s h = heard_so k inside c reads (asks q s) (asks_so k inside c q s h)

-- an ask, and then what asks nothing else
then_so : {A B : Type 0} (k : FormAsk) (inside : Bool) (c : CellId) (x : StepResult A) (go : A → ActorState → StepResult B) → AsksSo k inside c x → ((a : A) (s : ActorState) → AsksSo k inside c (go a s)) → AsksSo k inside c (on_step x go)
then_so k inside c (Continue a s) go h g = g a s
then_so k inside c (Break f s) go h g = tt
then_so k inside c (Redo s) go h g = tt
then_so k inside c (Await s) go h g = h
then_so k inside c Malformed go h g = tt

-- a test, and then a step
test_so : {A B : Type 0} (k : FormAsk) (inside : Bool) (c : CellId) (r : Result A FaultKind) (span : Span) (s : ActorState) (go : A → ActorState → StepResult B) → ((a : A) → AsksSo k inside c (go a s)) → AsksSo k inside c (on_step (step_of r span s) go)
test_so k inside c (Ok a) span s go g = g a
test_so k inside c (Err f) span s go g = tt

-- what a form does with a cell, if it takes that
abbrev IfCell : {B : Type 0} → FormAsk → Bool → CellId → Span → ActorState → (CellId → ActorState → StepResult B) → Result CellId FaultKind → Type 0
IfCell k inside c span s go r = AsksSo k inside c (on_step (step_of r span s) go)

-- a form takes no cell but the one that it was given
cell_so : {B : Type 0} (k : FormAsk) (inside : Bool) (r : FormRule) (b : Bool) (c : CellId) (span : Span) (s : ActorState) (go : CellId → ActorState → StepResult B) → AsksSo k inside c (go c s) → IfCell k inside c span s go (cell_of r b (Cell c))
cell_so {B} k inside r b c span s go h = by_kind r.takes b
  where
    if_so : (t : Bool) (f : FaultKind) → IfCell k inside c span s go (cell_if t f c)
    if_so true f = h
    if_so false f = tt

    by_kind : (o : Option CellKind) (b : Bool) → IfCell k inside c span s go (cell_of_kind o r.fault b c)
    by_kind None false = h
    by_kind None true = if_so (same_kind c.kind _) _
    by_kind (Some kind) b = if_so (same_kind c.kind kind) r.fault

own_so : (k : FormAsk) (inside : Bool) (c : CellId) (o : Option Value) (s : ActorState) (r : StepResult Value) → AsksSo k inside c r → AsksSo k inside c (buffered_or o s r)
own_so k inside c (Some v) s r h = tt
own_so k inside c None s r h = h

look_so : (c : CellId) (s : ActorState) → AsksSo ItsValue true c (look c s)
unfolding look
look_so c s = own_so ItsValue true c (buffered s.done.values c.number) s _ (ask_so ItsValue true c value_there (ask.Look c s.at) s refl)

peek_so : (c : CellId) (s : ActorState) → AsksSo ItsValue false c (peek c s)
unfolding peek
peek_so c s = ask_so ItsValue false c newest_value (ask.Peek c) s refl

reads_so : (f : LookForm) (inside : Bool) (c : CellId) (s : ActorState) → AsksSo (asked_by (form.Look f)) inside c (read_cell f inside c s)
reads_so Deref true c s = look_so c s
reads_so Deref false c s = peek_so c s
reads_so Ensure true c s = then_so ItsValue true c (look c s) _ (look_so c s) (λ v s1. tt)
reads_so Ensure false c s = tt

reset_so : (c : CellId) (v : Value) (s : ActorState) → AsksSo Replacing false c (reset_atom c v s)
unfolding reset_atom
reset_so c v s = then_so Replacing false c _ _ (ask_so Replacing false c just_done (ask.CloseAt c None v) s refl) (λ u s1. tt)

set_so : (k : FormAsk) (inside : Bool) (c : CellId) (span : Span) (v : Value) (d : CellId) (s : ActorState) → AsksSo k inside c (set_own span v d s)
set_so k inside c span v d s = test_so k inside c (set_ref d v s.done) span s _ (λ w. tt)

assigns_so : (f : PutForm) (inside : Bool) (span : Span) (v : Value) (c : CellId) (s : ActorState) → AsksSo (asked_by (form.Put f)) inside c (assign_cell f inside span v c s)
assigns_so RefSet true span v c s = set_so Nothing true c span v c s
assigns_so RefSet false span v c s = tt
assigns_so Reset false span v c s = reset_so c v s
assigns_so Reset true span v c s = tt

opens_so : (u : RefUpdate) (inside : Bool) (span : Span) (c : CellId) (vs : List Value) (s : ActorState) → AsksSo (asked_by (form.Update (update_form u))) inside c (open_update u inside span (Cell c) vs s)
opens_so u false span c vs s = tt
opens_so Alters true span c vs s =
    cell_so ItsValue true (rule (form.Update update.Alter)) true c span s _ (then_so ItsValue true c (look c s) _ (look_so c s) (λ x s2. tt))
opens_so (Commutes callee) true span c vs s =
    cell_so ItsValue true (rule (form.Update update.Commute)) true c span s _ (then_so ItsValue true c (look c s) _ (look_so c s) (λ x s2. tt))

own_close_so : (o : Option Commute) (span : Span) (w : Value) (c : CellId) (s : ActorState) → AsksSo Nothing true c (close_own o span w c s)
own_close_so None span w c s = set_so Nothing true c span w c s
own_close_so (Some o) span w c s = tt

open_atom_so : (c : CellId) (s : ActorState) → AsksSo Swapping false c (open_atom c s)
unfolding open_atom
open_atom_so c s = then_so Swapping false c _ _ (ask_so Swapping false c opened (ask.OpenAt c) s refl) (λ x s1. tt)

opens_swap_so : (inside : Bool) (span : Span) (c : CellId) (s : ActorState) → AsksSo Swapping inside c (open_swap inside span (Cell c) s)
opens_swap_so true span c s = tt
opens_swap_so false span c s = cell_so Swapping false (rule (form.Update update.Swap)) false c span s open_atom (open_atom_so c s)

closes_swap_so : (w : SwapInHand) (v : Value) (s : ActorState) → AsksSo Swapping false w.cell (close_swap w v s)
unfolding close_swap
closes_swap_so w v s = ask_so Swapping false w.cell swap_verdict (ask.CloseAt w.cell (Some w.at) v) s refl

breaks_swap_so : (w : SwapInHand) (s : ActorState) → AsksSo Swapping false w.cell (break_swap w s)
unfolding break_swap
breaks_swap_so w s = ask_so Swapping false w.cell just_done (ask.Broke w.cell w.at) s refl

sent_so : (c : CellId) (a : Action) (v : Verdict) (s : ActorState) → AsksSo Sending false c (sent a v s)
sent_so c a Landed s = tt
sent_so c a Outdated s = tt
sent_so c a Undone s = tt
sent_so c a Denied s = tt

send_now_so : (a : Action) (s : ActorState) → AsksSo Sending false a.agent (send_now a s)
unfolding send_now
send_now_so a s = then_so Sending false a.agent _ (sent a) (ask_so Sending false a.agent send_verdict (ask.Send a) s refl) (sent_so a.agent a)

sends_so : (inside : Bool) (a : Action) (s : ActorState) → AsksSo Sending inside a.agent (send_action inside a s)
sends_so true a s = tt
sends_so false a s = or_hold s.acting
  where
    or_hold : (o : Option InHand) → AsksSo Sending false a.agent (send_or_hold o a s)
    or_hold None = send_now_so a s
    or_hold (Some h) = tt

pub forms_ask_as_told : FormsAskAsTold
forms_ask_as_told = record {
  reads = λ f inside span c s. cell_so (asked_by (form.Look f)) inside (rule (form.Look f)) inside c span s (read_cell f inside) (reads_so f inside c s);
  assigns = λ f inside span c v s. cell_so (asked_by (form.Put f)) inside (rule (form.Put f)) inside c span s (assign_cell f inside span v) (assigns_so f inside span v c s);
  opens = opens_so;
  closes = λ span c v s. cell_so Nothing true (rule (form.Update update.Alter)) true c span s (close_own s.commuting span v) (own_close_so s.commuting span v c s);
  opens_swap = opens_swap_so;
  closes_swap = closes_swap_so;
  breaks_swap = breaks_swap_so;
  sends = λ inside span c callee vs s. cell_so Sending inside (rule form.Send) inside c span s _ (sends_so inside (record { agent = c; callee = callee; args = vs; span = span }) s);
}
