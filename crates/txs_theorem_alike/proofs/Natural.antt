-- An actor with other places of the journals runs alike.
use Rattle.std.proofs.Common.{◌≡◌, ℕ, zero, suc, Bool, true, false, List, [], ◌∷◌, map, Option, Some, None, Result, Ok, Err, refl, sym, ap, ◌∙◌, subst, if◌then◌else◌}
use Rattle.txs_world_protocol.specs.Ask.{Writes, buffered, Exchange, same_ask}
use Rattle.txs_world_protocol.specs.declared.ask.Ask.{Ask}
use Rattle.txs_world_protocol.specs.declared.ask.Ask.TheVariants as ask
use Rattle.txs_world_protocol.specs.declared.ask.Reply.{Reply}
use Rattle.txs_world_protocol.specs.declared.ask.Reply.TheVariants as reply
use Rattle.txs_world_protocol.proofs.AskLemmas.{same_ask-sound, same_ask-itself}
use Rattle.txs_frame.specs.Frame.{commuted, set_writes, set_ref, sends_of_commit}
use Rattle.txs_frame.specs.Phase.{tasks_of, to_write}
use Rattle.txs_frame.specs.declared.frame.Commute.{Commute}
use Rattle.txs_frame.specs.declared.phase.Task.{Task}
use Rattle.txs_frame.specs.declared.phase.Task.TheVariants.{Redoes, Validates}
use Rattle.txs_value_apply.specs.Core.{core, vector_of}
use Rattle.txs_value_cell.specs.Cells.{validator_at}
use Rattle.txs_value_cell.specs.Forms.{rule, cell_of}
use Rattle.txs_value_data.specs.Limits.{reruns}
use Rattle.txs_value_data.specs.Places.{nth, fault_at}
use Rattle.txs_value_cell.specs.declared.action.Action.{Action}
use Rattle.txs_value_data.specs.declared.fault.Fault.{Fault}
use Rattle.txs_value_data.specs.declared.fault.FaultKind.{FaultKind}
use Rattle.txs_value_data.specs.declared.fault.FaultKind.TheVariants.{InvalidState, RetryLimit, AgentFailed}
use Rattle.txs_value_data.specs.declared.fault.Span.{Span}
use Rattle.txs_value_cell.specs.declared.form.CellForm.{CellForm}
use Rattle.txs_value_cell.specs.declared.form.CellForm.TheVariants as form
use Rattle.txs_value_cell.specs.declared.form.LookForm.{LookForm}
use Rattle.txs_value_cell.specs.declared.form.LookForm.TheVariants.{Deref, Ensure}
use Rattle.txs_value_cell.specs.declared.form.PutForm.{PutForm}
use Rattle.txs_value_cell.specs.declared.form.PutForm.TheVariants.{RefSet, Reset}
use Rattle.txs_value_cell.specs.declared.form.UpdateForm.{UpdateForm}
use Rattle.txs_value_cell.specs.declared.form.UpdateForm.TheVariants as update
use Rattle.txs_value_data.specs.declared.op.Callee.{Callee}
use Rattle.txs_value_data.specs.declared.op.Callee.TheVariants as callee
use Rattle.txs_value_data.specs.declared.value.CellId.{CellId}
use Rattle.txs_value_data.specs.declared.value.Value.{Value}
use Rattle.txs_code_meaning.specs.declared.instr.OpenForm.{OpenForm}
use Rattle.txs_code_meaning.specs.declared.instr.OpenForm.TheVariants as open_form
use Rattle.txs_code_meaning.specs.ActorState.{ActorState, Reception, Replied, Unreplied, receives, asks, StepResult, Continue, Break, Redo, Await, Malformed, on_step, step_of, Reading, Says, SaysRetry, SaysNothing, read_as, heard, read_point, just_done, value_there, newest_value, views, Verdict, Landed, Outdated, Undone, Denied, commit_verdict, opened, swap_verdict, send_verdict, sent, Taken, handed_out, begun, begin, fail, buffered_or, look, paired, viewed, view, commit, peek, SwapInHand, open_atom, close_swap, break_swap, reset_atom, send_now, take_action, finish, cell_at, read_cell, read, set_own, assign_cell, assign, RefUpdate, Alters, Commutes, update_form, kept_open, open_update, close_own, close_update, open_swap, send_action, send_to, print, InHand, send_or_hold, held_in, landed, taken_back}
use Rattle.txs_code_meaning.specs.Machine.{PlainInstr, Push, Load, Store, Pop, Jump, JumpFalse, CoreOf, CallOf, Return, MakeVector, PrintOf, TxBegin, TxEnd, LookOf, PutOf, OpenOf, CloseOf, SendOf, Halt, TakeOf, RunOf, FinishOf, ThreadCode, fetch, Frame, Savepoint, Activity, Outside, Restarting, Running, Applying, Swapping, is_inside, Configuration, Turned, Ended, Failed, Asking, Unfinished, Stuck, and_then, told, raise, try_more, rerun, retried, on, found, on_top, on_args, on_args_of, on_two, gives, starts, begins, decided, lands, settles, arguments_of, applies, ends, returns_to, opens_ref, opens_atom, opens, swap_decided, closes_swap, closes, started, runs_callee, runs, act, turn, run, ends_with, fails_with, hands_in, fault_in, validates, where_accepted, where_valid, works, puts, finishes, Destination, to_stack, to_commutes, to_validation, stack_after, doing_after, applied, ahead, push_all, state_after, staying, first_place, rested}
use Rattle.txs_theorem_alike.specs.Renaming.{ask_with, reply_with, exchange_with, swap_with, state_with, doing_with, with_places, ComesAs, TurnIsNatural, RunIsNatural}

-- an answer as it is
abbrev same : {A : Type 0} → A → A
same a = a

-- some exchange is there
abbrev IsThere : List Exchange → Type 0
IsThere [] = ⊥
IsThere (x ∷ xs) = Unit {0}

module _ (ren : ℕ → ℕ) where
  abbrev later : ActorState → ActorState
  later s = state_with ren s

  abbrev moved : Configuration → Configuration
  moved c = with_places ren c

  abbrev going : Activity → Activity
  going d = doing_with ren d

  abbrev views_with : ℕ × List Value → ℕ × List Value
  views_with x = (ren x.0, x.1)

  abbrev opened_at : ℕ × Value → ℕ × Value
  opened_at x = (ren x.0, x.1)

  abbrev in_hand : SwapInHand × Value → SwapInHand × Value
  in_hand x = (swap_with ren x.0, x.1)

  abbrev ReceptionMore : Reception → Reception → Type 0
  ReceptionMore (Replied r s) h = h ≡ Replied (reply_with ren r) (later s)
  ReceptionMore (Unreplied s) h = s.todo ≡ [] → h ≡ Unreplied (later s)

  -- a step with this made of its answer
  abbrev StepAs : {A : Type 0} → (A → A) → StepResult A → StepResult A → Type 0
  StepAs re (Continue a s) o = o ≡ Continue (re a) (later s)
  StepAs re (Break f s) o = o ≡ Break f (later s)
  StepAs re (Redo s) o = o ≡ Redo (later s)
  StepAs re (Await s) o = s.todo ≡ [] → o ≡ Await (later s)
  StepAs re Malformed o = o ≡ Malformed

  abbrev StepMore : {A : Type 0} → StepResult A → StepResult A → Type 0
  StepMore x y = StepAs same x y

  abbrev More : Turned Configuration → Turned Configuration → Type 0
  More t o = ComesAs ren t o

  -- ---- replies

  abbrev reading_by : {A : Type 0} → (A → A) → Reading A → Reading A
  reading_by re (Says a) = Says (re a)
  reading_by re SaysRetry = SaysRetry
  reading_by re SaysNothing = SaysNothing

  abbrev ReadsAs : {A : Type 0} → (A → A) → (Reply → Reading A) → Type 0
  ReadsAs re reads = (r : Reply) → reads (reply_with ren r) ≡ reading_by re (reads r)

  read_point_is : ReadsAs ren read_point
  read_point_is (reply.At p) = refl
  read_point_is (reply.Is v) = refl
  read_point_is (reply.Views p vs) = refl
  read_point_is reply.Done = refl
  read_point_is (reply.Retry c) = refl
  read_point_is (reply.Changed c) = refl
  read_point_is (reply.AgentIsFailed g) = refl
  read_point_is (reply.Action n a v) = refl
  read_point_is reply.Idle = refl
  read_point_is (reply.Opened p v) = refl
  read_point_is reply.Full = refl
  read_point_is reply.Memory = refl

  just_done_is : ReadsAs same just_done
  just_done_is (reply.At p) = refl
  just_done_is (reply.Is v) = refl
  just_done_is (reply.Views p vs) = refl
  just_done_is reply.Done = refl
  just_done_is (reply.Retry c) = refl
  just_done_is (reply.Changed c) = refl
  just_done_is (reply.AgentIsFailed g) = refl
  just_done_is (reply.Action n a v) = refl
  just_done_is reply.Idle = refl
  just_done_is (reply.Opened p v) = refl
  just_done_is reply.Full = refl
  just_done_is reply.Memory = refl

  value_there_is : ReadsAs same value_there
  value_there_is (reply.At p) = refl
  value_there_is (reply.Is v) = refl
  value_there_is (reply.Views p vs) = refl
  value_there_is reply.Done = refl
  value_there_is (reply.Retry c) = refl
  value_there_is (reply.Changed c) = refl
  value_there_is (reply.AgentIsFailed g) = refl
  value_there_is (reply.Action n a v) = refl
  value_there_is reply.Idle = refl
  value_there_is (reply.Opened p v) = refl
  value_there_is reply.Full = refl
  value_there_is reply.Memory = refl

  newest_value_is : ReadsAs same newest_value
  newest_value_is (reply.At p) = refl
  newest_value_is (reply.Is v) = refl
  newest_value_is (reply.Views p vs) = refl
  newest_value_is reply.Done = refl
  newest_value_is (reply.Retry c) = refl
  newest_value_is (reply.Changed c) = refl
  newest_value_is (reply.AgentIsFailed g) = refl
  newest_value_is (reply.Action n a v) = refl
  newest_value_is reply.Idle = refl
  newest_value_is (reply.Opened p v) = refl
  newest_value_is reply.Full = refl
  newest_value_is reply.Memory = refl

  views_is : ReadsAs views_with views
  views_is (reply.At p) = refl
  views_is (reply.Is v) = refl
  views_is (reply.Views p vs) = refl
  views_is reply.Done = refl
  views_is (reply.Retry c) = refl
  views_is (reply.Changed c) = refl
  views_is (reply.AgentIsFailed g) = refl
  views_is (reply.Action n a v) = refl
  views_is reply.Idle = refl
  views_is (reply.Opened p v) = refl
  views_is reply.Full = refl
  views_is reply.Memory = refl

  commit_verdict_is : ReadsAs same commit_verdict
  commit_verdict_is (reply.At p) = refl
  commit_verdict_is (reply.Is v) = refl
  commit_verdict_is (reply.Views p vs) = refl
  commit_verdict_is reply.Done = refl
  commit_verdict_is (reply.Retry c) = refl
  commit_verdict_is (reply.Changed c) = refl
  commit_verdict_is (reply.AgentIsFailed g) = refl
  commit_verdict_is (reply.Action n a v) = refl
  commit_verdict_is reply.Idle = refl
  commit_verdict_is (reply.Opened p v) = refl
  commit_verdict_is reply.Full = refl
  commit_verdict_is reply.Memory = refl

  opened_is : ReadsAs opened_at opened
  opened_is (reply.At p) = refl
  opened_is (reply.Is v) = refl
  opened_is (reply.Views p vs) = refl
  opened_is reply.Done = refl
  opened_is (reply.Retry c) = refl
  opened_is (reply.Changed c) = refl
  opened_is (reply.AgentIsFailed g) = refl
  opened_is (reply.Action n a v) = refl
  opened_is reply.Idle = refl
  opened_is (reply.Opened p v) = refl
  opened_is reply.Full = refl
  opened_is reply.Memory = refl

  swap_verdict_is : ReadsAs same swap_verdict
  swap_verdict_is (reply.At p) = refl
  swap_verdict_is (reply.Is v) = refl
  swap_verdict_is (reply.Views p vs) = refl
  swap_verdict_is reply.Done = refl
  swap_verdict_is (reply.Retry c) = refl
  swap_verdict_is (reply.Changed c) = refl
  swap_verdict_is (reply.AgentIsFailed g) = refl
  swap_verdict_is (reply.Action n a v) = refl
  swap_verdict_is reply.Idle = refl
  swap_verdict_is (reply.Opened p v) = refl
  swap_verdict_is reply.Full = refl
  swap_verdict_is reply.Memory = refl

  send_verdict_is : ReadsAs same send_verdict
  send_verdict_is (reply.At p) = refl
  send_verdict_is (reply.Is v) = refl
  send_verdict_is (reply.Views p vs) = refl
  send_verdict_is reply.Done = refl
  send_verdict_is (reply.Retry c) = refl
  send_verdict_is (reply.Changed c) = refl
  send_verdict_is (reply.AgentIsFailed g) = refl
  send_verdict_is (reply.Action n a v) = refl
  send_verdict_is reply.Idle = refl
  send_verdict_is (reply.Opened p v) = refl
  send_verdict_is reply.Full = refl
  send_verdict_is reply.Memory = refl

  handed_out_is : ReadsAs same handed_out
  handed_out_is (reply.At p) = refl
  handed_out_is (reply.Is v) = refl
  handed_out_is (reply.Views p vs) = refl
  handed_out_is reply.Done = refl
  handed_out_is (reply.Retry c) = refl
  handed_out_is (reply.Changed c) = refl
  handed_out_is (reply.AgentIsFailed g) = refl
  handed_out_is (reply.Action n a v) = refl
  handed_out_is reply.Idle = refl
  handed_out_is (reply.Opened p v) = refl
  handed_out_is reply.Full = refl
  handed_out_is reply.Memory = refl

  taken_back_is : ReadsAs same taken_back
  taken_back_is (reply.At p) = refl
  taken_back_is (reply.Is v) = refl
  taken_back_is (reply.Views p vs) = refl
  taken_back_is reply.Done = refl
  taken_back_is (reply.Retry c) = refl
  taken_back_is (reply.Changed c) = refl
  taken_back_is (reply.AgentIsFailed g) = refl
  taken_back_is (reply.Action n a v) = refl
  taken_back_is reply.Idle = refl
  taken_back_is (reply.Opened p v) = refl
  taken_back_is reply.Full = refl
  taken_back_is reply.Memory = refl

  -- ---- steps

  asks_more : (q : Ask) (s : ActorState) → ReceptionMore (asks q s) (asks (ask_with ren q) (later s))
  unfolding asks
  asks_more q s = go s.todo refl
    where
      go : (l : List Exchange) → s.todo ≡ l → ReceptionMore (receives q s l) (receives (ask_with ren q) (later s) (map (exchange_with ren) l))
      go [] e = λ z. refl
      go (x ∷ l) e = test (same_ask q x.ask) refl
        where
          test : (b : Bool) → same_ask q x.ask ≡ b → ReceptionMore (if b then Replied x.reply (record s { todo = l }) else Unreplied (record s { wants = Some q })) (receives (ask_with ren q) (later s) (map (exchange_with ren) (x ∷ l)))
          test true h =
              ap (λ b. if b then Replied (reply_with ren x.reply) (record (later s) { todo = map (exchange_with ren) l }) else Unreplied (record (later s) { wants = Some (ask_with ren q) }))
              (subst (λ p. same_ask (ask_with ren q) (ask_with ren p) ≡ true) (same_ask-sound q x.ask h) (same_ask-itself (ask_with ren q)))
          test false h = λ z. absurd (subst IsThere (sym e ∙ z) tt)

  reading_more : {A : Type 0} (re : A → A) (r : Reading A) (s : ActorState) → StepAs re (read_as r s) (read_as (reading_by re r) (later s))
  reading_more re (Says a) s = refl
  reading_more re SaysRetry s = refl
  reading_more re SaysNothing s = refl

  heard_more : {A : Type 0} (re : A → A) (reads : Reply → Reading A) → ReadsAs re reads → (h k : Reception) → ReceptionMore h k → StepAs re (heard reads h) (heard reads k)
  heard_more re reads is (Replied r s) k e =
      subst (λ u. StepAs re (read_as (reads r) s) (heard reads u)) (sym e)
      (subst (λ v. StepAs re (read_as (reads r) s) (read_as v (later s))) (sym (is r)) (reading_more re (reads r) s))
  heard_more re reads is (Unreplied s) k e = λ z. ap (λ u. heard reads u) (e z)

  ask_more : {A : Type 0} (re : A → A) (reads : Reply → Reading A) → ReadsAs re reads → (q : Ask) (s : ActorState) → StepAs re (heard reads (asks q s)) (heard reads (asks (ask_with ren q) (later s)))
  ask_more re reads is q s = heard_more re reads is (asks q s) (asks (ask_with ren q) (later s)) (asks_more q s)

  step_by : {A B : Type 0} (re : A → A) (out : B → B) (x y : StepResult A) (f g : A → ActorState → StepResult B) → StepAs re x y → ((a : A) (s : ActorState) → StepAs out (f a s) (g (re a) (later s))) → StepAs out (on_step x f) (on_step y g)
  step_by re out (Continue a s) y f g e k = subst (λ u. StepAs out (f a s) (on_step u g)) (sym e) (k a s)
  step_by re out (Break x s) y f g e k = ap (λ u. on_step u g) e
  step_by re out (Redo s) y f g e k = ap (λ u. on_step u g) e
  step_by re out (Await s) y f g e k = λ z. ap (λ u. on_step u g) (e z)
  step_by re out Malformed y f g e k = ap (λ u. on_step u g) e

  step_more : {A B : Type 0} (x y : StepResult A) (f g : A → ActorState → StepResult B) → StepMore x y → ((a : A) (s : ActorState) → StepMore (f a s) (g a (later s))) → StepMore (on_step x f) (on_step y g)
  step_more x y f g e k = step_by same same x y f g e k

  step_of_more : {A : Type 0} (r : Result A FaultKind) (span : Span) (s : ActorState) → StepMore (step_of r span s) (step_of r span (later s))
  step_of_more (Ok a) span s = refl
  step_of_more (Err k) span s = refl

  begin_more : (s : ActorState) → StepMore (begin s) (begin (later s))
  unfolding begin
  begin_more s = step_by ren same (heard read_point (asks ask.Begin s)) (heard read_point (asks ask.Begin (later s))) begun begun (ask_more ren read_point read_point_is ask.Begin s) (λ p s1. refl)

  fail_more : (s : ActorState) → StepMore (fail s) (fail (later s))
  unfolding fail
  fail_more s = ask_more same just_done just_done_is (ask.Fail s.at s.view) s

  own_more : (s : ActorState) (o : Option Value) (x y : StepResult Value) → StepMore x y → StepMore (buffered_or o s x) (buffered_or o (later s) y)
  own_more s (Some v) x y h = refl
  own_more s None x y h = h

  look_more : (c : CellId) (s : ActorState) → StepMore (look c s) (look c (later s))
  unfolding look
  look_more c s = own_more s (buffered s.done.values c.number) (heard value_there (asks (ask.Look c s.at) s)) (heard value_there (asks (ask.Look c (ren s.at)) (later s))) (ask_more same value_there value_there_is (ask.Look c s.at) s)

  viewed_more : (q : ℕ) (o : Option Writes) (s : ActorState) → StepMore (viewed q o s) (viewed (ren q) o (later s))
  viewed_more q None s = refl
  viewed_more q (Some ws) s = refl

  view_more : (s : ActorState) → StepMore (view s) (view (later s))
  unfolding view
  view_more s =
      let q = ask.View (commuted s.done) in
      let go : ℕ × List Value → ActorState → StepResult Writes = λ x s1. viewed x.0 (paired (commuted s.done) x.1) s1 in
      step_by views_with same (heard views (asks q s)) (heard views (asks q (later s))) go go (ask_more views_with views views_is q s) (λ x s1. viewed_more x.0 (paired (commuted s.done) x.1) s1)

  landed_more : (v : Verdict) (s : ActorState) → StepMore (landed v s) (landed v (later s))
  landed_more Landed s = refl
  landed_more Outdated s = refl
  landed_more Undone s = refl
  landed_more Denied s = refl

  commit_more : (ws : Writes) (s : ActorState) → StepMore (commit ws s) (commit ws (later s))
  unfolding commit
  commit_more ws s =
      let q = ask.Commit s.at (set_writes s.done) s.done.ensures s.view ws (sends_of_commit (held_in s.acting) s.done.sends) in
      step_more (heard commit_verdict (asks q s)) (heard commit_verdict (asks (ask_with ren q) (later s))) landed landed (ask_more same commit_verdict commit_verdict_is q s) landed_more

  peek_more : (c : CellId) (s : ActorState) → StepMore (peek c s) (peek c (later s))
  unfolding peek
  peek_more c s = ask_more same newest_value newest_value_is (ask.Peek c) s

  open_atom_more : (c : CellId) (s : ActorState) → StepAs in_hand (open_atom c s) (open_atom c (later s))
  unfolding open_atom
  open_atom_more c s = step_by opened_at in_hand (heard opened (asks (ask.OpenAt c) s)) (heard opened (asks (ask.OpenAt c) (later s))) _ _ (ask_more opened_at opened opened_is (ask.OpenAt c) s) (λ x s1. refl)

  close_swap_more : (w : SwapInHand) (v : Value) (s : ActorState) → StepMore (close_swap w v s) (close_swap (swap_with ren w) v (later s))
  unfolding close_swap
  close_swap_more w v s = ask_more same swap_verdict swap_verdict_is (ask.CloseAt w.cell (Some w.at) v) s

  break_swap_more : (w : SwapInHand) (s : ActorState) → StepMore (break_swap w s) (break_swap (swap_with ren w) (later s))
  unfolding break_swap
  break_swap_more w s = ask_more same just_done just_done_is (ask.Broke w.cell w.at) s

  reset_more : (c : CellId) (v : Value) (s : ActorState) → StepMore (reset_atom c v s) (reset_atom c v (later s))
  unfolding reset_atom
  reset_more c v s = step_more (heard just_done (asks (ask.CloseAt c None v) s)) (heard just_done (asks (ask.CloseAt c None v) (later s))) _ _ (ask_more same just_done just_done_is (ask.CloseAt c None v) s) (λ u s1. refl)

  sent_more : (a : Action) (v : Verdict) (s : ActorState) → StepMore (sent a v s) (sent a v (later s))
  sent_more a Landed s = refl
  sent_more a Outdated s = refl
  sent_more a Undone s = refl
  sent_more a Denied s = refl

  send_now_more : (a : Action) (s : ActorState) → StepMore (send_now a s) (send_now a (later s))
  unfolding send_now
  send_now_more a s = step_more (heard send_verdict (asks (ask.Send a) s)) (heard send_verdict (asks (ask.Send a) (later s))) (sent a) (sent a) (ask_more same send_verdict send_verdict_is (ask.Send a) s) (sent_more a)

  take_more : (g : CellId) (s : ActorState) → StepMore (take_action g s) (take_action g (later s))
  unfolding take_action
  take_more g s = ask_more same handed_out handed_out_is (ask.Take g) s

  finish_more : (g : CellId) (new : Result Value Fault) (sends : List Action) (s : ActorState) → StepMore (finish g new sends s) (finish g new sends (later s))
  unfolding finish
  finish_more g new sends s = ask_more same taken_back taken_back_is (ask.Finish g new sends) s

  -- ---- forms

  cell_more : {B : Type 0} (f : CellForm) (inside : Bool) (span : Span) (v : Value) (s : ActorState) (go : CellId → ActorState → StepResult B) → ((c : CellId) (s1 : ActorState) → StepMore (go c s1) (go c (later s1)))
      → StepMore (on_step (cell_at f inside span v s) go) (on_step (cell_at f inside span v (later s)) go)
  cell_more f inside span v s go k = step_more (cell_at f inside span v s) (cell_at f inside span v (later s)) go go (step_of_more (cell_of (rule f) inside v) span s) k

  cell_by : {B : Type 0} (out : B → B) (f : CellForm) (inside : Bool) (span : Span) (v : Value) (s : ActorState) (go : CellId → ActorState → StepResult B) → ((c : CellId) (s1 : ActorState) → StepAs out (go c s1) (go c (later s1)))
      → StepAs out (on_step (cell_at f inside span v s) go) (on_step (cell_at f inside span v (later s)) go)
  cell_by out f inside span v s go k = step_by same out (cell_at f inside span v s) (cell_at f inside span v (later s)) go go (step_of_more (cell_of (rule f) inside v) span s) k

  read_cell_more : (f : LookForm) (inside : Bool) (c : CellId) (s : ActorState) → StepMore (read_cell f inside c s) (read_cell f inside c (later s))
  read_cell_more Deref true c s = look_more c s
  read_cell_more Deref false c s = peek_more c s
  read_cell_more Ensure true c s = step_more (look c s) (look c (later s)) _ _ (look_more c s) (λ v s1. refl)
  read_cell_more Ensure false c s = refl

  read_more : (f : LookForm) (inside : Bool) (span : Span) (v : Value) (s : ActorState) → StepMore (read f inside span v s) (read f inside span v (later s))
  read_more f inside span v s = cell_more (form.Look f) inside span v s (read_cell f inside) (read_cell_more f inside)

  set_more : (span : Span) (v : Value) (c : CellId) (s : ActorState) → StepMore (set_own span v c s) (set_own span v c (later s))
  set_more span v c s = step_more (step_of (set_ref c v s.done) span s) (step_of (set_ref c v s.done) span (later s)) _ _ (step_of_more (set_ref c v s.done) span s) (λ w s1. refl)

  assign_cell_more : (f : PutForm) (inside : Bool) (span : Span) (v : Value) (c : CellId) (s : ActorState) → StepMore (assign_cell f inside span v c s) (assign_cell f inside span v c (later s))
  assign_cell_more RefSet true span v c s = set_more span v c s
  assign_cell_more RefSet false span v c s = refl
  assign_cell_more Reset false span v c s = reset_more c v s
  assign_cell_more Reset true span v c s = refl

  assign_more : (f : PutForm) (inside : Bool) (span : Span) (c v : Value) (s : ActorState) → StepMore (assign f inside span c v s) (assign f inside span c v (later s))
  assign_more f inside span c v s = cell_more (form.Put f) inside span c s (assign_cell f inside span v) (assign_cell_more f inside span v)

  open_update_more : (u : RefUpdate) (inside : Bool) (span : Span) (v : Value) (vs : List Value) (s : ActorState) → StepMore (open_update u inside span v vs s) (open_update u inside span v vs (later s))
  open_update_more u false span v vs s = refl
  open_update_more u true span v vs s =
      let open_look : CellId → ActorState → StepResult Value = λ c s1. on_step (look c s1) (λ x s2. Continue x (record s2 { commuting = kept_open u c vs })) in
      cell_more (form.Update (update_form u)) true span v s open_look (λ c s1. step_more (look c s1) (look c (later s1)) _ _ (look_more c s1) (λ x s2. refl))

  close_own_more : (o : Option Commute) (span : Span) (w : Value) (c : CellId) (s : ActorState) → StepMore (close_own o span w c s) (close_own o span w c (later s))
  close_own_more None span w c s = set_more span w c s
  close_own_more (Some o) span w c s = refl

  close_update_more : (span : Span) (v w : Value) (s : ActorState) → StepMore (close_update span v w s) (close_update span v w (later s))
  close_update_more span v w s = cell_more (form.Update update.Alter) true span v s (close_own s.commuting span w) (close_own_more s.commuting span w)

  open_swap_more : (inside : Bool) (span : Span) (v : Value) (s : ActorState) → StepAs in_hand (open_swap inside span v s) (open_swap inside span v (later s))
  open_swap_more true span v s = refl
  open_swap_more false span v s = cell_by in_hand (form.Update update.Swap) false span v s open_atom open_atom_more

  send_action_more : (inside : Bool) (a : Action) (s : ActorState) → StepMore (send_action inside a s) (send_action inside a (later s))
  send_action_more true a s = refl
  send_action_more false a s = or_hold s.acting
    where
      or_hold : (o : Option InHand) → StepMore (send_or_hold o a s) (send_or_hold o a (later s))
      or_hold None = send_now_more a s
      or_hold (Some h) = refl

  send_more : (inside : Bool) (span : Span) (v : Value) (callee : Callee) (vs : List Value) (s : ActorState) → StepMore (send_to inside span v callee vs s) (send_to inside span v callee vs (later s))
  send_more inside span v callee vs s =
      let action : CellId → Action = λ g. record { agent = g; callee = callee; args = vs; span = span } in
      cell_more form.Send inside span v s (λ g s1. send_action inside (action g) s1) (λ g s1. send_action_more inside (action g) s1)

  print_more : (inside : Bool) (vs : List Value) (s : ActorState) → StepMore (print inside vs s) (print inside vs (later s))
  unfolding print
  print_more true vs s = refl
  print_more false vs s = refl

  found_more : (o : Option Value) (s : ActorState) → StepMore (found o s) (found o (later s))
  found_more None s = refl
  found_more (Some v) s = refl

  -- ---- turns

  told_more : (x y : StepResult (Unit {0})) (a b : ActorState → Turned Configuration) → StepMore x y → ((s : ActorState) → More (a s) (b (later s))) → More (told x a) (told y b)
  told_more (Continue u s) y a b e k = subst (λ r. More (a s) (told r b)) (sym e) (k s)
  told_more (Break f s) y a b e k = ap (λ r. told r b) e
  told_more (Redo s) y a b e k = ap (λ r. told r b) e
  told_more (Await s) y a b e k = λ z. ap (λ r. told r b) (e z)
  told_more Malformed y a b e k = ap (λ r. told r b) e

  over_more : (o : Option InHand) (f : Fault) (s : ActorState) → More (ends_with o f s) (ends_with o f (later s))
  over_more None f s = refl
  over_more (Some h) f s = told_more (finish h.agent (Err f) [] s) (finish h.agent (Err f) [] (later s)) _ _ (finish_more h.agent (Err f) [] s) (λ s1. refl)

  fails_more : (o : Option InHand) (f : Fault) (s : ActorState) → More (fails_with o f s) (fails_with o f (later s))
  fails_more None f s = refl
  fails_more (Some h) f s = refl

  raise_more : (doing : Activity) (f : Fault) (s : ActorState) → More (raise doing f s) (raise (going doing) f (later s))
  raise_more Outside f s = over_more s.acting f s
  raise_more (Restarting left) f s = fails_more s.acting f s
  raise_more (Running left inner from) f s = told_more (fail s) (fail (later s)) _ _ (fail_more s) (λ s1. fails_more s1.acting f s1)
  raise_more (Applying left from work values) f s = told_more (fail s) (fail (later s)) _ _ (fail_more s) (λ s1. fails_more s1.acting f s1)
  raise_more (Swapping swap from) f s = told_more (break_swap swap s) (break_swap (swap_with ren swap) (later s)) _ _ (break_swap_more swap s) (λ s1. fails_more s1.acting f s1)

  tries_more : (left : ℕ) (from : Savepoint) (s : ActorState) (a b : ℕ → Configuration) → ((k : ℕ) → b k ≡ moved (a k)) → More (try_more left from s a) (try_more left from (later s) b)
  tries_more zero from s a b k = fails_more s.acting (fault_at RetryLimit from.span) s
  tries_more (suc left) from s a b k = ap (λ c. Unfinished c) (k left)

  rerun_later : (left : ℕ) (from : Savepoint) (s : ActorState) → More (rerun left from s) (rerun left from (later s))
  rerun_later left from s = tries_more left from s _ _ (λ k. refl)

  retried_more : (doing : Activity) (s : ActorState) → More (retried doing s) (retried (going doing) (later s))
  retried_more Outside s = refl
  retried_more (Restarting left) s = refl
  retried_more (Running left inner from) s = rerun_later left from s
  retried_more (Applying left from work values) s = refl
  retried_more (Swapping swap from) s = refl

  on_by : {A : Type 0} (re : A → A) (doing : Activity) (x y : StepResult A) (a b : A → ActorState → Turned Configuration) → StepAs re x y → ((v : A) (s : ActorState) → More (a v s) (b (re v) (later s))) → More (on doing x a) (on (going doing) y b)
  on_by re doing (Continue v s) y a b e k = subst (λ u. More (a v s) (on (going doing) u b)) (sym e) (k v s)
  on_by re doing (Break f s) y a b e k = subst (λ u. More (raise doing f s) (on (going doing) u b)) (sym e) (raise_more doing f s)
  on_by re doing (Redo s) y a b e k = subst (λ u. More (retried doing s) (on (going doing) u b)) (sym e) (retried_more doing s)
  on_by re doing (Await s) y a b e k = λ z. ap (λ u. on (going doing) u b) (e z)
  on_by re doing Malformed y a b e k = ap (λ u. on (going doing) u b) e

  on_more : {A : Type 0} (doing : Activity) (x y : StepResult A) (a b : A → ActorState → Turned Configuration) → StepMore x y → ((v : A) (s : ActorState) → More (a v s) (b v (later s))) → More (on doing x a) (on (going doing) y b)
  on_more doing x y a b e k = on_by same doing x y a b e k

  -- what is said of being inside a transaction is said with other places too
  inside_by : (P : Bool → Type 0) (doing : Activity) → P (is_inside doing) → P (is_inside (going doing))
  inside_by P Outside h = h
  inside_by P (Restarting left) h = h
  inside_by P (Running left inner from) h = h
  inside_by P (Applying left from work values) h = h
  inside_by P (Swapping swap from) h = h

  gives_more : (c : Configuration) (rest : List Value) (x y : StepResult Value) → StepMore x y → More (gives c rest x) (gives (moved c) rest y)
  gives_more c rest x y e = on_more c.doing x y _ _ e (λ v s. refl)

  top_more : (stack : List Value) (a b : Value → List Value → Turned Configuration) → ((v : Value) (rest : List Value) → More (a v rest) (b v rest)) → More (on_top stack a) (on_top stack b)
  top_more [] a b k = refl
  top_more (v ∷ stack) a b k = k v stack

  args_more : (n : ℕ) (stack vs : List Value) (a b : List Value → List Value → Turned Configuration) → ((ws rest : List Value) → More (a ws rest) (b ws rest)) → More (on_args n stack vs a) (on_args n stack vs b)
  args_more zero stack vs a b k = k vs stack
  args_more (suc n) [] vs a b k = refl
  args_more (suc n) (v ∷ stack) vs a b k = args_more n stack (v ∷ vs) a b k

  args_of_more : (n : ℕ) (stack : List Value) (a b : List Value → Value → List Value → Turned Configuration) → ((ws : List Value) (v : Value) (rest : List Value) → More (a ws v rest) (b ws v rest)) → More (on_args_of n stack a) (on_args_of n stack b)
  args_of_more n stack a b k = args_more n stack [] _ _ (λ ws under. top_more under _ _ (k ws))

  two_more : (stack : List Value) (a b : Value → Value → List Value → Turned Configuration) → ((w v : Value) (rest : List Value) → More (a w v rest) (b w v rest)) → More (on_two stack a) (on_two stack b)
  two_more stack a b k = top_more stack _ _ (λ w under. top_more under _ _ (k w))

  starts_more : (left : ℕ) (span : Span) (c : Configuration) → More (starts left span c) (starts left span (moved c))
  starts_more left span c = on_more c.doing (begin c.state) (begin (later c.state)) _ _ (begin_more c.state) (λ u s. refl)

  begins_more : (doing : Activity) (span : Span) (c : Configuration) → More (begins doing span c) (begins (going doing) span (moved c))
  begins_more Outside span c = starts_more reruns span c
  begins_more (Restarting left) span c = starts_more left span c
  begins_more (Running left inner from) span c = refl
  begins_more (Applying left from work values) span c = refl
  begins_more (Swapping swap from) span c = refl

  decided_more : (v : Verdict) (left : ℕ) (from : Savepoint) (c : Configuration) (s : ActorState) → More (decided v left from c s) (decided v left from (moved c) (later s))
  decided_more Landed left from c s = refl
  decided_more Outdated left from c s = tries_more left from s _ _ (λ k. refl)
  decided_more Undone left from c s = rerun_later left from s
  decided_more Denied left from c s = fails_more s.acting (fault_at AgentFailed from.span) s

  lands_more : (left : ℕ) (from : Savepoint) (ws : Writes) (c : Configuration) → More (lands left from ws c) (lands left from ws (moved c))
  lands_more left from ws c = on_more c.doing (commit ws c.state) (commit ws (later c.state)) _ _ (commit_more ws c.state) (λ v s. decided_more v left from c s)

  applies_more : (code : ThreadCode) (f : Callee) (left : ℕ) (from : Savepoint) (k : Commute) (work : List Task) (ws : Writes) (c : Configuration) → More (applies code f left from k work ws c) (applies code f left from k work ws (moved c))
  applies_more code (callee.Core op) left from k work ws c = on_more c.doing _ _ _ _ (step_of_more (core op (arguments_of k ws)) from.span c.state) (λ v s. refl)
  applies_more code (callee.Function f) left from k work ws c = refl

  validates_more : (code : ThreadCode) (f : Callee) (v : Value) (span : Span) (c : Configuration) → More (validates code f v span c) (validates code f v span (moved c))
  validates_more code (callee.Core op) v span c = on_more c.doing _ _ _ _ (step_of_more (core op (v ∷ [])) span c.state) (λ a s. refl)
  validates_more code (callee.Function f) v span c = refl

  accepted_more : (code : ThreadCode) (o : Option Bool) (f : Callee) (v : Value) (span : Span) (c : Configuration) (a b : Configuration → Turned Configuration)
      → ((c1 : Configuration) → More (a c1) (b (moved c1))) → More (where_accepted code o f v span c a) (where_accepted code o f v span (moved c) b)
  accepted_more code None f v span c a b k = validates_more code f v span c
  accepted_more code (Some true) f v span c a b k = k (record c { state = record c.state { accepted = None } })
  accepted_more code (Some false) f v span c a b k = raise_more c.doing (fault_at InvalidState span) (record c.state { accepted = None })

  valid_more : (code : ThreadCode) (o : Option Callee) (v : Value) (span : Span) (c : Configuration) (a b : Configuration → Turned Configuration)
      → ((c1 : Configuration) → More (a c1) (b (moved c1))) → More (where_valid code o v span c a) (where_valid code o v span (moved c) b)
  valid_more code None v span c a b k = k c
  valid_more code (Some f) v span c a b k = accepted_more code c.state.accepted f v span c a b k

  works_more : (code : ThreadCode) (left : ℕ) (from : Savepoint) (work : List Task) (ws : Writes) (c : Configuration) → More (works code left from work ws c) (works code left from work ws (moved c))
  works_more code left from [] ws c = lands_more left from ws c
  works_more code left from (Redoes k ∷ work) ws c = applies_more code k.callee left from k work ws c
  works_more code left from (Validates r f ∷ work) ws c =
      let go : Configuration → Turned Configuration = λ c1. works code left from work ws (staying (Applying left from work ws) c1.state c1) in
      accepted_more code c.state.accepted f (to_write ws c.state.done r.number) from.span (staying (Applying left from (Validates r f ∷ work) ws) c.state c) go go (λ c1. works_more code left from work ws (staying (Applying left from work ws) c1.state c1))

  settles_more : (code : ThreadCode) (cs : List CellId) (left : ℕ) (from : Savepoint) (c : Configuration) → More (settles code cs left from c) (settles code cs left from (moved c))
  settles_more code [] left from c = works_more code left from (tasks_of code.validators c.state.done) [] c
  settles_more code (d ∷ cs) left from c = on_more c.doing (view c.state) (view (later c.state)) _ _ (view_more c.state) (λ ws s. refl)

  ends_more : (code : ThreadCode) (doing : Activity) (c : Configuration) → More (ends code doing c) (ends code (going doing) (moved c))
  ends_more code Outside c = refl
  ends_more code (Restarting left) c = refl
  ends_more code (Running left (suc inner) from) c = refl
  ends_more code (Running left zero from) c = settles_more code (commuted c.state.done) left from c
  ends_more code (Applying left from work ws) c = works_more code left from work ws c
  ends_more code (Swapping swap from) c = refl

  applied_more : (v : Value) (doing : Activity) → applied v (going doing) ≡ going (applied v doing)
  applied_more v Outside = refl
  applied_more v (Restarting left) = refl
  applied_more v (Running left inner from) = refl
  applied_more v (Applying left from [] values) = refl
  applied_more v (Applying left from (Redoes k ∷ work) values) = refl
  applied_more v (Applying left from (Validates r f ∷ work) values) = refl
  applied_more v (Swapping swap from) = refl

  returns_more : (frames : List Frame) (v : Value) (c : Configuration) → More (returns_to frames v c) (returns_to frames v (moved c))
  returns_more [] v c = refl
  returns_more (f ∷ frames) v c =
      let back : Activity → ActorState → Turned Configuration = λ d s. Unfinished (record { body = f.body; place = f.place; stack = stack_after f.awaits v f.stack; locals = f.locals; frames = frames; doing = d; state = s }) in
      ap (λ d. back d (state_after f.awaits v (later c.state))) (same_doing f.awaits) ∙ ap (λ s. back (going (doing_after f.awaits v c.doing)) s) (same_state f.awaits)
    where
      same_doing : (d : Destination) → doing_after d v (going c.doing) ≡ going (doing_after d v c.doing)
      same_doing to_stack = refl
      same_doing to_commutes = applied_more v c.doing
      same_doing to_validation = refl

      same_state : (d : Destination) → state_after d v (later c.state) ≡ later (state_after d v c.state)
      same_state to_stack = refl
      same_state to_commutes = refl
      same_state to_validation = refl

  opens_ref_more : (u : RefUpdate) (span : Span) (vs : List Value) (cell : Value) (rest : List Value) (c : Configuration) → More (opens_ref u span vs cell rest c) (opens_ref u span vs cell rest (moved c))
  opens_ref_more u span vs cell rest c =
      inside_by (λ b. More (opens_ref u span vs cell rest c) (on (going c.doing) (open_update u b span cell vs (later c.state)) (λ v s. Unfinished (ahead (push_all vs (v ∷ cell ∷ rest)) s (moved c))))) c.doing
      (on_more c.doing _ _ _ _ (open_update_more u (is_inside c.doing) span cell vs c.state) (λ v s. refl))

  opens_atom_more : (doing : Activity) (span : Span) (vs : List Value) (cell : Value) (rest : List Value) (c : Configuration) → More (opens_atom doing span vs cell rest c) (opens_atom (going doing) span vs cell rest (moved c))
  opens_atom_more Outside span vs cell rest c = on_by in_hand c.doing _ _ _ _ (open_swap_more false span cell c.state) (λ o s. refl)
  opens_atom_more (Restarting left) span vs cell rest c = refl
  opens_atom_more (Running left inner from) span vs cell rest c = refl
  opens_atom_more (Applying left from work values) span vs cell rest c = refl
  opens_atom_more (Swapping swap from) span vs cell rest c = refl

  opens_more : (form : OpenForm) (span : Span) (vs : List Value) (cell : Value) (rest : List Value) (c : Configuration) → More (opens form span vs cell rest c) (opens form span vs cell rest (moved c))
  opens_more open_form.Alter span vs cell rest c = opens_ref_more Alters span vs cell rest c
  opens_more (open_form.Commute f) span vs cell rest c = opens_ref_more (Commutes f) span vs cell rest c
  opens_more (open_form.Swap f) span vs cell rest c = opens_atom_more c.doing span vs cell rest c

  swap_decided_more : (v : Verdict) (from : Savepoint) (w : Value) (rest : List Value) (c : Configuration) (s : ActorState) → More (swap_decided v from w rest c s) (swap_decided v from w rest (moved c) (later s))
  swap_decided_more Landed from w rest c s = refl
  swap_decided_more Outdated from w rest c s = refl
  swap_decided_more Undone from w rest c s = refl
  swap_decided_more Denied from w rest c s = refl

  closes_swap_more : (code : ThreadCode) (doing : Activity) (w : Value) (rest : List Value) (c : Configuration) → More (closes_swap code doing w rest c) (closes_swap code (going doing) w rest (moved c))
  closes_swap_more code (Swapping swap from) w rest c =
      let go : SwapInHand → Configuration → Turned Configuration = λ hand c1. on c1.doing (close_swap hand w c1.state) (λ verdict s. swap_decided verdict from w rest c1 s) in
      valid_more code (validator_at code.validators swap.cell.number) w from.span c (go swap) (go (swap_with ren swap)) (λ c1. on_more c1.doing _ _ _ _ (close_swap_more swap w c1.state) (λ v s. swap_decided_more v from w rest c1 s))
  closes_swap_more code Outside w rest c = refl
  closes_swap_more code (Restarting left) w rest c = refl
  closes_swap_more code (Running left inner from) w rest c = refl
  closes_swap_more code (Applying left from work values) w rest c = refl

  puts_more : (code : ThreadCode) (f : PutForm) (span : Span) (w cell : Value) (rest : List Value) (c : Configuration) → More (puts code f span w cell rest c) (puts code f span w cell rest (moved c))
  puts_more code RefSet span w cell rest c =
      inside_by (λ b. More (puts code RefSet span w cell rest c) (gives (moved c) rest (assign RefSet b span cell w (later c.state)))) c.doing
      (gives_more c rest _ _ (assign_more RefSet (is_inside c.doing) span cell w c.state))
  puts_more code Reset span w cell rest c =
      let go : Bool → CellId → Configuration → Turned Configuration = λ b a c1. gives c1 rest (assign_cell Reset b span w a c1.state) in
      inside_by (λ b. More (puts code Reset span w cell rest c) (on (going c.doing) (cell_at (form.Put Reset) b span cell (later c.state)) (λ a s. where_valid code (validator_at code.validators a.number) w span (moved c) (go b a)))) c.doing
      (on_more c.doing _ _ (λ a s. where_valid code (validator_at code.validators a.number) w span c (go (is_inside c.doing) a)) (λ a s. where_valid code (validator_at code.validators a.number) w span (moved c) (go (is_inside c.doing) a))
      (step_of_more (cell_of (rule (form.Put Reset)) (is_inside c.doing) cell) span c.state)
      (λ a s. valid_more code (validator_at code.validators a.number) w span c (go (is_inside c.doing) a) (go (is_inside c.doing) a) (λ c1. gives_more c1 rest _ _ (assign_cell_more Reset (is_inside c.doing) span w a c1.state))))

  finishes_more : (code : ThreadCode) (g : CellId) (o : Option InHand) (v : Value) (c : Configuration) → More (finishes code g o v c) (finishes code g o v (moved c))
  finishes_more code g None v c = refl
  finishes_more code g (Some h) v c =
      let go : Configuration → Turned Configuration = λ c1. told (finish g (Ok v) h.sends c1.state) (λ s. Unfinished (first_place [] (rested s))) in
      valid_more code (validator_at code.validators h.action.agent.number) v h.action.span c go go (λ c1. told_more _ _ _ _ (finish_more g (Ok v) h.sends c1.state) (λ s. refl))

  hands_in_more : (code : ThreadCode) (g : CellId) (o : Option InHand) (f : Option Fault) (c : Configuration) → More (hands_in code g o f c) (hands_in code g o f (moved c))
  hands_in_more code g o (Some f) c = told_more _ _ _ _ (finish_more g (Err f) [] c.state) (λ s. refl)
  hands_in_more code g o None c = top_more c.stack _ _ (λ v rest. finishes_more code g o v c)

  closes_more : (code : ThreadCode) (form : UpdateForm) (span : Span) (w cell : Value) (rest : List Value) (c : Configuration) → More (closes code form span w cell rest c) (closes code form span w cell rest (moved c))
  closes_more code update.Alter span w cell rest c = gives_more c rest _ _ (close_update_more span cell w c.state)
  closes_more code update.Commute span w cell rest c = gives_more c rest _ _ (close_update_more span cell w c.state)
  closes_more code update.Swap span w cell rest c = closes_swap_more code c.doing w rest c

  started_more : (g : CellId) (o : Option Taken) (c : Configuration) (s : ActorState) → More (started g o c s) (started g o (moved c) (later s))
  started_more g None c s = refl
  started_more g (Some t) c s = refl

  runs_callee_more : (code : ThreadCode) (f : Callee) (a : Action) (v : Value) (rest : List Value) (c : Configuration) → More (runs_callee code f a v rest c) (runs_callee code f a v rest (moved c))
  runs_callee_more code (callee.Core op) a v rest c = gives_more c rest _ _ (step_of_more (core op (v ∷ a.args)) a.span c.state)
  runs_callee_more code (callee.Function f) a v rest c = refl

  runs_more : (code : ThreadCode) (o : Option InHand) (v : Value) (rest : List Value) (c : Configuration) → More (runs code o v rest c) (runs code o v rest (moved c))
  runs_more code None v rest c = refl
  runs_more code (Some h) v rest c = runs_callee_more code h.action.callee h.action v rest c

  pub act_more : (code : ThreadCode) (i : Option PlainInstr) (c : Configuration) → More (act code i c) (act code i (moved c))
  act_more code None c = refl
  act_more code (Some (Push v)) c = refl
  act_more code (Some (Load i)) c = gives_more c c.stack _ _ (found_more (nth c.locals i) c.state)
  act_more code (Some (Store i)) c = top_more c.stack _ _ (λ v rest. refl)
  act_more code (Some Pop) c = top_more c.stack _ _ (λ v rest. refl)
  act_more code (Some (Jump to)) c = refl
  act_more code (Some (JumpFalse to)) c = top_more c.stack _ _ (λ v rest. refl)
  act_more code (Some (CoreOf op args span)) c = args_more args c.stack [] _ _ (λ vs rest. gives_more c rest _ _ (step_of_more (core op vs) span c.state))
  act_more code (Some (CallOf f args)) c = args_more args c.stack [] _ _ (λ vs rest. refl)
  act_more code (Some Return) c = top_more c.stack _ _ (λ v rest. returns_more c.frames v c)
  act_more code (Some (MakeVector items span)) c = args_more items c.stack [] _ _ (λ vs rest. gives_more c rest _ _ (step_of_more (vector_of vs) span c.state))
  act_more code (Some (PrintOf args)) c = args_more args c.stack [] _ _ (λ vs rest. inside_by (λ b. More (gives c rest (print (is_inside c.doing) vs c.state)) (gives (moved c) rest (print b vs (later c.state)))) c.doing (gives_more c rest _ _ (print_more (is_inside c.doing) vs c.state)))
  act_more code (Some (TxBegin span)) c = begins_more c.doing span c
  act_more code (Some TxEnd) c = ends_more code c.doing c
  act_more code (Some (LookOf form span)) c = top_more c.stack _ _ (λ cell rest. inside_by (λ b. More (gives c rest (read form (is_inside c.doing) span cell c.state)) (gives (moved c) rest (read form b span cell (later c.state)))) c.doing (gives_more c rest _ _ (read_more form (is_inside c.doing) span cell c.state)))
  act_more code (Some (PutOf form span)) c = two_more c.stack _ _ (λ w cell rest. puts_more code form span w cell rest c)
  act_more code (Some (OpenOf form args span)) c = args_of_more args c.stack _ _ (λ vs cell rest. opens_more form span vs cell rest c)
  act_more code (Some (CloseOf form span)) c = two_more c.stack _ _ (λ w cell rest. closes_more code form span w cell rest c)
  act_more code (Some (SendOf callee args span)) c = args_of_more args c.stack _ _ (λ vs cell rest. inside_by (λ b. More (gives c rest (send_to (is_inside c.doing) span cell callee vs c.state)) (gives (moved c) rest (send_to b span cell callee vs (later c.state)))) c.doing (gives_more c rest _ _ (send_more (is_inside c.doing) span cell callee vs c.state)))
  act_more code (Some Halt) c = refl
  act_more code (Some (TakeOf g)) c = on_more c.doing _ _ _ _ (take_more g c.state) (λ o s. started_more g o c s)
  act_more code (Some RunOf) c = top_more c.stack _ _ (λ v rest. runs_more code c.state.acting v rest c)
  act_more code (Some (FinishOf g)) c = hands_in_more code g c.state.acting (fault_in c.state.acting) c

  then_more : (t u : Turned Configuration) (f g : Configuration → Turned Configuration) → More t u → ((d : Configuration) → More (f d) (g (moved d))) → More (and_then t f) (and_then u g)
  then_more (Ended s) u f g e k = ap (λ r. and_then r g) e
  then_more (Failed x s) u f g e k = ap (λ r. and_then r g) e
  then_more (Asking s) u f g e k = λ z. ap (λ r. and_then r g) (e z)
  then_more (Unfinished d) u f g e k = subst (λ r. More (f d) (and_then r g)) (sym e) (k d)
  then_more Stuck u f g e k = ap (λ r. and_then r g) e

  pub run_later : (code : ThreadCode) (m : ℕ) (c : Configuration) → More (run code m c) (run code m (moved c))
  run_later code zero c = refl
  run_later code (suc m) c = then_more (turn code c) (turn code (moved c)) (run code m) (run code m) (act_more code (fetch code c.body c.place) c) (run_later code m)

-- a turn from other places comes to the same but for the places
pub turn_is_natural : TurnIsNatural
turn_is_natural ren code c = act_more ren code (fetch code c.body c.place) c

-- and so do many
pub run_is_natural : RunIsNatural
run_is_natural ren code m c = run_later ren code m c
