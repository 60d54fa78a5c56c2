-- What each exchange keeps of an actor's state is kept by an instruction.
use Rattle.std.proofs.Common.{◌≡◌, ℕ, zero, suc, ◌+◌, Bool, true, false, List, [], ◌∷◌, ◌++◌, length, Option, Some, None, Result, Ok, Err, refl, ap, arith, if◌then◌else◌, ◌⊎◌, inl, inr}
use Rattle.txs_world_protocol.specs.Ask.{Writes, buffered, with_write, Exchange, same_ask}
use Rattle.txs_world_protocol.specs.declared.ask.Ask.{Ask}
use Rattle.txs_world_protocol.specs.declared.ask.Ask.TheVariants as ask
use Rattle.txs_world_protocol.specs.declared.ask.Reply.{Reply}
use Rattle.txs_frame.specs.Frame.{PlainTxFrame, empty_frame, sends_of_commit, is_commuted, commuted, with_cell, set_writes, ensure_ref, commute_ref, hold_send}
use Rattle.txs_frame.specs.Phase.{tasks_of, to_write}
use Rattle.txs_frame.specs.declared.frame.Commute.{Commute}
use Rattle.txs_frame.specs.declared.phase.Task.{Task}
use Rattle.txs_frame.specs.declared.phase.Task.TheVariants.{Redoes, Validates}
use Rattle.txs_value_apply.specs.Core.{core, vector_of}
use Rattle.txs_value_apply.specs.Truth.{choose}
use Rattle.txs_value_cell.specs.Cells.{validator_at}
use Rattle.txs_value_cell.specs.Forms.{rule, cell_of}
use Rattle.txs_value_data.specs.Places.{nth, fault_at}
use Rattle.txs_value_data.specs.Printed.{printed_line}
use Rattle.txs_value_cell.specs.declared.action.Action.{Action}
use Rattle.txs_value_data.specs.declared.fault.Fault.{Fault}
use Rattle.txs_value_data.specs.declared.fault.FaultKind.{FaultKind}
use Rattle.txs_value_data.specs.declared.fault.FaultKind.TheVariants as fault_kind
use Rattle.txs_value_data.specs.declared.fault.Span.{Span}
use Rattle.txs_value_cell.specs.declared.form.CellForm.{CellForm}
use Rattle.txs_value_cell.specs.declared.form.CellForm.TheVariants as form
use Rattle.txs_value_cell.specs.declared.form.LookForm.{LookForm}
use Rattle.txs_value_cell.specs.declared.form.LookForm.TheVariants.{Deref, Ensure}
use Rattle.txs_value_cell.specs.declared.form.PutForm.{PutForm}
use Rattle.txs_value_cell.specs.declared.form.PutForm.TheVariants.{RefSet, Reset}
use Rattle.txs_value_cell.specs.declared.form.UpdateForm.{UpdateForm}
use Rattle.txs_value_cell.specs.declared.form.UpdateForm.TheVariants as update
use Rattle.txs_value_data.specs.declared.op.Callee.{Callee}
use Rattle.txs_value_data.specs.declared.op.Callee.TheVariants as callee
use Rattle.txs_value_data.specs.declared.value.CellId.{CellId}
use Rattle.txs_value_data.specs.declared.value.Value.{Value}
use Rattle.txs_code_meaning.specs.ActorState.{ActorState, Replied, Unreplied, receives, asks, StepResult, Continue, Break, Redo, Await, Malformed, on_step, step_of, Reading, Says, SaysRetry, SaysNothing, read_as, heard, read_point, just_done, value_there, newest_value, views, Verdict, Landed, Outdated, Undone, Denied, commit_verdict, opened, swap_verdict, send_verdict, Taken, handed_out, begun, begin, fail, buffered_or, look, paired, viewed, view, commit, peek, SwapInHand, open_atom, close_swap, break_swap, reset_atom, sent, send_now, take_action, finish, read_cell, read, set_own, assign_cell, assign, RefUpdate, Alters, Commutes, update_form, kept_open, open_update, close_own, close_update, open_swap, send_action, send_to, print, InHand, send_or_hold, held_in, holding, landed, taken_back}
use Rattle.txs_code_meaning.specs.Machine.{PlainInstr, Push, Load, Store, Pop, Jump, JumpFalse, CoreOf, CallOf, Return, MakeVector, PrintOf, TxBegin, TxEnd, LookOf, PutOf, OpenOf, CloseOf, SendOf, Halt, TakeOf, RunOf, FinishOf, ThreadCode, fetch, Frame, Savepoint, Activity, Outside, Restarting, Running, Applying, Swapping, is_inside, Configuration, ahead, arguments_of, Turned, Ended, Failed, Asking, Unfinished, Stuck, told, raise, try_more, retried, on, found, on_top, on_args, on_args_of, on_two, gives, starts, begins, decided, lands, settles, applies, ends, returns_to, opens_ref, opens_atom, opens, swap_decided, closes_swap, closes, started, runs_callee, runs, act, turn, ends_with, fails_with, hands_in, fault_in, rested, staying, first_place, answered, validates, where_accepted, where_valid, works, puts, finishes, Destination, to_stack, to_commutes, to_validation, state_after}
use Rattle.txs_code_meaning.specs.declared.instr.OpenForm.{OpenForm}
use Rattle.txs_code_meaning.specs.declared.instr.OpenForm.TheVariants as open_form

-- what an action hands in: nothing, or the sends that it holds
abbrev pub HeldBy : Option InHand → List Action → Type 0
HeldBy o sends = (sends ≡ []) ⊎ (held_in o ≡ Some sends)

-- what an ask sends: one such action, those that the transaction holds, or those that the action holds
abbrev pub SendsOwn : (Action → Type 0) → ActorState → Ask → Type 0
SendsOwn P s (ask.Send x) = P x
SendsOwn P s (ask.Commit p sets ensured q commuted sends) = sends ≡ sends_of_commit (held_in s.acting) s.done.sends
SendsOwn P s (ask.Finish g new sends) = HeldBy s.acting sends
SendsOwn P s _ = Unit {0}

-- the instruction, if it is a send, sends such actions alone
abbrev pub SendsSuch : (Action → Type 0) → Option PlainInstr → Type 0
SendsSuch P i = (f : Callee) (n : ℕ) (span : Span) → i ≡ Some (SendOf f n span) → (g : CellId) (vs : List Value) → length vs ≡ n → P (record { agent = g; callee = f; args = vs; span = span })

-- A property of an actor's state that replies, transactions, actions, validators and waiting keep, where such actions alone are sent.
pub record IsKept (P : Action → Type 0) (A : ActorState → Type 0) : Type 0 where
  pub on_reply : (s : ActorState) (x : Exchange) (xs : List Exchange) → s.todo ≡ x ∷ xs → A s → A (record s { todo = xs })
  pub on_begin : (s : ActorState) (p : ℕ) → A s → A (record s { at = p; view = p; done = empty_frame; commuting = None })
  pub on_work : (s : ActorState) (view : ℕ) (w : PlainTxFrame) (o : Option Commute) → w.sends ≡ s.done.sends → A s → A (record s { view = view; done = w; commuting = o })
  pub on_hold : (s : ActorState) (x : Action) → P x → A s → A (record s { done = hold_send x s.done })
  pub on_take : (s : ActorState) (g : CellId) (x : Action) → A s → A (record s { acting = Some (record { agent = g; action = x; sends = []; fault = None }) })
  pub on_rest : (s : ActorState) → A s → A (rested s)
  pub on_fault : (s : ActorState) (h : InHand) (f : Fault) → s.acting ≡ Some h → A s → A (record s { acting = Some (record h { fault = Some f }) })
  pub on_held : (s : ActorState) (x : Action) → P x → A s → A (holding (x ∷ []) s)
  pub on_land : (s : ActorState) → A s → A (holding s.done.sends s)
  pub on_accepted : (s : ActorState) (o : Option Bool) → A s → A (record s { accepted = o })
  pub on_wait : (s : ActorState) (q : Ask) → SendsOwn P s q → A s → A (record s { wants = Some q })

-- any action
abbrev pub Any : Action → Type 0
Any x = Unit {0}

-- the property where a turn came to, and another one where it goes on
abbrev pub Holds : (ActorState → Type 0) → (ActorState → Type 0) → Turned Configuration → Type 0
Holds A Z (Ended s) = A s
Holds A Z (Failed f s) = A s
Holds A Z (Asking s) = A s
Holds A Z (Unfinished c) = Z c.state
Holds A Z Stuck = Unit {0}

module _ (P : Action → Type 0) (A Z : ActorState → Type 0) (kept : IsKept P A) (on_end : (s : ActorState) → A s → Z s) (on_print : (s : ActorState) (out : List ℕ) → A s → Z (record s { printed = s.printed ++ out })) where
  abbrev InStep : {B : Type 0} → StepResult B → Type 0
  InStep (Continue b s) = A s
  InStep (Break f s) = A s
  InStep (Redo s) = A s
  InStep (Await s) = A s
  InStep Malformed = Unit {0}

  -- ---- asks

  read_keeps : {B : Type 0} (x : Reading B) (s : ActorState) → A s → InStep (read_as x s)
  read_keeps (Says b) s h = h
  read_keeps SaysRetry s h = h
  read_keeps SaysNothing s h = tt

  received_keeps : {B : Type 0} (reads : Reply → Reading B) (q : Ask) (s : ActorState) (todo : List Exchange) → s.todo ≡ todo → SendsOwn P s q → A s → InStep (heard reads (receives q s todo))
  received_keeps reads q s [] e own h = kept.on_wait s q own h
  received_keeps reads q s (x ∷ xs) e own h = go (same_ask q x.ask)
    where
      go : (b : Bool) → InStep (heard reads (if b then Replied x.reply (record s { todo = xs }) else Unreplied (record s { wants = Some q })))
      go true = read_keeps (reads x.reply) (record s { todo = xs }) (kept.on_reply s x xs e h)
      go false = kept.on_wait s q own h

  heard_keeps : {B : Type 0} (reads : Reply → Reading B) (q : Ask) (s : ActorState) → SendsOwn P s q → A s → InStep (heard reads (asks q s))
  unfolding asks
  heard_keeps reads q s own h = received_keeps reads q s s.todo refl own h

  then_keeps : {B C : Type 0} (x : StepResult B) (go : B → ActorState → StepResult C) → InStep x → ((b : B) (s : ActorState) → A s → InStep (go b s)) → InStep (on_step x go)
  then_keeps (Continue b s) go h k = k b s h
  then_keeps (Redo s) go h k = h
  then_keeps (Break f s) go h k = h
  then_keeps (Await s) go h k = h
  then_keeps Malformed go h k = tt

  result_keeps : {B : Type 0} (x : Result B FaultKind) (span : Span) (s : ActorState) → A s → InStep (step_of x span s)
  result_keeps (Ok b) span s h = h
  result_keeps (Err k) span s h = h

  begin_keeps : (s : ActorState) → A s → InStep (begin s)
  unfolding begin
  begin_keeps s h = then_keeps (heard read_point (asks ask.Begin s)) begun (heard_keeps read_point ask.Begin s tt h) (λ p s1 h1. kept.on_begin s1 p h1)

  fail_keeps : (s : ActorState) → A s → InStep (fail s)
  unfolding fail
  fail_keeps s h = heard_keeps just_done (ask.Fail s.at s.view) s tt h

  look_keeps : (d : CellId) (s : ActorState) → A s → InStep (look d s)
  unfolding look
  look_keeps d s h = own (buffered s.done.values d.number)
    where
      own : (o : Option Value) → InStep (buffered_or o s (heard value_there (asks (ask.Look d s.at) s)))
      own (Some v) = h
      own None = heard_keeps value_there (ask.Look d s.at) s tt h

  viewed_keeps : (q : ℕ) (o : Option Writes) (s : ActorState) → A s → InStep (viewed q o s)
  viewed_keeps q None s h = tt
  viewed_keeps q (Some ws) s h = kept.on_work s q s.done s.commuting refl h

  view_keeps : (s : ActorState) → A s → InStep (view s)
  unfolding view
  view_keeps s h =
      then_keeps (heard views (asks (ask.View (commuted s.done)) s)) (λ x s1. viewed x.0 (paired (commuted s.done) x.1) s1) (heard_keeps views (ask.View (commuted s.done)) s tt h)
      (λ x s1 h1. viewed_keeps x.0 (paired (commuted s.done) x.1) s1 h1)

  landed_keeps : (v : Verdict) (s : ActorState) → A s → InStep (landed v s)
  landed_keeps Landed s h = kept.on_land s h
  landed_keeps Outdated s h = h
  landed_keeps Undone s h = h
  landed_keeps Denied s h = h

  commit_keeps : (ws : Writes) (s : ActorState) → A s → InStep (commit ws s)
  unfolding commit
  commit_keeps ws s h =
      then_keeps (heard commit_verdict (asks (ask.Commit s.at (set_writes s.done) s.done.ensures s.view ws (sends_of_commit (held_in s.acting) s.done.sends)) s)) landed
      (heard_keeps commit_verdict (ask.Commit s.at (set_writes s.done) s.done.ensures s.view ws (sends_of_commit (held_in s.acting) s.done.sends)) s refl h) landed_keeps

  peek_keeps : (d : CellId) (s : ActorState) → A s → InStep (peek d s)
  unfolding peek
  peek_keeps d s h = heard_keeps newest_value (ask.Peek d) s tt h

  open_atom_keeps : (d : CellId) (s : ActorState) → A s → InStep (open_atom d s)
  unfolding open_atom
  open_atom_keeps d s h = then_keeps (heard opened (asks (ask.OpenAt d) s)) _ (heard_keeps opened (ask.OpenAt d) s tt h) (λ x s1 h1. h1)

  close_swap_keeps : (w : SwapInHand) (v : Value) (s : ActorState) → A s → InStep (close_swap w v s)
  unfolding close_swap
  close_swap_keeps w v s h = heard_keeps swap_verdict (ask.CloseAt w.cell (Some w.at) v) s tt h

  break_swap_keeps : (w : SwapInHand) (s : ActorState) → A s → InStep (break_swap w s)
  unfolding break_swap
  break_swap_keeps w s h = heard_keeps just_done (ask.Broke w.cell w.at) s tt h

  reset_keeps : (d : CellId) (v : Value) (s : ActorState) → A s → InStep (reset_atom d v s)
  unfolding reset_atom
  reset_keeps d v s h = then_keeps (heard just_done (asks (ask.CloseAt d None v) s)) _ (heard_keeps just_done (ask.CloseAt d None v) s tt h) (λ u s1 h1. h1)

  sent_keeps : (x : Action) (v : Verdict) (s : ActorState) → A s → InStep (sent x v s)
  sent_keeps x Landed s h = h
  sent_keeps x Outdated s h = tt
  sent_keeps x Undone s h = tt
  sent_keeps x Denied s h = h

  send_now_keeps : (x : Action) (s : ActorState) → P x → A s → InStep (send_now x s)
  unfolding send_now
  send_now_keeps x s such h = then_keeps (heard send_verdict (asks (ask.Send x) s)) (sent x) (heard_keeps send_verdict (ask.Send x) s such h) (λ v s1 h1. sent_keeps x v s1 h1)

  take_keeps : (g : CellId) (s : ActorState) → A s → InStep (take_action g s)
  unfolding take_action
  take_keeps g s h = heard_keeps handed_out (ask.Take g) s tt h

  finish_keeps : (g : CellId) (new : Result Value Fault) (sends : List Action) (s : ActorState) → HeldBy s.acting sends → A s → InStep (finish g new sends s)
  unfolding finish
  finish_keeps g new sends s own h = heard_keeps taken_back (ask.Finish g new sends) s own h

  -- ---- forms

  abbrev cell_result : CellForm → Bool → Span → Value → ActorState → StepResult CellId
  cell_result f inside span v s = step_of (cell_of (rule f) inside v) span s

  read_cell_keeps : (f : LookForm) (inside : Bool) (d : CellId) (s : ActorState) → A s → InStep (read_cell f inside d s)
  read_cell_keeps Deref true d s h = look_keeps d s h
  read_cell_keeps Deref false d s h = peek_keeps d s h
  read_cell_keeps Ensure true d s h = then_keeps (look d s) _ (look_keeps d s h) (λ v s1 h1. kept.on_work s1 s1.view (ensure_ref d s1.done) s1.commuting refl h1)
  read_cell_keeps Ensure false d s h = tt

  read_form_keeps : (f : LookForm) (inside : Bool) (span : Span) (v : Value) (s : ActorState) → A s → InStep (read f inside span v s)
  read_form_keeps f inside span v s h =
      then_keeps (cell_result (form.Look f) inside span v s) (read_cell f inside) (result_keeps (cell_of (rule (form.Look f)) inside v) span s h) (λ d s1 h1. read_cell_keeps f inside d s1 h1)

  set_keeps : (span : Span) (v : Value) (d : CellId) (s : ActorState) → A s → InStep (set_own span v d s)
  set_keeps span v d s h = go (is_commuted s.done d.number)
    where
      go : (b : Bool) → InStep (on_step (step_of (if b then Err fault_kind.SetAfterCommute else Ok (record s.done { values = with_write s.done.values d v; sets = with_cell s.done.sets d })) span s) (λ w s1. Continue v (record s1 { done = w })))
      go true = h
      go false = kept.on_work s s.view (record s.done { values = with_write s.done.values d v; sets = with_cell s.done.sets d }) s.commuting refl h

  assign_cell_keeps : (f : PutForm) (inside : Bool) (span : Span) (v : Value) (d : CellId) (s : ActorState) → A s → InStep (assign_cell f inside span v d s)
  assign_cell_keeps RefSet true span v d s h = set_keeps span v d s h
  assign_cell_keeps RefSet false span v d s h = tt
  assign_cell_keeps Reset false span v d s h = reset_keeps d v s h
  assign_cell_keeps Reset true span v d s h = tt

  assign_keeps : (f : PutForm) (inside : Bool) (span : Span) (cell v : Value) (s : ActorState) → A s → InStep (assign f inside span cell v s)
  assign_keeps f inside span cell v s h =
      then_keeps (cell_result (form.Put f) inside span cell s) (assign_cell f inside span v) (result_keeps (cell_of (rule (form.Put f)) inside cell) span s h) (λ d s1 h1. assign_cell_keeps f inside span v d s1 h1)

  open_keeps : (u : RefUpdate) (inside : Bool) (span : Span) (cell : Value) (vs : List Value) (s : ActorState) → A s → InStep (open_update u inside span cell vs s)
  open_keeps u false span cell vs s h = tt
  open_keeps u true span cell vs s h =
      then_keeps (cell_result (form.Update (update_form u)) true span cell s) _ (result_keeps (cell_of (rule (form.Update (update_form u))) true cell) span s h)
      (λ d s1 h1. then_keeps (look d s1) _ (look_keeps d s1 h1) (λ x s2 h2. kept.on_work s2 s2.view s2.done (kept_open u d vs) refl h2))

  close_own_keeps : (o : Option Commute) (span : Span) (w : Value) (d : CellId) (s : ActorState) → A s → InStep (close_own o span w d s)
  close_own_keeps None span w d s h = set_keeps span w d s h
  close_own_keeps (Some k) span w d s h = kept.on_work s s.view (commute_ref d k.callee k.args w s.done) None refl h

  close_keeps : (span : Span) (cell w : Value) (s : ActorState) → A s → InStep (close_update span cell w s)
  close_keeps span cell w s h =
      then_keeps (cell_result (form.Update update.Alter) true span cell s) (close_own s.commuting span w) (result_keeps (cell_of (rule (form.Update update.Alter)) true cell) span s h)
      (λ d s1 h1. close_own_keeps s.commuting span w d s1 h1)

  open_swap_keeps : (inside : Bool) (span : Span) (cell : Value) (s : ActorState) → A s → InStep (open_swap inside span cell s)
  open_swap_keeps true span cell s h = tt
  open_swap_keeps false span cell s h =
      then_keeps (cell_result (form.Update update.Swap) false span cell s) open_atom (result_keeps (cell_of (rule (form.Update update.Swap)) false cell) span s h) (λ d s1 h1. open_atom_keeps d s1 h1)

  send_action_keeps : (inside : Bool) (x : Action) (s : ActorState) → P x → A s → InStep (send_action inside x s)
  send_action_keeps true x s such h = kept.on_hold s x such h
  send_action_keeps false x s such h = or_hold s.acting
    where
      or_hold : (o : Option InHand) → InStep (send_or_hold o x s)
      or_hold None = send_now_keeps x s such h
      or_hold (Some y) = kept.on_held s x such h

  send_keeps : (inside : Bool) (span : Span) (cell : Value) (f : Callee) (vs : List Value) (s : ActorState) → ((g : CellId) → P (record { agent = g; callee = f; args = vs; span = span })) → A s → InStep (send_to inside span cell f vs s)
  send_keeps inside span cell f vs s such h =
      then_keeps (cell_result form.Send inside span cell s) _ (result_keeps (cell_of (rule form.Send) inside cell) span s h)
      (λ g s1 h1. send_action_keeps inside (record { agent = g; callee = f; args = vs; span = span }) s1 (such g) h1)

  found_keeps : (o : Option Value) (s : ActorState) → A s → InStep (found o s)
  found_keeps None s h = tt
  found_keeps (Some v) s h = h

  -- ---- turns

  told_keeps : (x : StepResult (Unit {0})) (go : ActorState → Turned Configuration) → InStep x → ((s : ActorState) → A s → Holds A Z (go s)) → Holds A Z (told x go)
  told_keeps (Continue u s) go h k = k s h
  told_keeps (Break g s) go h k = tt
  told_keeps (Redo s) go h k = tt
  told_keeps (Await s) go h k = h
  told_keeps Malformed go h k = tt

  over_keeps : (o : Option InHand) (f : Fault) (s : ActorState) → A s → Holds A Z (ends_with o f s)
  over_keeps None f s h = h
  over_keeps (Some x) f s h = told_keeps (finish x.agent (Err f) [] s) _ (finish_keeps x.agent (Err f) [] s (inl refl) h) (λ s1 h1. on_end (rested s1) (kept.on_rest s1 h1))

  fails_keep : (o : Option InHand) (f : Fault) (s : ActorState) → s.acting ≡ o → A s → Holds A Z (fails_with o f s)
  fails_keep None f s e h = h
  fails_keep (Some x) f s e h = on_end (record s { acting = Some (record x { fault = Some f }) }) (kept.on_fault s x f e h)

  raise_keeps : (doing : Activity) (f : Fault) (s : ActorState) → A s → Holds A Z (raise doing f s)
  raise_keeps Outside f s h = over_keeps s.acting f s h
  raise_keeps (Restarting left) f s h = fails_keep s.acting f s refl h
  raise_keeps (Running left inner from) f s h = told_keeps (fail s) _ (fail_keeps s h) (λ s1 h1. fails_keep s1.acting f s1 refl h1)
  raise_keeps (Applying left from work values) f s h = told_keeps (fail s) _ (fail_keeps s h) (λ s1 h1. fails_keep s1.acting f s1 refl h1)
  raise_keeps (Swapping swap from) f s h = told_keeps (break_swap swap s) _ (break_swap_keeps swap s h) (λ s1 h1. fails_keep s1.acting f s1 refl h1)

  try_keeps : (left : ℕ) (from : Savepoint) (s : ActorState) (go : ℕ → Configuration) → A s → ((k : ℕ) → Z (go k).state) → Holds A Z (try_more left from s go)
  try_keeps zero from s go h k = fails_keep s.acting (fault_at fault_kind.RetryLimit from.span) s refl h
  try_keeps (suc left) from s go h k = k left

  retried_keeps : (doing : Activity) (s : ActorState) → A s → Holds A Z (retried doing s)
  retried_keeps Outside s h = tt
  retried_keeps (Restarting left) s h = tt
  retried_keeps (Running left inner from) s h = try_keeps left from s _ h (λ k. on_end s h)
  retried_keeps (Applying left from work values) s h = tt
  retried_keeps (Swapping swap from) s h = tt

  on_keeps : {B : Type 0} (doing : Activity) (x : StepResult B) (go : B → ActorState → Turned Configuration) → InStep x → ((b : B) (s : ActorState) → A s → Holds A Z (go b s)) → Holds A Z (on doing x go)
  on_keeps doing (Continue b s) go h k = k b s h
  on_keeps doing (Break f s) go h k = raise_keeps doing f s h
  on_keeps doing (Redo s) go h k = retried_keeps doing s h
  on_keeps doing (Await s) go h k = h
  on_keeps doing Malformed go h k = tt

  top_keeps : (stack : List Value) (go : Value → List Value → Turned Configuration) → ((v : Value) (rest : List Value) → Holds A Z (go v rest)) → Holds A Z (on_top stack go)
  top_keeps [] go h = tt
  top_keeps (v ∷ rest) go h = h v rest

  args_keep : (n : ℕ) (stack vs : List Value) (go : List Value → List Value → Turned Configuration) → ((ws rest : List Value) → Holds A Z (go ws rest)) → Holds A Z (on_args n stack vs go)
  args_keep zero stack vs go h = h vs stack
  args_keep (suc n) [] vs go h = tt
  args_keep (suc n) (v ∷ stack) vs go h = args_keep n stack (v ∷ vs) go h

  -- the values taken are as many as were wanted
  as_many_keep : (n m : ℕ) (stack vs : List Value) (go : List Value → List Value → Turned Configuration) → n + length vs ≡ m → ((ws rest : List Value) → length ws ≡ m → Holds A Z (go ws rest)) → Holds A Z (on_args n stack vs go)
  as_many_keep zero m stack vs go e h = h vs stack (omega (arith, e))
  as_many_keep (suc n) m [] vs go e h = tt
  as_many_keep (suc n) m (v ∷ stack) vs go e h = as_many_keep n m stack (v ∷ vs) go (omega (arith, e)) h

  two_keep : (stack : List Value) (go : Value → Value → List Value → Turned Configuration) → ((w v : Value) (rest : List Value) → Holds A Z (go w v rest)) → Holds A Z (on_two stack go)
  two_keep stack go h = top_keeps stack (λ w under. on_top under (go w)) (λ w under. top_keeps under (go w) (h w))

  args_of_keep : (n : ℕ) (stack : List Value) (go : List Value → Value → List Value → Turned Configuration) → ((vs : List Value) (v : Value) (rest : List Value) → Holds A Z (go vs v rest)) → Holds A Z (on_args_of n stack go)
  args_of_keep n stack go h = args_keep n stack [] (λ vs under. on_top under (go vs)) (λ vs under. top_keeps under (go vs) (h vs))

  sends_keep : (n : ℕ) (stack : List Value) (go : List Value → Value → List Value → Turned Configuration) → ((vs : List Value) (v : Value) (rest : List Value) → length vs ≡ n → Holds A Z (go vs v rest)) → Holds A Z (on_args_of n stack go)
  sends_keep n stack go h = as_many_keep n n stack [] (λ vs under. on_top under (go vs)) (omega arith) (λ vs under e. top_keeps under (go vs) (λ v rest. h vs v rest e))

  gives_from : (c : Configuration) (rest : List Value) (r : StepResult Value) → InStep r → Holds A Z (gives c rest r)
  gives_from c rest r p = on_keeps c.doing r (λ v s. Unfinished (ahead (v ∷ rest) s c)) p (λ v s q. on_end s q)

  decided_keeps : (c : Configuration) (left : ℕ) (from : Savepoint) (v : Verdict) (s : ActorState) → A s → Holds A Z (decided v left from c s)
  decided_keeps c left from Landed s q = on_end s q
  decided_keeps c left from Outdated s q = try_keeps left from s _ q (λ k. on_end s q)
  decided_keeps c left from Undone s q = try_keeps left from s _ q (λ k. on_end s q)
  decided_keeps c left from Denied s q = fails_keep s.acting (fault_at fault_kind.AgentFailed from.span) s refl q

  lands_keeps : (c : Configuration) → A c.state → (left : ℕ) (from : Savepoint) (values : Writes) → Holds A Z (lands left from values c)
  lands_keeps c h left from values = on_keeps c.doing (commit values c.state) (λ verdict s. decided verdict left from c s) (commit_keeps values c.state h) (λ v s q. decided_keeps c left from v s q)

  applies_keeps : (code : ThreadCode) (c : Configuration) → A c.state → (f : Callee) (left : ℕ) (from : Savepoint) (k : Commute) (work : List Task) (values : Writes) → Holds A Z (applies code f left from k work values c)
  applies_keeps code c h (callee.Core op) left from k work values =
      on_keeps c.doing (step_of (core op (arguments_of k values)) from.span c.state) _ (result_keeps (core op (arguments_of k values)) from.span c.state h) (λ v s q. on_end s q)
  applies_keeps code c h (callee.Function f) left from k work values = on_end c.state h

  swap_decided_keeps : (c : Configuration) (from : Savepoint) (w : Value) (rest : List Value) (v : Verdict) (s : ActorState) → A s → Holds A Z (swap_decided v from w rest c s)
  swap_decided_keeps c from w rest Landed s q = on_end s q
  swap_decided_keeps c from w rest Outdated s q = on_end s q
  swap_decided_keeps c from w rest Undone s q = tt
  swap_decided_keeps c from w rest Denied s q = tt

  -- ---- validators

  validates_keeps : (code : ThreadCode) (c : Configuration) → A c.state → (f : Callee) (v : Value) (span : Span) → Holds A Z (validates code f v span c)
  validates_keeps code c h (callee.Core op) v span =
      on_keeps c.doing (step_of (core op (v ∷ [])) span c.state) _ (result_keeps (core op (v ∷ [])) span c.state h) (λ answer s q. on_end (answered answer s) (kept.on_accepted s (Some (choose answer true false)) q))
  validates_keeps code c h (callee.Function f) v span = on_end c.state h

  -- what goes on keeps it
  abbrev NextKeeps : (Configuration → Turned Configuration) → Type 0
  NextKeeps go = (c : Configuration) → A c.state → Holds A Z (go c)

  accepted_keeps : (code : ThreadCode) (o : Option Bool) (f : Callee) (v : Value) (span : Span) (c : Configuration) (go : Configuration → Turned Configuration) → A c.state → NextKeeps go → Holds A Z (where_accepted code o f v span c go)
  accepted_keeps code None f v span c go h k = validates_keeps code c h f v span
  accepted_keeps code (Some true) f v span c go h k = k (record c { state = record c.state { accepted = None } }) (kept.on_accepted c.state None h)
  accepted_keeps code (Some false) f v span c go h k = raise_keeps c.doing (fault_at fault_kind.InvalidState span) (record c.state { accepted = None }) (kept.on_accepted c.state None h)

  valid_keeps : (code : ThreadCode) (o : Option Callee) (v : Value) (span : Span) (c : Configuration) (go : Configuration → Turned Configuration) → A c.state → NextKeeps go → Holds A Z (where_valid code o v span c go)
  valid_keeps code None v span c go h k = k c h
  valid_keeps code (Some f) v span c go h k = accepted_keeps code c.state.accepted f v span c go h k

  works_keeps : (code : ThreadCode) (left : ℕ) (from : Savepoint) (work : List Task) (values : Writes) (c : Configuration) → A c.state → Holds A Z (works code left from work values c)
  works_keeps code left from [] values c h = lands_keeps c h left from values
  works_keeps code left from (Redoes k ∷ work) values c h = applies_keeps code c h k.callee left from k work values
  works_keeps code left from (Validates r f ∷ work) values c h =
      accepted_keeps code c.state.accepted f (to_write values c.state.done r.number) from.span (staying (Applying left from (Validates r f ∷ work) values) c.state c)
      (λ c1. works code left from work values (staying (Applying left from work values) c1.state c1)) h (λ c1 h1. works_keeps code left from work values (staying (Applying left from work values) c1.state c1) h1)

  module _ (code : ThreadCode) (c : Configuration) (h : A c.state) where
    gives_keeps : (rest : List Value) (r : StepResult Value) → InStep r → Holds A Z (gives c rest r)
    gives_keeps rest r p = gives_from c rest r p

    prints : (inside : Bool) (vs rest : List Value) → Holds A Z (gives c rest (print inside vs c.state))
    unfolding print
    prints true vs rest = tt
    prints false vs rest = on_print c.state (printed_line vs) h

    starts_keeps : (left : ℕ) (span : Span) → Holds A Z (starts left span c)
    starts_keeps left span = on_keeps c.doing (begin c.state) _ (begin_keeps c.state h) (λ u s q. on_end s q)

    begins_keeps : (span : Span) (doing : Activity) → Holds A Z (begins doing span c)
    begins_keeps span Outside = starts_keeps _ span
    begins_keeps span (Restarting left) = starts_keeps left span
    begins_keeps span (Running left inner from) = on_end c.state h
    begins_keeps span (Applying left from work values) = tt
    begins_keeps span (Swapping swap from) = tt

    settles_keeps : (cs : List CellId) (left : ℕ) (from : Savepoint) → Holds A Z (settles code cs left from c)
    settles_keeps [] left from = works_keeps code left from (tasks_of code.validators c.state.done) [] c h
    settles_keeps (d ∷ cs) left from = on_keeps c.doing (view c.state) _ (view_keeps c.state h) (λ v s q. on_end s q)

    ends_keeps : (doing : Activity) → Holds A Z (ends code doing c)
    ends_keeps Outside = tt
    ends_keeps (Restarting left) = tt
    ends_keeps (Running left (suc inner) from) = on_end c.state h
    ends_keeps (Running left zero from) = settles_keeps (commuted c.state.done) left from
    ends_keeps (Applying left from work values) = works_keeps code left from work values c h
    ends_keeps (Swapping swap from) = tt

    returns_keep : (frames : List Frame) (v : Value) → Holds A Z (returns_to frames v c)
    returns_keep [] v = tt
    returns_keep (f ∷ frames) v = by f.awaits
      where
        by : (d : Destination) → Z (state_after d v c.state)
        by to_stack = on_end c.state h
        by to_commutes = on_end c.state h
        by to_validation = on_end (answered v c.state) (kept.on_accepted c.state (Some (choose v true false)) h)

    opens_ref_keep : (u : RefUpdate) (span : Span) (vs : List Value) (cell : Value) (rest : List Value) → Holds A Z (opens_ref u span vs cell rest c)
    opens_ref_keep u span vs cell rest = on_keeps c.doing (open_update u (is_inside c.doing) span cell vs c.state) _ (open_keeps u (is_inside c.doing) span cell vs c.state h) (λ v s q. on_end s q)

    opens_atom_keep : (doing : Activity) (span : Span) (vs : List Value) (cell : Value) (rest : List Value) → Holds A Z (opens_atom doing span vs cell rest c)
    opens_atom_keep Outside span vs cell rest = on_keeps c.doing (open_swap false span cell c.state) _ (open_swap_keeps false span cell c.state h) (λ v s q. on_end s q)
    opens_atom_keep (Restarting left) span vs cell rest = tt
    opens_atom_keep (Running left inner from) span vs cell rest = tt
    opens_atom_keep (Applying left from work values) span vs cell rest = tt
    opens_atom_keep (Swapping swap from) span vs cell rest = tt

    opens_keep : (f : OpenForm) (span : Span) (vs : List Value) (cell : Value) (rest : List Value) → Holds A Z (opens f span vs cell rest c)
    opens_keep open_form.Alter span vs cell rest = opens_ref_keep Alters span vs cell rest
    opens_keep (open_form.Commute k) span vs cell rest = opens_ref_keep (Commutes k) span vs cell rest
    opens_keep (open_form.Swap k) span vs cell rest = opens_atom_keep c.doing span vs cell rest

    closes_swap_keeps : (doing : Activity) (w : Value) (rest : List Value) → Holds A Z (closes_swap code doing w rest c)
    closes_swap_keeps (Swapping swap from) w rest =
        valid_keeps code (validator_at code.validators swap.cell.number) w from.span c (λ c1. on c1.doing (close_swap swap w c1.state) (λ verdict s. swap_decided verdict from w rest c1 s)) h
        (λ c1 h1. on_keeps c1.doing (close_swap swap w c1.state) (λ verdict s. swap_decided verdict from w rest c1 s) (close_swap_keeps swap w c1.state h1) (λ v s q. swap_decided_keeps c1 from w rest v s q))
    closes_swap_keeps Outside w rest = tt
    closes_swap_keeps (Restarting left) w rest = tt
    closes_swap_keeps (Running left inner from) w rest = tt
    closes_swap_keeps (Applying left from work values) w rest = tt

    closes_keep : (f : UpdateForm) (span : Span) (w cell : Value) (rest : List Value) → Holds A Z (closes code f span w cell rest c)
    closes_keep update.Alter span w cell rest = gives_keeps rest (close_update span cell w c.state) (close_keeps span cell w c.state h)
    closes_keep update.Commute span w cell rest = gives_keeps rest (close_update span cell w c.state) (close_keeps span cell w c.state h)
    closes_keep update.Swap span w cell rest = closes_swap_keeps c.doing w rest

    puts_keep : (f : PutForm) (span : Span) (w cell : Value) (rest : List Value) → Holds A Z (puts code f span w cell rest c)
    puts_keep RefSet span w cell rest = gives_keeps rest (assign RefSet (is_inside c.doing) span cell w c.state) (assign_keeps RefSet (is_inside c.doing) span cell w c.state h)
    puts_keep Reset span w cell rest =
        on_keeps c.doing (cell_result (form.Put Reset) (is_inside c.doing) span cell c.state) (λ a s. where_valid code (validator_at code.validators a.number) w span c (λ c1. gives c1 rest (assign_cell Reset (is_inside c.doing) span w a c1.state)))
        (result_keeps (cell_of (rule (form.Put Reset)) (is_inside c.doing) cell) span c.state h)
        (λ a s q. valid_keeps code (validator_at code.validators a.number) w span c (λ c1. gives c1 rest (assign_cell Reset (is_inside c.doing) span w a c1.state)) h
        (λ c1 h1. gives_from c1 rest (assign_cell Reset (is_inside c.doing) span w a c1.state) (assign_cell_keeps Reset (is_inside c.doing) span w a c1.state h1)))

    finishes_keeps : (g : CellId) (o : Option InHand) (v : Value) → c.state.acting ≡ o → Holds A Z (finishes code g o v c)
    finishes_keeps g None v e = tt
    finishes_keeps g (Some x) v e = by (validator_at code.validators x.action.agent.number)
      where
        hands : ActorState → Turned Configuration
        hands s = told (finish g (Ok v) x.sends s) (λ s1. Unfinished (first_place [] (rested s1)))

        handed : (s : ActorState) → s.acting ≡ Some x → A s → Holds A Z (hands s)
        handed s k q = told_keeps (finish g (Ok v) x.sends s) _ (finish_keeps g (Ok v) x.sends s (inr (ap held_in k)) q) (λ s1 h1. on_end (rested s1) (kept.on_rest s1 h1))

        accepted : (f : Callee) (o : Option Bool) → Holds A Z (where_accepted code o f v x.action.span c (λ c1. hands c1.state))
        accepted f None = validates_keeps code c h f v x.action.span
        accepted f (Some true) = handed (record c.state { accepted = None }) e (kept.on_accepted c.state None h)
        accepted f (Some false) = raise_keeps c.doing (fault_at fault_kind.InvalidState x.action.span) (record c.state { accepted = None }) (kept.on_accepted c.state None h)

        by : (o : Option Callee) → Holds A Z (where_valid code o v x.action.span c (λ c1. hands c1.state))
        by None = handed c.state e h
        by (Some f) = accepted f c.state.accepted

    hands_keep : (g : CellId) (k : Option Fault) → Holds A Z (hands_in code g c.state.acting k c)
    hands_keep g None = top_keeps c.stack _ (λ v rest. finishes_keeps g c.state.acting v refl)
    hands_keep g (Some f) = told_keeps (finish g (Err f) [] c.state) _ (finish_keeps g (Err f) [] c.state (inl refl) h) (λ s q. on_end (rested s) (kept.on_rest s q))

    started_keeps : (g : CellId) (o : Option Taken) (s : ActorState) → A s → Holds A Z (started g o c s)
    started_keeps g None s q = on_end s q
    started_keeps g (Some t) s q = on_end (record s { acting = Some (record { agent = g; action = t.action; sends = []; fault = None }) }) (kept.on_take s g t.action q)

    runs_callee_keeps : (f : Callee) (a : Action) (v : Value) (rest : List Value) → Holds A Z (runs_callee code f a v rest c)
    runs_callee_keeps (callee.Core op) a v rest = gives_keeps rest (step_of (core op (v ∷ a.args)) a.span c.state) (result_keeps (core op (v ∷ a.args)) a.span c.state h)
    runs_callee_keeps (callee.Function f) a v rest = on_end c.state h

    runs_keeps : (o : Option InHand) (v : Value) (rest : List Value) → Holds A Z (runs code o v rest c)
    runs_keeps None v rest = tt
    runs_keeps (Some x) v rest = runs_callee_keeps x.action.callee x.action v rest

    act_keeps : (i : Option PlainInstr) → SendsSuch P i → Holds A Z (act code i c)
    act_keeps None such = tt
    act_keeps (Some (Push v)) such = on_end c.state h
    act_keeps (Some (Load i)) such = gives_keeps c.stack (found (nth c.locals i) c.state) (found_keeps (nth c.locals i) c.state h)
    act_keeps (Some (Store i)) such = top_keeps c.stack _ (λ v rest. on_end c.state h)
    act_keeps (Some Pop) such = top_keeps c.stack _ (λ v rest. on_end c.state h)
    act_keeps (Some (Jump to)) such = on_end c.state h
    act_keeps (Some (JumpFalse to)) such = top_keeps c.stack _ (λ v rest. on_end c.state h)
    act_keeps (Some (CoreOf op n span)) such = args_keep n c.stack [] _ (λ vs rest. gives_keeps rest (step_of (core op vs) span c.state) (result_keeps (core op vs) span c.state h))
    act_keeps (Some (CallOf f n)) such = args_keep n c.stack [] _ (λ vs rest. on_end c.state h)
    act_keeps (Some Return) such = top_keeps c.stack _ (λ v rest. returns_keep c.frames v)
    act_keeps (Some (MakeVector n span)) such = args_keep n c.stack [] _ (λ vs rest. gives_keeps rest (step_of (vector_of vs) span c.state) (result_keeps (vector_of vs) span c.state h))
    act_keeps (Some (PrintOf n)) such = args_keep n c.stack [] _ (λ vs rest. prints (is_inside c.doing) vs rest)
    act_keeps (Some (TxBegin span)) such = begins_keeps span c.doing
    act_keeps (Some TxEnd) such = ends_keeps c.doing
    act_keeps (Some (LookOf f span)) such = top_keeps c.stack _ (λ cell rest. gives_keeps rest (read f (is_inside c.doing) span cell c.state) (read_form_keeps f (is_inside c.doing) span cell c.state h))
    act_keeps (Some (PutOf f span)) such = two_keep c.stack _ (λ w cell rest. puts_keep f span w cell rest)
    act_keeps (Some (OpenOf f n span)) such = args_of_keep n c.stack _ (λ vs cell rest. opens_keep f span vs cell rest)
    act_keeps (Some (CloseOf f span)) such = two_keep c.stack _ (λ w cell rest. closes_keep f span w cell rest)
    act_keeps (Some (SendOf f n span)) such =
        sends_keep n c.stack _ (λ vs cell rest many. gives_keeps rest (send_to (is_inside c.doing) span cell f vs c.state) (send_keeps (is_inside c.doing) span cell f vs c.state (λ g. such f n span refl g vs many) h))
    act_keeps (Some Halt) such = h
    act_keeps (Some (TakeOf g)) such = on_keeps c.doing (take_action g c.state) (λ o s. started g o c s) (take_keeps g c.state h) (λ o s q. started_keeps g o s q)
    act_keeps (Some RunOf) such = top_keeps c.stack _ (λ v rest. runs_keeps c.state.acting v rest)
    act_keeps (Some (FinishOf g)) such = hands_keep g (fault_in c.state.acting)

    -- an instruction keeps it
    pub turn_keeps : SendsSuch P (fetch code c.body c.place) → Holds A Z (turn code c)
    turn_keeps such = act_keeps (fetch code c.body c.place) such
