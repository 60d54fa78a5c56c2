-- An instruction that may stand where it does asks at most once, and its ask comes in its stage.
use Rattle.std.proofs.lemmas.Bool.{false≢true}
use Rattle.std.proofs.Common.{nat_lt, ◌==◌, ◌≡◌, ℕ, zero, suc, Bool, true, false, List, [], ◌∷◌, ◌++◌, ◌+◌, Option, Some, None, Result, Ok, Err, if◌then◌else◌, inl, inr, refl, sym, ap, ◌∙◌, subst}
use Rattle.txs_world_protocol.specs.Ask.{Writes, buffered, with_write}
use Rattle.txs_value_apply.specs.Truth.{choose}
use Rattle.txs_value_data.specs.Printed.{printed_line}
use Rattle.txs_world_protocol.specs.declared.ask.Ask.{Ask}
use Rattle.txs_world_protocol.specs.declared.ask.Ask.TheVariants as ask
use Rattle.txs_world_protocol.specs.declared.ask.Reply.{Reply}
use Rattle.txs_world_protocol.specs.declared.ask.Reply.TheVariants as reply
use Rattle.txs_world_protocol.proofs.AskLemmas.{same_ask-itself}
use Rattle.txs_frame.specs.Phase.{tasks_of, to_write}
use Rattle.txs_frame.specs.declared.frame.Commute.{Commute}
use Rattle.txs_frame.specs.declared.phase.Task.{Task}
use Rattle.txs_frame.specs.declared.phase.Task.TheVariants.{Redoes, Validates}
use Rattle.txs_value_cell.specs.Cells.{validator_at}
use Rattle.txs_frame.specs.Frame.{sends_of_commit, set_writes, commuted, ensure_ref, set_ref, hold_send, commute_ref}
use Rattle.txs_value_apply.specs.Core.{core, vector_of}
use Rattle.txs_value_cell.specs.Forms.{rule, cell_of}
use Rattle.txs_value_data.specs.Places.{nth, fault_at}
use Rattle.txs_value_cell.specs.declared.action.Action.{Action}
use Rattle.txs_value_data.specs.declared.fault.Fault.{Fault}
use Rattle.txs_value_data.specs.declared.fault.FaultKind.{FaultKind}
use Rattle.txs_value_data.specs.declared.fault.FaultKind.TheVariants.{AgentFailed, InvalidState, RetryLimit}
use Rattle.txs_value_data.specs.declared.fault.Span.{Span}
use Rattle.txs_value_cell.specs.declared.form.CellForm.TheVariants as form
use Rattle.txs_value_cell.specs.declared.form.LookForm.{LookForm}
use Rattle.txs_value_cell.specs.declared.form.LookForm.TheVariants.{Deref, Ensure}
use Rattle.txs_value_cell.specs.declared.form.PutForm.{PutForm}
use Rattle.txs_value_cell.specs.declared.form.PutForm.TheVariants.{RefSet, Reset}
use Rattle.txs_value_cell.specs.declared.form.UpdateForm.{UpdateForm}
use Rattle.txs_value_cell.specs.declared.form.UpdateForm.TheVariants as update
use Rattle.txs_value_data.specs.declared.op.Callee.{Callee}
use Rattle.txs_value_data.specs.declared.op.Callee.TheVariants as callee
use Rattle.txs_value_data.specs.declared.value.CellId.{CellId}
use Rattle.txs_value_data.specs.declared.value.Value.{Value}
use Rattle.txs_value_data.specs.declared.value.Value.TheVariants.{Cell}
use Rattle.txs_code_meaning.specs.ActorState.{ActorState, Reception, Replied, Unreplied, asks, StepResult, Continue, Break, Redo, Await, Malformed, on_step, step_of, heard, read_point, just_done, value_there, newest_value, views, Verdict, Landed, Outdated, Undone, Denied, commit_verdict, opened, swap_verdict, send_verdict, begun, begin, fail, buffered_or, look, with_first, paired, viewed, view, commit, peek, SwapInHand, open_atom, close_swap, break_swap, reset_atom, sent, send_now, read_cell, read, set_own, assign_cell, assign, RefUpdate, Alters, Commutes, update_form, kept_open, open_update, close_own, close_update, open_swap, send_action, send_to, print, InHand, send_or_hold, held_in, now_holding, holding, landed, handed_out, take_action, taken_back, finish}
use Rattle.txs_code_meaning.specs.Machine.{PlainInstr, Push, Load, Store, Pop, Jump, JumpFalse, CoreOf, CallOf, Return, MakeVector, PrintOf, TxBegin, TxEnd, LookOf, PutOf, OpenOf, CloseOf, SendOf, Halt, TakeOf, RunOf, FinishOf, ThreadCode, Destination, to_stack, to_commutes, to_validation, state_after, gives, answered, validates, where_accepted, where_valid, works, puts, Frame, Savepoint, Activity, Outside, Restarting, Running, Applying, Swapping, is_inside, Configuration, ahead, staying, saved, called, arguments_of, Turned, Ended, Failed, Asking, Unfinished, Stuck, told, raise, rerun, on, found, on_top, on_args, on_args_of, on_two, push_all, put, starts, begins, decided, lands, settles, applies, ends, doing_after, returns_to, opens_atom, opens, swap_decided, closes_swap, closes, act, ends_with, fails_with, back_to, first_place, rested, started, runs, runs_callee, finishes, hands_in, fault_in}
use Rattle.txs_code_meaning.specs.declared.instr.OpenForm.{OpenForm}
use Rattle.txs_code_meaning.specs.declared.instr.OpenForm.TheVariants as open_form
use Rattle.txs_theorem_runs.specs.Stages.{Resting, Idle, Open, Viewing, Stage, AsksIn, stage_after}
use Rattle.txs_theorem_runs.specs.Stages as stages
use Rattle.txs_theorem_runs.specs.Staged.{redoes_some, stage_at_end, outside_stage, stage_in, stage_of, HasFault, IsOver, IsOpen, StandsIn, IsRested, HandsIn, IsStaged, StagedFrom}
use Rattle.txs_theorem_runs.specs.Run.{exchange}
use Rattle.txs_world.specs.Store.{is_over}
use Rattle.txs_theorem_runs.proofs.Ending.{tasks_redo_none}
use Rattle.txs_theorem_runs.specs.Standing.{MayStandIn, MayStandHere, MayRun, TakesTurns, TakesOne, RunsOne}

-- an actor that may do what it does: a thread runs no action, and an agent runs one
abbrev pub Fits : Bool → Option InHand → Type 0
Fits agent o = MayRun agent o × (outside_stage agent o ≡ Idle)

-- a configuration in its stage
pub stands : (agent : Bool) (st : Stage) (c : Configuration) → stage_of agent c ≡ st → StandsIn agent st c
stands false st c e = e
stands true st c e = inl e

-- an actor that runs an action is outside every transaction
runs_idle : (agent : Bool) (h : InHand) → outside_stage agent (Some h) ≡ Idle
runs_idle false h = refl
runs_idle true h = refl

-- so an agent's actor does, and its commits send nothing
abbrev IsIdle : Stage → Type 0
IsIdle Idle = Unit {0}
IsIdle _ = ⊥

no_agent : (agent : Bool) (o : Option InHand) → outside_stage agent o ≡ Idle → o ≡ None → agent ≡ false
no_agent false o e n = refl
no_agent true o e n = absurd (subst IsIdle (sym (sym (ap (outside_stage true) n) ∙ e)) tt)

none_sent : (agent : Bool) (o : Option InHand) (xs : List Action) → outside_stage agent o ≡ Idle → agent ≡ true → sends_of_commit (held_in o) xs ≡ []
none_sent agent None xs e a = absurd (false≢true (sym (no_agent agent None e refl) ∙ a))
none_sent agent (Some h) xs e a = refl

-- one that holds more sends, too
held_idle : (agent : Bool) (xs : List Action) (o : Option InHand) → outside_stage agent o ≡ Idle → outside_stage agent (now_holding xs o) ≡ Idle
held_idle agent xs None e = e
held_idle agent xs (Some h) e = runs_idle agent (record h { sends = h.sends ++ xs })

-- where an ask leads may be said otherwise
hands_same : (s : ActorState) (q : Ask) (go go1 : Ask → Reply → Turned Configuration) → ((r : Reply) → go q r ≡ go1 q r) → HandsIn s q go → HandsIn s q go1
hands_same s (ask.Finish g new sends) go go1 e h = λ r over. subst (λ o. IsRested s o) (e r) (h r over)
hands_same s ask.Begin go go1 e h = tt
hands_same s (ask.Look c p) go go1 e h = tt
hands_same s (ask.View cs) go go1 e h = tt
hands_same s (ask.Commit p sets ensured q commuted sends) go go1 e h = tt
hands_same s (ask.Fail p q) go go1 e h = tt
hands_same s (ask.Peek c) go go1 e h = tt
hands_same s (ask.Send x) go go1 e h = tt
hands_same s (ask.Take g) go go1 e h = tt
hands_same s (ask.OpenAt c) go go1 e h = tt
hands_same s (ask.CloseAt c p v) go go1 e h = tt
hands_same s (ask.Broke c p) go go1 e h = tt

-- an action that is over with a fault
abbrev over_now : InHand → Fault → ActorState → Configuration
over_now h f s = record (first_place [] (record s { acting = Some (record h { fault = Some f }) })) { place = 2 }

fails_idle : (agent : Bool) (o : Option InHand) (f : Fault) (s : ActorState) → s.todo ≡ [] → IsStaged agent Idle (fails_with o f s)
fails_idle agent None f s e = e
fails_idle agent (Some h) f s e = (e, stands agent Idle (over_now h f s) (runs_idle agent (record h { fault = Some f })))

fails_open : (agent : Bool) (o : Option InHand) → MayRun agent o → (f : Fault) (at : ℕ) (s : ActorState) → s.todo ≡ [] → IsStaged agent (Open at) (fails_with o f s)
fails_open agent None h f at s e = e
fails_open agent (Some x) h f at s e = (e, subst (λ b. StandsIn b (Open at) (over_now x f s)) (sym h) (inr (tt, tt)))

module _ (agent : Bool) (c : Configuration) (ok : Fits agent c.state.acting) where
  abbrev s0 : ActorState
  s0 = record c.state { todo = [] }

  abbrev ans : Ask → Reply → ActorState
  ans q r = record c.state { todo = exchange q r ∷ [] }

  abbrev in_state : ActorState → Configuration
  in_state s = record c { state = s }

  -- outside every transaction the stage is that of a thread
  all_stage : (doing : Activity) (t : ActorState) → outside_stage agent t.acting ≡ Idle → stage_in agent doing t ≡ stage_in false doing t
  all_stage Outside t i = i
  all_stage (Restarting left) t i = refl
  all_stage (Running left inner from) t i = refl
  all_stage (Applying left from work values) t i = refl
  all_stage (Swapping swap from) t i = refl

  asks_now : (q : Ask) → asks q s0 ≡ Unreplied (record s0 { wants = Some q })
  unfolding asks
  asks_now q = refl

  asks_then : (q : Ask) (r : Reply) → asks q (ans q r) ≡ Replied r s0
  unfolding asks
  asks_then q r = ap (λ b. if b then Replied r s0 else Unreplied (record (ans q r) { wants = Some q })) (same_ask-itself q)

  -- the stage of an actor's configuration is that of a thread's
  here_is : stage_in agent c.doing s0 ≡ stage_in false c.doing s0
  here_is = all_stage c.doing s0 ok.1

  -- a configuration that goes on in its stage
  on_here : (d : Configuration) → stage_of agent d ≡ stage_in agent c.doing s0 → StandsIn agent (stage_in false c.doing s0) d
  on_here d e = stands agent (stage_in false c.doing s0) d (e ∙ here_is)

  -- one ask, and what is done with its reply
  one_ask : (st : Stage) (q : Ask) (go : Reception → Turned Configuration) → ((t : ActorState) → go (Unreplied t) ≡ Asking t) → AsksIn agent st q → ((r : Reply) → IsStaged agent (stage_after st q r) (go (Replied r s0)))
      → HandsIn (record s0 { wants = Some q }) q (λ p r. go (asks q (ans p r)))
      → StagedFrom agent st (go (asks q s0)) (λ p r. go (asks q (ans p r)))
  one_ask st q go waits ok h hands =
      subst (λ o. StagedFrom agent st (go o) (λ p r. go (asks q (ans p r)))) (sym (asks_now q))
      (subst (λ o. StagedFrom agent st o (λ p r. go (asks q (ans p r)))) (sym (waits (record s0 { wants = Some q })))
      (q, refl, ok, (λ r. subst (λ o. IsStaged agent (stage_after st q r) (go o)) (sym (asks_then q r)) (h r)), hands))

  -- ---- faults and tries

  fails_staged : (f : Fault) (st : Stage) → AsksIn agent st (ask.Fail c.state.at c.state.view) → stage_after st (ask.Fail c.state.at c.state.view) reply.Done ≡ Idle → StagedFrom agent st (told (fail s0) (λ s. fails_with s.acting f s)) (λ q r. told (fail (ans q r)) (λ s. fails_with s.acting f s))
  unfolding fail
  fails_staged f st may out = one_ask st (ask.Fail c.state.at c.state.view) (λ o. told (heard just_done o) (λ s. fails_with s.acting f s)) (λ t. refl) may heard_so tt
    where
      heard_so : (r : Reply) → IsStaged agent (stage_after st (ask.Fail c.state.at c.state.view) r) (told (heard just_done (Replied r s0)) (λ s. fails_with s.acting f s))
      heard_so (reply.At p) = tt
      heard_so (reply.Is v) = tt
      heard_so (reply.Views p vs) = tt
      heard_so reply.Done = subst (λ i. IsStaged agent i (fails_with c.state.acting f s0)) (sym out) (fails_idle agent c.state.acting f s0 refl)
      heard_so (reply.Retry d) = tt
      heard_so (reply.Changed d) = tt
      heard_so (reply.AgentIsFailed g) = tt
      heard_so (reply.Action n x v) = tt
      heard_so reply.Idle = tt
      heard_so (reply.Opened p v) = tt
      heard_so reply.Full = tt
      heard_so reply.Memory = tt

  breaks_staged : (f : Fault) (swap : SwapInHand) → StagedFrom agent (stages.Swapping swap.cell swap.at) (told (break_swap swap s0) (λ s. fails_with s.acting f s)) (λ q r. told (break_swap swap (ans q r)) (λ s. fails_with s.acting f s))
  unfolding break_swap
  breaks_staged f swap = one_ask (stages.Swapping swap.cell swap.at) (ask.Broke swap.cell swap.at) (λ o. told (heard just_done o) (λ s. fails_with s.acting f s)) (λ t. refl) (refl, refl) heard_so tt
    where
      heard_so : (r : Reply) → IsStaged agent Idle (told (heard just_done (Replied r s0)) (λ s. fails_with s.acting f s))
      heard_so (reply.At p) = tt
      heard_so (reply.Is v) = tt
      heard_so (reply.Views p vs) = tt
      heard_so reply.Done = fails_idle agent c.state.acting f s0 refl
      heard_so (reply.Retry d) = tt
      heard_so (reply.Changed d) = tt
      heard_so (reply.AgentIsFailed g) = tt
      heard_so (reply.Action n x v) = tt
      heard_so reply.Idle = tt
      heard_so (reply.Opened p v) = tt
      heard_so reply.Full = tt
      heard_so reply.Memory = tt

  -- a fault of an action is handed in
  hands_fault : (g : CellId) (f : Fault) (st : Stage) → AsksIn agent st (ask.Finish g (Err f) []) → agent ≡ true → ((r : Reply) → stage_after st (ask.Finish g (Err f) []) r ≡ Resting)
      → StagedFrom agent st (told (finish g (Err f) [] s0) (λ s. Unfinished (first_place [] (rested s)))) (λ q r. told (finish g (Err f) [] (ans q r)) (λ s. Unfinished (first_place [] (rested s))))
  unfolding finish
  hands_fault g f st may acts rests = one_ask st (ask.Finish g (Err f) []) (λ o. told (heard taken_back o) (λ s. Unfinished (first_place [] (rested s)))) (λ t. refl) may heard_so over_so
    where
      rested_so : (r : Reply) → is_over r ≡ true → IsRested (record s0 { wants = Some (ask.Finish g (Err f) []) }) (told (heard taken_back (Replied r s0)) (λ s. Unfinished (first_place [] (rested s))))
      rested_so (reply.At p) over = absurd (false≢true over)
      rested_so (reply.Is v) over = absurd (false≢true over)
      rested_so (reply.Views p vs) over = absurd (false≢true over)
      rested_so reply.Done over = (rested s0, refl, (refl, refl), refl, refl)
      rested_so (reply.Retry d) over = absurd (false≢true over)
      rested_so (reply.Changed d) over = absurd (false≢true over)
      rested_so (reply.AgentIsFailed h) over = (rested s0, refl, (refl, refl), refl, refl)
      rested_so (reply.Action n x v) over = absurd (false≢true over)
      rested_so reply.Idle over = absurd (false≢true over)
      rested_so (reply.Opened p v) over = absurd (false≢true over)
      rested_so reply.Full over = absurd (false≢true over)
      rested_so reply.Memory over = absurd (false≢true over)

      over_so : (r : Reply) → is_over r ≡ true → IsRested (record s0 { wants = Some (ask.Finish g (Err f) []) }) (told (heard taken_back (asks (ask.Finish g (Err f) []) (ans (ask.Finish g (Err f) []) r))) (λ s. Unfinished (first_place [] (rested s))))
      over_so r over = subst (λ o. IsRested (record s0 { wants = Some (ask.Finish g (Err f) []) }) (told (heard taken_back o) (λ s. Unfinished (first_place [] (rested s))))) (sym (asks_then (ask.Finish g (Err f) []) r)) (rested_so r over)

      at_rest : (st1 : Stage) → st1 ≡ Resting → StandsIn agent st1 (first_place [] (rested s0))
      at_rest st1 e = stands agent st1 (first_place [] (rested s0)) (ap (λ b. outside_stage b None) acts ∙ sym e)

      heard_so : (r : Reply) → IsStaged agent (stage_after st (ask.Finish g (Err f) []) r) (told (heard taken_back (Replied r s0)) (λ s. Unfinished (first_place [] (rested s))))
      heard_so (reply.At p) = tt
      heard_so (reply.Is v) = tt
      heard_so (reply.Views p vs) = tt
      heard_so reply.Done = (refl, at_rest (stage_after st (ask.Finish g (Err f) []) reply.Done) (rests reply.Done))
      heard_so (reply.Retry d) = tt
      heard_so (reply.Changed d) = tt
      heard_so (reply.AgentIsFailed h) = (refl, at_rest (stage_after st (ask.Finish g (Err f) []) (reply.AgentIsFailed h)) (rests (reply.AgentIsFailed h)))
      heard_so (reply.Action n x v) = tt
      heard_so reply.Idle = tt
      heard_so (reply.Opened p v) = tt
      heard_so reply.Full = tt
      heard_so reply.Memory = tt

  over_staged : (o : Option InHand) → MayRun agent o → (f : Fault) → StagedFrom agent Idle (ends_with o f s0) (λ q r. ends_with o f (ans q r))
  over_staged None h f = refl
  over_staged (Some x) h f = hands_fault x.agent f Idle h h (λ r. refl)

  -- a fault at a transaction's end
  end_fails : (b : Bool) (values : Writes) (f : Fault) → StagedFrom agent (stage_at_end b values s0) (told (fail s0) (λ s. fails_with s.acting f s)) (λ q r. told (fail (ans q r)) (λ s. fails_with s.acting f s))
  end_fails true values f = fails_staged f (Viewing c.state.at c.state.view) (refl, refl) refl
  end_fails false [] f = fails_staged f (Open c.state.at) refl refl
  end_fails false (w ∷ ws) f = fails_staged f (Viewing c.state.at c.state.view) (refl, refl) refl

  -- the stage is that of the read point and the view
  same_view : (t : ActorState) → t.at ≡ c.state.at → t.view ≡ c.state.view → Viewing t.at t.view ≡ Viewing c.state.at c.state.view
  same_view t p q = ap (λ i. Viewing i t.view) p ∙ ap (λ i. Viewing c.state.at i) q

  same_end : (b : Bool) (values : Writes) (t : ActorState) → t.at ≡ c.state.at → t.view ≡ c.state.view → stage_at_end b values t ≡ stage_at_end b values s0
  same_end true values t p q = same_view t p q
  same_end false [] t p q = ap Open p
  same_end false (w ∷ ws) t p q = same_view t p q

  same_stage : (doing : Activity) (t : ActorState) → t.at ≡ c.state.at → t.view ≡ c.state.view → outside_stage agent t.acting ≡ Idle → stage_in agent doing t ≡ stage_in false doing s0
  same_stage Outside t p q i = i
  same_stage (Restarting left) t p q i = refl
  same_stage (Running left inner from) t p q i = ap Open p
  same_stage (Applying left from work values) t p q i = same_end (redoes_some work) values t p q
  same_stage (Swapping swap from) t p q i = refl

  -- where a value was viewed, or one was made
  viewing_end : (b : Bool) (x : CellId × Value) (xs : Writes) (t : ActorState) → stage_at_end b (x ∷ xs) t ≡ Viewing t.at t.view
  viewing_end true x xs t = refl
  viewing_end false x xs t = refl

  written_end : (b : Bool) (values : Writes) (d : CellId) (v : Value) → stage_at_end b (with_write values d v) s0 ≡ Viewing c.state.at c.state.view
  written_end b [] d v = viewing_end b (d, v) [] s0
  written_end b (w ∷ ws) d v = first (w.0.number == d.number)
    where
      second : (x : Bool) → stage_at_end b (if x then (d, v) ∷ w ∷ ws else w ∷ with_write ws d v) s0 ≡ Viewing c.state.at c.state.view
      second true = viewing_end b (d, v) (w ∷ ws) s0
      second false = viewing_end b w (with_write ws d v) s0

      first : (x : Bool) → stage_at_end b (if x then (d, v) ∷ ws else if nat_lt d.number w.0.number then (d, v) ∷ w ∷ ws else w ∷ with_write ws d v) s0 ≡ Viewing c.state.at c.state.view
      first true = viewing_end b (d, v) ws s0
      first false = second (nat_lt d.number w.0.number)

  staged_from : (st : Stage) (o : Turned Configuration) (go : Ask → Reply → Turned Configuration) → IsStaged agent st o → StagedFrom agent st o go
  staged_from st (Ended s) go h = h
  staged_from st (Failed f s) go h = h
  staged_from st (Asking s) go h = absurd h
  staged_from st (Unfinished d) go h = h
  staged_from st Stuck go h = tt

  raise_staged : (doing : Activity) (f : Fault) → StagedFrom agent (stage_in false doing s0) (raise doing f s0) (λ q r. raise doing f (ans q r))
  raise_staged Outside f = over_staged c.state.acting ok.0 f
  raise_staged (Restarting left) f = staged_from Idle (fails_with c.state.acting f s0) (λ q r. fails_with c.state.acting f (ans q r)) (fails_idle agent c.state.acting f s0 refl)
  raise_staged (Running left inner from) f = fails_staged f (Open c.state.at) refl refl
  raise_staged (Applying left from work values) f = end_fails (redoes_some work) values f
  raise_staged (Swapping swap from) f = breaks_staged f swap

  rerun_staged : (left : ℕ) (from : Savepoint) → IsStaged agent Idle (rerun left from s0)
  rerun_staged zero from = fails_idle agent c.state.acting (fault_at RetryLimit from.span) s0 refl
  rerun_staged (suc left) from = (refl, stands agent Idle (back_to from (Restarting left) s0) refl)

  -- a result of no ask, and what is done with it
  result_staged : {A : Type 0} (doing : Activity) (x : Result A FaultKind) (span : Span) (go : A → ActorState → Turned Configuration)
      → ((a : A) → StagedFrom agent (stage_in false doing s0) (go a s0) (λ q r. go a (ans q r)))
      → StagedFrom agent (stage_in false doing s0) (on doing (step_of x span s0) go) (λ q r. on doing (step_of x span (ans q r)) go)
  result_staged doing (Ok a) span go h = h a
  result_staged doing (Err k) span go h = raise_staged doing (fault_at k span)

  -- a result of no ask, and a step with it
  step_staged : {A B : Type 0} (doing : Activity) (x : Result A FaultKind) (span : Span) (step : A → ActorState → StepResult B) (go : B → ActorState → Turned Configuration)
      → ((a : A) → StagedFrom agent (stage_in false doing s0) (on doing (step a s0) go) (λ q r. on doing (step a (ans q r)) go))
      → StagedFrom agent (stage_in false doing s0) (on doing (on_step (step_of x span s0) step) go) (λ q r. on doing (on_step (step_of x span (ans q r)) step) go)
  step_staged doing (Ok a) span step go h = h a
  step_staged doing (Err k) span step go h = raise_staged doing (fault_at k span)

  -- ---- the stack

  top_staged : (st : Stage) (stack : List Value) (a : Value → List Value → Turned Configuration) (b : Value → List Value → Ask → Reply → Turned Configuration)
      → ((v : Value) (rest : List Value) → StagedFrom agent st (a v rest) (b v rest)) → StagedFrom agent st (on_top stack a) (λ q r. on_top stack (λ v rest. b v rest q r))
  top_staged st [] a b h = tt
  top_staged st (v ∷ rest) a b h = h v rest

  args_staged : (st : Stage) (n : ℕ) (stack vs : List Value) (a : List Value → List Value → Turned Configuration) (b : List Value → List Value → Ask → Reply → Turned Configuration)
      → ((ws rest : List Value) → StagedFrom agent st (a ws rest) (b ws rest)) → StagedFrom agent st (on_args n stack vs a) (λ q r. on_args n stack vs (λ ws rest. b ws rest q r))
  args_staged st zero stack vs a b h = h vs stack
  args_staged st (suc n) [] vs a b h = tt
  args_staged st (suc n) (v ∷ stack) vs a b h = args_staged st n stack (v ∷ vs) a b h

  two_staged : (st : Stage) (stack : List Value) (a : Value → Value → List Value → Turned Configuration) (b : Value → Value → List Value → Ask → Reply → Turned Configuration)
      → ((w v : Value) (rest : List Value) → StagedFrom agent st (a w v rest) (b w v rest)) → StagedFrom agent st (on_two stack a) (λ q r. on_two stack (λ w v rest. b w v rest q r))
  two_staged st stack a b h =
      top_staged st stack (λ w under. on_top under (a w)) (λ w under q r. on_top under (λ v rest. b w v rest q r)) (λ w under. top_staged st under (a w) (b w) (h w))

  args_of_staged : (st : Stage) (n : ℕ) (stack : List Value) (a : List Value → Value → List Value → Turned Configuration) (b : List Value → Value → List Value → Ask → Reply → Turned Configuration)
      → ((vs : List Value) (v : Value) (rest : List Value) → StagedFrom agent st (a vs v rest) (b vs v rest)) → StagedFrom agent st (on_args_of n stack a) (λ q r. on_args_of n stack (λ vs v rest. b vs v rest q r))
  args_of_staged st n stack a b h =
      args_staged st n stack [] (λ vs under. on_top under (a vs)) (λ vs under q r. on_top under (λ v rest. b vs v rest q r)) (λ vs under. top_staged st under (a vs) (b vs) (h vs))

  -- ---- forms on cells

  -- a value on the stack, one place on
  abbrev goes_on : List Value → Value → ActorState → Turned Configuration
  goes_on rest v s = Unfinished (ahead (v ∷ rest) s c)

  look_heard : (left inner : ℕ) (from : Savepoint) (d : CellId) (go : Value → ActorState → Turned Configuration) → ((v : Value) → IsStaged agent (Open c.state.at) (go v s0))
      → (r : Reply) → IsStaged agent (stage_after (Open c.state.at) (ask.Look d c.state.at) r) (on (Running left inner from) (heard value_there (Replied r s0)) go)
  look_heard left inner from d go h (reply.At p) = tt
  look_heard left inner from d go h (reply.Is v) = h v
  look_heard left inner from d go h (reply.Views p vs) = tt
  look_heard left inner from d go h reply.Done = tt
  look_heard left inner from d go h (reply.Retry e) = rerun_staged left from
  look_heard left inner from d go h (reply.Changed e) = tt
  look_heard left inner from d go h (reply.AgentIsFailed g) = tt
  look_heard left inner from d go h (reply.Action n x v) = tt
  look_heard left inner from d go h reply.Idle = tt
  look_heard left inner from d go h (reply.Opened p v) = tt
  look_heard left inner from d go h reply.Full = tt
  look_heard left inner from d go h reply.Memory = tt

  -- a ref's value in a try, and what is done with it without an ask
  look_staged : (left inner : ℕ) (from : Savepoint) (d : CellId) (go : Value → ActorState → Turned Configuration) → ((v : Value) → IsStaged agent (Open c.state.at) (go v s0))
      → StagedFrom agent (Open c.state.at) (on (Running left inner from) (look d s0) go) (λ q r. on (Running left inner from) (look d (ans q r)) go)
  unfolding look
  look_staged left inner from d go h = own (buffered c.state.done.values d.number)
    where
      own : (o : Option Value)
          → StagedFrom agent (Open c.state.at) (on (Running left inner from) (buffered_or o s0 (heard value_there (asks (ask.Look d c.state.at) s0))) go)
          (λ q r. on (Running left inner from) (buffered_or o (ans q r) (heard value_there (asks (ask.Look d c.state.at) (ans q r)))) go)
      own (Some v) = staged_from (Open c.state.at) (go v s0) (λ q r. go v (ans q r)) (h v)
      own None = one_ask (Open c.state.at) (ask.Look d c.state.at) (λ o. on (Running left inner from) (heard value_there o) go) (λ t. refl) refl (look_heard left inner from d go h) tt

  -- so too where a step without an ask stands between
  then_staged : (doing : Activity) (x : ActorState → StepResult Value) (step : Value → ActorState → StepResult Value) (go : Value → ActorState → Turned Configuration)
      → StagedFrom agent (stage_in false doing s0) (on doing (x s0) (λ v s. on doing (step v s) go)) (λ q r. on doing (x (ans q r)) (λ v s. on doing (step v s) go))
      → StagedFrom agent (stage_in false doing s0) (on doing (on_step (x s0) step) go) (λ q r. on doing (on_step (x (ans q r)) step) go)
  then_staged doing x step go h =
      subst (λ (o : Turned Configuration). StagedFrom agent (stage_in false doing s0) o (λ q r. on doing (on_step (x (ans q r)) step) go)) (sym (apart (x s0)))
      (later (on doing (x s0) (λ v s. on doing (step v s) go)) h)
    where
      apart : (y : StepResult Value) → on doing (on_step y step) go ≡ on doing y (λ v s. on doing (step v s) go)
      apart (Continue v s) = refl
      apart (Break f s) = refl
      apart (Redo s) = refl
      apart (Await s) = refl
      apart Malformed = refl

      later : (o : Turned Configuration) → StagedFrom agent (stage_in false doing s0) o (λ q r. on doing (x (ans q r)) (λ v s. on doing (step v s) go)) → StagedFrom agent (stage_in false doing s0) o (λ q r. on doing (on_step (x (ans q r)) step) go)
      later (Ended s) h = h
      later (Failed f s) h = h
      later (Asking s) h =
          (h.0, h.1, h.2, (λ r. subst (λ o. IsStaged agent (stage_after (stage_in false doing s0) h.0 r) o) (sym (apart (x (ans h.0 r)))) (h.3 r)), hands_same s h.0 _ _ (λ r. sym (apart (x (ans h.0 r)))) h.4)
      later (Unfinished d) h = h
      later Stuck h = tt

  peek_staged : (doing : Activity) → stage_in agent c.doing s0 ≡ Idle → (d : CellId) (rest : List Value) → StagedFrom agent Idle (on doing (peek d s0) (goes_on rest)) (λ q r. on doing (peek d (ans q r)) (goes_on rest))
  unfolding peek
  peek_staged doing e d rest = one_ask Idle (ask.Peek d) (λ o. on doing (heard newest_value o) (goes_on rest)) (λ t. refl) tt heard_so tt
    where
      heard_so : (r : Reply) → IsStaged agent (stage_after Idle (ask.Peek d) r) (on doing (heard newest_value (Replied r s0)) (goes_on rest))
      heard_so (reply.At p) = tt
      heard_so (reply.Is v) = (refl, stands agent Idle (ahead (v ∷ rest) s0 c) e)
      heard_so (reply.Views p vs) = tt
      heard_so reply.Done = tt
      heard_so (reply.Retry f) = tt
      heard_so (reply.Changed f) = tt
      heard_so (reply.AgentIsFailed g) = tt
      heard_so (reply.Action n x v) = tt
      heard_so reply.Idle = tt
      heard_so (reply.Opened p v) = tt
      heard_so reply.Full = tt
      heard_so reply.Memory = tt

  -- `deref` and `ensure`
  read_staged : (f : LookForm) (span : Span) (cell : Value) (rest : List Value) (doing : Activity) → c.doing ≡ doing → MayStandIn agent doing (LookOf f span)
      → StagedFrom agent (stage_in false doing s0) (on doing (read f (is_inside doing) span cell s0) (goes_on rest)) (λ q r. on doing (read f (is_inside doing) span cell (ans q r)) (goes_on rest))
  read_staged f span cell rest Outside e may =
      step_staged Outside (cell_of (rule (form.Look f)) false cell) span (read_cell f false) (goes_on rest) (λ d. outside f d)
    where
      outside : (f : LookForm) (d : CellId) → StagedFrom agent Idle (on Outside (read_cell f false d s0) (goes_on rest)) (λ q r. on Outside (read_cell f false d (ans q r)) (goes_on rest))
      outside Deref d = peek_staged Outside (ap (λ i. stage_in agent i s0) e ∙ ok.1) d rest
      outside Ensure d = tt
  read_staged f span cell rest (Restarting left) e may =
      step_staged (Restarting left) (cell_of (rule (form.Look f)) false cell) span (read_cell f false) (goes_on rest) (λ d. outside f d)
    where
      outside : (f : LookForm) (d : CellId) → StagedFrom agent Idle (on (Restarting left) (read_cell f false d s0) (goes_on rest)) (λ q r. on (Restarting left) (read_cell f false d (ans q r)) (goes_on rest))
      outside Deref d = peek_staged (Restarting left) (ap (λ i. stage_in agent i s0) e) d rest
      outside Ensure d = tt
  read_staged f span cell rest (Running left inner from) e may =
      step_staged (Running left inner from) (cell_of (rule (form.Look f)) true cell) span (read_cell f true) (goes_on rest) (λ d. inside f d)
    where
      here : (v : Value) → IsStaged agent (Open c.state.at) (goes_on rest v s0)
      here v = (refl, stands agent (Open c.state.at) (ahead (v ∷ rest) s0 c) (ap (λ i. stage_in agent i s0) e))

      ensured : (d : CellId) (v : Value) → IsStaged agent (Open c.state.at) (goes_on rest v (record s0 { done = ensure_ref d c.state.done }))
      ensured d v = (refl, stands agent (Open c.state.at) (ahead (v ∷ rest) (record s0 { done = ensure_ref d c.state.done }) c) (ap (λ i. stage_in agent i (record s0 { done = ensure_ref d c.state.done })) e))

      inside : (f : LookForm) (d : CellId) → StagedFrom agent (Open c.state.at) (on (Running left inner from) (read_cell f true d s0) (goes_on rest)) (λ q r. on (Running left inner from) (read_cell f true d (ans q r)) (goes_on rest))
      inside Deref d = look_staged left inner from d (goes_on rest) here
      inside Ensure d =
          then_staged (Running left inner from) (look d) (λ v s. Continue v (record s { done = ensure_ref d s.done })) (goes_on rest)
          (look_staged left inner from d (λ v s. goes_on rest v (record s { done = ensure_ref d s.done })) (ensured d))
  read_staged f span cell rest (Applying left from work values) e may = absurd may
  read_staged f span cell rest (Swapping swap from) e may = absurd may

  reset_staged : (doing : Activity) → stage_in agent c.doing s0 ≡ Idle → (d : CellId) (v : Value) (rest : List Value)
      → StagedFrom agent Idle (on doing (reset_atom d v s0) (goes_on rest)) (λ q r. on doing (reset_atom d v (ans q r)) (goes_on rest))
  unfolding reset_atom
  reset_staged doing e d v rest = one_ask Idle (ask.CloseAt d None v) (λ o. on doing (on_step (heard just_done o) (λ u s1. Continue v s1)) (goes_on rest)) (λ t. refl) tt heard_so tt
    where
      heard_so : (r : Reply) → IsStaged agent Idle (on doing (on_step (heard just_done (Replied r s0)) (λ u s1. Continue v s1)) (goes_on rest))
      heard_so (reply.At p) = tt
      heard_so (reply.Is w) = tt
      heard_so (reply.Views p vs) = tt
      heard_so reply.Done = (refl, stands agent Idle (ahead (v ∷ rest) s0 c) e)
      heard_so (reply.Retry f) = tt
      heard_so (reply.Changed f) = tt
      heard_so (reply.AgentIsFailed g) = tt
      heard_so (reply.Action n x w) = tt
      heard_so reply.Idle = tt
      heard_so (reply.Opened p w) = tt
      heard_so reply.Full = tt
      heard_so reply.Memory = tt

  -- a ref set by a transaction
  set_staged : (left inner : ℕ) (from : Savepoint) → c.doing ≡ Running left inner from → (span : Span) (v : Value) (d : CellId) (rest : List Value)
      → StagedFrom agent (Open c.state.at) (on (Running left inner from) (set_own span v d s0) (goes_on rest)) (λ q r. on (Running left inner from) (set_own span v d (ans q r)) (goes_on rest))
  set_staged left inner from e span v d rest =
      step_staged (Running left inner from) (set_ref d v c.state.done) span (λ w s1. Continue v (record s1 { done = w })) (goes_on rest) (λ w. (refl, stands agent (Open c.state.at) (ahead (v ∷ rest) (record s0 { done = w }) c) (ap (λ i. stage_in agent i (record s0 { done = w })) e)))

  -- `ref-set` and `reset!`
  assign_staged : (f : PutForm) (span : Span) (cell v : Value) (rest : List Value) (doing : Activity) → c.doing ≡ doing → MayStandIn agent doing (PutOf f span)
      → StagedFrom agent (stage_in false doing s0) (on doing (assign f (is_inside doing) span cell v s0) (goes_on rest)) (λ q r. on doing (assign f (is_inside doing) span cell v (ans q r)) (goes_on rest))
  assign_staged f span cell v rest Outside e may =
      step_staged Outside (cell_of (rule (form.Put f)) false cell) span (assign_cell f false span v) (goes_on rest) (λ d. outside f d)
    where
      outside : (f : PutForm) (d : CellId) → StagedFrom agent Idle (on Outside (assign_cell f false span v d s0) (goes_on rest)) (λ q r. on Outside (assign_cell f false span v d (ans q r)) (goes_on rest))
      outside RefSet d = tt
      outside Reset d = reset_staged Outside (ap (λ i. stage_in agent i s0) e ∙ ok.1) d v rest
  assign_staged f span cell v rest (Restarting left) e may =
      step_staged (Restarting left) (cell_of (rule (form.Put f)) false cell) span (assign_cell f false span v) (goes_on rest) (λ d. outside f d)
    where
      outside : (f : PutForm) (d : CellId) → StagedFrom agent Idle (on (Restarting left) (assign_cell f false span v d s0) (goes_on rest)) (λ q r. on (Restarting left) (assign_cell f false span v d (ans q r)) (goes_on rest))
      outside RefSet d = tt
      outside Reset d = reset_staged (Restarting left) (ap (λ i. stage_in agent i s0) e) d v rest
  assign_staged f span cell v rest (Running left inner from) e may =
      step_staged (Running left inner from) (cell_of (rule (form.Put f)) true cell) span (assign_cell f true span v) (goes_on rest) (λ d. inside f d)
    where
      inside : (f : PutForm) (d : CellId) → StagedFrom agent (Open c.state.at) (on (Running left inner from) (assign_cell f true span v d s0) (goes_on rest)) (λ q r. on (Running left inner from) (assign_cell f true span v d (ans q r)) (goes_on rest))
      inside RefSet d = set_staged left inner from e span v d rest
      inside Reset d = tt
  assign_staged f span cell v rest (Applying left from work values) e may = absurd may
  assign_staged f span cell v rest (Swapping swap from) e may = absurd may

  send_staged : (doing : Activity) → agent ≡ false → stage_in agent c.doing s0 ≡ Idle → ((f : Fault) → raise doing f s0 ≡ Failed f s0) → (x : Action) (rest : List Value)
      → StagedFrom agent Idle (on doing (send_now x s0) (goes_on rest)) (λ q r. on doing (send_now x (ans q r)) (goes_on rest))
  unfolding send_now
  send_staged doing isnt e fails x rest = one_ask Idle (ask.Send x) (λ o. on doing (on_step (heard send_verdict o) (sent x)) (goes_on rest)) (λ t. refl) isnt heard_so tt
    where
      heard_so : (r : Reply) → IsStaged agent Idle (on doing (on_step (heard send_verdict (Replied r s0)) (sent x)) (goes_on rest))
      heard_so (reply.At p) = tt
      heard_so (reply.Is w) = tt
      heard_so (reply.Views p vs) = tt
      heard_so reply.Done = (refl, stands agent Idle (ahead (Cell x.agent ∷ rest) s0 c) e)
      heard_so (reply.Retry f) = tt
      heard_so (reply.Changed f) = tt
      heard_so (reply.AgentIsFailed g) = subst (λ o. IsStaged agent Idle o) (sym (fails (fault_at AgentFailed x.span))) refl
      heard_so (reply.Action n y w) = tt
      heard_so reply.Idle = tt
      heard_so (reply.Opened p w) = tt
      heard_so reply.Full = tt
      heard_so reply.Memory = tt

  -- outside of an action a send is made, in one it is held
  or_hold_staged : (o : Option InHand) → c.state.acting ≡ o → (doing : Activity) → ((s : ActorState) → outside_stage agent s.acting ≡ Idle → stage_in agent c.doing s ≡ Idle) → ((f : Fault) → c.state.acting ≡ None → raise doing f s0 ≡ Failed f s0)
      → (x : Action) (rest : List Value)
      → StagedFrom agent Idle (on doing (send_or_hold o x s0) (goes_on rest)) (λ q r. on doing (send_or_hold o x (ans q r)) (goes_on rest))
  or_hold_staged None h doing idle fails x rest = send_staged doing (no_agent agent c.state.acting ok.1 h) (idle s0 ok.1) (λ f. fails f h) x rest
  or_hold_staged (Some y) h doing idle fails x rest =
      (refl, stands agent Idle (ahead (Cell x.agent ∷ rest) (holding (x ∷ []) s0) c) (idle (holding (x ∷ []) s0) (held_idle agent (x ∷ []) c.state.acting ok.1)))

  -- `send`
  send_to_staged : (f : Callee) (n : ℕ) (span : Span) (cell : Value) (vs rest : List Value) (doing : Activity) → c.doing ≡ doing → MayStandIn agent doing (SendOf f n span)
      → StagedFrom agent (stage_in false doing s0) (on doing (send_to (is_inside doing) span cell f vs s0) (goes_on rest)) (λ q r. on doing (send_to (is_inside doing) span cell f vs (ans q r)) (goes_on rest))
  send_to_staged f n span cell vs rest Outside e may =
      step_staged Outside (cell_of (rule form.Send) false cell) span (λ g s1. send_action false (record { agent = g; callee = f; args = vs; span = span }) s1) (goes_on rest)
      (λ g. or_hold_staged c.state.acting refl Outside (λ s i. ap (λ d. stage_in agent d s) e ∙ i) (λ k h. ap (λ o. ends_with o k s0) h) (record { agent = g; callee = f; args = vs; span = span }) rest)
  send_to_staged f n span cell vs rest (Restarting left) e may =
      step_staged (Restarting left) (cell_of (rule form.Send) false cell) span (λ g s1. send_action false (record { agent = g; callee = f; args = vs; span = span }) s1) (goes_on rest)
      (λ g. or_hold_staged c.state.acting refl (Restarting left) (λ s i. ap (λ d. stage_in agent d s) e) (λ k h. ap (λ o. fails_with o k s0) h) (record { agent = g; callee = f; args = vs; span = span }) rest)
  send_to_staged f n span cell vs rest (Running left inner from) e may =
      step_staged (Running left inner from) (cell_of (rule form.Send) true cell) span (λ g s1. send_action true (record { agent = g; callee = f; args = vs; span = span }) s1) (goes_on rest)
      (λ g. (refl, stands agent (Open c.state.at) (ahead (Cell g ∷ rest) (record s0 { done = hold_send (record { agent = g; callee = f; args = vs; span = span }) c.state.done }) c) (ap (λ i. stage_in agent i (record s0 { done = hold_send (record { agent = g; callee = f; args = vs; span = span }) c.state.done })) e)))
  send_to_staged f n span cell vs rest (Applying left from work values) e may = absurd may
  send_to_staged f n span cell vs rest (Swapping swap from) e may = absurd may

  -- `alter` and `commute` up to the ref's value
  open_ref_staged : (u : RefUpdate) (span : Span) (cell : Value) (vs rest : List Value) (doing : Activity) → c.doing ≡ doing → MayStandIn agent doing (OpenOf open_form.Alter 0 span)
      → StagedFrom agent (stage_in false doing s0) (on doing (open_update u (is_inside doing) span cell vs s0) (λ v s. Unfinished (ahead (push_all vs (v ∷ cell ∷ rest)) s c)))
      (λ q r. on doing (open_update u (is_inside doing) span cell vs (ans q r)) (λ v s. Unfinished (ahead (push_all vs (v ∷ cell ∷ rest)) s c)))
  open_ref_staged u span cell vs rest Outside e may = tt
  open_ref_staged u span cell vs rest (Restarting left) e may = tt
  open_ref_staged u span cell vs rest (Running left inner from) e may =
      step_staged (Running left inner from) (cell_of (rule (form.Update (update_form u))) true cell) span (λ d s1. on_step (look d s1) (λ x s2. Continue x (record s2 { commuting = kept_open u d vs })))
      (λ v s. Unfinished (ahead (push_all vs (v ∷ cell ∷ rest)) s c))
      (λ d. then_staged (Running left inner from) (look d) (λ x s2. Continue x (record s2 { commuting = kept_open u d vs })) (λ v s. Unfinished (ahead (push_all vs (v ∷ cell ∷ rest)) s c))
      (look_staged left inner from d (λ x s2. Unfinished (ahead (push_all vs (x ∷ cell ∷ rest)) (record s2 { commuting = kept_open u d vs }) c)) (λ v. (refl, stands agent (Open c.state.at) (ahead (push_all vs (v ∷ cell ∷ rest)) (record s0 { commuting = kept_open u d vs }) c) (ap (λ i. stage_in agent i (record s0 { commuting = kept_open u d vs })) e)))))
  open_ref_staged u span cell vs rest (Applying left from work values) e may = absurd may
  open_ref_staged u span cell vs rest (Swapping swap from) e may = absurd may

  -- what goes on with a step's value may be told otherwise
  on_same : {A : Type 0} (doing : Activity) (x : StepResult A) (f g : A → ActorState → Turned Configuration) → ((a : A) (s : ActorState) → f a s ≡ g a s) → on doing x f ≡ on doing x g
  on_same doing (Continue a s) f g h = h a s
  on_same doing (Break k s) f g h = refl
  on_same doing (Redo s) f g h = refl
  on_same doing (Await s) f g h = refl
  on_same doing Malformed f g h = refl

  staged_same : (st : Stage) (o o1 : Turned Configuration) (go go1 : Ask → Reply → Turned Configuration) → o ≡ o1 → ((q : Ask) (r : Reply) → go q r ≡ go1 q r) → StagedFrom agent st o go → StagedFrom agent st o1 go1
  staged_same st o o1 go go1 e h x = subst (λ z. StagedFrom agent st z go1) e (later o x)
    where
      later : (o : Turned Configuration) → StagedFrom agent st o go → StagedFrom agent st o go1
      later (Ended s) x = x
      later (Failed f s) x = x
      later (Asking s) x = (x.0, x.1, x.2, (λ r. subst (λ o. IsStaged agent (stage_after st x.0 r) o) (h x.0 r) (x.3 r)), hands_same s x.0 go go1 (λ r. h x.0 r) x.4)
      later (Unfinished d) x = x
      later Stuck x = x

  -- the swap that was opened goes on
  abbrev opens_with : Span → List Value → Value → List Value → SwapInHand × Value → ActorState → Turned Configuration
  opens_with span vs cell rest o s = Unfinished (record (ahead (push_all vs (o.1 ∷ cell ∷ rest)) s c) { doing = Swapping o.0 (saved span c) })

  abbrev opens_heard : Span → List Value → Value → List Value → CellId → Reception → Turned Configuration
  opens_heard span vs cell rest d o = on Outside (on_step (heard opened o) (λ x s1. Continue (record { cell = d; at = x.0 }, x.1) s1)) (opens_with span vs cell rest)

  opened_heard : (span : Span) (vs : List Value) (cell : Value) (rest : List Value) (d : CellId) (r : Reply) → IsStaged agent (stage_after Idle (ask.OpenAt d) r) (opens_heard span vs cell rest d (Replied r s0))
  opened_heard span vs cell rest d (reply.At p) = tt
  opened_heard span vs cell rest d (reply.Is w) = tt
  opened_heard span vs cell rest d (reply.Views p ws) = tt
  opened_heard span vs cell rest d reply.Done = tt
  opened_heard span vs cell rest d (reply.Retry f) = tt
  opened_heard span vs cell rest d (reply.Changed f) = tt
  opened_heard span vs cell rest d (reply.AgentIsFailed g) = tt
  opened_heard span vs cell rest d (reply.Action n y w) = tt
  opened_heard span vs cell rest d reply.Idle = tt
  opened_heard span vs cell rest d (reply.Opened p w) =
      (refl, stands agent (stages.Swapping d p) (record (ahead (push_all vs (w ∷ cell ∷ rest)) s0 c) { doing = Swapping (record { cell = d; at = p }) (saved span c) }) refl)
  opened_heard span vs cell rest d reply.Full = tt
  opened_heard span vs cell rest d reply.Memory = tt

  opens_staged : (span : Span) (vs : List Value) (cell : Value) (rest : List Value) (d : CellId) → StagedFrom agent Idle (on Outside (open_atom d s0) (opens_with span vs cell rest)) (λ q r. on Outside (open_atom d (ans q r)) (opens_with span vs cell rest))
  unfolding open_atom
  opens_staged span vs cell rest d = one_ask Idle (ask.OpenAt d) (opens_heard span vs cell rest d) (λ t. refl) tt (opened_heard span vs cell rest d) tt

  -- `swap!` up to the atom's value
  open_atom_staged : (span : Span) (cell : Value) (vs rest : List Value) (doing : Activity) → c.doing ≡ doing
      → StagedFrom agent (stage_in false doing s0) (opens_atom doing span vs cell rest (in_state s0)) (λ q r. opens_atom doing span vs cell rest (in_state (ans q r)))
  open_atom_staged span cell vs rest Outside e =
      subst (λ i. StagedFrom agent Idle (on i (open_swap false span cell s0) (opens_with span vs cell rest)) (λ q r. on i (open_swap false span cell (ans q r)) (opens_with span vs cell rest))) (sym e)
      (step_staged Outside (cell_of (rule (form.Update update.Swap)) false cell) span open_atom (opens_with span vs cell rest) (λ d. opens_staged span vs cell rest d))
  open_atom_staged span cell vs rest (Restarting left) e = tt
  open_atom_staged span cell vs rest (Running left inner from) e = tt
  open_atom_staged span cell vs rest (Applying left from work values) e = tt
  open_atom_staged span cell vs rest (Swapping swap from) e = tt

  abbrev closes_heard : SwapInHand → Savepoint → Value → List Value → Reception → Turned Configuration
  closes_heard swap from w rest o = on (Swapping swap from) (heard swap_verdict o) (λ verdict s. swap_decided verdict from w rest c s)

  closed_heard : (swap : SwapInHand) (from : Savepoint) (w : Value) (rest : List Value) (r : Reply) → IsStaged agent Idle (closes_heard swap from w rest (Replied r s0))
  closed_heard swap from w rest (reply.At p) = tt
  closed_heard swap from w rest (reply.Is v) = tt
  closed_heard swap from w rest (reply.Views p vs) = tt
  closed_heard swap from w rest reply.Done = (refl, stands agent Idle (record (ahead (w ∷ rest) s0 c) { doing = Outside }) ok.1)
  closed_heard swap from w rest (reply.Retry f) = tt
  closed_heard swap from w rest (reply.Changed f) = (refl, stands agent Idle (back_to from Outside s0) ok.1)
  closed_heard swap from w rest (reply.AgentIsFailed g) = tt
  closed_heard swap from w rest (reply.Action n y v) = tt
  closed_heard swap from w rest reply.Idle = tt
  closed_heard swap from w rest (reply.Opened p v) = tt
  closed_heard swap from w rest reply.Full = tt
  closed_heard swap from w rest reply.Memory = tt

  swap_same : (t : ActorState) (v : Verdict) (from : Savepoint) (w : Value) (rest : List Value) (s : ActorState) → swap_decided v from w rest c s ≡ swap_decided v from w rest (in_state t) s
  swap_same t Landed from w rest s = refl
  swap_same t Outdated from w rest s = refl
  swap_same t Undone from w rest s = refl
  swap_same t Denied from w rest s = refl

  -- the close of a swap
  close_now_staged : (swap : SwapInHand) (from : Savepoint) (w : Value) (rest : List Value) → c.doing ≡ Swapping swap from
      → StagedFrom agent (stages.Swapping swap.cell swap.at) (on c.doing (close_swap swap w s0) (λ v s. swap_decided v from w rest (in_state s0) s)) (λ q r. on c.doing (close_swap swap w (ans q r)) (λ v s. swap_decided v from w rest (in_state (ans q r)) s))
  unfolding close_swap
  close_now_staged swap from w rest e =
      subst (λ i. StagedFrom agent (stages.Swapping swap.cell swap.at) (on i (heard swap_verdict (asks (ask.CloseAt swap.cell (Some swap.at) w) s0)) (λ v s. swap_decided v from w rest (in_state s0) s))
      (λ q r. on i (heard swap_verdict (asks (ask.CloseAt swap.cell (Some swap.at) w) (ans q r))) (λ v s. swap_decided v from w rest (in_state (ans q r)) s))) (sym e)
      (staged_same (stages.Swapping swap.cell swap.at) _ _ _ _
      (on_same (Swapping swap from) (heard swap_verdict (asks (ask.CloseAt swap.cell (Some swap.at) w) s0)) (λ v s. swap_decided v from w rest c s) (λ v s. swap_decided v from w rest (in_state s0) s) (λ v s. swap_same s0 v from w rest s))
      (λ q r. on_same (Swapping swap from) (heard swap_verdict (asks (ask.CloseAt swap.cell (Some swap.at) w) (ans q r))) (λ v s. swap_decided v from w rest c s) (λ v s. swap_decided v from w rest (in_state (ans q r)) s) (λ v s. swap_same (ans q r) v from w rest s))
      (one_ask (stages.Swapping swap.cell swap.at) (ask.CloseAt swap.cell (Some swap.at) w) (closes_heard swap from w rest) (λ t. refl) (refl, refl) (closed_heard swap from w rest) tt))

  -- `alter` and `commute` with what the callee gave
  close_update_staged : (span : Span) (w cell : Value) (rest : List Value) (doing : Activity) → c.doing ≡ doing
      → StagedFrom agent (stage_in false doing s0) (on doing (close_update span cell w s0) (goes_on rest)) (λ q r. on doing (close_update span cell w (ans q r)) (goes_on rest))
  close_update_staged span w cell rest doing e =
      step_staged doing (cell_of (rule (form.Update update.Alter)) true cell) span (close_own c.state.commuting span w) (goes_on rest) (λ d. own d c.state.commuting)
    where
      own : (d : CellId) (o : Option Commute) → StagedFrom agent (stage_in false doing s0) (on doing (close_own o span w d s0) (goes_on rest)) (λ q r. on doing (close_own o span w d (ans q r)) (goes_on rest))
      own d None =
          step_staged doing (set_ref d w c.state.done) span (λ u s1. Continue w (record s1 { done = u })) (goes_on rest)
          (λ u. (refl, stands agent (stage_in false doing s0) (ahead (w ∷ rest) (record s0 { done = u }) c) (ap (λ i. stage_in agent i (record s0 { done = u })) e ∙ same_stage doing (record s0 { done = u }) refl refl ok.1)))
      own d (Some k) =
          let t : ActorState = record s0 { done = commute_ref d k.callee k.args w c.state.done; commuting = None } in
          (refl, stands agent (stage_in false doing s0) (ahead (w ∷ rest) t c) (ap (λ i. stage_in agent i t) e ∙ same_stage doing t refl refl ok.1))

  -- ---- transactions

  abbrev begins_with : ℕ → Span → Unit {0} → ActorState → Turned Configuration
  begins_with left span u s = Unfinished (record (ahead c.stack s c) { doing = Running left 0 (saved span c) })

  abbrev begins_heard : Activity → ℕ → Span → Reception → Turned Configuration
  begins_heard doing left span o = on doing (on_step (heard read_point o) begun) (begins_with left span)

  begun_heard : (doing : Activity) (left : ℕ) (span : Span) (r : Reply) → IsStaged agent (stage_after Idle ask.Begin r) (begins_heard doing left span (Replied r s0))
  begun_heard doing left span (reply.At p) = (refl, stands agent (Open p) _ refl)
  begun_heard doing left span (reply.Is w) = tt
  begun_heard doing left span (reply.Views p ws) = tt
  begun_heard doing left span reply.Done = tt
  begun_heard doing left span (reply.Retry f) = tt
  begun_heard doing left span (reply.Changed f) = tt
  begun_heard doing left span (reply.AgentIsFailed g) = tt
  begun_heard doing left span (reply.Action n y w) = tt
  begun_heard doing left span reply.Idle = tt
  begun_heard doing left span (reply.Opened p w) = tt
  begun_heard doing left span reply.Full = tt
  begun_heard doing left span reply.Memory = tt

  starts_staged : (left : ℕ) (span : Span) → StagedFrom agent Idle (starts left span (in_state s0)) (λ q r. starts left span (in_state (ans q r)))
  unfolding begin
  starts_staged left span = one_ask Idle ask.Begin (begins_heard c.doing left span) (λ t. refl) tt (begun_heard c.doing left span) tt

  begins_staged : (span : Span) (doing : Activity) → c.doing ≡ doing → StagedFrom agent (stage_in false doing s0) (begins doing span (in_state s0)) (λ q r. begins doing span (in_state (ans q r)))
  begins_staged span Outside e = starts_staged _ span
  begins_staged span (Restarting left) e = starts_staged left span
  begins_staged span (Running left inner from) e = (refl, stands agent (Open c.state.at) _ refl)
  begins_staged span (Applying left from work values) e = tt
  begins_staged span (Swapping swap from) e = tt

  decided_same : (t : ActorState) (v : Verdict) (left : ℕ) (from : Savepoint) (s : ActorState) → decided v left from c s ≡ decided v left from (in_state t) s
  decided_same t Landed left from s = refl
  decided_same t Outdated zero from s = refl
  decided_same t Outdated (suc left) from s = refl
  decided_same t Undone left from s = refl
  decided_same t Denied left from s = refl

  abbrev lands_heard : Activity → ℕ → Savepoint → Reception → Turned Configuration
  lands_heard doing left from o = on doing (on_step (heard commit_verdict o) landed) (λ v s. decided v left from c s)

  -- the ask of a commit
  abbrev commit_ask : Writes → Ask
  commit_ask values = ask.Commit c.state.at (set_writes c.state.done) c.state.done.ensures c.state.view values (sends_of_commit (held_in c.state.acting) c.state.done.sends)

  outdated_staged : (left : ℕ) (from : Savepoint) → IsStaged agent (Open c.state.at) (decided Outdated left from c s0)
  outdated_staged zero from = fails_open agent c.state.acting ok.0 (fault_at RetryLimit from.span) c.state.at s0 refl
  outdated_staged (suc left) from = (refl, stands agent (Open c.state.at) (staying (Running left 0 from) s0 c) refl)

  -- a commit that is done: an action holds its sends
  landed_staged : (left : ℕ) (from : Savepoint) → IsStaged agent Idle (decided Landed left from c (holding c.state.done.sends s0))
  landed_staged left from =
      (refl, stands agent Idle (record (ahead c.stack (holding c.state.done.sends s0) c) { doing = Outside }) (held_idle agent c.state.done.sends c.state.acting ok.1))

  tried_heard : (doing : Activity) (left : ℕ) (from : Savepoint) (values : Writes) (r : Reply) → IsStaged agent (stage_after (Open c.state.at) (commit_ask values) r) (lands_heard doing left from (Replied r s0))
  tried_heard doing left from values (reply.At p) = tt
  tried_heard doing left from values (reply.Is w) = tt
  tried_heard doing left from values (reply.Views p ws) = tt
  tried_heard doing left from values reply.Done = landed_staged left from
  tried_heard doing left from values (reply.Retry f) = rerun_staged left from
  tried_heard doing left from values (reply.Changed f) = outdated_staged left from
  tried_heard doing left from values (reply.AgentIsFailed g) = fails_idle agent c.state.acting (fault_at AgentFailed from.span) s0 refl
  tried_heard doing left from values (reply.Action n y w) = tt
  tried_heard doing left from values reply.Idle = tt
  tried_heard doing left from values (reply.Opened p w) = tt
  tried_heard doing left from values reply.Full = tt
  tried_heard doing left from values reply.Memory = tt

  phased_heard : (doing : Activity) (left : ℕ) (from : Savepoint) (values : Writes) (r : Reply) → IsStaged agent (stage_after (Viewing c.state.at c.state.view) (commit_ask values) r) (lands_heard doing left from (Replied r s0))
  phased_heard doing left from values (reply.At p) = tt
  phased_heard doing left from values (reply.Is w) = tt
  phased_heard doing left from values (reply.Views p ws) = tt
  phased_heard doing left from values reply.Done = landed_staged left from
  phased_heard doing left from values (reply.Retry f) = rerun_staged left from
  phased_heard doing left from values (reply.Changed f) = outdated_staged left from
  phased_heard doing left from values (reply.AgentIsFailed g) = fails_idle agent c.state.acting (fault_at AgentFailed from.span) s0 refl
  phased_heard doing left from values (reply.Action n y w) = tt
  phased_heard doing left from values reply.Idle = tt
  phased_heard doing left from values (reply.Opened p w) = tt
  phased_heard doing left from values reply.Full = tt
  phased_heard doing left from values reply.Memory = tt

  -- a commit in a stage that it comes in
  lands_staged : (left : ℕ) (from : Savepoint) (values : Writes) (st : Stage) → AsksIn agent st (commit_ask values)
      → ((r : Reply) → IsStaged agent (stage_after st (commit_ask values) r) (lands_heard c.doing left from (Replied r s0)))
      → StagedFrom agent st (lands left from values (in_state s0)) (λ q r. lands left from values (in_state (ans q r)))
  unfolding commit
  lands_staged left from values st ok h =
      staged_same st _ _ _ _
      (on_same c.doing (on_step (heard commit_verdict (asks (commit_ask values) s0)) landed) (λ v s. decided v left from c s) (λ v s. decided v left from (in_state s0) s) (λ v s. decided_same s0 v left from s))
      (λ q r. on_same c.doing (on_step (heard commit_verdict (asks (commit_ask values) (ans q r))) landed) (λ v s. decided v left from c s) (λ v s. decided v left from (in_state (ans q r)) s) (λ v s. decided_same (ans q r) v left from s))
      (one_ask st (commit_ask values) (lands_heard c.doing left from) (λ t. refl) ok h tt)

  abbrev settles_with : ThreadCode → ℕ → Savepoint → Writes → ActorState → Turned Configuration
  settles_with code left from values s = Unfinished (staying (Applying left from (tasks_of code.validators s.done) values) s c)

  abbrev settles_heard : ThreadCode → List CellId → ℕ → Savepoint → Reception → Turned Configuration
  settles_heard code cs left from o = on c.doing (on_step (heard views o) (λ x s1. viewed x.0 (paired cs x.1) s1)) (settles_with code left from)

  paired_staged : (code : ThreadCode) (left : ℕ) (from : Savepoint) (q : ℕ) (d : CellId) (cs : List CellId) (ws : List Value) → IsStaged agent (Viewing c.state.at q) (on c.doing (viewed q (paired (d ∷ cs) ws) s0) (settles_with code left from))
  paired_staged code left from q d cs [] = tt
  paired_staged code left from q d cs (w ∷ ws) = by (paired cs ws)
    where
      by : (o : Option Writes) → IsStaged agent (Viewing c.state.at q) (on c.doing (viewed q (with_first d w o) s0) (settles_with code left from))
      by None = tt
      by (Some xs) = (refl, stands agent (Viewing c.state.at q) _ (viewing_end (redoes_some (tasks_of code.validators c.state.done)) (d, w) xs (record s0 { view = q })))

  settled_heard : (code : ThreadCode) (d : CellId) (cs : List CellId) (left : ℕ) (from : Savepoint) (r : Reply) → IsStaged agent (stage_after (Open c.state.at) (ask.View (d ∷ cs)) r) (settles_heard code (d ∷ cs) left from (Replied r s0))
  settled_heard code d cs left from (reply.At p) = tt
  settled_heard code d cs left from (reply.Is w) = tt
  settled_heard code d cs left from (reply.Views p ws) = paired_staged code left from p d cs ws
  settled_heard code d cs left from reply.Done = tt
  settled_heard code d cs left from (reply.Retry f) = tt
  settled_heard code d cs left from (reply.Changed f) = tt
  settled_heard code d cs left from (reply.AgentIsFailed g) = tt
  settled_heard code d cs left from (reply.Action n y w) = tt
  settled_heard code d cs left from reply.Idle = tt
  settled_heard code d cs left from (reply.Opened p w) = tt
  settled_heard code d cs left from reply.Full = tt
  settled_heard code d cs left from reply.Memory = tt

  views_staged : (code : ThreadCode) (d : CellId) (cs : List CellId) → commuted c.state.done ≡ d ∷ cs → (left : ℕ) (from : Savepoint) → StagedFrom agent (Open c.state.at) (on c.doing (view s0) (settles_with code left from)) (λ q r. on c.doing (view (ans q r)) (settles_with code left from))
  unfolding view
  views_staged code d cs e left from =
      one_ask (Open c.state.at) (ask.View (commuted c.state.done)) (settles_heard code (commuted c.state.done) left from) (λ t. refl) tt
      (λ r. subst (λ l. IsStaged agent (stage_after (Open c.state.at) (ask.View l) r) (settles_heard code l left from (Replied r s0))) (sym e) (settled_heard code d cs left from r)) tt

  -- one commute of the phase
  applies_staged : (code : ThreadCode) (f : Callee) (left : ℕ) (from : Savepoint) (k : Commute) (work : List Task) (values : Writes) → c.doing ≡ Applying left from (Redoes k ∷ work) values
      → StagedFrom agent (Viewing c.state.at c.state.view) (applies code f left from k work values (in_state s0)) (λ q r. applies code f left from k work values (in_state (ans q r)))
  applies_staged code (callee.Core op) left from k work values e =
      subst (λ i. StagedFrom agent (Viewing c.state.at c.state.view) (on i (step_of (core op (arguments_of k values)) from.span s0) (λ v s. Unfinished (staying (Applying left from work (with_write values k.cell v)) s c)))
      (λ q r. on i (step_of (core op (arguments_of k values)) from.span (ans q r)) (λ v s. Unfinished (staying (Applying left from work (with_write values k.cell v)) s c)))) (sym e)
      (result_staged (Applying left from (Redoes k ∷ work) values) (core op (arguments_of k values)) from.span (λ v s. Unfinished (staying (Applying left from work (with_write values k.cell v)) s c)) (λ v. (refl, stands agent (Viewing c.state.at c.state.view) _ (written_end (redoes_some work) values k.cell v))))
  applies_staged code (callee.Function f) left from k work values e = (refl, stands agent (Viewing c.state.at c.state.view) _ (ap (λ i. stage_in agent i s0) e))

  -- the commit, once no task is left
  end_lands : (left : ℕ) (from : Savepoint) (values : Writes) → StagedFrom agent (stage_at_end false values s0) (lands left from values (in_state s0)) (λ q r. lands left from values (in_state (ans q r)))
  end_lands left from [] = lands_staged left from [] (Open c.state.at) (refl, refl, none_sent agent c.state.acting c.state.done.sends ok.1) (tried_heard c.doing left from [])
  end_lands left from (w ∷ ws) = lands_staged left from (w ∷ ws) (Viewing c.state.at c.state.view) (refl, refl, none_sent agent c.state.acting c.state.done.sends ok.1) (phased_heard c.doing left from (w ∷ ws))

  -- ---- instructions

  stage_returned : (awaits : Destination) (v : Value) (doing : Activity) → stage_in agent (doing_after awaits v doing) (state_after awaits v s0) ≡ stage_in false doing s0
  stage_returned to_stack v doing = all_stage doing s0 ok.1
  stage_returned to_commutes v Outside = ok.1
  stage_returned to_commutes v (Restarting left) = refl
  stage_returned to_commutes v (Running left inner from) = refl
  stage_returned to_commutes v (Applying left from [] values) = refl
  stage_returned to_commutes v (Applying left from (Redoes k ∷ work) values) = written_end (redoes_some work) values k.cell v
  stage_returned to_commutes v (Applying left from (Validates x f ∷ work) values) = refl
  stage_returned to_commutes v (Swapping swap from) = refl
  stage_returned to_validation v doing = same_stage doing (answered v s0) refl refl ok.1

  none_back : (awaits : Destination) (v : Value) → (state_after awaits v s0).todo ≡ []
  none_back to_stack v = refl
  none_back to_commutes v = refl
  none_back to_validation v = refl

  returns_staged : (frames : List Frame) (v : Value) → StagedFrom agent (stage_in false c.doing s0) (returns_to frames v (in_state s0)) (λ q r. returns_to frames v (in_state (ans q r)))
  returns_staged [] v = tt
  returns_staged (f ∷ frames) v = (none_back f.awaits v, stands agent (stage_in false c.doing s0) _ (stage_returned f.awaits v c.doing))

  found_staged : (o : Option Value) → StagedFrom agent (stage_in false c.doing s0) (on c.doing (found o s0) (goes_on c.stack)) (λ q r. on c.doing (found o (ans q r)) (goes_on c.stack))
  found_staged None = tt
  found_staged (Some v) = (refl, on_here (ahead (v ∷ c.stack) s0 c) refl)

  print_staged : (inside : Bool) (vs rest : List Value) → StagedFrom agent (stage_in false c.doing s0) (on c.doing (print inside vs s0) (goes_on rest)) (λ q r. on c.doing (print inside vs (ans q r)) (goes_on rest))
  unfolding print
  print_staged true vs rest = tt
  print_staged false vs rest = (refl, stands agent (stage_in false c.doing s0) _ (same_stage c.doing (record s0 { printed = c.state.printed ++ printed_line vs }) refl refl ok.1))

  opens_any : (f : OpenForm) (n : ℕ) (span : Span) → MayStandIn agent c.doing (OpenOf f n span) → (vs : List Value) (cell : Value) (rest : List Value)
      → StagedFrom agent (stage_in false c.doing s0) (opens f span vs cell rest (in_state s0)) (λ q r. opens f span vs cell rest (in_state (ans q r)))
  opens_any open_form.Alter n span may vs cell rest = open_ref_staged Alters span cell vs rest c.doing refl (any_open c.doing may)
    where
      any_open : (doing : Activity) → MayStandIn agent doing (OpenOf open_form.Alter n span) → MayStandIn agent doing (OpenOf open_form.Alter 0 span)
      any_open Outside h = h
      any_open (Restarting left) h = h
      any_open (Running left inner from) h = h
      any_open (Applying left from work values) h = h
      any_open (Swapping swap from) h = h
  opens_any (open_form.Commute k) n span may vs cell rest = open_ref_staged (Commutes k) span cell vs rest c.doing refl (any_open c.doing may)
    where
      any_open : (doing : Activity) → MayStandIn agent doing (OpenOf (open_form.Commute k) n span) → MayStandIn agent doing (OpenOf open_form.Alter 0 span)
      any_open Outside h = h
      any_open (Restarting left) h = h
      any_open (Running left inner from) h = h
      any_open (Applying left from work values) h = h
      any_open (Swapping swap from) h = h
  opens_any (open_form.Swap k) n span may vs cell rest = open_atom_staged span cell vs rest c.doing refl

-- ---- validators

module _ (agent : Bool) (code : ThreadCode) where
  -- a configuration with no exchange left, and one with this answer
  abbrev none_left : Configuration → Configuration
  none_left c = record c { state = record c.state { todo = [] } }

  abbrev one_left : Configuration → Ask → Reply → Configuration
  one_left c q r = record c { state = record c.state { todo = exchange q r ∷ [] } }

  abbrev FromStage : Stage → Configuration → (Configuration → Turned Configuration) → Type 0
  FromStage st c go = StagedFrom agent st (go (none_left c)) (λ q r. go (one_left c q r))

  abbrev here : Configuration → Stage
  here c = stage_in false c.doing (record c.state { todo = [] })

  abbrev cleared : Configuration → Option Bool → Configuration
  cleared c o = record c { state = record c.state { accepted = o } }

  -- an answer that was looked at leaves the stage
  clear_stage : (doing : Activity) (c : Configuration) → stage_in false doing (record c.state { todo = []; accepted = None }) ≡ stage_in false doing (record c.state { todo = [] })
  clear_stage Outside c = refl
  clear_stage (Restarting left) c = refl
  clear_stage (Running left inner from) c = refl
  clear_stage (Applying left from work values) c = clear_end (redoes_some work) values
    where
      clear_end : (b : Bool) (ws : Writes) → stage_at_end b ws (record c.state { todo = []; accepted = None }) ≡ stage_at_end b ws (record c.state { todo = [] })
      clear_end true ws = refl
      clear_end false [] = refl
      clear_end false (w ∷ ws) = refl
  clear_stage (Swapping swap from) c = refl

  validates_staged : (c : Configuration) → Fits agent c.state.acting → (f : Callee) (v : Value) (span : Span) → FromStage (here c) c (validates code f v span)
  validates_staged c ok (callee.Core op) v span =
      result_staged agent c ok c.doing (core op (v ∷ [])) span (λ answer s. Unfinished (record c { state = answered answer s })) (λ answer. (refl, stands agent (here c) _ (same_stage agent c ok c.doing (answered answer (record c.state { todo = [] })) refl refl ok.1)))
  validates_staged c ok (callee.Function f) v span = (refl, on_here agent c ok _ refl)

  -- what goes on is staged, once the answer is looked at
  accepted_staged : (o : Option Bool) (f : Callee) (v : Value) (span : Span) (c : Configuration) → Fits agent c.state.acting → (go : Configuration → Turned Configuration) → FromStage (here c) (cleared c None) go → FromStage (here c) c (λ d. where_accepted code o f v span d go)
  accepted_staged None f v span c ok go h = validates_staged c ok f v span
  accepted_staged (Some true) f v span c ok go h = h
  accepted_staged (Some false) f v span c ok go h =
      subst (λ st. StagedFrom agent st (raise c.doing (fault_at InvalidState span) (record c.state { todo = []; accepted = None })) (λ q r. raise c.doing (fault_at InvalidState span) (record c.state { todo = exchange q r ∷ []; accepted = None })))
      (clear_stage c.doing c) (raise_staged agent (cleared c None) ok c.doing (fault_at InvalidState span))

  valid_staged : (o : Option Callee) (v : Value) (span : Span) (c : Configuration) → Fits agent c.state.acting → (go : Configuration → Turned Configuration) → FromStage (here c) c go → FromStage (here c) (cleared c None) go → FromStage (here c) c (λ d. where_valid code o v span d go)
  valid_staged None v span c ok go h k = h
  valid_staged (Some f) v span c ok go h k = accepted_staged c.state.accepted f v span c ok go k

  works_staged : (left : ℕ) (from : Savepoint) (work : List Task) (values : Writes) (c : Configuration) → Fits agent c.state.acting → c.doing ≡ Applying left from work values → FromStage (stage_at_end (redoes_some work) values (record c.state { todo = [] })) c (works code left from work values)
  works_staged left from [] values c ok e = end_lands agent c ok left from values
  works_staged left from (Redoes k ∷ work) values c ok e = applies_staged agent c ok code k.callee left from k work values e
  works_staged left from (Validates x f ∷ work) values c ok e =
      let d : Configuration = staying (Applying left from (Validates x f ∷ work) values) c.state c in
      accepted_staged c.state.accepted f (to_write values c.state.done x.number) from.span d ok (λ c1. works code left from work values (staying (Applying left from work values) c1.state c1))
      (subst (λ st. FromStage st (cleared d None) (λ c1. works code left from work values (staying (Applying left from work values) c1.state c1))) (same_end agent c ok (redoes_some work) values (record c.state { todo = []; accepted = None }) refl refl)
      (works_staged left from work values (staying (Applying left from work values) (record c.state { accepted = None }) c) ok refl))

  plain_staged : (left : ℕ) (from : Savepoint) (work : List Task) (c : Configuration) → Fits agent c.state.acting → redoes_some work ≡ false → FromStage (Open c.state.at) c (works code left from work [])
  plain_staged left from [] c ok e = end_lands agent c ok left from []
  plain_staged left from (Redoes k ∷ work) c ok e = absurd (false≢true (sym e))
  plain_staged left from (Validates x f ∷ work) c ok e =
      subst (λ b. FromStage (stage_at_end b [] (record c.state { todo = [] })) c (works code left from (Validates x f ∷ work) [])) e
      (works_staged left from (Validates x f ∷ work) [] (staying (Applying left from (Validates x f ∷ work) []) c.state c) ok refl)

  settles_staged : (cs : List CellId) (left : ℕ) (from : Savepoint) (c : Configuration) → Fits agent c.state.acting → commuted c.state.done ≡ cs → FromStage (Open c.state.at) c (settles code cs left from)
  settles_staged [] left from c ok e =
      let w = c.state.done in
      plain_staged left from (tasks_of code.validators w) c ok (tasks_redo_none code.validators w e)
  settles_staged (d ∷ cs) left from c ok e = views_staged agent c ok code d cs e left from

  ends_staged : (doing : Activity) (c : Configuration) → Fits agent c.state.acting → c.doing ≡ doing → FromStage (stage_in false doing (record c.state { todo = [] })) c (ends code doing)
  ends_staged Outside c ok e = tt
  ends_staged (Restarting left) c ok e = tt
  ends_staged (Running left (suc inner) from) c ok e = (refl, stands agent (Open c.state.at) _ refl)
  ends_staged (Running left zero from) c ok e = settles_staged (commuted c.state.done) left from c ok refl
  ends_staged (Applying left from work values) c ok e = works_staged left from work values c ok e
  ends_staged (Swapping swap from) c ok e = tt

  -- the same stage once the answer was looked at
  cleared_stage : (c : Configuration) → Fits agent c.state.acting → (go : Configuration → Turned Configuration) → FromStage (here (cleared c None)) (cleared c None) go → FromStage (here c) (cleared c None) go
  cleared_stage c ok go h = subst (λ st. FromStage st (cleared c None) go) (clear_stage c.doing c) h

  closes_swap_staged : (doing : Activity) (w : Value) (rest : List Value) (c : Configuration) → Fits agent c.state.acting → c.doing ≡ doing → FromStage (stage_in false doing (record c.state { todo = [] })) c (closes_swap code doing w rest)
  closes_swap_staged (Swapping swap from) w rest c ok e =
      let go : Configuration → Turned Configuration = λ c1. on c1.doing (close_swap swap w c1.state) (λ verdict s. swap_decided verdict from w rest c1 s) in
      let there : here c ≡ stages.Swapping swap.cell swap.at = ap (λ i. stage_in false i (record c.state { todo = [] })) e in
      subst (λ st. FromStage st c (λ d. where_valid code (validator_at code.validators swap.cell.number) w from.span d go)) there
      (valid_staged (validator_at code.validators swap.cell.number) w from.span c ok go
      (subst (λ st. FromStage st c go) (sym there) (close_now_staged agent c ok swap from w rest e))
      (subst (λ st. FromStage st (cleared c None) go) (sym there) (close_now_staged agent (cleared c None) ok swap from w rest e)))
  closes_swap_staged Outside w rest c ok e = tt
  closes_swap_staged (Restarting left) w rest c ok e = tt
  closes_swap_staged (Running left inner from) w rest c ok e = tt
  closes_swap_staged (Applying left from work values) w rest c ok e = tt

  closes_any : (f : UpdateForm) (span : Span) (w cell : Value) (rest : List Value) (c : Configuration) → Fits agent c.state.acting → FromStage (here c) c (closes code f span w cell rest)
  closes_any update.Alter span w cell rest c ok = close_update_staged agent c ok span w cell rest c.doing refl
  closes_any update.Commute span w cell rest c ok = close_update_staged agent c ok span w cell rest c.doing refl
  closes_any update.Swap span w cell rest c ok = closes_swap_staged c.doing w rest c ok refl

  -- `reset!`, once the atom's validator has accepted the value
  reset_any : (span : Span) (w : Value) (rest : List Value) (a : CellId) (c : Configuration) (ok : Fits agent c.state.acting) (doing : Activity) → c.doing ≡ doing → MayStandIn agent doing (PutOf Reset span)
      → StagedFrom agent (stage_in false doing (record c.state { todo = [] })) (on doing (assign_cell Reset (is_inside doing) span w a (record c.state { todo = [] })) (goes_on agent c ok rest)) (λ q r. on doing (assign_cell Reset (is_inside doing) span w a (record c.state { todo = exchange q r ∷ [] })) (goes_on agent c ok rest))
  reset_any span w rest a c ok Outside e may = reset_staged agent c ok Outside (ap (λ i. stage_in agent i (record c.state { todo = [] })) e ∙ ok.1) a w rest
  reset_any span w rest a c ok (Restarting left) e may = reset_staged agent c ok (Restarting left) (ap (λ i. stage_in agent i (record c.state { todo = [] })) e) a w rest
  reset_any span w rest a c ok (Running left inner from) e may = tt
  reset_any span w rest a c ok (Applying left from work values) e may = absurd may
  reset_any span w rest a c ok (Swapping swap from) e may = absurd may

  puts_staged : (f : PutForm) (span : Span) (w cell : Value) (rest : List Value) (c : Configuration) → Fits agent c.state.acting → MayStandIn agent c.doing (PutOf f span) → FromStage (here c) c (puts code f span w cell rest)
  puts_staged RefSet span w cell rest c ok may = assign_staged agent c ok RefSet span cell w rest c.doing refl may
  puts_staged Reset span w cell rest c ok may = by (cell_of (rule (form.Put Reset)) (is_inside c.doing) cell)
    where
      go : CellId → Configuration → Turned Configuration
      go a c1 = gives c1 rest (assign_cell Reset (is_inside c.doing) span w a c1.state)

      by : (x : Result CellId FaultKind) → StagedFrom agent (here c) (on c.doing (step_of x span (none_left c).state) (λ a s. where_valid code (validator_at code.validators a.number) w span (none_left c) (go a)))
          (λ q r. on c.doing (step_of x span (one_left c q r).state) (λ a s. where_valid code (validator_at code.validators a.number) w span (one_left c q r) (go a)))
      by (Ok a) =
          valid_staged (validator_at code.validators a.number) w span c ok (go a) (reset_any span w rest a c ok c.doing refl may)
          (cleared_stage c ok (go a) (reset_any span w rest a (cleared c None) ok c.doing refl may))
      by (Err k) = raise_staged agent c ok c.doing (fault_at k span)

-- ---- an agent's action

-- a new state that is handed in
abbrev hands_state : CellId → Value → List Action → Configuration → Turned Configuration
hands_state g v sends c1 = told (finish g (Ok v) sends c1.state) (λ s. Unfinished (first_place [] (rested s)))

module _ (agent : Bool) (c : Configuration) (ok : Fits agent c.state.acting) where
  hands_value : (g : CellId) (v : Value) (sends : List Action) (st : Stage) → AsksIn agent st (ask.Finish g (Ok v) sends) → agent ≡ true → ((r : Reply) → stage_after st (ask.Finish g (Ok v) sends) r ≡ Resting)
      → StagedFrom agent st (hands_state g v sends (record c { state = record c.state { todo = [] } })) (λ q r. hands_state g v sends (record c { state = record c.state { todo = exchange q r ∷ [] } }))
  unfolding finish
  hands_value g v sends st may acts rests =
      one_ask agent c ok st (ask.Finish g (Ok v) sends) (λ o. told (heard taken_back o) (λ s. Unfinished (first_place [] (rested s)))) (λ t. refl) may heard_so over_so
    where
      none : ActorState
      none = record c.state { todo = [] }

      rested_so : (r : Reply) → is_over r ≡ true → IsRested (record none { wants = Some (ask.Finish g (Ok v) sends) }) (told (heard taken_back (Replied r none)) (λ s. Unfinished (first_place [] (rested s))))
      rested_so (reply.At p) over = absurd (false≢true over)
      rested_so (reply.Is w) over = absurd (false≢true over)
      rested_so (reply.Views p vs) over = absurd (false≢true over)
      rested_so reply.Done over = (rested none, refl, (refl, refl), refl, refl)
      rested_so (reply.Retry d) over = absurd (false≢true over)
      rested_so (reply.Changed d) over = absurd (false≢true over)
      rested_so (reply.AgentIsFailed h) over = (rested none, refl, (refl, refl), refl, refl)
      rested_so (reply.Action n x w) over = absurd (false≢true over)
      rested_so reply.Idle over = absurd (false≢true over)
      rested_so (reply.Opened p w) over = absurd (false≢true over)
      rested_so reply.Full over = absurd (false≢true over)
      rested_so reply.Memory over = absurd (false≢true over)

      over_so : (r : Reply) → is_over r ≡ true → IsRested (record none { wants = Some (ask.Finish g (Ok v) sends) }) (told (heard taken_back (asks (ask.Finish g (Ok v) sends) (record c.state { todo = exchange (ask.Finish g (Ok v) sends) r ∷ [] }))) (λ s. Unfinished (first_place [] (rested s))))
      over_so r over = subst (λ o. IsRested (record none { wants = Some (ask.Finish g (Ok v) sends) }) (told (heard taken_back o) (λ s. Unfinished (first_place [] (rested s))))) (sym (asks_then agent c ok (ask.Finish g (Ok v) sends) r)) (rested_so r over)

      at_rest : (st1 : Stage) → st1 ≡ Resting → StandsIn agent st1 (first_place [] (rested none))
      at_rest st1 e = stands agent st1 (first_place [] (rested none)) (ap (λ b. outside_stage b None) acts ∙ sym e)

      heard_so : (r : Reply) → IsStaged agent (stage_after st (ask.Finish g (Ok v) sends) r) (told (heard taken_back (Replied r none)) (λ s. Unfinished (first_place [] (rested s))))
      heard_so (reply.At p) = tt
      heard_so (reply.Is w) = tt
      heard_so (reply.Views p vs) = tt
      heard_so reply.Done = (refl, at_rest (stage_after st (ask.Finish g (Ok v) sends) reply.Done) (rests reply.Done))
      heard_so (reply.Retry d) = tt
      heard_so (reply.Changed d) = tt
      heard_so (reply.AgentIsFailed h) = (refl, at_rest (stage_after st (ask.Finish g (Ok v) sends) (reply.AgentIsFailed h)) (rests (reply.AgentIsFailed h)))
      heard_so (reply.Action n x w) = tt
      heard_so reply.Idle = tt
      heard_so (reply.Opened p w) = tt
      heard_so reply.Full = tt
      heard_so reply.Memory = tt

-- whether an instruction takes an action
abbrev IsTake : Option PlainInstr → Bool
IsTake (Some (TakeOf g)) = true
IsTake _ = false

module _ (agent : Bool) (c : Configuration) (ok : Fits agent c.state.acting) (code : ThreadCode) where
  abbrev st0 : Stage
  st0 = stage_in false c.doing (record c.state { todo = [] })

  abbrev answer_of : Ask → Reply → ActorState
  answer_of q r = record c.state { todo = exchange q r ∷ [] }

  abbrev put_state : ActorState → Configuration
  put_state s = record c { state = s }

  abbrev next_on : List Value → Value → ActorState → Turned Configuration
  next_on rest v s = Unfinished (ahead (v ∷ rest) s c)

  finish_here : (g : CellId) → MayStandIn agent c.doing (FinishOf g)
      → StagedFrom agent st0 (act code (Some (FinishOf g)) (put_state (record c.state { todo = [] }))) (λ q r. act code (Some (FinishOf g)) (put_state (answer_of q r)))
  finish_here g may = hands c.state.acting (fault_in c.state.acting)
    where
      acts_of : (b : Bool) (d : Activity) → MayStandIn b d (FinishOf g) → b ≡ true
      acts_of true d h = refl
      acts_of false d h = absurd h

      acts : agent ≡ true
      acts = acts_of agent c.doing may

      asks_here : (b : Bool) (d : Activity) (s : ActorState) → MayStandIn b d (FinishOf g) → (new : Result Value Fault) (sends : List Action) → AsksIn b (stage_in false d s) (ask.Finish g new sends)
      asks_here true Outside s h new sends = refl
      asks_here true (Restarting left) s h new sends = refl
      asks_here true (Running left inner from) s h new sends = refl
      asks_here true (Applying left from work values) s h new sends = absurd h
      asks_here true (Swapping swap from) s h new sends = absurd h
      asks_here false d s h new sends = absurd h

      rests_here : (b : Bool) (d : Activity) (s : ActorState) → MayStandIn b d (FinishOf g) → (new : Result Value Fault) (sends : List Action) (r : Reply) → stage_after (stage_in false d s) (ask.Finish g new sends) r ≡ Resting
      rests_here true Outside s h new sends r = refl
      rests_here true (Restarting left) s h new sends r = refl
      rests_here true (Running left inner from) s h new sends r = refl
      rests_here true (Applying left from work values) s h new sends r = absurd h
      rests_here true (Swapping swap from) s h new sends r = absurd h
      rests_here false d s h new sends r = absurd h

      hands : (o : Option InHand) (k : Option Fault) → StagedFrom agent st0 (hands_in code g o k (put_state (record c.state { todo = [] }))) (λ q r. hands_in code g o k (put_state (answer_of q r)))
      hands o (Some f) = hands_fault agent c ok g f st0 (asks_here agent c.doing (record c.state { todo = [] }) may (Err f) []) acts (rests_here agent c.doing (record c.state { todo = [] }) may (Err f) [])
      hands None None = top_staged agent c ok st0 c.stack _ (λ v rest q r. Stuck) (λ v rest. tt)
      hands (Some h) None =
          top_staged agent c ok st0 c.stack _ (λ v rest q r. finishes code g (Some h) v (put_state (answer_of q r)))
          (λ v rest. valid_staged agent code (validator_at code.validators h.action.agent.number) v h.action.span c ok (hands_state g v h.sends)
          (hands_value agent c ok g v h.sends st0 (asks_here agent c.doing (record c.state { todo = [] }) may (Ok v) h.sends) acts (rests_here agent c.doing (record c.state { todo = [] }) may (Ok v) h.sends))
          (hands_value agent (cleared agent code c None) ok g v h.sends st0 (asks_here agent c.doing (record c.state { todo = [] }) may (Ok v) h.sends) acts (rests_here agent c.doing (record c.state { todo = [] }) may (Ok v) h.sends)))

  acts_staged : (i : Option PlainInstr) → IsTake i ≡ false → MayStandHere agent c.doing i → StagedFrom agent st0 (act code i (put_state (record c.state { todo = [] }))) (λ q r. act code i (put_state (answer_of q r)))
  acts_staged None isnt may = tt
  acts_staged (Some (Push v)) isnt may = (refl, on_here agent c ok _ refl)
  acts_staged (Some (Load i)) isnt may = found_staged agent c ok (nth c.locals i)
  acts_staged (Some (Store i)) isnt may = top_staged agent c ok st0 c.stack _ (λ v rest q r. Unfinished (record (ahead rest (answer_of q r) c) { locals = put c.locals i v })) (λ v rest. (refl, on_here agent c ok _ refl))
  acts_staged (Some Pop) isnt may = top_staged agent c ok st0 c.stack _ (λ v rest q r. Unfinished (ahead rest (answer_of q r) c)) (λ v rest. (refl, on_here agent c ok _ refl))
  acts_staged (Some (Jump to)) isnt may = (refl, on_here agent c ok _ refl)
  acts_staged (Some (JumpFalse to)) isnt may = top_staged agent c ok st0 c.stack _ (λ v rest q r. Unfinished (record (put_state (answer_of q r)) { place = choose v (c.place + 1) to; stack = rest })) (λ v rest. (refl, on_here agent c ok _ refl))
  acts_staged (Some (CoreOf op n span)) isnt may =
      args_staged agent c ok st0 n c.stack [] _ (λ vs rest q r. on c.doing (step_of (core op vs) span (answer_of q r)) (next_on rest)) (λ vs rest. result_staged agent c ok c.doing (core op vs) span (next_on rest) (λ v. (refl, on_here agent c ok _ refl)))
  acts_staged (Some (CallOf f n)) isnt may =
      args_staged agent c ok st0 n c.stack [] _ (λ vs rest q r. Unfinished (called code f vs to_stack (c.place + 1) rest (put_state (answer_of q r)))) (λ vs rest. (refl, on_here agent c ok _ refl))
  acts_staged (Some Return) isnt may = top_staged agent c ok st0 c.stack _ (λ v rest q r. returns_to c.frames v (put_state (answer_of q r))) (λ v rest. returns_staged agent c ok c.frames v)
  acts_staged (Some (MakeVector n span)) isnt may =
      args_staged agent c ok st0 n c.stack [] _ (λ vs rest q r. on c.doing (step_of (vector_of vs) span (answer_of q r)) (next_on rest)) (λ vs rest. result_staged agent c ok c.doing (vector_of vs) span (next_on rest) (λ v. (refl, on_here agent c ok _ refl)))
  acts_staged (Some (PrintOf n)) isnt may =
      args_staged agent c ok st0 n c.stack [] _ (λ vs rest q r. on c.doing (print (is_inside c.doing) vs (answer_of q r)) (next_on rest)) (λ vs rest. print_staged agent c ok (is_inside c.doing) vs rest)
  acts_staged (Some (TxBegin span)) isnt may = begins_staged agent c ok span c.doing refl
  acts_staged (Some TxEnd) isnt may = ends_staged agent code c.doing c ok refl
  acts_staged (Some (LookOf f span)) isnt may =
      top_staged agent c ok st0 c.stack _ (λ cell rest q r. on c.doing (read f (is_inside c.doing) span cell (answer_of q r)) (next_on rest)) (λ cell rest. read_staged agent c ok f span cell rest c.doing refl may)
  acts_staged (Some (PutOf f span)) isnt may =
      two_staged agent c ok st0 c.stack _ (λ w cell rest q r. puts code f span w cell rest (put_state (answer_of q r))) (λ w cell rest. puts_staged agent code f span w cell rest c ok may)
  acts_staged (Some (OpenOf f n span)) isnt may =
      args_of_staged agent c ok st0 n c.stack _ (λ vs cell rest q r. opens f span vs cell rest (put_state (answer_of q r))) (λ vs cell rest. opens_any agent c ok f n span may vs cell rest)
  acts_staged (Some (CloseOf f span)) isnt may =
      two_staged agent c ok st0 c.stack _ (λ w cell rest q r. closes code f span w cell rest (put_state (answer_of q r))) (λ w cell rest. closes_any agent code f span w cell rest c ok)
  acts_staged (Some (SendOf f n span)) isnt may =
      args_of_staged agent c ok st0 n c.stack _ (λ vs cell rest q r. on c.doing (send_to (is_inside c.doing) span cell f vs (answer_of q r)) (next_on rest)) (λ vs cell rest. send_to_staged agent c ok f n span cell vs rest c.doing refl may)
  acts_staged (Some Halt) isnt may = refl
  acts_staged (Some (TakeOf g)) isnt may = absurd (false≢true (sym isnt))
  acts_staged (Some RunOf) isnt may = top_staged agent c ok st0 c.stack _ (λ v rest q r. runs code c.state.acting v rest (put_state (answer_of q r))) (λ v rest. ran c.state.acting v rest)
    where
      ran : (o : Option InHand) (v : Value) (rest : List Value) → StagedFrom agent st0 (runs code o v rest (put_state (record c.state { todo = [] }))) (λ q r. runs code o v rest (put_state (answer_of q r)))
      ran None v rest = tt
      ran (Some h) v rest = runs_so h.action.callee
        where
          runs_so : (f : Callee) → StagedFrom agent st0 (runs_callee code f h.action v rest (put_state (record c.state { todo = [] }))) (λ q r. runs_callee code f h.action v rest (put_state (answer_of q r)))
          runs_so (callee.Core op) = result_staged agent c ok c.doing (core op (v ∷ h.action.args)) h.action.span (next_on rest) (λ w. (refl, on_here agent c ok _ refl))
          runs_so (callee.Function f) = (refl, on_here agent c ok _ refl)
  acts_staged (Some (FinishOf g)) isnt may = finish_here g may

-- an agent that runs no action takes one
takes_staged : (c : Configuration) (g : CellId) → c.state.acting ≡ None → c.doing ≡ Outside
    → StagedFrom true Resting (on c.doing (take_action g (record c.state { todo = [] })) (λ o s. started g o (record c { state = record c.state { todo = [] } }) s)) (λ q r. on c.doing (take_action g (record c.state { todo = exchange q r ∷ [] })) (λ o s. started g o (record c { state = record c.state { todo = exchange q r ∷ [] } }) s))
unfolding take_action asks
takes_staged c g none out = (ask.Take g, refl, refl, heard_so, tt)
  where
    t0 : ActorState
    t0 = record c.state { todo = [] }

    then_takes : Reply → Reception → Turned Configuration
    then_takes r o = on c.doing (heard handed_out o) (λ o s. started g o (record c { state = record c.state { todo = exchange (ask.Take g) r ∷ [] } }) s)

    rests : (d : Configuration) → d.doing ≡ c.doing → d.state.acting ≡ c.state.acting → stage_of true d ≡ Resting
    rests d e f = ap (λ i. stage_in true i d.state) (e ∙ out) ∙ ap (outside_stage true) (f ∙ none)

    replied_so : (r : Reply) → IsStaged true (stage_after Resting (ask.Take g) r) (then_takes r (Replied r t0))
    replied_so (reply.At p) = tt
    replied_so (reply.Is w) = tt
    replied_so (reply.Views p vs) = tt
    replied_so reply.Done = tt
    replied_so (reply.Retry d) = tt
    replied_so (reply.Changed d) = tt
    replied_so (reply.AgentIsFailed h) = tt
    replied_so (reply.Action n x w) = (refl, inl (ap (λ i. stage_in true i (record t0 { acting = Some (record { agent = g; action = x; sends = []; fault = None }) })) out))
    replied_so reply.Idle = (refl, inl (rests (staying c.doing t0 c) refl refl))
    replied_so (reply.Opened p w) = tt
    replied_so reply.Full = tt
    replied_so reply.Memory = tt

    heard_so : (r : Reply) → IsStaged true (stage_after Resting (ask.Take g) r) (on c.doing (take_action g (record c.state { todo = exchange (ask.Take g) r ∷ [] })) (λ o s. started g o (record c { state = record c.state { todo = exchange (ask.Take g) r ∷ [] } }) s))
    heard_so r = subst (λ b. IsStaged true (stage_after Resting (ask.Take g) r) (then_takes r (if b then Replied r t0 else Unreplied (record c.state { todo = exchange (ask.Take g) r ∷ []; wants = Some (ask.Take g) })))) (sym (same_ask-itself (ask.Take g))) (replied_so r)

-- an action that is over with a fault is handed in, also in the stage of its last try
over_staged_in : (c : Configuration) (code : ThreadCode) (g : CellId) (h : InHand) (f : Fault) (st : Stage) → c.state.acting ≡ Some h → h.fault ≡ Some f → IsOpen st
    → StagedFrom true st (act code (Some (FinishOf g)) (record c { state = record c.state { todo = [] } })) (λ q r. act code (Some (FinishOf g)) (record c { state = record c.state { todo = exchange q r ∷ [] } }))
over_staged_in c code g h f (Open at) e k viewless =
    subst (λ o. StagedFrom true (Open at) (hands_in code g c.state.acting o (record c { state = record c.state { todo = [] } })) (λ q r. hands_in code g c.state.acting o (record c { state = record c.state { todo = exchange q r ∷ [] } })))
    (sym (ap fault_in e ∙ k)) (hands_fault true c (subst (Fits true) (sym e) (refl, refl)) g f (Open at) refl refl (λ r. refl))
over_staged_in c code g h f Resting e k viewless = absurd viewless
over_staged_in c code g h f Idle e k viewless = absurd viewless
over_staged_in c code g h f (Viewing at view) e k viewless = absurd viewless
over_staged_in c code g h f (stages.Swapping d at) e k viewless = absurd viewless

module _ (code : ThreadCode) (c : Configuration) where
  abbrev no_exchange : Configuration
  no_exchange = record c { state = record c.state { todo = [] } }

  abbrev one_exchange : Ask → Reply → Configuration
  one_exchange q r = record c { state = record c.state { todo = exchange q r ∷ [] } }

  abbrev StagedHere : Bool → Stage → Option PlainInstr → Type 0
  StagedHere agent st i = StagedFrom agent st (act code i no_exchange) (λ q r. act code i (one_exchange q r))

  takes_it : (i : Option PlainInstr) → TakesOne i → MayStandHere true c.doing i → c.state.acting ≡ None → (st : Stage) → StandsIn true st no_exchange → StagedHere true st i
  takes_it (Some (TakeOf g)) takes may none st at = by c.doing refl may at
    where
      by : (doing : Activity) → c.doing ≡ doing → MayStandIn true doing (TakeOf g) → StandsIn true st no_exchange → StagedHere true st (Some (TakeOf g))
      by Outside e m (inl s) = subst (λ x. StagedHere true x (Some (TakeOf g))) (sym (ap (λ i. stage_in true i (record c.state { todo = [] })) e ∙ ap (outside_stage true) none) ∙ s) (takes_staged c g none e)
      by Outside e m (inr o) = absurd (subst IsOver none o.1)
      by (Restarting left) e m s = absurd m
      by (Running left inner from) e m s = absurd m
      by (Applying left from work values) e m s = absurd m
      by (Swapping swap from) e m s = absurd m
  takes_it None takes may none st at = absurd takes
  takes_it (Some (Push v)) takes may none st at = absurd takes
  takes_it (Some (Load i)) takes may none st at = absurd takes
  takes_it (Some (Store i)) takes may none st at = absurd takes
  takes_it (Some Pop) takes may none st at = absurd takes
  takes_it (Some (Jump to)) takes may none st at = absurd takes
  takes_it (Some (JumpFalse to)) takes may none st at = absurd takes
  takes_it (Some (CoreOf op n span)) takes may none st at = absurd takes
  takes_it (Some (CallOf f n)) takes may none st at = absurd takes
  takes_it (Some Return) takes may none st at = absurd takes
  takes_it (Some (MakeVector n span)) takes may none st at = absurd takes
  takes_it (Some (PrintOf n)) takes may none st at = absurd takes
  takes_it (Some (TxBegin span)) takes may none st at = absurd takes
  takes_it (Some TxEnd) takes may none st at = absurd takes
  takes_it (Some (LookOf f span)) takes may none st at = absurd takes
  takes_it (Some (PutOf f span)) takes may none st at = absurd takes
  takes_it (Some (OpenOf f n span)) takes may none st at = absurd takes
  takes_it (Some (CloseOf f span)) takes may none st at = absurd takes
  takes_it (Some (SendOf f n span)) takes may none st at = absurd takes
  takes_it (Some Halt) takes may none st at = absurd takes
  takes_it (Some RunOf) takes may none st at = absurd takes
  takes_it (Some (FinishOf g)) takes may none st at = absurd takes

  -- what runs an action is staged in its stage
  in_stage : (agent : Bool) → Fits agent c.state.acting → (i : Option PlainInstr) → IsTake i ≡ false → MayStandHere agent c.doing i → (st : Stage) → stage_of agent no_exchange ≡ st → StagedHere agent st i
  in_stage agent ok i isnt may st e = subst (λ x. StagedHere agent x i) (sym (here_is agent c ok) ∙ e) (acts_staged agent c ok code i isnt may)

  no_take : (o : Option Fault) (i : Option PlainInstr) → RunsOne o i → IsTake i ≡ false
  no_take o (Some (TakeOf g)) h = absurd h
  no_take o None h = refl
  no_take o (Some (Push v)) h = refl
  no_take o (Some (Load i)) h = refl
  no_take o (Some (Store i)) h = refl
  no_take o (Some Pop) h = refl
  no_take o (Some (Jump to)) h = refl
  no_take o (Some (JumpFalse to)) h = refl
  no_take o (Some (CoreOf op n span)) h = refl
  no_take o (Some (CallOf f n)) h = refl
  no_take o (Some Return) h = refl
  no_take o (Some (MakeVector n span)) h = refl
  no_take o (Some (PrintOf n)) h = refl
  no_take o (Some (TxBegin span)) h = refl
  no_take o (Some TxEnd) h = refl
  no_take o (Some (LookOf f span)) h = refl
  no_take o (Some (PutOf f span)) h = refl
  no_take o (Some (OpenOf f n span)) h = refl
  no_take o (Some (CloseOf f span)) h = refl
  no_take o (Some (SendOf f n span)) h = refl
  no_take o (Some Halt) h = refl
  no_take o (Some RunOf) h = refl
  no_take o (Some (FinishOf g)) h = refl

  -- a thread takes none
  thread_takes_none : (doing : Activity) (i : Option PlainInstr) → MayStandHere false doing i → IsTake i ≡ false
  thread_takes_none doing (Some (TakeOf g)) h = absurd h
  thread_takes_none doing None h = refl
  thread_takes_none doing (Some (Push v)) h = refl
  thread_takes_none doing (Some (Load i)) h = refl
  thread_takes_none doing (Some (Store i)) h = refl
  thread_takes_none doing (Some Pop) h = refl
  thread_takes_none doing (Some (Jump to)) h = refl
  thread_takes_none doing (Some (JumpFalse to)) h = refl
  thread_takes_none doing (Some (CoreOf op n span)) h = refl
  thread_takes_none doing (Some (CallOf f n)) h = refl
  thread_takes_none doing (Some Return) h = refl
  thread_takes_none doing (Some (MakeVector n span)) h = refl
  thread_takes_none doing (Some (PrintOf n)) h = refl
  thread_takes_none doing (Some (TxBegin span)) h = refl
  thread_takes_none doing (Some TxEnd) h = refl
  thread_takes_none doing (Some (LookOf f span)) h = refl
  thread_takes_none doing (Some (PutOf f span)) h = refl
  thread_takes_none doing (Some (OpenOf f n span)) h = refl
  thread_takes_none doing (Some (CloseOf f span)) h = refl
  thread_takes_none doing (Some (SendOf f n span)) h = refl
  thread_takes_none doing (Some Halt) h = refl
  thread_takes_none doing (Some RunOf) h = refl
  thread_takes_none doing (Some (FinishOf g)) h = refl

  hands_over : (h : InHand) (f : Fault) (i : Option PlainInstr) → c.state.acting ≡ Some h → h.fault ≡ Some f → RunsOne (Some f) i → (st : Stage) → IsOpen st → StagedHere true st i
  hands_over h f (Some (FinishOf g)) e k runs st viewless = over_staged_in c code g h f st e k viewless
  hands_over h f (Some (TakeOf g)) e k runs st viewless = absurd runs
  hands_over h f None e k runs st viewless = absurd runs
  hands_over h f (Some (Push v)) e k runs st viewless = absurd runs
  hands_over h f (Some (Load i)) e k runs st viewless = absurd runs
  hands_over h f (Some (Store i)) e k runs st viewless = absurd runs
  hands_over h f (Some Pop) e k runs st viewless = absurd runs
  hands_over h f (Some (Jump to)) e k runs st viewless = absurd runs
  hands_over h f (Some (JumpFalse to)) e k runs st viewless = absurd runs
  hands_over h f (Some (CoreOf op n span)) e k runs st viewless = absurd runs
  hands_over h f (Some (CallOf g n)) e k runs st viewless = absurd runs
  hands_over h f (Some Return) e k runs st viewless = absurd runs
  hands_over h f (Some (MakeVector n span)) e k runs st viewless = absurd runs
  hands_over h f (Some (PrintOf n)) e k runs st viewless = absurd runs
  hands_over h f (Some (TxBegin span)) e k runs st viewless = absurd runs
  hands_over h f (Some TxEnd) e k runs st viewless = absurd runs
  hands_over h f (Some (LookOf g span)) e k runs st viewless = absurd runs
  hands_over h f (Some (PutOf g span)) e k runs st viewless = absurd runs
  hands_over h f (Some (OpenOf g n span)) e k runs st viewless = absurd runs
  hands_over h f (Some (CloseOf g span)) e k runs st viewless = absurd runs
  hands_over h f (Some (SendOf g n span)) e k runs st viewless = absurd runs
  hands_over h f (Some Halt) e k runs st viewless = absurd runs
  hands_over h f (Some RunOf) e k runs st viewless = absurd runs

-- an instruction that may stand where it does, in each stage that its configuration is in
pub act_staged : (agent : Bool) (c : Configuration) (code : ThreadCode) (i : Option PlainInstr) → MayStandHere agent c.doing i → MayRun agent c.state.acting → TakesTurns agent c.state.acting i
    → (st : Stage) → StandsIn agent st (record c { state = record c.state { todo = [] } })
    → StagedFrom agent st (act code i (record c { state = record c.state { todo = [] } })) (λ q r. act code i (record c { state = record c.state { todo = exchange q r ∷ [] } }))
act_staged false c code i may run turns st at = in_stage code c false (run, refl) i (thread_takes_none code c c.doing i may) may st at
act_staged true c code i may run turns st at = by c.state.acting refl turns at
  where
    over_or : (h : InHand) (o : Option Fault) → c.state.acting ≡ Some h → h.fault ≡ o → RunsOne o i → IsOpen st → IsOver c.state.acting → StagedHere code c true st i
    over_or h None e k runs viewless over = absurd (subst HasFault k (subst IsOver e over))
    over_or h (Some f) e k runs viewless over = hands_over code c h f i e k runs st viewless

    by : (o : Option InHand) → c.state.acting ≡ o → TakesTurns true o i → StandsIn true st (record c { state = record c.state { todo = [] } }) → StagedHere code c true st i
    by None e t s = takes_it code c i t may e st s
    by (Some h) e t (inl s) = in_stage code c true (subst (Fits true) (sym e) (refl, refl)) i (no_take code c h.fault i t) may st s
    by (Some h) e t (inr o) = over_or h h.fault e refl t o.0 o.1
