-- The instructions of well-typed code, of threads and of agents, are where they may be: its callees of commutes and swaps are pure.
use Rattle.std.proofs.Common.{◌≡◌, ◌<◌, ℕ, zero, suc, ◌+◌, ◌-◌, ◌==◌, Bool, true, false, List, [], ◌∷◌, ◌++◌, map, Option, Some, None, Result, Ok, Err, if◌then◌else◌, ◌⊎◌, inl, inr, refl, sym, ap, ◌∙◌, subst, arith}
use Rattle.std.proofs.lemmas.Bool.{false≢true}
use Rattle.std.specs.Prelude.{slice_index_or}
use Rattle.txs_world_protocol.specs.Ask.{Writes, Exchange, buffered, same_ask, with_write}
use Rattle.txs_world_protocol.specs.declared.ask.Ask.{Ask}
use Rattle.txs_world_protocol.specs.declared.ask.Ask.TheVariants as ask
use Rattle.txs_world_protocol.specs.declared.ask.Reply.{Reply}
use Rattle.txs_frame.specs.Frame.{PlainTxFrame, with_cell, commuted, is_commuted, commutes_of, by_ref, phase_work, written, sends_of_commit, set_writes}
use Rattle.txs_frame.specs.Phase.{with_validation, validations, tasks_of, callee_of, to_write}
use Rattle.txs_frame.specs.declared.frame.Commute.{Commute}
use Rattle.txs_frame.specs.declared.phase.Task.{Task}
use Rattle.txs_frame.specs.declared.phase.Task.TheVariants.{Redoes, Validates}
use Rattle.txs_value_apply.specs.Core.{core, vector_of}
use Rattle.txs_value_apply.specs.Truth.{choose}
use Rattle.txs_value_cell.specs.Cells.{Validators, validator_at, validators_of}
use Rattle.txs_value_cell.specs.Forms.{rule, cell_of}
use Rattle.txs_value_data.specs.Places.{nth, fault_at}
use Rattle.txs_value_cell.specs.declared.action.Action.{Action}
use Rattle.txs_value_data.specs.declared.fault.Fault.{Fault}
use Rattle.txs_value_data.specs.declared.fault.FaultKind.{FaultKind}
use Rattle.txs_value_data.specs.declared.fault.FaultKind.TheVariants.{SetAfterCommute, InvalidState, AgentFailed, RetryLimit}
use Rattle.txs_value_data.specs.declared.fault.Span.{Span}
use Rattle.txs_value_cell.specs.declared.form.CellForm.TheVariants as form
use Rattle.txs_value_cell.specs.declared.form.LookForm.{LookForm}
use Rattle.txs_value_cell.specs.declared.form.LookForm.TheVariants.{Deref, Ensure}
use Rattle.txs_value_cell.specs.declared.form.PutForm.{PutForm}
use Rattle.txs_value_cell.specs.declared.form.PutForm.TheVariants.{RefSet, Reset}
use Rattle.txs_value_cell.specs.declared.form.UpdateForm.{UpdateForm}
use Rattle.txs_value_cell.specs.declared.form.UpdateForm.TheVariants as update
use Rattle.txs_value_data.specs.declared.op.Callee.{Callee}
use Rattle.txs_value_data.specs.declared.op.Callee.TheVariants as callee
use Rattle.txs_value_data.specs.declared.value.CellId.{CellId}
use Rattle.txs_value_data.specs.declared.value.CellKind.TheVariants.{Agent}
use Rattle.txs_value_data.specs.declared.value.Value.{Value}
use Rattle.txs_value_data.specs.declared.value.Value.TheVariants.{Nil, Truth, Int, Key, Text, Vector, Cell}
use Rattle.txs_code_meaning.specs.ActorState.{ActorState, Replied, Unreplied, receives, asks, StepResult, Continue, Break, Redo, Await, Malformed, on_step, step_of, Reading, Says, SaysRetry, SaysNothing, read_as, heard, read_point, just_done, value_there, newest_value, views, Verdict, Landed, Outdated, Undone, Denied, commit_verdict, opened, swap_verdict, send_verdict, begun, begin, fail, buffered_or, look, paired, viewed, view, commit, peek, SwapInHand, open_atom, close_swap, break_swap, reset_atom, sent, send_now, read_cell, read, set_own, assign_cell, assign, RefUpdate, Alters, Commutes, update_form, kept_open, open_update, close_own, close_update, open_swap, send_action, send_to, print, InHand, send_or_hold, cell_at, held_in, now_holding, landed, Taken, handed_out, take_action, taken_back, finish}
use Rattle.txs_code_meaning.specs.Machine.{PlainInstr, Push, Load, Store, Pop, Jump, JumpFalse, CoreOf, CallOf, Return, MakeVector, PrintOf, TxBegin, TxEnd, LookOf, PutOf, OpenOf, CloseOf, SendOf, Halt, TakeOf, RunOf, FinishOf, ThreadCode, instr_at, fetch, Destination, to_stack, to_commutes, to_validation, Frame, Savepoint, Activity, Outside, Restarting, Running, Applying, Swapping, is_inside, Configuration, ahead, called, arguments_of, Turned, Ended, Failed, Asking, Unfinished, Stuck, told, raise, rerun, retried, on, found, on_top, on_args, on_args_of, on_two, push_all, put, gives, begins, decided, lands, settles, applies, ends, stack_after, doing_after, returns_to, opens_ref, opens_atom, opens, swap_decided, closes_swap, closes, act, turn, run, ends_with, staying, answered, validates, where_accepted, where_valid, works, puts, state_after, fails_with, PlainBody, agent_body, agent_code, first_place, rested, started, runs_callee, runs, finishes, hands_in, fault_in}
use Rattle.txs_code_meaning.specs.Opening.{given, opening}
use Rattle.txs_code_meaning.specs.PlainCode.{CodeBody, PlainCode, parameters_of, plain_instr, plain_instrs, plain_body, plain_bodies, function_codes, library_of, thread_code}
use Rattle.txs_code_meaning.specs.WellTyped as typed
use Rattle.txs_code_meaning.specs.WellTyped.{form_of, FunctionKind, Functions, Owner, a_thread, a_function, IsImpure, MayCall, IsPureFunction, IsPureCallee, Stages, stage_at, LeadsTo, FitsStage, IsStaging, WellTyped, WellTypedThreads, WellTypedFunctions, WellTypedValidators, MayBeSent}
use Rattle.txs_code_meaning.specs.declared.instr.Instr.{Instr}
use Rattle.txs_code_meaning.specs.declared.instr.Instr.TheVariants as instr
use Rattle.txs_code_meaning.specs.declared.instr.OpenForm.{OpenForm}
use Rattle.txs_code_meaning.specs.declared.instr.OpenForm.TheVariants as open_form
use Rattle.txs_theorem_runs.specs.Explains.{code_or_none}
use Rattle.txs_theorem_runs.specs.Lawful.{TypedStands, TypedActorsStand}
use Rattle.txs_theorem_runs.specs.Staged.{HasFault}
use Rattle.txs_theorem_runs.specs.Standing.{MayStandIn, MayStandHere, MayHandIn, MayRun, TakesTurns, RunsOne, StandingCode, StandingActor}
use Rattle.txs_theorem_runs.proofs.Known.{KnownCode, run_known, standing_actor}

-- an instruction as the machine sees it, where it has a span
abbrev Fetched : List ℕ → List Value → Option PlainInstr → Option Instr → Type 0
Fetched ps ks None o = Unit {0}
Fetched ps ks (Some p) None = ⊥
Fetched ps ks (Some p) (Some i) = (span : Span) × (p ≡ plain_instr ps ks i span)

fetched : (ps : List ℕ) (ks : List Value) (is : List Instr) (spans : List Span) (at : ℕ) → Fetched ps ks (nth (plain_instrs ps ks is spans) at) (nth is at)
fetched ps ks [] spans at = tt
fetched ps ks (i ∷ is) [] at = tt
fetched ps ks (i ∷ is) (span ∷ spans) zero = (span, refl)
fetched ps ks (i ∷ is) (span ∷ spans) (suc at) = fetched ps ks is spans at

abbrev is_some : {A : Type 0} → Option A → Type 0
is_some None = ⊥
is_some (Some a) = Unit {0}

abbrev IsEnd : PlainInstr → Type 0
IsEnd TxEnd = Unit {0}
IsEnd _ = ⊥

abbrev EndThere : Option PlainInstr → Type 0
EndThere None = ⊥
EndThere (Some p) = IsEnd p

is_end : (p : PlainInstr) → IsEnd p → p ≡ TxEnd
is_end (Push v) h = absurd h
is_end (Load i) h = absurd h
is_end (Store i) h = absurd h
is_end Pop h = absurd h
is_end (Jump to) h = absurd h
is_end (JumpFalse to) h = absurd h
is_end (CoreOf op n span) h = absurd h
is_end (CallOf f n) h = absurd h
is_end Return h = absurd h
is_end (MakeVector n span) h = absurd h
is_end (PrintOf n) h = absurd h
is_end (TxBegin span) h = absurd h
is_end TxEnd h = refl
is_end (LookOf f span) h = absurd h
is_end (PutOf f span) h = absurd h
is_end (OpenOf f n span) h = absurd h
is_end (CloseOf f span) h = absurd h
is_end (SendOf f n span) h = absurd h
is_end Halt h = absurd h
is_end (TakeOf g) h = absurd h
is_end RunOf h = absurd h
is_end (FinishOf g) h = absurd h

-- no instruction of an agent's own body
abbrev IsNotAgents : PlainInstr → Type 0
IsNotAgents (TakeOf g) = ⊥
IsNotAgents RunOf = ⊥
IsNotAgents (FinishOf g) = ⊥
IsNotAgents _ = Unit {0}

not_agents : (ps : List ℕ) (ks : List Value) (i : Instr) (span : Span) → IsNotAgents (plain_instr ps ks i span)
not_agents ps ks (instr.Const k) span = tt
not_agents ps ks (instr.Local k) span = tt
not_agents ps ks (instr.Store k) span = tt
not_agents ps ks instr.Pop span = tt
not_agents ps ks (instr.Jump to) span = tt
not_agents ps ks (instr.JumpFalse to) span = tt
not_agents ps ks (instr.Core op n) span = tt
not_agents ps ks (instr.Call f) span = tt
not_agents ps ks instr.Return span = tt
not_agents ps ks (instr.Vector n) span = tt
not_agents ps ks (instr.Print n) span = tt
not_agents ps ks (instr.Look f) span = tt
not_agents ps ks (instr.Put f) span = tt
not_agents ps ks instr.TxBegin span = tt
not_agents ps ks instr.TxEnd span = tt
not_agents ps ks (instr.Open f n) span = tt
not_agents ps ks (instr.Close f) span = tt
not_agents ps ks (instr.Send f n) span = tt
not_agents ps ks instr.Halt span = tt

-- what may stand in a pure body
abbrev IsPurePlain : PlainInstr → Type 0
IsPurePlain (LookOf f span) = ⊥
IsPurePlain (PutOf f span) = ⊥
IsPurePlain (OpenOf f n span) = ⊥
IsPurePlain (CloseOf f span) = ⊥
IsPurePlain (SendOf f n span) = ⊥
IsPurePlain (TakeOf g) = ⊥
IsPurePlain RunOf = ⊥
IsPurePlain (FinishOf g) = ⊥
IsPurePlain _ = Unit {0}

may_apply : (agent : Bool) (left : ℕ) (from : Savepoint) (work : List Task) (values : Writes) (p : PlainInstr) → IsPurePlain p → MayStandIn agent (Applying left from work values) p
may_apply agent left from work values (Push v) h = tt
may_apply agent left from work values (Load i) h = tt
may_apply agent left from work values (Store i) h = tt
may_apply agent left from work values Pop h = tt
may_apply agent left from work values (Jump to) h = tt
may_apply agent left from work values (JumpFalse to) h = tt
may_apply agent left from work values (CoreOf op n span) h = tt
may_apply agent left from work values (CallOf f n) h = tt
may_apply agent left from work values Return h = tt
may_apply agent left from work values (MakeVector n span) h = tt
may_apply agent left from work values (PrintOf n) h = tt
may_apply agent left from work values (TxBegin span) h = tt
may_apply agent left from work values TxEnd h = tt
may_apply agent left from work values (LookOf f span) h = absurd h
may_apply agent left from work values (PutOf f span) h = absurd h
may_apply agent left from work values (OpenOf f n span) h = absurd h
may_apply agent left from work values (CloseOf f span) h = absurd h
may_apply agent left from work values (SendOf f n span) h = absurd h
may_apply agent left from work values Halt h = tt
may_apply agent left from work values (TakeOf g) h = absurd h
may_apply agent left from work values RunOf h = absurd h
may_apply agent left from work values (FinishOf g) h = absurd h

may_swap : (agent : Bool) (swap : SwapInHand) (from : Savepoint) (p : PlainInstr) → IsPurePlain p → MayStandIn agent (Swapping swap from) p
may_swap agent swap from (Push v) h = tt
may_swap agent swap from (Load i) h = tt
may_swap agent swap from (Store i) h = tt
may_swap agent swap from Pop h = tt
may_swap agent swap from (Jump to) h = tt
may_swap agent swap from (JumpFalse to) h = tt
may_swap agent swap from (CoreOf op n span) h = tt
may_swap agent swap from (CallOf f n) h = tt
may_swap agent swap from Return h = tt
may_swap agent swap from (MakeVector n span) h = tt
may_swap agent swap from (PrintOf n) h = tt
may_swap agent swap from (TxBegin span) h = tt
may_swap agent swap from TxEnd h = tt
may_swap agent swap from (LookOf f span) h = absurd h
may_swap agent swap from (PutOf f span) h = absurd h
may_swap agent swap from (OpenOf f n span) h = absurd h
may_swap agent swap from (CloseOf f span) h = absurd h
may_swap agent swap from (SendOf f n span) h = absurd h
may_swap agent swap from Halt h = tt
may_swap agent swap from (TakeOf g) h = absurd h
may_swap agent swap from RunOf h = absurd h
may_swap agent swap from (FinishOf g) h = absurd h

may_outside : (agent : Bool) (p : PlainInstr) → IsNotAgents p → MayStandIn agent Outside p
may_outside agent (Push v) h = tt
may_outside agent (Load i) h = tt
may_outside agent (Store i) h = tt
may_outside agent Pop h = tt
may_outside agent (Jump to) h = tt
may_outside agent (JumpFalse to) h = tt
may_outside agent (CoreOf op n span) h = tt
may_outside agent (CallOf f n) h = tt
may_outside agent Return h = tt
may_outside agent (MakeVector n span) h = tt
may_outside agent (PrintOf n) h = tt
may_outside agent (TxBegin span) h = tt
may_outside agent TxEnd h = tt
may_outside agent (LookOf f span) h = tt
may_outside agent (PutOf f span) h = tt
may_outside agent (OpenOf f n span) h = tt
may_outside agent (CloseOf f span) h = tt
may_outside agent (SendOf f n span) h = tt
may_outside agent Halt h = tt
may_outside agent (TakeOf g) h = absurd h
may_outside agent RunOf h = absurd h
may_outside agent (FinishOf g) h = absurd h

may_begin : (agent : Bool) (left : ℕ) (p : PlainInstr) → IsNotAgents p → MayStandIn agent (Restarting left) p
may_begin agent left (Push v) h = tt
may_begin agent left (Load i) h = tt
may_begin agent left (Store i) h = tt
may_begin agent left Pop h = tt
may_begin agent left (Jump to) h = tt
may_begin agent left (JumpFalse to) h = tt
may_begin agent left (CoreOf op n span) h = tt
may_begin agent left (CallOf f n) h = tt
may_begin agent left Return h = tt
may_begin agent left (MakeVector n span) h = tt
may_begin agent left (PrintOf n) h = tt
may_begin agent left (TxBegin span) h = tt
may_begin agent left TxEnd h = tt
may_begin agent left (LookOf f span) h = tt
may_begin agent left (PutOf f span) h = tt
may_begin agent left (OpenOf f n span) h = tt
may_begin agent left (CloseOf f span) h = tt
may_begin agent left (SendOf f n span) h = tt
may_begin agent left Halt h = tt
may_begin agent left (TakeOf g) h = absurd h
may_begin agent left RunOf h = absurd h
may_begin agent left (FinishOf g) h = absurd h

may_try : (agent : Bool) (left inner : ℕ) (from : Savepoint) (p : PlainInstr) → IsNotAgents p → MayStandIn agent (Running left inner from) p
may_try agent left inner from (Push v) h = tt
may_try agent left inner from (Load i) h = tt
may_try agent left inner from (Store i) h = tt
may_try agent left inner from Pop h = tt
may_try agent left inner from (Jump to) h = tt
may_try agent left inner from (JumpFalse to) h = tt
may_try agent left inner from (CoreOf op n span) h = tt
may_try agent left inner from (CallOf f n) h = tt
may_try agent left inner from Return h = tt
may_try agent left inner from (MakeVector n span) h = tt
may_try agent left inner from (PrintOf n) h = tt
may_try agent left inner from (TxBegin span) h = tt
may_try agent left inner from TxEnd h = tt
may_try agent left inner from (LookOf f span) h = tt
may_try agent left inner from (PutOf f span) h = tt
may_try agent left inner from (OpenOf f n span) h = tt
may_try agent left inner from (CloseOf f span) h = tt
may_try agent left inner from (SendOf f n span) h = tt
may_try agent left inner from Halt h = tt
may_try agent left inner from (TakeOf g) h = absurd h
may_try agent left inner from RunOf h = absurd h
may_try agent left inner from (FinishOf g) h = absurd h

both_ways : (b : Bool) → b ≡ true → b ≡ false → ⊥
both_ways true h g = false≢true (sym g)
both_ways false h g = false≢true h

not_false : (b : Bool) → (b ≡ false → ⊥) → b ≡ true
not_false true h = refl
not_false false h = absurd (h refl)

-- what holds of the action that an actor runs, while its function runs: a thread runs none, an agent one that isn't over
abbrev pub Acts : Bool → Option InHand → Type 0
Acts false None = Unit {0}
Acts false (Some h) = ⊥
Acts true None = ⊥
Acts true (Some h) = h.fault ≡ None

acts_may : (b : Bool) (o : Option InHand) → Acts b o → MayRun b o
acts_may false None h = tt
acts_may false (Some x) h = absurd h
acts_may true None h = absurd h
acts_may true (Some x) h = refl

may_true : (o : Option InHand) → MayRun true o
may_true None = tt
may_true (Some x) = refl

acts_agent : (b : Bool) (x : InHand) → Acts b (Some x) → b ≡ true
acts_agent false x h = absurd h
acts_agent true x h = refl

no_fault : (b : Bool) (x : InHand) → Acts b (Some x) → x.fault ≡ None
no_fault false x h = absurd h
no_fault true x h = h

-- an action that holds more sends
acts_held : (b : Bool) (o : Option InHand) (xs : List Action) → Acts b o → Acts b (now_holding xs o)
acts_held false None xs h = tt
acts_held false (Some x) xs h = absurd h
acts_held true None xs h = absurd h
acts_held true (Some x) xs h = h

turns_so : (b : Bool) (o : Option InHand) (i : Option PlainInstr) → Acts b o → RunsOne None i → TakesTurns b o i
turns_so false o i h n = tt
turns_so true None i h n = absurd h
turns_so true (Some x) i h n = subst (λ t. RunsOne t i) (sym h) n

-- what an agent runs between its functions: it takes an action, runs it, or hands one in that is over with a fault
abbrev pub RestsAt : ℕ → Option InHand → Type 0
RestsAt zero None = Unit {0}
RestsAt zero (Some h) = ⊥
RestsAt (suc zero) None = ⊥
RestsAt (suc zero) (Some h) = h.fault ≡ None
RestsAt (suc (suc zero)) None = ⊥
RestsAt (suc (suc zero)) (Some h) = HasFault h.fault
RestsAt (suc (suc (suc n))) o = ⊥

over_fault : (o : Option InHand) → RestsAt (suc (suc zero)) o → HasFault (fault_in o)
over_fault None h = absurd h
over_fault (Some x) h = h

-- no instruction of a thread or a function takes an action
runs_one : (p : PlainInstr) → IsNotAgents p → RunsOne None (Some p)
runs_one (Push v) h = tt
runs_one (Load i) h = tt
runs_one (Store i) h = tt
runs_one Pop h = tt
runs_one (Jump to) h = tt
runs_one (JumpFalse to) h = tt
runs_one (CoreOf op n span) h = tt
runs_one (CallOf f n) h = tt
runs_one Return h = tt
runs_one (MakeVector n span) h = tt
runs_one (PrintOf n) h = tt
runs_one (TxBegin span) h = tt
runs_one TxEnd h = tt
runs_one (LookOf f span) h = tt
runs_one (PutOf f span) h = tt
runs_one (OpenOf f n span) h = tt
runs_one (CloseOf f span) h = tt
runs_one (SendOf f n span) h = tt
runs_one Halt h = tt
runs_one (TakeOf g) h = absurd h
runs_one RunOf h = absurd h
runs_one (FinishOf g) h = absurd h

abbrev NotAgents : Option PlainInstr → Type 0
NotAgents None = Unit {0}
NotAgents (Some p) = IsNotAgents p

abbrev IsSend : Option PlainInstr → Type 0
IsSend (Some (SendOf f n span)) = Unit {0}
IsSend _ = ⊥

-- a step after which this holds of the state
abbrev StepKeeps : {A : Type 0} → (ActorState → Type 0) → StepResult A → Type 0
StepKeeps P (Continue a s) = P s
StepKeeps P (Redo s) = P s
StepKeeps P (Break f s) = P s
StepKeeps P (Await s) = Unit {0}
StepKeeps P Malformed = Unit {0}

read_keeps : {A : Type 0} (P : ActorState → Type 0) (x : Reading A) (s : ActorState) → P s → StepKeeps P (read_as x s)
read_keeps P (Says a) s h = h
read_keeps P SaysRetry s h = h
read_keeps P SaysNothing s h = tt

received_keeps : {A : Type 0} (P : ActorState → Type 0) (reads : Reply → Reading A) (q : Ask) (s : ActorState) (todo : List Exchange) → ((t : List Exchange) → P (record s { todo = t })) → StepKeeps P (heard reads (receives q s todo))
received_keeps P reads q s [] h = tt
received_keeps P reads q s (x ∷ xs) h = go (same_ask q x.ask)
  where
    go : (b : Bool) → StepKeeps P (heard reads (if b then Replied x.reply (record s { todo = xs }) else Unreplied (record s { wants = Some q })))
    go true = read_keeps P (reads x.reply) (record s { todo = xs }) (h xs)
    go false = tt

heard_keeps : {A : Type 0} (P : ActorState → Type 0) (reads : Reply → Reading A) (q : Ask) (s : ActorState) → ((t : List Exchange) → P (record s { todo = t })) → StepKeeps P (heard reads (asks q s))
unfolding asks
heard_keeps P reads q s h = received_keeps P reads q s s.todo h

-- The main body is a thread's, or an agent's own.
module _ (code : PlainCode) (agent : Bool) (g : CellId) (main : PlainBody) (kinds : List FunctionKind) where
  abbrev fs : Functions
  fs = record { parameters = parameters_of code.functions; kinds = kinds }

  abbrev ps : List ℕ
  ps = parameters_of code.functions

  abbrev ks : List Value
  ks = code.constants

  abbrev tc : ThreadCode
  tc = record { functions = function_codes code; validators = validators_of code.cells; main = main }

  -- a body with its table of stages
  pub record Body (n : ℕ) (owner : Owner) : Type 0 where
    pub body : CodeBody
    pub stages : Stages
    pub staging : IsStaging fs owner body stages
    pub fetches : (at : ℕ) → Fetched ps ks (fetch tc n at) (nth body.instrs at)

  -- a place of a body, with its stage
  pub record At (n at : ℕ) (st : typed.Stage) : Type 0 where
    pub owner : Owner
    pub body : Body n owner
    pub here : stage_at body.stages at ≡ Some st

  abbrev IsPureOwner : Owner → Type 0
  IsPureOwner a_thread = ⊥
  IsPureOwner (a_function kind) = kind.pure ≡ true

  -- a place of a pure body, which is in no transaction
  pub record PureAt (n at : ℕ) : Type 0 where
    pub owner : Owner
    pub body : Body n owner
    pub pure : IsPureOwner owner
    pub here : stage_at body.stages at ≡ Some (typed.plain 0)

  -- a place of a typed body
  abbrev Coded : ℕ → ℕ → Type 0
  Coded n at = (st : typed.Stage) × At n at st

  -- where an agent hands its action in
  abbrev Aside : ℕ → ℕ → Type 0
  Aside n at = (agent ≡ true) × (n ≡ 0) × (at ≡ 2)

  abbrev Somewhere : ℕ → ℕ → Type 0
  Somewhere n at = Coded n at ⊎ Aside n at

  pure_coded : (n at : ℕ) → PureAt n at → Coded n at
  pure_coded n at p = (typed.plain 0, record { owner = p.owner; body = p.body; here = p.here })

  pure_somewhere : (n at : ℕ) → PureAt n at → Somewhere n at
  pure_somewhere n at p = inl (pure_coded n at p)

  not_impure : (owner : Owner) → IsPureOwner owner → IsImpure owner → ⊥
  not_impure a_thread g i = g
  not_impure (a_function kind) g i = both_ways kind.pure g i

  abbrev OfThere : (PlainInstr → Type 0) → Option PlainInstr → Type 0
  OfThere P None = Unit {0}
  OfThere P (Some p) = P p

  -- ---- what holds of a configuration

  abbrev FramesAt : List Frame → Type 0
  FramesAt [] = Unit {0}
  FramesAt (f ∷ frames) = Somewhere f.body f.place × FramesAt frames

  abbrev SavedAt : Savepoint → Type 0
  SavedAt p = Somewhere p.body p.place × FramesAt p.frames

  abbrev CommutesPure : List Commute → Type 0
  CommutesPure [] = Unit {0}
  CommutesPure (k ∷ cs) = IsPureCallee kinds k.callee × CommutesPure cs

  abbrev TasksPure : List Task → Type 0
  TasksPure [] = Unit {0}
  TasksPure (x ∷ work) = IsPureCallee kinds (callee_of x) × TasksPure work

  abbrev CommutingPure : Option Commute → Type 0
  CommutingPure None = Unit {0}
  CommutingPure (Some k) = IsPureCallee kinds k.callee

  abbrev StateOk : ActorState → Type 0
  StateOk s = CommutesPure s.done.commutes × CommutingPure s.commuting × Acts agent s.acting

  -- what is commuted is pure
  abbrev PureState : ActorState → Type 0
  PureState s = CommutesPure s.done.commutes × CommutingPure s.commuting

  abbrev EndHere : ℕ → ℕ → Type 0
  EndHere n at = EndThere (fetch tc n at)

  -- between the open of a swap and its close
  abbrev SwapStage : typed.Stage → Type 0
  SwapStage (typed.plain t) = ⊥
  SwapStage (typed.opened t n by) = form_of by ≡ update.Swap
  SwapStage (typed.applied t by) = by ≡ update.Swap

  abbrev SwapHere : ℕ → ℕ → Type 0
  SwapHere n at = (st : typed.Stage) × At n at st × SwapStage st

  -- a pure callee is applied, whose callers are pure up to the place that it was applied at
  abbrev CalleeIn : (ℕ → ℕ → Type 0) → List Frame → Type 0
  CalleeIn Home [] = ⊥
  CalleeIn Home (f ∷ frames) = Home f.body f.place ⊎ (PureAt f.body f.place × CalleeIn Home frames)

  abbrev PlaceIn : (ℕ → ℕ → Type 0) → Configuration → Type 0
  PlaceIn Home c = Home c.body c.place ⊎ (PureAt c.body c.place × CalleeIn Home c.frames)

  abbrev DoingOk : Configuration → Activity → Type 0
  DoingOk c Outside = Unit {0}
  DoingOk c (Restarting left) = Unit {0}
  DoingOk c (Running left inner from) = SavedAt from
  DoingOk c (Applying left from work values) = SavedAt from × TasksPure work × PlaceIn EndHere c
  DoingOk c (Swapping swap from) = SavedAt from × PlaceIn SwapHere c

  abbrev Holds : Configuration → Type 0
  Holds c = Somewhere c.body c.place × FramesAt c.frames × DoingOk c c.doing × StateOk c.state

  -- an agent at its own body, outside every function
  abbrev Rests : Configuration → Type 0
  Rests c = (agent ≡ true) × (c.body ≡ 0) × RestsAt c.place c.state.acting × (c.doing ≡ Outside) × FramesAt c.frames × PureState c.state

  -- an action whose function isn't there
  abbrev Lost : Configuration → Type 0
  Lost c = (fetch tc c.body c.place ≡ None) × Acts agent c.state.acting

  abbrev HoldsAny : Configuration → Type 0
  HoldsAny c = Holds c ⊎ (Rests c ⊎ Lost c)

  abbrev Lands : Turned Configuration → Type 0
  Lands (Unfinished d) = HoldsAny d
  Lands (Ended s) = Unit {0}
  Lands (Failed f s) = Unit {0}
  Lands (Asking s) = Unit {0}
  Lands Stuck = Unit {0}

  -- ---- states

  abbrev StepOk : {A : Type 0} → StepResult A → Type 0
  StepOk (Continue a s) = StateOk s
  StepOk (Redo s) = StateOk s
  StepOk (Break f s) = StateOk s
  StepOk (Await s) = Unit {0}
  StepOk Malformed = Unit {0}

  read_ok : {A : Type 0} (x : Reading A) (s : ActorState) → StateOk s → StepOk (read_as x s)
  read_ok (Says a) s h = h
  read_ok SaysRetry s h = h
  read_ok SaysNothing s h = tt

  received_ok : {A : Type 0} (reads : Reply → Reading A) (q : Ask) (s : ActorState) (todo : List Exchange) → StateOk s → StepOk (heard reads (receives q s todo))
  received_ok reads q s [] h = tt
  received_ok reads q s (x ∷ xs) h = go (same_ask q x.ask)
    where
      go : (b : Bool) → StepOk (heard reads (if b then Replied x.reply (record s { todo = xs }) else Unreplied (record s { wants = Some q })))
      go true = read_ok (reads x.reply) (record s { todo = xs }) h
      go false = tt

  heard_ok : {A : Type 0} (reads : Reply → Reading A) (q : Ask) (s : ActorState) → StateOk s → StepOk (heard reads (asks q s))
  unfolding asks
  heard_ok reads q s h = received_ok reads q s s.todo h

  then_ok : {A B : Type 0} (x : StepResult A) (go : A → ActorState → StepResult B) → StepOk x → ((a : A) (s : ActorState) → StateOk s → StepOk (go a s)) → StepOk (on_step x go)
  then_ok (Continue a s) go h k = k a s h
  then_ok (Redo s) go h k = h
  then_ok (Break f s) go h k = h
  then_ok (Await s) go h k = tt
  then_ok Malformed go h k = tt

  result_ok : {A : Type 0} (x : Result A FaultKind) (span : Span) (s : ActorState) → StateOk s → StepOk (step_of x span s)
  result_ok (Ok a) span s h = h
  result_ok (Err k) span s h = h

  begin_ok : (s : ActorState) → StateOk s → StepOk (begin s)
  unfolding begin
  begin_ok s h = then_ok (heard read_point (asks ask.Begin s)) begun (heard_ok read_point ask.Begin s h) (λ p s1 h1. (tt, tt, h1.2))

  look_ok : (d : CellId) (s : ActorState) → StateOk s → StepOk (look d s)
  unfolding look
  look_ok d s h = own (buffered s.done.values d.number)
    where
      own : (o : Option Value) → StepOk (buffered_or o s (heard value_there (asks (ask.Look d s.at) s)))
      own (Some v) = h
      own None = heard_ok value_there (ask.Look d s.at) s h

  viewed_ok : (q : ℕ) (o : Option Writes) (s : ActorState) → StateOk s → StepOk (viewed q o s)
  viewed_ok q None s h = tt
  viewed_ok q (Some ws) s h = h

  view_ok : (s : ActorState) → StateOk s → StepOk (view s)
  unfolding view
  view_ok s h =
      then_ok (heard views (asks (ask.View (commuted s.done)) s)) (λ x s1. viewed x.0 (paired (commuted s.done) x.1) s1) (heard_ok views (ask.View (commuted s.done)) s h)
      (λ x s1 h1. viewed_ok x.0 (paired (commuted s.done) x.1) s1 h1)

  landed_ok : (v : Verdict) (s : ActorState) → StateOk s → StepOk (landed v s)
  landed_ok Landed s h = (h.0, h.1, acts_held agent s.acting s.done.sends h.2)
  landed_ok Outdated s h = h
  landed_ok Undone s h = h
  landed_ok Denied s h = h

  commit_ok : (ws : Writes) (s : ActorState) → StateOk s → StepOk (commit ws s)
  unfolding commit
  commit_ok ws s h =
      then_ok (heard commit_verdict (asks (ask.Commit s.at (set_writes s.done) s.done.ensures s.view ws (sends_of_commit (held_in s.acting) s.done.sends)) s)) landed (heard_ok commit_verdict _ s h) landed_ok

  peek_ok : (d : CellId) (s : ActorState) → StateOk s → StepOk (peek d s)
  unfolding peek
  peek_ok d s h = heard_ok newest_value (ask.Peek d) s h

  open_atom_ok : (d : CellId) (s : ActorState) → StateOk s → StepOk (open_atom d s)
  unfolding open_atom
  open_atom_ok d s h = then_ok (heard opened (asks (ask.OpenAt d) s)) _ (heard_ok opened (ask.OpenAt d) s h) (λ x s1 h1. h1)

  close_swap_ok : (w : SwapInHand) (v : Value) (s : ActorState) → StateOk s → StepOk (close_swap w v s)
  unfolding close_swap
  close_swap_ok w v s h = heard_ok swap_verdict _ s h

  reset_ok : (d : CellId) (v : Value) (s : ActorState) → StateOk s → StepOk (reset_atom d v s)
  unfolding reset_atom
  reset_ok d v s h = then_ok (heard just_done (asks (ask.CloseAt d None v) s)) _ (heard_ok just_done (ask.CloseAt d None v) s h) (λ u s1 h1. h1)

  sent_ok : (x : Action) (v : Verdict) (s : ActorState) → StateOk s → StepOk (sent x v s)
  sent_ok x Landed s h = h
  sent_ok x Outdated s h = tt
  sent_ok x Undone s h = tt
  sent_ok x Denied s h = h

  send_now_ok : (x : Action) (s : ActorState) → StateOk s → StepOk (send_now x s)
  unfolding send_now
  send_now_ok x s h = then_ok (heard send_verdict (asks (ask.Send x) s)) (sent x) (heard_ok send_verdict (ask.Send x) s h) (λ v s1 h1. sent_ok x v s1 h1)

  read_cell_ok : (f : LookForm) (inside : Bool) (d : CellId) (s : ActorState) → StateOk s → StepOk (read_cell f inside d s)
  read_cell_ok Deref true d s h = look_ok d s h
  read_cell_ok Deref false d s h = peek_ok d s h
  read_cell_ok Ensure true d s h = then_ok (look d s) _ (look_ok d s h) (λ v s1 h1. h1)
  read_cell_ok Ensure false d s h = tt

  read_form_ok : (f : LookForm) (inside : Bool) (span : Span) (v : Value) (s : ActorState) → StateOk s → StepOk (read f inside span v s)
  read_form_ok f inside span v s h =
      then_ok (step_of (cell_of (rule (form.Look f)) inside v) span s) (read_cell f inside) (result_ok (cell_of (rule (form.Look f)) inside v) span s h) (λ d s1 h1. read_cell_ok f inside d s1 h1)

  set_ok : (span : Span) (v : Value) (d : CellId) (s : ActorState) → StateOk s → StepOk (set_own span v d s)
  set_ok span v d s h = go (is_commuted s.done d.number)
    where
      go : (b : Bool) → StepOk (on_step (step_of (if b then Err SetAfterCommute else Ok (record s.done { values = with_write s.done.values d v; sets = with_cell s.done.sets d })) span s) (λ w s1. Continue v (record s1 { done = w })))
      go true = h
      go false = h

  assign_cell_ok : (f : PutForm) (inside : Bool) (span : Span) (v : Value) (d : CellId) (s : ActorState) → StateOk s → StepOk (assign_cell f inside span v d s)
  assign_cell_ok RefSet true span v d s h = set_ok span v d s h
  assign_cell_ok RefSet false span v d s h = tt
  assign_cell_ok Reset false span v d s h = reset_ok d v s h
  assign_cell_ok Reset true span v d s h = tt

  assign_ok : (f : PutForm) (inside : Bool) (span : Span) (cell v : Value) (s : ActorState) → StateOk s → StepOk (assign f inside span cell v s)
  assign_ok f inside span cell v s h =
      then_ok (step_of (cell_of (rule (form.Put f)) inside cell) span s) (assign_cell f inside span v) (result_ok (cell_of (rule (form.Put f)) inside cell) span s h) (λ d s1 h1. assign_cell_ok f inside span v d s1 h1)

  -- an update's callee is pure where it is a commute's
  abbrev UpdatePure : RefUpdate → Type 0
  UpdatePure Alters = Unit {0}
  UpdatePure (Commutes f) = IsPureCallee kinds f

  kept_ok : (u : RefUpdate) (d : CellId) (vs : List Value) → UpdatePure u → CommutingPure (kept_open u d vs)
  kept_ok Alters d vs h = tt
  kept_ok (Commutes f) d vs h = h

  open_ok : (u : RefUpdate) → UpdatePure u → (inside : Bool) (span : Span) (cell : Value) (vs : List Value) (s : ActorState) → StateOk s → StepOk (open_update u inside span cell vs s)
  open_ok u p false span cell vs s h = tt
  open_ok u p true span cell vs s h =
      then_ok (step_of (cell_of (rule (form.Update (update_form u))) true cell) span s) _ (result_ok (cell_of (rule (form.Update (update_form u))) true cell) span s h)
      (λ d s1 h1. then_ok (look d s1) _ (look_ok d s1 h1) (λ x s2 h2. (h2.0, kept_ok u d vs p, h2.2)))

  commutes_append : (cs js : List Commute) → CommutesPure cs → CommutesPure js → CommutesPure (cs ++ js)
  commutes_append [] js h g = g
  commutes_append (k ∷ cs) js h g = (h.0, commutes_append cs js h.1 g)

  close_own_ok : (o : Option Commute) (span : Span) (w : Value) (d : CellId) (s : ActorState) → CommutingPure o → StateOk s → StepOk (close_own o span w d s)
  close_own_ok None span w d s p h = set_ok span w d s h
  close_own_ok (Some k) span w d s p h = (commutes_append s.done.commutes _ h.0 (p, tt), tt, h.2)

  close_ok : (span : Span) (cell w : Value) (s : ActorState) → StateOk s → StepOk (close_update span cell w s)
  close_ok span cell w s h =
      then_ok (step_of (cell_of (rule (form.Update update.Alter)) true cell) span s) (close_own s.commuting span w) (result_ok (cell_of (rule (form.Update update.Alter)) true cell) span s h)
      (λ d s1 h1. close_own_ok s.commuting span w d s1 h.1 h1)

  open_swap_ok : (inside : Bool) (span : Span) (cell : Value) (s : ActorState) → StateOk s → StepOk (open_swap inside span cell s)
  open_swap_ok true span cell s h = tt
  open_swap_ok false span cell s h =
      then_ok (step_of (cell_of (rule (form.Update update.Swap)) false cell) span s) open_atom (result_ok (cell_of (rule (form.Update update.Swap)) false cell) span s h) (λ d s1 h1. open_atom_ok d s1 h1)

  send_action_ok : (inside : Bool) (x : Action) (s : ActorState) → StateOk s → StepOk (send_action inside x s)
  send_action_ok true x s h = h
  send_action_ok false x s h = or_hold s.acting
    where
      or_hold : (o : Option InHand) → StepOk (send_or_hold o x s)
      or_hold None = send_now_ok x s h
      or_hold (Some y) = (h.0, h.1, acts_held agent s.acting (x ∷ []) h.2)

  finish_pure : (k : CellId) (new : Result Value Fault) (sends : List Action) (s : ActorState) → PureState s → StepKeeps PureState (finish k new sends s)
  unfolding finish
  finish_pure k new sends s h = heard_keeps PureState taken_back (ask.Finish k new sends) s (λ t. h)

  -- a state in which no action runs
  abbrev Unacting : ActorState → Type 0
  Unacting s = PureState s × (s.acting ≡ None)

  take_pure : (k : CellId) (s : ActorState) → Unacting s → StepKeeps Unacting (take_action k s)
  unfolding take_action
  take_pure k s h = heard_keeps Unacting handed_out (ask.Take k) s (λ t. h)

  send_ok : (inside : Bool) (span : Span) (cell : Value) (f : Callee) (vs : List Value) (s : ActorState) → StateOk s → StepOk (send_to inside span cell f vs s)
  send_ok inside span cell f vs s h =
      then_ok (step_of (cell_of (rule form.Send) inside cell) span s) _ (result_ok (cell_of (rule form.Send) inside cell) span s h) (λ g s1 h1. send_action_ok inside _ s1 h1)

  print_ok : (inside : Bool) (vs : List Value) (s : ActorState) → StateOk s → StepOk (print inside vs s)
  unfolding print
  print_ok true vs s h = tt
  print_ok false vs s h = h

  found_ok : (o : Option Value) (s : ActorState) → StateOk s → StepOk (found o s)
  found_ok None s h = tt
  found_ok (Some v) s h = h

  commutes_among : (n : ℕ) (cs : List Commute) → CommutesPure cs → CommutesPure (commutes_of n cs)
  commutes_among n [] h = tt
  commutes_among n (k ∷ cs) h = go (commutes_among n cs h.1) (k.cell.number == n)
    where
      go : CommutesPure (commutes_of n cs) → (t : Bool) → CommutesPure (if t then k ∷ commutes_of n cs else commutes_of n cs)
      go r true = (h.0, r)
      go r false = r

  phase_pure : (ds : List CellId) (cs : List Commute) → CommutesPure cs → CommutesPure (by_ref ds cs)
  phase_pure [] cs h = tt
  phase_pure (d ∷ ds) cs h = commutes_append (commutes_of d.number cs) (by_ref ds cs) (commutes_among d.number cs h) (phase_pure ds cs h)

  redoes_pure : (ks : List Commute) (work : List Task) → CommutesPure ks → TasksPure work → TasksPure (map Redoes ks ++ work)
  redoes_pure [] work h g = g
  redoes_pure (k ∷ ks) work h g = (h.0, redoes_pure ks work h.1 g)

  -- the state says nothing of what is going on
  state_ok : (c : Configuration) (s : ActorState) (doing : Activity) → DoingOk c doing → DoingOk (record c { state = s }) doing
  state_ok c s Outside ok = ok
  state_ok c s (Restarting left) ok = ok
  state_ok c s (Running left inner from) ok = ok
  state_ok c s (Applying left from work values) ok = ok
  state_ok c s (Swapping swap from) ok = ok

  returned_ok : (awaits : Destination) (v : Value) (s : ActorState) → StateOk s → StateOk (state_after awaits v s)
  returned_ok to_stack v s h = h
  returned_ok to_commutes v s h = h
  returned_ok to_validation v s h = h

  -- ---- turns

  -- an action that is over is handed in by its agent
  fails_over : (o : Option InHand) → Acts agent o → (f : Fault) (s : ActorState) → PureState s → Lands (fails_with o f s)
  fails_over None k f s h = tt
  fails_over (Some x) k f s h = inr (inl (acts_agent agent x k, refl, tt, refl, tt, h))

  fails_land : (f : Fault) (s : ActorState) → StateOk s → Lands (fails_with s.acting f s)
  fails_land f s h = fails_over s.acting h.2 f s (h.0, h.1)

  -- where it was handed in, the agent begins again
  rests_told : agent ≡ true → (x : StepResult (Unit {0})) → StepKeeps PureState x → Lands (told x (λ s. Unfinished (first_place [] (rested s))))
  rests_told e (Continue u s) h = inr (inl (e, refl, tt, refl, tt, h))
  rests_told e (Break f s) h = tt
  rests_told e (Redo s) h = tt
  rests_told e (Await s) h = tt
  rests_told e Malformed h = tt

  told_lands : (x : StepResult (Unit {0})) (f : Fault) → StepOk x → Lands (told x (λ s. fails_with s.acting f s))
  told_lands (Continue u s) f h = fails_land f s h
  told_lands (Break g s) f h = tt
  told_lands (Redo s) f h = tt
  told_lands (Await s) f h = tt
  told_lands Malformed f h = tt

  fail_ok : (s : ActorState) → StateOk s → StepOk (fail s)
  unfolding fail
  fail_ok s h = heard_ok just_done (ask.Fail s.at s.view) s h

  break_ok : (w : SwapInHand) (s : ActorState) → StateOk s → StepOk (break_swap w s)
  unfolding break_swap
  break_ok w s h = heard_ok just_done (ask.Broke w.cell w.at) s h

  over_lands : (o : Option InHand) → Acts agent o → (f : Fault) (s : ActorState) → PureState s → Lands (ends_with o f s)
  over_lands None k f s h = tt
  over_lands (Some x) k f s h = rests_told (acts_agent agent x k) (finish x.agent (Err f) [] s) (finish_pure x.agent (Err f) [] s h)

  raise_lands : (c : Configuration) (doing : Activity) → DoingOk c doing → (f : Fault) (s : ActorState) → StateOk s → Lands (raise doing f s)
  raise_lands c Outside ok f s h = over_lands s.acting h.2 f s (h.0, h.1)
  raise_lands c (Restarting left) ok f s h = fails_land f s h
  raise_lands c (Running left inner from) ok f s h = told_lands (fail s) f (fail_ok s h)
  raise_lands c (Applying left from work values) ok f s h = told_lands (fail s) f (fail_ok s h)
  raise_lands c (Swapping swap from) ok f s h = told_lands (break_swap swap s) f (break_ok swap s h)

  rerun_lands : (left : ℕ) (from : Savepoint) (s : ActorState) → SavedAt from → StateOk s → Lands (rerun left from s)
  rerun_lands zero from s g h = fails_land (fault_at RetryLimit from.span) s h
  rerun_lands (suc left) from s g h = inl (g.0, g.1, tt, h)

  retried_lands : (c : Configuration) (doing : Activity) (s : ActorState) → DoingOk c doing → StateOk s → Lands (retried doing s)
  retried_lands c Outside s ok h = tt
  retried_lands c (Restarting left) s ok h = tt
  retried_lands c (Running left inner from) s ok h = rerun_lands left from s ok h
  retried_lands c (Applying left from work values) s ok h = tt
  retried_lands c (Swapping swap from) s ok h = tt

  on_lands : {A : Type 0} (c : Configuration) (doing : Activity) → DoingOk c doing → (x : StepResult A) (go : A → ActorState → Turned Configuration) → StepOk x → ((a : A) (s : ActorState) → StateOk s → Lands (go a s)) → Lands (on doing x go)
  on_lands c doing ok (Continue a s) go h k = k a s h
  on_lands c doing ok (Break f s) go h k = raise_lands c doing ok f s h
  on_lands c doing ok (Redo s) go h k = retried_lands c doing s ok h
  on_lands c doing ok (Await s) go h k = tt
  on_lands c doing ok Malformed go h k = tt

  top_lands : (stack : List Value) (go : Value → List Value → Turned Configuration) → ((v : Value) (rest : List Value) → Lands (go v rest)) → Lands (on_top stack go)
  top_lands [] go h = tt
  top_lands (v ∷ rest) go h = h v rest

  args_land : (n : ℕ) (stack vs : List Value) (go : List Value → List Value → Turned Configuration) → ((ws rest : List Value) → Lands (go ws rest)) → Lands (on_args n stack vs go)
  args_land zero stack vs go h = h vs stack
  args_land (suc n) [] vs go h = tt
  args_land (suc n) (v ∷ stack) vs go h = args_land n stack (v ∷ vs) go h

  two_land : (stack : List Value) (go : Value → Value → List Value → Turned Configuration) → ((w v : Value) (rest : List Value) → Lands (go w v rest)) → Lands (on_two stack go)
  two_land stack go h = top_lands stack (λ w under. on_top under (go w)) (λ w under. top_lands under (go w) (h w))

  args_of_land : (n : ℕ) (stack : List Value) (go : List Value → Value → List Value → Turned Configuration) → ((vs : List Value) (v : Value) (rest : List Value) → Lands (go vs v rest)) → Lands (on_args_of n stack go)
  args_of_land n stack go h = args_land n stack [] (λ vs under. on_top under (go vs)) (λ vs under. top_lands under (go vs) (h vs))

  after_ok : (c : Configuration) (awaits : Destination) (v : Value) (doing : Activity) → DoingOk c doing → DoingOk c (doing_after awaits v doing)
  after_ok c to_stack v doing h = h
  after_ok c to_commutes v Outside h = h
  after_ok c to_commutes v (Restarting left) h = h
  after_ok c to_commutes v (Running left inner from) h = h
  after_ok c to_commutes v (Applying left from [] values) h = h
  after_ok c to_commutes v (Applying left from (Redoes k ∷ work) values) h = (h.0, h.1.1, h.2)
  after_ok c to_commutes v (Applying left from (Validates d f ∷ work) values) h = h
  after_ok c to_commutes v (Swapping swap from) h = h
  after_ok c to_validation v doing h = h

  choose_at : (P : ℕ → Type 0) (v : Value) (x y : ℕ) → P x → P y → P (choose v x y)
  choose_at P Nil x y h g = g
  choose_at P (Truth false) x y h g = g
  choose_at P (Truth true) x y h g = h
  choose_at P (Int z) x y h g = h
  choose_at P (Key bs) x y h g = h
  choose_at P (Text bs) x y h g = h
  choose_at P (Vector ds) x y h g = h
  choose_at P (Cell d) x y h g = h

  -- what is known of all bodies
  module _ (functions : (f : ℕ) (kind : FunctionKind) → nth kinds f ≡ Some kind → Body (suc f) (a_function kind)) (valid : (k : ℕ) (f : Callee) → validator_at tc.validators k ≡ Some f → IsPureCallee kinds f)
      (own : agent ≡ true → main ≡ agent_body g) (unkinded : (f : ℕ) → nth kinds f ≡ None → nth tc.functions f ≡ None) where
    function_at : (f : ℕ) (kind : FunctionKind) → nth kinds f ≡ Some kind → Somewhere (suc f) 0
    function_at f kind e = let b = functions f kind e in inl (typed.plain 0, record { owner = a_function kind; body = b; here = b.staging.first })

    pure_function_at : (f : ℕ) → IsPureFunction kinds f → PureAt (suc f) 0
    pure_function_at f p = let b = functions f p.0 p.1 in record { owner = a_function p.0; body = b; pure = p.2; here = b.staging.first }

    validations_pure : (ds : List CellId) → TasksPure (validations tc.validators ds)
    validations_pure [] = tt
    validations_pure (d ∷ ds) = go (validator_at tc.validators d.number) (valid d.number) (validations_pure ds)
      where
        go : (o : Option Callee) → ((f : Callee) → o ≡ Some f → IsPureCallee kinds f) → TasksPure (validations tc.validators ds) → TasksPure (with_validation d o (validations tc.validators ds))
        go None k h = h
        go (Some f) k h = (k f refl, h)

    tasks_pure : (w : PlainTxFrame) → CommutesPure w.commutes → TasksPure (tasks_of tc.validators w)
    tasks_pure w h = redoes_pure (phase_work w) (validations tc.validators (written w)) (phase_pure (commuted w) w.commutes h) (validations_pure (written w))

    module _ (c : Configuration) (h : Holds c) where
      -- ---- validators

      -- a validator's function may be called from here
      abbrev MayValidate : Value → Type 0
      MayValidate v = (n : ℕ) → PureAt (suc n) 0 → DoingOk (called tc n (v ∷ []) to_validation c.place c.stack c) c.doing

      abbrev NextLands : (Configuration → Turned Configuration) → Type 0
      NextLands go = (s : ActorState) → StateOk s → Lands (go (record c { state = s }))

      validates_land : (f : Callee) → IsPureCallee kinds f → (v : Value) (span : Span) → MayValidate v → Lands (validates tc f v span c)
      validates_land (callee.Core op) p v span calls =
          on_lands c c.doing h.2 (step_of (core op (v ∷ [])) span c.state) _ (result_ok (core op (v ∷ [])) span c.state h.3) (λ answer s q. inl (h.0, h.1, state_ok c (answered answer s) c.doing h.2, q))
      validates_land (callee.Function f) p v span calls = inl (pure_somewhere (suc f) 0 (pure_function_at f p), (h.0, h.1), calls f (pure_function_at f p), h.3)

      accepted_lands : (o : Option Bool) (f : Callee) → IsPureCallee kinds f → (v : Value) (span : Span) (go : Configuration → Turned Configuration) → MayValidate v → NextLands go → Lands (where_accepted tc o f v span c go)
      accepted_lands None f p v span go calls k = validates_land f p v span calls
      accepted_lands (Some true) f p v span go calls k = k (record c.state { accepted = None }) h.3
      accepted_lands (Some false) f p v span go calls k = raise_lands c c.doing h.2 (fault_at InvalidState span) (record c.state { accepted = None }) h.3

      valid_lands : (o : Option Callee) → ((f : Callee) → o ≡ Some f → IsPureCallee kinds f) → (v : Value) (span : Span) (go : Configuration → Turned Configuration) → MayValidate v → NextLands go → Lands (where_valid tc o v span c go)
      valid_lands None p v span go calls k = k c.state h.3
      valid_lands (Some f) p v span go calls k = accepted_lands c.state.accepted f (p f refl) v span go calls k

      -- ---- ends

      -- what is going on may be so at the end of a transaction, and in what is applied there
      abbrev MayApply : Type 0
      MayApply = (d : Configuration) → PlaceIn EndHere d → DoingOk d c.doing

      decided_lands : Somewhere c.body (c.place + 1) → (left : ℕ) (from : Savepoint) → SavedAt from → (v : Verdict) (s : ActorState) → StateOk s → Lands (decided v left from c s)
      decided_lands next left from g Landed s q = inl (next, h.1, tt, q)
      decided_lands next zero from g Outdated s q = fails_land (fault_at RetryLimit from.span) s q
      decided_lands next (suc left) from g Outdated s q = inl (h.0, h.1, g, q)
      decided_lands next left from g Undone s q = rerun_lands left from s g q
      decided_lands next left from g Denied s q = fails_land (fault_at AgentFailed from.span) s q

      lands_land : Somewhere c.body (c.place + 1) → (left : ℕ) (from : Savepoint) (values : Writes) → SavedAt from → Lands (lands left from values c)
      lands_land next left from values g =
          on_lands c c.doing h.2 (commit values c.state) (λ verdict s. decided verdict left from c s) (commit_ok values c.state h.3) (λ v s q. decided_lands next left from g v s q)

      applies_land : EndHere c.body c.place → MayApply → (f : Callee) (left : ℕ) (from : Savepoint) (k : Commute) (work : List Task) (values : Writes) → IsPureCallee kinds f → SavedAt from → TasksPure work → Lands (applies tc f left from k work values c)
      applies_land end may (callee.Core op) left from k work values p g w =
          on_lands c c.doing h.2 (step_of (core op (arguments_of k values)) from.span c.state) _ (result_ok (core op (arguments_of k values)) from.span c.state h.3) (λ v s q. inl (h.0, h.1, (g, w, inl end), q))
      applies_land end may (callee.Function f) left from k work values p g w =
          inl (pure_somewhere (suc f) 0 (pure_function_at f p), (h.0, h.1), may (called tc f (arguments_of k values) to_commutes c.place c.stack c) (inr (pure_function_at f p, inl end)), h.3)

    works_land : (work : List Task) (left : ℕ) (from : Savepoint) (values : Writes) → SavedAt from → TasksPure work → (c : Configuration) (h : Holds c) → Somewhere c.body (c.place + 1) → EndHere c.body c.place → MayApply c h → Lands (works tc left from work values c)
    works_land [] left from values g w c h next end may = lands_land c h next left from values g
    works_land (Redoes k ∷ work) left from values g w c h next end may = applies_land c h end may k.callee left from k work values w.0 g w.1
    works_land (Validates d f ∷ work) left from values g w c h next end may =
        accepted_lands (staying (Applying left from (Validates d f ∷ work) values) c.state c) (h.0, h.1, (g, w, inl end), h.3) c.state.accepted f w.0 (to_write values c.state.done d.number) from.span
        (λ c1. works tc left from work values (staying (Applying left from work values) c1.state c1)) (λ n q. (g, w, inr (q, inl end)))
        (λ s q. works_land work left from values g w.1 (staying (Applying left from work values) s c) (h.0, h.1, (g, w.1, inl end), q) next end (λ e p. (g, w.1, p)))

    module _ (c : Configuration) (h : Holds c) where
      settles_land : Somewhere c.body (c.place + 1) → EndHere c.body c.place → MayApply c h → (cs : List CellId) (left : ℕ) (from : Savepoint) → SavedAt from → Lands (settles tc cs left from c)
      settles_land next end may [] left from g = works_land (tasks_of tc.validators c.state.done) left from [] g (tasks_pure c.state.done h.3.0) c h next end may
      settles_land next end may (d ∷ cs) left from g = on_lands c c.doing h.2 (view c.state) _ (view_ok c.state h.3) (λ values s q. inl (h.0, h.1, (g, tasks_pure s.done q.0, inl end), q))

      ends_land : Somewhere c.body (c.place + 1) → EndHere c.body c.place → (doing : Activity) → c.doing ≡ doing → DoingOk c doing → Lands (ends tc doing c)
      ends_land next end Outside e ok = tt
      ends_land next end (Restarting left) e ok = tt
      ends_land next end (Running left (suc inner) from) e ok = inl (next, h.1, ok, h.3)
      ends_land next end (Running left zero from) e ok = settles_land next end (λ d p. subst (DoingOk d) (sym e) ok) (commuted c.state.done) left from ok
      ends_land next end (Applying left from work values) e ok = works_land work left from values ok.0 ok.1 c h next end (λ d p. subst (DoingOk d) (sym e) (ok.0, ok.1, p))
      ends_land next end (Swapping swap from) e ok = tt

      -- ---- swaps

      swap_decided_lands : Somewhere c.body (c.place + 1) → (from : Savepoint) → SavedAt from → (w : Value) (rest : List Value) (v : Verdict) (t s : ActorState) → StateOk s → Lands (swap_decided v from w rest (record c { state = t }) s)
      swap_decided_lands next from g w rest Landed t s q = inl (next, h.1, tt, q)
      swap_decided_lands next from g w rest Outdated t s q = inl (g.0, g.1, tt, q)
      swap_decided_lands next from g w rest Undone t s q = tt
      swap_decided_lands next from g w rest Denied t s q = tt

      closes_swap_lands : Somewhere c.body (c.place + 1) → (doing : Activity) → DoingOk c doing → (w : Value) (rest : List Value) → MayValidate c h w → Lands (closes_swap tc doing w rest c)
      closes_swap_lands next (Swapping swap from) ok w rest calls =
          valid_lands c h (validator_at tc.validators swap.cell.number) (valid swap.cell.number) w from.span (λ c1. on c1.doing (close_swap swap w c1.state) (λ verdict s. swap_decided verdict from w rest c1 s)) calls
          (λ t p. on_lands c c.doing h.2 (close_swap swap w t) (λ verdict s. swap_decided verdict from w rest (record c { state = t }) s) (close_swap_ok swap w t p) (λ v s q. swap_decided_lands next from ok.0 w rest v t s q))
      closes_swap_lands next Outside ok w rest calls = tt
      closes_swap_lands next (Restarting left) ok w rest calls = tt
      closes_swap_lands next (Running left inner from) ok w rest calls = tt
      closes_swap_lands next (Applying left from work values) ok w rest calls = tt

      -- ---- returns

      -- where the last caller continues
      abbrev returned : Frame → List Frame → Value → Configuration
      returned f frames v =
          record c { body = f.body; place = f.place; stack = stack_after f.awaits v f.stack; locals = f.locals; frames = frames; doing = doing_after f.awaits v c.doing; state = state_after f.awaits v c.state }

      -- ---- where what is going on says nothing of the place

      module _ (free : (d : Configuration) → DoingOk d c.doing) where
        gives_lands : Somewhere c.body (c.place + 1) → (rest : List Value) (r : StepResult Value) → StepOk r → Lands (gives c rest r)
        gives_lands next rest r p = on_lands c c.doing h.2 r (λ v s. Unfinished (ahead (v ∷ rest) s c)) p (λ v s q. inl (next, h.1, free (ahead (v ∷ rest) s c), q))

        begins_lands : Somewhere c.body (c.place + 1) → (span : Span) (doing : Activity) → DoingOk c doing → Lands (begins doing span c)
        begins_lands next span Outside ok = on_lands c c.doing h.2 (begin c.state) _ (begin_ok c.state h.3) (λ u s q. inl (next, h.1, (h.0, h.1), q))
        begins_lands next span (Restarting left) ok = on_lands c c.doing h.2 (begin c.state) _ (begin_ok c.state h.3) (λ u s q. inl (next, h.1, (h.0, h.1), q))
        begins_lands next span (Running left inner from) ok = inl (next, h.1, ok, h.3)
        begins_lands next span (Applying left from work values) ok = tt
        begins_lands next span (Swapping swap from) ok = tt

        opens_ref_lands : Somewhere c.body (c.place + 1) → (u : RefUpdate) → UpdatePure u → (span : Span) (vs : List Value) (cell : Value) (rest : List Value) → Lands (opens_ref u span vs cell rest c)
        opens_ref_lands next u p span vs cell rest =
            on_lands c c.doing h.2 (open_update u (is_inside c.doing) span cell vs c.state) _ (open_ok u p (is_inside c.doing) span cell vs c.state h.3) (λ v s q. inl (next, h.1, free (ahead (push_all vs (v ∷ cell ∷ rest)) s c), q))

        opens_atom_lands : SwapHere c.body (c.place + 1) → (doing : Activity) (span : Span) (vs : List Value) (cell : Value) (rest : List Value) → Lands (opens_atom doing span vs cell rest c)
        opens_atom_lands next Outside span vs cell rest =
            on_lands c c.doing h.2 (open_swap false span cell c.state) _ (open_swap_ok false span cell c.state h.3) (λ o s q. inl (inl (next.0, next.1), h.1, ((h.0, h.1), inl next), q))
        opens_atom_lands next (Restarting left) span vs cell rest = tt
        opens_atom_lands next (Running left inner from) span vs cell rest = tt
        opens_atom_lands next (Applying left from work values) span vs cell rest = tt
        opens_atom_lands next (Swapping swap from) span vs cell rest = tt

        -- behind an open stands its callee, which is pure
        opened_pure : (n at t k : ℕ) (f : Callee) → At n at (typed.opened t k (open_form.Commute f)) → IsPureCallee kinds f
        opened_pure n at t k f a = let x = a.body.staging.fits at (typed.opened t k (open_form.Commute f)) a.here in go x.0 x.2
          where
            go : (i : Instr) → FitsStage fs a.owner a.body.stages at (typed.opened t k (open_form.Commute f)) i → IsPureCallee kinds f
            go (instr.Core op m) x = subst (IsPureCallee kinds) (sym x.1) tt
            go (instr.Call g) x = subst (IsPureCallee kinds) (sym x.2) x.1
            go (instr.Const j) x = absurd x
            go (instr.Local j) x = absurd x
            go (instr.Store j) x = absurd x
            go instr.Pop x = absurd x
            go (instr.Jump to) x = absurd x
            go (instr.JumpFalse to) x = absurd x
            go instr.Return x = absurd x
            go (instr.Vector m) x = absurd x
            go (instr.Print m) x = absurd x
            go (instr.Look l) x = absurd x
            go (instr.Put l) x = absurd x
            go instr.TxBegin x = absurd x
            go instr.TxEnd x = absurd x
            go (instr.Open by m) x = absurd x
            go (instr.Close by) x = absurd x
            go (instr.Send g m) x = absurd x
            go instr.Halt x = absurd x

        opens_land : (t n : ℕ) (f : OpenForm) → At c.body (c.place + 1) (typed.opened t n f) → (span : Span) (vs : List Value) (cell : Value) (rest : List Value) → Lands (opens f span vs cell rest c)
        opens_land t n open_form.Alter next span vs cell rest = opens_ref_lands (inl (typed.opened t n open_form.Alter, next)) Alters tt span vs cell rest
        opens_land t n (open_form.Commute k) next span vs cell rest =
            opens_ref_lands (inl (typed.opened t n (open_form.Commute k), next)) (Commutes k) (opened_pure c.body (c.place + 1) t n k next) span vs cell rest
        opens_land t n (open_form.Swap k) next span vs cell rest = opens_atom_lands (typed.opened t n (open_form.Swap k), next, refl) c.doing span vs cell rest

        puts_land : (f : PutForm) → Somewhere c.body (c.place + 1) → (span : Span) (w cell : Value) (rest : List Value) → Lands (puts tc f span w cell rest c)
        puts_land RefSet next span w cell rest = gives_lands next rest (assign RefSet (is_inside c.doing) span cell w c.state) (assign_ok RefSet (is_inside c.doing) span cell w c.state h.3)
        puts_land Reset next span w cell rest =
            on_lands c c.doing h.2 (cell_at (form.Put Reset) (is_inside c.doing) span cell c.state) _ (result_ok (cell_of (rule (form.Put Reset)) (is_inside c.doing) cell) span c.state h.3)
            (λ a s q. valid_lands c h (validator_at tc.validators a.number) (valid a.number) w span (λ c1. gives c1 rest (assign_cell Reset (is_inside c.doing) span w a c1.state)) (λ n p. free (called tc n (w ∷ []) to_validation c.place c.stack c))
            (λ t p. on_lands c c.doing h.2 (assign_cell Reset (is_inside c.doing) span w a t) (λ v s1. Unfinished (ahead (v ∷ rest) s1 (record c { state = t }))) (assign_cell_ok Reset (is_inside c.doing) span w a t p)
            (λ v s1 q1. inl (next, h.1, free (ahead (v ∷ rest) s1 (record c { state = t })), q1))))

        closes_land : (f : UpdateForm) → Somewhere c.body (c.place + 1) → (span : Span) (w cell : Value) (rest : List Value) → Lands (closes tc f span w cell rest c)
        closes_land update.Alter next span w cell rest = gives_lands next rest (close_update span cell w c.state) (close_ok span cell w c.state h.3)
        closes_land update.Commute next span w cell rest = gives_lands next rest (close_update span cell w c.state) (close_ok span cell w c.state h.3)
        closes_land update.Swap next span w cell rest = closes_swap_lands next c.doing h.2 w rest (λ n p. free (called tc n (w ∷ []) to_validation c.place c.stack c))

        call_lands : Somewhere c.body (c.place + 1) → (f : ℕ) → Somewhere (suc f) 0 → (vs rest : List Value) → Holds (called tc f vs to_stack (c.place + 1) rest c)
        call_lands next f there vs rest = (there, (next, h.1), free (called tc f vs to_stack (c.place + 1) rest c), h.3)

        returns_land : (frames : List Frame) → FramesAt frames → (v : Value) → Lands (returns_to frames v c)
        returns_land [] g v = tt
        returns_land (f ∷ frames) g v = inl (
          g.0,
          g.1,
          after_ok (returned f frames v) f.awaits v c.doing (free (returned f frames v)),
          returned_ok f.awaits v c.state h.3,
        )

        module _ (a : Coded c.body c.place) where
          abbrev ss : Stages
          ss = a.1.body.stages

          abbrev there : (to : ℕ) (st : typed.Stage) → LeadsTo ss to st → Somewhere c.body to
          there to st e = inl (st, record { owner = a.1.owner; body = a.1.body; here = e })

          -- an instruction at a place in transactions of its own
          plain_lands : (t : ℕ) (i : Instr) (span : Span) → FitsStage fs a.1.owner ss c.place (typed.plain t) i → (EndThere (Some (plain_instr ps ks i span)) → EndHere c.body c.place) → Lands (act tc (Some (plain_instr ps ks i span)) c)
          plain_lands t (instr.Const k) span x en = inl (there (c.place + 1) (typed.plain t) x, h.1, free (ahead (slice_index_or ks k Nil ∷ c.stack) c.state c), h.3)
          plain_lands t (instr.Local k) span x en = gives_lands (there (c.place + 1) (typed.plain t) x) c.stack (found (nth c.locals k) c.state) (found_ok (nth c.locals k) c.state h.3)
          plain_lands t (instr.Store k) span x en = top_lands c.stack _ (λ v rest. inl (there (c.place + 1) (typed.plain t) x, h.1, free (record (ahead rest c.state c) { locals = put c.locals k v }), h.3))
          plain_lands t instr.Pop span x en = top_lands c.stack _ (λ v rest. inl (there (c.place + 1) (typed.plain t) x, h.1, free (ahead rest c.state c), h.3))
          plain_lands t (instr.Jump to) span x en = inl (there to (typed.plain t) x, h.1, free (record c { place = to }), h.3)
          plain_lands t (instr.JumpFalse to) span x en =
              top_lands c.stack _ (λ v rest. inl (choose_at (Somewhere c.body) v (c.place + 1) to (there (c.place + 1) (typed.plain t) x.1) (there to (typed.plain t) x.0), h.1, free (record c { place = choose v (c.place + 1) to; stack = rest }), h.3))
          plain_lands t (instr.Core op n) span x en =
              args_land n c.stack [] _ (λ vs rest. gives_lands (there (c.place + 1) (typed.plain t) x) rest (step_of (core op vs) span c.state) (result_ok (core op vs) span c.state h.3))
          plain_lands t (instr.Call f) span x en = args_land (slice_index_or ps f 0) c.stack [] _ (λ vs rest. inl (call_lands (there (c.place + 1) (typed.plain t) x.1) f (function_at f x.0.0 x.0.1) vs rest))
          plain_lands t instr.Return span x en = top_lands c.stack _ (λ v rest. returns_land c.frames h.1 v)
          plain_lands t (instr.Vector n) span x en =
              args_land n c.stack [] _ (λ vs rest. gives_lands (there (c.place + 1) (typed.plain t) x) rest (step_of (vector_of vs) span c.state) (result_ok (vector_of vs) span c.state h.3))
          plain_lands t (instr.Print n) span x en =
              args_land n c.stack [] _ (λ vs rest. gives_lands (there (c.place + 1) (typed.plain t) x.2) rest (print (is_inside c.doing) vs c.state) (print_ok (is_inside c.doing) vs c.state h.3))
          plain_lands t (instr.Look f) span x en =
              top_lands c.stack _ (λ cell rest. gives_lands (there (c.place + 1) (typed.plain t) x.1) rest (read f (is_inside c.doing) span cell c.state) (read_form_ok f (is_inside c.doing) span cell c.state h.3))
          plain_lands t (instr.Put f) span x en =
              two_land c.stack _ (λ w cell rest. puts_land f (there (c.place + 1) (typed.plain t) x.1) span w cell rest)
          plain_lands t instr.TxBegin span x en = begins_lands (there (c.place + 1) (typed.plain (suc t)) x.1) span c.doing h.2
          plain_lands t instr.TxEnd span x en = ends_land (there (c.place + 1) (typed.plain (t - 1)) x.1) (en tt) c.doing refl h.2
          plain_lands t (instr.Open f n) span x en = args_of_land n c.stack _ (λ vs cell rest. opens_land t n f (record { owner = a.1.owner; body = a.1.body; here = x.1 }) span vs cell rest)
          plain_lands t (instr.Close f) span x en = absurd x
          plain_lands t (instr.Send f n) span x en =
              args_of_land n c.stack _ (λ vs cell rest. gives_lands (there (c.place + 1) (typed.plain t) x.2) rest (send_to (is_inside c.doing) span cell f vs c.state) (send_ok (is_inside c.doing) span cell f vs c.state h.3))
          plain_lands t instr.Halt span x en = tt

          -- the callee of an update
          opened_lands : (t n : ℕ) (by : OpenForm) (i : Instr) (span : Span) → FitsStage fs a.1.owner ss c.place (typed.opened t n by) i → Lands (act tc (Some (plain_instr ps ks i span)) c)
          opened_lands t n by (instr.Core op m) span x =
              args_land m c.stack [] _ (λ vs rest. gives_lands (there (c.place + 1) (typed.applied t (form_of by)) x.2) rest (step_of (core op vs) span c.state) (result_ok (core op vs) span c.state h.3))
          opened_lands t n by (instr.Call f) span x = args_land (slice_index_or ps f 0) c.stack [] _ (λ vs rest. inl (call_lands (there (c.place + 1) (typed.applied t (form_of by)) x.3) f (function_at f x.1.0 x.1.1) vs rest))
          opened_lands t n by (instr.Const k) span x = absurd x
          opened_lands t n by (instr.Local k) span x = absurd x
          opened_lands t n by (instr.Store k) span x = absurd x
          opened_lands t n by instr.Pop span x = absurd x
          opened_lands t n by (instr.Jump to) span x = absurd x
          opened_lands t n by (instr.JumpFalse to) span x = absurd x
          opened_lands t n by instr.Return span x = absurd x
          opened_lands t n by (instr.Vector m) span x = absurd x
          opened_lands t n by (instr.Print m) span x = absurd x
          opened_lands t n by (instr.Look f) span x = absurd x
          opened_lands t n by (instr.Put f) span x = absurd x
          opened_lands t n by instr.TxBegin span x = absurd x
          opened_lands t n by instr.TxEnd span x = absurd x
          opened_lands t n by (instr.Open f m) span x = absurd x
          opened_lands t n by (instr.Close f) span x = absurd x
          opened_lands t n by (instr.Send f m) span x = absurd x
          opened_lands t n by instr.Halt span x = absurd x

          -- its close
          applied_lands : (t : ℕ) (by : UpdateForm) (i : Instr) (span : Span) → FitsStage fs a.1.owner ss c.place (typed.applied t by) i → Lands (act tc (Some (plain_instr ps ks i span)) c)
          applied_lands t by (instr.Close f) span x = two_land c.stack _ (λ w cell rest. closes_land f (there (c.place + 1) (typed.plain t) x.1) span w cell rest)
          applied_lands t by (instr.Const k) span x = absurd x
          applied_lands t by (instr.Local k) span x = absurd x
          applied_lands t by (instr.Store k) span x = absurd x
          applied_lands t by instr.Pop span x = absurd x
          applied_lands t by (instr.Jump to) span x = absurd x
          applied_lands t by (instr.JumpFalse to) span x = absurd x
          applied_lands t by (instr.Core op n) span x = absurd x
          applied_lands t by (instr.Call f) span x = absurd x
          applied_lands t by instr.Return span x = absurd x
          applied_lands t by (instr.Vector m) span x = absurd x
          applied_lands t by (instr.Print m) span x = absurd x
          applied_lands t by (instr.Look f) span x = absurd x
          applied_lands t by (instr.Put f) span x = absurd x
          applied_lands t by instr.TxBegin span x = absurd x
          applied_lands t by instr.TxEnd span x = absurd x
          applied_lands t by (instr.Open f m) span x = absurd x
          applied_lands t by (instr.Send f m) span x = absurd x
          applied_lands t by instr.Halt span x = absurd x

          each_lands : (st : typed.Stage) (i : Instr) (span : Span) → FitsStage fs a.1.owner ss c.place st i → (EndThere (Some (plain_instr ps ks i span)) → EndHere c.body c.place) → Lands (act tc (Some (plain_instr ps ks i span)) c)
          each_lands (typed.plain t) i span x en = plain_lands t i span x en
          each_lands (typed.opened t n by) i span x en = opened_lands t n by i span x
          each_lands (typed.applied t by) i span x en = applied_lands t by i span x

          free_lands : Lands (turn tc c)
          free_lands =
              let x = a.1.body.staging.fits c.place a.0 a.1.here in
              go x.0 x.2 (fetch tc c.body c.place) refl (subst (λ o. Fetched ps ks (fetch tc c.body c.place) o) x.1 (a.1.body.fetches c.place))
            where
              go : (i : Instr) → FitsStage fs a.1.owner ss c.place a.0 i → (o : Option PlainInstr) → fetch tc c.body c.place ≡ o → Fetched ps ks o (Some i) → Lands (act tc o c)
              go i x None e f = tt
              go i x (Some p) e f = subst (λ q. Lands (act tc (Some q) c)) (sym f.1) (each_lands a.0 i f.0 x (λ z. subst EndThere (sym (e ∙ ap (λ q. Some q) f.1)) z))

      -- ---- in a pure callee of a commute or a swap

      module _ (p : PureAt c.body c.place) (stays : (d : Configuration) → PureAt d.body d.place → d.frames ≡ c.frames → DoingOk d c.doing)
          (calls : (d : Configuration) (f : Frame) → PureAt d.body d.place → PureAt f.body f.place → d.frames ≡ f ∷ c.frames → DoingOk d c.doing)
          (returns : (d : Configuration) (f : Frame) (frames : List Frame) → c.frames ≡ f ∷ frames → d.body ≡ f.body → d.place ≡ f.place → d.frames ≡ frames → DoingOk d c.doing) where
        abbrev pure_there : (to : ℕ) → LeadsTo p.body.stages to (typed.plain 0) → PureAt c.body to
        pure_there to e = record { owner = p.owner; body = p.body; pure = p.pure; here = e }

        pure_gives : PureAt c.body (c.place + 1) → (rest : List Value) (r : StepResult Value) → StepOk r → Lands (gives c rest r)
        pure_gives next rest r q =
            on_lands c c.doing h.2 r (λ v s. Unfinished (ahead (v ∷ rest) s c)) q (λ v s k. inl (pure_somewhere c.body (c.place + 1) next, h.1, stays (ahead (v ∷ rest) s c) next refl, k))

        pure_moved : (d : Configuration) → PureAt d.body d.place → d.frames ≡ c.frames → StateOk d.state → d.doing ≡ c.doing → Holds d
        pure_moved d next e k i = (pure_somewhere d.body d.place next, subst FramesAt (sym e) h.1, subst (DoingOk d) (sym i) (stays d next e), k)

        callee_pure : (t f : ℕ) → MayCall kinds p.owner t f → IsPureFunction kinds f
        callee_pure t f m = (m.0, m.1, not_false m.0.pure (λ e. not_impure p.owner p.pure (m.2.pure e)))

        pure_calls : PureAt c.body (c.place + 1) → (f : ℕ) → PureAt (suc f) 0 → (vs rest : List Value) → Holds (called tc f vs to_stack (c.place + 1) rest c)
        pure_calls next f q vs rest = (
          pure_somewhere (suc f) 0 q,
          (pure_somewhere c.body (c.place + 1) next, h.1),
          calls (called tc f vs to_stack (c.place + 1) rest c) (record { body = c.body; place = c.place + 1; stack = rest; locals = c.locals; awaits = to_stack }) q next refl,
          h.3,
        )

        pure_returns : (frames : List Frame) → c.frames ≡ frames → FramesAt frames → (v : Value) → Lands (returns_to frames v c)
        pure_returns [] e g v = tt
        pure_returns (f ∷ frames) e g v = inl (
          g.0,
          g.1,
          after_ok (returned f frames v) f.awaits v c.doing (returns (returned f frames v) f frames e refl refl refl),
          returned_ok f.awaits v c.state h.3,
        )

        pure_instr : (i : Instr) (span : Span) → FitsStage fs p.owner p.body.stages c.place (typed.plain 0) i → Lands (act tc (Some (plain_instr ps ks i span)) c)
        pure_instr (instr.Const k) span x = inl (pure_moved (ahead (slice_index_or ks k Nil ∷ c.stack) c.state c) (pure_there (c.place + 1) x) refl h.3 refl)
        pure_instr (instr.Local k) span x = pure_gives (pure_there (c.place + 1) x) c.stack (found (nth c.locals k) c.state) (found_ok (nth c.locals k) c.state h.3)
        pure_instr (instr.Store k) span x = top_lands c.stack _ (λ v rest. inl (pure_moved (record (ahead rest c.state c) { locals = put c.locals k v }) (pure_there (c.place + 1) x) refl h.3 refl))
        pure_instr instr.Pop span x = top_lands c.stack _ (λ v rest. inl (pure_moved (ahead rest c.state c) (pure_there (c.place + 1) x) refl h.3 refl))
        pure_instr (instr.Jump to) span x = inl (pure_moved (record c { place = to }) (pure_there to x) refl h.3 refl)
        pure_instr (instr.JumpFalse to) span x = top_lands c.stack _ (λ v rest. inl (pure_moved (record c { place = choose v (c.place + 1) to; stack = rest }) (choose_at (PureAt c.body) v (c.place + 1) to (pure_there (c.place + 1) x.1) (pure_there to x.0)) refl h.3 refl))
        pure_instr (instr.Core op n) span x = args_land n c.stack [] _ (λ vs rest. pure_gives (pure_there (c.place + 1) x) rest (step_of (core op vs) span c.state) (result_ok (core op vs) span c.state h.3))
        pure_instr (instr.Call f) span x = args_land (slice_index_or ps f 0) c.stack [] _ (λ vs rest. inl (pure_calls (pure_there (c.place + 1) x.1) f (pure_function_at f (callee_pure 0 f x.0)) vs rest))
        pure_instr instr.Return span x = top_lands c.stack _ (λ v rest. pure_returns c.frames refl h.1 v)
        pure_instr (instr.Vector n) span x = args_land n c.stack [] _ (λ vs rest. pure_gives (pure_there (c.place + 1) x) rest (step_of (vector_of vs) span c.state) (result_ok (vector_of vs) span c.state h.3))
        pure_instr (instr.Print n) span x = absurd (not_impure p.owner p.pure x.0)
        pure_instr (instr.Look f) span x = absurd (not_impure p.owner p.pure x.0.0)
        pure_instr (instr.Put f) span x = absurd (not_impure p.owner p.pure x.0.0)
        pure_instr instr.TxBegin span x = absurd (not_impure p.owner p.pure x.0)
        pure_instr instr.TxEnd span x = absurd (none x.0)
          where
            none : 0 < 0 → ⊥
            none y = omega (arith, y)
        pure_instr (instr.Open f n) span x = absurd (not_impure p.owner p.pure x.0.0)
        pure_instr (instr.Close f) span x = absurd x
        pure_instr (instr.Send f n) span x = absurd (not_impure p.owner p.pure x.0.0)
        pure_instr instr.Halt span x = tt

        pub pure_lands : Lands (turn tc c)
        pure_lands =
            let x = p.body.staging.fits c.place (typed.plain 0) p.here in
            go x.0 x.2 (fetch tc c.body c.place) (subst (λ o. Fetched ps ks (fetch tc c.body c.place) o) x.1 (p.body.fetches c.place))
          where
            go : (i : Instr) → FitsStage fs p.owner p.body.stages c.place (typed.plain 0) i → (o : Option PlainInstr) → Fetched ps ks o (Some i) → Lands (act tc o c)
            go i x None f = tt
            go i x (Some q) f = subst (λ r. Lands (act tc (Some r) c)) (sym f.1) (pure_instr i f.0 x)

      -- ---- between the open of a swap and its close

      module _ (w : SwapHere c.body c.place) (stays : (d : Configuration) → SwapHere d.body d.place → DoingOk d c.doing)
          (calls : (d : Configuration) (f : Frame) → PureAt d.body d.place → SwapHere f.body f.place → d.frames ≡ f ∷ c.frames → DoingOk d c.doing) where
        abbrev swap_there : (t : ℕ) (by : UpdateForm) → by ≡ update.Swap → LeadsTo w.1.body.stages (c.place + 1) (typed.applied t by) → SwapHere c.body (c.place + 1)
        swap_there t by e l = (typed.applied t by, record { owner = w.1.owner; body = w.1.body; here = l }, e)

        swap_gives : SwapHere c.body (c.place + 1) → (rest : List Value) (r : StepResult Value) → StepOk r → Lands (gives c rest r)
        swap_gives next rest r q = on_lands c c.doing h.2 r (λ v s. Unfinished (ahead (v ∷ rest) s c)) q (λ v s k. inl (inl (next.0, next.1), h.1, stays (ahead (v ∷ rest) s c) next, k))

        swap_calls : SwapHere c.body (c.place + 1) → (f : ℕ) → PureAt (suc f) 0 → (vs rest : List Value) → Holds (called tc f vs to_stack (c.place + 1) rest c)
        swap_calls next f q vs rest = (
          pure_somewhere (suc f) 0 q,
          (inl (next.0, next.1), h.1),
          calls (called tc f vs to_stack (c.place + 1) rest c) (record { body = c.body; place = c.place + 1; stack = rest; locals = c.locals; awaits = to_stack }) q next refl,
          h.3,
        )

        swap_validates : (v : Value) → MayValidate c h v
        swap_validates v n q = calls (called tc n (v ∷ []) to_validation c.place c.stack c) (record { body = c.body; place = c.place; stack = c.stack; locals = c.locals; awaits = to_validation }) q w refl

        swap_opened : (t n : ℕ) (by : OpenForm) → form_of by ≡ update.Swap → (i : Instr) (span : Span) → FitsStage fs w.1.owner w.1.body.stages c.place (typed.opened t n by) i → Lands (act tc (Some (plain_instr ps ks i span)) c)
        swap_opened t n by e (instr.Const k) span x = absurd x
        swap_opened t n by e (instr.Local k) span x = absurd x
        swap_opened t n by e (instr.Store k) span x = absurd x
        swap_opened t n by e instr.Pop span x = absurd x
        swap_opened t n by e (instr.Jump to) span x = absurd x
        swap_opened t n by e (instr.JumpFalse to) span x = absurd x
        swap_opened t n by e (instr.Core op m) span x =
            args_land m c.stack [] _ (λ vs rest. swap_gives (swap_there t (form_of by) e x.2) rest (step_of (core op vs) span c.state) (result_ok (core op vs) span c.state h.3))
        swap_opened t n by e (instr.Call f) span x = args_land (slice_index_or ps f 0) c.stack [] _ (λ vs rest. inl (swap_calls (swap_there t (form_of by) e x.3) f (pure_function_at f x.1) vs rest))
        swap_opened t n by e instr.Return span x = absurd x
        swap_opened t n by e (instr.Vector m) span x = absurd x
        swap_opened t n by e (instr.Print m) span x = absurd x
        swap_opened t n by e (instr.Look f) span x = absurd x
        swap_opened t n by e (instr.Put f) span x = absurd x
        swap_opened t n by e instr.TxBegin span x = absurd x
        swap_opened t n by e instr.TxEnd span x = absurd x
        swap_opened t n by e (instr.Open f m) span x = absurd x
        swap_opened t n by e (instr.Close f) span x = absurd x
        swap_opened t n by e (instr.Send f m) span x = absurd x
        swap_opened t n by e instr.Halt span x = absurd x

        swap_applied : (t : ℕ) (by : UpdateForm) → by ≡ update.Swap → (i : Instr) (span : Span) → FitsStage fs w.1.owner w.1.body.stages c.place (typed.applied t by) i → Lands (act tc (Some (plain_instr ps ks i span)) c)
        swap_applied t by e (instr.Const k) span x = absurd x
        swap_applied t by e (instr.Local k) span x = absurd x
        swap_applied t by e (instr.Store k) span x = absurd x
        swap_applied t by e instr.Pop span x = absurd x
        swap_applied t by e (instr.Jump to) span x = absurd x
        swap_applied t by e (instr.JumpFalse to) span x = absurd x
        swap_applied t by e (instr.Core op n) span x = absurd x
        swap_applied t by e (instr.Call f) span x = absurd x
        swap_applied t by e instr.Return span x = absurd x
        swap_applied t by e (instr.Vector n) span x = absurd x
        swap_applied t by e (instr.Print n) span x = absurd x
        swap_applied t by e (instr.Look f) span x = absurd x
        swap_applied t by e (instr.Put f) span x = absurd x
        swap_applied t by e instr.TxBegin span x = absurd x
        swap_applied t by e instr.TxEnd span x = absurd x
        swap_applied t by e (instr.Open f n) span x = absurd x
        swap_applied t by e (instr.Close f) span x = two_land c.stack _ (λ v cell rest. subst (λ g. Lands (closes tc g span v cell rest c)) (sym e ∙ x.0) (closes_swap_lands (inl (typed.plain t, record { owner = w.1.owner; body = w.1.body; here = x.1 })) c.doing h.2 v rest (swap_validates v)))
        swap_applied t by e (instr.Send f n) span x = absurd x
        swap_applied t by e instr.Halt span x = absurd x

        swap_any : (st : typed.Stage) → SwapStage st → (i : Instr) (span : Span) → FitsStage fs w.1.owner w.1.body.stages c.place st i → Lands (act tc (Some (plain_instr ps ks i span)) c)
        swap_any (typed.plain t) e i span x = absurd e
        swap_any (typed.opened t n by) e i span x = swap_opened t n by e i span x
        swap_any (typed.applied t by) e i span x = swap_applied t by e i span x

        pub swap_lands : Lands (turn tc c)
        swap_lands =
            let x = w.1.body.staging.fits c.place w.0 w.1.here in
            go x.0 x.2 (fetch tc c.body c.place) (subst (λ o. Fetched ps ks (fetch tc c.body c.place) o) x.1 (w.1.body.fetches c.place))
          where
            go : (i : Instr) → FitsStage fs w.1.owner w.1.body.stages c.place w.0 i → (o : Option PlainInstr) → Fetched ps ks o (Some i) → Lands (act tc o c)
            go i x None f = tt
            go i x (Some q) f = subst (λ r. Lands (act tc (Some r) c)) (sym f.1) (swap_any w.0 w.2 i f.0 x)

      -- ---- at the end of a transaction

      end_next : (a : Coded c.body c.place) (i : Instr) (span : Span) → IsEnd (plain_instr ps ks i span) → FitsStage fs a.1.owner a.1.body.stages c.place a.0 i → Somewhere c.body (c.place + 1)
      end_next a (instr.Const k) span e x = absurd e
      end_next a (instr.Local k) span e x = absurd e
      end_next a (instr.Store k) span e x = absurd e
      end_next a instr.Pop span e x = absurd e
      end_next a (instr.Jump to) span e x = absurd e
      end_next a (instr.JumpFalse to) span e x = absurd e
      end_next a (instr.Core op n) span e x = absurd e
      end_next a (instr.Call f) span e x = absurd e
      end_next a instr.Return span e x = absurd e
      end_next a (instr.Vector n) span e x = absurd e
      end_next a (instr.Print n) span e x = absurd e
      end_next a (instr.Look f) span e x = absurd e
      end_next a (instr.Put f) span e x = absurd e
      end_next a instr.TxBegin span e x = absurd e
      end_next a instr.TxEnd span e x = after a.0 x
        where
          after : (st : typed.Stage) → FitsStage fs a.1.owner a.1.body.stages c.place st instr.TxEnd → Somewhere c.body (c.place + 1)
          after (typed.plain t) y = inl (typed.plain (t - 1), record { owner = a.1.owner; body = a.1.body; here = y.1 })
          after (typed.opened t n by) y = absurd y
          after (typed.applied t by) y = absurd y
      end_next a (instr.Open f n) span e x = absurd e
      end_next a (instr.Close f) span e x = absurd e
      end_next a (instr.Send f n) span e x = absurd e
      end_next a instr.Halt span e x = absurd e

      end_lands : Coded c.body c.place → EndHere c.body c.place → Lands (turn tc c)
      end_lands a end =
          let x = a.1.body.staging.fits c.place a.0 a.1.here in
          go x.0 x.2 (fetch tc c.body c.place) end (subst (λ o. Fetched ps ks (fetch tc c.body c.place) o) x.1 (a.1.body.fetches c.place))
        where
          go : (i : Instr) → FitsStage fs a.1.owner a.1.body.stages c.place a.0 i → (o : Option PlainInstr) → EndThere o → Fetched ps ks o (Some i) → Lands (act tc o c)
          go i x None e f = absurd e
          go i x (Some q) e f = subst (λ r. Lands (act tc (Some r) c)) (sym (is_end q e)) (ends_land (end_next a i f.0 (subst IsEnd f.1 e) x) end c.doing refl h.2)

      -- ---- all

      -- an agent hands its action in
      aside_fetch : (n at : ℕ) → Aside n at → fetch tc n at ≡ Some (FinishOf g)
      aside_fetch n at x = subst (λ i. fetch tc i at ≡ Some (FinishOf g)) (sym x.1) (subst (λ j. nth main.instrs j ≡ Some (FinishOf g)) (sym x.2) (ap (λ b. nth b.instrs 2) (own x.0)))

      not_own : (n at : ℕ) → Coded n at → NotAgents (fetch tc n at)
      not_own n at a =
          let x = a.1.body.staging.fits at a.0 a.1.here in
          go x.0 (fetch tc n at) (subst (λ o. Fetched ps ks (fetch tc n at) o) x.1 (a.1.body.fetches at))
        where
          go : (i : Instr) (o : Option PlainInstr) → Fetched ps ks o (Some i) → NotAgents o
          go i None f = tt
          go i (Some p) f = subst IsNotAgents (sym f.1) (not_agents ps ks i f.0)

      -- it does so in no commute phase and no swap, whose callees return there
      not_aside : (n at : ℕ) → Aside n at → Coded n at → ⊥
      not_aside n at x a = subst NotAgents (aside_fetch n at x) (not_own n at a)

      not_ended : (n at : ℕ) → Aside n at → PlaceIn EndHere (record c { body = n; place = at }) → ⊥
      not_ended n at x (inl end) = subst EndThere (aside_fetch n at x) end
      not_ended n at x (inr p) = not_aside n at x (pure_coded n at p.0)

      not_swapped : (n at : ℕ) → Aside n at → PlaceIn SwapHere (record c { body = n; place = at }) → ⊥
      not_swapped n at x (inl w) = not_aside n at x (w.0, w.1)
      not_swapped n at x (inr p) = not_aside n at x (pure_coded n at p.0)

      hands_lands : agent ≡ true → ((d : Configuration) → DoingOk d c.doing) → (o : Option InHand) → Acts agent o → Lands (hands_in tc g o (fault_in o) c)
      hands_lands e free None k = absurd (subst (λ b. Acts b None) e k)
      hands_lands e free (Some x) k = subst (λ t. Lands (hands_in tc g (Some x) t c)) (sym (no_fault agent x k)) (top_lands c.stack _ (λ v rest. finish_lands v))
        where
          finish_lands : (v : Value) → Lands (finishes tc g (Some x) v c)
          finish_lands v =
              valid_lands c h (validator_at tc.validators x.action.agent.number) (valid x.action.agent.number) v x.action.span (λ c1. told (finish g (Ok v) x.sends c1.state) (λ s. Unfinished (first_place [] (rested s))))
              (λ n p. free (called tc n (v ∷ []) to_validation c.place c.stack c))
              (λ s q. rests_told e (finish g (Ok v) x.sends s) (finish_pure g (Ok v) x.sends s (q.0, q.1)))

      aside_lands : Aside c.body c.place → Lands (turn tc c)
      aside_lands x = subst (λ i. Lands (act tc i c)) (sym (aside_fetch c.body c.place x)) (go c.doing refl h.2)
        where
          go : (doing : Activity) → c.doing ≡ doing → DoingOk c doing → Lands (hands_in tc g c.state.acting (fault_in c.state.acting) c)
          go Outside e ok = hands_lands x.0 (λ d. subst (DoingOk d) (sym e) tt) c.state.acting h.3.2
          go (Restarting left) e ok = hands_lands x.0 (λ d. subst (DoingOk d) (sym e) tt) c.state.acting h.3.2
          go (Running left inner from) e ok = hands_lands x.0 (λ d. subst (DoingOk d) (sym e) ok) c.state.acting h.3.2
          go (Applying left from work values) e ok = absurd (not_ended c.body c.place x ok.2)
          go (Swapping swap from) e ok = absurd (not_swapped c.body c.place x ok.1)

      coded_lands : Coded c.body c.place → Lands (turn tc c)
      coded_lands a = go c.doing refl h.2
        where
          go : (doing : Activity) → c.doing ≡ doing → DoingOk c doing → Lands (turn tc c)
          go Outside e ok = free_lands (λ d. subst (DoingOk d) (sym e) tt) a
          go (Restarting left) e ok = free_lands (λ d. subst (DoingOk d) (sym e) tt) a
          go (Running left inner from) e ok = free_lands (λ d. subst (DoingOk d) (sym e) ok) a
          go (Applying left from work values) e ok = phase ok.2
            where
              phase : PlaceIn EndHere c → Lands (turn tc c)
              phase (inl end) = end_lands a end
              phase (inr p) =
                  pure_lands p.0 (λ d q i. subst (DoingOk d) (sym e) (ok.0, ok.1, inr (q, subst (CalleeIn EndHere) (sym i) p.1)))
                  (λ d f q r i. subst (DoingOk d) (sym e) (ok.0, ok.1, inr (q, subst (CalleeIn EndHere) (sym i) (inr (r, p.1)))))
                  (λ d f frames i j k l. subst (DoingOk d) (sym e) (ok.0, ok.1, back d f frames j k l (subst (CalleeIn EndHere) i p.1)))
                where
                  back : (d : Configuration) (f : Frame) (frames : List Frame) → d.body ≡ f.body → d.place ≡ f.place → d.frames ≡ frames → CalleeIn EndHere (f ∷ frames) → PlaceIn EndHere d
                  back d f frames j k l (inl home) = inl (subst (λ n. EndHere n d.place) (sym j) (subst (λ at. EndHere f.body at) (sym k) home))
                  back d f frames j k l (inr q) = inr (subst (λ n. PureAt n d.place) (sym j) (subst (λ at. PureAt f.body at) (sym k) q.0), subst (CalleeIn EndHere) (sym l) q.1)
          go (Swapping swap from) e ok = phase ok.1
            where
              phase : PlaceIn SwapHere c → Lands (turn tc c)
              phase (inl w) =
                  swap_lands w (λ d q. subst (DoingOk d) (sym e) (ok.0, inl q)) (λ d f q r i. subst (DoingOk d) (sym e) (ok.0, inr (q, subst (CalleeIn SwapHere) (sym i) (inl r))))
              phase (inr p) =
                  pure_lands p.0 (λ d q i. subst (DoingOk d) (sym e) (ok.0, inr (q, subst (CalleeIn SwapHere) (sym i) p.1)))
                  (λ d f q r i. subst (DoingOk d) (sym e) (ok.0, inr (q, subst (CalleeIn SwapHere) (sym i) (inr (r, p.1)))))
                  (λ d f frames i j k l. subst (DoingOk d) (sym e) (ok.0, back d f frames j k l (subst (CalleeIn SwapHere) i p.1)))
                where
                  back : (d : Configuration) (f : Frame) (frames : List Frame) → d.body ≡ f.body → d.place ≡ f.place → d.frames ≡ frames → CalleeIn SwapHere (f ∷ frames) → PlaceIn SwapHere d
                  back d f frames j k l (inl home) = inl (subst (λ n. SwapHere n d.place) (sym j) (subst (λ at. SwapHere f.body at) (sym k) home))
                  back d f frames j k l (inr q) = inr (subst (λ n. PureAt n d.place) (sym j) (subst (λ at. PureAt f.body at) (sym k) q.0), subst (CalleeIn SwapHere) (sym l) q.1)

      pub lands_all : Lands (turn tc c)
      lands_all = by h.0
        where
          by : Somewhere c.body c.place → Lands (turn tc c)
          by (inl a) = coded_lands a
          by (inr x) = aside_lands x

      -- ---- which instruction stands here

      -- what is fetched, by the instruction of the table
      fetched_so : (P : PlainInstr → Type 0) (n at : ℕ) (owner : Owner) (body : Body n owner) (st : typed.Stage) → stage_at body.stages at ≡ Some st
          → ((i : Instr) (span : Span) → FitsStage fs owner body.stages at st i → P (plain_instr ps ks i span)) → (o : Option PlainInstr) → fetch tc n at ≡ o → OfThere P o
      fetched_so P n at owner body st e k o eo =
          let x = body.staging.fits at st e in
          go x.0 x.2 o (subst (λ p. Fetched ps ks p (Some x.0)) eo (subst (λ p. Fetched ps ks (fetch tc n at) p) x.1 (body.fetches at)))
        where
          go : (i : Instr) → FitsStage fs owner body.stages at st i → (o : Option PlainInstr) → Fetched ps ks o (Some i) → OfThere P o
          go i x None f = tt
          go i x (Some q) f = subst P (sym f.1) (k i f.0 x)

      pure_plain : (owner : Owner) → IsPureOwner owner → (stages : Stages) (at : ℕ) (i : Instr) (span : Span) → FitsStage fs owner stages at (typed.plain 0) i → IsPurePlain (plain_instr ps ks i span)
      pure_plain owner g stages at (instr.Const k) span x = tt
      pure_plain owner g stages at (instr.Local k) span x = tt
      pure_plain owner g stages at (instr.Store k) span x = tt
      pure_plain owner g stages at instr.Pop span x = tt
      pure_plain owner g stages at (instr.Jump to) span x = tt
      pure_plain owner g stages at (instr.JumpFalse to) span x = tt
      pure_plain owner g stages at (instr.Core op n) span x = tt
      pure_plain owner g stages at (instr.Call f) span x = tt
      pure_plain owner g stages at instr.Return span x = tt
      pure_plain owner g stages at (instr.Vector n) span x = tt
      pure_plain owner g stages at (instr.Print n) span x = tt
      pure_plain owner g stages at (instr.Look f) span x = absurd (not_impure owner g x.0.0)
      pure_plain owner g stages at (instr.Put f) span x = absurd (not_impure owner g x.0.0)
      pure_plain owner g stages at instr.TxBegin span x = tt
      pure_plain owner g stages at instr.TxEnd span x = tt
      pure_plain owner g stages at (instr.Open f n) span x = absurd (not_impure owner g x.0.0)
      pure_plain owner g stages at (instr.Close f) span x = absurd x
      pure_plain owner g stages at (instr.Send f n) span x = absurd (not_impure owner g x.0.0)
      pure_plain owner g stages at instr.Halt span x = tt

      swap_plain : (swap : SwapInHand) (from : Savepoint) (st : typed.Stage) → SwapStage st → (owner : Owner) (stages : Stages) (at : ℕ) (i : Instr) (span : Span) → FitsStage fs owner stages at st i → MayStandIn agent (Swapping swap from) (plain_instr ps ks i span)
      swap_plain swap from (typed.plain t) e owner stages at i span x = absurd e
      swap_plain swap from (typed.opened t n by) e owner stages at i span x = go i x
        where
          go : (i : Instr) → FitsStage fs owner stages at (typed.opened t n by) i → MayStandIn agent (Swapping swap from) (plain_instr ps ks i span)
          go (instr.Const k) x = absurd x
          go (instr.Local k) x = absurd x
          go (instr.Store k) x = absurd x
          go instr.Pop x = absurd x
          go (instr.Jump to) x = absurd x
          go (instr.JumpFalse to) x = absurd x
          go (instr.Core op m) x = tt
          go (instr.Call f) x = tt
          go instr.Return x = absurd x
          go (instr.Vector m) x = absurd x
          go (instr.Print m) x = absurd x
          go (instr.Look f) x = absurd x
          go (instr.Put f) x = absurd x
          go instr.TxBegin x = absurd x
          go instr.TxEnd x = absurd x
          go (instr.Open f m) x = absurd x
          go (instr.Close f) x = absurd x
          go (instr.Send f m) x = absurd x
          go instr.Halt x = absurd x
      swap_plain swap from (typed.applied t by) e owner stages at i span x = go i x
        where
          go : (i : Instr) → FitsStage fs owner stages at (typed.applied t by) i → MayStandIn agent (Swapping swap from) (plain_instr ps ks i span)
          go (instr.Const k) x = absurd x
          go (instr.Local k) x = absurd x
          go (instr.Store k) x = absurd x
          go instr.Pop x = absurd x
          go (instr.Jump to) x = absurd x
          go (instr.JumpFalse to) x = absurd x
          go (instr.Core op n) x = absurd x
          go (instr.Call f) x = absurd x
          go instr.Return x = absurd x
          go (instr.Vector n) x = absurd x
          go (instr.Print n) x = absurd x
          go (instr.Look f) x = absurd x
          go (instr.Put f) x = absurd x
          go instr.TxBegin x = absurd x
          go instr.TxEnd x = absurd x
          go (instr.Open f n) x = absurd x
          go (instr.Close f) x = tt
          go (instr.Send f n) x = absurd x
          go instr.Halt x = absurd x

      coded_may : Coded c.body c.place → MayStandHere agent c.doing (fetch tc c.body c.place)
      coded_may a = go c.doing h.2
        where
          here : (doing : Activity) (o : Option PlainInstr) → OfThere (MayStandIn agent doing) o → MayStandHere agent doing o
          here doing None x = tt
          here doing (Some p) x = x

          plainly : (P : PlainInstr → Type 0) → ((p : PlainInstr) → IsNotAgents p → P p) → OfThere P (fetch tc c.body c.place)
          plainly P k = fetched_so P c.body c.place a.1.owner a.1.body a.0 a.1.here (λ i span x. k (plain_instr ps ks i span) (not_agents ps ks i span)) (fetch tc c.body c.place) refl

          purely : (P : PlainInstr → Type 0) → PureAt c.body c.place → ((p : PlainInstr) → IsPurePlain p → P p) → OfThere P (fetch tc c.body c.place)
          purely P q k = fetched_so P c.body c.place q.owner q.body (typed.plain 0) q.here (λ i span x. k (plain_instr ps ks i span) (pure_plain q.owner q.pure q.body.stages c.place i span x)) (fetch tc c.body c.place) refl

          at_end : (left : ℕ) (from : Savepoint) (work : List Task) (values : Writes) (o : Option PlainInstr) → EndThere o → MayStandHere agent (Applying left from work values) o
          at_end left from work values None e = tt
          at_end left from work values (Some p) e = subst (MayStandIn agent (Applying left from work values)) (sym (is_end p e)) tt

          go : (doing : Activity) → DoingOk c doing → MayStandHere agent doing (fetch tc c.body c.place)
          go Outside ok = here Outside (fetch tc c.body c.place) (plainly (MayStandIn agent Outside) (may_outside agent))
          go (Restarting left) ok = here (Restarting left) (fetch tc c.body c.place) (plainly (MayStandIn agent (Restarting left)) (may_begin agent left))
          go (Running left inner from) ok = here (Running left inner from) (fetch tc c.body c.place) (plainly (MayStandIn agent (Running left inner from)) (may_try agent left inner from))
          go (Applying left from work values) ok = phase ok.2
            where
              phase : PlaceIn EndHere c → MayStandHere agent (Applying left from work values) (fetch tc c.body c.place)
              phase (inl end) = at_end left from work values (fetch tc c.body c.place) end
              phase (inr p) = here (Applying left from work values) (fetch tc c.body c.place) (purely (MayStandIn agent (Applying left from work values)) p.0 (may_apply agent left from work values))
          go (Swapping swap from) ok = phase ok.1
            where
              phase : PlaceIn SwapHere c → MayStandHere agent (Swapping swap from) (fetch tc c.body c.place)
              phase (inl w) =
                  here (Swapping swap from) (fetch tc c.body c.place)
                  (fetched_so (MayStandIn agent (Swapping swap from)) c.body c.place w.1.owner w.1.body w.0 w.1.here (λ i span x. swap_plain swap from w.0 w.2 w.1.owner w.1.body.stages c.place i span x) (fetch tc c.body c.place) refl)
              phase (inr p) = here (Swapping swap from) (fetch tc c.body c.place) (purely (MayStandIn agent (Swapping swap from)) p.0 (may_swap agent swap from))

      aside_may : Aside c.body c.place → MayStandHere agent c.doing (fetch tc c.body c.place)
      aside_may x = subst (λ i. MayStandHere agent c.doing i) (sym (aside_fetch c.body c.place x)) (subst (λ b. MayHandIn b c.doing) (sym x.0) (go c.doing h.2))
        where
          go : (doing : Activity) → DoingOk c doing → MayHandIn true doing
          go Outside ok = tt
          go (Restarting left) ok = tt
          go (Running left inner from) ok = tt
          go (Applying left from work values) ok = absurd (not_ended c.body c.place x ok.2)
          go (Swapping swap from) ok = absurd (not_swapped c.body c.place x ok.1)

      pub may_all : MayStandHere agent c.doing (fetch tc c.body c.place)
      may_all = by h.0
        where
          by : Somewhere c.body c.place → MayStandHere agent c.doing (fetch tc c.body c.place)
          by (inl a) = coded_may a
          by (inr x) = aside_may x

      pub turns_all : TakesTurns agent c.state.acting (fetch tc c.body c.place)
      turns_all = turns_so agent c.state.acting (fetch tc c.body c.place) h.3.2 (by h.0)
        where
          one : (o : Option PlainInstr) → NotAgents o → RunsOne None o
          one None x = tt
          one (Some p) x = runs_one p x

          by : Somewhere c.body c.place → RunsOne None (fetch tc c.body c.place)
          by (inl a) = one (fetch tc c.body c.place) (not_own c.body c.place a)
          by (inr x) = subst (RunsOne None) (sym (aside_fetch c.body c.place x)) tt

    -- ---- an agent at its own body

    module _ (c : Configuration) (r : Rests c) where
      own_fetch : (at : ℕ) → c.place ≡ at → fetch tc c.body c.place ≡ nth (agent_body g).instrs at
      own_fetch at e = subst (λ i. fetch tc i c.place ≡ nth (agent_body g).instrs at) (sym r.1) (ap (λ j. nth main.instrs j) e ∙ ap (λ b. nth b.instrs at) (own r.0))

      own_doing : (d : Configuration) → DoingOk d c.doing
      own_doing d = subst (DoingOk d) (sym r.3) tt

      started_lands : c.place ≡ 0 → (o : Option Taken) (s : ActorState) → Unacting s → Lands (started g o c s)
      started_lands e None s k = inr (inl (r.0, r.1, subst (λ j. RestsAt j s.acting) (sym e) (subst (RestsAt 0) (sym k.1) tt), r.3, r.4, k.0))
      started_lands e (Some t) s k = inr (inl (r.0, r.1, subst (λ j. RestsAt (j + 1) (Some (record { agent = g; action = t.action; sends = []; fault = None }))) (sym e) refl, r.3, r.4, k.0))

      takes_lands : c.place ≡ 0 → c.state.acting ≡ None → Lands (act tc (Some (TakeOf g)) c)
      takes_lands e n = subst (λ d. Lands (on d (take_action g c.state) (λ o s. started g o c s))) (sym r.3) (go (take_action g c.state) (take_pure g c.state (r.5, n)))
        where
          go : (x : StepResult (Option Taken)) → StepKeeps Unacting x → Lands (on Outside x (λ o s. started g o c s))
          go (Continue o s) k = started_lands e o s k
          go (Break f s) k = subst (λ o. Lands (ends_with o f s)) (sym k.1) tt
          go (Redo s) k = tt
          go (Await s) k = tt
          go Malformed k = tt

      acts_here : (x : InHand) → c.state.acting ≡ Some x → x.fault ≡ None → Acts agent c.state.acting
      acts_here x e n = subst (Acts agent) (sym e) (subst (λ b. Acts b (Some x)) (sym r.0) n)

      aside_next : c.place ≡ 1 → Somewhere c.body (c.place + 1)
      aside_next e = inr (r.0, r.1, ap (λ j. j + 1) e)

      callee_lands : c.place ≡ 1 → Acts agent c.state.acting → (f : Callee) (x : Action) (v : Value) (rest : List Value) → Lands (runs_callee tc f x v rest c)
      callee_lands e k (callee.Core op) x v rest =
          on_lands c c.doing (own_doing c) (step_of (core op (v ∷ x.args)) x.span c.state) (λ w s. Unfinished (ahead (w ∷ rest) s c)) (result_ok (core op (v ∷ x.args)) x.span c.state (r.5.0, r.5.1, k))
          (λ w s q. inl (aside_next e, r.4, own_doing (ahead (w ∷ rest) s c), q))
      callee_lands e k (callee.Function f) x v rest = go (nth kinds f) refl
        where
          go : (o : Option FunctionKind) → nth kinds f ≡ o → Lands (Unfinished (called tc f (v ∷ x.args) to_stack (c.place + 1) rest c))
          go (Some kind) i = inl (function_at f kind i, (aside_next e, r.4), own_doing (called tc f (v ∷ x.args) to_stack (c.place + 1) rest c), (r.5.0, r.5.1, k))
          go None i = inr (inr (ap (λ b. instr_at b 0) (unkinded f i), k))

      runs_lands : c.place ≡ 1 → (o : Option InHand) → c.state.acting ≡ o → RestsAt 1 o → (v : Value) (rest : List Value) → Lands (runs tc o v rest c)
      runs_lands e None i h v rest = tt
      runs_lands e (Some x) i h v rest = callee_lands e (acts_here x i h) x.action.callee x.action v rest

      faulty_lands : (o : Option InHand) (k : Option Fault) → HasFault k → Lands (hands_in tc g o k c)
      faulty_lands o None h = absurd h
      faulty_lands o (Some f) h = rests_told r.0 (finish g (Err f) [] c.state) (finish_pure g (Err f) [] c.state r.5)

      none_acts : (o : Option InHand) → RestsAt 0 o → o ≡ None
      none_acts None h = refl
      none_acts (Some x) h = absurd h

      abbrev OwnLands : Option PlainInstr → Type 0
      OwnLands i = Lands (act tc i c)

      pub rests_land : Lands (turn tc c)
      rests_land = go c.place refl r.2
        where
          go : (at : ℕ) → c.place ≡ at → RestsAt at c.state.acting → Lands (turn tc c)
          go zero e h = subst OwnLands (sym (own_fetch zero e)) (takes_lands e (none_acts c.state.acting h))
          go (suc zero) e h = subst OwnLands (sym (own_fetch (suc zero) e)) (top_lands c.stack _ (λ v rest. runs_lands e c.state.acting refl h v rest))
          go (suc (suc zero)) e h = subst OwnLands (sym (own_fetch (suc (suc zero)) e)) (faulty_lands c.state.acting (fault_in c.state.acting) (over_fault c.state.acting h))
          go (suc (suc (suc n))) e h = absurd h

      pub rests_may : MayStandHere agent c.doing (fetch tc c.body c.place)
      rests_may = go c.place refl r.2
        where
          there : (i : Option PlainInstr) → MayStandHere true Outside i → fetch tc c.body c.place ≡ i → MayStandHere agent c.doing (fetch tc c.body c.place)
          there i h e = subst (λ o. MayStandHere agent c.doing o) (sym e) (subst (λ b. MayStandHere b c.doing i) (sym r.0) (subst (λ d. MayStandHere true d i) (sym r.3) h))

          go : (at : ℕ) → c.place ≡ at → RestsAt at c.state.acting → MayStandHere agent c.doing (fetch tc c.body c.place)
          go zero e h = there (Some (TakeOf g)) tt (own_fetch zero e)
          go (suc zero) e h = there (Some RunOf) tt (own_fetch (suc zero) e)
          go (suc (suc zero)) e h = there (Some (FinishOf g)) tt (own_fetch (suc (suc zero)) e)
          go (suc (suc (suc n))) e h = absurd h

      pub rests_turn : TakesTurns agent c.state.acting (fetch tc c.body c.place)
      rests_turn = go c.place refl c.state.acting r.2
        where
          there : (i : Option PlainInstr) (o : Option InHand) → TakesTurns true o i → fetch tc c.body c.place ≡ i → TakesTurns agent o (fetch tc c.body c.place)
          there i o h e = subst (TakesTurns agent o) (sym e) (subst (λ b. TakesTurns b o i) (sym r.0) h)

          go : (at : ℕ) → c.place ≡ at → (o : Option InHand) → RestsAt at o → TakesTurns agent o (fetch tc c.body c.place)
          go zero e None h = there (Some (TakeOf g)) None tt (own_fetch zero e)
          go zero e (Some x) h = absurd h
          go (suc zero) e None h = absurd h
          go (suc zero) e (Some x) h = there (Some RunOf) (Some x) (subst (λ t. RunsOne t (Some RunOf)) (sym h) tt) (own_fetch (suc zero) e)
          go (suc (suc zero)) e None h = absurd h
          go (suc (suc zero)) e (Some x) h = there (Some (FinishOf g)) (Some x) tt (own_fetch (suc (suc zero)) e)
          go (suc (suc (suc n))) e o h = absurd h

      pub rests_send : IsSend (fetch tc c.body c.place) → ⊥
      rests_send i = go c.place refl r.2
        where
          go : (at : ℕ) → c.place ≡ at → RestsAt at c.state.acting → ⊥
          go zero e h = subst IsSend (own_fetch zero e) i
          go (suc zero) e h = subst IsSend (own_fetch (suc zero) e) i
          go (suc (suc zero)) e h = subst IsSend (own_fetch (suc (suc zero)) e) i
          go (suc (suc (suc n))) e h = h

    given_ok : (xs : List Exchange) (c : Configuration) (doing : Activity) → DoingOk c doing → DoingOk (given xs c) doing
    given_ok xs c Outside ok = ok
    given_ok xs c (Restarting left) ok = ok
    given_ok xs c (Running left inner from) ok = ok
    given_ok xs c (Applying left from work values) ok = ok
    given_ok xs c (Swapping swap from) ok = ok

    any_may : (c : Configuration) → HoldsAny c → MayStandHere agent c.doing (fetch tc c.body c.place)
    any_may c (inl h) = may_all c h
    any_may c (inr (inl r)) = rests_may c r
    any_may c (inr (inr l)) = subst (λ i. MayStandHere agent c.doing i) (sym l.0) tt

    any_runs : (c : Configuration) → HoldsAny c → MayRun agent c.state.acting
    any_runs c (inl h) = acts_may agent c.state.acting h.3.2
    any_runs c (inr (inl r)) = subst (λ b. MayRun b c.state.acting) (sym r.0) (may_true c.state.acting)
    any_runs c (inr (inr l)) = acts_may agent c.state.acting l.1

    any_turns : (c : Configuration) → HoldsAny c → TakesTurns agent c.state.acting (fetch tc c.body c.place)
    any_turns c (inl h) = turns_all c h
    any_turns c (inr (inl r)) = rests_turn c r
    any_turns c (inr (inr l)) = turns_so agent c.state.acting (fetch tc c.body c.place) l.1 (subst (RunsOne None) (sym l.0) tt)

    any_given : (xs : List Exchange) (c : Configuration) → HoldsAny c → HoldsAny (given xs c)
    any_given xs c (inl h) = inl (h.0, h.1, given_ok xs c c.doing h.2, h.3)
    any_given xs c (inr (inl r)) = inr (inl r)
    any_given xs c (inr (inr l)) = inr (inr l)

    any_lands : (c : Configuration) → HoldsAny c → Lands (turn tc c)
    any_lands c (inl h) = lands_all c h
    any_lands c (inr (inl r)) = rests_land c r
    any_lands c (inr (inr l)) = subst (λ i. Lands (act tc i c)) (sym l.0) tt

    known_all : HoldsAny (opening tc []) → KnownCode agent tc
    known_all opens = record {
      Holds = HoldsAny;
      opens = opens;
      may = any_may;
      runs = any_runs;
      turns = any_turns;
      given = any_given;
      keeps = λ c d k e. subst Lands e (any_lands c k);
    }

    pub stands_all : HoldsAny (opening tc []) → StandingActor agent tc
    stands_all opens = standing_actor agent tc (known_all opens)

    -- a thread begins at its own body, which is typed
    pub thread_opens : Acts agent None → Body 0 a_thread → HoldsAny (opening tc [])
    thread_opens k b = inl (inl (typed.plain 0, record { owner = a_thread; body = b; here = b.staging.first }), tt, tt, (tt, tt, k))

    pub agent_opens : agent ≡ true → HoldsAny (opening tc [])
    agent_opens e = inr (inl (e, refl, tt, refl, tt, (tt, tt)))

    abbrev callee_or : PlainInstr → Option Callee
    callee_or (SendOf f m span) = Some f
    callee_or _ = None

    staged_send : (st : typed.Stage) (i : Instr) (f : Callee) (m : ℕ) (span : Span) → Fetched ps ks (Some (SendOf f m span)) (Some i) → (owner : Owner) (stages : Stages) (at : ℕ) → FitsStage fs owner stages at st i → MayBeSent kinds f
    staged_send (typed.plain t) (instr.Send g k) f m span e owner stages at h = subst (MayBeSent kinds) (ap (callee_in g) (sym (ap callee_or e.1))) h.1
      where
        callee_in : Callee → Option Callee → Callee
        callee_in g None = g
        callee_in g (Some x) = x
    staged_send (typed.opened t n by) (instr.Send g k) f m span e owner stages at h = absurd h
    staged_send (typed.applied t by) (instr.Send g k) f m span e owner stages at h = absurd h
    staged_send st (instr.Const k) f m span e owner stages at h = absurd (subst is_some (ap callee_or e.1) tt)
    staged_send st (instr.Local i) f m span e owner stages at h = absurd (subst is_some (ap callee_or e.1) tt)
    staged_send st (instr.Store i) f m span e owner stages at h = absurd (subst is_some (ap callee_or e.1) tt)
    staged_send st instr.Pop f m span e owner stages at h = absurd (subst is_some (ap callee_or e.1) tt)
    staged_send st (instr.Jump to) f m span e owner stages at h = absurd (subst is_some (ap callee_or e.1) tt)
    staged_send st (instr.JumpFalse to) f m span e owner stages at h = absurd (subst is_some (ap callee_or e.1) tt)
    staged_send st (instr.Core op n) f m span e owner stages at h = absurd (subst is_some (ap callee_or e.1) tt)
    staged_send st (instr.Call f2) f m span e owner stages at h = absurd (subst is_some (ap callee_or e.1) tt)
    staged_send st instr.Return f m span e owner stages at h = absurd (subst is_some (ap callee_or e.1) tt)
    staged_send st (instr.Vector n) f m span e owner stages at h = absurd (subst is_some (ap callee_or e.1) tt)
    staged_send st (instr.Print n) f m span e owner stages at h = absurd (subst is_some (ap callee_or e.1) tt)
    staged_send st (instr.Look l) f m span e owner stages at h = absurd (subst is_some (ap callee_or e.1) tt)
    staged_send st (instr.Put p) f m span e owner stages at h = absurd (subst is_some (ap callee_or e.1) tt)
    staged_send st instr.TxBegin f m span e owner stages at h = absurd (subst is_some (ap callee_or e.1) tt)
    staged_send st instr.TxEnd f m span e owner stages at h = absurd (subst is_some (ap callee_or e.1) tt)
    staged_send st (instr.Open o n) f m span e owner stages at h = absurd (subst is_some (ap callee_or e.1) tt)
    staged_send st (instr.Close u) f m span e owner stages at h = absurd (subst is_some (ap callee_or e.1) tt)
    staged_send st instr.Halt f m span e owner stages at h = absurd (subst is_some (ap callee_or e.1) tt)

    -- a send's callee may be sent, wherever the code comes to one
    send_pure : (n at : ℕ) (f : Callee) (m : ℕ) (span : Span) → Coded n at → fetch tc n at ≡ Some (SendOf f m span) → MayBeSent kinds f
    send_pure n at f m span a e =
        let w = a.1 in
        let fit = w.body.staging.fits at a.0 w.here in
        staged_send a.0 fit.0 f m span (subst (Fetched ps ks (Some (SendOf f m span))) fit.1 (subst (λ o. Fetched ps ks o (nth w.body.body.instrs at)) e (w.body.fetches at))) w.owner w.body.stages at fit.2

    any_sends : (c : Configuration) → HoldsAny c → (f : Callee) (n : ℕ) (span : Span) → fetch tc c.body c.place ≡ Some (SendOf f n span) → MayBeSent kinds f
    any_sends c (inl h) f n span i = by h.0
      where
        by : Somewhere c.body c.place → MayBeSent kinds f
        by (inl a) = send_pure c.body c.place f n span a i
        by (inr x) = absurd (subst IsSend (sym i ∙ aside_fetch c h c.body c.place x) tt)
    any_sends c (inr (inl r)) f n span i = absurd (rests_send c r (subst IsSend (sym i) tt))
    any_sends c (inr (inr l)) f n span i = absurd (subst IsSend (sym i ∙ l.0) tt)

    pub sends_pure : HoldsAny (opening tc []) → (m : ℕ) (xs : List Exchange) (c : Configuration) → run tc m (opening tc xs) ≡ Unfinished c → (f : Callee) (n : ℕ) (span : Span) → fetch tc c.body c.place ≡ Some (SendOf f n span) → MayBeSent kinds f
    unfolding known_all
    sends_pure opens m xs c e f n span i =
        let k = known_all opens in
        any_sends c (run_known tc agent k m (opening tc xs) c (k.given xs (opening tc []) k.opens) e) f n span i

  -- ---- the bodies of well-typed code

  abbrev first_or : FunctionKind → Option FunctionKind → FunctionKind
  first_or k None = k
  first_or k (Some j) = j

  typed_function : (n : ℕ) (bs : List CodeBody) (kds : List FunctionKind) (rooms : List ℕ) → WellTypedFunctions fs n ks bs kds rooms → (f : ℕ) (kind : FunctionKind) → nth kds f ≡ Some kind
      → (body : CodeBody) × ((stages : Stages) × IsStaging fs (a_function kind) body stages) × ((at : ℕ) → Fetched ps ks (instr_at (nth (plain_bodies ps ks bs) f) at) (nth body.instrs at))
  typed_function n [] [] rooms h f kind e = absurd (subst is_some (sym e) tt)
  typed_function n [] (k ∷ kds) rooms h f kind e = absurd (subst is_cons h.0 tt)
    where
      is_cons : List FunctionKind → Type 0
      is_cons [] = ⊥
      is_cons (x ∷ xs) = Unit {0}
  typed_function n (b ∷ bs) [] rooms h f kind e = absurd h
  typed_function n (b ∷ bs) (k ∷ kds) [] h f kind e = absurd h
  typed_function n (b ∷ bs) (k ∷ kds) (room ∷ rooms) h zero kind e =
      (b, subst (λ j. (stages : Stages) × IsStaging fs (a_function j) b stages) (ap (first_or k) e) h.1.staging, λ at. fetched ps ks b.instrs b.spans at)
  typed_function n (b ∷ bs) (k ∷ kds) (room ∷ rooms) h (suc f) kind e = typed_function (suc n) bs kds rooms h.2 f kind e

  typed_thread : (bs : List CodeBody) (rooms : List ℕ) → WellTypedThreads fs ks bs rooms → (i : ℕ) (b : CodeBody) → nth bs i ≡ Some b → (stages : Stages) × IsStaging fs a_thread b stages
  typed_thread [] rooms h i b e = absurd (subst is_some (sym e) tt)
  typed_thread (x ∷ bs) [] h i b e = absurd h
  typed_thread (x ∷ bs) (room ∷ rooms) h zero b e = subst (λ y. (stages : Stages) × IsStaging fs a_thread y stages) (ap (body_or x) e) h.1.staging
    where
      body_or : CodeBody → Option CodeBody → CodeBody
      body_or y None = y
      body_or y (Some z) = z
  typed_thread (x ∷ bs) (room ∷ rooms) h (suc i) b e = typed_thread bs rooms h.2 i b e

  pub typed_validators : (vs : Validators) → WellTypedValidators fs vs → (k : ℕ) (f : Callee) → validator_at vs k ≡ Some f → IsPureCallee kinds f
  typed_validators [] h k f e = absurd (subst is_some (sym e) tt)
  typed_validators (None ∷ vs) h zero f e = absurd (subst is_some (sym e) tt)
  typed_validators (None ∷ vs) h (suc k) f e = typed_validators vs h k f e
  typed_validators (Some g ∷ vs) h zero f e = subst (IsPureCallee kinds) (ap (callee_in g) e) h.1
    where
      callee_in : Callee → Option Callee → Callee
      callee_in g None = g
      callee_in g (Some x) = x
  typed_validators (Some g ∷ vs) h (suc k) f e = typed_validators vs h.2 k f e

  -- no code is where there is no kind
  pub no_function : (n : ℕ) (bs : List CodeBody) (kds : List FunctionKind) (rooms : List ℕ) → WellTypedFunctions fs n ks bs kds rooms → (f : ℕ) → nth kds f ≡ None → nth (plain_bodies ps ks bs) f ≡ None
  no_function n [] kds rooms h f e = refl
  no_function n (b ∷ bs) [] rooms h f e = absurd h
  no_function n (b ∷ bs) (k ∷ kds) [] h f e = absurd h
  no_function n (b ∷ bs) (k ∷ kds) (room ∷ rooms) h zero e = absurd (subst is_some e tt)
  no_function n (b ∷ bs) (k ∷ kds) (room ∷ rooms) h (suc f) e = no_function (suc n) bs kds rooms h.2 f e

  pub typed_bodies : (rooms : List ℕ) → WellTypedFunctions fs 0 ks code.functions kinds rooms → (f : ℕ) (kind : FunctionKind) → nth kinds f ≡ Some kind → Body (suc f) (a_function kind)
  typed_bodies rooms h f kind e = let x = typed_function 0 code.functions kinds rooms h f kind e in record { body = x.0; stages = x.1.0; staging = x.1.1; fetches = x.2 }

module _ (code : PlainCode) (function_rooms thread_rooms : List ℕ) (well : WellTyped code function_rooms thread_rooms) where
  -- ---- threads

  module _ (i : ℕ) (b : CodeBody) (e : nth code.threads i ≡ Some b) where
    abbrev main_of : PlainBody
    main_of = plain_body (parameters_of code.functions) code.constants b

    thread_body : (g : CellId) → Body code false g main_of well.kinds 0 a_thread
    thread_body g =
        let t = typed_thread code false g main_of well.kinds code.threads thread_rooms well.threads i b e in
        record { body = b; stages = t.0; staging = t.1; fetches = λ at. fetched (parameters_of code.functions) code.constants b.instrs b.spans at }

    -- the instructions of a thread are where they may be
    pub thread_stands : CellId → StandingCode (thread_code code b)
    thread_stands g =
        stands_all code false g main_of well.kinds (typed_bodies code false g main_of well.kinds function_rooms well.functions) (typed_validators code false g main_of well.kinds (validators_of code.cells) well.validators)
        (λ t. absurd (false≢true t)) (no_function code false g main_of well.kinds 0 code.functions well.kinds function_rooms well.functions)
        (thread_opens code false g main_of well.kinds (typed_bodies code false g main_of well.kinds function_rooms well.functions) (typed_validators code false g main_of well.kinds (validators_of code.cells) well.validators)
        (λ t. absurd (false≢true t)) (no_function code false g main_of well.kinds 0 code.functions well.kinds function_rooms well.functions) tt (thread_body g))

    -- what it sends may be sent
    pub thread_sends : CellId → (m : ℕ) (xs : List Exchange) (c : Configuration) → run (thread_code code b) m (opening (thread_code code b) xs) ≡ Unfinished c
        → (f : Callee) (n : ℕ) (span : Span) → fetch (thread_code code b) c.body c.place ≡ Some (SendOf f n span) → MayBeSent well.kinds f
    thread_sends g =
        sends_pure code false g main_of well.kinds (typed_bodies code false g main_of well.kinds function_rooms well.functions) (typed_validators code false g main_of well.kinds (validators_of code.cells) well.validators)
        (λ t. absurd (false≢true t)) (no_function code false g main_of well.kinds 0 code.functions well.kinds function_rooms well.functions)
        (thread_opens code false g main_of well.kinds (typed_bodies code false g main_of well.kinds function_rooms well.functions) (typed_validators code false g main_of well.kinds (validators_of code.cells) well.validators)
        (λ t. absurd (false≢true t)) (no_function code false g main_of well.kinds 0 code.functions well.kinds function_rooms well.functions) tt (thread_body g))

  -- ---- agents

  module _ (g : CellId) where
    -- the instructions of an agent's code are where they may be
    pub agent_stands : StandingActor true (agent_code (library_of code) g)
    agent_stands =
        stands_all code true g (agent_body g) well.kinds (typed_bodies code true g (agent_body g) well.kinds function_rooms well.functions) (typed_validators code true g (agent_body g) well.kinds (validators_of code.cells) well.validators)
        (λ t. refl) (no_function code true g (agent_body g) well.kinds 0 code.functions well.kinds function_rooms well.functions)
        (agent_opens code true g (agent_body g) well.kinds (typed_bodies code true g (agent_body g) well.kinds function_rooms well.functions) (typed_validators code true g (agent_body g) well.kinds (validators_of code.cells) well.validators)
        (λ t. refl) (no_function code true g (agent_body g) well.kinds 0 code.functions well.kinds function_rooms well.functions) refl)

    -- what it sends may be sent
    pub agent_sends : (m : ℕ) (xs : List Exchange) (c : Configuration) → run (agent_code (library_of code) g) m (opening (agent_code (library_of code) g) xs) ≡ Unfinished c
        → (f : Callee) (n : ℕ) (span : Span) → fetch (agent_code (library_of code) g) c.body c.place ≡ Some (SendOf f n span) → MayBeSent well.kinds f
    agent_sends =
        sends_pure code true g (agent_body g) well.kinds (typed_bodies code true g (agent_body g) well.kinds function_rooms well.functions) (typed_validators code true g (agent_body g) well.kinds (validators_of code.cells) well.validators)
        (λ t. refl) (no_function code true g (agent_body g) well.kinds 0 code.functions well.kinds function_rooms well.functions)
        (agent_opens code true g (agent_body g) well.kinds (typed_bodies code true g (agent_body g) well.kinds function_rooms well.functions) (typed_validators code true g (agent_body g) well.kinds (validators_of code.cells) well.validators)
        (λ t. refl) (no_function code true g (agent_body g) well.kinds 0 code.functions well.kinds function_rooms well.functions) refl)

-- any agent
some_agent : CellId
some_agent = record { number = 0; kind = Agent }

-- the instructions of each thread of well-typed code stand where they may
pub typed_stands : TypedStands
typed_stands code function_rooms thread_rooms i b well e = thread_stands code function_rooms thread_rooms well i b e some_agent

-- and those of each agent
pub typed_agents_stand : (code : PlainCode) (function_rooms thread_rooms : List ℕ) (g : CellId) → WellTyped code function_rooms thread_rooms → StandingActor true (agent_code (library_of code) g)
typed_agents_stand code function_rooms thread_rooms g well = agent_stands code function_rooms thread_rooms well g

-- ---- all actors

unfinished_or : Configuration → Turned Configuration → Configuration
unfinished_or c (Unfinished d) = d
unfinished_or c (Ended s) = c
unfinished_or c (Failed f s) = c
unfinished_or c (Asking s) = c
unfinished_or c Stuck = c

abbrev is_unfinished : Turned Configuration → Type 0
is_unfinished (Unfinished d) = Unit {0}
is_unfinished (Ended s) = ⊥
is_unfinished (Failed f s) = ⊥
is_unfinished (Asking s) = ⊥
is_unfinished Stuck = ⊥

-- an actor that no thread has ends at once
none_stands : StandingCode (code_or_none None)
unfolding unfinished_or
none_stands zero xs c e =
    subst (λ d. MayStandHere false d.doing (fetch (code_or_none None) d.body d.place) × MayRun false d.state.acting × TakesTurns false d.state.acting (fetch (code_or_none None) d.body d.place)) (ap (unfinished_or (opening (code_or_none None) xs)) e) (tt, tt, tt)
none_stands (suc m) xs c e = absurd (subst is_unfinished (sym e) tt)

abbrev mapped : (CodeBody → ThreadCode) → Option CodeBody → Option ThreadCode
mapped f None = None
mapped f (Some b) = Some (f b)

nth_mapped : (f : CodeBody → ThreadCode) (bs : List CodeBody) (i : ℕ) → nth (map f bs) i ≡ mapped f (nth bs i)
nth_mapped f [] i = refl
nth_mapped f (b ∷ bs) zero = refl
nth_mapped f (b ∷ bs) (suc i) = nth_mapped f bs i

-- so it is of each actor's code
pub typed_actors_stand : TypedActorsStand
typed_actors_stand code function_rooms thread_rooms i well =
    subst (λ o. StandingCode (code_or_none o)) (sym (nth_mapped (thread_code code) code.threads i)) (go (nth code.threads i) refl)
  where
    go : (o : Option CodeBody) → nth code.threads i ≡ o → StandingCode (code_or_none (mapped (thread_code code) o))
    go None e = none_stands
    go (Some b) e = typed_stands code function_rooms thread_rooms i b well e
