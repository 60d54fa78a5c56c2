-- What an instruction on cells or the transaction makes of an actor is the machine's meaning of it.
use Rattle.std.proofs.Common.{◌≡◌, ℕ, zero, suc, ◌+◌, ◌<◌, ◌≤◌, Bool, true, false, if◌then◌else◌, List, [], ◌∷◌, ◌++◌, length, take, Option, Some, None, Result, Ok, Err, refl, sym, ap, ◌∙◌, subst, arith, add-one, append-nil}
use Rattle.txs_world_protocol.proofs.AskLemmas.{same_ask-itself}
use Rattle.txs_world_protocol.specs.Ask.{Exchange, Writes, buffered, with_write}
use Rattle.txs_world_protocol.specs.declared.ask.Ask.{Ask}
use Rattle.txs_world_protocol.specs.declared.ask.Ask.TheVariants as ask
use Rattle.txs_world_protocol.specs.declared.ask.Reply.{Reply}
use Rattle.txs_world_protocol.specs.declared.ask.Reply.TheVariants.{Is, Views, Done, Retry, Changed, AgentIsFailed, Opened, Action, Idle}
use Rattle.txs_world_protocol.specs.declared.event.Outcome.TheVariants as outcome
use Rattle.txs_frame.specs.Frame.{PlainTxFrame, empty_frame, commuted, set_writes, set_ref, with_cell, ensure_ref, commute_ref, hold_send, sends_of_commit}
use Rattle.txs_frame.specs.Phase.{PlainPhase, blank, arguments_of, tasks_of}
use Rattle.txs_frame.specs.declared.frame.Commute.{Commute}
use Rattle.txs_frame.specs.declared.phase.Task.{Task}
use Rattle.txs_frame.specs.declared.phase.Task.TheVariants.{Redoes, Validates}
use Rattle.txs_value_cell.specs.Cells.{Validators, validator_at}
use Rattle.txs_value_cell.specs.Forms.{rule, cell_of}
use Rattle.txs_value_data.specs.Limits.{reruns}
use Rattle.txs_value_data.specs.Places.{fault_at}
use Rattle.txs_value_cell.specs.declared.action.Action.{Action as AnAction}
use Rattle.txs_value_data.specs.declared.fault.Fault.{Fault}
use Rattle.txs_value_data.specs.declared.fault.FaultKind.{FaultKind}
use Rattle.txs_value_data.specs.declared.fault.FaultKind.TheVariants.{AgentFailed, RetryLimit}
use Rattle.txs_value_data.specs.declared.fault.Span.{Span}
use Rattle.txs_value_cell.specs.declared.form.CellForm.TheVariants as form
use Rattle.txs_value_cell.specs.declared.form.LookForm.TheVariants.{Deref, Ensure}
use Rattle.txs_value_cell.specs.declared.form.PutForm.TheVariants.{RefSet, Reset}
use Rattle.txs_value_cell.specs.declared.form.UpdateForm.TheVariants as update
use Rattle.txs_value_apply.specs.Core.{Answer, core}
use Rattle.txs_value_data.specs.declared.op.Callee.{Callee}
use Rattle.txs_value_data.specs.declared.op.Callee.TheVariants as callee
use Rattle.txs_value_data.specs.declared.value.CellId.{CellId}
use Rattle.txs_value_data.specs.declared.value.Value.{Value}
use Rattle.txs_value_data.specs.declared.value.Value.TheVariants.{Cell}
use Rattle.txs_code_meaning.specs.ActorState.{ActorState, InHand, now_holding, send_or_hold, StepResult, held_in, landed as with_sends_held, taken_back, Continue, Redo, Await, on_step, step_of, Reception, Replied, Unreplied, asks, heard, read_point, just_done, value_there, newest_value, views as machine_views, view, viewed, paired, Outdated, commit_verdict, begin, begun, fail, Taken, handed_out, take_action, finish, commit, look, buffered_or, peek, read, read_cell, assign, assign_cell, set_own, reset_atom, send_verdict, sent, send_now, send_action, send_to, RefUpdate, Alters, Commutes, update_form, kept_open, open_update, close_own, close_update, SwapInHand, opened as opened_there, open_atom, swap_verdict, close_swap, break_swap}
use Rattle.txs_code_meaning.proofs.Phases.{paired_fills, same_arguments}
use Rattle.txs_code_meaning.specs.Machine.{ThreadCode, Frame, Activity, Configuration, Turned, Failed, Asking, Unfinished, act, told, raise, rerun, swap_decided, on, on_args_of, on_top, starts, settles, lands, decided, staying, push_all, is_inside, first_place, rested, ends_with, fails_with}
use Rattle.txs_code_meaning.specs.Machine as machine
use Rattle.txs_code_meaning.specs.PlainCode.{plain_instr}
use Rattle.txs_code_meaning.specs.declared.instr.Instr.{Instr}
use Rattle.txs_code_meaning.specs.declared.instr.Instr.TheVariants as instr
use Rattle.txs_code_meaning.specs.declared.instr.OpenForm.TheVariants as open_form
use Rattle.txs_machine_stack.specs.PlainFrame.{PlainFrame, PlainStack}
use Rattle.txs_machine_loop.specs.Values.{last_of, below, topmost, but_last, put_under, under, stack_in}
use Rattle.txs_machine_loop.proofs.Lists.{pushed_stack, pushed_locals, popped_stack, popped_locals, below_locals, args_of, length_below, length_but_last, under_is, but_two, put_under_stack, put_under_locals, push_all_is}
use Rattle.txs_machine_transaction.specs.Asks.{applied_in, ask_for}
use Rattle.txs_machine_transaction.specs.Effect.{Effect, moves, stays, waits, dispatches, breaks, falls, own_or, reads, reads_cell, ensures, ensures_cell, opens_cell, opens as opens_at, sets, sets_as, sets_cell, resets, resets_cell, action_of, sends, sends_cell, swaps, swaps_cell, swapped, keeps_cell, closes, begins as begins_at, settles as settles_at, applying, applies_as, applies as applies_at, goes_through, ends as ends_at, IsOperation, Operates, LeftApply, effect}
use Rattle.txs_machine_actor.specs.PlainActor.{PlainActor, savepoint_of, frames_on, frames_in, activity_of, home_of, MayAnswer, Stops, WaitsAs, fails_as, attends_anew, wanted_in, begins_again, run_again, ends_again, answered, stands_at}
use Rattle.txs_machine_transaction.specs.Roles.{acting_of, commit_in, holds_all}
use Rattle.txs_machine_transaction.specs.Transaction.{is_running, depth_in, IsUnapplied, IsSwapping}
use Rattle.txs_machine_transaction.specs.declared.state.Savepoint.{Savepoint}
use Rattle.txs_machine_transaction.specs.declared.state.Pending.{Pending}
use Rattle.txs_machine_transaction.specs.declared.state.Pending.TheVariants as pending
use Rattle.txs_machine_transaction.specs.declared.state.Transaction.{Transaction}
use Rattle.txs_machine_transaction.specs.declared.state.Transaction.TheVariants.{Outside, Restarting, Running, Applying, Evaluating, Swapping, Judging, Weighing}
use Rattle.txs_machine_transaction.specs.declared.role.Role.{Role}
use Rattle.txs_machine_transaction.specs.declared.role.Role.TheVariants.{Thread, Attending, Acting}
use Rattle.txs_machine_actor.proofs.Meaning.{stated, configuration, same_place}
use Rattle.txs_machine_actor.proofs.Replies.{begin_replies, view_replies, look_replies, peek_replies, commit_replies, fail_replies, take_replies, finish_replies, reset_replies, send_replies, open_replies, close_replies, broke_replies}
use Rattle.txs_machine_transaction.proofs.Keeping.{but_one_more}

-- a commit has no sends where there are none
empty_commit : (o : Option (List AnAction)) (xs : List AnAction) → xs ≡ [] → sends_of_commit o xs ≡ xs
empty_commit None xs e = refl
empty_commit (Some ys) xs e = sym e

-- and nothing more is held then
holds_none : (o : Option InHand) (xs : List AnAction) → xs ≡ [] → now_holding xs o ≡ o
holds_none None xs e = refl
holds_none (Some h) xs e = ap (λ (ys : List AnAction). Some (record h { sends = ys })) (ap (λ (ys : List AnAction). h.sends ++ ys) e ∙ append-nil h.sends)

-- an action with these sends and no others
abbrev over_all : List AnAction → Option InHand → Option InHand
over_all xs None = None
over_all xs (Some h) = Some (record h { sends = xs })

acting_all : (xs : List AnAction) (r : Role) → acting_of (holds_all xs r) ≡ over_all xs (acting_of r)
acting_all xs Thread = refl
acting_all xs (Attending g None) = refl
acting_all xs (Attending g (Some h)) = refl
acting_all xs (Acting h judges aside) = refl

pub home_all : (xs : List AnAction) (r : Role) → home_of (holds_all xs r) ≡ home_of r
home_all xs Thread = refl
home_all xs (Attending g None) = refl
home_all xs (Attending g (Some h)) = refl
home_all xs (Acting h judges aside) = refl

-- what an action came to
abbrev pub new_of : Result (Value × List AnAction) Fault → Result Value Fault
new_of (Ok x) = Ok x.0
new_of (Err f) = Err f

-- the sends that are handed in with it
abbrev pub sends_of : Result (Value × List AnAction) Fault → List AnAction
sends_of (Ok x) = x.1
sends_of (Err f) = []

module _ (n : ℕ) (role : Role) (bn : ℕ) (fs : List PlainFrame) (l at : ℕ) (vs : List Value) (out : List ℕ) (p seen : ℕ) (w : PlainTxFrame) (kept : Option Commute) (acc : Option Bool) (steps limit room : ℕ) where
  -- an actor with these values
  abbrev pub it : Transaction → Option Pending → PlainActor
  it tx o = record { number = n; role = role; body = bn; frames = fs; locals = l; place = at; values = vs; printed = out; at = p; view = seen; done = w; commuting = kept; accepted = acc; tx = tx; pending = o; outcome = None; steps = steps; limit = limit; room = room }

  -- the frames below all others
  abbrev pub home : List Frame
  home = home_of role

  -- the action that is run
  abbrev pub held : Option InHand
  held = acting_of role

  -- where a transaction would begin
  abbrev pub from_here : Span → Savepoint
  from_here span = record { span = span; stack = record { body = bn; locals = l; place = at; values = vs; room = room; frames = fs } }

  abbrev pub before : List Exchange → ActorState
  before xs = stated xs out p seen w kept held acc

  -- where the machine is
  abbrev pub here : Transaction → List Exchange → Configuration
  here tx xs = configuration bn at (stack_in l vs) (take l vs) (frames_in fs home tx) (activity_of home tx) (before xs)

  abbrev pub met : Ask → Reply → List Exchange
  met q r = record { ask = q; reply = r } ∷ []

  asks_now : (q : Ask) → asks q (before []) ≡ Unreplied (record (before []) { wants = Some q })
  unfolding asks
  asks_now q = refl

  asks_then : (q : Ask) (r : Reply) → asks q (before (met q r)) ≡ Replied r (before [])
  unfolding asks
  asks_then q r = ap (λ b. if b then Replied r (before []) else Unreplied (record (before (met q r)) { wants = Some q })) (same_ask-itself q)

  -- the machine asks this, and an answer leads where the actor is after it
  pub record Asked (f : List Exchange → Turned Configuration) (b : PlainActor) (q : Ask) : Type 0 where
    pub now : f [] ≡ Asking (record (before []) { wants = Some q })
    pub leads : (r : Reply) → MayAnswer q r → (Stops r → ⊥) → f (met q r) ≡ stands_at (answered b r)

  -- a fault of which the store or an atom was asked ends a thread, and that of an action is handed in next
  abbrev pub FailsSo : Type 0
  FailsSo = (f : Fault) (tx : Transaction) (o : Option Pending) → fails_with held f (before []) ≡ stands_at (fails_as (it tx o) f role)

  -- a fault in a transaction, whether it runs or its commutes are applied
  pub fails : FailsSo → (f : Fault) (tx : Transaction) (doing : Activity) → ((s : ActorState) → raise doing f s ≡ told (fail s) (λ s1. fails_with s1.acting f s1)) → Asked (λ xs. raise doing f (before xs)) (it tx (Some (pending.Fail f))) (ask.Fail p seen)
  unfolding fail
  fails fine f tx doing e = record {
    now = e (before []) ∙ ap (λ h. told (heard just_done h) (λ s1. fails_with s1.acting f s1)) (asks_now (ask.Fail p seen));
    leads = λ r m k. e (before (met (ask.Fail p seen) r)) ∙ ap (λ h. told (heard just_done h) (λ s1. fails_with s1.acting f s1)) (asks_then (ask.Fail p seen) r) ∙ fail_replies Leads p seen (λ st. fine f tx (Some (pending.Fail f))) (λ st. absurd (st tt)) (λ st. absurd (st tt)) r m k;
  }
    where
      Leads : Reply → Type 0
      Leads r = (Stops r → ⊥) → told (heard just_done (Replied r (before []))) (λ s1. fails_with s1.acting f s1) ≡ stands_at (answered (it tx (Some (pending.Fail f))) r)

  -- a fault of a swap's callee
  pub breaks_swap : FailsSo → (f : Fault) (c : CellId) (q : ℕ) (tx : Transaction) (doing : Activity) → ((s : ActorState) → raise doing f s ≡ told (break_swap (record { cell = c; at = q }) s) (λ s1. fails_with s1.acting f s1))
      → Asked (λ xs. raise doing f (before xs)) (it tx (Some (pending.Broke c q f))) (ask.Broke c q)
  unfolding break_swap
  breaks_swap fine f c q tx doing e = record {
    now = e (before []) ∙ ap (λ h. told (heard just_done h) (λ s1. fails_with s1.acting f s1)) (asks_now (ask.Broke c q));
    leads = λ r m k. e (before (met (ask.Broke c q) r)) ∙ ap (λ h. told (heard just_done h) (λ s1. fails_with s1.acting f s1)) (asks_then (ask.Broke c q) r) ∙ broke_replies Leads c q (λ st. fine f tx (Some (pending.Broke c q f))) (λ st. absurd (st tt)) (λ st. absurd (st tt)) r m k;
  }
    where
      Leads : Reply → Type 0
      Leads r = (Stops r → ⊥) → told (heard just_done (Replied r (before []))) (λ s1. fails_with s1.acting f s1) ≡ stands_at (answered (it tx (Some (pending.Broke c q f))) r)

  -- what an action came to is handed in, and the agent is at the beginning of its own body, also where an agent of its sends has failed
  pub finishes : (g : CellId) (new : Result (Value × List AnAction) Fault) (tx : Transaction) → stands_at (attends_anew (it tx (Some (pending.Finish g new))) role) ≡ Unfinished (first_place [] (rested (before [])))
      → Asked (λ xs. told (finish g (new_of new) (sends_of new) (before xs)) (λ s1. Unfinished (first_place [] (rested s1)))) (it tx (Some (pending.Finish g new))) (ask.Finish g (new_of new) (sends_of new))
  unfolding finish
  finishes g new tx home = record {
    now = ap (λ h. told (heard taken_back h) (λ s1. Unfinished (first_place [] (rested s1)))) (asks_now (ask.Finish g (new_of new) (sends_of new)));
    leads = λ r m k.
        ap (λ h. told (heard taken_back h) (λ s1. Unfinished (first_place [] (rested s1)))) (asks_then (ask.Finish g (new_of new) (sends_of new)) r)
        ∙ finish_replies Leads g (new_of new) (sends_of new) (λ st. sym home) (λ h st. sym home) (λ st. absurd (st tt)) (λ st. absurd (st tt)) r m k;
  }
    where
      Leads : Reply → Type 0
      Leads r = (Stops r → ⊥) → told (heard taken_back (Replied r (before []))) (λ s1. Unfinished (first_place [] (rested s1))) ≡ stands_at (answered (it tx (Some (pending.Finish g new))) r)

  -- an agent takes an action, if there is one
  pub takes : (g : CellId) (tx : Transaction) (go : List Exchange → StepResult (Option Taken) → Turned Configuration)
      → ((s : ActorState) → go [] (Await s) ≡ Asking s)
      → ((xs : List Exchange) (m : ℕ) (x : AnAction) (v : Value) → go xs (Continue (Some (record { action = x; state = v })) (before [])) ≡ stands_at (answered (it tx (Some (pending.Take g))) (Action m x v)))
      → ((xs : List Exchange) → go xs (Continue None (before [])) ≡ stands_at (answered (it tx (Some (pending.Take g))) Idle))
      → Asked (λ xs. go xs (take_action g (before xs))) (it tx (Some (pending.Take g))) (ask.Take g)
  unfolding take_action
  takes g tx go await action idle = record {
    now = ap (λ h. go [] (heard handed_out h)) (asks_now (ask.Take g)) ∙ await (record (before []) { wants = Some (ask.Take g) });
    leads = λ r m k.
        ap (λ h. go (met (ask.Take g) r) (heard handed_out h)) (asks_then (ask.Take g) r)
        ∙ take_replies (Leads (met (ask.Take g) r)) g (λ i x v st. action (met (ask.Take g) r) i x v) (λ st. idle (met (ask.Take g) r)) (λ st. absurd (st tt)) r m k;
  }
    where
      Leads : List Exchange → Reply → Type 0
      Leads xs r = (Stops r → ⊥) → go xs (heard handed_out (Replied r (before []))) ≡ stands_at (answered (it tx (Some (pending.Take g))) r)

  -- a read in a transaction
  looks : (tx : Transaction) (c : CellId) (o : Pending) (go : StepResult Value → Turned Configuration)
      → ((s : ActorState) → go (Await s) ≡ Asking s)
      → ((v : Value) → go (Continue v (before [])) ≡ stands_at (answered (it tx (Some o)) (Is v)))
      → ((d : CellId) → go (Redo (before [])) ≡ stands_at (answered (it tx (Some o)) (Retry d)))
      → Asked (λ xs. go (heard value_there (asks (ask.Look c p) (before xs)))) (it tx (Some o)) (ask.Look c p)
  looks tx c o go await is again = record {
    now = ap (λ h. go (heard value_there h)) (asks_now (ask.Look c p)) ∙ await (record (before []) { wants = Some (ask.Look c p) });
    leads = λ r m k. ap (λ h. go (heard value_there h)) (asks_then (ask.Look c p) r) ∙ look_replies Leads c p (λ v st. is v) (λ d st. again d) (λ st. absurd (st tt)) (λ st. absurd (st tt)) r m k;
  }
    where
      Leads : Reply → Type 0
      Leads r = (Stops r → ⊥) → go (heard value_there (Replied r (before []))) ≡ stands_at (answered (it tx (Some o)) r)

  -- a read outside
  peeks : (tx : Transaction) (c : CellId) (o : Pending) (go : StepResult Value → Turned Configuration)
      → ((s : ActorState) → go (Await s) ≡ Asking s)
      → ((v : Value) → go (Continue v (before [])) ≡ stands_at (answered (it tx (Some o)) (Is v)))
      → Asked (λ xs. go (heard newest_value (asks (ask.Peek c) (before xs)))) (it tx (Some o)) (ask.Peek c)
  peeks tx c o go await is = record {
    now = ap (λ h. go (heard newest_value h)) (asks_now (ask.Peek c)) ∙ await (record (before []) { wants = Some (ask.Peek c) });
    leads = λ r m k. ap (λ h. go (heard newest_value h)) (asks_then (ask.Peek c) r) ∙ peek_replies Leads c (λ v st. is v) (λ st. absurd (st tt)) (λ st. absurd (st tt)) r m k;
  }
    where
      Leads : Reply → Type 0
      Leads r = (Stops r → ⊥) → go (heard newest_value (Replied r (before []))) ≡ stands_at (answered (it tx (Some o)) r)

  -- a send outside every transaction, as the machine says it: a thread asks for it, and the action that is run holds it
  abbrev pub SentAs : AnAction → ℕ → Transaction → Option InHand → (List Exchange → Turned Configuration) → Type 0
  SentAs x m tx None f = Asked f (it tx (Some (pending.Send x m))) (ask.Send x)
  SentAs x m tx (Some h) f =
      f [] ≡ Unfinished (configuration bn (at + 1) (stack_in l (below (m + 1) vs ++ Cell x.agent ∷ [])) (take l (below (m + 1) vs ++ Cell x.agent ∷ [])) (frames_in fs home tx) (activity_of home tx) (stated [] out p seen w kept (now_holding (x ∷ []) held) acc))

  -- what is asked for, where an instruction wants this
  abbrev pub wanted : Pending → Pending
  wanted q = wanted_in w.sends held q

  -- what an effect is, as the machine says it
  abbrev pub EffectIs : Span → Transaction → Effect → (List Exchange → Turned Configuration) → Type 0
  EffectIs span tx (moves us tx1 own had) f = f [] ≡ Unfinished (configuration bn (at + 1) (stack_in l us) (take l us) (frames_in fs home tx1) (activity_of home tx1) (stated [] out p seen own had held acc))
  EffectIs span tx (stays us tx1 own had) f = f [] ≡ Unfinished (configuration bn at (stack_in l us) (take l us) (frames_in fs home tx1) (activity_of home tx1) (stated [] out p seen own had held acc))
  EffectIs span tx (waits q us tx1 own had) f = (us ≡ vs) × (tx1 ≡ tx) × (own ≡ w) × (had ≡ kept) × Asked f (it tx (Some (wanted q))) (ask_for (wanted q) (is_running tx) p seen (applied_in tx) w)
  EffectIs span tx (dispatches x m us tx1 own had) f = (us ≡ vs) × (tx1 ≡ tx) × (own ≡ w) × (had ≡ kept) × SentAs x m tx held f
  EffectIs span tx (breaks k tx1 own had) f = (tx1 ≡ tx) × (own ≡ w) × (had ≡ kept) × ((xs : List Exchange) → f xs ≡ raise (activity_of home tx) (fault_at k span) (before xs))
  EffectIs span tx (falls d tx1 own had) f = (tx1 ≡ tx) × (own ≡ w) × (had ≡ kept) × ((xs : List Exchange) → f xs ≡ raise (activity_of home tx) d (before xs))

  -- a send with another way to say what the machine does
  said_sent : (x : AnAction) (m : ℕ) (tx : Transaction) (o : Option InHand) (f g : List Exchange → Turned Configuration) → ((xs : List Exchange) → f xs ≡ g xs) → SentAs x m tx o g → SentAs x m tx o f
  said_sent x m tx None f g h k = record { now = h [] ∙ k.now; leads = λ r n st. h (met (ask.Send x) r) ∙ k.leads r n st }
  said_sent x m tx (Some held_by) f g h k = h [] ∙ k

  -- an effect with another way to say what the machine does
  said : (span : Span) (tx : Transaction) (e : Effect) (f g : List Exchange → Turned Configuration) → ((xs : List Exchange) → f xs ≡ g xs) → EffectIs span tx e g → EffectIs span tx e f
  said span tx (moves us tx1 own had) f g h k = h [] ∙ k
  said span tx (stays us tx1 own had) f g h k = h [] ∙ k
  said span tx (waits q us tx1 own had) f g h k = (k.0, k.1, k.2, k.3, record { now = h [] ∙ k.4.now; leads = λ r m st. h (met (ask_for (wanted q) (is_running tx) p seen (applied_in tx) w) r) ∙ k.4.leads r m st })
  said span tx (dispatches x m us tx1 own had) f g h k = (k.0, k.1, k.2, k.3, said_sent x m tx held f g h k.4)
  said span tx (breaks d tx1 own had) f g h k = (k.0, k.1, k.2, λ xs. h xs ∙ k.3 xs)
  said span tx (falls d tx1 own had) f g h k = (k.0, k.1, k.2, λ xs. h xs ∙ k.3 xs)

  -- all that there is to do at a transaction's end is the commit or a view
  abbrev pub IsSettled : ThreadCode → Transaction → Type 0
  IsSettled code (Running left zero from) = commuted w ≡ [] → tasks_of code.validators w ≡ []
  IsSettled code _ = Unit {0}

  -- the atom that a form takes has no validator
  abbrev pub IsUnjudged : ThreadCode → Result CellId FaultKind → Type 0
  IsUnjudged code (Ok c) = validator_at code.validators c.number ≡ None
  IsUnjudged code (Err k) = Unit {0}

  -- nor has the atom of the swap that is applied
  abbrev pub IsUnweighed : ThreadCode → Transaction → Type 0
  IsUnweighed code (Swapping c q from) = validator_at code.validators c.number ≡ None
  IsUnweighed code _ = Unit {0}

  -- what an instruction on cells or the transaction needs, where it stands, and nothing is to be validated before it
  abbrev pub Stands : ThreadCode → Transaction → Instr → Type 0
  Stands code tx (instr.Look Deref) = (l < length vs) × IsUnapplied tx
  Stands code tx (instr.Look Ensure) = (l < length vs) × (0 < depth_in tx) × IsUnapplied tx
  Stands code tx (instr.Put RefSet) = (1 + l < length vs) × (0 < depth_in tx) × IsUnapplied tx
  Stands code tx (instr.Put Reset) = (1 + l < length vs) × (is_inside (activity_of home tx) ≡ false) × IsUnjudged code (cell_of (rule (form.Put Reset)) false (under 1 vs))
  Stands code tx (instr.Send f m) = (m + l < length vs) × IsUnapplied tx
  Stands code tx instr.TxBegin = IsUnapplied tx
  Stands code tx instr.TxEnd = (0 < depth_in tx) × LeftApply tx × IsSettled code tx
  Stands code tx (instr.Open open_form.Alter m) = (m + l < length vs) × (0 < depth_in tx) × IsUnapplied tx
  Stands code tx (instr.Open (open_form.Commute f) m) = (m + l < length vs) × (0 < depth_in tx) × IsUnapplied tx
  Stands code tx (instr.Close update.Alter) = 1 + l < length vs
  Stands code tx (instr.Close update.Commute) = 1 + l < length vs
  Stands code tx (instr.Open (open_form.Swap f) m) = (m + l < length vs) × (tx ≡ Outside)
  Stands code tx (instr.Close update.Swap) = (1 + l < length vs) × IsSwapping tx × IsUnweighed code tx
  Stands code tx _ = ⊥

  -- the two values at the top
  pub two_tops : (go : Value → Value → List Value → Turned Configuration) → 1 + l < length vs → machine.on_two (stack_in l vs) go ≡ go (last_of vs) (under 1 vs) (stack_in l (below 2 vs))
  two_tops go h =
      let lt : l < length vs = omega (arith, h) in
      let lt1 : l < length (but_last vs) = omega (arith, h, length_but_last vs) in
      ap (λ st. machine.on_two st go) (popped_stack l vs lt)
      ∙ ap (λ st. on_top st (go (last_of vs))) (popped_stack l (but_last vs) lt1)
      ∙ ap (λ c. go (last_of vs) c (stack_in l (but_last (but_last vs)))) (under_is 1 vs (omega (arith, h)))
      ∙ ap (λ us. go (last_of vs) (under 1 vs) (stack_in l us)) (but_two vs)

  module _ (fine : FailsSo) where
    -- the transaction begins again
    reruns_from : (left : ℕ) (from : Savepoint) (tx : Transaction) (o : Option Pending) → rerun left (savepoint_of home from) (before []) ≡ stands_at (begins_again (it tx o) left from)
    reruns_from zero from tx o = fine (fault_at RetryLimit from.span) tx o
    reruns_from (suc left) from tx o = refl

    reruns_so : (left inner : ℕ) (from : Savepoint) (o : Option Pending) → rerun left (savepoint_of home from) (before []) ≡ stands_at (run_again (it (Running left inner from) o) (Running left inner from))
    reruns_so left inner from o = reruns_from left from (Running left inner from) o

    -- the actor at the next place with this stack
    abbrev stacked : Transaction → List Value → ActorState → Turned Configuration
    stacked tx st s1 = Unfinished (configuration bn (at + 1) st (take l vs) (frames_in fs home tx) (activity_of home tx) s1)

    -- a value in the place of the last, where the transaction has done this
    replaced_with : (own : PlainTxFrame) (tx : Transaction) (v : Value) → l < length vs
        → stacked tx (v ∷ stack_in l (but_last vs)) (stated [] out p seen own kept held acc)
        ≡ Unfinished (configuration bn (at + 1) (stack_in l (but_last vs ++ v ∷ [])) (take l (but_last vs ++ v ∷ [])) (frames_in fs home tx) (activity_of home tx) (stated [] out p seen own kept held acc))
    replaced_with own tx v lt =
        let le : l ≤ length (but_last vs) = omega (arith, length_but_last vs) in
        same_place bn (frames_in fs home tx) (activity_of home tx) [] p seen own kept held acc (at + 1) _ _ _ _ out (sym (pushed_stack l (but_last vs) v le)) (sym (popped_locals l vs lt) ∙ sym (pushed_locals l (but_last vs) v le))

    replaced : (tx : Transaction) (v : Value) → l < length vs
        → stacked tx (v ∷ stack_in l (but_last vs)) (before [])
        ≡ Unfinished (configuration bn (at + 1) (stack_in l (but_last vs ++ v ∷ [])) (take l (but_last vs ++ v ∷ [])) (frames_in fs home tx) (activity_of home tx) (before []))
    replaced = replaced_with w

    abbrev on_read : Transaction → Value → ActorState → Turned Configuration
    on_read tx v s1 = stacked tx (v ∷ stack_in l (but_last vs)) s1

    -- `deref` in a transaction
    inside_by : (span : Span) (left inner : ℕ) (from : Savepoint) → l < length vs → (r : Result CellId FaultKind)
        → EffectIs span (Running left inner from) (reads_cell true vs (Running left inner from) w kept r)
        (λ xs. on (machine.Running left inner (savepoint_of home from)) (on_step (step_of r span (before xs)) (read_cell Deref true)) (on_read (Running left inner from)))
    unfolding look
    inside_by span left inner from lt (Err k) = (refl, refl, refl, λ xs. refl)
    inside_by span left inner from lt (Ok c) = by_own (buffered w.values c.number)
      where
        by_own : (o : Option Value)
            → EffectIs span (Running left inner from) (own_or o (λ v. moves (but_last vs ++ v ∷ []) (Running left inner from) w kept) (waits (pending.Read c) vs (Running left inner from) w kept))
            (λ xs. on (machine.Running left inner (savepoint_of home from)) (buffered_or o (before xs) (heard value_there (asks (ask.Look c p) (before xs)))) (on_read (Running left inner from)))
        by_own (Some v) = replaced (Running left inner from) v lt
        by_own None = (refl, refl, refl, refl, looks (Running left inner from) c (pending.Read c) (λ r. on (machine.Running left inner (savepoint_of home from)) r (on_read (Running left inner from))) (λ s. refl) (λ v. replaced (Running left inner from) v lt) (λ d. reruns_so left inner from (Some (pending.Read c))))

    -- `deref` outside
    outside_by : (span : Span) (tx : Transaction) → is_running tx ≡ false → l < length vs → (r : Result CellId FaultKind)
        → EffectIs span tx (reads_cell false vs tx w kept r) (λ xs. on (activity_of home tx) (on_step (step_of r span (before xs)) (read_cell Deref false)) (on_read tx))
    unfolding peek
    outside_by span tx e lt (Err k) = (refl, refl, refl, λ xs. refl)
    outside_by span tx e lt (Ok c) = (refl, refl, refl, refl, subst (λ (b : Bool). Asked (λ xs. on (activity_of home tx) (heard newest_value (asks (ask.Peek c) (before xs))) (on_read tx)) (it tx (Some (pending.Read c))) (ask_for (pending.Read c) b p seen (applied_in tx) w)) (sym e) (peeks tx c (pending.Read c) (λ r. on (activity_of home tx) r (on_read tx)) (λ s. refl) (λ v. replaced tx v lt)))

    reads_by : (span : Span) (tx : Transaction) → l < length vs → IsUnapplied tx
        → EffectIs span tx (reads (is_running tx) vs tx w kept) (λ xs. on (activity_of home tx) (read Deref (is_inside (activity_of home tx)) span (last_of vs) (before xs)) (on_read tx))
    reads_by span Outside lt u = outside_by span Outside refl lt (cell_of (rule (form.Look Deref)) false (last_of vs))
    reads_by span (Restarting left) lt u = outside_by span (Restarting left) refl lt (cell_of (rule (form.Look Deref)) false (last_of vs))
    reads_by span (Applying left from phase) lt u = absurd u
    reads_by span (Evaluating left from phase aside) lt u = absurd u
    reads_by span (Swapping c q from) lt u = absurd u
    reads_by span (Judging aside) lt u = absurd u
    reads_by span (Weighing c q from aside) lt u = absurd u
    reads_by span (Running left inner from) lt u = inside_by span left inner from lt (cell_of (rule (form.Look Deref)) true (last_of vs))

    -- the ref is ensured, once it was read
    abbrev guarded : CellId → StepResult Value → StepResult Value
    guarded c r = on_step r (λ v s1. Continue v (record s1 { done = ensure_ref c s1.done }))

    -- `ensure`
    ensures_by : (span : Span) (left inner : ℕ) (from : Savepoint) → l < length vs → (r : Result CellId FaultKind)
        → EffectIs span (Running left inner from) (ensures_cell vs (Running left inner from) w kept r)
        (λ xs. on (machine.Running left inner (savepoint_of home from)) (on_step (step_of r span (before xs)) (read_cell Ensure true)) (on_read (Running left inner from)))
    unfolding look
    ensures_by span left inner from lt (Err k) = (refl, refl, refl, λ xs. refl)
    ensures_by span left inner from lt (Ok c) = by_own (buffered w.values c.number)
      where
        by_own : (o : Option Value)
            → EffectIs span (Running left inner from)
            (own_or o (λ v. moves (but_last vs ++ v ∷ []) (Running left inner from) (ensure_ref c w) kept) (waits (pending.Ensure c (with_cell w.ensures c)) vs (Running left inner from) w kept))
            (λ xs. on (machine.Running left inner (savepoint_of home from)) (guarded c (buffered_or o (before xs) (heard value_there (asks (ask.Look c p) (before xs))))) (on_read (Running left inner from)))
        by_own (Some v) = replaced_with (ensure_ref c w) (Running left inner from) v lt
        by_own None =
            let q = pending.Ensure c (with_cell w.ensures c) in (
              refl,
              refl,
              refl,
              refl,
              looks (Running left inner from) c q (λ r. on (machine.Running left inner (savepoint_of home from)) (guarded c r) (on_read (Running left inner from))) (λ s. refl) (λ v. replaced_with (ensure_ref c w) (Running left inner from) v lt) (λ d. reruns_so left inner from (Some q)),
            )

    -- an update opens its ref
    abbrev on_open : ℕ → Transaction → Value → ActorState → Turned Configuration
    on_open m tx v s1 = stacked tx (push_all (topmost m vs) (v ∷ stack_in l (below m vs))) s1

    put_so : (m : ℕ) (tx : Transaction) (v : Value) (had : Option Commute) → m + l ≤ length vs
        → on_open m tx v (stated [] out p seen w had held acc) ≡ Unfinished (configuration bn (at + 1) (stack_in l (put_under m v vs)) (take l (put_under m v vs)) (frames_in fs home tx) (activity_of home tx) (stated [] out p seen w had held acc))
    put_so m tx v had le =
        same_place bn (frames_in fs home tx) (activity_of home tx) [] p seen w had held acc (at + 1) _ _ _ _ out (push_all_is (topmost m vs) (v ∷ stack_in l (below m vs)) ∙ sym (put_under_stack l m v vs le)) (sym (put_under_locals l m v vs le))

    -- what is open then
    abbrev opened_as : Option Commute → StepResult Value → StepResult Value
    opened_as had r = on_step r (λ x s2. Continue x (record s2 { commuting = had }))

    opens_by : (u : RefUpdate) (span : Span) (m left inner : ℕ) (from : Savepoint) → m + l ≤ length vs → (r : Result CellId FaultKind)
        → EffectIs span (Running left inner from) (opens_cell u m vs (Running left inner from) w kept r)
        (λ xs. on (machine.Running left inner (savepoint_of home from)) (on_step (step_of r span (before xs)) (λ c s1. opened_as (kept_open u c (topmost m vs)) (look c s1))) (on_open m (Running left inner from)))
    unfolding look
    opens_by u span m left inner from le (Err k) = (refl, refl, refl, λ xs. refl)
    opens_by u span m left inner from le (Ok c) = by_own (kept_open u c (topmost m vs)) (buffered w.values c.number)
      where
        by_own : (had : Option Commute) (o : Option Value)
            → EffectIs span (Running left inner from) (own_or o (λ v. moves (put_under m v vs) (Running left inner from) w had) (waits (pending.Open c m had) vs (Running left inner from) w kept))
            (λ xs. on (machine.Running left inner (savepoint_of home from)) (opened_as had (buffered_or o (before xs) (heard value_there (asks (ask.Look c p) (before xs))))) (on_open m (Running left inner from)))
        by_own had (Some v) = put_so m (Running left inner from) v had le
        by_own had None =
            let q = pending.Open c m had in (
              refl,
              refl,
              refl,
              refl,
              looks (Running left inner from) c q (λ r. on (machine.Running left inner (savepoint_of home from)) (opened_as had r) (on_open m (Running left inner from))) (λ s. refl) (λ v. put_so m (Running left inner from) v had le) (λ d. reruns_so left inner from (Some q)),
            )

    -- a transaction begins, where no stack is put aside
    begun_by : (left : ℕ) (tx : Transaction) → frames_in fs home tx ≡ frames_on fs home → (span : Span) → Asked (λ xs. starts left span (here tx xs)) (it tx (Some (pending.Begin left (from_here span)))) ask.Begin
    unfolding begin
    begun_by left tx low span = record {
      now = ap (λ h. on (activity_of home tx) (on_step (heard read_point h) begun) go) (asks_now ask.Begin);
      leads = λ r m k. ap (λ h. on (activity_of home tx) (on_step (heard read_point h) begun) go) (asks_then ask.Begin r) ∙ begin_replies Leads (λ q. ap (λ x. over x (stated [] out q q empty_frame None held acc)) low) r m;
    }
      where
        over : List Frame → ActorState → Turned Configuration
        over x s1 = Unfinished (configuration bn (at + 1) (stack_in l vs) (take l vs) x (machine.Running left 0 (record { span = span; body = bn; place = at; stack = stack_in l vs; locals = take l vs; frames = x })) s1)

        go : Unit {0} → ActorState → Turned Configuration
        go u s1 = over (frames_in fs home tx) s1

        Leads : Reply → Type 0
        Leads r = on (activity_of home tx) (on_step (heard read_point (Replied r (before []))) begun) (λ u s1. over (frames_in fs home tx) s1) ≡ stands_at (answered (it tx (Some (pending.Begin left (from_here span)))) r)

    begins_by : (span : Span) (tx : Transaction) → IsUnapplied tx → EffectIs span tx (begins_at (from_here span) vs w kept tx) (λ xs. machine.begins (activity_of home tx) span (here tx xs))
    begins_by span Outside u = (refl, refl, refl, refl, begun_by reruns Outside refl span)
    begins_by span (Restarting left) u = (refl, refl, refl, refl, begun_by left (Restarting left) refl span)
    begins_by span (Applying left from phase) u = absurd u
    begins_by span (Evaluating left from phase aside) u = absurd u
    begins_by span (Swapping c q from) u = absurd u
    begins_by span (Judging aside) u = absurd u
    begins_by span (Weighing c q from aside) u = absurd u
    begins_by span (Running left inner from) u = ap (λ i. Unfinished (configuration bn (at + 1) (stack_in l vs) (take l vs) (frames_on fs home) (machine.Running left i (savepoint_of home from)) (before []))) (sym (add-one inner))

    -- the transaction ends again from a new view
    ends_from : (left : ℕ) (from : Savepoint) (tx : Transaction) (o : Option Pending) (xs : List Exchange) → frames_in fs home tx ≡ frames_on fs home → decided Outdated left (savepoint_of home from) (here tx xs) (before []) ≡ stands_at (ends_again (it tx o) left from)
    ends_from zero from tx o xs low = fine (fault_at RetryLimit from.span) tx o
    ends_from (suc left) from tx o xs low = ap (λ x. Unfinished (configuration bn at (stack_in l vs) (take l vs) x (machine.Running left 0 (savepoint_of home from)) (before []))) low

    -- how a transaction of so many tries from here, which puts no stack aside, goes on after this ask for its commit
    record GoesOnFrom (o : Pending) (tx : Transaction) (left : ℕ) (from : Savepoint) : Type 0 where
      pub low : frames_in fs home tx ≡ frames_on fs home
      pub again : (d : CellId) → answered (it tx (Some o)) (Retry d) ≡ begins_again (it tx (Some o)) left from
      pub from_view : (d : CellId) → answered (it tx (Some o)) (Changed d) ≡ ends_again (it tx (Some o)) left from
      pub refused : (g : CellId) → answered (it tx (Some o)) (AgentIsFailed g) ≡ fails_as (it tx (Some o)) (fault_at AgentFailed from.span) role

    -- what is committed
    abbrev committed : Transaction → Ask
    committed tx = ask.Commit p (set_writes w) w.ensures seen (applied_in tx) (sends_of_commit (held_in held) w.sends)

    -- an action holds the sends then
    abbrev LandsSo : Pending → Transaction → Type 0
    LandsSo o tx = Unfinished (configuration bn (at + 1) (stack_in l vs) (take l vs) (frames_on fs home) machine.Outside (stated [] out p seen w kept (now_holding w.sends held) acc)) ≡ stands_at (answered (it tx (Some o)) Done)

    commits_by : (o : Pending) (tx : Transaction) (left : ℕ) (from : Savepoint) → GoesOnFrom o tx left from → LandsSo o tx
        → Asked (λ xs. lands left (savepoint_of home from) (applied_in tx) (here tx xs)) (it tx (Some o)) (committed tx)
    unfolding commit
    commits_by o tx left from k lands_so = record {
      now = ap (λ h. gone h []) (asks_now (committed tx));
      leads = λ r m st.
          ap (λ h. gone h (met (committed tx) r)) (asks_then (committed tx) r)
          ∙ commit_replies Leads p (set_writes w) w.ensures seen (applied_in tx) (sends_of_commit (held_in held) w.sends) (λ n. landed_so) (λ d n. reruns_from left from tx (Some o) ∙ ap stands_at (sym (k.again d)))
          (λ d n. ends_from left from tx (Some o) (met (committed tx) (Changed d)) k.low ∙ ap stands_at (sym (k.from_view d))) (λ g n. fine (fault_at AgentFailed from.span) tx (Some o) ∙ ap stands_at (sym (k.refused g))) (λ n. absurd (n tt)) (λ n. absurd (n tt)) r m st;
    }
      where
        gone : Reception → List Exchange → Turned Configuration
        gone h xs = on (activity_of home tx) (on_step (heard commit_verdict h) with_sends_held) (λ verdict s. decided verdict left (savepoint_of home from) (here tx xs) s)

        landed_so : gone (Replied Done (before [])) (met (committed tx) Done) ≡ stands_at (answered (it tx (Some o)) Done)
        landed_so = ap (λ x. Unfinished (configuration bn (at + 1) (stack_in l vs) (take l vs) x machine.Outside (stated [] out p seen w kept (now_holding w.sends held) acc))) k.low ∙ lands_so

        Leads : Reply → Type 0
        Leads r = (Stops r → ⊥) → gone (Replied r (before [])) (met (committed tx) r) ≡ stands_at (answered (it tx (Some o)) r)

    -- a transaction ends, with the values that its commutes gave: by its sends, and the action that is run
    commits_as : (ys : List AnAction) (o : Option InHand) → w.sends ≡ ys → held ≡ o → (tx : Transaction) (left : ℕ) (from : Savepoint) → GoesOnFrom pending.Commit tx left from → ((zs : List AnAction) → GoesOnFrom (pending.Hold zs) tx left from)
        → Asked (λ xs. lands left (savepoint_of home from) (applied_in tx) (here tx xs)) (it tx (Some (commit_in ys o))) (ask_for (commit_in ys o) (is_running tx) p seen (applied_in tx) w)
    commits_as [] o none e tx left from k ks =
        subst (λ (zs : List AnAction). Asked (λ xs. lands left (savepoint_of home from) (applied_in tx) (here tx xs)) (it tx (Some pending.Commit)) (ask.Commit p (set_writes w) w.ensures seen (applied_in tx) zs)) (empty_commit (held_in held) w.sends none)
        (commits_by pending.Commit tx left from k (ap (λ (x : Option InHand). Unfinished (configuration bn (at + 1) (stack_in l vs) (take l vs) (frames_on fs home) machine.Outside (stated [] out p seen w kept x acc))) (holds_none held w.sends none)))
    commits_as (y ∷ ys) None some_of e tx left from k ks =
        subst (λ (zs : List AnAction). Asked (λ xs. lands left (savepoint_of home from) (applied_in tx) (here tx xs)) (it tx (Some pending.Commit)) (ask.Commit p (set_writes w) w.ensures seen (applied_in tx) zs)) (ap (λ (x : Option InHand). sends_of_commit (held_in x) w.sends) e)
        (commits_by pending.Commit tx left from k (ap (λ (x : Option InHand). Unfinished (configuration bn (at + 1) (stack_in l vs) (take l vs) (frames_on fs home) machine.Outside (stated [] out p seen w kept x acc))) (ap (now_holding w.sends) e ∙ sym e)))
    commits_as (y ∷ ys) (Some h) some_of e tx left from k ks =
        let zs = h.sends ++ y ∷ ys in
        let at_home : List Frame → Option InHand → Turned Configuration = λ x o. Unfinished (configuration bn (at + 1) (stack_in l vs) (take l vs) (frames_on fs x) machine.Outside (stated [] out p seen w kept o acc)) in
        let same : now_holding w.sends held ≡ acting_of (holds_all zs role) = ap (λ (x : Option InHand). now_holding w.sends x) e ∙ ap (λ us. now_holding us (Some h)) some_of ∙ sym (acting_all zs role ∙ ap (over_all zs) e) in
        subst (λ (us : List AnAction). Asked (λ xs. lands left (savepoint_of home from) (applied_in tx) (here tx xs)) (it tx (Some (pending.Hold zs))) (ask.Commit p (set_writes w) w.ensures seen (applied_in tx) us)) (ap (λ (x : Option InHand). sends_of_commit (held_in x) w.sends) e)
        (commits_by (pending.Hold zs) tx left from (ks zs) (ap (λ o. at_home home o) same ∙ ap (λ x. at_home x (acting_of (holds_all zs role))) (sym (home_all zs role))))

    commits : (tx : Transaction) (left : ℕ) (from : Savepoint) → GoesOnFrom pending.Commit tx left from → ((zs : List AnAction) → GoesOnFrom (pending.Hold zs) tx left from)
        → Asked (λ xs. lands left (savepoint_of home from) (applied_in tx) (here tx xs)) (it tx (Some (wanted pending.Commit))) (ask_for (wanted pending.Commit) (is_running tx) p seen (applied_in tx) w)
    commits tx left from k ks = commits_as w.sends held refl refl tx left from k ks

    -- the refs that were commuted and not set are viewed
    views_by : (vals : Validators) (left inner : ℕ) (from : Savepoint) (phase : PlainPhase) → phase ≡ record { work = tasks_of vals w; values = blank (commuted w) }
        → Asked (λ xs. on (machine.Running left inner (savepoint_of home from)) (view (before xs)) (λ values s. Unfinished (staying (machine.Applying left (savepoint_of home from) (tasks_of vals s.done) values) s (here (Running left inner from) xs))))
        (it (Running left inner from) (Some (pending.View phase))) (ask.View (commuted w))
    unfolding view
    views_by vals left inner from phase e = record {
      now = ap (λ h. gone h []) (asks_now q);
      leads = λ r m st. ap (λ h. gone h (met q r)) (asks_then q r) ∙ view_replies Leads (commuted w) (λ n us many st. viewed_so n us many) (λ st. absurd (st tt)) r m st;
    }
      where
        tx : Transaction
        tx = Running left inner from

        q : Ask
        q = ask.View (commuted w)

        go : List Exchange → Writes → ActorState → Turned Configuration
        go xs values s = Unfinished (staying (machine.Applying left (savepoint_of home from) (tasks_of vals s.done) values) s (here tx xs))

        gone : Reception → List Exchange → Turned Configuration
        gone h xs = on (machine.Running left inner (savepoint_of home from)) (on_step (heard machine_views h) (λ x s1. viewed x.0 (paired (commuted w) x.1) s1)) (go xs)

        viewed_so : (n : ℕ) (us : List Value) → length us ≡ length (commuted w) → gone (Replied (Views n us) (before [])) (met q (Views n us)) ≡ stands_at (answered (it tx (Some (pending.View phase))) (Views n us))
        viewed_so n us many =
            ap (λ o. on (machine.Running left inner (savepoint_of home from)) (viewed n o (before [])) (go (met q (Views n us)))) (paired_fills (commuted w) us many)
            ∙ ap (λ (x : PlainPhase). stands_at (answered (it tx (Some (pending.View x))) (Views n us))) (sym e)

        Leads : Reply → Type 0
        Leads r = (Stops r → ⊥) → gone (Replied r (before [])) (met q r) ≡ stands_at (answered (it tx (Some (pending.View phase))) r)

    -- at a transaction's end, where all that there is to do is the commit or a view
    settles_by : (code : ThreadCode) (span : Span) (left : ℕ) (from : Savepoint) (cs : List CellId) → commuted w ≡ cs → (cs ≡ [] → tasks_of code.validators w ≡ [])
        → EffectIs span (Running left 0 from) (settles_at code.validators cs vs (Running left 0 from) w kept) (λ xs. settles code cs left (savepoint_of home from) (here (Running left 0 from) xs))
    settles_by code span left from [] e none =
        said span (Running left 0 from) (settles_at code.validators [] vs (Running left 0 from) w kept) _ _
        (λ xs. ap (λ (ts : List Task). machine.works code left (savepoint_of home from) ts [] (here (Running left 0 from) xs)) (none refl))
        (refl, refl, refl, refl, commits (Running left 0 from) left from (record { low = refl; again = λ d. refl; from_view = λ d. refl; refused = λ g. refl }) (λ zs. record { low = refl; again = λ d. refl; from_view = λ d. refl; refused = λ g. refl }))
    settles_by code span left from (c ∷ cs) e none = (refl, refl, refl, refl, views_by code.validators left 0 from (record { work = tasks_of code.validators w; values = blank (commuted w) }) refl)

    -- a commute is applied
    applies_by : (code : ThreadCode) (span : Span) (left : ℕ) (from : Savepoint) (k : Commute) (ks : List Task) (ws : Writes) (f : Callee) → IsOperation f (length k.args)
        → EffectIs span (applying left from (Redoes k ∷ ks) ws) (applies_at f left from vs w kept k ks ws) (λ xs. machine.applies code f left (savepoint_of home from) k ks ws (here (applying left from (Redoes k ∷ ks) ws) xs))
    applies_by code span left from k ks ws (callee.Function f) h = absurd h
    applies_by code span left from k ks ws (callee.Core op) h =
        let tx = applying left from (Redoes k ∷ ks) ws in
        said span tx (applies_at (callee.Core op) left from vs w kept k ks ws) _ _
        (λ xs. ap (λ us. gone (core op us) xs) (same_arguments k ws))
        (by_answer (core op (arguments_of k ws)))
      where
        gone : Answer → List Exchange → Turned Configuration
        gone x xs = on (activity_of home (applying left from (Redoes k ∷ ks) ws)) (step_of x from.span (before xs)) (λ v s. Unfinished (staying (machine.Applying left (savepoint_of home from) ks (with_write ws k.cell v)) s (here (applying left from (Redoes k ∷ ks) ws) xs)))

        by_answer : (x : Answer) → EffectIs span (applying left from (Redoes k ∷ ks) ws) (applies_as left from vs w kept k ks ws x) (gone x)
        by_answer (Ok v) = refl
        by_answer (Err e) = (refl, refl, refl, λ xs. refl)

    -- one task of a transaction's end
    goes_by : (code : ThreadCode) (span : Span) (left : ℕ) (from : Savepoint) (ks : List Task) (ws : Writes) → Operates ks
        → EffectIs span (applying left from ks ws) (goes_through left from vs w kept ks ws) (λ xs. machine.ends code (machine.Applying left (savepoint_of home from) ks ws) (here (applying left from ks ws) xs))
    goes_by code span left from [] ws h = (refl, refl, refl, refl, commits (applying left from [] ws) left from (record { low = refl; again = λ d. refl; from_view = λ d. refl; refused = λ g. refl }) (λ zs. record { low = refl; again = λ d. refl; from_view = λ d. refl; refused = λ g. refl }))
    goes_by code span left from (Redoes k ∷ ks) ws h = applies_by code span left from k ks ws k.callee h
    goes_by code span left from (Validates c f ∷ ks) ws h = absurd h

    ends_by : (code : ThreadCode) (span : Span) (tx : Transaction) → 0 < depth_in tx → LeftApply tx → IsSettled code tx → EffectIs span tx (ends_at code.validators vs w kept tx) (λ xs. machine.ends code (activity_of home tx) (here tx xs))
    ends_by code span Outside lt h none = absurd (omega (arith, lt))
    ends_by code span (Restarting left) lt h none = absurd (omega (arith, lt))
    ends_by code span (Running left zero from) lt h none = settles_by code span left from (commuted w) refl none
    ends_by code span (Running left (suc inner) from) lt h none = refl
    ends_by code span (Applying left from phase) lt h none = goes_by code span left from phase.work phase.values h
    ends_by code span (Evaluating left from phase aside) lt h none = absurd h
    ends_by code span (Swapping c q from) lt h none = absurd (omega (arith, lt))
    ends_by code span (Judging aside) lt h none = absurd h
    ends_by code span (Weighing c q from aside) lt h none = absurd h

    -- a ref is set
    sets_by : (span : Span) (tx : Transaction) → 1 + l < length vs → (r : Result CellId FaultKind)
        → EffectIs span tx (sets_cell vs tx w kept r) (λ xs. on (activity_of home tx) (on_step (step_of r span (before xs)) (set_own span (last_of vs))) (λ v s1. stacked tx (v ∷ stack_in l (below 2 vs)) s1))
    sets_by span tx lt (Err k) = (refl, refl, refl, λ xs. refl)
    sets_by span tx lt (Ok c) = by_set (set_ref c (last_of vs) w)
      where
        moved_so : (own : PlainTxFrame) → stacked tx (last_of vs ∷ stack_in l (below 2 vs)) (stated [] out p seen own kept held acc) ≡ Unfinished (configuration bn (at + 1) (stack_in l (below 2 vs ++ last_of vs ∷ [])) (take l (below 2 vs ++ last_of vs ∷ [])) (frames_in fs home tx) (activity_of home tx) (stated [] out p seen own kept held acc))
        moved_so own =
            let le : l ≤ length (below 2 vs) = omega (arith, length_below 2 vs, lt) in
            same_place bn (frames_in fs home tx) (activity_of home tx) [] p seen own kept held acc (at + 1) _ _ _ _ out (sym (pushed_stack l (below 2 vs) (last_of vs) le)) (sym (below_locals l 2 vs (omega (arith, lt))) ∙ sym (pushed_locals l (below 2 vs) (last_of vs) le))

        by_set : (o : Result PlainTxFrame FaultKind)
            → EffectIs span tx (sets_as vs tx w kept o) (λ xs. on (activity_of home tx) (on_step (step_of o span (before xs)) (λ w1 s1. Continue (last_of vs) (record s1 { done = w1 }))) (λ v s1. stacked tx (v ∷ stack_in l (below 2 vs)) s1))
        by_set (Ok own) = moved_so own
        by_set (Err k) = (refl, refl, refl, λ xs. refl)

    -- a value in the place of some
    over_some : (own : PlainTxFrame) (tx : Transaction) (m : ℕ) (v : Value) → m + l ≤ length vs
        → stacked tx (v ∷ stack_in l (below m vs)) (stated [] out p seen own kept held acc)
        ≡ Unfinished (configuration bn (at + 1) (stack_in l (below m vs ++ v ∷ [])) (take l (below m vs ++ v ∷ [])) (frames_in fs home tx) (activity_of home tx) (stated [] out p seen own kept held acc))
    over_some own tx m v h =
        let le : l ≤ length (below m vs) = omega (arith, length_below m vs, h) in
        same_place bn (frames_in fs home tx) (activity_of home tx) [] p seen own kept held acc (at + 1) _ _ _ _ out (sym (pushed_stack l (below m vs) v le)) (sym (below_locals l m vs h) ∙ sym (pushed_locals l (below m vs) v le))

    -- an atom gets a value
    resets_by : (span : Span) (tx : Transaction) → 1 + l < length vs → (r : Result CellId FaultKind)
        → EffectIs span tx (resets_cell vs tx w kept r) (λ xs. on (activity_of home tx) (on_step (step_of r span (before xs)) (λ c s. reset_atom c (last_of vs) s)) (λ v s1. stacked tx (v ∷ stack_in l (below 2 vs)) s1))
    unfolding reset_atom
    resets_by span tx lt (Err k) = (refl, refl, refl, λ xs. refl)
    resets_by span tx lt (Ok c) = (
      refl,
      refl,
      refl,
      refl,
      record { now = ap gone (asks_now q); leads = λ r m st. ap gone (asks_then q r) ∙ reset_replies Leads c (last_of vs) (λ n. over_some w tx 2 (last_of vs) (omega (arith, lt))) (λ n. absurd (n tt)) (λ n. absurd (n tt)) r m st },
    )
      where
        q : Ask
        q = ask.CloseAt c None (last_of vs)

        gone : Reception → Turned Configuration
        gone h = on (activity_of home tx) (on_step (heard just_done h) (λ u s. Continue (last_of vs) s)) (λ v s1. stacked tx (v ∷ stack_in l (below 2 vs)) s1)

        Leads : Reply → Type 0
        Leads r = (Stops r → ⊥) → gone (Replied r (before [])) ≡ stands_at (answered (it tx (Some (pending.Reset c (last_of vs)))) r)

    -- an action is held in a transaction
    holds_by : (f : Callee) (span : Span) (tx : Transaction) (m : ℕ) → m + l < length vs → (r : Result CellId FaultKind)
        → EffectIs span tx (sends_cell true f m span vs tx w kept r)
        (λ xs. on (activity_of home tx) (on_step (step_of r span (before xs)) (λ g s. send_action true (action_of f m span vs g) s)) (λ v s1. stacked tx (v ∷ stack_in l (below (m + 1) vs)) s1))
    holds_by f span tx m lt (Err k) = (refl, refl, refl, λ xs. refl)
    holds_by f span tx m lt (Ok g) = over_some (hold_send (action_of f m span vs g) w) tx (m + 1) (Cell g) (omega (arith, lt))

    -- the agent on the stack, one place on
    abbrev on_sent : ℕ → Transaction → Value → ActorState → Turned Configuration
    on_sent m tx v s1 = stacked tx (v ∷ stack_in l (below (m + 1) vs)) s1

    -- a thread's send is made
    made_by : (x : AnAction) (m : ℕ) (tx : Transaction) → m + l < length vs → raise (activity_of home tx) (fault_at AgentFailed x.span) (before []) ≡ Failed (fault_at AgentFailed x.span) (before [])
        → Asked (λ xs. on (activity_of home tx) (send_now x (before xs)) (on_sent m tx)) (it tx (Some (pending.Send x m))) (ask.Send x)
    unfolding send_now
    made_by x m tx lt fails_so = record {
      now = ap gone (asks_now (ask.Send x));
      leads = λ r n st. ap gone (asks_then (ask.Send x) r) ∙ send_replies Leads x (λ k. over_some w tx (m + 1) (Cell x.agent) (omega (arith, lt))) (λ d k. fails_so) (λ k. absurd (k tt)) (λ k. absurd (k tt)) r n st;
    }
      where
        gone : Reception → Turned Configuration
        gone h = on (activity_of home tx) (on_step (heard send_verdict h) (sent x)) (on_sent m tx)

        Leads : Reply → Type 0
        Leads r = (Stops r → ⊥) → gone (Replied r (before [])) ≡ stands_at (answered (it tx (Some (pending.Send x m))) r)

    -- the agent in the place of all that was taken, whatever is held
    over_held : (o : Option InHand) (tx : Transaction) (m : ℕ) (v : Value) → m + 1 + l ≤ length vs
        → on_sent m tx v (stated [] out p seen w kept o acc) ≡ Unfinished (configuration bn (at + 1) (stack_in l (below (m + 1) vs ++ v ∷ [])) (take l (below (m + 1) vs ++ v ∷ [])) (frames_in fs home tx) (activity_of home tx) (stated [] out p seen w kept o acc))
    over_held o tx m v h =
        let le : l ≤ length (below (m + 1) vs) = omega (arith, length_below (m + 1) vs, h) in
        same_place bn (frames_in fs home tx) (activity_of home tx) [] p seen w kept o acc (at + 1) _ _ _ _ out (sym (pushed_stack l (below (m + 1) vs) v le)) (sym (below_locals l (m + 1) vs h) ∙ sym (pushed_locals l (below (m + 1) vs) v le))

    -- it is made, or the action that is run holds it
    sent_by : (x : AnAction) (m : ℕ) (tx : Transaction) → m + l < length vs → (o : Option InHand) → (o ≡ None → raise (activity_of home tx) (fault_at AgentFailed x.span) (before []) ≡ Failed (fault_at AgentFailed x.span) (before []))
        → SentAs x m tx o (λ xs. on (activity_of home tx) (send_or_hold o x (before xs)) (on_sent m tx))
    sent_by x m tx lt None fails_so = made_by x m tx lt (fails_so refl)
    sent_by x m tx lt (Some h) fails_so = over_held (now_holding (x ∷ []) held) tx m (Cell x.agent) (omega (arith, lt))

    -- an action is sent outside
    sends_by : (f : Callee) (span : Span) (tx : Transaction) (m : ℕ) → m + l < length vs → ((x : Fault) → held ≡ None → raise (activity_of home tx) x (before []) ≡ Failed x (before [])) → (r : Result CellId FaultKind)
        → EffectIs span tx (sends_cell false f m span vs tx w kept r)
        (λ xs. on (activity_of home tx) (on_step (step_of r span (before xs)) (λ g s. send_action false (action_of f m span vs g) s)) (on_sent m tx))
    sends_by f span tx m lt fails_so (Err k) = (refl, refl, refl, λ xs. refl)
    sends_by f span tx m lt fails_so (Ok g) = (refl, refl, refl, refl, sent_by (action_of f m span vs g) m tx lt held (fails_so (fault_at AgentFailed span)))

    -- the commute that was open is kept
    keeps_by : (o : Commute) (span : Span) (tx : Transaction) → kept ≡ Some o → 1 + l < length vs → (r : Result CellId FaultKind)
        → EffectIs span tx (keeps_cell o vs tx w r) (λ xs. on (activity_of home tx) (on_step (step_of r span (before xs)) (close_own (Some o) span (last_of vs))) (λ v s1. stacked tx (v ∷ stack_in l (below 2 vs)) s1))
    keeps_by o span tx e lt (Err k) = (refl, refl, sym e, λ xs. refl)
    keeps_by o span tx e lt (Ok c) =
        let own = commute_ref c o.callee o.args (last_of vs) w in
        let le : l ≤ length (below 2 vs) = omega (arith, length_below 2 vs, lt) in
        same_place bn (frames_in fs home tx) (activity_of home tx) [] p seen own None held acc (at + 1) _ _ _ _ out (sym (pushed_stack l (below 2 vs) (last_of vs) le)) (sym (below_locals l 2 vs (omega (arith, lt))) ∙ sym (pushed_locals l (below 2 vs) (last_of vs) le))

    -- the close of an update
    closes_by : (had : Option Commute) (span : Span) (tx : Transaction) → kept ≡ had → 1 + l < length vs
        → EffectIs span tx (closes vs tx w had)
        (λ xs. on (activity_of home tx) (on_step (step_of (cell_of (rule (form.Update update.Alter)) true (under 1 vs)) span (before xs)) (close_own had span (last_of vs))) (λ v s1. stacked tx (v ∷ stack_in l (below 2 vs)) s1))
    closes_by None span tx e lt = subst (λ (x : Option Commute). EffectIs span tx (sets (form.Update update.Alter) vs tx w x) (λ xs. on (activity_of home tx) (on_step (step_of (cell_of (rule (form.Update update.Alter)) true (under 1 vs)) span (before xs)) (set_own span (last_of vs))) (λ v s1. stacked tx (v ∷ stack_in l (below 2 vs)) s1))) e (sets_by span tx lt (cell_of (rule (form.Update update.Alter)) true (under 1 vs)))
    closes_by (Some o) span tx e lt = keeps_by o span tx e lt (cell_of (rule (form.Update update.Alter)) true (under 1 vs))

    -- the open of an update, as the machine makes it
    opens_so : (u : RefUpdate) (span : Span) (tx : Transaction) (m : ℕ) → m + l < length vs → 0 < depth_in tx → IsUnapplied tx
        → EffectIs span tx (opens_at u m vs tx w kept) (λ xs. on_args_of m (stack_in l vs) (λ us c rest. machine.opens_ref u span us c rest (here tx xs)))
    opens_so u span Outside m h inside un = absurd (omega (arith, inside))
    opens_so u span (Restarting left) m h inside un = absurd (omega (arith, inside))
    opens_so u span (Applying left from phase) m h inside un = absurd un
    opens_so u span (Evaluating left from phase aside) m h inside un = absurd un
    opens_so u span (Judging aside) m h inside un = absurd un
    opens_so u span (Weighing c q from aside) m h inside un = absurd un
    opens_so u span (Swapping c q from) m h inside un = absurd un
    opens_so u span (Running left inner from) m h inside un =
        let tx = Running left inner from in
        let le : m + l ≤ length vs = omega (arith, h) in
        let lt : l < length (below m vs) = omega (arith, h, length_below m vs) in
        let top = popped_stack l (below m vs) lt in
        let next : List Value → Value → List Value → List Exchange → Turned Configuration = λ us c rest xs. on (activity_of home tx) (open_update u true span c us (before xs)) (λ v s1. stacked tx (push_all us (v ∷ c ∷ rest)) s1) in
        said span tx (opens_at u m vs tx w kept) _ _
        (λ xs.
        args_of l m vs (λ us below_them. on_top below_them (λ c rest. next us c rest xs)) le
        ∙ ap (λ st. on_top st (λ c rest. next (topmost m vs) c rest xs)) top
        ∙ ap (λ st. on (activity_of home tx) (open_update u true span (last_of (below m vs)) (topmost m vs) (before xs)) (λ v s1. stacked tx (push_all (topmost m vs) (v ∷ st)) s1)) (sym top)
        ∙ ap (λ c. on (activity_of home tx) (open_update u true span c (topmost m vs) (before xs)) (on_open m tx)) (under_is m vs (omega (arith, h)))
        ∙ ap (λ r. on (activity_of home tx) (on_step (step_of r span (before xs)) (λ c s1. opened_as (kept_open u c (topmost m vs)) (look c s1))) (on_open m tx)) (takes_refs u))
        (opens_by u span m left inner from le (cell_of (rule (form.Update update.Alter)) true (under m vs)))
      where
        -- `alter` and `commute` take a ref alike
        takes_refs : (x : RefUpdate) → cell_of (rule (form.Update (update_form x))) true (under m vs) ≡ cell_of (rule (form.Update update.Alter)) true (under m vs)
        takes_refs Alters = refl
        takes_refs (Commutes f) = refl

    -- the close of an update, as the machine makes it
    closes_so : (span : Span) (tx : Transaction) → 1 + l < length vs
        → EffectIs span tx (closes vs tx w kept) (λ xs. machine.on_two (stack_in l vs) (λ v c rest. on (activity_of home tx) (close_update span c v (before xs)) (λ x s1. stacked tx (x ∷ rest) s1)))
    closes_so span tx h =
        said span tx (closes vs tx w kept) _ _
        (λ xs. two_tops (λ v c rest. on (activity_of home tx) (close_update span c v (before xs)) (λ x s1. stacked tx (x ∷ rest) s1)) h)
        (closes_by kept span tx refl h)

    -- a send, as the machine makes it
    sends_so : (f : Callee) (inside : Bool) (span : Span) (tx : Transaction) (m : ℕ) → m + l < length vs → (xs : List Exchange)
        → on_args_of m (stack_in l vs) (λ us c rest. on (activity_of home tx) (send_to inside span c f us (before xs)) (λ v s1. stacked tx (v ∷ rest) s1))
        ≡ on (activity_of home tx) (on_step (step_of (cell_of (rule form.Send) inside (under m vs)) span (before xs)) (λ g s. send_action inside (action_of f m span vs g) s)) (λ v s1. stacked tx (v ∷ stack_in l (below (m + 1) vs)) s1)
    sends_so f inside span tx m h xs =
        let le : m + l ≤ length vs = omega (arith, h) in
        let lt : l < length (below m vs) = omega (arith, h, length_below m vs) in
        let next : List Value → Value → List Value → Turned Configuration = λ us c rest. on (activity_of home tx) (send_to inside span c f us (before xs)) (λ v s1. stacked tx (v ∷ rest) s1) in
        args_of l m vs (λ us rest. on_top rest (next us)) le
        ∙ ap (λ st. on_top st (next (topmost m vs))) (popped_stack l (below m vs) lt)
        ∙ ap (λ c. next (topmost m vs) c (stack_in l (but_last (below m vs)))) (under_is m vs (omega (arith, h)))
        ∙ ap (λ us. next (topmost m vs) (under m vs) (stack_in l us)) (but_one_more vs m (omega (arith, h)))

    -- a swap begins with its atom's value
    abbrev in_swap : ℕ → Span → SwapInHand × Value → ActorState → Turned Configuration
    in_swap m span o s1 =
        Unfinished (configuration bn (at + 1) (push_all (topmost m vs) (o.1 ∷ stack_in l (below m vs))) (take l vs) (frames_on fs home) (machine.Swapping o.0 (savepoint_of home (from_here span))) s1)

    swaps_by : (span : Span) (m : ℕ) → m + l ≤ length vs → (r : Result CellId FaultKind)
        → EffectIs span Outside (swaps_cell m (from_here span) vs Outside w kept r) (λ xs. on machine.Outside (on_step (step_of r span (before xs)) open_atom) (in_swap m span))
    unfolding open_atom
    swaps_by span m le (Err k) = (refl, refl, refl, λ xs. refl)
    swaps_by span m le (Ok c) = (
      refl,
      refl,
      refl,
      refl,
      record { now = ap gone (asks_now (ask.OpenAt c)); leads = λ r n st. ap gone (asks_then (ask.OpenAt c) r) ∙ open_replies Leads c (λ q v k. opened_so q v) (λ k. absurd (k tt)) r n st },
    )
      where
        gone : Reception → Turned Configuration
        gone h = on machine.Outside (on_step (heard opened_there h) (λ x s1. Continue (record { cell = c; at = x.0 }, x.1) s1)) (in_swap m span)

        Leads : Reply → Type 0
        Leads r = (Stops r → ⊥) → gone (Replied r (before [])) ≡ stands_at (answered (it Outside (Some (pending.Swap c m (from_here span)))) r)

        opened_so : (q : ℕ) (v : Value) → gone (Replied (Opened q v) (before [])) ≡ stands_at (answered (it Outside (Some (pending.Swap c m (from_here span)))) (Opened q v))
        opened_so q v =
            same_place bn (frames_on fs home) (activity_of home (Swapping c q (from_here span))) [] p seen w kept held acc (at + 1) _ _ _ _ out (push_all_is (topmost m vs) (v ∷ stack_in l (below m vs)) ∙ sym (put_under_stack l m v vs le)) (sym (put_under_locals l m v vs le))

    -- the open of a swap, as the machine makes it
    swaps_so : (f : Callee) (span : Span) (tx : Transaction) (m : ℕ) → m + l < length vs → tx ≡ Outside
        → EffectIs span tx (swaps m (from_here span) vs tx w kept) (λ xs. on_args_of m (stack_in l vs) (λ us c rest. machine.opens (open_form.Swap f) span us c rest (here tx xs)))
    swaps_so f span tx m h e = subst (λ (x : Transaction). EffectIs span x (swaps m (from_here span) vs x w kept) (λ xs. on_args_of m (stack_in l vs) (λ us c rest. machine.opens (open_form.Swap f) span us c rest (here x xs)))) (sym e) outside
      where
        le : m + l ≤ length vs
        le = omega (arith, h)

        next : List Exchange → List Value → Value → List Value → Turned Configuration
        next xs us c rest = machine.opens (open_form.Swap f) span us c rest (here Outside xs)

        opened_with : List Exchange → List Value → Value → Turned Configuration
        opened_with xs below_it c = on machine.Outside (on_step (step_of (cell_of (rule (form.Update update.Swap)) false c) span (before xs)) open_atom) (λ o s1. Unfinished (configuration bn (at + 1) (push_all (topmost m vs) (o.1 ∷ below_it)) (take l vs) (frames_on fs home) (machine.Swapping o.0 (savepoint_of home (from_here span))) s1))

        steps_so : (xs : List Exchange) → on_args_of m (stack_in l vs) (next xs) ≡ opened_with xs (stack_in l (below m vs)) (under m vs)
        steps_so xs =
            let lt : l < length (below m vs) = omega (arith, h, length_below m vs) in
            let top = popped_stack l (below m vs) lt in
            args_of l m vs (λ us below_them. on_top below_them (next xs us)) le
            ∙ ap (λ st. on_top st (next xs (topmost m vs))) top
            ∙ ap (λ st. opened_with xs st (last_of (below m vs))) (sym top)
            ∙ ap (λ c. opened_with xs (stack_in l (below m vs)) c) (under_is m vs (omega (arith, h)))

        outside : EffectIs span Outside (swaps m (from_here span) vs Outside w kept) (λ xs. on_args_of m (stack_in l vs) (next xs))
        outside = said span Outside (swaps m (from_here span) vs Outside w kept) _ _ steps_so (swaps_by span m le (cell_of (rule (form.Update update.Swap)) false (under m vs)))

    -- a swap ends, or goes again from its open
    closes_atom : (c : CellId) (q : ℕ) (from : Savepoint) → 1 + l < length vs
        → Asked (λ xs. on (activity_of home (Swapping c q from)) (close_swap (record { cell = c; at = q }) (last_of vs) (before xs)) (λ verdict s. swap_decided verdict (savepoint_of home from) (last_of vs) (stack_in l (below 2 vs)) (here (Swapping c q from) xs) s))
        (it (Swapping c q from) (Some (pending.Close c q (last_of vs)))) (ask.CloseAt c (Some q) (last_of vs))
    unfolding close_swap
    closes_atom c q from lt = record {
      now = ap (λ h. gone h []) (asks_now x);
      leads = λ r m st. ap (λ h. gone h (met x r)) (asks_then x r) ∙ close_replies Leads c q (last_of vs) (λ k. landed) (λ d k. refl) (λ k. absurd (k tt)) (λ k. absurd (k tt)) r m st;
    }
      where
        x : Ask
        x = ask.CloseAt c (Some q) (last_of vs)

        gone : Reception → List Exchange → Turned Configuration
        gone h xs = on (activity_of home (Swapping c q from)) (heard swap_verdict h) (λ verdict s. swap_decided verdict (savepoint_of home from) (last_of vs) (stack_in l (below 2 vs)) (here (Swapping c q from) xs) s)

        landed : gone (Replied Done (before [])) (met x Done) ≡ stands_at (answered (it (Swapping c q from) (Some (pending.Close c q (last_of vs)))) Done)
        landed = over_some w Outside 2 (last_of vs) (omega (arith, lt))

        Leads : Reply → Type 0
        Leads r = (Stops r → ⊥) → gone (Replied r (before [])) (met x r) ≡ stands_at (answered (it (Swapping c q from) (Some (pending.Close c q (last_of vs)))) r)

    -- `reset!`, as the machine makes it, where the atom has no validator
    abbrev reset_at : ThreadCode → Span → Transaction → Bool → Result CellId FaultKind → List Exchange → Turned Configuration
    reset_at code span tx inside r xs =
        on (activity_of home tx) (step_of r span (before xs)) (λ a s. machine.where_valid code (validator_at code.validators a.number) (last_of vs) span (here tx xs) (λ c1. machine.gives c1 (stack_in l (below 2 vs)) (assign_cell Reset inside span (last_of vs) a c1.state)))

    plainly_reset : (code : ThreadCode) (span : Span) (tx : Transaction) (r : Result CellId FaultKind) → IsUnjudged code r → (xs : List Exchange)
        → reset_at code span tx false r xs ≡ on (activity_of home tx) (on_step (step_of r span (before xs)) (λ c s. reset_atom c (last_of vs) s)) (λ v s1. stacked tx (v ∷ stack_in l (below 2 vs)) s1)
    plainly_reset code span tx (Err k) h xs = refl
    plainly_reset code span tx (Ok c) h xs =
        ap (λ (o : Option Callee). machine.where_valid code o (last_of vs) span (here tx xs) (λ c1. machine.gives c1 (stack_in l (below 2 vs)) (assign_cell Reset false span (last_of vs) c c1.state))) h

    resets_so : (code : ThreadCode) (span : Span) (tx : Transaction) → 1 + l < length vs → is_inside (activity_of home tx) ≡ false → IsUnjudged code (cell_of (rule (form.Put Reset)) false (under 1 vs))
        → EffectIs span tx (resets vs tx w kept) (λ xs. machine.on_two (stack_in l vs) (λ v c rest. machine.puts code Reset span v c rest (here tx xs)))
    resets_so code span tx h outside free =
        said span tx (resets vs tx w kept) _ _
        (λ xs. two_tops (λ v c rest. machine.puts code Reset span v c rest (here tx xs)) h
        ∙ ap (λ (i : Bool). reset_at code span tx i (cell_of (rule (form.Put Reset)) i (under 1 vs)) xs) outside
        ∙ plainly_reset code span tx (cell_of (rule (form.Put Reset)) false (under 1 vs)) free xs)
        (resets_by span tx h (cell_of (rule (form.Put Reset)) false (under 1 vs)))

    -- the close of a swap, as the machine makes it, where its atom has no validator
    swapped_so : (code : ThreadCode) (span : Span) (tx : Transaction) → 1 + l < length vs → IsSwapping tx → IsUnweighed code tx
        → EffectIs span tx (swapped vs w kept tx) (λ xs. machine.on_two (stack_in l vs) (λ v c rest. machine.closes code update.Swap span v c rest (here tx xs)))
    swapped_so code span Outside h s free = absurd s
    swapped_so code span (Restarting left) h s free = absurd s
    swapped_so code span (Running left inner from) h s free = absurd s
    swapped_so code span (Applying left from phase) h s free = absurd s
    swapped_so code span (Evaluating left from phase aside) h s free = absurd s
    swapped_so code span (Judging aside) h s free = absurd s
    swapped_so code span (Weighing c q from aside) h s free = absurd s
    swapped_so code span (Swapping c q from) h s free =
        said span (Swapping c q from) (swapped vs w kept (Swapping c q from)) _ _
        (λ xs. two_tops (λ v x rest. machine.closes code update.Swap span v x rest (here (Swapping c q from) xs)) h
        ∙ ap (λ (o : Option Callee). machine.where_valid code o (last_of vs) from.span (here (Swapping c q from) xs) (λ c1. on c1.doing (close_swap (record { cell = c; at = q }) (last_of vs) c1.state) (λ verdict s1. swap_decided verdict (savepoint_of home from) (last_of vs) (stack_in l (below 2 vs)) c1 s1))) free)
        (refl, refl, refl, refl, closes_atom c q from h)

    pub effect_is : (code : ThreadCode) (ps : List ℕ) (ks : List Value) (span : Span) (tx : Transaction) (i : Instr) → Stands code tx i
        → EffectIs span tx (effect code.validators (from_here span) vs tx w kept i) (λ xs. act code (Some (plain_instr ps ks i span)) (here tx xs))
    effect_is code ps ks span tx (instr.Look Deref) h =
        said span tx (reads (is_running tx) vs tx w kept) _ _
        (λ xs. ap (λ st. on_top st (λ c rest. on (activity_of home tx) (read Deref (is_inside (activity_of home tx)) span c (before xs)) (λ v s1. stacked tx (v ∷ rest) s1))) (popped_stack l vs h.0))
        (reads_by span tx h.0 h.1)
    effect_is code ps ks span Outside (instr.Look Ensure) h = absurd (omega (arith, h.1))
    effect_is code ps ks span (Restarting left) (instr.Look Ensure) h = absurd (omega (arith, h.1))
    effect_is code ps ks span (Applying left from phase) (instr.Look Ensure) h = absurd h.2
    effect_is code ps ks span (Evaluating left from phase aside) (instr.Look Ensure) h = absurd h.2
    effect_is code ps ks span (Judging aside) (instr.Look Ensure) h = absurd h.2
    effect_is code ps ks span (Weighing c q from aside) (instr.Look Ensure) h = absurd h.2
    effect_is code ps ks span (Swapping c q from) (instr.Look Ensure) h = absurd h.2
    effect_is code ps ks span (Running left inner from) (instr.Look Ensure) h =
        let tx = Running left inner from in
        said span tx (ensures vs tx w kept) _ _
        (λ xs. ap (λ st. on_top st (λ c rest. on (activity_of home tx) (read Ensure true span c (before xs)) (λ v s1. stacked tx (v ∷ rest) s1))) (popped_stack l vs h.0))
        (ensures_by span left inner from h.0 (cell_of (rule (form.Look Ensure)) true (last_of vs)))
    effect_is code ps ks span Outside (instr.Put RefSet) h = absurd (omega (arith, h.1))
    effect_is code ps ks span (Restarting left) (instr.Put RefSet) h = absurd (omega (arith, h.1))
    effect_is code ps ks span (Applying left from phase) (instr.Put RefSet) h = absurd h.2
    effect_is code ps ks span (Evaluating left from phase aside) (instr.Put RefSet) h = absurd h.2
    effect_is code ps ks span (Judging aside) (instr.Put RefSet) h = absurd h.2
    effect_is code ps ks span (Weighing c q from aside) (instr.Put RefSet) h = absurd h.2
    effect_is code ps ks span (Swapping c q from) (instr.Put RefSet) h = absurd h.2
    effect_is code ps ks span (Running left inner from) (instr.Put RefSet) h =
        let tx = Running left inner from in
        said span tx (sets (form.Put RefSet) vs tx w kept) _ _
        (λ xs. two_tops (λ v c rest. on (activity_of home tx) (assign RefSet true span c v (before xs)) (λ x s1. stacked tx (x ∷ rest) s1)) h.0)
        (sets_by span tx h.0 (cell_of (rule (form.Put RefSet)) true (under 1 vs)))
    effect_is code ps ks span tx (instr.Put Reset) h = resets_so code span tx h.0 h.1 h.2
    effect_is code ps ks span Outside (instr.Send f m) h =
        said span Outside (sends false f m span vs Outside w kept) _ _ (sends_so f false span Outside m h.0) (sends_by f span Outside m h.0 (λ x e. ap (λ (o : Option InHand). ends_with o x (before [])) e) (cell_of (rule form.Send) false (under m vs)))
    effect_is code ps ks span (Restarting left) (instr.Send f m) h =
        said span (Restarting left) (sends false f m span vs (Restarting left) w kept) _ _ (sends_so f false span (Restarting left) m h.0) (sends_by f span (Restarting left) m h.0 (λ x e. ap (λ (o : Option InHand). fails_with o x (before [])) e) (cell_of (rule form.Send) false (under m vs)))
    effect_is code ps ks span (Running left inner from) (instr.Send f m) h =
        let tx = Running left inner from in
        said span tx (sends true f m span vs tx w kept) _ _ (sends_so f true span tx m h.0) (holds_by f span tx m h.0 (cell_of (rule form.Send) true (under m vs)))
    effect_is code ps ks span (Applying left from phase) (instr.Send f m) h = absurd h.1
    effect_is code ps ks span (Evaluating left from phase aside) (instr.Send f m) h = absurd h.1
    effect_is code ps ks span (Judging aside) (instr.Send f m) h = absurd h.1
    effect_is code ps ks span (Weighing c q from aside) (instr.Send f m) h = absurd h.1
    effect_is code ps ks span (Swapping c q from) (instr.Send f m) h = absurd h.1
    effect_is code ps ks span tx instr.TxBegin h = begins_by span tx h
    effect_is code ps ks span tx instr.TxEnd h = ends_by code span tx h.0 h.1 h.2
    effect_is code ps ks span tx (instr.Open open_form.Alter m) h = opens_so Alters span tx m h.0 h.1 h.2
    effect_is code ps ks span tx (instr.Open (open_form.Commute f) m) h = opens_so (Commutes f) span tx m h.0 h.1 h.2
    effect_is code ps ks span tx (instr.Close update.Alter) h = closes_so span tx h
    effect_is code ps ks span tx (instr.Close update.Commute) h = closes_so span tx h
    effect_is code ps ks span tx (instr.Const k) h = absurd h
    effect_is code ps ks span tx (instr.Local i) h = absurd h
    effect_is code ps ks span tx (instr.Store i) h = absurd h
    effect_is code ps ks span tx instr.Pop h = absurd h
    effect_is code ps ks span tx (instr.Jump t) h = absurd h
    effect_is code ps ks span tx (instr.JumpFalse t) h = absurd h
    effect_is code ps ks span tx (instr.Core op m) h = absurd h
    effect_is code ps ks span tx (instr.Call f) h = absurd h
    effect_is code ps ks span tx instr.Return h = absurd h
    effect_is code ps ks span tx (instr.Vector m) h = absurd h
    effect_is code ps ks span tx (instr.Print m) h = absurd h
    effect_is code ps ks span tx (instr.Open (open_form.Swap f) m) h = swaps_so f span tx m h.0 h.1
    effect_is code ps ks span tx (instr.Close update.Swap) h = swapped_so code span tx h.0 h.1 h.2
    effect_is code ps ks span tx instr.Halt h = absurd h

-- the agent's own body, put aside, waits at its last instruction
abbrev pub HomeWaits : Role → Type 0
HomeWaits Thread = Unit {0}
HomeWaits (Attending g o) = ⊥
HomeWaits (Acting h judges aside) = WaitsAs judges aside

-- so the fault of an action is handed in next
pub failed_home : (n : ℕ) (role : Role) (bn : ℕ) (fs : List PlainFrame) (l at : ℕ) (vs : List Value) (out : List ℕ) (p seen : ℕ) (w : PlainTxFrame) (kept : Option Commute) (acc : Option Bool) (steps limit room : ℕ) → HomeWaits role → FailsSo n role bn fs l at vs out p seen w kept acc steps limit room
failed_home n Thread bn fs l at vs out p seen w kept acc steps limit room i = λ f tx o. refl
failed_home n (Attending g q) bn fs l at vs out p seen w kept acc steps limit room i = absurd i
failed_home n (Acting h false aside) bn fs l at vs out p seen w kept acc steps limit room i =
    subst (λ (y : PlainStack). FailsSo n (Acting h false y) bn fs l at vs out p seen w kept acc steps limit room) (sym i) (λ f tx o. refl)
failed_home n (Acting h true aside) bn fs l at vs out p seen w kept acc steps limit room i =
    subst (λ (y : PlainStack). FailsSo n (Acting h true y) bn fs l at vs out p seen w kept acc steps limit room) (sym i.1) (λ f tx o. refl)
