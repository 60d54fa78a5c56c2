-- An instruction keeps an actor's values to those that name defined cells alone, and so its asks.
use Rattle.std.proofs.Common.{◌≡◌, ◌≤◌, ℕ, zero, suc, ◌-◌, ◌+◌, nat_le, nat_lt, ◌==◌, Bool, true, false, not, ◌&&◌, ◌||◌, List, [], ◌∷◌, ◌++◌, length, map, Option, Some, None, Result, Ok, Err, refl, sym, ap, ◌∙◌, subst, arith, if◌then◌else◌, ◌⊎◌, inl, inr}
use Rattle.std.proofs.lemmas.Bool.{false≢true}
use Rattle.std.proofs.lemmas.Bool.Decides.{nat_tests}
use Rattle.txs_world_protocol.specs.Ask.{Writes, buffered, with_write, Exchange, same_ask}
use Rattle.txs_world_protocol.specs.declared.ask.Ask.{Ask}
use Rattle.txs_world_protocol.specs.declared.ask.Ask.TheVariants as ask
use Rattle.txs_world_protocol.specs.declared.ask.Reply.{Reply}
use Rattle.txs_world_protocol.specs.declared.ask.Reply.TheVariants as reply
use Rattle.txs_frame.specs.Frame.{PlainTxFrame, empty_frame, with_cell, with_cells, has_number, outside_of, writes_to, refs_of, is_commuted, commuted, set_writes, ensure_ref, commutes_of, by_ref, phase_work, written, sends_of_commit}
use Rattle.txs_frame.specs.Phase.{with_validation, validations, tasks_of, first_of, to_write}
use Rattle.txs_frame.specs.declared.frame.Commute.{Commute}
use Rattle.txs_frame.specs.declared.phase.Task.{Task}
use Rattle.txs_frame.specs.declared.phase.Task.TheVariants.{Redoes, Validates}
use Rattle.txs_value_apply.specs.Core.{core, vector_of}
use Rattle.txs_value_data.proofs.SameLemmas.{numbers}
use Rattle.txs_value_cell.specs.Cells.{Validators, validator_at}
use Rattle.txs_value_cell.specs.Forms.{same_kind, rule, cell_if, cell_of_kind, cell_of}
use Rattle.txs_value_data.specs.Places.{nth, fault_at}
use Rattle.txs_value_data.specs.Printed.{printed_line}
use Rattle.txs_value_cell.specs.declared.action.Action.{Action}
use Rattle.txs_value_cell.specs.declared.cell.CellDefinition.{CellDefinition}
use Rattle.txs_value_data.specs.declared.fault.Fault.{Fault}
use Rattle.txs_value_data.specs.declared.fault.FaultKind.{FaultKind}
use Rattle.txs_value_data.specs.declared.fault.FaultKind.TheVariants.{SetAfterCommute, InvalidState, AgentFailed, RetryLimit}
use Rattle.txs_value_data.specs.declared.fault.Span.{Span}
use Rattle.txs_value_cell.specs.declared.form.CellForm.TheVariants as form
use Rattle.txs_value_cell.specs.declared.form.FormRule.{FormRule}
use Rattle.txs_value_cell.specs.declared.form.LookForm.{LookForm}
use Rattle.txs_value_cell.specs.declared.form.LookForm.TheVariants.{Deref, Ensure}
use Rattle.txs_value_cell.specs.declared.form.PutForm.{PutForm}
use Rattle.txs_value_cell.specs.declared.form.PutForm.TheVariants.{RefSet, Reset}
use Rattle.txs_value_cell.specs.declared.form.UpdateForm.{UpdateForm}
use Rattle.txs_value_cell.specs.declared.form.UpdateForm.TheVariants as update
use Rattle.txs_value_data.specs.declared.op.Callee.{Callee}
use Rattle.txs_value_data.specs.declared.op.Callee.TheVariants as callee
use Rattle.txs_value_data.specs.declared.value.CellId.{CellId}
use Rattle.txs_value_data.specs.declared.value.CellKind.{CellKind}
use Rattle.txs_value_data.specs.declared.value.CellKind.TheVariants.{Ref, Atom, Agent}
use Rattle.txs_value_data.specs.declared.value.Value.{Value}
use Rattle.txs_value_data.specs.declared.value.Value.TheVariants.{Nil, Truth, Int, Key, Text, Vector, Cell}
use Rattle.txs_code_meaning.specs.ActorState.{ActorState, Reception, Replied, Unreplied, receives, asks, StepResult, Continue, Break, Redo, Await, Malformed, on_step, step_of, Reading, Says, SaysRetry, SaysNothing, read_as, heard, read_point, just_done, value_there, newest_value, views, Verdict, Landed, Outdated, Undone, Denied, commit_verdict, opened, swap_verdict, send_verdict, Taken, handed_out, begun, begin, fail, buffered_or, look, with_first, paired, viewed, view, commit, peek, SwapInHand, open_atom, close_swap, break_swap, reset_atom, sent, send_now, take_action, finish, read_cell, read, set_own, assign_cell, assign, RefUpdate, Alters, Commutes, update_form, kept_open, open_update, close_own, close_update, open_swap, send_action, send_to, print, InHand, send_or_hold, now_holding, cell_at, held_in, landed, taken_back}
use Rattle.txs_code_meaning.specs.Machine.{PlainInstr, Push, Load, Store, Pop, Jump, JumpFalse, CoreOf, CallOf, Return, MakeVector, PrintOf, TxBegin, TxEnd, LookOf, PutOf, OpenOf, CloseOf, SendOf, Halt, TakeOf, RunOf, FinishOf, PlainBody, ThreadCode, fetch, nils, locals_of, Destination, to_stack, to_commutes, to_validation, Frame, Savepoint, Activity, Outside, Restarting, Running, Applying, Swapping, is_inside, Configuration, ahead, staying, saved, value_or_nil, arguments_of, Turned, Ended, Failed, Asking, Unfinished, Stuck, told, raise, rerun, retried, on, found, on_top, on_args, on_args_of, on_two, push_all, put, gives, starts, begins, decided, lands, settles, applies, ends, applied, stack_after, doing_after, returns_to, opens_ref, opens_atom, opens, swap_decided, closes_swap, closes, started, runs_callee, runs, act, turn, ends_with, rested, first_place, answered, validates, where_accepted, where_valid, works, puts, finishes, state_after, fails_with, hands_in, fault_in}
use Rattle.txs_code_meaning.specs.declared.instr.OpenForm.{OpenForm}
use Rattle.txs_code_meaning.specs.declared.instr.OpenForm.TheVariants as open_form
use Rattle.txs_world_book.proofs.Outcomes.{both}
use Rattle.txs_world.proofs.Merging.{joined, refs_from, refs_has, refs_with}
use Rattle.txs_world_book.specs.Book.{has_cell, has_ref, has_agent, cells_in, are_refs, has_refs, may_send}
use Rattle.txs_world_book.specs.Served.{cells_of}
use Rattle.txs_world.specs.Store.{is_among, are_apart}
use Rattle.txs_world_book.specs.declared.cell.StoreCell.{StoreCell}
use Rattle.txs_theorem_runs.specs.Lawful.{IsKnown, CodeIsKnown}
use Rattle.txs_theorem_runs.specs.Shared.{has_atom}
use Rattle.txs_theorem_runs.specs.Staged.{redoes_some}
use Rattle.txs_theorem_runs.specs.Standing.{IsOwn, MayStandIn, MayStandHere}
use Rattle.txs_theorem_runs.proofs.CoreKnown.{AllKnown, AnswerKnown, core_known, vector_known}
use Rattle.txs_theorem_runs.proofs.Ending.{IsUnviewedEnd, WhereUnviewed, WhereViewed, unviewed_so, viewed_so, put_viewed, tasks_redo_none}

-- the agents that an actor's own instructions name are the actor's
abbrev pub Names : (CellId → Type 0) → ThreadCode → Type 0
Names Own code = (b at : ℕ) (k : CellId) → (fetch code b at ≡ Some (TakeOf k) → Own k) × (fetch code b at ≡ Some (FinishOf k) → Own k)

module _ (cells : List CellDefinition) where
  abbrev store : List StoreCell
  store = cells_of cells

  -- ---- what it is to be known

  abbrev pub ValuesKnown : Writes → Type 0
  ValuesKnown [] = Unit {0}
  ValuesKnown (x ∷ xs) = IsKnown cells x.1 × ValuesKnown xs

  -- refs of the program in ascending order, with values
  abbrev pub WritesKnown : Writes → Type 0
  WritesKnown ws = (are_refs store 0 (cells_in ws) ≡ true) × ValuesKnown ws

  abbrev pub CommuteKnown : Commute → Type 0
  CommuteKnown k = (has_ref store k.cell ≡ true) × AllKnown cells k.args

  abbrev pub CommutesKnown : List Commute → Type 0
  CommutesKnown [] = Unit {0}
  CommutesKnown (k ∷ ks) = CommuteKnown k × CommutesKnown ks

  -- a validator's task has no values of its own
  abbrev pub TaskKnown : Task → Type 0
  TaskKnown (Redoes k) = CommuteKnown k
  TaskKnown (Validates c f) = Unit {0}

  abbrev pub TasksKnown : List Task → Type 0
  TasksKnown [] = Unit {0}
  TasksKnown (x ∷ work) = TaskKnown x × TasksKnown work

  abbrev pub CommutingKnown : Option Commute → Type 0
  CommutingKnown None = Unit {0}
  CommutingKnown (Some k) = CommuteKnown k

  abbrev pub ActionKnown : Action → Type 0
  ActionKnown x = (has_agent store x.agent ≡ true) × AllKnown cells x.args

  abbrev pub SendsKnown : List Action → Type 0
  SendsKnown [] = Unit {0}
  SendsKnown (x ∷ xs) = ActionKnown x × SendsKnown xs

  -- what a transaction has done
  pub record WorkKnown (w : PlainTxFrame) : Type 0 where
    pub values : WritesKnown w.values
    pub ensures : has_refs store w.ensures ≡ true
    pub commutes : CommutesKnown w.commutes
    pub sends : SendsKnown w.sends

  abbrev pub ReplyKnown : Reply → Type 0
  ReplyKnown (reply.At p) = Unit {0}
  ReplyKnown (reply.Is v) = IsKnown cells v
  ReplyKnown (reply.Views p vs) = AllKnown cells vs
  ReplyKnown reply.Done = Unit {0}
  ReplyKnown (reply.Retry c) = Unit {0}
  ReplyKnown (reply.Changed c) = Unit {0}
  ReplyKnown (reply.AgentIsFailed g) = Unit {0}
  ReplyKnown (reply.Action n x v) = AllKnown cells x.args × IsKnown cells v
  ReplyKnown reply.Idle = Unit {0}
  ReplyKnown (reply.Opened p v) = IsKnown cells v
  ReplyKnown reply.Full = Unit {0}
  ReplyKnown reply.Memory = Unit {0}

  abbrev pub TodoKnown : List Exchange → Type 0
  TodoKnown [] = Unit {0}
  TodoKnown (x ∷ xs) = ReplyKnown x.reply × TodoKnown xs

  -- an agent's action that is run; of its agent it says that the actor has it
  abbrev pub ActingKnown : (CellId → Type 0) → Option InHand → Type 0
  ActingKnown Own None = Unit {0}
  ActingKnown Own (Some x) = AllKnown cells x.action.args × SendsKnown x.sends × Own x.agent

  abbrev pub StateKnown : (CellId → Type 0) → ActorState → Type 0
  StateKnown Own s = WorkKnown s.done × CommutingKnown s.commuting × TodoKnown s.todo × ActingKnown Own s.acting

  abbrev pub FramesKnown : List Frame → Type 0
  FramesKnown [] = Unit {0}
  FramesKnown (f ∷ fs) = AllKnown cells f.stack × AllKnown cells f.locals × FramesKnown fs

  abbrev pub SavepointKnown : Savepoint → Type 0
  SavepointKnown p = AllKnown cells p.stack × AllKnown cells p.locals × FramesKnown p.frames

  abbrev pub ActivityKnown : Activity → Type 0
  ActivityKnown Outside = Unit {0}
  ActivityKnown (Restarting left) = Unit {0}
  ActivityKnown (Running left inner from) = SavepointKnown from
  ActivityKnown (Applying left from work values) = SavepointKnown from × TasksKnown work × WritesKnown values
  ActivityKnown (Swapping swap from) = (has_atom cells swap.cell ≡ true) × SavepointKnown from

  -- none of these refs was set
  abbrev pub AllUnset : PlainTxFrame → List CellId → Type 0
  AllUnset w [] = Unit {0}
  AllUnset w (c ∷ cs) = (has_number w.sets c.number ≡ false) × AllUnset w cs

  abbrev pub WorkUnset : PlainTxFrame → List Commute → Type 0
  WorkUnset w [] = Unit {0}
  WorkUnset w (k ∷ ks) = (has_number w.sets k.cell.number ≡ false) × WorkUnset w ks

  abbrev pub TaskUnset : PlainTxFrame → Task → Type 0
  TaskUnset w (Redoes k) = has_number w.sets k.cell.number ≡ false
  TaskUnset w (Validates c f) = Unit {0}

  abbrev pub TasksUnset : PlainTxFrame → List Task → Type 0
  TasksUnset w [] = Unit {0}
  TasksUnset w (x ∷ work) = TaskUnset w x × TasksUnset w work

  abbrev pub ResultKnown : {E : Type 0} → Result Value E → Type 0
  ResultKnown (Ok v) = IsKnown cells v
  ResultKnown (Err f) = Unit {0}

  abbrev pub OptionKnown : Option Value → Type 0
  OptionKnown None = Unit {0}
  OptionKnown (Some v) = IsKnown cells v

  -- ---- writes

  pub buffered_known : (ws : Writes) (k : ℕ) → ValuesKnown ws → OptionKnown (buffered ws k)
  buffered_known [] k h = tt
  buffered_known (x ∷ xs) k h = go (buffered_known xs k h.1) (x.0.number == k)
    where
      go : OptionKnown (buffered xs k) → (b : Bool) → OptionKnown (if b then Some x.1 else buffered xs k)
      go r true = h.0
      go r false = r

  pub values_put : (ws : Writes) (c : CellId) (v : Value) → ValuesKnown ws → IsKnown cells v → ValuesKnown (with_write ws c v)
  values_put [] c v h g = (g, tt)
  values_put (x ∷ xs) c v h g = go (values_put xs c v h.1 g) (x.0.number == c.number) (nat_lt c.number x.0.number)
    where
      go : ValuesKnown (with_write xs c v) → (a b : Bool) → ValuesKnown (if a then (c, v) ∷ xs else if b then (c, v) ∷ x ∷ xs else x ∷ with_write xs c v)
      go r true b = (g, h.1)
      go r false true = (g, h)
      go r false false = (h.0, r)

  writes_put : (ws : Writes) (c : CellId) (v : Value) → has_ref store c ≡ true → IsKnown cells v → WritesKnown ws → WritesKnown (with_write ws c v)
  writes_put ws c v r g h = (refs_with store 0 ws c v r (omega arith) h.0, values_put ws c v h.1 g)

  -- some of ascending refs ascend
  refs_among : (ds : List CellId) (n : ℕ) (ws : Writes) → are_refs store n (cells_in ws) ≡ true → are_refs store n (cells_in (writes_to ds ws)) ≡ true
  refs_among ds n [] h = refl
  refs_among ds n (w ∷ ws) h = go (refs_among ds (suc w.0.number) ws b.1) (refs_among ds n ws (refs_from store n (suc w.0.number) (cells_in ws) (below n w.0.number b.0) b.1)) (has_number ds w.0.number)
    where
      a : (has_ref store w.0 ≡ true) × ((nat_le n w.0.number && are_refs store (suc w.0.number) (cells_in ws)) ≡ true)
      a = both (has_ref store w.0) (nat_le n w.0.number && are_refs store (suc w.0.number) (cells_in ws)) h

      b : (nat_le n w.0.number ≡ true) × (are_refs store (suc w.0.number) (cells_in ws) ≡ true)
      b = both (nat_le n w.0.number) (are_refs store (suc w.0.number) (cells_in ws)) a.1

      below : (m k : ℕ) → nat_le m k ≡ true → m ≤ suc k
      below m k e = grind (arith, nat_tests, e)

      go : are_refs store (suc w.0.number) (cells_in (writes_to ds ws)) ≡ true → are_refs store n (cells_in (writes_to ds ws)) ≡ true → (t : Bool) → are_refs store n (cells_in (if t then w ∷ writes_to ds ws else writes_to ds ws)) ≡ true
      go r q true =
          joined (has_ref store w.0) (nat_le n w.0.number && are_refs store (suc w.0.number) (cells_in (writes_to ds ws))) a.0
          (joined (nat_le n w.0.number) (are_refs store (suc w.0.number) (cells_in (writes_to ds ws))) b.0 r)
      go r q false = q

  values_among : (ds : List CellId) (ws : Writes) → ValuesKnown ws → ValuesKnown (writes_to ds ws)
  values_among ds [] h = tt
  values_among ds (w ∷ ws) h = go (values_among ds ws h.1) (has_number ds w.0.number)
    where
      go : ValuesKnown (writes_to ds ws) → (t : Bool) → ValuesKnown (if t then w ∷ writes_to ds ws else writes_to ds ws)
      go r true = (h.0, r)
      go r false = r

  -- ---- sets of refs

  ascends_with : (n : ℕ) (ds : List CellId) (c : CellId) → has_ref store c ≡ true → n ≤ c.number → are_refs store n ds ≡ true → are_refs store n (with_cell ds c) ≡ true
  ascends_with n [] c r le h = joined (has_ref store c) (nat_le n c.number && true) r (joined (nat_le n c.number) true (le_true n c.number le) refl)
    where
      le_true : (m k : ℕ) → m ≤ k → nat_le m k ≡ true
      le_true m k h = grind (arith, nat_tests, h)
  ascends_with n (d ∷ ds) c r le h = test (λ low g. ascends_with (suc d.number) ds c r low g) (d.number == c.number) (nat_lt c.number d.number) refl refl
    where
      le_true : (m k : ℕ) → m ≤ k → nat_le m k ≡ true
      le_true m k h = grind (arith, nat_tests, h)

      lt_true : (m k : ℕ) → nat_lt m k ≡ true → nat_le (suc m) k ≡ true
      lt_true m k h = grind (arith, nat_tests, h)

      above : (m k : ℕ) → (m == k) ≡ false → nat_lt k m ≡ false → suc m ≤ k
      above m k e h = grind (arith, nat_tests, e, h)

      a : (has_ref store d ≡ true) × ((nat_le n d.number && are_refs store (suc d.number) ds) ≡ true)
      a = both (has_ref store d) (nat_le n d.number && are_refs store (suc d.number) ds) h

      b : (nat_le n d.number ≡ true) × (are_refs store (suc d.number) ds ≡ true)
      b = both (nat_le n d.number) (are_refs store (suc d.number) ds) a.1

      front : (x : CellId) (xs : List CellId) → has_ref store x ≡ true → nat_le n x.number ≡ true → are_refs store (suc x.number) xs ≡ true → are_refs store n (x ∷ xs) ≡ true
      front x xs p q s = joined (has_ref store x) (nat_le n x.number && are_refs store (suc x.number) xs) p (joined (nat_le n x.number) (are_refs store (suc x.number) xs) q s)

      test : (suc d.number ≤ c.number → are_refs store (suc d.number) ds ≡ true → are_refs store (suc d.number) (with_cell ds c) ≡ true)
          → (s t : Bool) → (d.number == c.number) ≡ s → nat_lt c.number d.number ≡ t → are_refs store n (if s then d ∷ ds else if t then c ∷ d ∷ ds else d ∷ with_cell ds c) ≡ true
      test go true t e f = h
      test go false true e f =
          front c (d ∷ ds) r (le_true n c.number le)
          (joined (has_ref store d) (nat_le (suc c.number) d.number && are_refs store (suc d.number) ds) a.0 (joined (nat_le (suc c.number) d.number) (are_refs store (suc d.number) ds) (lt_true c.number d.number f) b.1))
      test go false false e f = front d (with_cell ds c) a.0 b.0 (go (above d.number c.number e f) b.1)

  refs_collected : (ds : List CellId) (ks : List Commute) → CommutesKnown ks → are_refs store 0 ds ≡ true → are_refs store 0 (with_cells ds (map (λ k. k.cell) ks)) ≡ true
  refs_collected ds [] h g = g
  refs_collected ds (k ∷ ks) h g = refs_collected (with_cell ds k.cell) ks h.1 (ascends_with 0 ds k.cell h.0.0 (omega arith) g)

  refs_outside : (ds : List CellId) (n : ℕ) (cs : List CellId) → are_refs store n cs ≡ true → are_refs store n (outside_of ds cs) ≡ true
  refs_outside ds n [] h = refl
  refs_outside ds n (c ∷ cs) h = go (refs_outside ds (suc c.number) cs b.1) (refs_outside ds n cs (refs_from store n (suc c.number) cs (below n c.number b.0) b.1)) (has_number ds c.number)
    where
      a : (has_ref store c ≡ true) × ((nat_le n c.number && are_refs store (suc c.number) cs) ≡ true)
      a = both (has_ref store c) (nat_le n c.number && are_refs store (suc c.number) cs) h

      b : (nat_le n c.number ≡ true) × (are_refs store (suc c.number) cs ≡ true)
      b = both (nat_le n c.number) (are_refs store (suc c.number) cs) a.1

      below : (m k : ℕ) → nat_le m k ≡ true → m ≤ suc k
      below m k e = grind (arith, nat_tests, e)

      go : are_refs store (suc c.number) (outside_of ds cs) ≡ true → are_refs store n (outside_of ds cs) ≡ true → (t : Bool) → are_refs store n (if t then outside_of ds cs else c ∷ outside_of ds cs) ≡ true
      go r q true = q
      go r q false =
          joined (has_ref store c) (nat_le n c.number && are_refs store (suc c.number) (outside_of ds cs)) a.0
          (joined (nat_le n c.number) (are_refs store (suc c.number) (outside_of ds cs)) b.0 r)

  commuted_known : (w : PlainTxFrame) → WorkKnown w → are_refs store 0 (commuted w) ≡ true
  commuted_known w h = refs_outside w.sets 0 (refs_of w.commutes) (refs_collected [] w.commutes h.commutes refl)

  ensured_with : (ds : List CellId) (c : CellId) → has_ref store c ≡ true → has_refs store ds ≡ true → has_refs store (with_cell ds c) ≡ true
  ensured_with [] c r h = joined (has_ref store c) true r refl
  ensured_with (d ∷ ds) c r h = go (ensured_with ds c r a.1) (d.number == c.number) (nat_lt c.number d.number)
    where
      a : (has_ref store d ≡ true) × (has_refs store ds ≡ true)
      a = both (has_ref store d) (has_refs store ds) h

      go : has_refs store (with_cell ds c) ≡ true → (s t : Bool) → has_refs store (if s then d ∷ ds else if t then c ∷ d ∷ ds else d ∷ with_cell ds c) ≡ true
      go q true t = h
      go q false true = joined (has_ref store c) (has_refs store (d ∷ ds)) r h
      go q false false = joined (has_ref store d) (has_refs store (with_cell ds c)) a.0 q

  commutes_append : (ks js : List Commute) → CommutesKnown ks → CommutesKnown js → CommutesKnown (ks ++ js)
  commutes_append [] js h g = g
  commutes_append (k ∷ ks) js h g = (h.0, commutes_append ks js h.1 g)

  pub sends_append : (xs ys : List Action) → SendsKnown xs → SendsKnown ys → SendsKnown (xs ++ ys)
  sends_append [] ys h g = g
  sends_append (x ∷ xs) ys h g = (h.0, sends_append xs ys h.1 g)

  -- an action that holds more sends
  hold_known : (Own : CellId → Type 0) (xs : List Action) (o : Option InHand) → ActingKnown Own o → SendsKnown xs → ActingKnown Own (now_holding xs o)
  hold_known Own xs None h k = tt
  hold_known Own xs (Some y) h k = (h.0, sends_append y.sends xs h.1 k, h.2)

  -- what a commit sends
  commit_sends : (o : Option (List Action)) (xs : List Action) → SendsKnown xs → SendsKnown (sends_of_commit o xs)
  commit_sends None xs h = h
  commit_sends (Some ys) xs h = tt

  commutes_among : (n : ℕ) (ks : List Commute) → CommutesKnown ks → CommutesKnown (commutes_of n ks)
  commutes_among n [] h = tt
  commutes_among n (k ∷ ks) h = go (commutes_among n ks h.1) (k.cell.number == n)
    where
      go : CommutesKnown (commutes_of n ks) → (t : Bool) → CommutesKnown (if t then k ∷ commutes_of n ks else commutes_of n ks)
      go r true = (h.0, r)
      go r false = r

  phase_known : (ds : List CellId) (ks : List Commute) → CommutesKnown ks → CommutesKnown (by_ref ds ks)
  phase_known [] ks h = tt
  phase_known (d ∷ ds) ks h = commutes_append (commutes_of d.number ks) (by_ref ds ks) (commutes_among d.number ks h) (phase_known ds ks h)

  redoes_known : (ks : List Commute) (work : List Task) → CommutesKnown ks → TasksKnown work → TasksKnown (map Redoes ks ++ work)
  redoes_known [] work h g = g
  redoes_known (k ∷ ks) work h g = (h.0, redoes_known ks work h.1 g)

  validations_known : (vs : Validators) (cs : List CellId) → TasksKnown (validations vs cs)
  validations_known vs [] = tt
  validations_known vs (c ∷ cs) = by (validator_at vs c.number) (validations_known vs cs)
    where
      by : (o : Option Callee) → TasksKnown (validations vs cs) → TasksKnown (with_validation c o (validations vs cs))
      by None h = h
      by (Some f) h = (tt, h)

  tasks_known : (vs : Validators) (w : PlainTxFrame) → WorkKnown w → TasksKnown (tasks_of vs w)
  tasks_known vs w h = redoes_known (phase_work w) (validations vs (written w)) (phase_known (commuted w) w.commutes h.commutes) (validations_known vs (written w))

  set_known : (w : PlainTxFrame) → WorkKnown w → WritesKnown (set_writes w)
  set_known w h = (refs_among w.sets 0 w.values h.values.0, values_among w.sets w.values h.values.1)

  -- ---- refs that weren't set

  outside_unset : (w : PlainTxFrame) (cs : List CellId) → AllUnset w (outside_of w.sets cs)
  outside_unset w [] = tt
  outside_unset w (c ∷ cs) = go (outside_unset w cs) (has_number w.sets c.number) refl
    where
      go : AllUnset w (outside_of w.sets cs) → (t : Bool) → has_number w.sets c.number ≡ t → AllUnset w (if t then outside_of w.sets cs else c ∷ outside_of w.sets cs)
      go r true e = r
      go r false e = (e, r)

  unset_append : (w : PlainTxFrame) (ks js : List Commute) → WorkUnset w ks → WorkUnset w js → WorkUnset w (ks ++ js)
  unset_append w [] js h g = g
  unset_append w (k ∷ ks) js h g = (h.0, unset_append w ks js h.1 g)

  unset_of : (w : PlainTxFrame) (n : ℕ) (ks : List Commute) → has_number w.sets n ≡ false → WorkUnset w (commutes_of n ks)
  unset_of w n [] h = tt
  unset_of w n (k ∷ ks) h = go (unset_of w n ks h) (k.cell.number == n) refl
    where
      go : WorkUnset w (commutes_of n ks) → (t : Bool) → (k.cell.number == n) ≡ t → WorkUnset w (if t then k ∷ commutes_of n ks else commutes_of n ks)
      go r true e = (subst (λ i. has_number w.sets i ≡ false) (sym (numbers k.cell.number n e)) h, r)
      go r false e = r

  phase_unset : (w : PlainTxFrame) (ds : List CellId) (ks : List Commute) → AllUnset w ds → WorkUnset w (by_ref ds ks)
  phase_unset w [] ks h = tt
  phase_unset w (d ∷ ds) ks h = unset_append w (commutes_of d.number ks) (by_ref ds ks) (unset_of w d.number ks h.0) (phase_unset w ds ks h.1)

  redoes_unset : (w : PlainTxFrame) (ks : List Commute) (work : List Task) → WorkUnset w ks → TasksUnset w work → TasksUnset w (map Redoes ks ++ work)
  redoes_unset w [] work h g = g
  redoes_unset w (k ∷ ks) work h g = (h.0, redoes_unset w ks work h.1 g)

  validations_unset : (w : PlainTxFrame) (vs : Validators) (cs : List CellId) → TasksUnset w (validations vs cs)
  validations_unset w vs [] = tt
  validations_unset w vs (c ∷ cs) = by (validator_at vs c.number) (validations_unset w vs cs)
    where
      by : (o : Option Callee) → TasksUnset w (validations vs cs) → TasksUnset w (with_validation c o (validations vs cs))
      by None h = h
      by (Some f) h = (tt, h)

  tasks_unset : (vs : Validators) (w : PlainTxFrame) → TasksUnset w (tasks_of vs w)
  tasks_unset vs w =
      redoes_unset w (phase_work w) (validations vs (written w)) (phase_unset w (commuted w) w.commutes (outside_unset w (refs_of w.commutes))) (validations_unset w vs (written w))

  unset_put : (w : PlainTxFrame) (ws : Writes) (c : CellId) (v : Value) → AllUnset w (cells_in ws) → has_number w.sets c.number ≡ false → AllUnset w (cells_in (with_write ws c v))
  unset_put w [] c v h g = (g, tt)
  unset_put w (x ∷ xs) c v h g = go (unset_put w xs c v h.1 g) (x.0.number == c.number) (nat_lt c.number x.0.number)
    where
      go : AllUnset w (cells_in (with_write xs c v)) → (a b : Bool) → AllUnset w (cells_in (if a then (c, v) ∷ xs else if b then (c, v) ∷ x ∷ xs else x ∷ with_write xs c v))
      go r true b = (g, h.1)
      go r false true = (g, h)
      go r false false = (h.0, r)

  -- a ref that wasn't set is none of those that are written for it
  not_among : (ds : List CellId) (k : ℕ) (ws : Writes) → has_number ds k ≡ false → is_among k (cells_in (writes_to ds ws)) ≡ false
  not_among ds k [] h = refl
  not_among ds k (w ∷ ws) h = go (not_among ds k ws h) (has_number ds w.0.number) refl
    where
      differs : (t : Bool) → has_number ds w.0.number ≡ true → (w.0.number == k) ≡ t → t ≡ false
      differs true e f = absurd (false≢true (sym h ∙ ap (has_number ds) (sym (numbers w.0.number k f)) ∙ e))
      differs false e f = refl

      go : is_among k (cells_in (writes_to ds ws)) ≡ false → (t : Bool) → has_number ds w.0.number ≡ t → is_among k (cells_in (if t then w ∷ writes_to ds ws else writes_to ds ws)) ≡ false
      go r true e = ap (λ b. b || is_among k (cells_in (writes_to ds ws))) (differs (w.0.number == k) e refl) ∙ r
      go r false e = r

  apart_of : (w : PlainTxFrame) (cs : List CellId) → AllUnset w cs → are_apart cs (cells_in (set_writes w)) ≡ true
  apart_of w [] h = refl
  apart_of w (c ∷ cs) h =
      joined (not (is_among c.number (cells_in (set_writes w)))) (are_apart cs (cells_in (set_writes w))) (ap not (not_among w.sets c.number w.values h.0)) (apart_of w cs h.1)

  -- what is going on isn't a commute phase
  abbrev pub IsFree : Activity → Type 0
  IsFree Outside = Unit {0}
  IsFree (Restarting left) = Unit {0}
  IsFree (Running left inner from) = Unit {0}
  IsFree (Applying left from work values) = ⊥
  IsFree (Swapping swap from) = Unit {0}

  -- what is going on is no end of a transaction with a view
  abbrev pub IsUnviewed : Activity → Type 0
  IsUnviewed Outside = Unit {0}
  IsUnviewed (Restarting left) = Unit {0}
  IsUnviewed (Running left inner from) = Unit {0}
  IsUnviewed (Applying left from work values) = IsUnviewedEnd (redoes_some work) values
  IsUnviewed (Swapping swap from) = Unit {0}

  -- what is going on is a try, or its end without a view
  abbrev pub IsTry : Activity → Type 0
  IsTry Outside = ⊥
  IsTry (Restarting left) = ⊥
  IsTry (Running left inner from) = Unit {0}
  IsTry (Applying left from work values) = IsUnviewedEnd (redoes_some work) values
  IsTry (Swapping swap from) = ⊥

  -- there are some
  abbrev pub AreSome : List CellId → Type 0
  AreSome [] = ⊥
  AreSome (c ∷ cs) = Unit {0}

  -- at a transaction's end, no ref that is viewed or still to be commuted was set; where there is a view, some refs were commuted and not set
  abbrev pub ApartIn : Activity → PlainTxFrame → Type 0
  ApartIn Outside w = Unit {0}
  ApartIn (Restarting left) w = Unit {0}
  ApartIn (Running left inner from) w = Unit {0}
  ApartIn (Applying left from work values) w = AllUnset w (cells_in values) × TasksUnset w work × WhereViewed (AreSome (commuted w)) (redoes_some work) values
  ApartIn (Swapping swap from) w = Unit {0}

  -- a try, and its end without a view, has no view but its read point, and this holds
  abbrev pub FreshIn : Type 0 → Activity → ActorState → Type 0
  FreshIn X Outside s = Unit {0}
  FreshIn X (Restarting left) s = Unit {0}
  FreshIn X (Running left inner from) s = (s.view ≡ s.at) × X
  FreshIn X (Applying left from work values) s = WhereUnviewed ((s.view ≡ s.at) × X) (redoes_some work) values
  FreshIn X (Swapping swap from) s = Unit {0}

  abbrev pub IsEnd : Option PlainInstr → Type 0
  IsEnd (Some TxEnd) = Unit {0}
  IsEnd _ = ⊥

  -- or it is at its end, where its commute phase has to begin again
  abbrev pub RedoIn : Activity → Option PlainInstr → PlainTxFrame → Type 0
  RedoIn Outside i w = ⊥
  RedoIn (Restarting left) i w = ⊥
  RedoIn (Running left zero from) i w = IsEnd i × AreSome (commuted w)
  RedoIn (Running left (suc inner) from) i w = ⊥
  RedoIn (Applying left from work values) i w = ⊥
  RedoIn (Swapping swap from) i w = ⊥

  -- Tidy says that the instructions stand where they may, Fresh that the try at hand has no view but its read point, and Clean that the
  -- turn doesn't begin at a transaction's end with a view; Own says of an agent that the actor is the agent's
  module _ (Tidy Fresh Clean : Type 0) (Own : CellId → Type 0) (code : ThreadCode) where
    abbrev pub ConfigurationStands : Type 0 → Configuration → Type 0
    ConfigurationStands X c = ApartIn c.doing c.state.done × (FreshIn X c.doing c.state ⊎ RedoIn c.doing (fetch code c.body c.place) c.state.done)

    abbrev pub ConfigurationKnown : Type 0 → Configuration → Type 0
    ConfigurationKnown X c = AllKnown cells c.stack × AllKnown cells c.locals × FramesKnown c.frames × ActivityKnown c.doing × StateKnown Own c.state × (Tidy → ConfigurationStands X c)

    -- an ask that names cells of the program
    abbrev pub AskKnown : Ask → Type 0
    AskKnown ask.Begin = Unit {0}
    AskKnown (ask.Look c p) = has_ref store c ≡ true
    AskKnown (ask.View cs) = has_refs store cs ≡ true
    AskKnown (ask.Commit p sets ensured q commuted sends) = WritesKnown sets × (has_refs store ensured ≡ true) × WritesKnown commuted × SendsKnown sends × (Tidy → are_apart (cells_in commuted) (cells_in sets) ≡ true) × (Fresh → q ≡ p)
    AskKnown (ask.Fail p q) = Fresh → q ≡ p
    AskKnown (ask.Peek c) = has_cell store c ≡ true
    AskKnown (ask.Send x) = ActionKnown x
    AskKnown (ask.Take g) = Own g
    AskKnown (ask.Finish g new sends) = ResultKnown new × SendsKnown sends × (may_send new sends ≡ true) × Own g
    AskKnown (ask.OpenAt c) = has_atom cells c ≡ true
    AskKnown (ask.CloseAt c p v) = (has_atom cells c ≡ true) × IsKnown cells v
    AskKnown (ask.Broke c p) = has_atom cells c ≡ true

    abbrev pub WantsKnown : Option Ask → Type 0
    WantsKnown None = Unit {0}
    WantsKnown (Some q) = AskKnown q

    abbrev pub TurnKnown : Turned Configuration → Type 0
    TurnKnown (Ended s) = Unit {0}
    TurnKnown (Failed f s) = Unit {0}
    TurnKnown (Asking s) = WantsKnown s.wants
    TurnKnown (Unfinished c) = ConfigurationKnown Clean c
    TurnKnown Stuck = Unit {0}

    -- a state in the middle of a turn
    abbrev MidKnown : ActorState → Type 0
    MidKnown s = WorkKnown s.done × CommutingKnown s.commuting × TodoKnown s.todo × (Fresh → s.view ≡ s.at) × ActingKnown Own s.acting

    known_of : (s : ActorState) → MidKnown s → StateKnown Own s
    known_of s h = (h.0, h.1, h.2, h.4)

    free_apart : (doing : Activity) (w : PlainTxFrame) → (Tidy → IsFree doing) → Tidy → ApartIn doing w
    free_apart Outside w h t = tt
    free_apart (Restarting left) w h t = tt
    free_apart (Running left inner from) w h t = tt
    free_apart (Applying left from work values) w h t = absurd (h t)
    free_apart (Swapping swap from) w h t = tt

    look_free : (b : Bool) (f : LookForm) (span : Span) (doing : Activity) → MayStandIn b doing (LookOf f span) → IsFree doing
    look_free b f span Outside h = tt
    look_free b f span (Restarting left) h = tt
    look_free b f span (Running left inner from) h = tt
    look_free b f span (Applying left from work values) h = h
    look_free b f span (Swapping swap from) h = tt

    put_free : (b : Bool) (f : PutForm) (span : Span) (doing : Activity) → MayStandIn b doing (PutOf f span) → IsFree doing
    put_free b f span Outside h = tt
    put_free b f span (Restarting left) h = tt
    put_free b f span (Running left inner from) h = tt
    put_free b f span (Applying left from work values) h = h
    put_free b f span (Swapping swap from) h = tt

    open_free : (b : Bool) (f : OpenForm) (n : ℕ) (span : Span) (doing : Activity) → MayStandIn b doing (OpenOf f n span) → IsFree doing
    open_free b f n span Outside h = tt
    open_free b f n span (Restarting left) h = tt
    open_free b f n span (Running left inner from) h = tt
    open_free b f n span (Applying left from work values) h = h
    open_free b f n span (Swapping swap from) h = tt

    close_free : (b : Bool) (f : UpdateForm) (span : Span) (doing : Activity) → MayStandIn b doing (CloseOf f span) → IsFree doing
    close_free b f span Outside h = tt
    close_free b f span (Restarting left) h = tt
    close_free b f span (Running left inner from) h = tt
    close_free b f span (Applying left from work values) h = h
    close_free b f span (Swapping swap from) h = tt

    send_free : (b : Bool) (f : Callee) (n : ℕ) (span : Span) (doing : Activity) → MayStandIn b doing (SendOf f n span) → IsFree doing
    send_free b f n span Outside h = tt
    send_free b f n span (Restarting left) h = tt
    send_free b f n span (Running left inner from) h = tt
    send_free b f n span (Applying left from work values) h = h
    send_free b f n span (Swapping swap from) h = tt

    -- ---- the cells of forms

    abbrev FoundSo : (CellId → Type 0) → Result CellId FaultKind → Type 0
    FoundSo P (Ok c) = P c
    FoundSo P (Err k) = Unit {0}

    -- a cell of this kind that is there
    abbrev IsThere : CellKind → CellId → Type 0
    IsThere k c = (same_kind c.kind k && has_cell store c) ≡ true

    if_known : (k : CellKind) (f : FaultKind) (c : CellId) → has_cell store c ≡ true → FoundSo (IsThere k) (cell_if (same_kind c.kind k) f c)
    if_known k f c h = go (same_kind c.kind k) refl
      where
        go : (b : Bool) → same_kind c.kind k ≡ b → FoundSo (IsThere k) (cell_if b f c)
        go true e = joined (same_kind c.kind k) (has_cell store c) e h
        go false e = tt

    -- a form that takes cells of a kind finds one of the program's
    kind_known : (k : CellKind) (r : FormRule) (inside : Bool) (v : Value) → r.takes ≡ Some k → IsKnown cells v → FoundSo (IsThere k) (cell_of r inside v)
    kind_known k r inside Nil e h = tt
    kind_known k r inside (Truth b) e h = tt
    kind_known k r inside (Int z) e h = tt
    kind_known k r inside (Key bs) e h = tt
    kind_known k r inside (Text bs) e h = tt
    kind_known k r inside (Vector ds) e h = tt
    kind_known k r inside (Cell c) e h = subst (λ o. FoundSo (IsThere k) (cell_of_kind o r.fault inside c)) (sym e) (if_known k r.fault c h)

    abbrev AnyThere : Bool → CellId → Type 0
    AnyThere true c = has_ref store c ≡ true
    AnyThere false c = has_cell store c ≡ true

    -- what `deref` takes
    any_known : (inside : Bool) (v : Value) → IsKnown cells v → FoundSo (AnyThere inside) (cell_of (rule (form.Look Deref)) inside v)
    any_known inside Nil h = tt
    any_known inside (Truth b) h = tt
    any_known inside (Int z) h = tt
    any_known inside (Key bs) h = tt
    any_known inside (Text bs) h = tt
    any_known inside (Vector ds) h = tt
    any_known true (Cell c) h = if_known Ref _ c h
    any_known false (Cell c) h = h

    -- ---- asks and replies

    abbrev StepKnown : {B : Type 0} → (B → Type 0) → StepResult B → Type 0
    StepKnown P (Continue b s) = P b × MidKnown s
    StepKnown P (Break f s) = MidKnown s
    StepKnown P (Redo s) = MidKnown s
    StepKnown P (Await s) = WantsKnown s.wants
    StepKnown P Malformed = Unit {0}

    abbrev ReadingKnown : {B : Type 0} → (B → Type 0) → Reading B → Type 0
    ReadingKnown P (Says b) = P b
    ReadingKnown P SaysRetry = Unit {0}
    ReadingKnown P SaysNothing = Unit {0}

    abbrev Anything : {B : Type 0} → B → Type 0
    Anything b = Unit {0}

    read_known : {B : Type 0} (P : B → Type 0) (x : Reading B) (s : ActorState) → ReadingKnown P x → MidKnown s → StepKnown P (read_as x s)
    read_known P (Says b) s k h = (k, h)
    read_known P SaysRetry s k h = h
    read_known P SaysNothing s k h = tt

    received_known : {B : Type 0} (P : B → Type 0) (reads : Reply → Reading B) → ((r : Reply) → ReplyKnown r → ReadingKnown P (reads r))
        → (q : Ask) (s : ActorState) (todo : List Exchange) → AskKnown q → WorkKnown s.done → CommutingKnown s.commuting → TodoKnown todo → (Fresh → s.view ≡ s.at) → ActingKnown Own s.acting → StepKnown P (heard reads (receives q s todo))
    received_known P reads k q s [] a w o h f y = a
    received_known P reads k q s (x ∷ xs) a w o h f y = go (same_ask q x.ask)
      where
        go : (b : Bool) → StepKnown P (heard reads (if b then Replied x.reply (record s { todo = xs }) else Unreplied (record s { wants = Some q })))
        go true = read_known P (reads x.reply) (record s { todo = xs }) (k x.reply h.0) (w, o, h.1, f, y)
        go false = a

    heard_known : {B : Type 0} (P : B → Type 0) (reads : Reply → Reading B) → ((r : Reply) → ReplyKnown r → ReadingKnown P (reads r)) → (q : Ask) (s : ActorState) → AskKnown q → MidKnown s → StepKnown P (heard reads (asks q s))
    unfolding asks
    heard_known P reads k q s a h = received_known P reads k q s s.todo a h.0 h.1 h.2 h.3 h.4

    then_known : {B C : Type 0} (P : B → Type 0) (Q : C → Type 0) (x : StepResult B) (go : B → ActorState → StepResult C) → StepKnown P x → ((b : B) (s : ActorState) → P b → MidKnown s → StepKnown Q (go b s)) → StepKnown Q (on_step x go)
    then_known P Q (Continue b s) go h k = k b s h.0 h.1
    then_known P Q (Redo s) go h k = h
    then_known P Q (Break f s) go h k = h
    then_known P Q (Await s) go h k = h
    then_known P Q Malformed go h k = tt

    -- a cell that was found, or a fault
    cell_known : (P : CellId → Type 0) (x : Result CellId FaultKind) (span : Span) (s : ActorState) → FoundSo P x → MidKnown s → StepKnown P (step_of x span s)
    cell_known P (Ok c) span s k h = (k, h)
    cell_known P (Err f) span s k h = h

    says_done : (r : Reply) → ReplyKnown r → ReadingKnown Anything (just_done r)
    says_done (reply.At p) h = tt
    says_done (reply.Is v) h = tt
    says_done (reply.Views p vs) h = tt
    says_done reply.Done h = tt
    says_done (reply.Retry c) h = tt
    says_done (reply.Changed c) h = tt
    says_done (reply.AgentIsFailed g) h = tt
    says_done (reply.Action n x v) h = tt
    says_done reply.Idle h = tt
    says_done (reply.Opened p v) h = tt
    says_done reply.Full h = tt
    says_done reply.Memory h = tt

    says_there : (r : Reply) → ReplyKnown r → ReadingKnown (IsKnown cells) (value_there r)
    says_there (reply.At p) h = tt
    says_there (reply.Is v) h = h
    says_there (reply.Views p vs) h = tt
    says_there reply.Done h = tt
    says_there (reply.Retry c) h = tt
    says_there (reply.Changed c) h = tt
    says_there (reply.AgentIsFailed g) h = tt
    says_there (reply.Action n x v) h = tt
    says_there reply.Idle h = tt
    says_there (reply.Opened p v) h = tt
    says_there reply.Full h = tt
    says_there reply.Memory h = tt

    says_newest : (r : Reply) → ReplyKnown r → ReadingKnown (IsKnown cells) (newest_value r)
    says_newest (reply.At p) h = tt
    says_newest (reply.Is v) h = h
    says_newest (reply.Views p vs) h = tt
    says_newest reply.Done h = tt
    says_newest (reply.Retry c) h = tt
    says_newest (reply.Changed c) h = tt
    says_newest (reply.AgentIsFailed g) h = tt
    says_newest (reply.Action n x v) h = tt
    says_newest reply.Idle h = tt
    says_newest (reply.Opened p v) h = tt
    says_newest reply.Full h = tt
    says_newest reply.Memory h = tt

    abbrev OpenedKnown : ℕ × Value → Type 0
    OpenedKnown x = IsKnown cells x.1

    says_opened : (r : Reply) → ReplyKnown r → ReadingKnown OpenedKnown (opened r)
    says_opened (reply.At p) h = tt
    says_opened (reply.Is v) h = tt
    says_opened (reply.Views p vs) h = tt
    says_opened reply.Done h = tt
    says_opened (reply.Retry c) h = tt
    says_opened (reply.Changed c) h = tt
    says_opened (reply.AgentIsFailed g) h = tt
    says_opened (reply.Action n x v) h = tt
    says_opened reply.Idle h = tt
    says_opened (reply.Opened p v) h = h
    says_opened reply.Full h = tt
    says_opened reply.Memory h = tt

    says_swapped : (r : Reply) → ReplyKnown r → ReadingKnown Anything (swap_verdict r)
    says_swapped (reply.At p) h = tt
    says_swapped (reply.Is v) h = tt
    says_swapped (reply.Views p vs) h = tt
    says_swapped reply.Done h = tt
    says_swapped (reply.Retry c) h = tt
    says_swapped (reply.Changed c) h = tt
    says_swapped (reply.AgentIsFailed g) h = tt
    says_swapped (reply.Action n x v) h = tt
    says_swapped reply.Idle h = tt
    says_swapped (reply.Opened p v) h = tt
    says_swapped reply.Full h = tt
    says_swapped reply.Memory h = tt

    says_sent : (r : Reply) → ReplyKnown r → ReadingKnown Anything (send_verdict r)
    says_sent (reply.At p) h = tt
    says_sent (reply.Is v) h = tt
    says_sent (reply.Views p vs) h = tt
    says_sent reply.Done h = tt
    says_sent (reply.Retry c) h = tt
    says_sent (reply.Changed c) h = tt
    says_sent (reply.AgentIsFailed g) h = tt
    says_sent (reply.Action n x v) h = tt
    says_sent reply.Idle h = tt
    says_sent (reply.Opened p v) h = tt
    says_sent reply.Full h = tt
    says_sent reply.Memory h = tt

    abbrev TakenKnown : Option Taken → Type 0
    TakenKnown None = Unit {0}
    TakenKnown (Some t) = AllKnown cells t.action.args × IsKnown cells t.state

    says_handed : (r : Reply) → ReplyKnown r → ReadingKnown TakenKnown (handed_out r)
    says_handed (reply.At p) h = tt
    says_handed (reply.Is v) h = tt
    says_handed (reply.Views p vs) h = tt
    says_handed reply.Done h = tt
    says_handed (reply.Retry c) h = tt
    says_handed (reply.Changed c) h = tt
    says_handed (reply.AgentIsFailed g) h = tt
    says_handed (reply.Action n x v) h = h
    says_handed reply.Idle h = tt
    says_handed (reply.Opened p v) h = tt
    says_handed reply.Full h = tt
    says_handed reply.Memory h = tt

    pub nothing_known : WorkKnown empty_frame
    nothing_known = record { values = (refl, tt); ensures = refl; commutes = tt; sends = tt }

    fail_known : (s : ActorState) → MidKnown s → StepKnown Anything (fail s)
    unfolding fail
    fail_known s h = heard_known Anything just_done says_done (ask.Fail s.at s.view) s h.3 h

    look_known : (d : CellId) (s : ActorState) → has_ref store d ≡ true → MidKnown s → StepKnown (IsKnown cells) (look d s)
    unfolding look
    look_known d s r h = own (buffered s.done.values d.number) (buffered_known s.done.values d.number h.0.values.1)
      where
        own : (o : Option Value) → OptionKnown o → StepKnown (IsKnown cells) (buffered_or o s (heard value_there (asks (ask.Look d s.at) s)))
        own (Some v) k = (k, h)
        own None k = heard_known (IsKnown cells) value_there says_there (ask.Look d s.at) s r h

    abbrev PairedKnown : List CellId → Option Writes → Type 0
    PairedKnown cs None = Unit {0}
    PairedKnown cs (Some ws) = (cells_in ws ≡ cs) × ValuesKnown ws

    paired_known : (cs : List CellId) (vs : List Value) → AllKnown cells vs → PairedKnown cs (paired cs vs)
    paired_known [] [] h = (refl, tt)
    paired_known [] (v ∷ vs) h = tt
    paired_known (c ∷ cs) [] h = tt
    paired_known (c ∷ cs) (v ∷ vs) h = go (paired cs vs) (paired_known cs vs h.1)
      where
        go : (o : Option Writes) → PairedKnown cs o → PairedKnown (c ∷ cs) (with_first c v o)
        go None k = tt
        go (Some ws) k = (ap (λ l. c ∷ l) k.0, (h.0, k.1))

    peek_known : (d : CellId) (s : ActorState) → has_cell store d ≡ true → MidKnown s → StepKnown (IsKnown cells) (peek d s)
    unfolding peek
    peek_known d s r h = heard_known (IsKnown cells) newest_value says_newest (ask.Peek d) s r h

    abbrev SwapKnown : SwapInHand × Value → Type 0
    SwapKnown x = (has_atom cells x.0.cell ≡ true) × IsKnown cells x.1

    open_atom_known : (d : CellId) (s : ActorState) → has_atom cells d ≡ true → MidKnown s → StepKnown SwapKnown (open_atom d s)
    unfolding open_atom
    open_atom_known d s r h = then_known OpenedKnown SwapKnown (heard opened (asks (ask.OpenAt d) s)) _ (heard_known OpenedKnown opened says_opened (ask.OpenAt d) s r h) (λ x s1 k h1. ((r, k), h1))

    close_swap_known : (w : SwapInHand) (v : Value) (s : ActorState) → has_atom cells w.cell ≡ true → IsKnown cells v → MidKnown s → StepKnown Anything (close_swap w v s)
    unfolding close_swap
    close_swap_known w v s r k h = heard_known Anything swap_verdict says_swapped (ask.CloseAt w.cell (Some w.at) v) s (r, k) h

    break_swap_known : (w : SwapInHand) (s : ActorState) → has_atom cells w.cell ≡ true → MidKnown s → StepKnown Anything (break_swap w s)
    unfolding break_swap
    break_swap_known w s r h = heard_known Anything just_done says_done (ask.Broke w.cell w.at) s r h

    reset_known : (d : CellId) (v : Value) (s : ActorState) → has_atom cells d ≡ true → IsKnown cells v → MidKnown s → StepKnown (IsKnown cells) (reset_atom d v s)
    unfolding reset_atom
    reset_known d v s r k h = then_known Anything (IsKnown cells) (heard just_done (asks (ask.CloseAt d None v) s)) _ (heard_known Anything just_done says_done (ask.CloseAt d None v) s (r, k) h) (λ u s1 i h1. (k, h1))

    agent_there : (g : CellId) → has_agent store g ≡ true → has_cell store g ≡ true
    agent_there g h = (both (same_kind g.kind Agent) (has_cell store g) h).1

    sent_known : (x : Action) (v : Verdict) (s : ActorState) → ActionKnown x → MidKnown s → StepKnown (IsKnown cells) (sent x v s)
    sent_known x Landed s k h = (agent_there x.agent k.0, h)
    sent_known x Outdated s k h = tt
    sent_known x Undone s k h = tt
    sent_known x Denied s k h = h

    send_now_known : (x : Action) (s : ActorState) → ActionKnown x → MidKnown s → StepKnown (IsKnown cells) (send_now x s)
    unfolding send_now
    send_now_known x s k h = then_known Anything (IsKnown cells) (heard send_verdict (asks (ask.Send x) s)) (sent x) (heard_known Anything send_verdict says_sent (ask.Send x) s k h) (λ v s1 i h1. sent_known x v s1 k h1)

    take_known : (g : CellId) (s : ActorState) → Own g → MidKnown s → StepKnown TakenKnown (take_action g s)
    unfolding take_action
    take_known g s mine h = heard_known TakenKnown handed_out says_handed (ask.Take g) s mine h

    says_taken : (r : Reply) → ReplyKnown r → ReadingKnown Anything (taken_back r)
    says_taken (reply.At p) h = tt
    says_taken (reply.Is v) h = tt
    says_taken (reply.Views p vs) h = tt
    says_taken reply.Done h = tt
    says_taken (reply.Retry c) h = tt
    says_taken (reply.Changed c) h = tt
    says_taken (reply.AgentIsFailed g) h = tt
    says_taken (reply.Action n x v) h = tt
    says_taken reply.Idle h = tt
    says_taken (reply.Opened p v) h = tt
    says_taken reply.Full h = tt
    says_taken reply.Memory h = tt

    finish_known : (g : CellId) (new : Result Value Fault) (sends : List Action) (s : ActorState) → ResultKnown new → SendsKnown sends → may_send new sends ≡ true → Own g → MidKnown s → StepKnown Anything (finish g new sends s)
    unfolding finish
    finish_known g new sends s k ks may mine h = heard_known Anything taken_back says_taken (ask.Finish g new sends) s (k, ks, may, mine) h

    -- ---- forms

    abbrev RefThere : CellId → Type 0
    RefThere c = has_ref store c ≡ true

    abbrev AtomThere : CellId → Type 0
    AtomThere c = has_atom cells c ≡ true

    abbrev AgentThere : CellId → Type 0
    AgentThere c = has_agent store c ≡ true

    ensured_known : (d : CellId) (w : PlainTxFrame) → has_ref store d ≡ true → WorkKnown w → WorkKnown (ensure_ref d w)
    ensured_known d w r h = record { values = h.values; ensures = ensured_with w.ensures d r h.ensures; commutes = h.commutes; sends = h.sends }

    read_form_known : (f : LookForm) (inside : Bool) (span : Span) (v : Value) (s : ActorState) → IsKnown cells v → MidKnown s → StepKnown (IsKnown cells) (read f inside span v s)
    read_form_known Deref inside span v s k h =
        then_known (AnyThere inside) (IsKnown cells) (step_of (cell_of (rule (form.Look Deref)) inside v) span s) (read_cell Deref inside)
        (cell_known (AnyThere inside) (cell_of (rule (form.Look Deref)) inside v) span s (any_known inside v k) h) (λ d s1 r h1. here inside d s1 r h1)
      where
        here : (inside : Bool) (d : CellId) (s : ActorState) → AnyThere inside d → MidKnown s → StepKnown (IsKnown cells) (read_cell Deref inside d s)
        here true d s r h = look_known d s r h
        here false d s r h = peek_known d s r h
    read_form_known Ensure inside span v s k h =
        then_known RefThere (IsKnown cells) (step_of (cell_of (rule (form.Look Ensure)) inside v) span s) (read_cell Ensure inside)
        (cell_known RefThere (cell_of (rule (form.Look Ensure)) inside v) span s (kind_known Ref (rule (form.Look Ensure)) inside v refl k) h) (λ d s1 r h1. here inside d s1 r h1)
      where
        here : (inside : Bool) (d : CellId) (s : ActorState) → has_ref store d ≡ true → MidKnown s → StepKnown (IsKnown cells) (read_cell Ensure inside d s)
        here true d s r h = then_known (IsKnown cells) (IsKnown cells) (look d s) _ (look_known d s r h) (λ x s1 i h1. (i, (ensured_known d s1.done r h1.0, h1.1, h1.2, h1.3, h1.4)))
        here false d s r h = tt

    set_own_known : (span : Span) (v : Value) (d : CellId) (s : ActorState) → has_ref store d ≡ true → IsKnown cells v → MidKnown s → StepKnown (IsKnown cells) (set_own span v d s)
    set_own_known span v d s r k h = go (is_commuted s.done d.number)
      where
        go : (b : Bool) → StepKnown (IsKnown cells) (on_step (step_of (if b then Err SetAfterCommute else Ok (record s.done { values = with_write s.done.values d v; sets = with_cell s.done.sets d })) span s) (λ w s1. Continue v (record s1 { done = w })))
        go true = h
        go false = (k, (record { values = writes_put s.done.values d v r k h.0.values; ensures = h.0.ensures; commutes = h.0.commutes; sends = h.0.sends }, h.1, h.2, h.3, h.4))

    reset_cell_known : (inside : Bool) (span : Span) (v : Value) (d : CellId) (s : ActorState) → has_atom cells d ≡ true → IsKnown cells v → MidKnown s → StepKnown (IsKnown cells) (assign_cell Reset inside span v d s)
    reset_cell_known true span v d s r k h = tt
    reset_cell_known false span v d s r k h = reset_known d v s r k h

    assign_known : (f : PutForm) (inside : Bool) (span : Span) (cell v : Value) (s : ActorState) → IsKnown cells cell → IsKnown cells v → MidKnown s → StepKnown (IsKnown cells) (assign f inside span cell v s)
    assign_known RefSet inside span cell v s kc k h =
        then_known RefThere (IsKnown cells) (step_of (cell_of (rule (form.Put RefSet)) inside cell) span s) (assign_cell RefSet inside span v)
        (cell_known RefThere (cell_of (rule (form.Put RefSet)) inside cell) span s (kind_known Ref (rule (form.Put RefSet)) inside cell refl kc) h) (λ d s1 r h1. here inside d s1 r h1)
      where
        here : (inside : Bool) (d : CellId) (s : ActorState) → has_ref store d ≡ true → MidKnown s → StepKnown (IsKnown cells) (assign_cell RefSet inside span v d s)
        here true d s r h = set_own_known span v d s r k h
        here false d s r h = tt
    assign_known Reset inside span cell v s kc k h =
        then_known AtomThere (IsKnown cells) (step_of (cell_of (rule (form.Put Reset)) inside cell) span s) (assign_cell Reset inside span v)
        (cell_known AtomThere (cell_of (rule (form.Put Reset)) inside cell) span s (kind_known Atom (rule (form.Put Reset)) inside cell refl kc) h) (λ d s1 r h1. reset_cell_known inside span v d s1 r k h1)

    update_rule : (u : RefUpdate) → (rule (form.Update (update_form u))).takes ≡ Some Ref
    update_rule Alters = refl
    update_rule (Commutes f) = refl

    kept_known : (u : RefUpdate) (d : CellId) (vs : List Value) → has_ref store d ≡ true → AllKnown cells vs → CommutingKnown (kept_open u d vs)
    kept_known Alters d vs r k = tt
    kept_known (Commutes f) d vs r k = (r, k)

    open_known : (u : RefUpdate) (inside : Bool) (span : Span) (cell : Value) (vs : List Value) (s : ActorState) → IsKnown cells cell → AllKnown cells vs → MidKnown s → StepKnown (IsKnown cells) (open_update u inside span cell vs s)
    open_known u false span cell vs s kc k h = tt
    open_known u true span cell vs s kc k h =
        then_known RefThere (IsKnown cells) (step_of (cell_of (rule (form.Update (update_form u))) true cell) span s) (λ d s1. on_step (look d s1) (λ x s2. Continue x (record s2 { commuting = kept_open u d vs })))
        (cell_known RefThere (cell_of (rule (form.Update (update_form u))) true cell) span s (kind_known Ref (rule (form.Update (update_form u))) true cell (update_rule u) kc) h)
        (λ d s1 r h1. then_known (IsKnown cells) (IsKnown cells) (look d s1) _ (look_known d s1 r h1) (λ x s2 i h2. (i, (h2.0, kept_known u d vs r k, h2.2, h2.3, h2.4))))

    close_own_known : (o : Option Commute) (span : Span) (w : Value) (d : CellId) (s : ActorState) → CommutingKnown o → has_ref store d ≡ true → IsKnown cells w → MidKnown s → StepKnown (IsKnown cells) (close_own o span w d s)
    close_own_known None span w d s ko r k h = set_own_known span w d s r k h
    close_own_known (Some o) span w d s ko r k h =
        (k, (record { values = writes_put s.done.values d w r k h.0.values; ensures = h.0.ensures; commutes = commutes_append s.done.commutes _ h.0.commutes ((r, ko.1), tt); sends = h.0.sends }, tt, h.2, h.3, h.4))

    close_known : (span : Span) (cell w : Value) (s : ActorState) → IsKnown cells cell → IsKnown cells w → MidKnown s → StepKnown (IsKnown cells) (close_update span cell w s)
    close_known span cell w s kc k h =
        then_known RefThere (IsKnown cells) (step_of (cell_of (rule (form.Update update.Alter)) true cell) span s) (close_own s.commuting span w)
        (cell_known RefThere (cell_of (rule (form.Update update.Alter)) true cell) span s (kind_known Ref (rule (form.Update update.Alter)) true cell refl kc) h)
        (λ d s1 r h1. close_own_known s.commuting span w d s1 h.1 r k h1)

    open_swap_known : (span : Span) (cell : Value) (s : ActorState) → IsKnown cells cell → MidKnown s → StepKnown SwapKnown (open_swap false span cell s)
    open_swap_known span cell s kc h =
        then_known AtomThere SwapKnown (step_of (cell_of (rule (form.Update update.Swap)) false cell) span s) open_atom
        (cell_known AtomThere (cell_of (rule (form.Update update.Swap)) false cell) span s (kind_known Atom (rule (form.Update update.Swap)) false cell refl kc) h) (λ d s1 r h1. open_atom_known d s1 r h1)

    send_action_known : (inside : Bool) (x : Action) (s : ActorState) → ActionKnown x → MidKnown s → StepKnown (IsKnown cells) (send_action inside x s)
    send_action_known true x s k h =
        (agent_there x.agent k.0, (record { values = h.0.values; ensures = h.0.ensures; commutes = h.0.commutes; sends = sends_append s.done.sends (x ∷ []) h.0.sends (k, tt) }, h.1, h.2, h.3, h.4))
    send_action_known false x s k h = or_hold s.acting
      where
        or_hold : (o : Option InHand) → StepKnown (IsKnown cells) (send_or_hold o x s)
        or_hold None = send_now_known x s k h
        or_hold (Some y) = (agent_there x.agent k.0, (h.0, h.1, h.2, h.3, hold_known Own (x ∷ []) s.acting h.4 (k, tt)))

    send_known : (inside : Bool) (span : Span) (cell : Value) (f : Callee) (vs : List Value) (s : ActorState) → IsKnown cells cell → AllKnown cells vs → MidKnown s → StepKnown (IsKnown cells) (send_to inside span cell f vs s)
    send_known inside span cell f vs s kc k h =
        then_known AgentThere (IsKnown cells) (step_of (cell_of (rule form.Send) inside cell) span s) (λ g s1. send_action inside (record { agent = g; callee = f; args = vs; span = span }) s1)
        (cell_known AgentThere (cell_of (rule form.Send) inside cell) span s (kind_known Agent (rule form.Send) inside cell refl kc) h)
        (λ g s1 r h1. send_action_known inside (record { agent = g; callee = f; args = vs; span = span }) s1 (r, k) h1)

    -- ---- lists of values

    nth_known : (vs : List Value) (i : ℕ) → AllKnown cells vs → OptionKnown (nth vs i)
    nth_known [] i h = tt
    nth_known (v ∷ vs) zero h = h.0
    nth_known (v ∷ vs) (suc i) h = nth_known vs i h.1

    all_append : (vs ws : List Value) → AllKnown cells vs → AllKnown cells ws → AllKnown cells (vs ++ ws)
    all_append [] ws h g = g
    all_append (v ∷ vs) ws h g = (h.0, all_append vs ws h.1 g)

    nils_known : (n : ℕ) → AllKnown cells (nils n)
    nils_known zero = tt
    nils_known (suc n) = (tt, nils_known n)

    pub locals_known : (b : Option PlainBody) (vs : List Value) → AllKnown cells vs → AllKnown cells (locals_of b vs)
    locals_known None vs h = h
    locals_known (Some b) vs h = all_append vs (nils (b.locals - length vs)) h (nils_known (b.locals - length vs))

    put_in : (L : List Value) (i : ℕ) (v : Value) → AllKnown cells L → IsKnown cells v → AllKnown cells (put L i v)
    put_in [] zero v h g = (g, tt)
    put_in [] (suc i) v h g = (tt, put_in [] i v tt g)
    put_in (x ∷ xs) zero v h g = (g, h.1)
    put_in (x ∷ xs) (suc i) v h g = (h.0, put_in xs i v h.1 g)

    push_known : (vs st : List Value) → AllKnown cells vs → AllKnown cells st → AllKnown cells (push_all vs st)
    push_known [] st h g = g
    push_known (v ∷ vs) st h g = push_known vs (v ∷ st) h.1 (h.0, g)

    or_nil_known : (o : Option Value) → OptionKnown o → IsKnown cells (value_or_nil o)
    or_nil_known None h = tt
    or_nil_known (Some v) h = h

    arguments_known : (k : Commute) (values : Writes) → CommuteKnown k → ValuesKnown values → AllKnown cells (arguments_of k values)
    arguments_known k values h g = (or_nil_known (buffered values k.cell.number) (buffered_known values k.cell.number g), h.1)

    first_known : (a b : Option Value) → OptionKnown a → OptionKnown b → OptionKnown (first_of a b)
    first_known None b h g = g
    first_known (Some v) b h g = h

    -- what a ref is to get
    write_known : (values : Writes) (w : PlainTxFrame) (k : ℕ) → ValuesKnown values → WorkKnown w → IsKnown cells (to_write values w k)
    write_known values w k h g =
        or_nil_known (first_of (buffered values k) (buffered w.values k)) (first_known (buffered values k) (buffered w.values k) (buffered_known values k h) (buffered_known w.values k g.values.1))

    -- ---- turns

    told_known : (x : StepResult (Unit {0})) (go : ActorState → Turned Configuration) → StepKnown Anything x → ((s : ActorState) → MidKnown s → TurnKnown (go s)) → TurnKnown (told x go)
    told_known (Continue u s) go h k = k s h.1
    told_known (Break g s) go h k = tt
    told_known (Redo s) go h k = tt
    told_known (Await s) go h k = h
    told_known Malformed go h k = tt

    over_known : (o : Option InHand) (f : Fault) (s : ActorState) → s.acting ≡ o → MidKnown s → TurnKnown (ends_with o f s)
    over_known None f s e h = tt
    over_known (Some x) f s e h = told_known (finish x.agent (Err f) [] s) _ (finish_known x.agent (Err f) [] s tt tt refl (subst (ActingKnown Own) e h.4).2 h) (λ s1 h1. (tt, tt, tt, tt, (h1.0, h1.1, h1.2, tt), λ t. (tt, inl tt)))

    fails_known : (o : Option InHand) (f : Fault) (s : ActorState) → s.acting ≡ o → MidKnown s → TurnKnown (fails_with o f s)
    fails_known None f s e h = tt
    fails_known (Some x) f s e h = (tt, tt, tt, tt, (h.0, h.1, h.2, subst (ActingKnown Own) e h.4), λ t. (tt, inl tt))

    raise_known : (doing : Activity) (f : Fault) (s : ActorState) → ActivityKnown doing → MidKnown s → TurnKnown (raise doing f s)
    raise_known Outside f s g h = over_known s.acting f s refl h
    raise_known (Restarting left) f s g h = fails_known s.acting f s refl h
    raise_known (Running left inner from) f s g h = told_known (fail s) _ (fail_known s h) (λ s1 h1. fails_known s1.acting f s1 refl h1)
    raise_known (Applying left from work values) f s g h = told_known (fail s) _ (fail_known s h) (λ s1 h1. fails_known s1.acting f s1 refl h1)
    raise_known (Swapping swap from) f s g h = told_known (break_swap swap s) _ (break_swap_known swap s g.0 h) (λ s1 h1. fails_known s1.acting f s1 refl h1)

    rerun_known : (left : ℕ) (from : Savepoint) (s : ActorState) → SavepointKnown from → MidKnown s → TurnKnown (rerun left from s)
    rerun_known zero from s g h = fails_known s.acting (fault_at RetryLimit from.span) s refl h
    rerun_known (suc left) from s g h = (g.0, g.1, g.2, tt, known_of s h, λ t. (tt, inl tt))

    retried_known : (doing : Activity) (s : ActorState) → ActivityKnown doing → MidKnown s → TurnKnown (retried doing s)
    retried_known Outside s g h = tt
    retried_known (Restarting left) s g h = tt
    retried_known (Running left inner from) s g h = rerun_known left from s g h
    retried_known (Applying left from work values) s g h = tt
    retried_known (Swapping swap from) s g h = tt

    on_known : {B : Type 0} (P : B → Type 0) (doing : Activity) (r : StepResult B) (go : B → ActorState → Turned Configuration) → ActivityKnown doing → StepKnown P r → ((b : B) (s : ActorState) → P b → MidKnown s → TurnKnown (go b s)) → TurnKnown (on doing r go)
    on_known P doing (Continue b s) go g h k = k b s h.0 h.1
    on_known P doing (Break f s) go g h k = raise_known doing f s g h
    on_known P doing (Redo s) go g h k = retried_known doing s g h
    on_known P doing (Await s) go g h k = h
    on_known P doing Malformed go g h k = tt

    top_known : (st : List Value) (go : Value → List Value → Turned Configuration) → AllKnown cells st → ((v : Value) (rest : List Value) → IsKnown cells v → AllKnown cells rest → TurnKnown (go v rest)) → TurnKnown (on_top st go)
    top_known [] go h k = tt
    top_known (v ∷ st) go h k = k v st h.0 h.1

    args_known : (n : ℕ) (st vs : List Value) (go : List Value → List Value → Turned Configuration) → AllKnown cells st → AllKnown cells vs → ((ws rest : List Value) → AllKnown cells ws → AllKnown cells rest → TurnKnown (go ws rest)) → TurnKnown (on_args n st vs go)
    args_known zero st vs go h g k = k vs st g h
    args_known (suc n) [] vs go h g k = tt
    args_known (suc n) (v ∷ st) vs go h g k = args_known n st (v ∷ vs) go h.1 (h.0, g) k

    two_known : (st : List Value) (go : Value → Value → List Value → Turned Configuration) → AllKnown cells st → ((w v : Value) (rest : List Value) → IsKnown cells w → IsKnown cells v → AllKnown cells rest → TurnKnown (go w v rest)) → TurnKnown (on_two st go)
    two_known st go h k = top_known st (λ w under. on_top under (go w)) h (λ w under kw ku. top_known under (go w) ku (λ v rest kv kr. k w v rest kw kv kr))

    args_of_known : (n : ℕ) (st : List Value) (go : List Value → Value → List Value → Turned Configuration) → AllKnown cells st → ((vs : List Value) (v : Value) (rest : List Value) → AllKnown cells vs → IsKnown cells v → AllKnown cells rest → TurnKnown (go vs v rest)) → TurnKnown (on_args_of n st go)
    args_of_known n st go h k = args_known n st [] (λ vs under. on_top under (go vs)) h tt (λ vs under kvs ku. top_known under (go vs) ku (λ v rest kv kr. k vs v rest kvs kv kr))

    -- a result of no ask, and what is done with it in the same state
    on_result : (doing : Activity) (x : Result Value FaultKind) (span : Span) (s : ActorState) (go : Value → ActorState → Turned Configuration) → ActivityKnown doing → AnswerKnown cells x → MidKnown s → ((v : Value) → IsKnown cells v → TurnKnown (go v s)) → TurnKnown (on doing (step_of x span s) go)
    on_result doing (Ok v) span s go g k h m = m v k
    on_result doing (Err f) span s go g k h m = raise_known doing (fault_at f span) s g h

    -- ---- instructions

    -- a try that had no view has none
    still_fresh : (doing : Activity) (s s1 : ActorState) → FreshIn Clean doing s → (IsTry doing → s.view ≡ s.at → Fresh) → (Fresh → s1.view ≡ s1.at) → FreshIn Clean doing s1
    still_fresh Outside s s1 f r g = tt
    still_fresh (Restarting left) s s1 f r g = tt
    still_fresh (Running left inner from) s s1 f r g = (g (r tt f.0), f.1)
    still_fresh (Applying left from work values) s s1 f r g = unviewed_so ((s.view ≡ s.at) × Clean) ((s1.view ≡ s1.at) × Clean) (redoes_some work) values (λ o x. (g (r o x.0), x.1)) f
    still_fresh (Swapping swap from) s s1 f r g = tt

    -- an ask, and what is done with its reply
    asked_known : (s : ActorState) → TodoKnown s.todo → (q : Ask) (go : Reception → Turned Configuration) → TurnKnown (go (Unreplied (record s { wants = Some q })))
        → ((r : Reply) (xs : List Exchange) → ReplyKnown r → TodoKnown xs → TurnKnown (go (Replied r (record s { todo = xs })))) → TurnKnown (go (asks q s))
    unfolding asks
    asked_known s k q go none some = received s.todo k
      where
        received : (todo : List Exchange) → TodoKnown todo → TurnKnown (go (receives q s todo))
        received [] t = none
        received (x ∷ xs) t = test (same_ask q x.ask)
          where
            test : (b : Bool) → TurnKnown (go (if b then Replied x.reply (record s { todo = xs }) else Unreplied (record s { wants = Some q })))
            test true = some x.reply xs t.0 t.1
            test false = none

    module _ (c : Configuration) (h : ConfigurationKnown (Unit {0}) c) (start : Fresh → c.state.view ≡ c.state.at) (runs_fresh : Tidy → IsTry c.doing → c.state.view ≡ c.state.at → Fresh) (clean : IsUnviewed c.doing → Clean) where
      middle : MidKnown c.state
      middle = (h.4.0, h.4.1, h.4.2, start, h.4.3)

      -- ---- validators

      -- what continues with the value that was looked at
      abbrev NextKnown : (Configuration → Turned Configuration) → Type 0
      NextKnown go = (o : Option Bool) → TurnKnown (go (record c { state = record c.state { accepted = o } }))

      module _ (fr : Tidy → FreshIn Clean c.doing c.state) (v : Value) (kv : IsKnown cells v) (span : Span) where
        validates_known : (f : Callee) → TurnKnown (validates code f v span c)
        validates_known (callee.Core op) =
            on_result c.doing (core op (v ∷ [])) span c.state (λ answer s. Unfinished (record c { state = answered answer s })) h.3 (core_known cells op (v ∷ []) (kv, tt)) middle
            (λ answer k. (h.0, h.1, h.2, h.3, h.4, λ t. ((h.5 t).0, inl (still_fresh c.doing c.state (answered answer c.state) (fr t) (runs_fresh t) start))))
        validates_known (callee.Function f) = (tt, locals_known (nth code.functions f) (v ∷ []) (kv, tt), (h.0, h.1, h.2), h.3, h.4, λ t. ((h.5 t).0, inl (fr t)))

        accepted_known : (o : Option Bool) (f : Callee) (go : Configuration → Turned Configuration) → NextKnown go → TurnKnown (where_accepted code o f v span c go)
        accepted_known None f go k = validates_known f
        accepted_known (Some true) f go k = k None
        accepted_known (Some false) f go k = raise_known c.doing (fault_at InvalidState span) (record c.state { accepted = None }) h.3 middle

        valid_known : (o : Option Callee) (go : Configuration → Turned Configuration) → NextKnown go → TurnKnown (where_valid code o v span c go)
        valid_known None go k = k c.state.accepted
        valid_known (Some f) go k = accepted_known c.state.accepted f go k

      -- a commit, whose values are of refs that weren't set; where the commutes are made again, the try is as it was
      module _ (left : ℕ) (from : Savepoint) (g : SavepointKnown from) (values : Writes) (k : WritesKnown values) (u : Tidy → AllUnset c.state.done (cells_in values)) (end : Tidy → ((c.state.view ≡ c.state.at) × Clean) ⊎ (IsEnd (fetch code c.body c.place) × AreSome (commuted c.state.done))) where
        rerun_lies : (xs : List Exchange) → TodoKnown xs → TurnKnown (rerun left from (record c.state { todo = xs }))
        rerun_lies xs t = rerun_known left from (record c.state { todo = xs }) g (h.4.0, h.4.1, t, start, h.4.3)

        again_lies : (n : ℕ) (xs : List Exchange) → TodoKnown xs → TurnKnown (decided Outdated n from c (record c.state { todo = xs }))
        again_lies zero xs t = fails_known c.state.acting (fault_at RetryLimit from.span) (record c.state { todo = xs }) refl (h.4.0, h.4.1, t, start, h.4.3)
        again_lies (suc n) xs t = (h.0, h.1, h.2, g, (h.4.0, h.4.1, t, h.4.3), λ y. (tt, end y))

        landed_heard : (r : Reply) (xs : List Exchange) → ReplyKnown r → TodoKnown xs → TurnKnown (on c.doing (on_step (heard commit_verdict (Replied r (record c.state { todo = xs }))) landed) (λ verdict s. decided verdict left from c s))
        landed_heard (reply.At p) xs kr t = tt
        landed_heard (reply.Is v) xs kr t = tt
        landed_heard (reply.Views p vs) xs kr t = tt
        landed_heard reply.Done xs kr t = (h.0, h.1, h.2, tt, (h.4.0, h.4.1, t, hold_known Own c.state.done.sends c.state.acting h.4.3 h.4.0.sends), λ y. (tt, inl tt))
        landed_heard (reply.Retry d) xs kr t = rerun_lies xs t
        landed_heard (reply.Changed d) xs kr t = again_lies left xs t
        landed_heard (reply.AgentIsFailed a) xs kr t = fails_known c.state.acting (fault_at AgentFailed from.span) (record c.state { todo = xs }) refl (h.4.0, h.4.1, t, start, h.4.3)
        landed_heard (reply.Action n x v) xs kr t = tt
        landed_heard reply.Idle xs kr t = tt
        landed_heard (reply.Opened p v) xs kr t = tt
        landed_heard reply.Full xs kr t = tt
        landed_heard reply.Memory xs kr t = tt

        lands_known : TurnKnown (lands left from values c)
        unfolding commit
        lands_known =
            asked_known c.state h.4.2 (ask.Commit c.state.at (set_writes c.state.done) c.state.done.ensures c.state.view values (sends_of_commit (held_in c.state.acting) c.state.done.sends)) (λ o. on c.doing (on_step (heard commit_verdict o) landed) (λ verdict s. decided verdict left from c s))
            (set_known c.state.done h.4.0, h.4.0.ensures, k, commit_sends (held_in c.state.acting) c.state.done.sends h.4.0.sends, (λ t. apart_of c.state.done (cells_in values) (u t)), start) landed_heard

      -- a commute that is applied again, where the tasks of this end are done
      applies_known : (f : Callee) (left : ℕ) (from : Savepoint) (k : Commute) (work : List Task) (values : Writes)
          → SavepointKnown from → CommuteKnown k → TasksKnown work → WritesKnown values → (Tidy → ApartIn (Applying left from (Redoes k ∷ work) values) c.state.done) → (Tidy → FreshIn Clean c.doing c.state) → TurnKnown (applies code f left from k work values c)
      applies_known (callee.Core op) left from k work values g kk kw kv u fr =
          on_result c.doing (core op (arguments_of k values)) from.span c.state _ h.3 (core_known cells op (arguments_of k values) (arguments_known k values kk kv.1)) middle
          (λ v i. (
            h.0,
            h.1,
            h.2,
            (g, kw, writes_put values k.cell v kk.0 i kv),
            h.4,
            λ t. (
              (unset_put c.state.done values k.cell v (u t).0 (u t).1.0, (u t).1.1, viewed_so (AreSome (commuted c.state.done)) (redoes_some work) (with_write values k.cell v) (u t).2),
              inl (put_viewed ((c.state.view ≡ c.state.at) × Clean) (redoes_some work) values k.cell v),
            ),
          ))
      applies_known (callee.Function f) left from k work values g kk kw kv u fr =
          (tt, locals_known (nth code.functions f) (arguments_of k values) (arguments_known k values kk kv.1), (h.0, h.1, h.2), h.3, h.4, λ t. ((h.5 t).0, inl (fr t)))

    -- the tasks of a transaction's end
    works_known : (work : List Task) (left : ℕ) (from : Savepoint) (values : Writes) → SavepointKnown from → TasksKnown work → WritesKnown values
        → (c : Configuration) (h : ConfigurationKnown (Unit {0}) c) (start : Fresh → c.state.view ≡ c.state.at) (runs_fresh : Tidy → IsTry c.doing → c.state.view ≡ c.state.at → Fresh) (clean : IsUnviewed c.doing → Clean)
        → IsEnd (fetch code c.body c.place) → (Tidy → FreshIn Clean c.doing c.state) → (Tidy → ApartIn (Applying left from work values) c.state.done) → (Tidy → FreshIn Clean (Applying left from work values) c.state)
        → (Tidy → IsUnviewedEnd (redoes_some work) values → c.state.view ≡ c.state.at → Fresh) → (IsUnviewedEnd (redoes_some work) values → Clean) → TurnKnown (works code left from work values c)
    works_known [] left from values g kw kv c h start runs_fresh clean i fr u f r cl = lands_known c h start runs_fresh clean left from g values kv (λ t. (u t).0) (λ t. last values (f t) (u t).2)
      where
        last : (ws : Writes) → WhereUnviewed ((c.state.view ≡ c.state.at) × Clean) false ws → WhereViewed (AreSome (commuted c.state.done)) false ws → ((c.state.view ≡ c.state.at) × Clean) ⊎ (IsEnd (fetch code c.body c.place) × AreSome (commuted c.state.done))
        last [] x y = inl x
        last (w ∷ ws) x y = inr (i, y)
    works_known (Redoes k ∷ work) left from values g kw kv c h start runs_fresh clean i fr u f r cl = applies_known c h start runs_fresh clean k.callee left from k work values g kw.0 kw.1 kv u fr
    works_known (Validates d y ∷ work) left from values g kw kv c h start runs_fresh clean i fr u f r cl =
        accepted_known (staying (Applying left from (Validates d y ∷ work) values) c.state c) (h.0, h.1, h.2, (g, kw, kv), h.4, λ t. (u t, inl (forgotten t))) start r cl f (to_write values c.state.done d.number)
        (write_known values c.state.done d.number kv.1 h.4.0) from.span c.state.accepted y (λ c1. works code left from work values (staying (Applying left from work values) c1.state c1))
        (λ o. works_known work left from values g kw.1 kv (staying (Applying left from work values) (record c.state { accepted = o }) c) (h.0, h.1, h.2, (g, kw.1, kv), h.4, λ t. (apart t, inl (forgotten t))) start r cl i f apart f r cl)
      where
        apart : Tidy → ApartIn (Applying left from work values) c.state.done
        apart t = ((u t).0, (u t).1.1, (u t).2)

        forgotten : Tidy → FreshIn (Unit {0}) (Applying left from work values) c.state
        forgotten t = unviewed_so ((c.state.view ≡ c.state.at) × Clean) ((c.state.view ≡ c.state.at) × Unit {0}) (redoes_some work) values (λ o x. (x.0, tt)) (f t)

    module _ (c : Configuration) (h : ConfigurationKnown (Unit {0}) c) (start : Fresh → c.state.view ≡ c.state.at) (runs_fresh : Tidy → IsTry c.doing → c.state.view ≡ c.state.at → Fresh) (clean : IsUnviewed c.doing → Clean) where
      mid : MidKnown c.state
      mid = (h.4.0, h.4.1, h.4.2, start, h.4.3)

      -- what a form gives, where no commute phase goes on
      gives_known : (Tidy → IsFree c.doing) → (Tidy → FreshIn Clean c.doing c.state) → (rest : List Value) (r : StepResult Value) → AllKnown cells rest → StepKnown (IsKnown cells) r → TurnKnown (gives c rest r)
      gives_known free fr rest r kr g =
          on_known (IsKnown cells) c.doing r (λ v s. Unfinished (ahead (v ∷ rest) s c)) h.3 g
          (λ v s k q. ((k, kr), h.1, h.2, h.3, known_of s q, λ t. (free_apart c.doing s.done free t, inl (still_fresh c.doing c.state s (fr t) (runs_fresh t) q.3))))

      module _ (fr : Tidy → FreshIn Clean c.doing c.state) where
        -- a result of no ask
        result_lies : (rest : List Value) (x : Result Value FaultKind) (span : Span) → AllKnown cells rest → AnswerKnown cells x → TurnKnown (gives c rest (step_of x span c.state))
        result_lies rest x span kr k = on_result c.doing x span c.state (λ v s. Unfinished (ahead (v ∷ rest) s c)) h.3 k mid (λ v kv. ((kv, kr), h.1, h.2, h.3, h.4, λ t. ((h.5 t).0, inl (fr t))))

        found_lies : (o : Option Value) → OptionKnown o → TurnKnown (gives c c.stack (found o c.state))
        found_lies None k = tt
        found_lies (Some v) k = ((k, h.0), h.1, h.2, h.3, h.4, λ t. ((h.5 t).0, inl (fr t)))

        print_lies : (inside : Bool) (vs rest : List Value) → AllKnown cells rest → TurnKnown (gives c rest (print inside vs c.state))
        unfolding print
        print_lies true vs rest kr = tt
        print_lies false vs rest kr =
            ((tt, kr), h.1, h.2, h.3, h.4, λ t. ((h.5 t).0, inl (still_fresh c.doing c.state (record c.state { printed = c.state.printed ++ printed_line vs }) (fr t) (runs_fresh t) start)))

      -- ---- transactions

      abbrev tries_with : ℕ → Span → ActorState → Turned Configuration
      tries_with left span s = Unfinished (record (ahead c.stack s c) { doing = Running left 0 (saved span c) })

      begun_heard : Clean → (left : ℕ) (span : Span) (r : Reply) (xs : List Exchange) → ReplyKnown r → TodoKnown xs → TurnKnown (on c.doing (on_step (heard read_point (Replied r (record c.state { todo = xs }))) begun) (λ u s. tries_with left span s))
      begun_heard cl left span (reply.At p) xs k t = (h.0, h.1, h.2, (h.0, h.1, h.2), (nothing_known, tt, t, h.4.3), λ u. (tt, inl (refl, cl)))
      begun_heard cl left span (reply.Is v) xs k t = tt
      begun_heard cl left span (reply.Views p vs) xs k t = tt
      begun_heard cl left span reply.Done xs k t = tt
      begun_heard cl left span (reply.Retry d) xs k t = tt
      begun_heard cl left span (reply.Changed d) xs k t = tt
      begun_heard cl left span (reply.AgentIsFailed a) xs k t = tt
      begun_heard cl left span (reply.Action n x v) xs k t = tt
      begun_heard cl left span reply.Idle xs k t = tt
      begun_heard cl left span (reply.Opened p v) xs k t = tt
      begun_heard cl left span reply.Full xs k t = tt
      begun_heard cl left span reply.Memory xs k t = tt

      starts_known : Clean → (left : ℕ) (span : Span) → TurnKnown (starts left span c)
      unfolding begin
      starts_known cl left span = asked_known c.state h.4.2 ask.Begin (λ o. on c.doing (on_step (heard read_point o) begun) (λ u s. tries_with left span s)) tt (begun_heard cl left span)

      begins_known : (span : Span) (doing : Activity) → ActivityKnown doing → (IsUnviewed doing → Clean) → (Tidy → FreshIn Clean doing c.state) → TurnKnown (begins doing span c)
      begins_known span Outside g cl fr = starts_known (cl tt) _ span
      begins_known span (Restarting left) g cl fr = starts_known (cl tt) left span
      begins_known span (Running left inner from) g cl fr = (h.0, h.1, h.2, g, h.4, λ t. (tt, inl (fr t)))
      begins_known span (Applying left from work values) g cl fr = tt
      begins_known span (Swapping swap from) g cl fr = tt

      -- the commute phase begins with what was viewed
      abbrev phase_with : ℕ → Savepoint → Writes → ActorState → Turned Configuration
      phase_with left from values s = Unfinished (staying (Applying left from (tasks_of code.validators s.done) values) s c)

      paired_views : (left : ℕ) (from : Savepoint) (q : ℕ) (o : Option Writes) (xs : List Exchange) → SavepointKnown from → AreSome (commuted c.state.done) → PairedKnown (commuted c.state.done) o → TodoKnown xs
          → TurnKnown (on c.doing (viewed q o (record c.state { todo = xs })) (phase_with left from))
      paired_views left from q None xs g some k t = tt
      paired_views left from q (Some ws) xs g some k t =
          let asc = subst (λ l. are_refs store 0 l ≡ true) (sym k.0) (commuted_known c.state.done h.4.0) in
          let unset = outside_unset c.state.done (refs_of c.state.done.commutes) in
          let redoes = redoes_some (tasks_of code.validators c.state.done) in (
            h.0,
            h.1,
            h.2,
            (g, tasks_known code.validators c.state.done h.4.0, (asc, k.1)),
            (h.4.0, h.4.1, t, h.4.3),
            λ u. (
              (subst (λ l. AllUnset c.state.done l) (sym k.0) unset, tasks_unset code.validators c.state.done, viewed_so (AreSome (commuted c.state.done)) redoes ws some),
              inl (some_viewed redoes ws (subst AreSome (sym k.0) some)),
            ),
          )
        where
          some_viewed : (b : Bool) (ws : Writes) → AreSome (cells_in ws) → WhereUnviewed ((q ≡ c.state.at) × Clean) b ws
          some_viewed true ws y = tt
          some_viewed false [] y = absurd y
          some_viewed false (w ∷ ws) y = tt

      abbrev phase_heard : ℕ → Savepoint → Reception → Turned Configuration
      phase_heard left from o = on c.doing (on_step (heard views o) (λ x s1. viewed x.0 (paired (commuted c.state.done) x.1) s1)) (phase_with left from)

      views_heard : (left : ℕ) (from : Savepoint) → SavepointKnown from → AreSome (commuted c.state.done) → (r : Reply) (xs : List Exchange) → ReplyKnown r → TodoKnown xs → TurnKnown (phase_heard left from (Replied r (record c.state { todo = xs })))
      views_heard left from g some (reply.At p) xs k t = tt
      views_heard left from g some (reply.Is v) xs k t = tt
      views_heard left from g some (reply.Views p vs) xs k t = paired_views left from p (paired (commuted c.state.done) vs) xs g some (paired_known (commuted c.state.done) vs k) t
      views_heard left from g some reply.Done xs k t = tt
      views_heard left from g some (reply.Retry d) xs k t = tt
      views_heard left from g some (reply.Changed d) xs k t = tt
      views_heard left from g some (reply.AgentIsFailed a) xs k t = tt
      views_heard left from g some (reply.Action n x v) xs k t = tt
      views_heard left from g some reply.Idle xs k t = tt
      views_heard left from g some (reply.Opened p v) xs k t = tt
      views_heard left from g some reply.Full xs k t = tt
      views_heard left from g some reply.Memory xs k t = tt

      views_known : (left : ℕ) (from : Savepoint) → SavepointKnown from → AreSome (commuted c.state.done) → TurnKnown (on c.doing (view c.state) (phase_with left from))
      unfolding view
      views_known left from g some =
          asked_known c.state h.4.2 (ask.View (commuted c.state.done)) (phase_heard left from) (refs_has store 0 (commuted c.state.done) (commuted_known c.state.done h.4.0)) (views_heard left from g some)

      settles_known : (cs : List CellId) (left : ℕ) (from : Savepoint) → commuted c.state.done ≡ cs → SavepointKnown from → IsTry c.doing → Clean → (((c.state.view ≡ c.state.at) × Clean) → FreshIn Clean c.doing c.state)
          → IsEnd (fetch code c.body c.place) → (Tidy → ((c.state.view ≡ c.state.at) × Clean) ⊎ (IsEnd (fetch code c.body c.place) × AreSome (commuted c.state.done))) → TurnKnown (settles code cs left from c)
      settles_known [] left from e g y cl place i end =
          works_known (tasks_of code.validators c.state.done) left from [] g (tasks_known code.validators c.state.done h.4.0) (refl, tt) c h start runs_fresh clean i (λ t. place (fresh t))
          (λ t. (tt, tasks_unset code.validators c.state.done, subst (λ b. WhereViewed (AreSome (commuted c.state.done)) b []) (sym none) tt))
          (λ t. subst (λ b. WhereUnviewed ((c.state.view ≡ c.state.at) × Clean) b []) (sym none) (fresh t)) (λ t o v. runs_fresh t y v) (λ o. cl)
        where
          none : redoes_some (tasks_of code.validators c.state.done) ≡ false
          none = tasks_redo_none code.validators c.state.done e

          fresh : Tidy → (c.state.view ≡ c.state.at) × Clean
          fresh t = go (end t)
            where
              go : ((c.state.view ≡ c.state.at) × Clean) ⊎ (IsEnd (fetch code c.body c.place) × AreSome (commuted c.state.done)) → (c.state.view ≡ c.state.at) × Clean
              go (inl x) = x
              go (inr x) = absurd (subst AreSome e x.1)
      settles_known (d ∷ cs) left from e g y cl place i end = views_known left from g (subst AreSome (sym e) tt)

      ends_known : (doing : Activity) → c.doing ≡ doing → IsEnd (fetch code c.body c.place) → ActivityKnown doing → (Tidy → ApartIn doing c.state.done) → (IsUnviewed doing → Clean) → (Tidy → FreshIn (Unit {0}) doing c.state ⊎ RedoIn doing (fetch code c.body c.place) c.state.done) → TurnKnown (ends code doing c)
      ends_known Outside e i g u cl w = tt
      ends_known (Restarting left) e i g u cl w = tt
      ends_known (Running left (suc inner) from) e i g u cl w = (h.0, h.1, h.2, g, h.4, λ t. (tt, inl (one (w t))))
        where
          one : ((c.state.view ≡ c.state.at) × Unit {0}) ⊎ ⊥ → (c.state.view ≡ c.state.at) × Clean
          one (inl x) = (x.0, cl tt)
          one (inr x) = absurd x
      ends_known (Running left zero from) e i g u cl w = settles_known (commuted c.state.done) left from refl g (subst IsTry (sym e) tt) (cl tt) (λ x. subst (λ d. FreshIn Clean d c.state) (sym e) x) i (λ t. either (w t))
        where
          either : ((c.state.view ≡ c.state.at) × Unit {0}) ⊎ (IsEnd (fetch code c.body c.place) × AreSome (commuted c.state.done)) → ((c.state.view ≡ c.state.at) × Clean) ⊎ (IsEnd (fetch code c.body c.place) × AreSome (commuted c.state.done))
          either (inl x) = inl (x.0, cl tt)
          either (inr x) = inr x
      ends_known (Applying left from work values) e i g u cl w =
          works_known work left from values g.0 g.1 g.2 c h start runs_fresh clean i (λ t. subst (λ d. FreshIn Clean d c.state) (sym e) (fresh t)) u fresh (λ t o v. runs_fresh t (subst IsTry (sym e) o) v) cl
        where
          fresh : Tidy → FreshIn Clean (Applying left from work values) c.state
          fresh t = go (w t)
            where
              go : FreshIn (Unit {0}) (Applying left from work values) c.state ⊎ ⊥ → FreshIn Clean (Applying left from work values) c.state
              go (inl x) = unviewed_so ((c.state.view ≡ c.state.at) × Unit {0}) ((c.state.view ≡ c.state.at) × Clean) (redoes_some work) values (λ o y. (y.0, cl o)) x
              go (inr x) = absurd x
      ends_known (Swapping swap from) e i g u cl w = tt

      -- ---- calls

      applied_known : (v : Value) (doing : Activity) → IsKnown cells v → ActivityKnown doing → ActivityKnown (applied v doing)
      applied_known v Outside k g = g
      applied_known v (Restarting left) k g = g
      applied_known v (Running left inner from) k g = g
      applied_known v (Applying left from [] values) k g = g
      applied_known v (Applying left from (Redoes w ∷ work) values) k g = (g.0, g.1.1, writes_put values w.cell v g.1.0.0 k g.2)
      applied_known v (Applying left from (Validates d f ∷ work) values) k g = g
      applied_known v (Swapping swap from) k g = g

      applied_apart : (v : Value) (doing : Activity) (w : PlainTxFrame) → ApartIn doing w → ApartIn (applied v doing) w
      applied_apart v Outside w u = u
      applied_apart v (Restarting left) w u = u
      applied_apart v (Running left inner from) w u = u
      applied_apart v (Applying left from [] values) w u = u
      applied_apart v (Applying left from (Redoes k ∷ work) values) w u = (unset_put w values k.cell v u.0 u.1.0, u.1.1, viewed_so (AreSome (commuted w)) (redoes_some work) (with_write values k.cell v) u.2)
      applied_apart v (Applying left from (Validates d f ∷ work) values) w u = u
      applied_apart v (Swapping swap from) w u = u

      applied_fresh : (v : Value) (doing : Activity) → FreshIn Clean doing c.state → FreshIn Clean (applied v doing) c.state
      applied_fresh v Outside u = u
      applied_fresh v (Restarting left) u = u
      applied_fresh v (Running left inner from) u = u
      applied_fresh v (Applying left from [] values) u = u
      applied_fresh v (Applying left from (Redoes k ∷ work) values) u = put_viewed ((c.state.view ≡ c.state.at) × Clean) (redoes_some work) values k.cell v
      applied_fresh v (Applying left from (Validates d f ∷ work) values) u = u
      applied_fresh v (Swapping swap from) u = u

      after_known : (awaits : Destination) (v : Value) → IsKnown cells v → ActivityKnown (doing_after awaits v c.doing)
      after_known to_stack v k = h.3
      after_known to_commutes v k = applied_known v c.doing k h.3
      after_known to_validation v k = h.3

      after_apart : (awaits : Destination) (v : Value) → Tidy → ApartIn (doing_after awaits v c.doing) (state_after awaits v c.state).done
      after_apart to_stack v t = (h.5 t).0
      after_apart to_commutes v t = applied_apart v c.doing c.state.done (h.5 t).0
      after_apart to_validation v t = (h.5 t).0

      after_fresh : (awaits : Destination) (v : Value) → Tidy → FreshIn Clean c.doing c.state → FreshIn Clean (doing_after awaits v c.doing) (state_after awaits v c.state)
      after_fresh to_stack v t f = f
      after_fresh to_commutes v t f = applied_fresh v c.doing f
      after_fresh to_validation v t f = still_fresh c.doing c.state (answered v c.state) f (runs_fresh t) start

      after_state : (awaits : Destination) (v : Value) → StateKnown Own (state_after awaits v c.state)
      after_state to_stack v = h.4
      after_state to_commutes v = h.4
      after_state to_validation v = h.4

      stack_known : (awaits : Destination) (v : Value) (stack : List Value) → IsKnown cells v → AllKnown cells stack → AllKnown cells (stack_after awaits v stack)
      stack_known to_stack v stack k g = (k, g)
      stack_known to_commutes v stack k g = g
      stack_known to_validation v stack k g = g

      returns_known : (Tidy → FreshIn Clean c.doing c.state) → (frames : List Frame) (v : Value) → FramesKnown frames → IsKnown cells v → TurnKnown (returns_to frames v c)
      returns_known fr [] v g k = tt
      returns_known fr (f ∷ frames) v g k = (stack_known f.awaits v f.stack k g.0, g.1, g.2, after_known f.awaits v k, after_state f.awaits v, λ t. (after_apart f.awaits v t, inl (after_fresh f.awaits v t (fr t))))

      -- ---- updates

      opens_ref_known : (Tidy → IsFree c.doing) → (Tidy → FreshIn Clean c.doing c.state) → (u : RefUpdate) (span : Span) (vs : List Value) (cell : Value) (rest : List Value) → AllKnown cells vs → IsKnown cells cell → AllKnown cells rest → TurnKnown (opens_ref u span vs cell rest c)
      opens_ref_known free fr u span vs cell rest kvs kc kr =
          on_known (IsKnown cells) c.doing (open_update u (is_inside c.doing) span cell vs c.state) _ h.3 (open_known u (is_inside c.doing) span cell vs c.state kc kvs mid)
          (λ v s k q. (push_known vs (v ∷ cell ∷ rest) kvs (k, (kc, kr)), h.1, h.2, h.3, known_of s q, λ t. (free_apart c.doing s.done free t, inl (still_fresh c.doing c.state s (fr t) (runs_fresh t) q.3))))

      opens_atom_known : (doing : Activity) (span : Span) (vs : List Value) (cell : Value) (rest : List Value) → AllKnown cells vs → IsKnown cells cell → AllKnown cells rest → TurnKnown (opens_atom doing span vs cell rest c)
      opens_atom_known Outside span vs cell rest kvs kc kr =
          on_known SwapKnown c.doing (open_swap false span cell c.state) _ h.3 (open_swap_known span cell c.state kc mid)
          (λ o s k q. (push_known vs (o.1 ∷ cell ∷ rest) kvs (k.1, (kc, kr)), h.1, h.2, (k.0, (h.0, h.1, h.2)), known_of s q, λ t. (tt, inl tt)))
      opens_atom_known (Restarting left) span vs cell rest kvs kc kr = tt
      opens_atom_known (Running left inner from) span vs cell rest kvs kc kr = tt
      opens_atom_known (Applying left from work values) span vs cell rest kvs kc kr = tt
      opens_atom_known (Swapping swap from) span vs cell rest kvs kc kr = tt

      opens_known : (Tidy → IsFree c.doing) → (Tidy → FreshIn Clean c.doing c.state) → (f : OpenForm) (span : Span) (vs : List Value) (cell : Value) (rest : List Value) → AllKnown cells vs → IsKnown cells cell → AllKnown cells rest → TurnKnown (opens f span vs cell rest c)
      opens_known free fr open_form.Alter span vs cell rest kvs kc kr = opens_ref_known free fr Alters span vs cell rest kvs kc kr
      opens_known free fr (open_form.Commute k) span vs cell rest kvs kc kr = opens_ref_known free fr (Commutes k) span vs cell rest kvs kc kr
      opens_known free fr (open_form.Swap k) span vs cell rest kvs kc kr = opens_atom_known c.doing span vs cell rest kvs kc kr

      swap_decided_known : (from : Savepoint) (w : Value) (rest : List Value) (v : Verdict) (o : Option Bool) (s : ActorState) → SavepointKnown from → IsKnown cells w → AllKnown cells rest → MidKnown s
          → TurnKnown (swap_decided v from w rest (record c { state = record c.state { accepted = o } }) s)
      swap_decided_known from w rest Landed o s g k kr q = ((k, kr), h.1, h.2, tt, known_of s q, λ t. (tt, inl tt))
      swap_decided_known from w rest Outdated o s g k kr q = (g.0, g.1, g.2, tt, known_of s q, λ t. (tt, inl tt))
      swap_decided_known from w rest Undone o s g k kr q = tt
      swap_decided_known from w rest Denied o s g k kr q = tt

      closes_swap_known : (Tidy → FreshIn Clean c.doing c.state) → (doing : Activity) (w : Value) (rest : List Value) → ActivityKnown doing → IsKnown cells w → AllKnown cells rest → TurnKnown (closes_swap code doing w rest c)
      closes_swap_known fr (Swapping swap from) w rest g k kr =
          valid_known c h start runs_fresh clean fr w k from.span (validator_at code.validators swap.cell.number) (λ c1. on c1.doing (close_swap swap w c1.state) (λ verdict s. swap_decided verdict from w rest c1 s))
          (λ o. on_known Anything c.doing (close_swap swap w (record c.state { accepted = o })) (λ verdict s. swap_decided verdict from w rest (record c { state = record c.state { accepted = o } }) s) h.3
          (close_swap_known swap w (record c.state { accepted = o }) g.0 k mid) (λ v s i q. swap_decided_known from w rest v o s g.1 k kr q))
      closes_swap_known fr Outside w rest g k kr = tt
      closes_swap_known fr (Restarting left) w rest g k kr = tt
      closes_swap_known fr (Running left inner from) w rest g k kr = tt
      closes_swap_known fr (Applying left from work values) w rest g k kr = tt

      closes_known : (Tidy → IsFree c.doing) → (Tidy → FreshIn Clean c.doing c.state) → (f : UpdateForm) (span : Span) (w cell : Value) (rest : List Value) → IsKnown cells w → IsKnown cells cell → AllKnown cells rest → TurnKnown (closes code f span w cell rest c)
      closes_known free fr update.Alter span w cell rest k kc kr = gives_known free fr rest (close_update span cell w c.state) kr (close_known span cell w c.state kc k mid)
      closes_known free fr update.Commute span w cell rest k kc kr = gives_known free fr rest (close_update span cell w c.state) kr (close_known span cell w c.state kc k mid)
      closes_known free fr update.Swap span w cell rest k kc kr = closes_swap_known fr c.doing w rest h.3 k kr

      puts_known : (Tidy → IsFree c.doing) → (Tidy → FreshIn Clean c.doing c.state) → (f : PutForm) (span : Span) (w cell : Value) (rest : List Value) → IsKnown cells w → IsKnown cells cell → AllKnown cells rest → TurnKnown (puts code f span w cell rest c)
      puts_known free fr RefSet span w cell rest k kc kr = gives_known free fr rest (assign RefSet (is_inside c.doing) span cell w c.state) kr (assign_known RefSet (is_inside c.doing) span cell w c.state kc k mid)
      puts_known free fr Reset span w cell rest k kc kr =
          on_known AtomThere c.doing (cell_at (form.Put Reset) (is_inside c.doing) span cell c.state) _ h.3
          (cell_known AtomThere (cell_of (rule (form.Put Reset)) (is_inside c.doing) cell) span c.state (kind_known Atom (rule (form.Put Reset)) (is_inside c.doing) cell refl kc) mid)
          (λ a s there q. valid_known c h start runs_fresh clean fr w k span (validator_at code.validators a.number) (λ c1. gives c1 rest (assign_cell Reset (is_inside c.doing) span w a c1.state))
          (λ o. on_known (IsKnown cells) c.doing (assign_cell Reset (is_inside c.doing) span w a (record c.state { accepted = o })) (λ v s1. Unfinished (ahead (v ∷ rest) s1 c)) h.3
          (reset_cell_known (is_inside c.doing) span w a (record c.state { accepted = o }) there k mid)
          (λ v s1 kv q1. ((kv, kr), h.1, h.2, h.3, known_of s1 q1, λ t. (free_apart c.doing s1.done free t, inl (still_fresh c.doing c.state s1 (fr t) (runs_fresh t) q1.3))))))

      -- ---- an agent's own instructions

      -- outside every transaction nothing is to be said
      own_stands : (b : Bool) (doing : Activity) (i : Option PlainInstr) (s : ActorState) → IsOwn b doing → ApartIn doing s.done × (FreshIn Clean doing s ⊎ RedoIn doing i s.done)
      own_stands true Outside i s may = (tt, inl tt)
      own_stands true (Restarting left) i s may = absurd may
      own_stands true (Running left inner from) i s may = absurd may
      own_stands true (Applying left from work values) i s may = absurd may
      own_stands true (Swapping swap from) i s may = absurd may
      own_stands false doing i s may = absurd may

      started_known : (b : Bool) → (Tidy → IsOwn b c.doing) → (g : CellId) (o : Option Taken) (s : ActorState) → Own g → TakenKnown o → MidKnown s → TurnKnown (started g o c s)
      started_known b may g None s mine k q = (h.0, h.1, h.2, h.3, known_of s q, λ t. own_stands b c.doing (fetch code c.body c.place) s (may t))
      started_known b may g (Some y) s mine k q = ((k.1, h.0), h.1, h.2, h.3, (q.0, q.1, q.2, (k.0, tt, mine)), λ t. own_stands b c.doing (fetch code c.body (c.place + 1)) (record s { acting = Some (record { agent = g; action = y.action; sends = []; fault = None }) }) (may t))

      runs_callee_known : (Tidy → FreshIn Clean c.doing c.state) → (f : Callee) (x : Action) (v : Value) (rest : List Value) → AllKnown cells x.args → IsKnown cells v → AllKnown cells rest → TurnKnown (runs_callee code f x v rest c)
      runs_callee_known fr (callee.Core op) x v rest ka k kr = result_lies fr rest (core op (v ∷ x.args)) x.span kr (core_known cells op (v ∷ x.args) (k, ka))
      runs_callee_known fr (callee.Function f) x v rest ka k kr = (tt, locals_known (nth code.functions f) (v ∷ x.args) (k, ka), (kr, h.1, h.2), h.3, h.4, λ t. ((h.5 t).0, inl (fr t)))

      runs_known : (Tidy → FreshIn Clean c.doing c.state) → (o : Option InHand) (v : Value) (rest : List Value) → ActingKnown Own o → IsKnown cells v → AllKnown cells rest → TurnKnown (runs code o v rest c)
      runs_known fr None v rest g k kr = tt
      runs_known fr (Some x) v rest g k kr = runs_callee_known fr x.action.callee x.action v rest g.0 k kr

      finishes_known : (Tidy → FreshIn Clean c.doing c.state) → (g : CellId) → Own g → (o : Option InHand) (v : Value) → ActingKnown Own o → IsKnown cells v → TurnKnown (finishes code g o v c)
      finishes_known fr g mine None v ka k = tt
      finishes_known fr g mine (Some x) v ka k =
          valid_known c h start runs_fresh clean fr v k x.action.span (validator_at code.validators x.action.agent.number) (λ c1. told (finish g (Ok v) x.sends c1.state) (λ s. Unfinished (first_place [] (rested s))))
          (λ o. told_known (finish g (Ok v) x.sends (record c.state { accepted = o })) _ (finish_known g (Ok v) x.sends (record c.state { accepted = o }) k ka.1 refl mine mid) (λ s q. (tt, tt, tt, tt, (q.0, q.1, q.2, tt), λ t. (tt, inl tt))))

      hands_known : (Tidy → FreshIn Clean c.doing c.state) → (g : CellId) → Own g → (k : Option Fault) → TurnKnown (hands_in code g c.state.acting k c)
      hands_known fr g mine None = top_known c.stack _ h.0 (λ v rest kv kr. finishes_known fr g mine c.state.acting v h.4.3 kv)
      hands_known fr g mine (Some f) = told_known (finish g (Err f) [] c.state) _ (finish_known g (Err f) [] c.state tt tt refl mine mid) (λ s q. (tt, tt, tt, tt, (q.0, q.1, q.2, tt), λ t. (tt, inl tt)))

      -- ---- an instruction

      -- a constant is known
      abbrev InstrKnown : Option PlainInstr → Type 0
      InstrKnown o = (v : Value) → o ≡ Some (Push v) → IsKnown cells v

      -- an agent's own instruction is the actor's
      abbrev InstrOwn : Option PlainInstr → Type 0
      InstrOwn o = (k : CellId) → (o ≡ Some (TakeOf k) → Own k) × (o ≡ Some (FinishOf k) → Own k)

      -- but at the end of a transaction a try has no view but its read point
      fresh_or : (i : Option PlainInstr) → fetch code c.body c.place ≡ i → (IsEnd i → ⊥) → Tidy → FreshIn Clean c.doing c.state
      fresh_or i e n t = go c.doing (h.5 t).1 clean
        where
          go : (doing : Activity) → FreshIn (Unit {0}) doing c.state ⊎ RedoIn doing (fetch code c.body c.place) c.state.done → (IsUnviewed doing → Clean) → FreshIn Clean doing c.state
          go (Running left inner from) (inl x) cl = (x.0, cl tt)
          go Outside (inl x) cl = tt
          go (Restarting left) (inl x) cl = tt
          go (Applying left from work values) (inl x) cl = unviewed_so ((c.state.view ≡ c.state.at) × Unit {0}) ((c.state.view ≡ c.state.at) × Clean) (redoes_some work) values (λ o y. (y.0, cl o)) x
          go (Swapping swap from) (inl x) cl = tt
          go (Running left zero from) (inr x) cl = absurd (n (subst IsEnd e x.0))
          go (Running left (suc inner) from) (inr x) cl = absurd x
          go Outside (inr x) cl = absurd x
          go (Restarting left) (inr x) cl = absurd x
          go (Applying left from work values) (inr x) cl = absurd x
          go (Swapping swap from) (inr x) cl = absurd x

      act_known : (b : Bool) (i : Option PlainInstr) → fetch code c.body c.place ≡ i → InstrKnown i → InstrOwn i → (Tidy → MayStandHere b c.doing i) → TurnKnown (act code i c)
      act_known b None e i own m = tt
      act_known b (Some (Push v)) e i own m = ((i v refl, h.0), h.1, h.2, h.3, h.4, λ t. ((h.5 t).0, inl (fresh_or (Some (Push v)) e (λ x. x) t)))
      act_known b (Some (Load n)) e i own m = found_lies (fresh_or (Some (Load n)) e (λ x. x)) (nth c.locals n) (nth_known c.locals n h.1)
      act_known b (Some (Store n)) e i own m = top_known c.stack _ h.0 (λ v rest kv kr. (kr, put_in c.locals n v h.1 kv, h.2, h.3, h.4, λ t. ((h.5 t).0, inl (fresh_or (Some (Store n)) e (λ x. x) t))))
      act_known b (Some Pop) e i own m = top_known c.stack _ h.0 (λ v rest kv kr. (kr, h.1, h.2, h.3, h.4, λ t. ((h.5 t).0, inl (fresh_or (Some Pop) e (λ x. x) t))))
      act_known b (Some (Jump to)) e i own m = (h.0, h.1, h.2, h.3, h.4, λ t. ((h.5 t).0, inl (fresh_or (Some (Jump to)) e (λ x. x) t)))
      act_known b (Some (JumpFalse to)) e i own m = top_known c.stack _ h.0 (λ v rest kv kr. (kr, h.1, h.2, h.3, h.4, λ t. ((h.5 t).0, inl (fresh_or (Some (JumpFalse to)) e (λ x. x) t))))
      act_known b (Some (CoreOf op n span)) e i own m = args_known n c.stack [] _ h.0 tt (λ vs rest kvs kr. result_lies (fresh_or (Some (CoreOf op n span)) e (λ x. x)) rest (core op vs) span kr (core_known cells op vs kvs))
      act_known b (Some (CallOf f n)) e i own m = args_known n c.stack [] _ h.0 tt (λ vs rest kvs kr. (tt, locals_known (nth code.functions f) vs kvs, (kr, h.1, h.2), h.3, h.4, λ t. ((h.5 t).0, inl (fresh_or (Some (CallOf f n)) e (λ x. x) t))))
      act_known b (Some Return) e i own m = top_known c.stack _ h.0 (λ v rest kv kr. returns_known (fresh_or (Some Return) e (λ x. x)) c.frames v h.2 kv)
      act_known b (Some (MakeVector n span)) e i own m = args_known n c.stack [] _ h.0 tt (λ vs rest kvs kr. result_lies (fresh_or (Some (MakeVector n span)) e (λ x. x)) rest (vector_of vs) span kr (vector_known cells vs kvs))
      act_known b (Some (PrintOf n)) e i own m = args_known n c.stack [] _ h.0 tt (λ vs rest kvs kr. print_lies (fresh_or (Some (PrintOf n)) e (λ x. x)) (is_inside c.doing) vs rest kr)
      act_known b (Some (TxBegin span)) e i own m = begins_known span c.doing h.3 clean (fresh_or (Some (TxBegin span)) e (λ x. x))
      act_known b (Some TxEnd) e i own m = ends_known c.doing refl (subst IsEnd (sym e) tt) h.3 (λ t. (h.5 t).0) clean (λ t. (h.5 t).1)
      act_known b (Some (LookOf f span)) e i own m =
          top_known c.stack _ h.0 (λ cell rest kc kr. gives_known (λ t. look_free b f span c.doing (m t)) (fresh_or (Some (LookOf f span)) e (λ x. x)) rest (read f (is_inside c.doing) span cell c.state) kr (read_form_known f (is_inside c.doing) span cell c.state kc mid))
      act_known b (Some (PutOf f span)) e i own m =
          two_known c.stack _ h.0 (λ w cell rest kw kc kr. puts_known (λ t. put_free b f span c.doing (m t)) (fresh_or (Some (PutOf f span)) e (λ x. x)) f span w cell rest kw kc kr)
      act_known b (Some (OpenOf f n span)) e i own m =
          args_of_known n c.stack _ h.0 (λ vs cell rest kvs kc kr. opens_known (λ t. open_free b f n span c.doing (m t)) (fresh_or (Some (OpenOf f n span)) e (λ x. x)) f span vs cell rest kvs kc kr)
      act_known b (Some (CloseOf f span)) e i own m =
          two_known c.stack _ h.0 (λ w cell rest kw kc kr. closes_known (λ t. close_free b f span c.doing (m t)) (fresh_or (Some (CloseOf f span)) e (λ x. x)) f span w cell rest kw kc kr)
      act_known b (Some (SendOf f n span)) e i own m =
          args_of_known n c.stack _ h.0 (λ vs cell rest kvs kc kr. gives_known (λ t. send_free b f n span c.doing (m t)) (fresh_or (Some (SendOf f n span)) e (λ x. x)) rest (send_to (is_inside c.doing) span cell f vs c.state) kr (send_known (is_inside c.doing) span cell f vs c.state kc kvs mid))
      act_known b (Some Halt) e i own m = tt
      act_known b (Some (TakeOf g)) e i own m = on_known TakenKnown c.doing (take_action g c.state) (λ o s. started g o c s) h.3 (take_known g c.state ((own g).0 refl) mid) (λ o s k q. started_known b m g o s ((own g).0 refl) k q)
      act_known b (Some RunOf) e i own m = top_known c.stack _ h.0 (λ v rest kv kr. runs_known (fresh_or (Some RunOf) e (λ x. x)) c.state.acting v rest h.4.3 kv kr)
      act_known b (Some (FinishOf g)) e i own m = hands_known (fresh_or (Some (FinishOf g)) e (λ x. x)) g ((own g).1 refl) (fault_in c.state.acting)

      pub turn_known : (b : Bool) → CodeIsKnown cells code → Names Own code → (Tidy → MayStandHere b c.doing (fetch code c.body c.place)) → TurnKnown (turn code c)
      turn_known b i own m = act_known b (fetch code c.body c.place) refl (i c.body c.place) (own c.body c.place) m
