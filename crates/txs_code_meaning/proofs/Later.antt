-- Exchanges put at the end change nothing before they are asked for.
use Rattle.std.proofs.Common.{◌≡◌, ℕ, zero, suc, Bool, true, false, List, [], ◌∷◌, ◌++◌, Option, Some, None, Result, Ok, Err, refl, sym, ap, subst, if◌then◌else◌}
use Rattle.txs_world_protocol.specs.Ask.{Writes, buffered, Exchange, same_ask}
use Rattle.txs_world_protocol.specs.declared.ask.Ask.{Ask}
use Rattle.txs_world_protocol.specs.declared.ask.Ask.TheVariants as ask
use Rattle.txs_world_protocol.specs.declared.ask.Reply.{Reply}
use Rattle.txs_frame.specs.Frame.{commuted, set_writes, set_ref, sends_of_commit}
use Rattle.txs_frame.specs.Phase.{tasks_of, to_write}
use Rattle.txs_frame.specs.declared.frame.Commute.{Commute}
use Rattle.txs_frame.specs.declared.phase.Task.{Task}
use Rattle.txs_frame.specs.declared.phase.Task.TheVariants.{Redoes, Validates}
use Rattle.txs_value_apply.specs.Core.{core, vector_of}
use Rattle.txs_value_cell.specs.Cells.{validator_at}
use Rattle.txs_value_cell.specs.Forms.{rule, cell_of}
use Rattle.txs_value_data.specs.Limits.{reruns}
use Rattle.txs_value_data.specs.Places.{nth, fault_at}
use Rattle.txs_value_cell.specs.declared.action.Action.{Action}
use Rattle.txs_value_data.specs.declared.fault.Fault.{Fault}
use Rattle.txs_value_data.specs.declared.fault.FaultKind.{FaultKind}
use Rattle.txs_value_data.specs.declared.fault.FaultKind.TheVariants.{InvalidState, RetryLimit, AgentFailed}
use Rattle.txs_value_data.specs.declared.fault.Span.{Span}
use Rattle.txs_value_cell.specs.declared.form.CellForm.{CellForm}
use Rattle.txs_value_cell.specs.declared.form.CellForm.TheVariants as form
use Rattle.txs_value_cell.specs.declared.form.LookForm.{LookForm}
use Rattle.txs_value_cell.specs.declared.form.LookForm.TheVariants.{Deref, Ensure}
use Rattle.txs_value_cell.specs.declared.form.PutForm.{PutForm}
use Rattle.txs_value_cell.specs.declared.form.PutForm.TheVariants.{RefSet, Reset}
use Rattle.txs_value_cell.specs.declared.form.UpdateForm.{UpdateForm}
use Rattle.txs_value_cell.specs.declared.form.UpdateForm.TheVariants as update
use Rattle.txs_value_data.specs.declared.op.Callee.{Callee}
use Rattle.txs_value_data.specs.declared.op.Callee.TheVariants as callee
use Rattle.txs_value_data.specs.declared.value.CellId.{CellId}
use Rattle.txs_value_data.specs.declared.value.Value.{Value}
use Rattle.txs_code_meaning.specs.declared.instr.OpenForm.{OpenForm}
use Rattle.txs_code_meaning.specs.declared.instr.OpenForm.TheVariants as open_form
use Rattle.txs_code_meaning.specs.ActorState.{ActorState, Reception, Replied, Unreplied, receives, asks, StepResult, Continue, Break, Redo, Await, Malformed, on_step, step_of, Reading, Says, SaysRetry, SaysNothing, read_as, heard, read_point, just_done, value_there, newest_value, views, Verdict, Landed, Outdated, Undone, Denied, commit_verdict, opened, swap_verdict, send_verdict, sent, Taken, handed_out, begun, begin, fail, buffered_or, look, paired, viewed, view, commit, peek, SwapInHand, open_atom, close_swap, break_swap, reset_atom, send_now, take_action, finish, cell_at, read_cell, read, set_own, assign_cell, assign, RefUpdate, Alters, Commutes, update_form, kept_open, open_update, close_own, close_update, open_swap, send_action, send_to, print, InHand, send_or_hold, held_in, landed, taken_back}
use Rattle.txs_code_meaning.specs.Machine.{PlainInstr, Push, Load, Store, Pop, Jump, JumpFalse, CoreOf, CallOf, Return, MakeVector, PrintOf, TxBegin, TxEnd, LookOf, PutOf, OpenOf, CloseOf, SendOf, Halt, TakeOf, RunOf, FinishOf, ThreadCode, fetch, Frame, Savepoint, Activity, Outside, Restarting, Running, Applying, Swapping, is_inside, Configuration, Turned, Ended, Failed, Asking, Unfinished, Stuck, and_then, told, raise, try_more, rerun, retried, on, found, on_top, on_args, on_args_of, on_two, gives, starts, begins, decided, lands, settles, arguments_of, applies, ends, returns_to, opens_ref, opens_atom, opens, swap_decided, closes_swap, closes, started, runs_callee, runs, act, turn, run, ends_with, fails_with, hands_in, fault_in, validates, where_accepted, where_valid, works, puts, finishes, Destination, to_stack, to_commutes, to_validation, stack_after, doing_after, state_after, staying, first_place, rested}
use Rattle.txs_code_meaning.specs.Opening.{given}

module _ (ys : List Exchange) where
  abbrev later : ActorState → ActorState
  later s = record s { todo = s.todo ++ ys }

  abbrev ReceptionMore : Reception → Reception → Type 0
  ReceptionMore (Replied r s) h = h ≡ Replied r (later s)
  ReceptionMore (Unreplied s) h = Unit {0}

  abbrev StepMore : {A : Type 0} → StepResult A → StepResult A → Type 0
  StepMore (Continue a s) o = o ≡ Continue a (later s)
  StepMore (Break f s) o = o ≡ Break f (later s)
  StepMore (Redo s) o = o ≡ Redo (later s)
  StepMore (Await s) o = Unit {0}
  StepMore Malformed o = Unit {0}

  -- an end is the same end, with the exchanges behind those that are left
  abbrev More : Turned Configuration → Turned Configuration → Type 0
  More (Ended s) o = o ≡ Ended (later s)
  More (Failed f s) o = o ≡ Failed f (later s)
  More (Asking s) o = Unit {0}
  More (Unfinished d) o = o ≡ Unfinished (given ys d)
  More Stuck o = Unit {0}

  -- ---- steps

  asks_more : (q : Ask) (s : ActorState) → ReceptionMore (asks q s) (asks q (later s))
  unfolding asks
  asks_more q s = go s.todo
    where
      go : (l : List Exchange) → ReceptionMore (receives q s l) (receives q (later s) (l ++ ys))
      go [] = tt
      go (x ∷ l) = test (same_ask q x.ask)
        where
          test : (b : Bool) → ReceptionMore (if b then Replied x.reply (record s { todo = l }) else Unreplied (record s { wants = Some q })) (if b then Replied x.reply (record s { todo = l ++ ys }) else Unreplied (record (later s) { wants = Some q }))
          test true = refl
          test false = tt

  reading_more : {A : Type 0} (r : Reading A) (s : ActorState) → StepMore (read_as r s) (read_as r (later s))
  reading_more (Says a) s = refl
  reading_more SaysRetry s = refl
  reading_more SaysNothing s = tt

  heard_more : {A : Type 0} (reads : Reply → Reading A) (h k : Reception) → ReceptionMore h k → StepMore (heard reads h) (heard reads k)
  heard_more reads (Replied r s) k e = subst (λ u. StepMore (read_as (reads r) s) (heard reads u)) (sym e) (reading_more (reads r) s)
  heard_more reads (Unreplied s) k e = tt

  ask_more : {A : Type 0} (reads : Reply → Reading A) (q : Ask) (s : ActorState) → StepMore (heard reads (asks q s)) (heard reads (asks q (later s)))
  ask_more reads q s = heard_more reads (asks q s) (asks q (later s)) (asks_more q s)

  step_more : {A B : Type 0} (x y : StepResult A) (f g : A → ActorState → StepResult B) → StepMore x y → ((a : A) (s : ActorState) → StepMore (f a s) (g a (later s))) → StepMore (on_step x f) (on_step y g)
  step_more (Continue a s) y f g e k = subst (λ u. StepMore (f a s) (on_step u g)) (sym e) (k a s)
  step_more (Break x s) y f g e k = ap (λ u. on_step u g) e
  step_more (Redo s) y f g e k = ap (λ u. on_step u g) e
  step_more (Await s) y f g e k = tt
  step_more Malformed y f g e k = tt

  step_of_more : {A : Type 0} (r : Result A FaultKind) (span : Span) (s : ActorState) → StepMore (step_of r span s) (step_of r span (later s))
  step_of_more (Ok a) span s = refl
  step_of_more (Err k) span s = refl

  begin_more : (s : ActorState) → StepMore (begin s) (begin (later s))
  unfolding begin
  begin_more s = step_more (heard read_point (asks ask.Begin s)) (heard read_point (asks ask.Begin (later s))) begun begun (ask_more read_point ask.Begin s) (λ p s1. refl)

  fail_more : (s : ActorState) → StepMore (fail s) (fail (later s))
  unfolding fail
  fail_more s = ask_more just_done (ask.Fail s.at s.view) s

  own_more : (s : ActorState) (o : Option Value) (x y : StepResult Value) → StepMore x y → StepMore (buffered_or o s x) (buffered_or o (later s) y)
  own_more s (Some v) x y h = refl
  own_more s None x y h = h

  look_more : (c : CellId) (s : ActorState) → StepMore (look c s) (look c (later s))
  unfolding look
  look_more c s = own_more s (buffered s.done.values c.number) (heard value_there (asks (ask.Look c s.at) s)) (heard value_there (asks (ask.Look c s.at) (later s))) (ask_more value_there (ask.Look c s.at) s)

  viewed_more : (q : ℕ) (o : Option Writes) (s : ActorState) → StepMore (viewed q o s) (viewed q o (later s))
  viewed_more q None s = tt
  viewed_more q (Some ws) s = refl

  view_more : (s : ActorState) → StepMore (view s) (view (later s))
  unfolding view
  view_more s =
      let q = ask.View (commuted s.done) in
      let go : ℕ × List Value → ActorState → StepResult Writes = λ x s1. viewed x.0 (paired (commuted s.done) x.1) s1 in
      step_more (heard views (asks q s)) (heard views (asks q (later s))) go go (ask_more views q s) (λ x s1. viewed_more x.0 (paired (commuted s.done) x.1) s1)

  landed_more : (v : Verdict) (s : ActorState) → StepMore (landed v s) (landed v (later s))
  landed_more Landed s = refl
  landed_more Outdated s = refl
  landed_more Undone s = refl
  landed_more Denied s = refl

  commit_more : (ws : Writes) (s : ActorState) → StepMore (commit ws s) (commit ws (later s))
  unfolding commit
  commit_more ws s =
      let q = ask.Commit s.at (set_writes s.done) s.done.ensures s.view ws (sends_of_commit (held_in s.acting) s.done.sends) in
      step_more (heard commit_verdict (asks q s)) (heard commit_verdict (asks q (later s))) landed landed (ask_more commit_verdict q s) landed_more

  peek_more : (c : CellId) (s : ActorState) → StepMore (peek c s) (peek c (later s))
  unfolding peek
  peek_more c s = ask_more newest_value (ask.Peek c) s

  open_atom_more : (c : CellId) (s : ActorState) → StepMore (open_atom c s) (open_atom c (later s))
  unfolding open_atom
  open_atom_more c s = step_more (heard opened (asks (ask.OpenAt c) s)) (heard opened (asks (ask.OpenAt c) (later s))) _ _ (ask_more opened (ask.OpenAt c) s) (λ x s1. refl)

  close_swap_more : (w : SwapInHand) (v : Value) (s : ActorState) → StepMore (close_swap w v s) (close_swap w v (later s))
  unfolding close_swap
  close_swap_more w v s = ask_more swap_verdict (ask.CloseAt w.cell (Some w.at) v) s

  break_swap_more : (w : SwapInHand) (s : ActorState) → StepMore (break_swap w s) (break_swap w (later s))
  unfolding break_swap
  break_swap_more w s = ask_more just_done (ask.Broke w.cell w.at) s

  reset_more : (c : CellId) (v : Value) (s : ActorState) → StepMore (reset_atom c v s) (reset_atom c v (later s))
  unfolding reset_atom
  reset_more c v s = step_more (heard just_done (asks (ask.CloseAt c None v) s)) (heard just_done (asks (ask.CloseAt c None v) (later s))) _ _ (ask_more just_done (ask.CloseAt c None v) s) (λ u s1. refl)

  sent_more : (a : Action) (v : Verdict) (s : ActorState) → StepMore (sent a v s) (sent a v (later s))
  sent_more a Landed s = refl
  sent_more a Outdated s = tt
  sent_more a Undone s = tt
  sent_more a Denied s = refl

  send_now_more : (a : Action) (s : ActorState) → StepMore (send_now a s) (send_now a (later s))
  unfolding send_now
  send_now_more a s = step_more (heard send_verdict (asks (ask.Send a) s)) (heard send_verdict (asks (ask.Send a) (later s))) (sent a) (sent a) (ask_more send_verdict (ask.Send a) s) (sent_more a)

  take_more : (g : CellId) (s : ActorState) → StepMore (take_action g s) (take_action g (later s))
  unfolding take_action
  take_more g s = ask_more handed_out (ask.Take g) s

  finish_more : (g : CellId) (new : Result Value Fault) (sends : List Action) (s : ActorState) → StepMore (finish g new sends s) (finish g new sends (later s))
  unfolding finish
  finish_more g new sends s = ask_more taken_back (ask.Finish g new sends) s

  -- ---- forms

  cell_more : {B : Type 0} (f : CellForm) (inside : Bool) (span : Span) (v : Value) (s : ActorState) (go : CellId → ActorState → StepResult B) → ((c : CellId) (s1 : ActorState) → StepMore (go c s1) (go c (later s1)))
      → StepMore (on_step (cell_at f inside span v s) go) (on_step (cell_at f inside span v (later s)) go)
  cell_more f inside span v s go k = step_more (cell_at f inside span v s) (cell_at f inside span v (later s)) go go (step_of_more (cell_of (rule f) inside v) span s) k

  read_cell_more : (f : LookForm) (inside : Bool) (c : CellId) (s : ActorState) → StepMore (read_cell f inside c s) (read_cell f inside c (later s))
  read_cell_more Deref true c s = look_more c s
  read_cell_more Deref false c s = peek_more c s
  read_cell_more Ensure true c s = step_more (look c s) (look c (later s)) _ _ (look_more c s) (λ v s1. refl)
  read_cell_more Ensure false c s = tt

  read_more : (f : LookForm) (inside : Bool) (span : Span) (v : Value) (s : ActorState) → StepMore (read f inside span v s) (read f inside span v (later s))
  read_more f inside span v s = cell_more (form.Look f) inside span v s (read_cell f inside) (read_cell_more f inside)

  set_more : (span : Span) (v : Value) (c : CellId) (s : ActorState) → StepMore (set_own span v c s) (set_own span v c (later s))
  set_more span v c s = step_more (step_of (set_ref c v s.done) span s) (step_of (set_ref c v s.done) span (later s)) _ _ (step_of_more (set_ref c v s.done) span s) (λ w s1. refl)

  assign_cell_more : (f : PutForm) (inside : Bool) (span : Span) (v : Value) (c : CellId) (s : ActorState) → StepMore (assign_cell f inside span v c s) (assign_cell f inside span v c (later s))
  assign_cell_more RefSet true span v c s = set_more span v c s
  assign_cell_more RefSet false span v c s = tt
  assign_cell_more Reset false span v c s = reset_more c v s
  assign_cell_more Reset true span v c s = tt

  assign_more : (f : PutForm) (inside : Bool) (span : Span) (c v : Value) (s : ActorState) → StepMore (assign f inside span c v s) (assign f inside span c v (later s))
  assign_more f inside span c v s = cell_more (form.Put f) inside span c s (assign_cell f inside span v) (assign_cell_more f inside span v)

  open_update_more : (u : RefUpdate) (inside : Bool) (span : Span) (v : Value) (vs : List Value) (s : ActorState) → StepMore (open_update u inside span v vs s) (open_update u inside span v vs (later s))
  open_update_more u false span v vs s = tt
  open_update_more u true span v vs s =
      let open_look : CellId → ActorState → StepResult Value = λ c s1. on_step (look c s1) (λ x s2. Continue x (record s2 { commuting = kept_open u c vs })) in
      cell_more (form.Update (update_form u)) true span v s open_look (λ c s1. step_more (look c s1) (look c (later s1)) _ _ (look_more c s1) (λ x s2. refl))

  close_own_more : (o : Option Commute) (span : Span) (w : Value) (c : CellId) (s : ActorState) → StepMore (close_own o span w c s) (close_own o span w c (later s))
  close_own_more None span w c s = set_more span w c s
  close_own_more (Some o) span w c s = refl

  close_update_more : (span : Span) (v w : Value) (s : ActorState) → StepMore (close_update span v w s) (close_update span v w (later s))
  close_update_more span v w s = cell_more (form.Update update.Alter) true span v s (close_own s.commuting span w) (close_own_more s.commuting span w)

  open_swap_more : (inside : Bool) (span : Span) (v : Value) (s : ActorState) → StepMore (open_swap inside span v s) (open_swap inside span v (later s))
  open_swap_more true span v s = tt
  open_swap_more false span v s = cell_more (form.Update update.Swap) false span v s open_atom open_atom_more

  send_action_more : (inside : Bool) (a : Action) (s : ActorState) → StepMore (send_action inside a s) (send_action inside a (later s))
  send_action_more true a s = refl
  send_action_more false a s = or_hold s.acting
    where
      or_hold : (o : Option InHand) → StepMore (send_or_hold o a s) (send_or_hold o a (later s))
      or_hold None = send_now_more a s
      or_hold (Some h) = refl

  send_more : (inside : Bool) (span : Span) (v : Value) (callee : Callee) (vs : List Value) (s : ActorState) → StepMore (send_to inside span v callee vs s) (send_to inside span v callee vs (later s))
  send_more inside span v callee vs s =
      let action : CellId → Action = λ g. record { agent = g; callee = callee; args = vs; span = span } in
      cell_more form.Send inside span v s (λ g s1. send_action inside (action g) s1) (λ g s1. send_action_more inside (action g) s1)

  print_more : (inside : Bool) (vs : List Value) (s : ActorState) → StepMore (print inside vs s) (print inside vs (later s))
  unfolding print
  print_more true vs s = tt
  print_more false vs s = refl

  found_more : (o : Option Value) (s : ActorState) → StepMore (found o s) (found o (later s))
  found_more None s = tt
  found_more (Some v) s = refl

  -- ---- turns

  told_more : (x y : StepResult (Unit {0})) (a b : ActorState → Turned Configuration) → StepMore x y → ((s : ActorState) → More (a s) (b (later s))) → More (told x a) (told y b)
  told_more (Continue u s) y a b e k = subst (λ r. More (a s) (told r b)) (sym e) (k s)
  told_more (Break f s) y a b e k = tt
  told_more (Redo s) y a b e k = tt
  told_more (Await s) y a b e k = tt
  told_more Malformed y a b e k = tt

  over_more : (o : Option InHand) (f : Fault) (s : ActorState) → More (ends_with o f s) (ends_with o f (later s))
  over_more None f s = refl
  over_more (Some h) f s = told_more (finish h.agent (Err f) [] s) (finish h.agent (Err f) [] (later s)) _ _ (finish_more h.agent (Err f) [] s) (λ s1. refl)

  fails_more : (o : Option InHand) (f : Fault) (s : ActorState) → More (fails_with o f s) (fails_with o f (later s))
  fails_more None f s = refl
  fails_more (Some h) f s = refl

  raise_more : (doing : Activity) (f : Fault) (s : ActorState) → More (raise doing f s) (raise doing f (later s))
  raise_more Outside f s = over_more s.acting f s
  raise_more (Restarting left) f s = fails_more s.acting f s
  raise_more (Running left inner from) f s = told_more (fail s) (fail (later s)) _ _ (fail_more s) (λ s1. fails_more s1.acting f s1)
  raise_more (Applying left from work values) f s = told_more (fail s) (fail (later s)) _ _ (fail_more s) (λ s1. fails_more s1.acting f s1)
  raise_more (Swapping swap from) f s = told_more (break_swap swap s) (break_swap swap (later s)) _ _ (break_swap_more swap s) (λ s1. fails_more s1.acting f s1)

  tries_more : (left : ℕ) (from : Savepoint) (s : ActorState) (a b : ℕ → Configuration) → ((k : ℕ) → b k ≡ given ys (a k)) → More (try_more left from s a) (try_more left from (later s) b)
  tries_more zero from s a b k = fails_more s.acting (fault_at RetryLimit from.span) s
  tries_more (suc left) from s a b k = ap (λ c. Unfinished c) (k left)

  rerun_later : (left : ℕ) (from : Savepoint) (s : ActorState) → More (rerun left from s) (rerun left from (later s))
  rerun_later left from s = tries_more left from s _ _ (λ k. refl)

  retried_more : (doing : Activity) (s : ActorState) → More (retried doing s) (retried doing (later s))
  retried_more Outside s = tt
  retried_more (Restarting left) s = tt
  retried_more (Running left inner from) s = rerun_later left from s
  retried_more (Applying left from work values) s = tt
  retried_more (Swapping swap from) s = tt

  on_more : {A : Type 0} (doing : Activity) (x y : StepResult A) (a b : A → ActorState → Turned Configuration) → StepMore x y → ((v : A) (s : ActorState) → More (a v s) (b v (later s))) → More (on doing x a) (on doing y b)
  on_more doing (Continue v s) y a b e k = subst (λ u. More (a v s) (on doing u b)) (sym e) (k v s)
  on_more doing (Break f s) y a b e k = subst (λ u. More (raise doing f s) (on doing u b)) (sym e) (raise_more doing f s)
  on_more doing (Redo s) y a b e k = subst (λ u. More (retried doing s) (on doing u b)) (sym e) (retried_more doing s)
  on_more doing (Await s) y a b e k = tt
  on_more doing Malformed y a b e k = tt

  gives_more : (c : Configuration) (rest : List Value) (x y : StepResult Value) → StepMore x y → More (gives c rest x) (gives (given ys c) rest y)
  gives_more c rest x y e = on_more c.doing x y _ _ e (λ v s. refl)

  top_more : (stack : List Value) (a b : Value → List Value → Turned Configuration) → ((v : Value) (rest : List Value) → More (a v rest) (b v rest)) → More (on_top stack a) (on_top stack b)
  top_more [] a b k = tt
  top_more (v ∷ stack) a b k = k v stack

  args_more : (n : ℕ) (stack vs : List Value) (a b : List Value → List Value → Turned Configuration) → ((ws rest : List Value) → More (a ws rest) (b ws rest)) → More (on_args n stack vs a) (on_args n stack vs b)
  args_more zero stack vs a b k = k vs stack
  args_more (suc n) [] vs a b k = tt
  args_more (suc n) (v ∷ stack) vs a b k = args_more n stack (v ∷ vs) a b k

  args_of_more : (n : ℕ) (stack : List Value) (a b : List Value → Value → List Value → Turned Configuration) → ((ws : List Value) (v : Value) (rest : List Value) → More (a ws v rest) (b ws v rest)) → More (on_args_of n stack a) (on_args_of n stack b)
  args_of_more n stack a b k = args_more n stack [] _ _ (λ ws under. top_more under _ _ (k ws))

  two_more : (stack : List Value) (a b : Value → Value → List Value → Turned Configuration) → ((w v : Value) (rest : List Value) → More (a w v rest) (b w v rest)) → More (on_two stack a) (on_two stack b)
  two_more stack a b k = top_more stack _ _ (λ w under. top_more under _ _ (k w))

  starts_more : (left : ℕ) (span : Span) (c : Configuration) → More (starts left span c) (starts left span (given ys c))
  starts_more left span c = on_more c.doing (begin c.state) (begin (later c.state)) _ _ (begin_more c.state) (λ u s. refl)

  begins_more : (doing : Activity) (span : Span) (c : Configuration) → More (begins doing span c) (begins doing span (given ys c))
  begins_more Outside span c = starts_more reruns span c
  begins_more (Restarting left) span c = starts_more left span c
  begins_more (Running left inner from) span c = refl
  begins_more (Applying left from work values) span c = tt
  begins_more (Swapping swap from) span c = tt

  decided_more : (v : Verdict) (left : ℕ) (from : Savepoint) (c : Configuration) (s : ActorState) → More (decided v left from c s) (decided v left from (given ys c) (later s))
  decided_more Landed left from c s = refl
  decided_more Outdated left from c s = tries_more left from s _ _ (λ k. refl)
  decided_more Undone left from c s = rerun_later left from s
  decided_more Denied left from c s = fails_more s.acting (fault_at AgentFailed from.span) s

  lands_more : (left : ℕ) (from : Savepoint) (ws : Writes) (c : Configuration) → More (lands left from ws c) (lands left from ws (given ys c))
  lands_more left from ws c = on_more c.doing (commit ws c.state) (commit ws (later c.state)) _ _ (commit_more ws c.state) (λ v s. decided_more v left from c s)

  applies_more : (code : ThreadCode) (f : Callee) (left : ℕ) (from : Savepoint) (k : Commute) (work : List Task) (ws : Writes) (c : Configuration) → More (applies code f left from k work ws c) (applies code f left from k work ws (given ys c))
  applies_more code (callee.Core op) left from k work ws c = on_more c.doing _ _ _ _ (step_of_more (core op (arguments_of k ws)) from.span c.state) (λ v s. refl)
  applies_more code (callee.Function f) left from k work ws c = refl

  validates_more : (code : ThreadCode) (f : Callee) (v : Value) (span : Span) (c : Configuration) → More (validates code f v span c) (validates code f v span (given ys c))
  validates_more code (callee.Core op) v span c = on_more c.doing _ _ _ _ (step_of_more (core op (v ∷ [])) span c.state) (λ a s. refl)
  validates_more code (callee.Function f) v span c = refl

  accepted_more : (code : ThreadCode) (o : Option Bool) (f : Callee) (v : Value) (span : Span) (c : Configuration) (a b : Configuration → Turned Configuration)
      → ((c1 : Configuration) → More (a c1) (b (given ys c1))) → More (where_accepted code o f v span c a) (where_accepted code o f v span (given ys c) b)
  accepted_more code None f v span c a b k = validates_more code f v span c
  accepted_more code (Some true) f v span c a b k = k (record c { state = record c.state { accepted = None } })
  accepted_more code (Some false) f v span c a b k = raise_more c.doing (fault_at InvalidState span) (record c.state { accepted = None })

  valid_more : (code : ThreadCode) (o : Option Callee) (v : Value) (span : Span) (c : Configuration) (a b : Configuration → Turned Configuration)
      → ((c1 : Configuration) → More (a c1) (b (given ys c1))) → More (where_valid code o v span c a) (where_valid code o v span (given ys c) b)
  valid_more code None v span c a b k = k c
  valid_more code (Some f) v span c a b k = accepted_more code c.state.accepted f v span c a b k

  works_more : (code : ThreadCode) (left : ℕ) (from : Savepoint) (work : List Task) (ws : Writes) (c : Configuration) → More (works code left from work ws c) (works code left from work ws (given ys c))
  works_more code left from [] ws c = lands_more left from ws c
  works_more code left from (Redoes k ∷ work) ws c = applies_more code k.callee left from k work ws c
  works_more code left from (Validates r f ∷ work) ws c =
      let go : Configuration → Turned Configuration = λ c1. works code left from work ws (staying (Applying left from work ws) c1.state c1) in
      accepted_more code c.state.accepted f (to_write ws c.state.done r.number) from.span (staying (Applying left from (Validates r f ∷ work) ws) c.state c) go go (λ c1. works_more code left from work ws (staying (Applying left from work ws) c1.state c1))

  settles_more : (code : ThreadCode) (cs : List CellId) (left : ℕ) (from : Savepoint) (c : Configuration) → More (settles code cs left from c) (settles code cs left from (given ys c))
  settles_more code [] left from c = works_more code left from (tasks_of code.validators c.state.done) [] c
  settles_more code (d ∷ cs) left from c = on_more c.doing (view c.state) (view (later c.state)) _ _ (view_more c.state) (λ ws s. refl)

  ends_more : (code : ThreadCode) (doing : Activity) (c : Configuration) → More (ends code doing c) (ends code doing (given ys c))
  ends_more code Outside c = tt
  ends_more code (Restarting left) c = tt
  ends_more code (Running left (suc inner) from) c = refl
  ends_more code (Running left zero from) c = settles_more code (commuted c.state.done) left from c
  ends_more code (Applying left from work ws) c = works_more code left from work ws c
  ends_more code (Swapping swap from) c = tt

  returns_more : (frames : List Frame) (v : Value) (c : Configuration) → More (returns_to frames v c) (returns_to frames v (given ys c))
  returns_more [] v c = tt
  returns_more (f ∷ frames) v c =
      let back : ActorState → Turned Configuration = λ s. Unfinished (record { body = f.body; place = f.place; stack = stack_after f.awaits v f.stack; locals = f.locals; frames = frames; doing = doing_after f.awaits v c.doing; state = s }) in
      ap back (same f.awaits)
    where
      same : (d : Destination) → state_after d v (later c.state) ≡ later (state_after d v c.state)
      same to_stack = refl
      same to_commutes = refl
      same to_validation = refl

  opens_ref_more : (u : RefUpdate) (span : Span) (vs : List Value) (cell : Value) (rest : List Value) (c : Configuration) → More (opens_ref u span vs cell rest c) (opens_ref u span vs cell rest (given ys c))
  opens_ref_more u span vs cell rest c = on_more c.doing _ _ _ _ (open_update_more u (is_inside c.doing) span cell vs c.state) (λ v s. refl)

  opens_atom_more : (doing : Activity) (span : Span) (vs : List Value) (cell : Value) (rest : List Value) (c : Configuration) → More (opens_atom doing span vs cell rest c) (opens_atom doing span vs cell rest (given ys c))
  opens_atom_more Outside span vs cell rest c = on_more c.doing _ _ _ _ (open_swap_more false span cell c.state) (λ o s. refl)
  opens_atom_more (Restarting left) span vs cell rest c = tt
  opens_atom_more (Running left inner from) span vs cell rest c = tt
  opens_atom_more (Applying left from work values) span vs cell rest c = tt
  opens_atom_more (Swapping swap from) span vs cell rest c = tt

  opens_more : (form : OpenForm) (span : Span) (vs : List Value) (cell : Value) (rest : List Value) (c : Configuration) → More (opens form span vs cell rest c) (opens form span vs cell rest (given ys c))
  opens_more open_form.Alter span vs cell rest c = opens_ref_more Alters span vs cell rest c
  opens_more (open_form.Commute f) span vs cell rest c = opens_ref_more (Commutes f) span vs cell rest c
  opens_more (open_form.Swap f) span vs cell rest c = opens_atom_more c.doing span vs cell rest c

  swap_decided_more : (v : Verdict) (from : Savepoint) (w : Value) (rest : List Value) (c : Configuration) (s : ActorState) → More (swap_decided v from w rest c s) (swap_decided v from w rest (given ys c) (later s))
  swap_decided_more Landed from w rest c s = refl
  swap_decided_more Outdated from w rest c s = refl
  swap_decided_more Undone from w rest c s = tt
  swap_decided_more Denied from w rest c s = tt

  closes_swap_more : (code : ThreadCode) (doing : Activity) (w : Value) (rest : List Value) (c : Configuration) → More (closes_swap code doing w rest c) (closes_swap code doing w rest (given ys c))
  closes_swap_more code (Swapping swap from) w rest c =
      let go : Configuration → Turned Configuration = λ c1. on c1.doing (close_swap swap w c1.state) (λ verdict s. swap_decided verdict from w rest c1 s) in
      valid_more code (validator_at code.validators swap.cell.number) w from.span c go go (λ c1. on_more c1.doing _ _ _ _ (close_swap_more swap w c1.state) (λ v s. swap_decided_more v from w rest c1 s))
  closes_swap_more code Outside w rest c = tt
  closes_swap_more code (Restarting left) w rest c = tt
  closes_swap_more code (Running left inner from) w rest c = tt
  closes_swap_more code (Applying left from work values) w rest c = tt

  puts_more : (code : ThreadCode) (f : PutForm) (span : Span) (w cell : Value) (rest : List Value) (c : Configuration) → More (puts code f span w cell rest c) (puts code f span w cell rest (given ys c))
  puts_more code RefSet span w cell rest c = gives_more c rest _ _ (assign_more RefSet (is_inside c.doing) span cell w c.state)
  puts_more code Reset span w cell rest c =
      let go : CellId → Configuration → Turned Configuration = λ a c1. gives c1 rest (assign_cell Reset (is_inside c.doing) span w a c1.state) in
      on_more c.doing _ _ (λ a s. where_valid code (validator_at code.validators a.number) w span c (go a)) (λ a s. where_valid code (validator_at code.validators a.number) w span (given ys c) (go a))
      (step_of_more (cell_of (rule (form.Put Reset)) (is_inside c.doing) cell) span c.state)
      (λ a s. valid_more code (validator_at code.validators a.number) w span c (go a) (go a) (λ c1. gives_more c1 rest _ _ (assign_cell_more Reset (is_inside c.doing) span w a c1.state)))

  finishes_more : (code : ThreadCode) (g : CellId) (o : Option InHand) (v : Value) (c : Configuration) → More (finishes code g o v c) (finishes code g o v (given ys c))
  finishes_more code g None v c = tt
  finishes_more code g (Some h) v c =
      let go : Configuration → Turned Configuration = λ c1. told (finish g (Ok v) h.sends c1.state) (λ s. Unfinished (first_place [] (rested s))) in
      valid_more code (validator_at code.validators h.action.agent.number) v h.action.span c go go (λ c1. told_more _ _ _ _ (finish_more g (Ok v) h.sends c1.state) (λ s. refl))

  hands_in_more : (code : ThreadCode) (g : CellId) (o : Option InHand) (f : Option Fault) (c : Configuration) → More (hands_in code g o f c) (hands_in code g o f (given ys c))
  hands_in_more code g o (Some f) c = told_more _ _ _ _ (finish_more g (Err f) [] c.state) (λ s. refl)
  hands_in_more code g o None c = top_more c.stack _ _ (λ v rest. finishes_more code g o v c)

  closes_more : (code : ThreadCode) (form : UpdateForm) (span : Span) (w cell : Value) (rest : List Value) (c : Configuration) → More (closes code form span w cell rest c) (closes code form span w cell rest (given ys c))
  closes_more code update.Alter span w cell rest c = gives_more c rest _ _ (close_update_more span cell w c.state)
  closes_more code update.Commute span w cell rest c = gives_more c rest _ _ (close_update_more span cell w c.state)
  closes_more code update.Swap span w cell rest c = closes_swap_more code c.doing w rest c

  started_more : (g : CellId) (o : Option Taken) (c : Configuration) (s : ActorState) → More (started g o c s) (started g o (given ys c) (later s))
  started_more g None c s = refl
  started_more g (Some t) c s = refl

  runs_callee_more : (code : ThreadCode) (f : Callee) (a : Action) (v : Value) (rest : List Value) (c : Configuration) → More (runs_callee code f a v rest c) (runs_callee code f a v rest (given ys c))
  runs_callee_more code (callee.Core op) a v rest c = gives_more c rest _ _ (step_of_more (core op (v ∷ a.args)) a.span c.state)
  runs_callee_more code (callee.Function f) a v rest c = refl

  runs_more : (code : ThreadCode) (o : Option InHand) (v : Value) (rest : List Value) (c : Configuration) → More (runs code o v rest c) (runs code o v rest (given ys c))
  runs_more code None v rest c = tt
  runs_more code (Some h) v rest c = runs_callee_more code h.action.callee h.action v rest c

  pub act_more : (code : ThreadCode) (i : Option PlainInstr) (c : Configuration) → More (act code i c) (act code i (given ys c))
  act_more code None c = tt
  act_more code (Some (Push v)) c = refl
  act_more code (Some (Load i)) c = gives_more c c.stack _ _ (found_more (nth c.locals i) c.state)
  act_more code (Some (Store i)) c = top_more c.stack _ _ (λ v rest. refl)
  act_more code (Some Pop) c = top_more c.stack _ _ (λ v rest. refl)
  act_more code (Some (Jump to)) c = refl
  act_more code (Some (JumpFalse to)) c = top_more c.stack _ _ (λ v rest. refl)
  act_more code (Some (CoreOf op args span)) c = args_more args c.stack [] _ _ (λ vs rest. gives_more c rest _ _ (step_of_more (core op vs) span c.state))
  act_more code (Some (CallOf f args)) c = args_more args c.stack [] _ _ (λ vs rest. refl)
  act_more code (Some Return) c = top_more c.stack _ _ (λ v rest. returns_more c.frames v c)
  act_more code (Some (MakeVector items span)) c = args_more items c.stack [] _ _ (λ vs rest. gives_more c rest _ _ (step_of_more (vector_of vs) span c.state))
  act_more code (Some (PrintOf args)) c = args_more args c.stack [] _ _ (λ vs rest. gives_more c rest _ _ (print_more (is_inside c.doing) vs c.state))
  act_more code (Some (TxBegin span)) c = begins_more c.doing span c
  act_more code (Some TxEnd) c = ends_more code c.doing c
  act_more code (Some (LookOf form span)) c = top_more c.stack _ _ (λ cell rest. gives_more c rest _ _ (read_more form (is_inside c.doing) span cell c.state))
  act_more code (Some (PutOf form span)) c = two_more c.stack _ _ (λ w cell rest. puts_more code form span w cell rest c)
  act_more code (Some (OpenOf form args span)) c = args_of_more args c.stack _ _ (λ vs cell rest. opens_more form span vs cell rest c)
  act_more code (Some (CloseOf form span)) c = two_more c.stack _ _ (λ w cell rest. closes_more code form span w cell rest c)
  act_more code (Some (SendOf callee args span)) c = args_of_more args c.stack _ _ (λ vs cell rest. gives_more c rest _ _ (send_more (is_inside c.doing) span cell callee vs c.state))
  act_more code (Some Halt) c = refl
  act_more code (Some (TakeOf g)) c = on_more c.doing _ _ _ _ (take_more g c.state) (λ o s. started_more g o c s)
  act_more code (Some RunOf) c = top_more c.stack _ _ (λ v rest. runs_more code c.state.acting v rest c)
  act_more code (Some (FinishOf g)) c = hands_in_more code g c.state.acting (fault_in c.state.acting) c

  then_more : (t u : Turned Configuration) (f g : Configuration → Turned Configuration) → More t u → ((d : Configuration) → More (f d) (g (given ys d))) → More (and_then t f) (and_then u g)
  then_more (Ended s) u f g e k = ap (λ r. and_then r g) e
  then_more (Failed x s) u f g e k = ap (λ r. and_then r g) e
  then_more (Asking s) u f g e k = tt
  then_more (Unfinished d) u f g e k = subst (λ r. More (f d) (and_then r g)) (sym e) (k d)
  then_more Stuck u f g e k = tt

  pub run_later : (code : ThreadCode) (m : ℕ) (c : Configuration) → More (run code m c) (run code m (given ys c))
  run_later code zero c = refl
  run_later code (suc m) c = then_more (turn code c) (turn code (given ys c)) (run code m) (run code m) (act_more code (fetch code c.body c.place) c) (run_later code m)

-- turns that are unfinished are the same with more exchanges to come
pub more_to_come : (code : ThreadCode) (m : ℕ) (c d : Configuration) (ys : List Exchange) → run code m c ≡ Unfinished d → run code m (given ys c) ≡ Unfinished (given ys d)
more_to_come code m c d ys e = subst (λ o. More ys o (run code m (given ys c))) e (run_later ys code m c)
