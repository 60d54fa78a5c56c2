-- A try that has to run again is back where it began.
use Rattle.std.proofs.Common.{◌≡◌, ℕ, zero, suc, Bool, true, false, List, [], ◌∷◌, Option, Some, None, Result, Ok, Err, refl, sym, ap, ◌∙◌, subst, if◌then◌else◌}
use Rattle.txs_world_protocol.specs.Ask.{Writes, buffered, Exchange, same_ask}
use Rattle.txs_world_protocol.specs.declared.ask.Ask.{Ask}
use Rattle.txs_world_protocol.specs.declared.ask.Ask.TheVariants as ask
use Rattle.txs_world_protocol.specs.declared.ask.Reply.{Reply}
use Rattle.txs_frame.specs.Frame.{commuted, set_writes, set_ref, sends_of_commit}
use Rattle.txs_frame.specs.Phase.{tasks_of, to_write}
use Rattle.txs_frame.specs.declared.frame.Commute.{Commute}
use Rattle.txs_frame.specs.declared.phase.Task.{Task}
use Rattle.txs_frame.specs.declared.phase.Task.TheVariants.{Redoes, Validates}
use Rattle.txs_value_apply.specs.Core.{core, vector_of}
use Rattle.txs_value_cell.specs.Cells.{validator_at}
use Rattle.txs_value_cell.specs.Forms.{rule, cell_of}
use Rattle.txs_value_data.specs.Limits.{reruns}
use Rattle.txs_value_data.specs.Places.{nth, fault_at}
use Rattle.txs_value_cell.specs.declared.action.Action.{Action}
use Rattle.txs_value_data.specs.declared.fault.Fault.{Fault}
use Rattle.txs_value_data.specs.declared.fault.FaultKind.{FaultKind}
use Rattle.txs_value_data.specs.declared.fault.FaultKind.TheVariants.{InvalidState, RetryLimit, AgentFailed}
use Rattle.txs_value_data.specs.declared.fault.Span.{Span}
use Rattle.txs_value_cell.specs.declared.form.CellForm.{CellForm}
use Rattle.txs_value_cell.specs.declared.form.CellForm.TheVariants as form
use Rattle.txs_value_cell.specs.declared.form.LookForm.{LookForm}
use Rattle.txs_value_cell.specs.declared.form.LookForm.TheVariants.{Deref, Ensure}
use Rattle.txs_value_cell.specs.declared.form.PutForm.{PutForm}
use Rattle.txs_value_cell.specs.declared.form.PutForm.TheVariants.{RefSet, Reset}
use Rattle.txs_value_cell.specs.declared.form.UpdateForm.{UpdateForm}
use Rattle.txs_value_cell.specs.declared.form.UpdateForm.TheVariants as update
use Rattle.txs_value_data.specs.declared.op.Callee.{Callee}
use Rattle.txs_value_data.specs.declared.op.Callee.TheVariants as callee
use Rattle.txs_value_data.specs.declared.value.CellId.{CellId}
use Rattle.txs_value_data.specs.declared.value.Value.{Value}
use Rattle.txs_code_meaning.specs.declared.instr.OpenForm.{OpenForm}
use Rattle.txs_code_meaning.specs.declared.instr.OpenForm.TheVariants as open_form
use Rattle.txs_code_meaning.specs.ActorState.{ActorState, Reception, Replied, Unreplied, receives, asks, StepResult, Continue, Break, Redo, Await, Malformed, on_step, step_of, Reading, Says, SaysRetry, SaysNothing, read_as, heard, read_point, just_done, value_there, views, Verdict, Landed, Outdated, Undone, Denied, commit_verdict, begun, begin, fail, buffered_or, look, paired, viewed, view, commit, reset_atom, finish, cell_at, read_cell, read, set_own, assign_cell, assign, RefUpdate, Alters, Commutes, update_form, kept_open, open_update, close_own, close_update, send_action, send_to, print, InHand, held_in, landed}
use Rattle.txs_code_meaning.specs.Machine.{PlainInstr, Push, Load, Store, Pop, Jump, JumpFalse, CoreOf, CallOf, Return, MakeVector, PrintOf, TxBegin, TxEnd, LookOf, PutOf, OpenOf, CloseOf, SendOf, Halt, TakeOf, RunOf, FinishOf, ThreadCode, fetch, Frame, Savepoint, Activity, Outside, Restarting, Running, Applying, Swapping, is_inside, Configuration, Turned, Unfinished, told, raise, try_more, rerun, retried, on, found, on_top, on_args, on_args_of, on_two, gives, begins, decided, lands, settles, arguments_of, applies, ends, returns_to, opens_ref, opens_atom, opens, closes_swap, closes, runs_callee, runs, act, ends_with, fails_with, hands_in, fault_in, validates, where_accepted, where_valid, works, puts, finishes, Destination, to_stack, to_commutes, to_validation, stack_after, doing_after, applied, ahead, push_all, state_after, staying, first_place, rested}
use Rattle.txs_code_meaning.specs.Machine.{back_to, saved, called, answered, put}
use Rattle.txs_value_apply.specs.Truth.{choose}
use Rattle.std.specs.Prelude.{◌+◌}
use Rattle.txs_theorem_alike.specs.Actors.{none}
use Rattle.txs_theorem_alike.specs.Renaming.{wants_with}
use Rattle.txs_theorem_alike.specs.Beginnings.{at_start, undo_in, IsNoTake, IsOfTry, KeepsStart, TurnKeepsStart}

module _ (from : Savepoint) (s0 : ActorState) where
  abbrev want : Configuration
  want = back_to from Outside (at_start s0)

  abbrev Same : ActorState → Type 0
  Same t = (t.printed ≡ s0.printed) × (t.acting ≡ s0.acting) × (t.wants ≡ s0.wants)

  abbrev Keeps : Turned Configuration → Type 0
  Keeps o = KeepsStart want o

  -- a transaction with this savepoint is open
  abbrev Tries : Activity → Type 0
  Tries Outside = ⊥
  Tries (Restarting left) = ⊥
  Tries (Running left inner f) = f ≡ from
  Tries (Applying left f work values) = f ≡ from
  Tries (Swapping swap f) = ⊥

  abbrev starting : List ℕ → Option InHand → Option Ask → ActorState
  starting p a w = record (at_start s0) { printed = p; acting = a; wants = wants_with none w }

  same_start : (t : ActorState) → Same t → at_start t ≡ at_start s0
  same_start t h = ap (λ p. starting p t.acting t.wants) h.0 ∙ ap (λ a. starting s0.printed a t.wants) h.1 ∙ ap (λ w. starting s0.printed s0.acting w) h.2

  back_there : (f : Savepoint) (t : ActorState) → f ≡ from → Same t → back_to f Outside (at_start t) ≡ want
  back_there f t e h = ap (λ x. back_to x Outside (at_start t)) e ∙ ap (λ x. back_to from Outside x) (same_start t h)

  there : (D : Activity) (d : Configuration) → Tries D → Same d.state → undo_in D d ≡ want
  there Outside d t h = absurd t
  there (Restarting left) d t h = absurd t
  there (Running left inner f) d t h = back_there f d.state t h
  there (Applying left f work values) d t h = back_there f d.state t h
  there (Swapping swap f) d t h = absurd t

  inside_of : (D : Activity) → Tries D → true ≡ is_inside D
  inside_of Outside t = absurd t
  inside_of (Restarting left) t = absurd t
  inside_of (Running left inner f) t = refl
  inside_of (Applying left f work values) t = refl
  inside_of (Swapping swap f) t = absurd t

  -- ---- steps

  abbrev Received : Reception → Type 0
  Received (Replied r s) = Same s
  Received (Unreplied s) = Unit {0}

  abbrev Step : {A : Type 0} → StepResult A → Type 0
  Step (Continue a s) = Same s
  Step (Break f s) = Unit {0}
  Step (Redo s) = Same s
  Step (Await s) = Unit {0}
  Step Malformed = Unit {0}

  asks_keep : (q : Ask) (s : ActorState) → Same s → Received (asks q s)
  unfolding asks
  asks_keep q s h = go s.todo
    where
      go : (l : List Exchange) → Received (receives q s l)
      go [] = tt
      go (x ∷ l) = test (same_ask q x.ask)
        where
          test : (b : Bool) → Received (if b then Replied x.reply (record s { todo = l }) else Unreplied (record s { wants = Some q }))
          test true = h
          test false = tt

  reading_keeps : {A : Type 0} (r : Reading A) (s : ActorState) → Same s → Step (read_as r s)
  reading_keeps (Says a) s h = h
  reading_keeps SaysRetry s h = h
  reading_keeps SaysNothing s h = tt

  heard_keeps : {A : Type 0} (reads : Reply → Reading A) (r : Reception) → Received r → Step (heard reads r)
  heard_keeps reads (Replied r s) h = reading_keeps (reads r) s h
  heard_keeps reads (Unreplied s) h = tt

  ask_keeps : {A : Type 0} (reads : Reply → Reading A) (q : Ask) (s : ActorState) → Same s → Step (heard reads (asks q s))
  ask_keeps reads q s h = heard_keeps reads (asks q s) (asks_keep q s h)

  step_by : {A B : Type 0} (x : StepResult A) (f : A → ActorState → StepResult B) → Step x → ((a : A) (s : ActorState) → Same s → Step (f a s)) → Step (on_step x f)
  step_by (Continue a s) f h k = k a s h
  step_by (Break x s) f h k = tt
  step_by (Redo s) f h k = h
  step_by (Await s) f h k = tt
  step_by Malformed f h k = tt

  step_of_keeps : {A : Type 0} (r : Result A FaultKind) (span : Span) (s : ActorState) → Same s → Step (step_of r span s)
  step_of_keeps (Ok a) span s h = h
  step_of_keeps (Err k) span s h = tt

  begin_keeps : (s : ActorState) → Same s → Step (begin s)
  unfolding begin
  begin_keeps s h = step_by (heard read_point (asks ask.Begin s)) begun (ask_keeps read_point ask.Begin s h) (λ p s1 g. g)

  own_keeps : (s : ActorState) (o : Option Value) (x : StepResult Value) → Same s → Step x → Step (buffered_or o s x)
  own_keeps s (Some v) x h g = h
  own_keeps s None x h g = g

  look_keeps : (c : CellId) (s : ActorState) → Same s → Step (look c s)
  unfolding look
  look_keeps c s h = own_keeps s (buffered s.done.values c.number) (heard value_there (asks (ask.Look c s.at) s)) h (ask_keeps value_there (ask.Look c s.at) s h)

  viewed_keeps : (q : ℕ) (o : Option Writes) (s : ActorState) → Same s → Step (viewed q o s)
  viewed_keeps q None s h = tt
  viewed_keeps q (Some ws) s h = h

  view_keeps : (s : ActorState) → Same s → Step (view s)
  unfolding view
  view_keeps s h =
      step_by (heard views (asks (ask.View (commuted s.done)) s)) (λ x s1. viewed x.0 (paired (commuted s.done) x.1) s1) (ask_keeps views (ask.View (commuted s.done)) s h)
      (λ x s1 g. viewed_keeps x.0 (paired (commuted s.done) x.1) s1 g)

  -- of a commit that landed nothing is said
  abbrev Judged : StepResult Verdict → Type 0
  Judged (Continue Landed s) = Unit {0}
  Judged (Continue Outdated s) = Same s
  Judged (Continue Undone s) = Same s
  Judged (Continue Denied s) = Same s
  Judged (Break f s) = Unit {0}
  Judged (Redo s) = Same s
  Judged (Await s) = Unit {0}
  Judged Malformed = Unit {0}

  landed_judged : (x : StepResult Verdict) → Step x → Judged (on_step x landed)
  landed_judged (Continue Landed s) h = tt
  landed_judged (Continue Outdated s) h = h
  landed_judged (Continue Undone s) h = h
  landed_judged (Continue Denied s) h = h
  landed_judged (Break f s) h = tt
  landed_judged (Redo s) h = h
  landed_judged (Await s) h = tt
  landed_judged Malformed h = tt

  commit_judged : (ws : Writes) (s : ActorState) → Same s → Judged (commit ws s)
  unfolding commit
  commit_judged ws s h =
      let q = ask.Commit s.at (set_writes s.done) s.done.ensures s.view ws (sends_of_commit (held_in s.acting) s.done.sends) in
      landed_judged (heard commit_verdict (asks q s)) (ask_keeps commit_verdict q s h)

  reset_keeps : (c : CellId) (v : Value) (s : ActorState) → Same s → Step (reset_atom c v s)
  unfolding reset_atom
  reset_keeps c v s h = step_by (heard just_done (asks (ask.CloseAt c None v) s)) _ (ask_keeps just_done (ask.CloseAt c None v) s h) (λ u s1 g. g)

  -- ---- forms in a transaction

  cell_keeps : {B : Type 0} (f : CellForm) (inside : Bool) (span : Span) (v : Value) (s : ActorState) (go : CellId → ActorState → StepResult B) → Same s → ((c : CellId) (s1 : ActorState) → Same s1 → Step (go c s1))
      → Step (on_step (cell_at f inside span v s) go)
  cell_keeps f inside span v s go h k = step_by (cell_at f inside span v s) go (step_of_keeps (cell_of (rule f) inside v) span s h) k

  read_cell_keeps : (f : LookForm) (c : CellId) (s : ActorState) → Same s → Step (read_cell f true c s)
  read_cell_keeps Deref c s h = look_keeps c s h
  read_cell_keeps Ensure c s h = step_by (look c s) _ (look_keeps c s h) (λ v s1 g. g)

  read_keeps : (f : LookForm) (span : Span) (v : Value) (s : ActorState) → Same s → Step (read f true span v s)
  read_keeps f span v s h = cell_keeps (form.Look f) true span v s (read_cell f true) h (read_cell_keeps f)

  set_keeps : (span : Span) (v : Value) (c : CellId) (s : ActorState) → Same s → Step (set_own span v c s)
  set_keeps span v c s h = step_by (step_of (set_ref c v s.done) span s) _ (step_of_keeps (set_ref c v s.done) span s h) (λ w s1 g. g)

  assign_cell_keeps : (f : PutForm) (span : Span) (v : Value) (c : CellId) (s : ActorState) → Same s → Step (assign_cell f true span v c s)
  assign_cell_keeps RefSet span v c s h = set_keeps span v c s h
  assign_cell_keeps Reset span v c s h = tt

  assign_keeps : (f : PutForm) (span : Span) (c v : Value) (s : ActorState) → Same s → Step (assign f true span c v s)
  assign_keeps f span c v s h = cell_keeps (form.Put f) true span c s (assign_cell f true span v) h (assign_cell_keeps f span v)

  open_update_keeps : (u : RefUpdate) (span : Span) (v : Value) (vs : List Value) (s : ActorState) → Same s → Step (open_update u true span v vs s)
  open_update_keeps u span v vs s h =
      let open_look : CellId → ActorState → StepResult Value = λ c s1. on_step (look c s1) (λ x s2. Continue x (record s2 { commuting = kept_open u c vs })) in
      cell_keeps (form.Update (update_form u)) true span v s open_look h (λ c s1 g. step_by (look c s1) _ (look_keeps c s1 g) (λ x s2 i. i))

  close_own_keeps : (o : Option Commute) (span : Span) (w : Value) (c : CellId) (s : ActorState) → Same s → Step (close_own o span w c s)
  close_own_keeps None span w c s h = set_keeps span w c s h
  close_own_keeps (Some o) span w c s h = h

  close_update_keeps : (span : Span) (v w : Value) (s : ActorState) → Same s → Step (close_update span v w s)
  close_update_keeps span v w s h = cell_keeps (form.Update update.Alter) true span v s (close_own s.commuting span w) h (close_own_keeps s.commuting span w)

  send_keeps : (span : Span) (v : Value) (callee : Callee) (vs : List Value) (s : ActorState) → Same s → Step (send_to true span v callee vs s)
  send_keeps span v callee vs s h =
      let action : CellId → Action = λ g. record { agent = g; callee = callee; args = vs; span = span } in
      cell_keeps form.Send true span v s (λ g s1. send_action true (action g) s1) h (λ g s1 i. i)

  print_keeps : (vs : List Value) (s : ActorState) → Step (print true vs s)
  unfolding print
  print_keeps vs s = tt

  found_keeps : (o : Option Value) (s : ActorState) → Same s → Step (found o s)
  found_keeps None s h = tt
  found_keeps (Some v) s h = h

  -- ---- turns

  told_keeps : (x : StepResult (Unit {0})) (a : ActorState → Turned Configuration) → ((s : ActorState) → Keeps (a s)) → Keeps (told x a)
  told_keeps (Continue u s) a k = k s
  told_keeps (Break f s) a k = tt
  told_keeps (Redo s) a k = tt
  told_keeps (Await s) a k = tt
  told_keeps Malformed a k = tt

  fails_keep : (o : Option InHand) (f : Fault) (s : ActorState) → Keeps (fails_with o f s)
  fails_keep None f s = tt
  fails_keep (Some h) f s = λ z. absurd z

  raise_keeps : (D : Activity) (f : Fault) (s : ActorState) → Tries D → Keeps (raise D f s)
  raise_keeps Outside f s t = absurd t
  raise_keeps (Restarting left) f s t = absurd t
  raise_keeps (Running left inner g) f s t = told_keeps (fail s) _ (λ s1. fails_keep s1.acting f s1)
  raise_keeps (Applying left g work values) f s t = told_keeps (fail s) _ (λ s1. fails_keep s1.acting f s1)
  raise_keeps (Swapping swap g) f s t = absurd t

  tries_keep : (left : ℕ) (f : Savepoint) (s : ActorState) (a : ℕ → Configuration) → ((k : ℕ) → Keeps (Unfinished (a k))) → Keeps (try_more left f s a)
  tries_keep zero f s a k = fails_keep s.acting (fault_at RetryLimit f.span) s
  tries_keep (suc left) f s a k = k left

  rerun_keeps : (left : ℕ) (f : Savepoint) (s : ActorState) → f ≡ from → Same s → Keeps (rerun left f s)
  rerun_keeps left f s e h = tries_keep left f s _ (λ k z. back_there f s e h)

  retried_keeps : (D : Activity) (s : ActorState) → Tries D → Same s → Keeps (retried D s)
  retried_keeps Outside s t h = absurd t
  retried_keeps (Restarting left) s t h = absurd t
  retried_keeps (Running left inner f) s t h = rerun_keeps left f s t h
  retried_keeps (Applying left f work values) s t h = tt
  retried_keeps (Swapping swap f) s t h = absurd t

  on_by : {A : Type 0} (D : Activity) (x : StepResult A) (a : A → ActorState → Turned Configuration) → Tries D → Step x → ((v : A) (s : ActorState) → Same s → Keeps (a v s)) → Keeps (on D x a)
  on_by D (Continue v s) a t h k = k v s h
  on_by D (Break f s) a t h k = raise_keeps D f s t
  on_by D (Redo s) a t h k = retried_keeps D s t h
  on_by D (Await s) a t h k = tt
  on_by D Malformed a t h k = tt

  gives_keeps : (c : Configuration) (rest : List Value) (x : StepResult Value) → Tries c.doing → Step x → Keeps (gives c rest x)
  gives_keeps c rest x t h = on_by c.doing x _ t h (λ v s g z. there c.doing (ahead (v ∷ rest) s c) t g)

  -- a form in a transaction
  gives_inside : (c : Configuration) (rest : List Value) (x : Bool → StepResult Value) → Tries c.doing → Step (x true) → Keeps (gives c rest (x (is_inside c.doing)))
  gives_inside c rest x t h = subst (λ b. Keeps (gives c rest (x b))) (inside_of c.doing t) (gives_keeps c rest (x true) t h)

  top_keeps : (stack : List Value) (a : Value → List Value → Turned Configuration) → ((v : Value) (rest : List Value) → Keeps (a v rest)) → Keeps (on_top stack a)
  top_keeps [] a k = tt
  top_keeps (v ∷ stack) a k = k v stack

  args_keep : (n : ℕ) (stack vs : List Value) (a : List Value → List Value → Turned Configuration) → ((ws rest : List Value) → Keeps (a ws rest)) → Keeps (on_args n stack vs a)
  args_keep zero stack vs a k = k vs stack
  args_keep (suc n) [] vs a k = tt
  args_keep (suc n) (v ∷ stack) vs a k = args_keep n stack (v ∷ vs) a k

  args_of_keep : (n : ℕ) (stack : List Value) (a : List Value → Value → List Value → Turned Configuration) → ((ws : List Value) (v : Value) (rest : List Value) → Keeps (a ws v rest)) → Keeps (on_args_of n stack a)
  args_of_keep n stack a k = args_keep n stack [] _ (λ ws under. top_keeps under _ (k ws))

  two_keep : (stack : List Value) (a : Value → Value → List Value → Turned Configuration) → ((w v : Value) (rest : List Value) → Keeps (a w v rest)) → Keeps (on_two stack a)
  two_keep stack a k = top_keeps stack _ (λ w under. top_keeps under _ (k w))

  decided_keeps : (v : Verdict) (left : ℕ) (f : Savepoint) (c : Configuration) (s : ActorState) → f ≡ from → Judged (Continue v s) → Keeps (decided v left f c s)
  decided_keeps Landed left f c s e h = λ z. absurd z
  decided_keeps Outdated left f c s e h = tries_keep left f s _ (λ k z. back_there f s e h)
  decided_keeps Undone left f c s e h = rerun_keeps left f s e h
  decided_keeps Denied left f c s e h = fails_keep s.acting (fault_at AgentFailed f.span) s

  judged_keeps : (D : Activity) (x : StepResult Verdict) (left : ℕ) (f : Savepoint) (c : Configuration) → Tries D → f ≡ from → Judged x → Keeps (on D x (λ verdict s. decided verdict left f c s))
  judged_keeps D (Continue Landed s) left f c t e h = decided_keeps Landed left f c s e h
  judged_keeps D (Continue Outdated s) left f c t e h = decided_keeps Outdated left f c s e h
  judged_keeps D (Continue Undone s) left f c t e h = decided_keeps Undone left f c s e h
  judged_keeps D (Continue Denied s) left f c t e h = decided_keeps Denied left f c s e h
  judged_keeps D (Break f2 s) left f c t e h = raise_keeps D f2 s t
  judged_keeps D (Redo s) left f c t e h = retried_keeps D s t h
  judged_keeps D (Await s) left f c t e h = tt
  judged_keeps D Malformed left f c t e h = tt

  lands_keeps : (left : ℕ) (f : Savepoint) (ws : Writes) (c : Configuration) → Tries c.doing → f ≡ from → Same c.state → Keeps (lands left f ws c)
  lands_keeps left f ws c t e h = judged_keeps c.doing (commit ws c.state) left f c t e (commit_judged ws c.state h)

  applies_keep : (code : ThreadCode) (g : Callee) (left : ℕ) (f : Savepoint) (k : Commute) (work : List Task) (ws : Writes) (c : Configuration) → Tries c.doing → f ≡ from → Same c.state → Keeps (applies code g left f k work ws c)
  applies_keep code (callee.Core op) left f k work ws c t e h = on_by c.doing _ _ t (step_of_keeps (core op (arguments_of k ws)) f.span c.state h) (λ v s g z. back_there f s e g)
  applies_keep code (callee.Function g) left f k work ws c t e h = λ z. there c.doing (called code g (arguments_of k ws) to_commutes c.place c.stack c) t h

  validates_keeps : (code : ThreadCode) (f : Callee) (v : Value) (span : Span) (c : Configuration) → Tries c.doing → Same c.state → Keeps (validates code f v span c)
  validates_keeps code (callee.Core op) v span c t h = on_by c.doing _ _ t (step_of_keeps (core op (v ∷ [])) span c.state h) (λ a s g z. there c.doing (record c { state = answered a s }) t g)
  validates_keeps code (callee.Function f) v span c t h = λ z. there c.doing (called code f (v ∷ []) to_validation c.place c.stack c) t h

  abbrev clear : Configuration → Configuration
  clear c = record c { state = record c.state { accepted = None } }

  accepted_keeps : (code : ThreadCode) (o : Option Bool) (f : Callee) (v : Value) (span : Span) (c : Configuration) (a : Configuration → Turned Configuration) → Tries c.doing → Same c.state → Keeps (a (clear c)) → Keeps (where_accepted code o f v span c a)
  accepted_keeps code None f v span c a t h k = validates_keeps code f v span c t h
  accepted_keeps code (Some true) f v span c a t h k = k
  accepted_keeps code (Some false) f v span c a t h k = raise_keeps c.doing (fault_at InvalidState span) (record c.state { accepted = None }) t

  valid_keeps : (code : ThreadCode) (o : Option Callee) (v : Value) (span : Span) (c : Configuration) (a : Configuration → Turned Configuration) → Tries c.doing → Same c.state → Keeps (a c) → Keeps (a (clear c)) → Keeps (where_valid code o v span c a)
  valid_keeps code None v span c a t h k l = k
  valid_keeps code (Some f) v span c a t h k l = accepted_keeps code c.state.accepted f v span c a t h l

  works_keep : (code : ThreadCode) (left : ℕ) (f : Savepoint) (work : List Task) (ws : Writes) (c : Configuration) → Tries c.doing → f ≡ from → Same c.state → Keeps (works code left f work ws c)
  works_keep code left f [] ws c t e h = lands_keeps left f ws c t e h
  works_keep code left f (Redoes k ∷ work) ws c t e h = applies_keep code k.callee left f k work ws c t e h
  works_keep code left f (Validates r g ∷ work) ws c t e h =
      let go : Configuration → Turned Configuration = λ c1. works code left f work ws (staying (Applying left f work ws) c1.state c1) in
      let here = staying (Applying left f (Validates r g ∷ work) ws) c.state c in
      accepted_keeps code c.state.accepted g (to_write ws c.state.done r.number) f.span here go e h (works_keep code left f work ws (staying (Applying left f work ws) (clear here).state (clear here)) e e h)

  settles_keep : (code : ThreadCode) (cs : List CellId) (left : ℕ) (f : Savepoint) (c : Configuration) → Tries c.doing → f ≡ from → Same c.state → Keeps (settles code cs left f c)
  settles_keep code [] left f c t e h = works_keep code left f (tasks_of code.validators c.state.done) [] c t e h
  settles_keep code (d ∷ cs) left f c t e h = on_by c.doing (view c.state) _ t (view_keeps c.state h) (λ ws s g z. back_there f s e g)

  ends_keep : (code : ThreadCode) (D : Activity) (c : Configuration) → Tries D → Tries c.doing → Same c.state → Keeps (ends code D c)
  ends_keep code Outside c i t h = absurd i
  ends_keep code (Restarting left) c i t h = absurd i
  ends_keep code (Running left (suc inner) f) c i t h = λ z. back_there f c.state i h
  ends_keep code (Running left zero f) c i t h = settles_keep code (commuted c.state.done) left f c t i h
  ends_keep code (Applying left f work ws) c i t h = works_keep code left f work ws c t i h
  ends_keep code (Swapping swap f) c i t h = absurd i

  applied_tries : (v : Value) (D : Activity) → Tries D → Tries (applied v D)
  applied_tries v Outside t = absurd t
  applied_tries v (Restarting left) t = absurd t
  applied_tries v (Running left inner f) t = t
  applied_tries v (Applying left f [] values) t = t
  applied_tries v (Applying left f (Redoes k ∷ work) values) t = t
  applied_tries v (Applying left f (Validates r g ∷ work) values) t = t
  applied_tries v (Swapping swap f) t = absurd t

  after_tries : (d : Destination) (v : Value) (D : Activity) → Tries D → Tries (doing_after d v D)
  after_tries to_stack v D t = t
  after_tries to_commutes v D t = applied_tries v D t
  after_tries to_validation v D t = t

  after_same : (d : Destination) (v : Value) (s : ActorState) → Same s → Same (state_after d v s)
  after_same to_stack v s h = h
  after_same to_commutes v s h = h
  after_same to_validation v s h = h

  returns_keep : (frames : List Frame) (v : Value) (c : Configuration) → Tries c.doing → Same c.state → Keeps (returns_to frames v c)
  returns_keep [] v c t h = tt
  returns_keep (f ∷ frames) v c t h = λ z. there (doing_after f.awaits v c.doing)
      (record { body = f.body; place = f.place; stack = stack_after f.awaits v f.stack; locals = f.locals; frames = frames; doing = doing_after f.awaits v c.doing; state = state_after f.awaits v c.state })
      (after_tries f.awaits v c.doing t) (after_same f.awaits v c.state h)

  opens_ref_keeps : (u : RefUpdate) (span : Span) (vs : List Value) (cell : Value) (rest : List Value) (c : Configuration) → Tries c.doing → Same c.state → Keeps (opens_ref u span vs cell rest c)
  opens_ref_keeps u span vs cell rest c t h =
      subst (λ b. Keeps (on c.doing (open_update u b span cell vs c.state) (λ v s. Unfinished (ahead (push_all vs (v ∷ cell ∷ rest)) s c)))) (inside_of c.doing t)
      (on_by c.doing (open_update u true span cell vs c.state) _ t (open_update_keeps u span cell vs c.state h) (λ v s g z. there c.doing (ahead (push_all vs (v ∷ cell ∷ rest)) s c) t g))

  opens_atom_keeps : (D : Activity) (span : Span) (vs : List Value) (cell : Value) (rest : List Value) (c : Configuration) → Tries D → Keeps (opens_atom D span vs cell rest c)
  opens_atom_keeps Outside span vs cell rest c t = absurd t
  opens_atom_keeps (Restarting left) span vs cell rest c t = tt
  opens_atom_keeps (Running left inner f) span vs cell rest c t = tt
  opens_atom_keeps (Applying left f work values) span vs cell rest c t = tt
  opens_atom_keeps (Swapping swap f) span vs cell rest c t = tt

  opens_keeps : (g : OpenForm) (span : Span) (vs : List Value) (cell : Value) (rest : List Value) (c : Configuration) → Tries c.doing → Same c.state → Keeps (opens g span vs cell rest c)
  opens_keeps open_form.Alter span vs cell rest c t h = opens_ref_keeps Alters span vs cell rest c t h
  opens_keeps (open_form.Commute f) span vs cell rest c t h = opens_ref_keeps (Commutes f) span vs cell rest c t h
  opens_keeps (open_form.Swap f) span vs cell rest c t h = opens_atom_keeps c.doing span vs cell rest c t

  closes_swap_keeps : (code : ThreadCode) (D : Activity) (w : Value) (rest : List Value) (c : Configuration) → Tries D → Keeps (closes_swap code D w rest c)
  closes_swap_keeps code (Swapping swap f) w rest c t = absurd t
  closes_swap_keeps code Outside w rest c t = tt
  closes_swap_keeps code (Restarting left) w rest c t = tt
  closes_swap_keeps code (Running left inner f) w rest c t = tt
  closes_swap_keeps code (Applying left f work values) w rest c t = tt

  closes_keeps : (code : ThreadCode) (g : UpdateForm) (span : Span) (w cell : Value) (rest : List Value) (c : Configuration) → Tries c.doing → Same c.state → Keeps (closes code g span w cell rest c)
  closes_keeps code update.Alter span w cell rest c t h = gives_keeps c rest _ t (close_update_keeps span cell w c.state h)
  closes_keeps code update.Commute span w cell rest c t h = gives_keeps c rest _ t (close_update_keeps span cell w c.state h)
  closes_keeps code update.Swap span w cell rest c t h = closes_swap_keeps code c.doing w rest c t

  puts_keep : (code : ThreadCode) (f : PutForm) (span : Span) (w cell : Value) (rest : List Value) (c : Configuration) → Tries c.doing → Same c.state → Keeps (puts code f span w cell rest c)
  puts_keep code RefSet span w cell rest c t h = gives_inside c rest (λ b. assign RefSet b span cell w c.state) t (assign_keeps RefSet span cell w c.state h)
  puts_keep code Reset span w cell rest c t h =
      on_by c.doing _ _ t (step_of_keeps (cell_of (rule (form.Put Reset)) (is_inside c.doing) cell) span c.state h)
      (λ a s g. valid_keeps code (validator_at code.validators a.number) w span c _ t h
      (gives_inside c rest (λ b. assign_cell Reset b span w a c.state) t tt) (gives_inside (clear c) rest (λ b. assign_cell Reset b span w a (clear c).state) t tt))

  finishes_keep : (code : ThreadCode) (g : CellId) (o : Option InHand) (v : Value) (c : Configuration) → Tries c.doing → Same c.state → Keeps (finishes code g o v c)
  finishes_keep code g None v c t h = tt
  finishes_keep code g (Some i) v c t h =
      valid_keeps code (validator_at code.validators i.action.agent.number) v i.action.span c _ t h
      (told_keeps (finish g (Ok v) i.sends c.state) _ (λ s z. absurd z)) (told_keeps (finish g (Ok v) i.sends (clear c).state) _ (λ s z. absurd z))

  hands_in_keeps : (code : ThreadCode) (g : CellId) (o : Option InHand) (f : Option Fault) (c : Configuration) → Tries c.doing → Same c.state → Keeps (hands_in code g o f c)
  hands_in_keeps code g o (Some f) c t h = told_keeps (finish g (Err f) [] c.state) _ (λ s z. absurd z)
  hands_in_keeps code g o None c t h = top_keeps c.stack _ (λ v rest. finishes_keep code g o v c t h)

  runs_callee_keeps : (code : ThreadCode) (f : Callee) (a : Action) (v : Value) (rest : List Value) (c : Configuration) → Tries c.doing → Same c.state → Keeps (runs_callee code f a v rest c)
  runs_callee_keeps code (callee.Core op) a v rest c t h = gives_keeps c rest _ t (step_of_keeps (core op (v ∷ a.args)) a.span c.state h)
  runs_callee_keeps code (callee.Function f) a v rest c t h = λ z. there c.doing (called code f (v ∷ a.args) to_stack (c.place + 1) rest c) t h

  runs_keep : (code : ThreadCode) (o : Option InHand) (v : Value) (rest : List Value) (c : Configuration) → Tries c.doing → Same c.state → Keeps (runs code o v rest c)
  runs_keep code None v rest c t h = tt
  runs_keep code (Some i) v rest c t h = runs_callee_keeps code i.action.callee i.action v rest c t h

  begins_keep : (D : Activity) (span : Span) (c : Configuration) → Tries D → Same c.state → Keeps (begins D span c)
  begins_keep Outside span c t h = absurd t
  begins_keep (Restarting left) span c t h = absurd t
  begins_keep (Running left inner f) span c t h = λ z. back_there f c.state t h
  begins_keep (Applying left f work values) span c t h = tt
  begins_keep (Swapping swap f) span c t h = absurd t

  pub act_keeps : (code : ThreadCode) (i : Option PlainInstr) (c : Configuration) → IsNoTake i → Tries c.doing → Same c.state → Keeps (act code i c)
  act_keeps code None c n t h = tt
  act_keeps code (Some (Push v)) c n t h = λ z. there c.doing (ahead (v ∷ c.stack) c.state c) t h
  act_keeps code (Some (Load i)) c n t h = gives_keeps c c.stack _ t (found_keeps (nth c.locals i) c.state h)
  act_keeps code (Some (Store i)) c n t h = top_keeps c.stack _ (λ v rest z. there c.doing (record (ahead rest c.state c) { locals = put c.locals i v }) t h)
  act_keeps code (Some Pop) c n t h = top_keeps c.stack _ (λ v rest z. there c.doing (ahead rest c.state c) t h)
  act_keeps code (Some (Jump to)) c n t h = λ z. there c.doing (record c { place = to }) t h
  act_keeps code (Some (JumpFalse to)) c n t h = top_keeps c.stack _ (λ v rest z. there c.doing (record c { place = choose v (c.place + 1) to; stack = rest }) t h)
  act_keeps code (Some (CoreOf op args span)) c n t h = args_keep args c.stack [] _ (λ vs rest. gives_keeps c rest _ t (step_of_keeps (core op vs) span c.state h))
  act_keeps code (Some (CallOf f args)) c n t h = args_keep args c.stack [] _ (λ vs rest z. there c.doing (called code f vs to_stack (c.place + 1) rest c) t h)
  act_keeps code (Some Return) c n t h = top_keeps c.stack _ (λ v rest. returns_keep c.frames v c t h)
  act_keeps code (Some (MakeVector items span)) c n t h = args_keep items c.stack [] _ (λ vs rest. gives_keeps c rest _ t (step_of_keeps (vector_of vs) span c.state h))
  act_keeps code (Some (PrintOf args)) c n t h = args_keep args c.stack [] _ (λ vs rest. gives_inside c rest (λ b. print b vs c.state) t (print_keeps vs c.state))
  act_keeps code (Some (TxBegin span)) c n t h = begins_keep c.doing span c t h
  act_keeps code (Some TxEnd) c n t h = ends_keep code c.doing c t t h
  act_keeps code (Some (LookOf f span)) c n t h = top_keeps c.stack _ (λ cell rest. gives_inside c rest (λ b. read f b span cell c.state) t (read_keeps f span cell c.state h))
  act_keeps code (Some (PutOf f span)) c n t h = two_keep c.stack _ (λ w cell rest. puts_keep code f span w cell rest c t h)
  act_keeps code (Some (OpenOf f args span)) c n t h = args_of_keep args c.stack _ (λ vs cell rest. opens_keeps f span vs cell rest c t h)
  act_keeps code (Some (CloseOf f span)) c n t h = two_keep c.stack _ (λ w cell rest. closes_keeps code f span w cell rest c t h)
  act_keeps code (Some (SendOf f args span)) c n t h = args_of_keep args c.stack _ (λ vs cell rest. gives_inside c rest (λ b. send_to b span cell f vs c.state) t (send_keeps span cell f vs c.state h))
  act_keeps code (Some Halt) c n t h = tt
  act_keeps code (Some (TakeOf g)) c n t h = absurd n
  act_keeps code (Some RunOf) c n t h = top_keeps c.stack _ (λ v rest. runs_keep code c.state.acting v rest c t h)
  act_keeps code (Some (FinishOf g)) c n t h = hands_in_keeps code g c.state.acting (fault_in c.state.acting) c t h

-- ---- a transaction that begins

-- nothing of a transaction is open
abbrev IsNone : Activity → Type 0
IsNone Outside = Unit {0}
IsNone (Restarting left) = Unit {0}
IsNone (Running left inner from) = ⊥
IsNone (Applying left from work values) = ⊥
IsNone (Swapping swap from) = ⊥

module _ (start : Configuration) where
  over_starts : (o : Option InHand) (f : Fault) (s : ActorState) → KeepsStart start (ends_with o f s)
  over_starts None f s = tt
  over_starts (Some h) f s = handed (finish h.agent (Err f) [] s)
    where
      handed : (x : StepResult (Unit {0})) → KeepsStart start (told x (λ s1. Unfinished (first_place [] (rested s1))))
      handed (Continue u s) = λ z. absurd z
      handed (Break g s) = tt
      handed (Redo s) = tt
      handed (Await s) = tt
      handed Malformed = tt

  fails_start : (o : Option InHand) (f : Fault) (s : ActorState) → KeepsStart start (fails_with o f s)
  fails_start None f s = tt
  fails_start (Some h) f s = λ z. absurd z

  raise_starts : (D : Activity) (f : Fault) (s : ActorState) → IsNone D → KeepsStart start (raise D f s)
  raise_starts Outside f s n = over_starts s.acting f s
  raise_starts (Restarting left) f s n = fails_start s.acting f s
  raise_starts (Running left inner from) f s n = absurd n
  raise_starts (Applying left from work values) f s n = absurd n
  raise_starts (Swapping swap from) f s n = absurd n

  retried_starts : (D : Activity) (s : ActorState) → IsNone D → KeepsStart start (retried D s)
  retried_starts Outside s n = tt
  retried_starts (Restarting left) s n = tt
  retried_starts (Running left inner from) s n = absurd n
  retried_starts (Applying left from work values) s n = absurd n
  retried_starts (Swapping swap from) s n = absurd n

starts_keep : (D : Activity) (left : ℕ) (span : Span) (c : Configuration) (x : StepResult (Unit {0})) → IsNone D → Step (saved span c) c.state x
    → KeepsStart (back_to (saved span c) Outside (at_start c.state)) (on D x (λ u s. Unfinished (record (ahead c.stack s c) { doing = Running left 0 (saved span c) })))
starts_keep D left span c (Continue u s) n h = λ z. back_there (saved span c) c.state (saved span c) s refl h
starts_keep D left span c (Break f s) n h = raise_starts (back_to (saved span c) Outside (at_start c.state)) D f s n
starts_keep D left span c (Redo s) n h = retried_starts (back_to (saved span c) Outside (at_start c.state)) D s n
starts_keep D left span c (Await s) n h = tt
starts_keep D left span c Malformed n h = tt

-- where this is going on
abbrev while : Activity → Configuration → Configuration
while D c = record c { doing = D }

of_doing : (code : ThreadCode) (i : Option PlainInstr) (D : Activity) (c : Configuration) → IsOfTry i D → KeepsStart (undo_in D (while D c)) (act code i (while D c))
of_doing code i Outside c h = subst (λ j. KeepsStart (undo_in Outside (while Outside c)) (act code j (while Outside c))) (sym h.1)
    (starts_keep Outside reruns h.0 (while Outside c) (begin c.state) tt (begin_keeps (saved h.0 (while Outside c)) c.state c.state (refl, refl, refl)))
of_doing code i (Restarting left) c h = subst (λ j. KeepsStart (undo_in (Restarting left) (while (Restarting left) c)) (act code j (while (Restarting left) c))) (sym h.1)
    (starts_keep (Restarting left) left h.0 (while (Restarting left) c) (begin c.state) tt (begin_keeps (saved h.0 (while (Restarting left) c)) c.state c.state (refl, refl, refl)))
of_doing code i (Running left inner from) c h = act_keeps from c.state code i (while (Running left inner from) c) h refl (refl, refl, refl)
of_doing code i (Applying left from work values) c h = act_keeps from c.state code i (while (Applying left from work values) c) h refl (refl, refl, refl)
of_doing code i (Swapping swap from) c h = absurd h

pub turn_keeps_start : TurnKeepsStart
turn_keeps_start code c h = of_doing code (fetch code c.body c.place) c.doing c h
