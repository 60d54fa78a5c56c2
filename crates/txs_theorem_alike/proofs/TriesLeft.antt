-- While a transaction may run again, it doesn't count how many times.
use Rattle.std.proofs.Common.{◌≡◌, ℕ, zero, suc, Bool, true, false, List, [], ◌∷◌, Option, Some, None, Ok, refl, sym, ap}
use Rattle.txs_world_protocol.specs.Ask.{Writes}
use Rattle.txs_frame.specs.Frame.{commuted}
use Rattle.txs_frame.specs.Phase.{tasks_of, to_write}
use Rattle.txs_frame.specs.declared.frame.Commute.{Commute}
use Rattle.txs_frame.specs.declared.phase.Task.{Task}
use Rattle.txs_frame.specs.declared.phase.Task.TheVariants.{Redoes, Validates}
use Rattle.txs_value_apply.specs.Core.{core, vector_of}
use Rattle.txs_value_cell.specs.Cells.{validator_at}
use Rattle.txs_value_data.specs.Limits.{reruns}
use Rattle.txs_value_data.specs.Places.{nth, fault_at}
use Rattle.txs_value_cell.specs.declared.action.Action.{Action}
use Rattle.txs_value_data.specs.declared.fault.Fault.{Fault}
use Rattle.txs_value_data.specs.declared.fault.FaultKind.TheVariants.{InvalidState, AgentFailed}
use Rattle.txs_value_data.specs.declared.fault.Span.{Span}
use Rattle.txs_value_cell.specs.declared.form.CellForm.TheVariants as form
use Rattle.txs_value_cell.specs.declared.form.PutForm.{PutForm}
use Rattle.txs_value_cell.specs.declared.form.PutForm.TheVariants.{RefSet, Reset}
use Rattle.txs_value_cell.specs.declared.form.UpdateForm.{UpdateForm}
use Rattle.txs_value_cell.specs.declared.form.UpdateForm.TheVariants as update
use Rattle.txs_value_data.specs.declared.op.Callee.{Callee}
use Rattle.txs_value_data.specs.declared.op.Callee.TheVariants as callee
use Rattle.txs_value_data.specs.declared.value.CellId.{CellId}
use Rattle.txs_value_data.specs.declared.value.Value.{Value}
use Rattle.txs_code_meaning.specs.declared.instr.OpenForm.{OpenForm}
use Rattle.txs_code_meaning.specs.declared.instr.OpenForm.TheVariants as open_form
use Rattle.txs_code_meaning.specs.ActorState.{ActorState, StepResult, Continue, Break, Redo, Await, Malformed, step_of, Verdict, Landed, Outdated, Undone, Denied, Taken, begin, fail, view, commit, close_swap, take_action, finish, cell_at, read, assign_cell, assign, RefUpdate, Alters, Commutes, open_update, close_update, open_swap, send_to, print, InHand}
use Rattle.txs_code_meaning.specs.Machine.{back_to, PlainInstr, Push, Load, Store, Pop, Jump, JumpFalse, CoreOf, CallOf, Return, MakeVector, PrintOf, TxBegin, TxEnd, LookOf, PutOf, OpenOf, CloseOf, SendOf, Halt, TakeOf, RunOf, FinishOf, ThreadCode, fetch, Frame, Savepoint, Activity, Outside, Restarting, Running, Applying, Swapping, is_inside, Configuration, Turned, Ended, Failed, Asking, Unfinished, Stuck, told, raise, try_more, rerun, retried, on, found, on_top, on_args, on_args_of, on_two, gives, starts, begins, decided, lands, settles, arguments_of, applies, ends, returns_to, opens_ref, opens_atom, opens, swap_decided, closes_swap, closes, started, runs_callee, runs, act, fails_with, hands_in, fault_in, validates, where_accepted, where_valid, works, puts, finishes, Destination, to_stack, to_commutes, to_validation, stack_after, doing_after, applied, ahead, push_all, state_after, staying, first_place, rested}
use Rattle.txs_theorem_alike.specs.TriesLeft.{tries_with, with_tries, IsLeft, HasTry, TriesAs, TriesDontCount}

-- how many times a transaction may run again
abbrev left_of : Activity → ℕ
left_of Outside = 0
left_of (Restarting left) = left
left_of (Running left inner from) = left
left_of (Applying left from work values) = left
left_of (Swapping swap from) = 0

tries_self : (doing : Activity) → tries_with (left_of doing) doing ≡ doing
tries_self Outside = refl
tries_self (Restarting left) = refl
tries_self (Running left inner from) = refl
tries_self (Applying left from work values) = refl
tries_self (Swapping swap from) = refl

-- what is the same is so
itself : (t : Turned Configuration) → TriesAs t t
itself (Ended s) = refl
itself (Failed f s) = refl
itself (Asking s) = refl
itself (Unfinished d) = (left_of d.doing, ap (λ a. Unfinished (record d { doing = a })) (sym (tries_self d.doing)))
itself Stuck = refl

module _ (n : ℕ) where
  abbrev more : Configuration → Configuration
  more c = with_tries (suc n) c

  abbrev going : Activity → Activity
  going d = tries_with (suc n) d

  inside_by : (P : Bool → Type 0) (doing : Activity) → P (is_inside doing) → P (is_inside (going doing))
  inside_by P Outside h = h
  inside_by P (Restarting left) h = h
  inside_by P (Running left inner from) h = h
  inside_by P (Applying left from work values) h = h
  inside_by P (Swapping swap from) h = h

  told_as : (x : StepResult (Unit {0})) (a b : ActorState → Turned Configuration) → ((s : ActorState) → TriesAs (a s) (b s)) → TriesAs (told x a) (told x b)
  told_as (Continue u s) a b k = k s
  told_as (Break f s) a b k = refl
  told_as (Redo s) a b k = refl
  told_as (Await s) a b k = refl
  told_as Malformed a b k = refl

  raise_as : (doing : Activity) (f : Fault) (s : ActorState) → TriesAs (raise doing f s) (raise (going doing) f s)
  raise_as Outside f s = itself (raise Outside f s)
  raise_as (Restarting left) f s = itself (fails_with s.acting f s)
  raise_as (Running left inner from) f s = itself (told (fail s) (λ s1. fails_with s1.acting f s1))
  raise_as (Applying left from work values) f s = itself (told (fail s) (λ s1. fails_with s1.acting f s1))
  raise_as (Swapping swap from) f s = itself (raise (Swapping swap from) f s)

  try_as : (left : ℕ) → IsLeft left → (from : Savepoint) (s : ActorState) (a b : ℕ → Configuration) → ((j : ℕ) → TriesAs (Unfinished (a j)) (Unfinished (b n))) → TriesAs (try_more left from s a) (try_more (suc n) from s b)
  try_as zero h from s a b k = absurd h
  try_as (suc left) h from s a b k = k left

  rerun_as : (left : ℕ) → IsLeft left → (from : Savepoint) (s : ActorState) → TriesAs (rerun left from s) (rerun (suc n) from s)
  rerun_as left h from s = let again : ℕ → Configuration = λ k. back_to from (Restarting k) s in try_as left h from s again again (λ j. (n, refl))

  retried_as : (doing : Activity) → HasTry doing → (s : ActorState) → TriesAs (retried doing s) (retried (going doing) s)
  retried_as Outside h s = refl
  retried_as (Restarting left) h s = refl
  retried_as (Running left inner from) h s = rerun_as left h from s
  retried_as (Applying left from work values) h s = refl
  retried_as (Swapping swap from) h s = refl

  on_as : {A : Type 0} (doing : Activity) → HasTry doing → (x : StepResult A) (a b : A → ActorState → Turned Configuration) → ((v : A) (s : ActorState) → TriesAs (a v s) (b v s)) → TriesAs (on doing x a) (on (going doing) x b)
  on_as doing h (Continue v s) a b k = k v s
  on_as doing h (Break f s) a b k = raise_as doing f s
  on_as doing h (Redo s) a b k = retried_as doing h s
  on_as doing h (Await s) a b k = refl
  on_as doing h Malformed a b k = refl

  gives_as : (c : Configuration) → HasTry c.doing → (rest : List Value) (x : StepResult Value) → TriesAs (gives c rest x) (gives (more c) rest x)
  gives_as c h rest x = on_as c.doing h x _ _ (λ v s. (suc n, refl))

  -- a step that asks whether it is inside a transaction
  gives_in : (c : Configuration) → HasTry c.doing → (rest : List Value) (x : Bool → StepResult Value) → TriesAs (gives c rest (x (is_inside c.doing))) (gives (more c) rest (x (is_inside (going c.doing))))
  gives_in c h rest x = inside_by (λ b. TriesAs (gives c rest (x (is_inside c.doing))) (gives (more c) rest (x b))) c.doing (gives_as c h rest (x (is_inside c.doing)))

  top_as : (stack : List Value) (a b : Value → List Value → Turned Configuration) → ((v : Value) (rest : List Value) → TriesAs (a v rest) (b v rest)) → TriesAs (on_top stack a) (on_top stack b)
  top_as [] a b k = refl
  top_as (v ∷ stack) a b k = k v stack

  args_as : (m : ℕ) (stack vs : List Value) (a b : List Value → List Value → Turned Configuration) → ((ws rest : List Value) → TriesAs (a ws rest) (b ws rest)) → TriesAs (on_args m stack vs a) (on_args m stack vs b)
  args_as zero stack vs a b k = k vs stack
  args_as (suc m) [] vs a b k = refl
  args_as (suc m) (v ∷ stack) vs a b k = args_as m stack (v ∷ vs) a b k

  args_of_as : (m : ℕ) (stack : List Value) (a b : List Value → Value → List Value → Turned Configuration) → ((ws : List Value) (v : Value) (rest : List Value) → TriesAs (a ws v rest) (b ws v rest)) → TriesAs (on_args_of m stack a) (on_args_of m stack b)
  args_of_as m stack a b k = args_as m stack [] _ _ (λ ws under. top_as under _ _ (k ws))

  two_as : (stack : List Value) (a b : Value → Value → List Value → Turned Configuration) → ((w v : Value) (rest : List Value) → TriesAs (a w v rest) (b w v rest)) → TriesAs (on_two stack a) (on_two stack b)
  two_as stack a b k = top_as stack _ _ (λ w under. top_as under _ _ (k w))

  starts_as : (left i : ℕ) (span : Span) (c : Configuration) → HasTry c.doing → TriesAs (starts left span c) (starts i span (more c))
  starts_as left i span c h = on_as c.doing h (begin c.state) _ _ (λ u s. (i, refl))

  begins_as : (doing : Activity) (span : Span) (c : Configuration) → HasTry c.doing → TriesAs (begins doing span c) (begins (going doing) span (more c))
  begins_as Outside span c h = starts_as reruns reruns span c h
  begins_as (Restarting left) span c h = starts_as left (suc n) span c h
  begins_as (Running left inner from) span c h = (suc n, refl)
  begins_as (Applying left from work values) span c h = refl
  begins_as (Swapping swap from) span c h = refl

  decided_as : (v : Verdict) (left : ℕ) → IsLeft left → (from : Savepoint) (c : Configuration) (s : ActorState) → TriesAs (decided v left from c s) (decided v (suc n) from (more c) s)
  decided_as Landed left h from c s = (n, refl)
  decided_as Outdated left h from c s = try_as left h from s (λ k. staying (Running k 0 from) s c) (λ k. staying (Running k 0 from) s (more c)) (λ j. (n, refl))
  decided_as Undone left h from c s = rerun_as left h from s
  decided_as Denied left h from c s = itself (fails_with s.acting (fault_at AgentFailed from.span) s)

  lands_as : (left : ℕ) → IsLeft left → (from : Savepoint) (ws : Writes) (c : Configuration) → HasTry c.doing → TriesAs (lands left from ws c) (lands (suc n) from ws (more c))
  lands_as left l from ws c h = on_as c.doing h (commit ws c.state) _ _ (λ v s. decided_as v left l from c s)

  applies_as : (code : ThreadCode) (f : Callee) (left : ℕ) (from : Savepoint) (k : Commute) (work : List Task) (ws : Writes) (c : Configuration) → HasTry c.doing → TriesAs (applies code f left from k work ws c) (applies code f (suc n) from k work ws (more c))
  applies_as code (callee.Core op) left from k work ws c h = on_as c.doing h (step_of (core op (arguments_of k ws)) from.span c.state) _ _ (λ v s. (suc n, refl))
  applies_as code (callee.Function f) left from k work ws c h = (suc n, refl)

  validates_as : (code : ThreadCode) (f : Callee) (v : Value) (span : Span) (c : Configuration) → HasTry c.doing → TriesAs (validates code f v span c) (validates code f v span (more c))
  validates_as code (callee.Core op) v span c h = on_as c.doing h (step_of (core op (v ∷ [])) span c.state) _ _ (λ a s. (suc n, refl))
  validates_as code (callee.Function f) v span c h = (suc n, refl)

  accepted_as : (code : ThreadCode) (o : Option Bool) (f : Callee) (v : Value) (span : Span) (c : Configuration) → HasTry c.doing → (a b : Configuration → Turned Configuration)
      → ((c1 : Configuration) → HasTry c1.doing → TriesAs (a c1) (b (more c1))) → TriesAs (where_accepted code o f v span c a) (where_accepted code o f v span (more c) b)
  accepted_as code None f v span c h a b k = validates_as code f v span c h
  accepted_as code (Some true) f v span c h a b k = k (record c { state = record c.state { accepted = None } }) h
  accepted_as code (Some false) f v span c h a b k = raise_as c.doing (fault_at InvalidState span) (record c.state { accepted = None })

  valid_as : (code : ThreadCode) (o : Option Callee) (v : Value) (span : Span) (c : Configuration) → HasTry c.doing → (a b : Configuration → Turned Configuration)
      → ((c1 : Configuration) → HasTry c1.doing → TriesAs (a c1) (b (more c1))) → TriesAs (where_valid code o v span c a) (where_valid code o v span (more c) b)
  valid_as code None v span c h a b k = k c h
  valid_as code (Some f) v span c h a b k = accepted_as code c.state.accepted f v span c h a b k

  works_as : (code : ThreadCode) (left : ℕ) → IsLeft left → (from : Savepoint) (work : List Task) (ws : Writes) (c : Configuration) → HasTry c.doing → TriesAs (works code left from work ws c) (works code (suc n) from work ws (more c))
  works_as code left l from [] ws c h = lands_as left l from ws c h
  works_as code left l from (Redoes k ∷ work) ws c h = applies_as code k.callee left from k work ws c h
  works_as code left l from (Validates r f ∷ work) ws c h =
      let go : ℕ → Configuration → Turned Configuration = λ i c1. works code i from work ws (staying (Applying i from work ws) c1.state c1) in
      accepted_as code c.state.accepted f (to_write ws c.state.done r.number) from.span (staying (Applying left from (Validates r f ∷ work) ws) c.state c) l (go left) (go (suc n)) (λ c1 h1. works_as code left l from work ws (staying (Applying left from work ws) c1.state c1) l)

  settles_as : (code : ThreadCode) (cs : List CellId) (left : ℕ) → IsLeft left → (from : Savepoint) (c : Configuration) → HasTry c.doing → TriesAs (settles code cs left from c) (settles code cs (suc n) from (more c))
  settles_as code [] left l from c h = works_as code left l from (tasks_of code.validators c.state.done) [] c h
  settles_as code (d ∷ cs) left l from c h = on_as c.doing h (view c.state) _ _ (λ ws s. (suc n, refl))

  ends_as : (code : ThreadCode) (doing : Activity) → HasTry doing → (c : Configuration) → HasTry c.doing → TriesAs (ends code doing c) (ends code (going doing) (more c))
  ends_as code Outside l c h = refl
  ends_as code (Restarting left) l c h = refl
  ends_as code (Running left (suc inner) from) l c h = (suc n, refl)
  ends_as code (Running left zero from) l c h = settles_as code (commuted c.state.done) left l from c h
  ends_as code (Applying left from work ws) l c h = works_as code left l from work ws c h
  ends_as code (Swapping swap from) l c h = refl

  applied_as : (v : Value) (doing : Activity) → applied v (going doing) ≡ going (applied v doing)
  applied_as v Outside = refl
  applied_as v (Restarting left) = refl
  applied_as v (Running left inner from) = refl
  applied_as v (Applying left from [] values) = refl
  applied_as v (Applying left from (Redoes k ∷ work) values) = refl
  applied_as v (Applying left from (Validates r f ∷ work) values) = refl
  applied_as v (Swapping swap from) = refl

  returns_as : (frames : List Frame) (v : Value) (c : Configuration) → TriesAs (returns_to frames v c) (returns_to frames v (more c))
  returns_as [] v c = refl
  returns_as (f ∷ frames) v c =
      let back : Activity → Turned Configuration = λ d. Unfinished (record { body = f.body; place = f.place; stack = stack_after f.awaits v f.stack; locals = f.locals; frames = frames; doing = d; state = state_after f.awaits v c.state }) in
      (suc n, ap back (same_doing f.awaits))
    where
      same_doing : (d : Destination) → doing_after d v (going c.doing) ≡ going (doing_after d v c.doing)
      same_doing to_stack = refl
      same_doing to_commutes = applied_as v c.doing
      same_doing to_validation = refl

  opens_ref_as : (u : RefUpdate) (span : Span) (vs : List Value) (cell : Value) (rest : List Value) (c : Configuration) → HasTry c.doing → TriesAs (opens_ref u span vs cell rest c) (opens_ref u span vs cell rest (more c))
  opens_ref_as u span vs cell rest c h =
      inside_by (λ b. TriesAs (opens_ref u span vs cell rest c) (on (going c.doing) (open_update u b span cell vs c.state) (λ v s. Unfinished (ahead (push_all vs (v ∷ cell ∷ rest)) s (more c))))) c.doing
      (on_as c.doing h (open_update u (is_inside c.doing) span cell vs c.state) _ _ (λ v s. (suc n, refl)))

  opens_atom_as : (doing : Activity) (span : Span) (vs : List Value) (cell : Value) (rest : List Value) (c : Configuration) → HasTry c.doing → TriesAs (opens_atom doing span vs cell rest c) (opens_atom (going doing) span vs cell rest (more c))
  opens_atom_as Outside span vs cell rest c h = on_as c.doing h (open_swap false span cell c.state) _ _ (λ o s. (n, refl))
  opens_atom_as (Restarting left) span vs cell rest c h = refl
  opens_atom_as (Running left inner from) span vs cell rest c h = refl
  opens_atom_as (Applying left from work values) span vs cell rest c h = refl
  opens_atom_as (Swapping swap from) span vs cell rest c h = refl

  opens_as : (form : OpenForm) (span : Span) (vs : List Value) (cell : Value) (rest : List Value) (c : Configuration) → HasTry c.doing → TriesAs (opens form span vs cell rest c) (opens form span vs cell rest (more c))
  opens_as open_form.Alter span vs cell rest c h = opens_ref_as Alters span vs cell rest c h
  opens_as (open_form.Commute f) span vs cell rest c h = opens_ref_as (Commutes f) span vs cell rest c h
  opens_as (open_form.Swap f) span vs cell rest c h = opens_atom_as c.doing span vs cell rest c h

  swap_decided_as : (v : Verdict) (from : Savepoint) (w : Value) (rest : List Value) (c : Configuration) (s : ActorState) → TriesAs (swap_decided v from w rest c s) (swap_decided v from w rest (more c) s)
  swap_decided_as Landed from w rest c s = (n, refl)
  swap_decided_as Outdated from w rest c s = (n, refl)
  swap_decided_as Undone from w rest c s = refl
  swap_decided_as Denied from w rest c s = refl

  closes_swap_as : (code : ThreadCode) (doing : Activity) (w : Value) (rest : List Value) (c : Configuration) → HasTry c.doing → TriesAs (closes_swap code doing w rest c) (closes_swap code (going doing) w rest (more c))
  closes_swap_as code (Swapping swap from) w rest c h =
      let go : Configuration → Turned Configuration = λ c1. on c1.doing (close_swap swap w c1.state) (λ verdict s. swap_decided verdict from w rest c1 s) in
      valid_as code (validator_at code.validators swap.cell.number) w from.span c h go go (λ c1 h1. on_as c1.doing h1 (close_swap swap w c1.state) _ _ (λ v s. swap_decided_as v from w rest c1 s))
  closes_swap_as code Outside w rest c h = refl
  closes_swap_as code (Restarting left) w rest c h = refl
  closes_swap_as code (Running left inner from) w rest c h = refl
  closes_swap_as code (Applying left from work values) w rest c h = refl

  puts_as : (code : ThreadCode) (f : PutForm) (span : Span) (w cell : Value) (rest : List Value) (c : Configuration) → HasTry c.doing → TriesAs (puts code f span w cell rest c) (puts code f span w cell rest (more c))
  puts_as code RefSet span w cell rest c h = gives_in c h rest (λ b. assign RefSet b span cell w c.state)
  puts_as code Reset span w cell rest c h =
      let go : Bool → CellId → Configuration → Turned Configuration = λ b a c1. gives c1 rest (assign_cell Reset b span w a c1.state) in
      inside_by (λ b. TriesAs (puts code Reset span w cell rest c) (on (going c.doing) (cell_at (form.Put Reset) b span cell c.state) (λ a s. where_valid code (validator_at code.validators a.number) w span (more c) (go b a)))) c.doing
      (on_as c.doing h (cell_at (form.Put Reset) (is_inside c.doing) span cell c.state) (λ a s. where_valid code (validator_at code.validators a.number) w span c (go (is_inside c.doing) a)) (λ a s. where_valid code (validator_at code.validators a.number) w span (more c) (go (is_inside c.doing) a))
      (λ a s. valid_as code (validator_at code.validators a.number) w span c h (go (is_inside c.doing) a) (go (is_inside c.doing) a) (λ c1 h1. gives_as c1 h1 rest (assign_cell Reset (is_inside c.doing) span w a c1.state))))

  finishes_as : (code : ThreadCode) (g : CellId) (o : Option InHand) (v : Value) (c : Configuration) → HasTry c.doing → TriesAs (finishes code g o v c) (finishes code g o v (more c))
  finishes_as code g None v c h = refl
  finishes_as code g (Some x) v c h =
      let go : Configuration → Turned Configuration = λ c1. told (finish g (Ok v) x.sends c1.state) (λ s. Unfinished (first_place [] (rested s))) in
      valid_as code (validator_at code.validators x.action.agent.number) v x.action.span c h go go (λ c1 h1. itself (go c1))

  hands_in_as : (code : ThreadCode) (g : CellId) (o : Option InHand) (f : Option Fault) (c : Configuration) → HasTry c.doing → TriesAs (hands_in code g o f c) (hands_in code g o f (more c))
  hands_in_as code g o (Some f) c h = itself (hands_in code g o (Some f) c)
  hands_in_as code g o None c h = top_as c.stack _ _ (λ v rest. finishes_as code g o v c h)

  closes_as : (code : ThreadCode) (form : UpdateForm) (span : Span) (w cell : Value) (rest : List Value) (c : Configuration) → HasTry c.doing → TriesAs (closes code form span w cell rest c) (closes code form span w cell rest (more c))
  closes_as code update.Alter span w cell rest c h = gives_as c h rest (close_update span cell w c.state)
  closes_as code update.Commute span w cell rest c h = gives_as c h rest (close_update span cell w c.state)
  closes_as code update.Swap span w cell rest c h = closes_swap_as code c.doing w rest c h

  started_as : (g : CellId) (o : Option Taken) (c : Configuration) (s : ActorState) → TriesAs (started g o c s) (started g o (more c) s)
  started_as g None c s = (suc n, refl)
  started_as g (Some t) c s = (suc n, refl)

  runs_callee_as : (code : ThreadCode) (f : Callee) (a : Action) (v : Value) (rest : List Value) (c : Configuration) → HasTry c.doing → TriesAs (runs_callee code f a v rest c) (runs_callee code f a v rest (more c))
  runs_callee_as code (callee.Core op) a v rest c h = gives_as c h rest (step_of (core op (v ∷ a.args)) a.span c.state)
  runs_callee_as code (callee.Function f) a v rest c h = (suc n, refl)

  runs_as : (code : ThreadCode) (o : Option InHand) (v : Value) (rest : List Value) (c : Configuration) → HasTry c.doing → TriesAs (runs code o v rest c) (runs code o v rest (more c))
  runs_as code None v rest c h = refl
  runs_as code (Some x) v rest c h = runs_callee_as code x.action.callee x.action v rest c h

  pub act_as : (code : ThreadCode) (i : Option PlainInstr) (c : Configuration) → HasTry c.doing → TriesAs (act code i c) (act code i (more c))
  act_as code None c h = refl
  act_as code (Some (Push v)) c h = (suc n, refl)
  act_as code (Some (Load i)) c h = gives_as c h c.stack (found (nth c.locals i) c.state)
  act_as code (Some (Store i)) c h = top_as c.stack _ _ (λ v rest. (suc n, refl))
  act_as code (Some Pop) c h = top_as c.stack _ _ (λ v rest. (suc n, refl))
  act_as code (Some (Jump to)) c h = (suc n, refl)
  act_as code (Some (JumpFalse to)) c h = top_as c.stack _ _ (λ v rest. (suc n, refl))
  act_as code (Some (CoreOf op args span)) c h = args_as args c.stack [] _ _ (λ vs rest. gives_as c h rest (step_of (core op vs) span c.state))
  act_as code (Some (CallOf f args)) c h = args_as args c.stack [] _ _ (λ vs rest. (suc n, refl))
  act_as code (Some Return) c h = top_as c.stack _ _ (λ v rest. returns_as c.frames v c)
  act_as code (Some (MakeVector items span)) c h = args_as items c.stack [] _ _ (λ vs rest. gives_as c h rest (step_of (vector_of vs) span c.state))
  act_as code (Some (PrintOf args)) c h = args_as args c.stack [] _ _ (λ vs rest. gives_in c h rest (λ b. print b vs c.state))
  act_as code (Some (TxBegin span)) c h = begins_as c.doing span c h
  act_as code (Some TxEnd) c h = ends_as code c.doing h c h
  act_as code (Some (LookOf form span)) c h = top_as c.stack _ _ (λ cell rest. gives_in c h rest (λ b. read form b span cell c.state))
  act_as code (Some (PutOf form span)) c h = two_as c.stack _ _ (λ w cell rest. puts_as code form span w cell rest c h)
  act_as code (Some (OpenOf form args span)) c h = args_of_as args c.stack _ _ (λ vs cell rest. opens_as form span vs cell rest c h)
  act_as code (Some (CloseOf form span)) c h = two_as c.stack _ _ (λ w cell rest. closes_as code form span w cell rest c h)
  act_as code (Some (SendOf callee args span)) c h = args_of_as args c.stack _ _ (λ vs cell rest. gives_in c h rest (λ b. send_to b span cell callee vs c.state))
  act_as code (Some Halt) c h = refl
  act_as code (Some (TakeOf g)) c h = on_as c.doing h (take_action g c.state) _ _ (λ o s. started_as g o c s)
  act_as code (Some RunOf) c h = top_as c.stack _ _ (λ v rest. runs_as code c.state.acting v rest c h)
  act_as code (Some (FinishOf g)) c h = hands_in_as code g c.state.acting (fault_in c.state.acting) c h

-- while a transaction may run again, it doesn't count how many times
pub tries_dont_count : TriesDontCount
tries_dont_count n code c h = act_as n code (fetch code c.body c.place) c h
