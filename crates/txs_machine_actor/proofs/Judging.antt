-- What the machine does where a validator has to look at a value that is written, by what the validator answered.
use Rattle.std.proofs.Common.{◌≡◌, ℕ, zero, suc, ◌+◌, ◌<◌, Bool, true, false, List, [], ◌∷◌, ◌++◌, length, map, Option, Some, None, Result, Ok, Err, refl, sym, ap, ◌∙◌, subst}
use Rattle.txs_world_protocol.specs.Ask.{Exchange, Writes}
use Rattle.txs_frame.specs.Frame.{PlainTxFrame, commuted, by_ref, written}
use Rattle.txs_frame.specs.Phase.{tasks_of, validations, with_validation}
use Rattle.txs_frame.specs.declared.frame.Commute.{Commute}
use Rattle.txs_frame.specs.declared.phase.Task.{Task}
use Rattle.txs_frame.specs.declared.phase.Task.TheVariants.{Redoes, Validates}
use Rattle.txs_value_data.specs.Places.{fault_at}
use Rattle.txs_value_data.specs.declared.fault.FaultKind.{FaultKind}
use Rattle.txs_value_data.specs.declared.fault.FaultKind.TheVariants.{InvalidState}
use Rattle.txs_value_data.specs.declared.fault.Span.{Span}
use Rattle.txs_value_data.specs.declared.op.Callee.{Callee}
use Rattle.txs_value_cell.specs.Cells.{Validators, validator_at}
use Rattle.txs_value_cell.specs.Forms.{rule, cell_of}
use Rattle.txs_value_cell.specs.declared.form.CellForm.TheVariants as form
use Rattle.txs_value_cell.specs.declared.form.PutForm.TheVariants.{Reset}
use Rattle.txs_value_cell.specs.declared.form.UpdateForm.TheVariants as update
use Rattle.txs_value_data.specs.declared.value.CellId.{CellId}
use Rattle.txs_value_data.specs.declared.value.Value.{Value}
use Rattle.txs_code_meaning.specs.ActorState.{ActorState, assign_cell, close_swap, step_of}
use Rattle.txs_code_meaning.specs.Machine.{ThreadCode, Frame, Configuration, Turned, act, raise, on, is_inside, swap_decided}
use Rattle.txs_code_meaning.specs.Machine as machine
use Rattle.txs_machine_stack.specs.PlainFrame.{PlainFrame}
use Rattle.txs_machine_loop.specs.Values.{last_of, below, under, stack_in}
use Rattle.txs_machine_transaction.specs.Effect.{applying}
use Rattle.txs_machine_transaction.specs.declared.state.Pending.{Pending}
use Rattle.txs_machine_transaction.specs.declared.state.Savepoint.{Savepoint}
use Rattle.txs_machine_transaction.specs.declared.state.Transaction.{Transaction}
use Rattle.txs_machine_transaction.specs.declared.state.Transaction.TheVariants.{Outside, Restarting, Running, Applying, Evaluating, Swapping, Judging, Weighing}
use Rattle.txs_machine_actor.specs.PlainActor.{PlainActor, savepoint_of, activity_of, home_of}
use Rattle.txs_machine_actor.specs.Turns.{Check, check_of, reset_check, swap_check, task_check, end_check, at_tasks, begun_with, heeded, done_by}
use Rattle.txs_machine_transaction.specs.declared.role.Role.{Role}
use Rattle.txs_machine_actor.proofs.Effects.{it, here, before, two_tops, IsUnjudged, IsUnweighed}

-- code whose cells have no validators
abbrev pub bare : ThreadCode → ThreadCode
bare code = record code { validators = [] }

none_some : {A B : Type 0} {x : A} → None ≡ Some x → B
none_some e = cc

some_none : {A B : Type 0} {x : A} → Some x ≡ None → B
some_none e = cc

some : {A : Type 0} {x y : A} → Some x ≡ Some y → x ≡ y
some e = cc

-- a validator that looks is that of the check
pub validator_of_check : (o : Option Callee) (v : Value) (span : Span) (x : Check) → check_of o v span ≡ Some x → (o ≡ Some x.callee) × (v ≡ x.value) × (span ≡ x.span)
validator_of_check None v span x e = none_some e
validator_of_check (Some f) v span x e = (ap (λ (y : Check). Some y.callee) (some e), ap (λ (y : Check). y.value) (some e), ap (λ (y : Check). y.span) (some e))

pub no_validator_of_check : (o : Option Callee) (v : Value) (span : Span) → check_of o v span ≡ None → o ≡ None
no_validator_of_check None v span e = refl
no_validator_of_check (Some f) v span e = some_none e

module _ (code : ThreadCode) (n : ℕ) (role : Role) (bn : ℕ) (fs : List PlainFrame) (l at : ℕ) (vs : List Value) (out : List ℕ) (p seen : ℕ) (w : PlainTxFrame) (kept : Option Commute) (steps limit room : ℕ) where
  abbrev pub home : List Frame
  home = home_of role

  -- where the machine is, with this answer of a validator
  abbrev pub at_hand : Option Bool → Transaction → List Exchange → Configuration
  at_hand acc tx xs = here n role bn fs l at vs out p seen w kept acc steps limit room tx xs

  abbrev state_with : Option Bool → List Exchange → ActorState
  state_with acc xs = before n role bn fs l at vs out p seen w kept acc steps limit room xs

  -- an actor that is there
  abbrev pub it_with : Option Bool → Transaction → Option Pending → PlainActor
  it_with acc tx o = it n role bn fs l at vs out p seen w kept acc steps limit room tx o

  -- A validator looks at a value before an instruction: where it accepts that, the instruction does what it does without a validator, and a value that is
  -- refused is a fault.
  pub record Looks (doing_so : ThreadCode → Configuration → Turned Configuration) (tx : Transaction) (x : Check) : Type 0 where
    pub looks : (xs : List Exchange) → doing_so code (at_hand None tx xs) ≡ machine.validates code x.callee x.value x.span (at_hand None tx xs)
    pub accepts : (xs : List Exchange) → doing_so code (at_hand (Some true) tx xs) ≡ doing_so (bare code) (at_hand None tx xs)
    pub refuses : (xs : List Exchange) → doing_so code (at_hand (Some false) tx xs) ≡ raise (activity_of home tx) (fault_at InvalidState x.span) (state_with None xs)

  -- ---- atoms

  pub reset_free : (span : Span) (r : Result CellId FaultKind) → reset_check code.validators r (last_of vs) span ≡ None → IsUnjudged n role bn fs l at vs out p seen w kept None steps limit room code r
  reset_free span (Ok c) e = no_validator_of_check (validator_at code.validators c.number) (last_of vs) span e
  reset_free span (Err k) e = tt

  pub swap_free : (tx : Transaction) → swap_check code.validators tx (last_of vs) ≡ None → IsUnweighed n role bn fs l at vs out p seen w kept None steps limit room code tx
  swap_free Outside e = tt
  swap_free (Restarting left) e = tt
  swap_free (Running left inner from) e = tt
  swap_free (Applying left from phase) e = tt
  swap_free (Evaluating left from phase aside) e = tt
  swap_free (Swapping c q from) e = no_validator_of_check (validator_at code.validators c.number) (last_of vs) from.span e
  swap_free (Judging aside) e = tt
  swap_free (Weighing c q from aside) e = tt

  -- what `reset!` does with an atom that was found
  abbrev put_at : ThreadCode → Bool → Span → Result CellId FaultKind → Configuration → Turned Configuration
  put_at k inside span r c =
      on c.doing (step_of r span c.state) (λ a s. machine.where_valid k (validator_at k.validators a.number) (last_of vs) span c (λ c1. machine.gives c1 (stack_in l (below 2 vs)) (assign_cell Reset (is_inside c.doing) span (last_of vs) a c1.state)))

  put_so : (k : ThreadCode) (span : Span) (tx : Transaction) (acc : Option Bool) (xs : List Exchange) → 1 + l < length vs → is_inside (activity_of home tx) ≡ false
      → act k (Some (machine.PutOf Reset span)) (at_hand acc tx xs) ≡ put_at k false span (cell_of (rule (form.Put Reset)) false (under 1 vs)) (at_hand acc tx xs)
  put_so k span tx acc xs h outside =
      two_tops n role bn fs l at vs out p seen w kept acc steps limit room (λ v c rest. machine.puts k Reset span v c rest (at_hand acc tx xs)) h
      ∙ ap (λ (i : Bool). put_at k i span (cell_of (rule (form.Put Reset)) i (under 1 vs)) (at_hand acc tx xs)) outside

  -- by the validator of the atom
  put_looks : (span : Span) (tx : Transaction) (r : Result CellId FaultKind) (x : Check) → reset_check code.validators r (last_of vs) span ≡ Some x → Looks (λ k. put_at k false span r) tx x
  put_looks span tx (Err k) x e = none_some e
  put_looks span tx (Ok c) x e =
      let v = validator_of_check (validator_at code.validators c.number) (last_of vs) span x e in
      let go : Configuration → Turned Configuration = λ c1. machine.gives c1 (stack_in l (below 2 vs)) (assign_cell Reset (is_inside (activity_of home tx)) span (last_of vs) c c1.state) in
      let by_validator : Option Bool → List Exchange → Option Callee → Turned Configuration = λ acc xs o. machine.where_valid code o (last_of vs) span (at_hand acc tx xs) go in
      record {
        looks = λ xs.
            ap (by_validator None xs) v.0
            ∙ ap (λ (y : Value). machine.validates code x.callee y span (at_hand None tx xs)) v.1
            ∙ ap (λ (y : Span). machine.validates code x.callee x.value y (at_hand None tx xs)) v.2;
        accepts = λ xs. ap (by_validator (Some true) xs) v.0;
        refuses = λ xs. ap (by_validator (Some false) xs) v.0 ∙ ap (λ (y : Span). raise (activity_of home tx) (fault_at InvalidState y) (state_with None xs)) v.2;
      }

  pub reset_looks : (span : Span) (tx : Transaction) (x : Check) → 1 + l < length vs → is_inside (activity_of home tx) ≡ false → reset_check code.validators (cell_of (rule (form.Put Reset)) false (under 1 vs)) (last_of vs) span ≡ Some x
      → Looks (λ k. act k (Some (machine.PutOf Reset span))) tx x
  reset_looks span tx x h outside e =
      let k = put_looks span tx (cell_of (rule (form.Put Reset)) false (under 1 vs)) x e in
      record {
        looks = λ xs. put_so code span tx None xs h outside ∙ k.looks xs;
        accepts = λ xs. put_so code span tx (Some true) xs h outside ∙ k.accepts xs ∙ sym (put_so (bare code) span tx None xs h outside);
        refuses = λ xs. put_so code span tx (Some false) xs h outside ∙ k.refuses xs;
      }

  -- the same of the close of a swap
  pub swap_looks : (span : Span) (tx : Transaction) (x : Check) → 1 + l < length vs → swap_check code.validators tx (last_of vs) ≡ Some x → Looks (λ k. act k (Some (machine.CloseOf update.Swap span))) tx x
  swap_looks span Outside x h e = none_some e
  swap_looks span (Restarting left) x h e = none_some e
  swap_looks span (Running left inner from) x h e = none_some e
  swap_looks span (Applying left from phase) x h e = none_some e
  swap_looks span (Evaluating left from phase aside) x h e = none_some e
  swap_looks span (Judging aside) x h e = none_some e
  swap_looks span (Weighing c q from aside) x h e = none_some e
  swap_looks span (Swapping c q from) x h e =
      let tx : Transaction = Swapping c q from in
      let v = validator_of_check (validator_at code.validators c.number) (last_of vs) from.span x e in
      record {
        looks = λ xs.
            closed code None xs ∙ ap (by_validator code None xs) v.0
            ∙ ap (λ (y : Value). machine.validates code x.callee y from.span (at_hand None tx xs)) v.1
            ∙ ap (λ (y : Span). machine.validates code x.callee x.value y (at_hand None tx xs)) v.2;
        accepts = λ xs. closed code (Some true) xs ∙ ap (by_validator code (Some true) xs) v.0 ∙ sym (closed (bare code) None xs);
        refuses = λ xs. closed code (Some false) xs ∙ ap (by_validator code (Some false) xs) v.0 ∙ ap (λ (y : Span). raise (activity_of home tx) (fault_at InvalidState y) (state_with None xs)) v.2;
      }
    where
      by_validator : ThreadCode → Option Bool → List Exchange → Option Callee → Turned Configuration
      by_validator k acc xs o =
          machine.where_valid k o (last_of vs) from.span (at_hand acc (Swapping c q from) xs)
          (λ c1. on c1.doing (close_swap (record { cell = c; at = q }) (last_of vs) c1.state) (λ verdict s. swap_decided verdict (savepoint_of home from) (last_of vs) (stack_in l (below 2 vs)) c1 s))

      closed : (k : ThreadCode) (acc : Option Bool) (xs : List Exchange) → act k (Some (machine.CloseOf update.Swap span)) (at_hand acc (Swapping c q from) xs) ≡ by_validator k acc xs (validator_at k.validators c.number)
      closed k acc xs = two_tops n role bn fs l at vs out p seen w kept acc steps limit room (λ v y rest. machine.closes k update.Swap span v y rest (at_hand acc (Swapping c q from) xs)) h

  -- ---- transactions' ends

  -- the tasks of a transaction that views nothing are of validators alone
  abbrev AllValidate : List Task → Type 0
  AllValidate [] = Unit {0}
  AllValidate (Redoes k ∷ xs) = ⊥
  AllValidate (Validates c f ∷ xs) = AllValidate xs

  one_only : (c : CellId) (xs : List Task) → AllValidate xs → (o : Option Callee) → AllValidate (with_validation c o xs)
  one_only c xs all None = all
  one_only c xs all (Some f) = all

  validations_only : (us : Validators) (cs : List CellId) → AllValidate (validations us cs)
  validations_only us [] = tt
  validations_only us (c ∷ cs) = one_only c (validations us cs) (validations_only us cs) (validator_at us c.number)

  tasks_validate : commuted w ≡ [] → AllValidate (tasks_of code.validators w)
  tasks_validate e = subst (λ (cs : List CellId). AllValidate (map Redoes (by_ref cs w.commutes) ++ validations code.validators (written w))) (sym e) (validations_only code.validators (written w))

  -- such tasks are done in the same way where they begin and behind that
  works_same : (left : ℕ) (from : Savepoint) (acc : Option Bool) (xs : List Exchange) (t : Task) (ts : List Task) → AllValidate (t ∷ ts)
      → machine.works code left (savepoint_of home from) (t ∷ ts) [] (at_hand acc (Running left 0 from) xs) ≡ machine.works code left (savepoint_of home from) (t ∷ ts) [] (at_hand acc (applying left from (t ∷ ts) []) xs)
  works_same left from acc xs (Redoes k) ts h = absurd h
  works_same left from acc xs (Validates c f) ts h = refl

  -- what the machine does at a transaction's end
  abbrev ends_at : Option Bool → Transaction → List Exchange → Turned Configuration
  ends_at acc tx xs = act code (Some machine.TxEnd) (at_hand acc tx xs)

  -- the tasks of a transaction that views nothing begin in the turn that does the first of them
  pub begins_tasks : (acc : Option Bool) (tx : Transaction) (o : Option Pending) (xs : List Exchange) → ends_at acc tx xs ≡ ends_at acc (at_tasks code.validators (it_with acc tx o) tx).tx xs
  begins_tasks acc Outside o xs = refl
  begins_tasks acc (Restarting left) o xs = refl
  begins_tasks acc (Running left zero from) o xs = by_parts (commuted w) (tasks_of code.validators w) refl refl
    where
      tx : Transaction
      tx = Running left 0 from

      by_parts : (cs : List CellId) (ts : List Task) → commuted w ≡ cs → tasks_of code.validators w ≡ ts → machine.settles code cs left (savepoint_of home from) (at_hand acc tx xs) ≡ ends_at acc (begun_with (it_with acc tx o) left from cs ts).tx xs
      by_parts (c ∷ cs) ts e f = sym (ap (λ (ds : List CellId). machine.settles code ds left (savepoint_of home from) (at_hand acc tx xs)) e)
      by_parts [] [] e f = sym (ap (λ (ds : List CellId). machine.settles code ds left (savepoint_of home from) (at_hand acc tx xs)) e)
      by_parts [] (t ∷ ts) e f =
          ap (λ (us : List Task). machine.works code left (savepoint_of home from) us [] (at_hand acc tx xs)) f
          ∙ works_same left from acc xs t ts (subst AllValidate f (tasks_validate e))
  begins_tasks acc (Running left (suc inner) from) o xs = refl
  begins_tasks acc (Applying left from phase) o xs = refl
  begins_tasks acc (Evaluating left from phase aside) o xs = refl
  begins_tasks acc (Swapping c q from) o xs = refl
  begins_tasks acc (Judging aside) o xs = refl
  begins_tasks acc (Weighing c q from aside) o xs = refl

  -- a task whose value was accepted is done in the turn that does the next
  pub heeds : (acc : Option Bool) (tx : Transaction) (o : Option Pending) (xs : List Exchange) → ends_at acc tx xs ≡ ends_at (heeded (it_with acc tx o) tx).accepted (heeded (it_with acc tx o) tx).tx xs
  heeds acc Outside o xs = refl
  heeds acc (Restarting left) o xs = refl
  heeds acc (Running left inner from) o xs = refl
  heeds acc (Applying left from phase) o xs = by_task acc phase.work phase.values
    where
      tx : List Task → Writes → Transaction
      tx ts ws = applying left from ts ws

      by_task : (a : Option Bool) (ts : List Task) (ws : Writes) → ends_at a (tx ts ws) xs ≡ ends_at (done_by (it_with a (tx ts ws) o) left from a ts ws).accepted (done_by (it_with a (tx ts ws) o) left from a ts ws).tx xs
      by_task None ts ws = refl
      by_task (Some false) ts ws = refl
      by_task (Some true) [] ws = refl
      by_task (Some true) (Redoes k ∷ ts) ws = refl
      by_task (Some true) (Validates c f ∷ ts) ws = refl
  heeds acc (Evaluating left from phase aside) o xs = refl
  heeds acc (Swapping c q from) o xs = refl
  heeds acc (Judging aside) o xs = refl
  heeds acc (Weighing c q from aside) o xs = refl

  -- a validator looks at the value of the next task, or has refused it
  pub record EndLooks (tx : Transaction) (x : Check) : Type 0 where
    pub looks : (xs : List Exchange) → ends_at None tx xs ≡ machine.validates code x.callee x.value x.span (at_hand None tx xs)
    pub refuses : (xs : List Exchange) → ends_at (Some false) tx xs ≡ raise (activity_of home tx) (fault_at InvalidState x.span) (state_with None xs)

  pub end_looks : (tx : Transaction) (x : Check) → end_check tx w ≡ Some x → EndLooks tx x
  end_looks Outside x e = none_some e
  end_looks (Restarting left) x e = none_some e
  end_looks (Running left inner from) x e = none_some e
  end_looks (Evaluating left from phase aside) x e = none_some e
  end_looks (Swapping c q from) x e = none_some e
  end_looks (Judging aside) x e = none_some e
  end_looks (Weighing c q from aside) x e = none_some e
  end_looks (Applying left from phase) x e = by_work phase.work phase.values e
    where
      by_work : (ts : List Task) (ws : Writes) → task_check ts ws w from.span ≡ Some x → EndLooks (applying left from ts ws) x
      by_work [] ws q = none_some q
      by_work (Redoes k ∷ ts) ws q = none_some q
      by_work (Validates c f ∷ ts) ws q =
          let tx : Transaction = applying left from (Validates c f ∷ ts) ws in
          record {
            looks = λ xs. ap (λ (y : Check). machine.validates code y.callee y.value y.span (at_hand None tx xs)) (some q);
            refuses = λ xs. ap (λ (y : Check). raise (activity_of home tx) (fault_at InvalidState y.span) (state_with None xs)) (some q);
          }
