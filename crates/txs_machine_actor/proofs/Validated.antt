-- Instructions that may write values at which validators have to look, and transactions' ends: what turns at them come to.
use Rattle.std.proofs.Common.{◌≡◌, ℕ, zero, suc, ◌+◌, ◌<◌, ◌^◌, Bool, true, false, List, [], ◌∷◌, length, Option, Some, None, Result, Ok, Err, refl, sym, ap, ◌∙◌, subst, inl, inr}
use Rattle.txs_world_protocol.specs.Ask.{Exchange, Writes}
use Rattle.txs_frame.specs.Frame.{PlainTxFrame, commuted}
use Rattle.txs_frame.specs.Phase.{tasks_of, validates_next}
use Rattle.txs_frame.specs.declared.frame.Commute.{Commute}
use Rattle.txs_frame.specs.declared.phase.Task.{Task}
use Rattle.txs_frame.specs.declared.phase.Task.TheVariants.{Redoes, Validates}
use Rattle.txs_value_data.specs.Places.{nth, fault_at}
use Rattle.txs_value_data.specs.declared.fault.FaultKind.{FaultKind}
use Rattle.txs_value_data.specs.declared.fault.FaultKind.TheVariants.{InvalidState}
use Rattle.txs_value_data.specs.declared.fault.Span.{Span}
use Rattle.txs_value_data.specs.declared.op.Callee.{Callee}
use Rattle.txs_value_cell.specs.Cells.{validators_of, validator_at}
use Rattle.txs_value_cell.specs.Forms.{rule, cell_of}
use Rattle.txs_value_cell.specs.declared.form.CellForm.TheVariants as form
use Rattle.txs_value_cell.specs.declared.form.PutForm.TheVariants.{Reset}
use Rattle.txs_value_cell.specs.declared.form.UpdateForm.TheVariants as update
use Rattle.txs_value_data.specs.declared.value.CellId.{CellId}
use Rattle.txs_value_data.specs.declared.value.Value.{Value}
use Rattle.txs_machine_stack.specs.Travels.{body_at}
use Rattle.txs_code_meaning.specs.Machine.{ThreadCode, Frame, Configuration, Turned, act, turn, raise}
use Rattle.txs_code_meaning.specs.Machine as machine
use Rattle.txs_code_meaning.specs.PlainCode.{PlainCode, CodeBody, plain_instr, parameters_of}
use Rattle.txs_code_meaning.specs.WellTyped.{Functions, FunctionKind, IsImpure, WellTypedFunctions, WellTypedValidators}
use Rattle.txs_code_meaning.specs.declared.instr.Instr.{Instr}
use Rattle.txs_code_meaning.specs.declared.instr.Instr.TheVariants as instr
use Rattle.txs_machine_loop.specs.Flat.{leaves, instr_at, span_at, step_at}
use Rattle.txs_machine_loop.specs.Values.{last_of, under}
use Rattle.txs_machine_stack.specs.Leading.{WantsMemory}
use Rattle.txs_machine_stack.specs.PlainFrame.{PlainFrame}
use Rattle.txs_machine_transaction.proofs.Validators.{no_tasks}
use Rattle.txs_machine_transaction.specs.Effect.{applying}
use Rattle.txs_machine_transaction.specs.Transaction.{IsSwapping}
use Rattle.txs_code_meaning.specs.Validating.{has_validator}
use Rattle.txs_machine_transaction.specs.declared.state.Transaction.{Transaction}
use Rattle.txs_machine_transaction.specs.declared.state.Transaction.TheVariants.{Outside, Restarting, Running, Applying, Evaluating, Swapping, Judging, Weighing}
use Rattle.txs_machine_actor.specs.PlainActor.{PlainActor, home_of, frames_in, activity_of, code_of, owner_of, functions_of, setting_of, CanApply, AllCanDo, GoesOn, Runs}
use Rattle.txs_machine_transaction.specs.Roles.{acting_of}
use Rattle.txs_machine_actor.specs.Turns.{Turns, Check, check_of, reset_check, swap_check, task_check, end_check, write_check, CanCheck, Transacts, ByVerdict, WhereValid, CanEnd, EndsAs, CanTask, TasksAs, Validated, CanEndBy, EndsBy, next_function, begun_with, at_tasks, done_by, heeded, at_next_task}
use Rattle.txs_machine_actor.specs.declared.outcome.Turn.{Turn}
use Rattle.txs_machine_transaction.specs.declared.role.Role.{Role}
use Rattle.txs_machine_actor.proofs.Applying.{typed_look, tasks_do}
use Rattle.txs_machine_actor.proofs.Effects.{it, IsUnjudged, IsUnweighed, IsSettled}
use Rattle.txs_machine_actor.proofs.Judging.{Looks, EndLooks, reset_free, swap_free, reset_looks, swap_looks, begins_tasks, heeds, end_looks}
use Rattle.txs_machine_actor.proofs.Landing.{put_stands, close_stands}
use Rattle.txs_machine_actor.proofs.Meaning.{placed}
use Rattle.txs_machine_actor.proofs.Turning as step

some : {A : Type 0} {x y : A} → Some x ≡ Some y → x ≡ y
some e = cc

none_some : {A B : Type 0} {x : A} → None ≡ Some x → B
none_some e = cc

cons_none : {A B : Type 0} {x : A} {xs : List A} → x ∷ xs ≡ [] → B
cons_none e = cc

-- the next task is a validator's
validates_so : (xs : List Task) (ws : Writes) (w : PlainTxFrame) (span : Span) (x : Check) → task_check xs ws w span ≡ Some x → validates_next xs ≡ true
validates_so [] ws w span x e = none_some e
validates_so (Redoes k ∷ xs) ws w span x e = none_some e
validates_so (Validates c f ∷ xs) ws w span x e = refl

module _ (d : PlainCode) (kinds : List FunctionKind) (rooms : List ℕ) (functions : WellTypedFunctions (functions_of d kinds) 0 d.constants d.functions kinds rooms) (validators : WellTypedValidators (functions_of d kinds) (validators_of d.cells)) (b : CodeBody) (n : ℕ) (role : Role) (bn : ℕ) (fs : List PlainFrame)
    (l p seen : ℕ) (done : PlainTxFrame) (kept : Option Commute) (acc : Option Bool) (tx : Transaction) (limit room : ℕ) (is : body_at d n bn ≡ Some b) (many : length b.spans ≡ length b.instrs) (at : ℕ) (mid : List Value) (was : List ℕ) (s : ℕ) where
  -- the actor before the step, with this answer of a validator and in this transaction, and after it
  abbrev before_step : Option Bool → Transaction → PlainActor
  before_step o t = it n role bn fs l at mid was p seen done kept o s limit room t None

  abbrev after_step : Option Bool → Transaction → PlainActor
  after_step o t = it n role bn fs l at mid was p seen done kept o (s + 1) limit room t None

  abbrev home : List Frame
  home = home_of role

  abbrev fns : Functions
  fns = functions_of d kinds

  abbrev own : ThreadCode
  own = code_of d n

  abbrev span : Span
  span = span_at b.spans at

  -- the machine there
  abbrev here : Option Bool → Transaction → List Exchange → Configuration
  here o t xs = placed bn (frames_in fs home t) (activity_of home t) xs p seen done kept (acting_of role) o l at mid was

  -- what it does at an instruction
  abbrev does : Instr → ThreadCode → Configuration → Turned Configuration
  does i k c = act k (Some (plain_instr (parameters_of d.functions) d.constants i span)) c

  -- an actor can go on with whatever answer of a validator
  with_answer : (t : Transaction) (o x : Option Bool) → GoesOn d kinds b (before_step o t) → GoesOn d kinds b (before_step x t)
  with_answer t o x g = record { own = g.own; base = g.base; ready = g.ready; enters = g.enters; callers = g.callers; is_first = g.is_first; counted = g.counted; swaps = g.swaps; began = g.began; shallow = g.shallow; commutes = g.commutes; opened = g.opened; serves = g.serves; applies = g.applies }

  -- a validator that has to look can
  checked_can : (o : Option Callee) (v : Value) (sp : Span) (k : ℕ) → validator_at (validators_of d.cells) k ≡ o → (x : Check) → check_of o v sp ≡ Some x → CanApply fns x.callee 0
  checked_can None v sp k e x q = none_some q
  checked_can (Some f) v sp k e x q = subst (λ (y : Callee). CanApply fns y 0) (ap (λ (y : Check). y.callee) (some q)) (typed_look fns d.cells validators k f e).1

  reset_can : (r : Result CellId FaultKind) (v : Value) (sp : Span) (x : Check) → reset_check (validators_of d.cells) r v sp ≡ Some x → CanApply fns x.callee 0
  reset_can (Ok c) v sp x e = checked_can (validator_at (validators_of d.cells) c.number) v sp c.number refl x e
  reset_can (Err k) v sp x e = none_some e

  swap_can : (t : Transaction) (v : Value) (x : Check) → swap_check (validators_of d.cells) t v ≡ Some x → CanApply fns x.callee 0
  swap_can Outside v x e = none_some e
  swap_can (Restarting left) v x e = none_some e
  swap_can (Running left inner from) v x e = none_some e
  swap_can (Applying left from phase) v x e = none_some e
  swap_can (Evaluating left from phase aside) v x e = none_some e
  swap_can (Swapping c q from) v x e = checked_can (validator_at (validators_of d.cells) c.number) v from.span c.number refl x e
  swap_can (Judging aside) v x e = none_some e
  swap_can (Weighing c q from aside) v x e = none_some e

  module _ (g : GoesOn d kinds b (before_step acc tx)) (lt : s < limit) where
    -- what comes of a step that begins here
    abbrev Leads : Turn → PlainActor → Type 0
    Leads r c = Turns d (before_step acc tx) r c × Runs d c

    -- ---- values that are written

    -- whether a cell has a validator doesn't depend on an answer
    as_unjudged : (r : Result CellId FaultKind) → IsUnjudged n role bn fs l at mid was p seen done kept None (s + 1) limit room own r → IsUnjudged n role bn fs l at mid was p seen done kept acc (s + 1) limit room own r
    as_unjudged (Ok c) h = h
    as_unjudged (Err k) h = h

    as_unweighed : (t : Transaction) → IsUnweighed n role bn fs l at mid was p seen done kept None (s + 1) limit room own t → IsUnweighed n role bn fs l at mid was p seen done kept acc (s + 1) limit room own t
    as_unweighed Outside h = h
    as_unweighed (Restarting left) h = h
    as_unweighed (Running left inner from) h = h
    as_unweighed (Applying left from phase) h = h
    as_unweighed (Evaluating left from phase aside) h = h
    as_unweighed (Swapping c q from) h = h
    as_unweighed (Judging aside) h = h
    as_unweighed (Weighing c q from aside) h = h

    -- what is known of an instruction that writes one
    record Writing (i : Instr) : Type 0 where
      pub stands : nth b.instrs at ≡ Some i
      pub wants : WantsMemory i
      pub free : write_check (validators_of d.cells) (after_step acc tx) i span ≡ None → step.Left d kinds rooms functions validators b n role bn fs l p seen done kept acc tx limit room is many at mid was s g lt own span i
      pub accepted : step.Left d kinds rooms functions validators b n role bn fs l p seen done kept None tx limit room is many at mid was s (with_answer tx acc None g) lt (record own { validators = [] }) span i
      pub looks : (x : Check) → write_check (validators_of d.cells) (after_step acc tx) i span ≡ Some x → Looks own n role bn fs l at mid was p seen done kept s limit room (does i) tx x
      pub judges : (x : Check) → write_check (validators_of d.cells) (after_step acc tx) i span ≡ Some x → step.JudgesHere d kinds rooms functions validators b n role bn fs l p seen done kept acc tx limit room is many at mid was s g lt tx
      pub can_apply : (x : Check) → write_check (validators_of d.cells) (after_step acc tx) i span ≡ Some x → CanApply fns x.callee 0
      pub bare_too : (y : PlainActor) (r : Turn) (c : PlainActor) → Transacts (validators_of d.cells) y i span (at + 1) r c → Transacts [] y i span (at + 1) r c

    written : (i : Instr) (w : Writing i) (o : Option Check) → write_check (validators_of d.cells) (after_step acc tx) i span ≡ o → (r : Turn) (c : PlainActor)
        → WhereValid d (after_step acc tx) o (λ x. Transacts (validators_of d.cells) x i span (at + 1) r c) r c → Leads r c
    written i w None q r c h = step.transacted d kinds rooms functions validators b n role bn fs l p seen done kept acc tx limit room is many at mid was s g lt i w.stands (w.free q) r c h
    written i w (Some x) q r c h = by_answer acc refl h
      where
        began : (xs : List Exchange) → turn own (here acc tx xs) ≡ does i own (here acc tx xs)
        began xs = step.turn_acts d kinds rooms functions validators b n role bn fs l p seen done kept acc tx limit room is many at mid was s g lt i w.stands xs

        by_answer : (o : Option Bool) → o ≡ acc → ByVerdict d (after_step acc tx) x o (λ y. Transacts (validators_of d.cells) y i span (at + 1) r c) r c → Leads r c
        by_answer None e k =
            step.judged_from d kinds rooms functions validators b n role bn fs l p seen done kept acc tx limit room is many at mid was s g lt tx acc (λ xs. does i own (here acc tx xs)) began
            (step.wants_at d kinds rooms functions validators b n role bn fs l p seen done kept acc tx limit room is many at mid was s g lt i w.stands w.wants) (w.judges x q) x.callee x.value x.span (w.can_apply x q)
            (λ xs. subst (λ (a : Option Bool). does i own (here a tx xs) ≡ machine.validates own x.callee x.value x.span (here a tx xs)) e ((w.looks x q).looks xs)) r c k
        by_answer (Some true) e k =
            step.transacted_by d kinds rooms functions validators b n role bn fs l p seen done kept None tx limit room is many at mid was s (with_answer tx acc None g) lt tx acc (record own { validators = [] }) i w.stands w.accepted
            (λ xs. began xs ∙ subst (λ (a : Option Bool). does i own (here a tx xs) ≡ does i (record own { validators = [] }) (here None tx xs)) e ((w.looks x q).accepts xs)) r c (w.bare_too (after_step None tx) r c k)
        by_answer (Some false) e k =
            step.raised d kinds rooms functions validators b n role bn fs l p seen done kept None tx limit room is many at mid was s (with_answer tx acc None g) lt tx acc (λ xs. does i own (here acc tx xs)) began mid (fault_at InvalidState x.span) tx refl
            (step.judges_quiet d kinds rooms functions validators b n role bn fs l p seen done kept acc tx limit room is many at mid was s g lt tx (w.judges x q)) r c k
            (λ xs. subst (λ (a : Option Bool). does i own (here a tx xs) ≡ raise (activity_of home tx) (fault_at InvalidState x.span) (here None tx xs).state) e ((w.looks x q).refuses xs))

    -- what has to be looked at can be
    written_can : (i : Instr) → ((sp : Span) (x : Check) → write_check (validators_of d.cells) (after_step acc tx) i sp ≡ Some x → CanApply fns x.callee 0) → (sp : Span) → CanCheck d (write_check (validators_of d.cells) (after_step acc tx) i sp)
    written_can i can sp = by_check (write_check (validators_of d.cells) (after_step acc tx) i sp) refl
      where
        by_check : (o : Option Check) → write_check (validators_of d.cells) (after_step acc tx) i sp ≡ o → CanCheck d o
        by_check None q = tt
        by_check (Some x) q = step.can_judge d kinds rooms functions validators b n role bn fs l p seen done kept acc tx limit room is many at mid was s g lt x.callee (can sp x q)

    abbrev Judged : Instr → Type 0
    Judged i = step.Judged d kinds rooms functions validators b n role bn fs l p seen done kept acc tx limit room is many at mid was s g lt i

    -- `reset!`
    reset_writes : nth b.instrs at ≡ Some (instr.Put Reset) → Writing (instr.Put Reset)
    reset_writes e =
        let k = put_stands (setting_of d kinds bn) d.constants b l at mid room g.own g.ready Reset e in
        let outside = step.still_outside d kinds rooms functions validators b n role bn fs l p seen done kept acc tx limit room is many at mid was s g lt k.1.1 in
        let cell = cell_of (rule (form.Put Reset)) false (under 1 mid) in
        record {
          stands = e;
          wants = tt;
          free = λ q. step.left_reset d kinds rooms functions validators b n role bn fs l p seen done kept acc tx limit room is many at mid was s g lt own (as_unjudged cell (reset_free own n role bn fs l at mid was p seen done kept (s + 1) limit room span cell q)) span e;
          accepted = step.left_reset d kinds rooms functions validators b n role bn fs l p seen done kept None tx limit room is many at mid was s (with_answer tx acc None g) lt (record own { validators = [] }) (bare_free cell) span e;
          looks = λ x q. reset_looks own n role bn fs l at mid was p seen done kept s limit room span tx x k.0 outside q;
          judges = λ x q. outside_judges outside k.1.0;
          can_apply = λ x q. reset_can cell (last_of mid) span x q;
          bare_too = λ y r c h. h;
        }
      where
        bare_free : (r : Result CellId FaultKind) → IsUnjudged n role bn fs l at mid was p seen done kept None (s + 1) limit room (record own { validators = [] }) r
        bare_free (Ok c) = refl
        bare_free (Err x) = tt

        outside_judges : machine.is_inside (activity_of home tx) ≡ false → IsImpure (owner_of kinds bn) → step.JudgesHere d kinds rooms functions validators b n role bn fs l p seen done kept acc tx limit room is many at mid was s g lt tx
        outside_judges out im =
            subst (λ (t : Transaction). step.JudgesHere d kinds rooms functions validators b n role bn fs l p seen done kept acc tx limit room is many at mid was s g lt t) (sym (step.reset_outside d kinds rooms functions validators b n role bn fs l p seen done kept acc tx limit room is many at mid was s g lt e))
            e

    reset_judged : nth b.instrs at ≡ Some (instr.Put Reset) → Judged (instr.Put Reset)
    reset_judged e =
        let w = reset_writes e in
        record {
          can = (w.accepted.can, written_can (instr.Put Reset) (λ sp x q. reset_can (cell_of (rule (form.Put Reset)) false (under 1 mid)) (last_of mid) sp x q));
          so = λ r c h. written (instr.Put Reset) w (write_check (validators_of d.cells) (after_step acc tx) (instr.Put Reset) span) refl r c h;
        }

    -- the close of a swap
    swap_writes : nth b.instrs at ≡ Some (instr.Close update.Swap) → Writing (instr.Close update.Swap)
    swap_writes e =
        let k = close_stands (setting_of d kinds bn) d.constants b l at mid room g.own g.ready update.Swap e in
        let q0 = step.swapping_here d kinds rooms functions validators b n role bn fs l p seen done kept acc tx limit room is many at mid was s g lt e in
        record {
          stands = e;
          wants = tt;
          free = λ q. step.left_close_swap d kinds rooms functions validators b n role bn fs l p seen done kept acc tx limit room is many at mid was s g lt own (as_unweighed tx (swap_free own n role bn fs l at mid was p seen done kept (s + 1) limit room tx q)) span e;
          accepted = step.left_close_swap d kinds rooms functions validators b n role bn fs l p seen done kept None tx limit room is many at mid was s (with_answer tx acc None g) lt (record own { validators = [] }) (bare_free tx) span e;
          looks = λ x q. swap_looks own n role bn fs l at mid was p seen done kept s limit room span tx x k.0 q;
          judges = λ x q. swap_judges tx q0;
          can_apply = λ x q. swap_can tx (last_of mid) x q;
          bare_too = λ y r c h. h;
        }
      where
        bare_free : (t : Transaction) → IsUnweighed n role bn fs l at mid was p seen done kept None (s + 1) limit room (record own { validators = [] }) t
        bare_free Outside = tt
        bare_free (Restarting left) = tt
        bare_free (Running left inner from) = tt
        bare_free (Applying left from phase) = tt
        bare_free (Evaluating left from phase aside) = tt
        bare_free (Swapping c q from) = refl
        bare_free (Judging aside) = tt
        bare_free (Weighing c q from aside) = tt

        swap_judges : (t : Transaction) → IsSwapping t → step.JudgesHere d kinds rooms functions validators b n role bn fs l p seen done kept acc tx limit room is many at mid was s g lt t
        swap_judges Outside q = absurd q
        swap_judges (Restarting left) q = absurd q
        swap_judges (Running left inner from) q = absurd q
        swap_judges (Applying left from phase) q = absurd q
        swap_judges (Evaluating left from phase aside) q = absurd q
        swap_judges (Swapping c x from) q = e
        swap_judges (Judging aside) q = absurd q
        swap_judges (Weighing c x from aside) q = absurd q

    swap_judged : nth b.instrs at ≡ Some (instr.Close update.Swap) → Judged (instr.Close update.Swap)
    swap_judged e =
        let w = swap_writes e in
        record {
          can = (w.accepted.can, written_can (instr.Close update.Swap) (λ sp x q. swap_can tx (last_of mid) x q));
          so = λ r c h. written (instr.Close update.Swap) w (write_check (validators_of d.cells) (after_step acc tx) (instr.Close update.Swap) span) refl r c h;
        }

    -- ---- transactions' ends

    module _ (e : nth b.instrs at ≡ Some instr.TxEnd) where
      -- the machine at the end of this transaction
      abbrev ends_in : Option Bool → Transaction → List Exchange → Turned Configuration
      ends_in o t xs = does instr.TxEnd own (here o t xs)

      began_end : (xs : List Exchange) → turn own (here acc tx xs) ≡ ends_in acc tx xs
      began_end xs = step.turn_acts d kinds rooms functions validators b n role bn fs l p seen done kept acc tx limit room is many at mid was s g lt instr.TxEnd e xs

      -- the actor at a task, from where the machine does the same
      record AtTask (y : PlainActor) : Type 0 where
        pub tx2 : Transaction
        pub acc2 : Option Bool
        pub at_it : y ≡ after_step acc2 tx2
        pub goes : GoesOn d kinds b (before_step acc2 tx2)
        pub same : (xs : List Exchange) → ends_in acc tx xs ≡ ends_in acc2 tx2 xs
        pub settled : IsSettled n role bn fs l at mid was p seen done kept acc2 (s + 1) limit room own tx2

      -- the transaction's end by its next task, which isn't looked at
      ended_plainly : (y : PlainActor) (k : AtTask y) → (has_validator d.cells ≡ true → end_check k.tx2 done ≡ None) → (o : Option ℕ) → next_function k.tx2 ≡ o → (r : Turn) (c : PlainActor) → EndsAs d (after_step k.acc2 k.tx2) o span (at + 1) r c → Leads r c
      ended_plainly y k free None f r c h =
          step.transacted_by d kinds rooms functions validators b n role bn fs l p seen done kept k.acc2 k.tx2 limit room is many at mid was s k.goes lt tx acc own instr.TxEnd e
          (step.left_end d kinds rooms functions validators b n role bn fs l p seen done kept k.acc2 k.tx2 limit room is many at mid was s k.goes lt span e f free k.settled) (λ xs. began_end xs ∙ k.same xs) r c h
      ended_plainly y k free (Some x) f r c h =
          step.evaluated_by d kinds rooms functions validators b n role bn fs l p seen done kept k.acc2 k.tx2 limit room is many at mid was s k.goes lt tx acc (λ xs. began_end xs ∙ k.same xs) e x f free r c h

      plainly_can : (y : PlainActor) (k : AtTask y) → (has_validator d.cells ≡ true → end_check k.tx2 done ≡ None) → (o : Option ℕ) → next_function k.tx2 ≡ o → CanEnd d (after_step k.acc2 k.tx2) o
      plainly_can y k free None f = (step.left_end d kinds rooms functions validators b n role bn fs l p seen done kept k.acc2 k.tx2 limit room is many at mid was s k.goes lt span e f free k.settled).can
      plainly_can y k free (Some x) f = record { begins = step.can_evaluate d kinds rooms functions validators b n role bn fs l p seen done kept k.acc2 k.tx2 limit room is many at mid was s k.goes lt x k.tx2 f k.goes.applies; next = f }

      -- a validator that is the next task can look, and does so here
      check_can : (t : Transaction) (x : Check) → end_check t done ≡ Some x → (w : GoesOn d kinds b (before_step acc t)) → CanApply fns x.callee 0
      check_can Outside x q w = none_some q
      check_can (Restarting left) x q w = none_some q
      check_can (Running left inner from) x q w = none_some q
      check_can (Evaluating left from phase aside) x q w = none_some q
      check_can (Swapping c z from) x q w = none_some q
      check_can (Judging aside) x q w = none_some q
      check_can (Weighing c z from aside) x q w = none_some q
      check_can (Applying left from phase) x q w = by_work phase.work phase.values q w.applies.1
        where
          by_work : (xs : List Task) (ws : Writes) → task_check xs ws done from.span ≡ Some x → AllCanDo fns (has_validator d.cells) xs → CanApply fns x.callee 0
          by_work [] ws z all = none_some z
          by_work (Redoes k ∷ xs) ws z all = none_some z
          by_work (Validates c f ∷ xs) ws z all = subst (λ (y : Callee). CanApply fns y 0) (ap (λ (y : Check). y.callee) (some z)) all.0.1

      check_judges : (o : Option Bool) (t : Transaction) (w : GoesOn d kinds b (before_step o t)) (x : Check) → end_check t done ≡ Some x → step.JudgesHere d kinds rooms functions validators b n role bn fs l p seen done kept o t limit room is many at mid was s w lt t
      check_judges o Outside w x q = none_some q
      check_judges o (Restarting left) w x q = none_some q
      check_judges o (Running left inner from) w x q = none_some q
      check_judges o (Evaluating left from phase aside) w x q = none_some q
      check_judges o (Swapping c z from) w x q = none_some q
      check_judges o (Judging aside) w x q = none_some q
      check_judges o (Weighing c z from aside) w x q = none_some q
      check_judges o (Applying left from phase) w x q = (e, validates_so phase.work phase.values done from.span x q, w.applies.1)

      -- the next task of a transaction's end
      tasked : (y : PlainActor) (k : AtTask y) → ((x : Check) → end_check k.tx2 done ≡ Some x → k.acc2 ≡ Some true → ⊥) → (o : Option Check) → end_check k.tx2 done ≡ o → (r : Turn) (c : PlainActor) → TasksAs d (after_step k.acc2 k.tx2) o span (at + 1) r c → Leads r c
      tasked y k never None q r c h = ended_plainly y k (λ v. q) (next_function k.tx2) refl r c h
      tasked y k never (Some x) q r c h = by_answer k.acc2 refl h
        where
          looks : EndLooks own n role bn fs l at mid was p seen done kept s limit room k.tx2 x
          looks = end_looks own n role bn fs l at mid was p seen done kept s limit room k.tx2 x q

          began : (xs : List Exchange) → turn own (here acc tx xs) ≡ ends_in k.acc2 k.tx2 xs
          began xs = began_end xs ∙ k.same xs

          by_answer : (o : Option Bool) → o ≡ k.acc2 → Validated d (after_step k.acc2 k.tx2) x o r c → Leads r c
          by_answer (Some true) f v = absurd (never x q (sym f))
          by_answer None f v =
              step.judged_from d kinds rooms functions validators b n role bn fs l p seen done kept k.acc2 k.tx2 limit room is many at mid was s k.goes lt tx acc (λ xs. ends_in k.acc2 k.tx2 xs) began
              (step.wants_at d kinds rooms functions validators b n role bn fs l p seen done kept acc tx limit room is many at mid was s g lt instr.TxEnd e tt) (check_judges k.acc2 k.tx2 k.goes x q) x.callee x.value x.span (check_can k.tx2 x q (with_answer k.tx2 k.acc2 acc k.goes))
              (λ xs. subst (λ (a : Option Bool). ends_in a k.tx2 xs ≡ machine.validates own x.callee x.value x.span (here a k.tx2 xs)) f (looks.looks xs)) r c v
          by_answer (Some false) f v =
              step.raised d kinds rooms functions validators b n role bn fs l p seen done kept None k.tx2 limit room is many at mid was s (with_answer k.tx2 k.acc2 None k.goes) lt tx acc (λ xs. ends_in k.acc2 k.tx2 xs) began mid (fault_at InvalidState x.span) k.tx2 refl
              (step.judges_quiet d kinds rooms functions validators b n role bn fs l p seen done kept k.acc2 k.tx2 limit room is many at mid was s k.goes lt k.tx2 (check_judges k.acc2 k.tx2 k.goes x q)) r c v
              (λ xs. subst (λ (a : Option Bool). ends_in a k.tx2 xs ≡ raise (activity_of home k.tx2) (fault_at InvalidState x.span) (here None k.tx2 xs).state) f (looks.refuses xs))

      task_can : (y : PlainActor) (k : AtTask y) (o : Option Check) → end_check k.tx2 done ≡ o → CanTask d (after_step k.acc2 k.tx2) o
      task_can y k None q = plainly_can y k (λ v. q) (next_function k.tx2) refl
      task_can y k (Some x) q = step.can_judge d kinds rooms functions validators b n role bn fs l p seen done kept k.acc2 k.tx2 limit room is many at mid was s k.goes lt x.callee (check_can k.tx2 x q (with_answer k.tx2 k.acc2 acc k.goes))

      -- where the transaction is, if it has nothing to settle
      at_same : (t : Transaction) → GoesOn d kinds b (before_step acc t) → ((xs : List Exchange) → ends_in acc tx xs ≡ ends_in acc t xs) → IsSettled n role bn fs l at mid was p seen done kept acc (s + 1) limit room own t → AtTask (after_step acc t)
      at_same t w same settled = record { tx2 = t; acc2 = acc; at_it = refl; goes = w; same = same; settled = settled }

      -- the tasks begin
      begins_here : (t : Transaction) → GoesOn d kinds b (before_step acc t) → ((xs : List Exchange) → ends_in acc tx xs ≡ ends_in acc t xs) → AtTask (at_tasks (validators_of d.cells) (after_step acc t) t)
      begins_here Outside w same = at_same Outside w same tt
      begins_here (Restarting left) w same = at_same (Restarting left) w same tt
      begins_here (Running left (suc inner) from) w same = at_same (Running left (suc inner) from) w same tt
      begins_here (Applying left from phase) w same = at_same (Applying left from phase) w same tt
      begins_here (Evaluating left from phase aside) w same = at_same (Evaluating left from phase aside) w same tt
      begins_here (Swapping c q from) w same = at_same (Swapping c q from) w same tt
      begins_here (Judging aside) w same = at_same (Judging aside) w same tt
      begins_here (Weighing c q from aside) w same = at_same (Weighing c q from aside) w same tt
      begins_here (Running left zero from) w same = by_parts (commuted done) (tasks_of (validators_of d.cells) done) refl refl
        where
          t : Transaction
          t = Running left 0 from

          by_parts : (cs : List CellId) (ts : List Task) → commuted done ≡ cs → tasks_of (validators_of d.cells) done ≡ ts → AtTask (begun_with (after_step acc t) left from cs ts)
          by_parts (c ∷ cs) ts f h = at_same t w same (λ none. cons_none (sym f ∙ none))
          by_parts [] [] f h = at_same t w same (λ none. h)
          by_parts [] (x ∷ xs) f h =
              let all : AllCanDo fns (has_validator d.cells) (x ∷ xs) = subst (AllCanDo fns (has_validator d.cells)) h (tasks_do fns (has_validator d.cells) (validators_of d.cells) (typed_look fns d.cells validators) done w.commutes) in
              let led : (zs : List Exchange) → ends_in acc t zs ≡ ends_in acc (applying left from (x ∷ xs) []) zs = λ zs.
              begins_tasks own n role bn fs l at mid was p seen done kept s limit room acc t None zs
              ∙ ap (λ (cs : List CellId). ends_in acc (begun_with (before_step acc t) left from cs (tasks_of (validators_of d.cells) done)).tx zs) f
              ∙ ap (λ (ts : List Task). ends_in acc (begun_with (before_step acc t) left from [] ts).tx zs) h in
              record {
                tx2 = applying left from (x ∷ xs) [];
                acc2 = acc;
                at_it = refl;
                goes = record { own = w.own; base = w.base; ready = w.ready; enters = w.enters; callers = w.callers; is_first = w.is_first; counted = w.counted; swaps = w.swaps; began = w.began; shallow = w.shallow; commutes = w.commutes; opened = w.opened; serves = w.serves; applies = (e, all) };
                same = λ zs. same zs ∙ led zs;
                settled = tt;
              }

      -- a task whose value was accepted is done, and the next isn't one that was looked at
      record AtNext (y : PlainActor) : Type 0 where
        pub task : AtTask y
        pub never : (x : Check) → end_check task.tx2 done ≡ Some x → task.acc2 ≡ Some true → ⊥

      next_same : (o : Option Bool) (t : Transaction) → GoesOn d kinds b (before_step o t) → ((xs : List Exchange) → ends_in acc tx xs ≡ ends_in o t xs) → IsSettled n role bn fs l at mid was p seen done kept o (s + 1) limit room own t → ((x : Check) → end_check t done ≡ Some x → o ≡ Some true → ⊥) → AtNext (after_step o t)
      next_same o t w same settled never = record { task = record { tx2 = t; acc2 = o; at_it = refl; goes = w; same = same; settled = settled }; never = never }

      heeds_here : (o : Option Bool) (t : Transaction) → GoesOn d kinds b (before_step o t) → ((xs : List Exchange) → ends_in acc tx xs ≡ ends_in o t xs) → IsSettled n role bn fs l at mid was p seen done kept o (s + 1) limit room own t → AtNext (heeded (after_step o t) t)
      heeds_here o Outside w same settled = next_same o Outside w same settled (λ x q f. none_some q)
      heeds_here o (Restarting left) w same settled = next_same o (Restarting left) w same settled (λ x q f. none_some q)
      heeds_here o (Running left inner from) w same settled = next_same o (Running left inner from) w same settled (λ x q f. none_some q)
      heeds_here o (Evaluating left from phase aside) w same settled = next_same o (Evaluating left from phase aside) w same settled (λ x q f. none_some q)
      heeds_here o (Swapping c q from) w same settled = next_same o (Swapping c q from) w same settled (λ x z f. none_some z)
      heeds_here o (Judging aside) w same settled = next_same o (Judging aside) w same settled (λ x q f. none_some q)
      heeds_here o (Weighing c q from aside) w same settled = next_same o (Weighing c q from aside) w same settled (λ x z f. none_some z)
      heeds_here o (Applying left from phase) w same settled = by_answer o phase.work phase.values w same
        where
          no_true : {B : Type 0} {x : Option Bool} → x ≡ None → x ≡ Some true → B
          no_true f h = cc

          no_both : {B : Type 0} → Some false ≡ Some true → B
          no_both f = cc

          by_answer : (a : Option Bool) (xs : List Task) (ws : Writes) → GoesOn d kinds b (before_step a (applying left from xs ws)) → ((zs : List Exchange) → ends_in acc tx zs ≡ ends_in a (applying left from xs ws) zs)
              → AtNext (done_by (after_step a (applying left from xs ws)) left from a xs ws)
          by_answer None xs ws v led = next_same None (applying left from xs ws) v led tt (λ x q f. no_true refl f)
          by_answer (Some false) xs ws v led = next_same (Some false) (applying left from xs ws) v led tt (λ x q f. no_both f)
          by_answer (Some true) [] ws v led = next_same (Some true) (applying left from [] ws) v led tt (λ x q f. none_some q)
          by_answer (Some true) (Redoes k ∷ xs) ws v led = next_same (Some true) (applying left from (Redoes k ∷ xs) ws) v led tt (λ x q f. none_some q)
          by_answer (Some true) (Validates c h ∷ xs) ws v led =
              next_same None (applying left from xs ws)
              (record { own = v.own; base = v.base; ready = v.ready; enters = v.enters; callers = v.callers; is_first = v.is_first; counted = v.counted; swaps = v.swaps; began = v.began; shallow = v.shallow; commutes = v.commutes; opened = v.opened; serves = v.serves; applies = (e, v.applies.1.1) })
              (λ zs. led zs ∙ heeds own n role bn fs l at mid was p seen done kept s limit room (Some true) (applying left from (Validates c h ∷ xs) ws) None zs) tt (λ x q f. no_true refl f)

      -- where the actor is at its next task
      next_here : AtNext (at_next_task (validators_of d.cells) (after_step acc tx))
      next_here =
          let k = begins_here tx g (λ xs. refl) in
          subst (λ (y : PlainActor). AtNext (heeded y y.tx)) (sym k.at_it) (heeds_here k.acc2 k.tx2 k.goes k.same k.settled)

      -- no cell has a validator
      unvalidated : has_validator d.cells ≡ false → AtTask (after_step acc tx)
      unvalidated bare_cells = by_tx tx g (λ xs. refl)
        where
          by_tx : (t : Transaction) → GoesOn d kinds b (before_step acc t) → ((xs : List Exchange) → ends_in acc tx xs ≡ ends_in acc t xs) → AtTask (after_step acc t)
          by_tx Outside w same = at_same Outside w same tt
          by_tx (Restarting left) w same = at_same (Restarting left) w same tt
          by_tx (Running left zero from) w same = at_same (Running left 0 from) w same (λ none. no_tasks d.cells done bare_cells none)
          by_tx (Running left (suc inner) from) w same = at_same (Running left (suc inner) from) w same tt
          by_tx (Applying left from phase) w same = at_same (Applying left from phase) w same tt
          by_tx (Evaluating left from phase aside) w same = at_same (Evaluating left from phase aside) w same tt
          by_tx (Swapping c q from) w same = at_same (Swapping c q from) w same tt
          by_tx (Judging aside) w same = at_same (Judging aside) w same tt
          by_tx (Weighing c q from aside) w same = at_same (Weighing c q from aside) w same tt

      not_both : {B : Type 0} {x : Bool} → x ≡ true → x ≡ false → B
      not_both q f = cc

      ended_can : (v : Bool) → has_validator d.cells ≡ v → CanEndBy d (after_step acc tx) v
      ended_can false plain_cells =
          let k = unvalidated plain_cells in
          let can : (y : PlainActor) → y ≡ after_step k.acc2 k.tx2 → CanEnd d y (next_function y.tx) = λ y q. subst (λ (u : PlainActor). CanEnd d u (next_function u.tx)) (sym q) (plainly_can (after_step acc tx) k (λ one_has. not_both one_has plain_cells) (next_function k.tx2) refl) in
          can (after_step acc tx) k.at_it
      ended_can true one_has =
          let k = next_here.task in
          subst (λ (u : PlainActor). CanTask d u (end_check u.tx u.done)) (sym k.at_it) (task_can (at_next_task (validators_of d.cells) (after_step acc tx)) k (end_check k.tx2 done) refl)

      ended_so : (v : Bool) → has_validator d.cells ≡ v → (r : Turn) (c : PlainActor) → EndsBy d (after_step acc tx) v span (at + 1) r c → Leads r c
      ended_so false plain_cells r c h =
          let k = unvalidated plain_cells in
          ended_plainly (after_step acc tx) k (λ one_has. not_both one_has plain_cells) (next_function k.tx2) refl r c (subst (λ (u : PlainActor). EndsAs d u (next_function u.tx) span (at + 1) r c) k.at_it h)
      ended_so true one_has r c (inl h) =
          let k = next_here.task in
          tasked (at_next_task (validators_of d.cells) (after_step acc tx)) k next_here.never (end_check k.tx2 done) refl r c (subst (λ (u : PlainActor). TasksAs d u (end_check u.tx u.done) span (at + 1) r c) k.at_it h)
      ended_so true one_has r c (inr h) =
          step.out_of_memory d kinds rooms functions validators b n role bn fs l p seen done kept acc tx limit room is many at mid was s g lt tx acc (λ xs. turn own (here acc tx xs)) (λ xs. refl)
          (step.wants_at d kinds rooms functions validators b n role bn fs l p seen done kept acc tx limit room is many at mid was s g lt instr.TxEnd e tt) mid tx acc r c h

    end_judged : nth b.instrs at ≡ Some instr.TxEnd → Judged instr.TxEnd
    end_judged e = record { can = ended_can e (has_validator d.cells) refl; so = λ r c h. ended_so e (has_validator d.cells) refl r c h }

    -- what stands where the loop left an instruction
    pub leaving : (us : List Value) (more : List ℕ) → s + 1 < 2 ^ 64 → step_at d.constants b at mid was ≡ leaves us more
        → (at < length b.instrs) × step.Leaving d kinds rooms functions validators b n role bn fs l p seen done kept acc tx limit room is many at mid was s g lt us more (instr_at b.instrs at)
    leaving us more small q =
        step.leaving_so d kinds rooms functions validators b n role bn fs l p seen done kept acc tx limit room is many at mid was s g lt (record { for_reset = reset_judged; for_swap = swap_judged; for_end = end_judged }) us more small q
