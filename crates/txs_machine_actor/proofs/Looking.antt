-- Validators that look at values: what is known of each by cases.
use Rattle.std.proofs.Common.{◌≡◌, ℕ, zero, suc, ◌<◌, Bool, true, false, List, [], ◌∷◌, length, Option, Some, None, Ok, refl, sym, ap, ◌∙◌, subst, arith, inl, inr}
use Rattle.std.proofs.lemmas.Bool.{false≢true}
use Rattle.txs_world_protocol.specs.Ask.{Writes}
use Rattle.txs_world_protocol.specs.declared.event.Outcome.TheVariants as outcome
use Rattle.txs_frame.specs.Frame.{PlainTxFrame, commuted}
use Rattle.txs_frame.specs.Phase.{PlainPhase, behind_next, next_callee, next_arguments, tasks_of, to_write, validates_next}
use Rattle.txs_frame.specs.declared.phase.Task.{Task}
use Rattle.txs_frame.specs.declared.phase.Task.TheVariants.{Redoes, Validates}
use Rattle.txs_value_apply.specs.Core.{Answer, is_false}
use Rattle.txs_value_apply.specs.Truth.{choose}
use Rattle.std.specs.Prelude.{not}
use Rattle.txs_value_data.specs.declared.fault.Span.{Span}
use Rattle.txs_value_data.specs.declared.op.Callee.{Callee}
use Rattle.txs_value_data.specs.declared.op.Callee.TheVariants as callee
use Rattle.txs_value_cell.specs.Cells.{Validators}
use Rattle.txs_value_cell.specs.declared.form.PutForm.{PutForm}
use Rattle.txs_value_cell.specs.declared.form.PutForm.TheVariants.{RefSet, Reset}
use Rattle.txs_value_cell.specs.declared.form.UpdateForm.{UpdateForm}
use Rattle.txs_value_cell.specs.declared.form.UpdateForm.TheVariants as update
use Rattle.txs_value_data.specs.declared.value.CellId.{CellId}
use Rattle.txs_value_data.specs.declared.value.Value.{Value}
use Rattle.txs_value_data.specs.declared.value.Value.TheVariants as value
use Rattle.txs_code_meaning.specs.PlainCode.{PlainCode}
use Rattle.txs_code_meaning.specs.declared.instr.Instr.{Instr}
use Rattle.txs_code_meaning.specs.declared.instr.Instr.TheVariants.{Const, Local, Store, Pop, Jump, JumpFalse, Core, Call, Return, Vector, Print, Look, Put, TxBegin, TxEnd, Open, Close, Send, Halt}
use Rattle.txs_machine_stack.specs.PlainFrame.{PlainStack}
use Rattle.txs_machine_transaction.specs.Effect.{applying}
use Rattle.txs_machine_transaction.specs.Kept.{RunsOn}
use Rattle.txs_machine_transaction.specs.declared.state.Savepoint.{Savepoint}
use Rattle.txs_machine_transaction.specs.declared.state.Transaction.{Transaction}
use Rattle.txs_machine_transaction.specs.declared.state.Transaction.TheVariants.{Outside, Restarting, Running, Applying, Evaluating, Swapping, Judging, Weighing}
use Rattle.txs_machine_actor.specs.PlainActor.{PlainActor, stops_as}
use Rattle.txs_machine_actor.specs.Turns.{AnsweredAs, AnsweredFor, AnswersAtOnce, AnswersForAtOnce, CanTransact, Check, Judges, JudgesFor, Validated, at_tasks, begun_with, done_by, end_check, heeded, puts_aside, swap_check, task_check, work_in, write_check}
use Rattle.txs_machine_actor.specs.declared.outcome.Turn.{Turn}
use Rattle.txs_machine_actor.specs.declared.outcome.Turn.TheVariants as turned

pub some : {A : Type 0} {x y : A} → Some x ≡ Some y → x ≡ y
some e = cc

none_some : {A B : Type 0} {x : A} → None ≡ Some x → B
none_some e = cc

some_none : {A B : Type 0} {x : A} → Some x ≡ None → B
some_none e = cc

cons_none : {A B : Type 0} {x : A} {xs : List A} → x ∷ xs ≡ [] → B
cons_none e = cc

-- a validator accepts by any value but nil and false
pub accepts_so : (v : Value) (b : Bool) → b ≡ is_false v → not b ≡ choose v true false
accepts_so value.Nil b e = ap not e
accepts_so (value.Truth true) b e = ap not e
accepts_so (value.Truth false) b e = ap not e
accepts_so (value.Int z) b e = ap not e
accepts_so (value.Key bs) b e = ap not e
accepts_so (value.Text bs) b e = ap not e
accepts_so (value.Vector vs) b e = ap not e
accepts_so (value.Cell c) b e = ap not e

-- ---- tasks

pub no_task : (xs : List Task) → next_callee xs ≡ None → xs ≡ []
no_task [] e = refl
no_task (x ∷ xs) e = some_none e

pub a_task : (xs : List Task) (f : Callee) → next_callee xs ≡ Some f → 0 < length xs
a_task [] f e = none_some e
a_task (x ∷ xs) f e = omega arith

pub a_validation : (xs : List Task) → validates_next xs ≡ true → 0 < length xs
a_validation [] e = absurd (false≢true e)
a_validation (x ∷ xs) e = omega arith

-- a validator is the next of these tasks, and what it is applied to
pub task_looks : (xs : List Task) (ws : Writes) (w : PlainTxFrame) (span : Span) (f : Callee) → validates_next xs ≡ true → next_callee xs ≡ Some f
    → (v : Value) × (task_check xs ws w span ≡ Some (record { callee = f; value = v; span = span })) × (next_arguments xs ws w ≡ v ∷ [])
task_looks [] ws w span f e g = absurd (false≢true e)
task_looks (Redoes k ∷ xs) ws w span f e g = absurd (false≢true e)
task_looks (Validates c h ∷ xs) ws w span f e g =
    let x : Check = record { callee = h; value = to_write ws w c.number; span = span } in
    (x.value, ap (λ (y : Callee). Some (record x { callee = y })) (some g), refl)

pub none_looks : (xs : List Task) (ws : Writes) (w : PlainTxFrame) (span : Span) → validates_next xs ≡ false → task_check xs ws w span ≡ None
none_looks [] ws w span e = refl
none_looks (Redoes k ∷ xs) ws w span e = refl
none_looks (Validates c f ∷ xs) ws w span e = absurd (false≢true (sym e))

-- none is next where no tasks are being done
pub no_end : (tx : Transaction) (w : PlainTxFrame) → ((l : ℕ) (f : Savepoint) (p : PlainPhase) → tx ≡ Applying l f p → ⊥) → end_check tx w ≡ None
no_end Outside w n = refl
no_end (Restarting left) w n = refl
no_end (Running left inner from) w n = refl
no_end (Applying left from phase) w n = absurd (n left from phase refl)
no_end (Evaluating left from phase aside) w n = refl
no_end (Swapping c q from) w n = refl
no_end (Judging aside) w n = refl
no_end (Weighing c q from aside) w n = refl

pub runs_no_end : (tx : Transaction) (w : PlainTxFrame) → RunsOn tx → end_check tx w ≡ None
runs_no_end tx w r = ap (λ (t : Transaction). end_check t w) r.3

-- where a validator is next, a task is left
task_left : (xs : List Task) (ws : Writes) (w : PlainTxFrame) (span : Span) (x : Check) → task_check xs ws w span ≡ Some x → 0 < length xs
task_left [] ws w span x e = none_some e
task_left (y ∷ xs) ws w span x e = omega arith

pub check_left : (tx : Transaction) (w : PlainTxFrame) (x : Check) → end_check tx w ≡ Some x → 0 < length (work_in tx)
check_left Outside w x e = none_some e
check_left (Restarting left) w x e = none_some e
check_left (Running left inner from) w x e = none_some e
check_left (Applying left from phase) w x e = task_left phase.work phase.values w from.span x e
check_left (Evaluating left from phase aside) w x e = none_some e
check_left (Swapping c q from) w x e = none_some e
check_left (Judging aside) w x e = none_some e
check_left (Weighing c q from aside) w x e = none_some e

-- ---- values that are written

pub no_swap : (fs : Validators) (v : Value) (tx : Transaction) → ((c : CellId) (q : ℕ) (f : Savepoint) → tx ≡ Swapping c q f → ⊥) → swap_check fs tx v ≡ None
no_swap fs v Outside n = refl
no_swap fs v (Restarting left) n = refl
no_swap fs v (Running left inner from) n = refl
no_swap fs v (Applying left from phase) n = refl
no_swap fs v (Evaluating left from phase aside) n = refl
no_swap fs v (Swapping c q from) n = absurd (n c q from refl)
no_swap fs v (Judging aside) n = refl
no_swap fs v (Weighing c q from aside) n = refl

pub runs_no_swap : (fs : Validators) (v : Value) (tx : Transaction) → RunsOn tx → swap_check fs tx v ≡ None
runs_no_swap fs v tx r = ap (λ (t : Transaction). swap_check fs t v) r.3

module _ (fs : Validators) (a : PlainActor) (span : Span) where
  pub no_close : (f : UpdateForm) → (f ≡ update.Swap → ⊥) → write_check fs a (Close f) span ≡ None
  no_close update.Alter n = refl
  no_close update.Commute n = refl
  no_close update.Swap n = absurd (n refl)

  pub no_write : (i : Instr) → ((f : PutForm) → i ≡ Put f → ⊥) → ((f : UpdateForm) → i ≡ Close f → ⊥) → write_check fs a i span ≡ None
  no_write (Put f) p q = absurd (p f refl)
  no_write (Close f) p q = absurd (q f refl)
  no_write (Const k) p q = refl
  no_write (Local i) p q = refl
  no_write (Store i) p q = refl
  no_write Pop p q = refl
  no_write (Jump to) p q = refl
  no_write (JumpFalse to) p q = refl
  no_write (Core op n) p q = refl
  no_write (Call f) p q = refl
  no_write Return p q = refl
  no_write (Vector n) p q = refl
  no_write (Print n) p q = refl
  no_write (Look form) p q = refl
  no_write TxBegin p q = refl
  no_write TxEnd p q = refl
  no_write (Open by n) p q = refl
  no_write (Send callee n) p q = refl
  no_write Halt p q = refl

  -- such a value is there
  pub value_there : (i : Instr) (x : Check) → write_check fs a i span ≡ Some x → CanTransact a i → 0 < length a.values
  value_there (Put Reset) x e can = let m = can.0 in omega (arith, m)
  value_there (Put RefSet) x e can = none_some e
  value_there (Close update.Swap) x e can = let m = can.0 in omega (arith, m)
  value_there (Close update.Alter) x e can = none_some e
  value_there (Close update.Commute) x e can = none_some e
  value_there (Const k) x e can = none_some e
  value_there (Local i) x e can = none_some e
  value_there (Store i) x e can = none_some e
  value_there Pop x e can = none_some e
  value_there (Jump to) x e can = none_some e
  value_there (JumpFalse to) x e can = none_some e
  value_there (Core op n) x e can = none_some e
  value_there (Call f) x e can = none_some e
  value_there Return x e can = none_some e
  value_there (Vector n) x e can = none_some e
  value_there (Print n) x e can = none_some e
  value_there (Look form) x e can = none_some e
  value_there TxBegin x e can = none_some e
  value_there TxEnd x e can = none_some e
  value_there (Open by n) x e can = none_some e
  value_there (Send callee n) x e can = none_some e
  value_there Halt x e can = none_some e

-- ---- answers

-- a validator that is an operation has answered
pub at_once_so : (a : PlainActor) (span : Span) (o : Answer) (v : Value) (b : Bool) (r : Turn) → o ≡ Ok v → b ≡ choose v true false → r ≡ turned.Went → AnswersAtOnce a span o r (record a { accepted = Some b })
at_once_so a span o v b r e q w =
    let c : PlainActor = record a { accepted = Some b } in
    inl (subst (λ (x : Answer). AnsweredAs a span x r c) (sym e) (w, ap (λ (x : Bool). record a { accepted = Some x }) q))

-- the same of an agent's
pub at_once_for : (a : PlainActor) (span : Span) (o : Answer) (v : Value) (b : Bool) (r : Turn) → o ≡ Ok v → b ≡ choose v true false → r ≡ turned.Went → AnswersForAtOnce a span o r (record a { accepted = Some b })
at_once_for a span o v b r e q w =
    let c : PlainActor = record a { accepted = Some b } in
    inl (subst (λ (x : Answer). AnsweredFor a span x r c) (sym e) (w, ap (λ (x : Bool). record a { accepted = Some x }) q))

-- there was no memory for it
pub judges_memory : (d : PlainCode) (a : PlainActor) (f : Callee) (vs : List Value) (span : Span) (r : Turn) (b : PlainActor) → r ≡ turned.Ended outcome.Memory → b ≡ stops_as a outcome.Memory → Judges d a f vs span r b
judges_memory d a (callee.Core op) vs span r b e h = inr (e, h)
judges_memory d a (callee.Function f) vs span r b e h = subst (λ (x : Turn). Judges d a (callee.Function f) vs span x b) (sym e) (refl, h)

pub judges_for_memory : (d : PlainCode) (a : PlainActor) (f : Callee) (v : Value) (span : Span) (r : Turn) (b : PlainActor) → r ≡ turned.Ended outcome.Memory → b ≡ stops_as a outcome.Memory → JudgesFor d a f v span r b
judges_for_memory d a (callee.Core op) v span r b e h = inr (e, h)
judges_for_memory d a (callee.Function f) v span r b e h = subst (λ (x : Turn). JudgesFor d a (callee.Function f) v span x b) (sym e) (refl, h)

-- a task whose validator hasn't refused its value
pub not_refused : (d : PlainCode) (a : PlainActor) (x : Check) (o : Option Bool) (r : Turn) (b : PlainActor) → (o ≡ Some false → ⊥) → Judges d a x.callee (x.value ∷ []) x.span r b → Validated d a x o r b
not_refused d a x None r b n h = h
not_refused d a x (Some true) r b n h = h
not_refused d a x (Some false) r b n h = absurd (n refl)

-- ---- stacks that are put aside, and tasks that begin and are done

pub none_aside : (a : PlainActor) (s : PlainStack) (t : Transaction) → (t ≡ Outside → ⊥) → ((l : ℕ) (f : Savepoint) (p : PlainPhase) → t ≡ Applying l f p → ⊥) → ((c : CellId) (q : ℕ) (f : Savepoint) → t ≡ Swapping c q f → ⊥) → puts_aside a s t ≡ a
none_aside a s Outside o p q = absurd (o refl)
none_aside a s (Restarting left) o p q = refl
none_aside a s (Running left inner from) o p q = refl
none_aside a s (Applying left from phase) o p q = absurd (p left from phase refl)
none_aside a s (Evaluating left from phase aside) o p q = refl
none_aside a s (Swapping c n from) o p q = absurd (q c n from refl)
none_aside a s (Judging aside) o p q = refl
none_aside a s (Weighing c n from aside) o p q = refl

pub tasks_begin : (a : PlainActor) (left : ℕ) (from : Savepoint) (cs : List CellId) (xs : List Task) (p : PlainPhase) → cs ≡ [] → 0 < length p.work → p ≡ record { work = xs; values = [] }
    → record a { tx = Applying left from p } ≡ begun_with (record a { tx = Running left 0 from }) left from cs xs
tasks_begin a left from [] [] p e lt is = let none = subst (λ (q : PlainPhase). 0 < length q.work) is lt in absurd (omega (arith, none))
tasks_begin a left from [] (x ∷ xs) p e lt is = ap (λ (q : PlainPhase). record a { tx = Applying left from q }) is
tasks_begin a left from (c ∷ cs) xs p e lt is = cons_none e

pub none_begin : (a : PlainActor) (left : ℕ) (from : Savepoint) (cs : List CellId) (xs : List Task) → (cs ≡ [] → xs ≡ []) → begun_with a left from cs xs ≡ a
none_begin a left from [] [] n = refl
none_begin a left from [] (x ∷ xs) n = cons_none (n refl)
none_begin a left from (c ∷ cs) xs n = refl

pub task_done : (a : PlainActor) (left : ℕ) (from : Savepoint) (p q : PlainPhase) → validates_next p.work ≡ true → q ≡ record p { work = behind_next p.work }
    → record a { tx = Applying left from q; accepted = None } ≡ done_by (record a { tx = Applying left from p }) left from (Some true) p.work p.values
task_done a left from p q v is = ap (λ (x : PlainPhase). record a { tx = Applying left from x; accepted = None }) is ∙ by_work p.work p.values v
  where
    by_work : (xs : List Task) (ws : Writes) → validates_next xs ≡ true → record a { tx = applying left from (behind_next xs) ws; accepted = None } ≡ done_by (record a { tx = Applying left from p }) left from (Some true) xs ws
    by_work [] ws e = absurd (false≢true e)
    by_work (Redoes k ∷ xs) ws e = absurd (false≢true e)
    by_work (Validates c f ∷ xs) ws e = refl

pub task_stays : (a : PlainActor) (left : ℕ) (from : Savepoint) (xs : List Task) (ws : Writes) → validates_next xs ≡ false → done_by a left from (Some true) xs ws ≡ a
task_stays a left from [] ws e = refl
task_stays a left from (Redoes k ∷ xs) ws e = refl
task_stays a left from (Validates c f ∷ xs) ws e = absurd (false≢true (sym e))

-- nothing is done where no validator has accepted, or no tasks are being done
pub undone : (a : PlainActor) (left : ℕ) (from : Savepoint) (o : Option Bool) (xs : List Task) (ws : Writes) → (o ≡ Some true → ⊥) → done_by a left from o xs ws ≡ a
undone a left from None xs ws n = refl
undone a left from (Some false) xs ws n = refl
undone a left from (Some true) xs ws n = absurd (n refl)

pub unheeding : (a : PlainActor) (t : Transaction) → ((l : ℕ) (f : Savepoint) (p : PlainPhase) → t ≡ Applying l f p → ⊥) → heeded a t ≡ a
unheeding a Outside n = refl
unheeding a (Restarting left) n = refl
unheeding a (Running left inner from) n = refl
unheeding a (Applying left from phase) n = absurd (n left from phase refl)
unheeding a (Evaluating left from phase aside) n = refl
unheeding a (Swapping c q from) n = refl
unheeding a (Judging aside) n = refl
unheeding a (Weighing c q from aside) n = refl

-- ---- transactions that were taken out

pub heeds_taken : (a : PlainActor) (left : ℕ) (from : Savepoint) (p : PlainPhase) → a.tx ≡ Applying left from p → done_by (record a { tx = Applying left from p }) left from a.accepted p.work p.values ≡ heeded a a.tx
heeds_taken a left from p is = ap (λ (t : Transaction). heeded (record a { tx = t }) t) (sym is)

-- the first of them are done where a validator has accepted
pub done_accepted : (a : PlainActor) (left : ℕ) (from : Savepoint) (o : Option Bool) (xs : List Task) (ws : Writes) → o ≡ Some true → done_by a left from (Some true) xs ws ≡ done_by a left from o xs ws
done_accepted a left from o xs ws is = ap (λ (x : Option Bool). done_by a left from x xs ws) (sym is)

module _ (fs : Validators) where
  pub begins_taken : (a : PlainActor) (left inner : ℕ) (from : Savepoint) → a.tx ≡ Running left inner from → inner ≡ 0 → begun_with (record a { tx = Running left 0 from }) left from (commuted a.done) (tasks_of fs a.done) ≡ at_tasks fs a a.tx
  begins_taken a left inner from is z = ap (λ (t : Transaction). at_tasks fs (record a { tx = t }) t) (sym (is ∙ ap (λ (n : ℕ). Running left n from) z))

  at_inner : (a : PlainActor) (left inner : ℕ) (from : Savepoint) → (inner ≡ 0 → ⊥) → at_tasks fs a (Running left inner from) ≡ a
  at_inner a left zero from n = absurd (n refl)
  at_inner a left (suc inner) from n = refl

  pub inner_stays : (a : PlainActor) (t : Transaction) (left inner : ℕ) (from : Savepoint) → t ≡ Running left inner from → (inner ≡ 0 → ⊥) → at_tasks fs a t ≡ a
  inner_stays a t left inner from is n = ap (λ (x : Transaction). at_tasks fs a x) is ∙ at_inner a left inner from n

  pub others_stay : (a : PlainActor) (t : Transaction) → ((l i : ℕ) (f : Savepoint) → t ≡ Running l i f → ⊥) → at_tasks fs a t ≡ a
  others_stay a Outside n = refl
  others_stay a (Restarting left) n = refl
  others_stay a (Running left inner from) n = absurd (n left inner from refl)
  others_stay a (Applying left from phase) n = refl
  others_stay a (Evaluating left from phase aside) n = refl
  others_stay a (Swapping c q from) n = refl
  others_stay a (Judging aside) n = refl
  others_stay a (Weighing c q from aside) n = refl
