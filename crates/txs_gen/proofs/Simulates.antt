-- The generated code does what the tree does, part by part.
use Rattle.std.proofs.Common.{◌≡◌, ℕ, zero, suc, ◌+◌, ◌≤◌, Bool, true, false, ◌&&◌, List, [], ◌∷◌, ◌++◌, length, Option, Some, None, Result, Ok, Err, refl, sym, ap, ◌∙◌, subst, arith, append_assoc, length-append, nat_eq, inr, if◌then◌else◌}
use Rattle.std.proofs.lemmas.Bool.{eqb-true, false≢true}
use Rattle.txs_value_apply.specs.Core.{core, vector_of}
use Rattle.txs_value_apply.specs.Truth.{choose}
use Rattle.txs_value_data.specs.Limits.{reruns}
use Rattle.txs_value_data.specs.Places.{nth, fault_at}
use Rattle.txs_value_data.specs.declared.fault.FaultKind.{FaultKind}
use Rattle.txs_value_cell.specs.Cells.{validator_at}
use Rattle.txs_value_cell.specs.Forms.{rule, cell_of}
use Rattle.txs_value_cell.specs.declared.form.CellForm.TheVariants as form_of
use Rattle.txs_value_cell.specs.declared.form.PutForm.{PutForm}
use Rattle.txs_value_cell.specs.declared.form.PutForm.TheVariants.{RefSet, Reset}
use Rattle.txs_value_data.specs.declared.fault.Span.{Span}
use Rattle.txs_value_cell.specs.declared.form.UpdateForm.{UpdateForm}
use Rattle.txs_value_cell.specs.declared.form.UpdateForm.TheVariants as update
use Rattle.txs_value_data.specs.declared.op.Callee.{Callee}
use Rattle.txs_value_data.specs.declared.op.Callee.TheVariants.{Core as CoreOp, Function}
use Rattle.txs_value_data.specs.declared.value.CellId.{CellId}
use Rattle.txs_value_data.specs.declared.value.Value.{Value}
use Rattle.txs_tree_meaning.specs.Known.{Known, is_pure, pure_in, all_pure}
use Rattle.txs_tree_meaning.specs.Meaning.{Completion, Completes, Recurs, Faults, Retries, Waits, OutOfTurns, Invalid, bind, again, closed, give, result_of, turns, last_or, Applies, apply, eval, eval_all, eval_let, eval_do}
use Rattle.txs_tree_meaning.specs.Tree.{Tree, Const, Local, If, Do, Let, Loop, Recur, Core, Call, VectorOf, Println, Dosync, Look, Put, Update, Send, Trees, none, more, count, is_none}
use Rattle.txs_code_meaning.specs.declared.instr.OpenForm.{OpenForm}
use Rattle.txs_code_meaning.specs.declared.instr.OpenForm.TheVariants as open_form
use Rattle.txs_code_meaning.specs.ActorState.{ActorState, StepResult, Continue, step_of, Verdict, Landed, Outdated, Undone, Denied, SwapInHand, open_swap, close_swap, break_swap, read, assign, assign_cell, RefUpdate, Alters, Commutes, open_update, close_update, send_to, print}
use Rattle.txs_code_meaning.specs.Machine.{PlainInstr, Push, Load, Store, Pop, Jump, JumpFalse, CoreOf, CallOf, MakeVector, PrintOf, TxBegin, TxEnd, LookOf, PutOf, OpenOf, CloseOf, SendOf, ThreadCode, locals_of, to_stack, Frame, Savepoint, Activity, Outside, Restarting, Running, Applying, Swapping, is_inside, Configuration, Turned, Unfinished, raise, where_valid, called, fetch, act, on, found, on_top, gives, starts, opens, opens_ref, closes, swap_decided, push_all, put, exec}
use Rattle.txs_theorem_threads.specs.OnReplies.{res, telling, swap_concludes, accepts, swaps_on, updates_ref, updates, puts, Anew, tries, on_replies}
use Rattle.txs_theorem_threads.proofs.Accepted.{AllValidators, validator_such}
use Rattle.txs_theorem_threads.proofs.Callees.{Keeps, KeepAll, IsPure, pure_callees}
use Rattle.txs_theorem_threads.proofs.Quiet.{carried, IsQuiet}
use Rattle.txs_gen.specs.Gen.{if_code, stores, do_code, callee_code, opening, gen, gen_all, gen_let, gen_do}
use Rattle.txs_gen.proofs.Clear.{StepClear, step_clear, step_clears, close_swap_clear, print_clear, read_clear, assign_cell_clear, assign_clear, open_update_clear, close_update_clear, open_swap_clear, send_clear}
use Rattle.txs_gen.proofs.Kept.{Kept, KeptAfter, close_asked, break_asked}
use Rattle.txs_gen.proofs.Lists.{append_nil, Holds, holds_front, holds_put, write, holds_write, args_taken, Stands, stands_front, stands_back, stands_length}
use Rattle.txs_gen.proofs.Steps.{configuration, frame, savepoint, Reaches, Comes, Lands, of, Simulates, raised_by, res_step, step, stays, one_to, one_past, one_comes, to_to, to_past, comes_to, before, bind_simulates, onward, lands_as, from_configuration, ask_simulates, choose_simulates, recast, handled_as, telling_simulates, to_from, again_simulates, first_simulates, closed_simulates}
use Rattle.txs_gen.proofs.Tries.{tries_simulate}
use Rattle.txs_gen.proofs.Validated.{Clear, AtValue, Never, AtHand, IfBound, bound_of, CallSimulates, acts, AtAccepted, validated_simulates}

-- the arguments lie on the stack
abbrev pub AtAll : ℕ → ℕ → List Value → List Value → List Frame → Activity → ℕ → List Value → ActorState → Configuration → Type 0
AtAll b stop st env fr doing cnt vs s c = (L : List Value) × Holds env L × (length vs ≡ cnt) × (c ≡ configuration b stop (push_all vs st) L fr doing s) × Clear s

-- the new locals are held
abbrev pub AtLet : ℕ → ℕ → List Value → List Value → List Frame → Activity → ℕ → List Value → ActorState → Configuration → Type 0
AtLet b stop st env fr doing cnt vs s c = (L : List Value) × Holds (env ++ vs) L × (length vs ≡ cnt) × (c ≡ configuration b stop st L fr doing s) × Clear s

-- a recur is at the start of its target's body
abbrev pub AtLoop : ℕ → ℕ → List Value → List Value → List Frame → Activity → List Value → ActorState → Configuration → Type 0
AtLoop b start st base fr doing vs s c = (L : List Value) × Holds (base ++ vs) L × (c ≡ configuration b start st L fr doing s) × Clear s

-- the locals of a part within its loop or function
pub record Deep (base env : List Value) (bl dp : ℕ) : Type 0 where
  pub inner : List Value
  pub within : env ≡ base ++ inner
  pub size : bl ≡ length base
  pub depth : dp ≡ length env

-- ---- where forms may stand

-- each form may stand here
abbrev pub Settled : Activity → Type 0
Settled Outside = Unit {0}
Settled (Restarting left) = ⊥
Settled (Running left inner from) = Unit {0}
Settled (Applying left from work values) = ⊥
Settled (Swapping swap from) = ⊥

-- what is needed follows
pub bound_to : {A B : Type 0} (doing : Activity) → (A → B) → IfBound doing A → IfBound doing B
bound_to Outside f h = tt
bound_to (Restarting left) f h = f h
bound_to (Running left inner from) f h = tt
bound_to (Applying left from work values) f h = f h
bound_to (Swapping swap from) f h = f h

-- what is not pure stands where each form may
settled : (doing : Activity) → IfBound doing (false ≡ true) → Settled doing
settled Outside h = tt
settled (Restarting left) h = absurd (false≢true h)
settled (Running left inner from) h = tt
settled (Applying left from work values) h = absurd (false≢true h)
settled (Swapping swap from) h = absurd (false≢true h)

-- where each form may stand nothing is needed
unbound : (A : Type 0) (doing : Activity) → Settled doing → IfBound doing A
unbound A Outside h = tt
unbound A (Restarting left) h = absurd h
unbound A (Running left inner from) h = tt
unbound A (Applying left from work values) h = absurd h
unbound A (Swapping swap from) h = absurd h

both_first : (a b : Bool) → (a && b) ≡ true → a ≡ true
both_first true b e = refl
both_first false b e = absurd (false≢true e)

both_second : (a b : Bool) → (a && b) ≡ true → b ≡ true
both_second true b e = e
both_second false b e = absurd (false≢true e)

-- pure parts of a pure part
pub pure_first : (doing : Activity) (a b : Bool) → IfBound doing ((a && b) ≡ true) → IfBound doing (a ≡ true)
pure_first doing a b h = bound_to doing (both_first a b) h

pub pure_second : (doing : Activity) (a b : Bool) → IfBound doing ((a && b) ≡ true) → IfBound doing (b ≡ true)
pure_second doing a b h = bound_to doing (both_second a b) h

-- what is known of the functions that code calls, and of their meanings
pub record Called (code : ThreadCode) (n : ℕ) (all : List Known) (call : Bool → ℕ → List Value → ActorState → Completion ActorState Value) : Type 0 where
  pub calls : CallSimulates code n all call
  pub quietly : Span → Applies (Unit {0})
  pub quiet : (inside : Bool) (span : Span) (c : Callee) (vs : List Value) (s : ActorState) → IsPure all c → (apply (call inside) span c vs s ≡ carried s (quietly span c vs tt)) × IsQuiet (quietly span c vs tt)
  pub valid : AllValidators (IsPure all) code.validators
  pub kept : (e : Tree) (env : List Value) (s : ActorState) → Keeps (pure_callees all) true e → Kept (IsPure all) s → KeptAfter (IsPure all) (eval (on_replies code.validators) call n true e env s)

closed_kept : (P : Callee → Type 0) (r : Completion ActorState Value) → KeptAfter P r → KeptAfter P (closed r)
closed_kept P (Completes v s) h = h
closed_kept P (Recurs vs s) h = tt
closed_kept P (Faults f s) h = tt
closed_kept P (Retries s) h = h
closed_kept P (Waits s) h = tt
closed_kept P (OutOfTurns s) h = tt
closed_kept P Invalid h = tt

module _ (code : ThreadCode) (n : ℕ) (all : List Known) (call : Bool → ℕ → List Value → ActorState → Completion ActorState Value) (known_calls : Called code n all call) (b : ℕ) (fr : List Frame) where
  -- a turn whose step leaves a value
  gives_simulates : (c : Configuration) (p stop : ℕ) (given st env L : List Value) (doing : Activity) (R : Lands (List Value)) (s : ActorState) (r : StepResult Value) → p + 1 ≡ stop → Holds env L → StepClear r → AtHand code c (gives (configuration b p given L fr doing s) st r) →
      Simulates code n (of doing) (AtValue b stop st env fr doing) R c (res r)
  gives_simulates c p stop given st env L doing R s r e h clear at =
      subst (λ q. Simulates code n (of doing) (AtValue b q st env fr doing) R c (res r)) e
      (step_clears code n doing (AtValue b (p + 1) st env fr doing) R c r (λ v s1. configuration b (p + 1) (v ∷ st) L fr doing s1) at clear (λ v s1 k. (L, h, refl, k)))

  -- an instruction whose step leaves a value
  one_step : (i : PlainInstr) (p stop : ℕ) (given st env L : List Value) (doing : Activity) (R : Lands (List Value)) (s : ActorState) (r : StepResult Value) → fetch code b p ≡ Some i → p + 1 ≡ stop → Holds env L → StepClear r →
      act code (Some i) (configuration b p given L fr doing s) ≡ gives (configuration b p given L fr doing s) st r →
      Simulates code n (of doing) (AtValue b stop st env fr doing) R (configuration b p given L fr doing s) (res r)
  one_step i p stop given st env L doing R s r at e h clear does =
      let c = configuration b p given L fr doing s in
      gives_simulates c p stop given st env L doing R s r e h clear (acts code n all call known_calls.calls b fr c i (gives c st r) at does)

  push_simulates : (v : Value) (pc stop : ℕ) (st env L : List Value) (doing : Activity) (R : Lands (List Value)) (s : ActorState) → Stands code b pc (Push v ∷ []) stop → Holds env L → Clear s → Simulates code n (of doing) (AtValue b stop st env fr doing) R (configuration b pc st L fr doing s) (Completes v s)
  push_simulates v pc stop st env L doing R s has h clear = one_step (Push v) pc stop st st env L doing R s (Continue v s) has.0 has.1 h clear refl

  local_simulates : (i pc stop : ℕ) (st env L : List Value) (doing : Activity) (R : Lands (List Value)) (s : ActorState) (o : Option Value) → nth env i ≡ o → Stands code b pc (Load i ∷ []) stop → Holds env L → Clear s → Simulates code n (of doing) (AtValue b stop st env fr doing) R (configuration b pc st L fr doing s) (give o s)
  local_simulates i pc stop st env L doing R s None e has h clear = tt
  local_simulates i pc stop st env L doing R s (Some v) e has h clear =
      let c = configuration b pc st L fr doing s in
      one_step (Load i) pc stop st st env L doing R s (Continue v s) has.0 has.1 h clear (ap (λ o. gives c st (found o s)) (h i v e))

  -- arguments, and what is called with them
  apply_simulates : (callee : Callee) (span : Span) (cnt p stop : ℕ) (vs st env L : List Value) (doing : Activity) (R : Lands (List Value)) (s : ActorState) → IfBound doing (IsPure all callee) → length vs ≡ cnt → fetch code b p ≡ Some (callee_code callee cnt span) → p + 1 ≡ stop → Holds env L → Clear s →
      Simulates code n (of doing) (AtValue b stop st env fr doing) R (configuration b p (push_all vs st) L fr doing s) (apply (call (is_inside doing)) span callee vs s)
  apply_simulates (CoreOp op) span cnt p stop vs st env L doing R s ok len at e h clear =
      let c = configuration b p (push_all vs st) L fr doing s in
      subst (λ r. Simulates code n (of doing) (AtValue b stop st env fr doing) R c r) (res_step (core op vs) span s)
      (one_step (CoreOf op cnt span) p stop (push_all vs st) st env L doing R s (step_of (core op vs) span s) at e h (step_clear (core op vs) span s clear) (args_taken vs cnt st (λ ws rest. gives c rest (step_of (core op ws) span s)) len))
  apply_simulates (Function f) span cnt p stop vs st env L doing R s ok len at e h clear =
      let c = configuration b p (push_all vs st) L fr doing s in
      let c1 = configuration (suc f) 0 [] (locals_of (nth code.functions f) vs) (frame b (p + 1) st L to_stack ∷ fr) doing s in
      let r = call (is_inside doing) f vs s in
      before code n (of doing) (AtValue b stop st env fr doing) R c c1 r
      (one_to code c c1 (acts code n all call known_calls.calls b fr c (CallOf f cnt) (Unfinished c1) at (args_taken vs cnt st (λ ws rest. Unfinished (called code f ws to_stack (p + 1) rest c)) len)))
      (recast code n (of doing) (λ v s1 c2. (c2 ≡ configuration b (p + 1) (v ∷ st) L fr doing s1) × Clear s1) (AtValue b stop st env fr doing) Never R c1 r (known_calls.calls f vs b (p + 1) st L fr doing to_stack s ok clear)
      (λ v s1 c2 q. (L, h, q.0 ∙ ap (λ m. configuration b m (v ∷ st) L fr doing s1) e, q.1)) (λ ws s1 c2 bad. absurd bad))

  -- the items of a vector
  vector_simulates : (span : Span) (cnt p stop : ℕ) (vs st env L : List Value) (doing : Activity) (R : Lands (List Value)) (s : ActorState) → length vs ≡ cnt → fetch code b p ≡ Some (MakeVector cnt span) → p + 1 ≡ stop → Holds env L → Clear s → Simulates code n (of doing) (AtValue b stop st env fr doing) R (configuration b p (push_all vs st) L fr doing s) (result_of (vector_of vs) span s)
  vector_simulates span cnt p stop vs st env L doing R s len at e h clear =
      let c = configuration b p (push_all vs st) L fr doing s in
      subst (λ r. Simulates code n (of doing) (AtValue b stop st env fr doing) R c r) (res_step (vector_of vs) span s)
      (one_step (MakeVector cnt span) p stop (push_all vs st) st env L doing R s (step_of (vector_of vs) span s) at e h (step_clear (vector_of vs) span s clear) (args_taken vs cnt st (λ ws rest. gives c rest (step_of (vector_of ws) span s)) len))

  -- arguments, and a form that takes them
  print_simulates : (cnt p stop : ℕ) (vs st env L : List Value) (doing : Activity) (R : Lands (List Value)) (s : ActorState) → length vs ≡ cnt → fetch code b p ≡ Some (PrintOf cnt) → p + 1 ≡ stop → Holds env L → Clear s → Simulates code n (of doing) (AtValue b stop st env fr doing) R (configuration b p (push_all vs st) L fr doing s) (res (print (is_inside doing) vs s))
  print_simulates cnt p stop vs st env L doing R s len at e h clear =
      let c = configuration b p (push_all vs st) L fr doing s in
      one_step (PrintOf cnt) p stop (push_all vs st) st env L doing R s (print (is_inside doing) vs s) at e h (print_clear (is_inside doing) vs s clear) (args_taken vs cnt st (λ ws rest. gives c rest (print (is_inside doing) ws s)) len)

  -- a send: the agent, and above it the arguments
  send_simulates : (callee : Callee) (span : Span) (cnt p stop : ℕ) (a : Value) (vs st env L : List Value) (doing : Activity) (R : Lands (List Value)) (s : ActorState) → length vs ≡ cnt → fetch code b p ≡ Some (SendOf callee cnt span) → p + 1 ≡ stop → Holds env L → Clear s → Simulates code n (of doing) (AtValue b stop st env fr doing) R (configuration b p (push_all vs (a ∷ st)) L fr doing s) (res (send_to (is_inside doing) span a callee vs s))
  send_simulates callee span cnt p stop a vs st env L doing R s len at e h clear =
      let c = configuration b p (push_all vs (a ∷ st)) L fr doing s in
      one_step (SendOf callee cnt span) p stop (push_all vs (a ∷ st)) st env L doing R s (send_to (is_inside doing) span a callee vs s) at e h (send_clear (is_inside doing) span a callee vs s clear)
      (args_taken vs cnt (a ∷ st) (λ ws under. on_top under (λ d rest. gives c rest (send_to (is_inside doing) span d callee ws s))) len)

  -- `alter` and `commute`: the open, the callee and the close
  update_simulates : (u : RefUpdate) (by : OpenForm) (form : UpdateForm) → ((span : Span) (vs : List Value) (d : Value) (rest : List Value) (c : Configuration) → opens by span vs d rest c ≡ opens_ref u span vs d rest c) → ((span : Span) (w d : Value) (rest : List Value) (c : Configuration) → closes code form span w d rest c ≡ gives c rest (close_update span d w c.state)) →
      (callee : Callee) (span : Span) (cnt p stop : ℕ) (c : Value) (vs st env L : List Value) (doing : Activity) (R : Lands (List Value)) (s : ActorState) → Settled doing → length vs ≡ cnt → Stands code b p (OpenOf by cnt span ∷ callee_code callee (suc cnt) span ∷ CloseOf form span ∷ []) stop → Holds env L → Clear s →
      Simulates code n (of doing) (AtValue b stop st env fr doing) R (configuration b p (push_all vs (c ∷ st)) L fr doing s) (updates_ref u (is_inside doing) span c callee vs (apply (call (is_inside doing)) span) s)
  update_simulates u by form opens_so closes_so callee span cnt p stop c vs st env L doing R s ok len has h clear =
      let c0 = configuration b p (push_all vs (c ∷ st)) L fr doing s in
      let G = AtValue b stop st env fr doing in
      let next : Value → ActorState → Configuration = λ v s1. configuration b (p + 1) (push_all (v ∷ vs) (c ∷ st)) L fr doing s1 in
      let close : Value → ActorState → Completion ActorState Value = λ w s2. res (close_update span c w s2) in
      let opened = on doing (open_update u (is_inside doing) span c vs s) (λ v s1. Unfinished (next v s1)) in
      let G1 : Lands Value = λ v s1 c1. (c1 ≡ next v s1) × Clear s1 in
      bind_simulates code n (of doing) G1 R G R c0 (res (open_update u (is_inside doing) span c vs s)) (λ v s1. bind (apply (call (is_inside doing)) span callee (v ∷ vs) s1) close)
      (step_clears code n doing G1 R c0 (open_update u (is_inside doing) span c vs s) next
      (acts code n all call known_calls.calls b fr c0 (OpenOf by cnt span) opened has.0
      (args_taken vs cnt (c ∷ st) (λ ws under. on_top under (λ d rest. opens by span ws d rest c0)) len ∙ opens_so span vs c st c0))
      (open_update_clear u (is_inside doing) span c vs s clear) (λ v s1 k. (refl, k)))
      (λ v s1 c1 e1. from_configuration code n (of doing) G R c1 (next v s1) _ e1.0
      (bind_simulates code n (of doing) (AtValue b (p + 1 + 1) (c ∷ st) env fr doing) R G R (next v s1) (apply (call (is_inside doing)) span callee (v ∷ vs) s1) close
      (apply_simulates callee span (suc cnt) (p + 1) (p + 1 + 1) (v ∷ vs) (c ∷ st) env L doing R s1 (unbound (IsPure all callee) doing ok) (ap suc len) has.1.0 refl h e1.1)
      (λ w s2 c2 g.
      let there = configuration b (p + 1 + 1) (w ∷ c ∷ st) g.0 fr doing s2 in
      from_configuration code n (of doing) G R c2 there (close w s2) g.2
      (one_step (CloseOf form span) (p + 1 + 1) stop (w ∷ c ∷ st) st env g.0 doing R s2 (close_update span c w s2) has.1.1.0 has.1.1.1 g.1 (close_update_clear span c w s2 g.3) (closes_so span w c st there)))))

  -- a swap, again from its open where the atom changed
  module _ (callee : Callee) (pure : IsPure all callee) (span : Span) (cnt p stop : ℕ) (c : Value) (vs st env L : List Value) (R : Lands (List Value)) (len : length vs ≡ cnt) (has : Stands code b p (OpenOf (open_form.Swap callee) cnt span ∷ callee_code callee (suc cnt) span ∷ CloseOf update.Swap span ∷ []) stop) (h : Holds env L) where
    -- where the swap begins
    abbrev at_open : ActorState → Configuration
    at_open s = configuration b p (push_all vs (c ∷ st)) L fr Outside s

    abbrev began : Savepoint
    began = savepoint span b p (push_all vs (c ∷ st)) L fr

    abbrev hand : SwapInHand → Activity
    hand w = Swapping w began

    -- at its close, with the new value
    abbrev at_close : SwapInHand → Value → List Value → ActorState → Configuration
    at_close o w L1 s = configuration b (p + 1 + 1) (w ∷ c ∷ st) L1 fr (hand o) s

    -- its callee gives the new value, which the atom's validator accepts
    abbrev applying : CellId → Value → ActorState → Completion ActorState Value
    applying a v s1 = bind (apply (call false) span callee (v ∷ vs) s1) (accepts code.validators (apply (call false) span) a span)

    -- where the new value is accepted
    abbrev closes_with : SwapInHand → Value → Configuration → Turned Configuration
    closes_with o w c1 = on c1.doing (close_swap o w c1.state) (λ d s. swap_decided d began w st c1 s)

    -- what its close then comes to
    abbrev AtClose : SwapInHand → Value → ActorState → Configuration → Type 0
    AtClose o w s c1 = (L1 : List Value) × Holds env L1 × AtHand code c1 (closes_with o w (at_close o w L1 s)) × Clear s

    -- the validator looks at what the callee gave
    accepts_simulates : (o : SwapInHand) (w : Value) (L1 : List Value) (s : ActorState) → Holds env L1 → Clear s → Simulates code n (of (hand o)) (AtClose o) R (at_close o w L1 s) (accepts code.validators (apply (call false) span) o.cell span w s)
    accepts_simulates o w L1 s hl clear =
        let turns_to : (s1 : ActorState) → AtHand code (at_close o w L1 s1) (where_valid code (validator_at code.validators o.cell.number) w span (at_close o w L1 s1) (closes_with o w)) =
        λ s1. acts code n all call known_calls.calls b fr (at_close o w L1 s1) (CloseOf update.Swap span) (closes code update.Swap span w c st (at_close o w L1 s1)) has.1.1.0 refl in
        recast code n (of (hand o)) (AtAccepted code n all call known_calls.calls b fr span (p + 1 + 1) (w ∷ c ∷ st) L1 (hand o) (known_calls.quietly span) (known_calls.quiet false span) (closes_with o w) w s) (AtClose o) Never R (at_close o w L1 s)
        (accepts code.validators (apply (call false) span) o.cell span w s)
        (validated_simulates code n all call known_calls.calls b fr span (p + 1 + 1) (w ∷ c ∷ st) L1 (hand o) (known_calls.quietly span) (known_calls.quiet false span) (validator_at code.validators o.cell.number) w s (at_close o w L1 s) (closes_with o w)
        (validator_such (IsPure all) code.validators o.cell.number known_calls.valid) clear (turns_to s) (λ answer. turns_to (record s { accepted = Some answer })))
        (λ x s1 c1 a. (L1, hl, subst (λ y. AtHand code c1 (closes_with o y (at_close o y L1 s1))) (sym a.0) (subst (λ z. AtHand code c1 (closes_with o w (at_close o w L1 z))) (sym a.1) a.2), subst Clear (sym a.1) clear))
        (λ us s1 c1 bad. absurd bad)

    -- after the answer to its close
    swap_decides : (k : ℕ) → ((s : ActorState) → Clear s → Simulates code n (of Outside) (AtValue b stop st env fr Outside) R (at_open s) (swaps_on k span c applying s)) → (here : Configuration) (w : SwapInHand) (x : Value) (L1 : List Value) (s0 s : ActorState) (d : Verdict) → Holds env L1 → Clear s →
        Comes code here (swap_decided d began x st (at_close w x L1 s0) s) →
        Simulates code n (of Outside) (AtValue b stop st env fr Outside) R here (swap_concludes d x (swaps_on k span c applying) s)
    swap_decides k again here w x L1 s0 s Landed hl clear r =
        (configuration b (p + 1 + 1 + 1) (x ∷ st) L1 fr Outside s, (L1, hl, ap (λ q. configuration b q (x ∷ st) L1 fr Outside s) has.1.1.1, clear), comes_to code here (configuration b (p + 1 + 1 + 1) (x ∷ st) L1 fr Outside s) r)
    swap_decides k again here w x L1 s0 s Outdated hl clear r = before code n (of Outside) (AtValue b stop st env fr Outside) R here (at_open s) (swaps_on k span c applying s) (comes_to code here (at_open s) r) (again s clear)
    swap_decides k again here w x L1 s0 s Undone hl clear r = tt
    swap_decides k again here w x L1 s0 s Denied hl clear r = tt

    swaps_simulate : (k : ℕ) (s : ActorState) → Clear s → Simulates code n (of Outside) (AtValue b stop st env fr Outside) R (at_open s) (swaps_on k span c applying s)
    swaps_simulate zero s clear = tt
    swaps_simulate (suc k) s clear =
        let G = AtValue b stop st env fr Outside in
        let next : SwapInHand × Value → ActorState → Configuration = λ o s1. configuration b (p + 1) (push_all (o.1 ∷ vs) (c ∷ st)) L fr (hand o.0) s1 in
        let close : SwapInHand → Value → ActorState → Completion ActorState Value = λ w x s2. bind (res (close_swap w x s2)) (λ d s3. swap_concludes d x (swaps_on k span c applying) s3) in
        let opened = on Outside (open_swap false span c s) (λ o s1. Unfinished (next o s1)) in
        let G1 : Lands (SwapInHand × Value) = λ o s1 c1. (c1 ≡ next o s1) × Clear s1 in
        bind_simulates code n (of Outside) G1 R G R (at_open s) (res (open_swap false span c s)) (λ o s1. telling (break_swap o.0) (applying o.0.cell o.1 s1) (close o.0))
        (step_clears code n Outside G1 R (at_open s) (open_swap false span c s) next
        (acts code n all call known_calls.calls b fr (at_open s) (OpenOf (open_form.Swap callee) cnt span) opened has.0
        (args_taken vs cnt (c ∷ st) (λ ws under. on_top under (λ d rest. opens (open_form.Swap callee) span ws d rest (at_open s))) len))
        (open_swap_clear false span c s clear) (λ o s1 k1. (refl, k1)))
        (λ o s1 c1 e1. from_configuration code n (of Outside) G R c1 (next o s1) (telling (break_swap o.0) (applying o.0.cell o.1 s1) (close o.0)) e1.0
        (telling_simulates code n (of (hand o.0)) (of Outside) (AtClose o.0) R G R (next o s1) (break_swap o.0) (applying o.0.cell o.1 s1) (close o.0) (break_asked o.0) (λ f s2 t e. e) (λ f s2 t e. inr e) (λ s2 w. refl)
        (bind_simulates code n (of (hand o.0)) (AtValue b (p + 1 + 1) (c ∷ st) env fr (hand o.0)) R (AtClose o.0) R (next o s1) (apply (call false) span callee (o.1 ∷ vs) s1) (accepts code.validators (apply (call false) span) o.0.cell span)
        (apply_simulates callee span (suc cnt) (p + 1) (p + 1 + 1) (o.1 ∷ vs) (c ∷ st) env L (hand o.0) R s1 pure (ap suc len) has.1.0 refl h e1.1)
        (λ x s2 c2 g. from_configuration code n (of (hand o.0)) (AtClose o.0) R c2 (at_close o.0 x g.0 s2) (accepts code.validators (apply (call false) span) o.0.cell span x s2) g.2 (accepts_simulates o.0 x g.0 s2 g.1 g.3)))
        (λ x s2 c2 w g.
        ask_simulates code n (hand o.0) (of Outside) G R c2 (close_swap o.0 x s2) (λ d s3. swap_decided d began x st (at_close o.0 x g.0 s2) s3) (λ d s3. swap_concludes d x (swaps_on k span c applying) s3) (close_asked o.0 x s2) g.2
        (λ d s3 e r. swap_decides k (swaps_simulate k) c2 o.0 x g.0 s2 s3 d g.1 (subst (λ y. StepClear y) e (close_swap_clear o.0 x s2 g.3)) r))))

  -- a swap is outside
  swap_simulates : (callee : Callee) (span : Span) (cnt p stop : ℕ) (c : Value) (vs st env L : List Value) (doing : Activity) (R : Lands (List Value)) (s : ActorState) → Settled doing → IsPure all callee → length vs ≡ cnt → Stands code b p (OpenOf (open_form.Swap callee) cnt span ∷ callee_code callee (suc cnt) span ∷ CloseOf update.Swap span ∷ []) stop → Holds env L → Clear s →
      Simulates code n (of doing) (AtValue b stop st env fr doing) R (configuration b p (push_all vs (c ∷ st)) L fr doing s) (updates code.validators update.Swap (is_inside doing) span c callee vs (apply (call (is_inside doing)) span) s)
  swap_simulates callee span cnt p stop c vs st env L Outside R s ok pure len has h clear =
      swaps_simulate callee pure span cnt p stop c vs st env L R len has h (suc (length s.todo)) s clear
  swap_simulates callee span cnt p stop c vs st env L (Restarting left) R s ok pure len has h clear = absurd ok
  swap_simulates callee span cnt p stop c vs st env L (Running left inner from) R s ok pure len has h clear = tt
  swap_simulates callee span cnt p stop c vs st env L (Applying left from work values) R s ok pure len has h clear = absurd ok
  swap_simulates callee span cnt p stop c vs st env L (Swapping swap from) R s ok pure len has h clear = absurd ok

  -- the forms that update
  updates_simulate : (form : UpdateForm) (callee : Callee) (span : Span) (cnt p stop : ℕ) (c : Value) (vs st env L : List Value) (doing : Activity) (R : Lands (List Value)) (s : ActorState) → Settled doing → IsPure all callee → length vs ≡ cnt → Stands code b p (OpenOf (opening form callee) cnt span ∷ callee_code callee (suc cnt) span ∷ CloseOf form span ∷ []) stop → Holds env L → Clear s →
      Simulates code n (of doing) (AtValue b stop st env fr doing) R (configuration b p (push_all vs (c ∷ st)) L fr doing s) (updates code.validators form (is_inside doing) span c callee vs (apply (call (is_inside doing)) span) s)
  updates_simulate update.Alter callee span cnt p stop c vs st env L doing R s ok pure len has h clear =
      update_simulates Alters open_form.Alter update.Alter (λ sp ws d rest k. refl) (λ sp w d rest k. refl) callee span cnt p stop c vs st env L doing R s ok len has h clear
  updates_simulate update.Commute callee span cnt p stop c vs st env L doing R s ok pure len has h clear =
      update_simulates (Commutes callee) (open_form.Commute callee) update.Commute (λ sp ws d rest k. refl) (λ sp w d rest k. refl) callee span cnt p stop c vs st env L doing R s ok len has h clear
  updates_simulate update.Swap callee span cnt p stop c vs st env L doing R s ok pure len has h clear = swap_simulates callee span cnt p stop c vs st env L doing R s ok pure len has h clear

  -- ---- the forms that put

  -- `reset!`, of a value that the atom's validator accepts
  module _ (span : Span) (p stop : ℕ) (d w : Value) (st env L : List Value) (doing : Activity) (R : Lands (List Value)) (e : p + 1 ≡ stop) (h : Holds env L) where
    abbrev at_reset : ActorState → Configuration
    at_reset s = configuration b p (w ∷ d ∷ st) L fr doing s

    -- where the value is accepted
    abbrev resets_with : CellId → Configuration → Turned Configuration
    resets_with a c1 = gives c1 st (assign_cell Reset (is_inside doing) span w a c1.state)

    -- the atom is reset, once the validator has looked at the value
    abbrev resets : CellId → Value → ActorState → Completion ActorState Value
    resets a v s = res (assign_cell Reset (is_inside doing) span v a s)

    reset_simulates : (s : ActorState) (o : Result CellId FaultKind) → s.accepted ≡ None → ((s1 : ActorState) → AtHand code (at_reset s1) (on doing (step_of o span s1) (λ a s2. where_valid code (validator_at code.validators a.number) w span (at_reset s1) (resets_with a)))) →
        Simulates code n (of doing) (AtValue b stop st env fr doing) R (at_reset s) (bind (res (step_of o span s)) (λ a s1. bind (accepts code.validators (apply (call (is_inside doing)) span) a span w s1) (resets a)))
    reset_simulates s (Ok a) clear at =
        let G = AtValue b stop st env fr doing in
        let o = validator_at code.validators a.number in
        bind_simulates code n (of doing) (AtAccepted code n all call known_calls.calls b fr span p (w ∷ d ∷ st) L doing (known_calls.quietly span) (known_calls.quiet (is_inside doing) span) (resets_with a) w s) Never G R (at_reset s)
        (accepts code.validators (apply (call (is_inside doing)) span) a span w s) (resets a)
        (validated_simulates code n all call known_calls.calls b fr span p (w ∷ d ∷ st) L doing (known_calls.quietly span) (known_calls.quiet (is_inside doing) span) o w s (at_reset s) (resets_with a)
        (validator_such (IsPure all) code.validators a.number known_calls.valid) clear (at s) (λ answer. at (record s { accepted = Some answer })))
        (λ v s1 c1 k.
        subst (λ y. Simulates code n (of doing) G R c1 (resets a y s1)) (sym k.0)
        (subst (λ z. Simulates code n (of doing) G R c1 (resets a w z)) (sym k.1)
        (gives_simulates c1 p stop (w ∷ d ∷ st) st env L doing R s (assign_cell Reset (is_inside doing) span w a s) e h (assign_cell_clear Reset (is_inside doing) span w a s clear) k.2)))
    reset_simulates s (Err k) clear at = raised_by code doing (fault_at k span) s (at_reset s) (one_comes code (at_reset s) (raise doing (fault_at k span) s) (at s))

  -- each form that puts
  puts_simulate : (form : PutForm) (span : Span) (p stop : ℕ) (d w : Value) (st env L : List Value) (doing : Activity) (R : Lands (List Value)) (s : ActorState) → Settled doing → fetch code b p ≡ Some (PutOf form span) → p + 1 ≡ stop → Holds env L → Clear s →
      Simulates code n (of doing) (AtValue b stop st env fr doing) R (configuration b p (w ∷ d ∷ st) L fr doing s) (puts code.validators form (is_inside doing) span d w (apply (call (is_inside doing)) span) s)
  puts_simulate RefSet span p stop d w st env L doing R s ok at e h clear =
      one_step (PutOf RefSet span) p stop (w ∷ d ∷ st) st env L doing R s (assign RefSet (is_inside doing) span d w s) at e h (assign_clear RefSet (is_inside doing) span d w s clear) refl
  puts_simulate Reset span p stop d w st env L doing R s ok at e h clear =
      reset_simulates span p stop d w st env L doing R e h s (cell_of (rule (form_of.Put Reset)) (is_inside doing) d) clear
      (λ s1. acts code n all call known_calls.calls b fr (at_reset span p stop d w st env L doing R e h s1) (PutOf Reset span) _ at refl)

  -- a choice, after its test
  if_simulates : (p stop : ℕ) (ca : List PlainInstr) (fb : ℕ → List PlainInstr) (v : Value) (st env L : List Value) (doing : Activity) (R : Lands (List Value)) (s : ActorState) (ra rb : Completion ActorState Value) → Stands code b p (if_code p ca fb) stop →
      (Stands code b (p + 1) ca (p + 1 + length ca) → Simulates code n (of doing) (AtValue b (p + 1 + length ca) st env fr doing) R (configuration b (p + 1) st L fr doing s) ra) →
      (Stands code b (p + 1 + length ca + 1) (fb (p + 1 + length ca + 1)) stop → Simulates code n (of doing) (AtValue b stop st env fr doing) R (configuration b (p + 1 + length ca + 1) st L fr doing s) rb) →
      Simulates code n (of doing) (AtValue b stop st env fr doing) R (configuration b p (v ∷ st) L fr doing s) (choose v ra rb)
  if_simulates p stop ca fb v st env L doing R s ra rb has ha hb =
      let q = p + 1 + length ca in
      let front = stands_front code b (p + 1) ca _ stop has.1 in
      let rear = stands_back code b (p + 1) ca _ stop has.1 in
      let len = stands_length code b (q + 1) (fb (q + 1)) stop rear.1 in
      let G = AtValue b stop st env fr doing in
      choose_simulates code n (of doing) G R (configuration b p (v ∷ st) L fr doing s) (λ m. configuration b m st L fr doing s) (p + 1) (q + 1) v ra rb
      (λ k. step code (configuration b p (v ∷ st) L fr doing s) (JumpFalse (q + 1)) has.0 k)
      (onward code n (of doing) (AtValue b q st env fr doing) R G (configuration b (p + 1) st L fr doing s) ra (ha front)
      (λ w s1 c1 g. (
        configuration b stop (w ∷ st) g.0 fr doing s1,
        (g.0, g.1, refl, g.3),
        to_from code c1 (configuration b q (w ∷ st) g.0 fr doing s1) _ g.2
            (one_to code _ _ (λ k. step code (configuration b q (w ∷ st) g.0 fr doing s1) (Jump (q + 1 + length (fb (q + 1)))) rear.0 k ∙ ap (λ m. exec code k (configuration b m (w ∷ st) g.0 fr doing s1)) len)),
      )))
      (hb rear.1)

  -- an item of a do, and what follows it
  item_simulates : (last : Bool) (pc stop : ℕ) (ca : List PlainInstr) (fr' : ℕ → List PlainInstr) (st env L : List Value) (doing : Activity) (R : Lands (List Value)) (s : ActorState) (r : Completion ActorState Value) (go : ActorState → Completion ActorState Value) → Stands code b pc (do_code last pc ca fr') stop →
      ((stop1 : ℕ) → Stands code b pc ca stop1 → Simulates code n (of doing) (AtValue b stop1 st env fr doing) R (configuration b pc st L fr doing s) r) →
      ((p : ℕ) (L1 : List Value) (s1 : ActorState) → Holds env L1 → Clear s1 → Stands code b p (fr' p) stop → Simulates code n (of doing) (AtValue b stop st env fr doing) R (configuration b p st L1 fr doing s1) (go s1)) →
      Simulates code n (of doing) (AtValue b stop st env fr doing) R (configuration b pc st L fr doing s) (last_or last r go)
  item_simulates true pc stop ca fr' st env L doing R s r go has ha hb = ha stop has
  item_simulates false pc stop ca fr' st env L doing R s r go has ha hb =
      let p = pc + length ca in
      let rear = stands_back code b pc ca _ stop has in
      let G = AtValue b stop st env fr doing in
      bind_simulates code n (of doing) (AtValue b p st env fr doing) R G R (configuration b pc st L fr doing s) r (λ v s1. go s1) (ha p (stands_front code b pc ca _ stop has))
      (λ v s1 c1 g. from_configuration code n (of doing) G R c1 (configuration b p (v ∷ st) g.0 fr doing s1) (go s1) g.2
      (before code n (of doing) G R (configuration b p (v ∷ st) g.0 fr doing s1) (configuration b (p + 1) st g.0 fr doing s1) (go s1)
      (one_to code _ _ (λ k. step code (configuration b p (v ∷ st) g.0 fr doing s1) Pop rear.0 k)) (hb (p + 1) g.0 s1 g.1 g.3 rear.1)))

  -- at most m turns
  pub turns_simulates : (m d start : ℕ) (st base : List Value) (doing : Activity) (G : Lands Value) (R : Lands (List Value)) (body : List Value → ActorState → Completion ActorState Value) → m ≤ n →
      ((vs L : List Value) (s : ActorState) → length vs ≡ d → Holds (base ++ vs) L → Clear s → Simulates code n (of doing) G (AtLoop b start st base fr doing) (configuration b start st L fr doing s) (body vs s)) →
      (vs L : List Value) (s : ActorState) → Holds (base ++ vs) L → Clear s → Simulates code m (of doing) G R (configuration b start st L fr doing s) (turns m d body vs s)
  turns_simulates zero d start st base doing G R body le hb vs L s h clear = (0, omega arith, refl)
  turns_simulates (suc m) d start st base doing G R body le hb vs L s h clear = turn (nat_eq (length vs) d) refl (λ ws L1 s1 h1 k1. turns_simulates m d start st base doing G R body (omega (arith, le)) hb ws L1 s1 h1 k1)
    where
      turn : (t : Bool) → nat_eq (length vs) d ≡ t → ((ws L1 : List Value) (s1 : ActorState) → Holds (base ++ ws) L1 → Clear s1 → Simulates code m (of doing) G R (configuration b start st L1 fr doing s1) (turns m d body ws s1)) → Simulates code (suc m) (of doing) G R (configuration b start st L fr doing s) (if t then again (body vs s) (turns m d body) else Invalid)
      turn true e next =
          again_simulates code n m (of doing) G (AtLoop b start st base fr doing) R (configuration b start st L fr doing s) (body vs s) (turns m d body) le (hb vs L s (eqb-true (length vs) d e) h clear)
          (λ ws s1 c1 g. from_configuration code m (of doing) G R c1 (configuration b start st g.0 fr doing s1) (turns m d body ws s1) g.2 (next ws g.0 s1 g.1 g.3))
      turn false e next = tt

  -- a function's body, and at most n recurs to it
  pub call_turns_simulate : (d start : ℕ) (st base : List Value) (doing : Activity) (G : Lands Value) (R : Lands (List Value)) (body : List Value → ActorState → Completion ActorState Value) →
      ((vs L : List Value) (s : ActorState) → length vs ≡ d → Holds (base ++ vs) L → Clear s → Simulates code n (of doing) G (AtLoop b start st base fr doing) (configuration b start st L fr doing s) (body vs s)) →
      (vs L : List Value) (s : ActorState) → Holds (base ++ vs) L → Clear s → Simulates code n (of doing) G R (configuration b start st L fr doing s) (turns (suc n) d body vs s)
  call_turns_simulate d start st base doing G R body hb vs L s h clear = turn (nat_eq (length vs) d) refl
    where
      turn : (t : Bool) → nat_eq (length vs) d ≡ t → Simulates code n (of doing) G R (configuration b start st L fr doing s) (if t then again (body vs s) (turns n d body) else Invalid)
      turn true e =
          first_simulates code n (of doing) G (AtLoop b start st base fr doing) R (configuration b start st L fr doing s) (body vs s) (turns n d body) (hb vs L s (eqb-true (length vs) d e) h clear)
          (λ ws s1 c1 g. from_configuration code n (of doing) G R c1 (configuration b start st g.0 fr doing s1) (turns n d body ws s1) g.2 (turns_simulates n d start st base doing G R body (omega arith) hb ws g.0 s1 g.1 g.3))
      turn false e = tt

  -- the stores of a recur
  stores_to : (vs : List Value) (i p stop : ℕ) (st L : List Value) (doing : Activity) (s : ActorState) → Stands code b p (stores i (length vs)) stop → Reaches code (configuration b p (push_all vs st) L fr doing s) (configuration b stop st (write i vs L) fr doing s)
  stores_to [] i p stop st L doing s has = subst (λ m. Reaches code (configuration b p st L fr doing s) (configuration b m st L fr doing s)) has (stays code (configuration b p st L fr doing s))
  stores_to (v ∷ vs) i p stop st L doing s has =
      let cs = stores (i + 1) (length vs) in
      let q = p + length cs in
      let rear = stands_back code b p cs (Store i ∷ []) stop has in
      let L1 = write (i + 1) vs L in
      to_to code (configuration b p (push_all vs (v ∷ st)) L fr doing s) (configuration b q (v ∷ st) L1 fr doing s) (configuration b stop st (put L1 i v) fr doing s)
      (stores_to vs (i + 1) p q (v ∷ st) L doing s (stands_front code b p cs (Store i ∷ []) stop has))
      (one_to code _ _ (λ k. step code (configuration b q (v ∷ st) L1 fr doing s) (Store i) rear.0 k ∙ ap (λ m. exec code k (configuration b m st (put L1 i v) fr doing s)) rear.1))

  recur_simulates : (cnt p start stop : ℕ) (vs st base env L : List Value) (bl dp : ℕ) (doing : Activity) (G : Lands Value) (s : ActorState) → length vs ≡ cnt → Stands code b p (stores bl cnt ++ Jump start ∷ []) stop → Deep base env bl dp → Holds env L → Clear s → Simulates code n (of doing) G (AtLoop b start st base fr doing) (configuration b p (push_all vs st) L fr doing s) (Recurs vs s)
  recur_simulates cnt p start stop vs st base env L bl dp doing G s len has deep h clear =
      let has' = subst (λ m. Stands code b p (stores m cnt ++ Jump start ∷ []) stop) deep.size has in
      let has2 = subst (λ m. Stands code b p (stores (length base) m ++ Jump start ∷ []) stop) (sym len) has' in
      let cs = stores (length base) (length vs) in
      let q = p + length cs in
      let L1 = write (length base) vs L in
      let rear = stands_back code b p cs (Jump start ∷ []) stop has2 in
      let hbase = holds_front base deep.inner L (subst (λ l. Holds l L) deep.within h) in (
        configuration b start st L1 fr doing s,
        (L1, holds_write base vs L hbase, refl, clear),
        to_past code _ (configuration b q st L1 fr doing s) _ (stores_to vs (length base) p q st L doing s (stands_front code b p cs (Jump start ∷ []) stop has2))
            (one_past code _ _ (λ k. step code (configuration b q st L1 fr doing s) (Jump start) rear.0 k)),
      )

  deeper : (base env vs : List Value) (bl dp cnt : ℕ) → length vs ≡ cnt → Deep base env bl dp → Deep base (env ++ vs) bl (dp + cnt)
  deeper base env vs bl dp cnt len d =
      record {
        inner = d.inner ++ vs;
        within = ap (λ l. l ++ vs) d.within ∙ append_assoc base d.inner vs;
        size = d.size;
        depth = omega (arith, length-append env vs, d.depth, len);
      }

  from_here : (env : List Value) (dp cnt : ℕ) (vs : List Value) → length vs ≡ cnt → dp ≡ length env → Deep env (env ++ vs) dp (dp + cnt)
  from_here env dp cnt vs len e = record { inner = vs; within = refl; size = e; depth = omega (arith, length-append env vs, e, len) }

  -- what a body may call is known; what is pure there is pure
  module _ (ks : List Known) (sub : (g : ℕ) → is_pure (nth ks g) ≡ true → is_pure (nth all g) ≡ true) where
    mutual
      pub expression_simulates : (e : Tree) (doing : Activity) (st base env L : List Value) (dp bl start pc stop : ℕ) (s : ActorState) → Keeps (pure_callees all) (is_inside doing) e → IfBound doing (pure_in ks e ≡ true) → Stands code b pc (gen e dp bl start pc) stop → Deep base env bl dp → Holds env L → Clear s → Simulates code n (of doing) (AtValue b stop st env fr doing) (AtLoop b start st base fr doing) (configuration b pc st L fr doing s) (eval (on_replies code.validators) call n (is_inside doing) e env s)
      expression_simulates (Const v m) doing st base env L dp bl start pc stop s callees bound has d h clear = push_simulates v pc stop st env L doing (AtLoop b start st base fr doing) s has h clear
      expression_simulates (Local i m) doing st base env L dp bl start pc stop s callees bound has d h clear = local_simulates i pc stop st env L doing (AtLoop b start st base fr doing) s (nth env i) refl has h clear
      expression_simulates (If c x y m) doing st base env L dp bl start pc stop s callees bound has d h clear =
          let R = AtLoop b start st base fr doing in
          let G = AtValue b stop st env fr doing in
          let cc = gen c dp bl start pc in
          let p = pc + length cc in
          bind_simulates code n (of doing) (AtValue b p st env fr doing) R G R (configuration b pc st L fr doing s) (eval (on_replies code.validators) call n (is_inside doing) c env s) (λ v s1. choose v (eval (on_replies code.validators) call n (is_inside doing) x env s1) (eval (on_replies code.validators) call n (is_inside doing) y env s1))
          (expression_simulates c doing st base env L dp bl start pc p s callees.0 (pure_first doing (pure_in ks c) (pure_in ks x && pure_in ks y) bound) (stands_front code b pc cc _ stop has) d h clear)
          (λ v s1 c1 g. from_configuration code n (of doing) G R c1 (configuration b p (v ∷ st) g.0 fr doing s1) _ g.2
          (if_simulates p stop (gen x dp bl start (p + 1)) (gen y dp bl start) v st env g.0 doing R s1 (eval (on_replies code.validators) call n (is_inside doing) x env s1) (eval (on_replies code.validators) call n (is_inside doing) y env s1) (stands_back code b pc cc _ stop has)
          (λ hx. expression_simulates x doing st base env g.0 dp bl start (p + 1) _ s1 callees.1 (pure_first doing (pure_in ks x) (pure_in ks y) (pure_second doing (pure_in ks c) (pure_in ks x && pure_in ks y) bound)) hx d g.1 g.3)
          (λ hy. expression_simulates y doing st base env g.0 dp bl start _ stop s1 callees.2 (pure_second doing (pure_in ks x) (pure_in ks y) (pure_second doing (pure_in ks c) (pure_in ks x && pure_in ks y) bound)) hy d g.1 g.3)))
      expression_simulates (Do items m) doing st base env L dp bl start pc stop s callees bound has d h clear = do_simulates items doing st base env L dp bl start pc stop s callees bound has d h clear
      expression_simulates (Let values body m) doing st base env L dp bl start pc stop s callees bound has d h clear =
          let R = AtLoop b start st base fr doing in
          let G = AtValue b stop st env fr doing in
          let cv = gen_let values dp bl start pc in
          let p = pc + length cv in
          bind_simulates code n (of doing) (AtLet b p st env fr doing (count values)) R G R (configuration b pc st L fr doing s) (eval_let (on_replies code.validators) call n (is_inside doing) values env s) (λ vs s1. eval (on_replies code.validators) call n (is_inside doing) body (env ++ vs) s1)
          (let_simulates values doing st base env L dp bl start pc p s callees.0 (pure_first doing (all_pure ks values) (pure_in ks body) bound) (stands_front code b pc cv _ stop has) d h clear)
          (λ vs s1 c1 g. from_configuration code n (of doing) G R c1 (configuration b p st g.0 fr doing s1) _ g.3
          (lands_as code n (of doing) (AtValue b stop st (env ++ vs) fr doing) R G (configuration b p st g.0 fr doing s1) _
          (expression_simulates body doing st base (env ++ vs) g.0 (dp + count values) bl start p stop s1 callees.1 (pure_second doing (all_pure ks values) (pure_in ks body) bound) (stands_back code b pc cv _ stop has) (deeper base env vs bl dp (count values) g.2 d) g.1 g.4)
          (λ v s2 c2 k. (k.0, holds_front env vs k.0 k.1, k.2, k.3))))
      expression_simulates (Loop values body m) doing st base env L dp bl start pc stop s callees bound has d h clear =
          let R = AtLoop b start st base fr doing in
          let G = AtValue b stop st env fr doing in
          let cv = gen_let values dp bl start pc in
          let p = pc + length cv in
          bind_simulates code n (of doing) (AtLet b p st env fr doing (count values)) R G R (configuration b pc st L fr doing s) (eval_let (on_replies code.validators) call n (is_inside doing) values env s) (λ vs s1. turns n (count values) (λ ws s2. eval (on_replies code.validators) call n (is_inside doing) body (env ++ ws) s2) vs s1)
          (let_simulates values doing st base env L dp bl start pc p s callees.0 (pure_first doing (all_pure ks values) (pure_in ks body) bound) (stands_front code b pc cv _ stop has) d h clear)
          (λ vs s1 c1 g. from_configuration code n (of doing) G R c1 (configuration b p st g.0 fr doing s1) _ g.3
          (turns_simulates n (count values) p st env doing G R (λ ws s2. eval (on_replies code.validators) call n (is_inside doing) body (env ++ ws) s2) (omega arith)
          (λ ws L1 s2 len h1 k1. lands_as code n (of doing) (AtValue b stop st (env ++ ws) fr doing) (AtLoop b p st env fr doing) G (configuration b p st L1 fr doing s2) _
          (expression_simulates body doing st env (env ++ ws) L1 (dp + count values) dp p p stop s2 callees.1 (pure_second doing (all_pure ks values) (pure_in ks body) bound) (stands_back code b pc cv _ stop has) (from_here env dp (count values) ws len d.depth) h1 k1)
          (λ v s3 c2 k. (k.0, holds_front env ws k.0 k.1, k.2, k.3)))
          vs g.0 s1 g.1 g.4))
      expression_simulates (Recur values m) doing st base env L dp bl start pc stop s callees bound has d h clear =
          let R = AtLoop b start st base fr doing in
          let G = AtValue b stop st env fr doing in
          let cv = gen_all values dp bl start pc in
          let p = pc + length cv in
          bind_simulates code n (of doing) (AtAll b p st env fr doing (count values)) R G R (configuration b pc st L fr doing s) (eval_all (on_replies code.validators) call n (is_inside doing) values env s) (λ vs s1. Recurs vs s1)
          (all_simulates values doing st base env L dp bl start pc p s callees bound (stands_front code b pc cv _ stop has) d h clear)
          (λ vs s1 c1 g. from_configuration code n (of doing) G R c1 (configuration b p (push_all vs st) g.0 fr doing s1) (Recurs vs s1) g.3
          (recur_simulates (count values) p start stop vs st base env g.0 bl dp doing G s1 g.2 (stands_back code b pc cv _ stop has) d g.1 g.4))
      expression_simulates (Core op args m) doing st base env L dp bl start pc stop s callees bound has d h clear =
          let R = AtLoop b start st base fr doing in
          let G = AtValue b stop st env fr doing in
          let cv = gen_all args dp bl start pc in
          let p = pc + length cv in
          let rear = stands_back code b pc cv _ stop has in
          bind_simulates code n (of doing) (AtAll b p st env fr doing (count args)) R G R (configuration b pc st L fr doing s) (eval_all (on_replies code.validators) call n (is_inside doing) args env s) (λ vs s1. result_of (core op vs) m.span s1)
          (all_simulates args doing st base env L dp bl start pc p s callees bound (stands_front code b pc cv _ stop has) d h clear)
          (λ vs s1 c1 g. from_configuration code n (of doing) G R c1 (configuration b p (push_all vs st) g.0 fr doing s1) _ g.3
          (apply_simulates (CoreOp op) m.span (count args) p stop vs st env g.0 doing R s1 (bound_of doing tt) g.2 rear.0 rear.1 g.1 g.4))
      expression_simulates (Call f args m) doing st base env L dp bl start pc stop s callees bound has d h clear =
          let R = AtLoop b start st base fr doing in
          let G = AtValue b stop st env fr doing in
          let cv = gen_all args dp bl start pc in
          let p = pc + length cv in
          let rear = stands_back code b pc cv _ stop has in
          bind_simulates code n (of doing) (AtAll b p st env fr doing (count args)) R G R (configuration b pc st L fr doing s) (eval_all (on_replies code.validators) call n (is_inside doing) args env s) (λ vs s1. call (is_inside doing) f vs s1)
          (all_simulates args doing st base env L dp bl start pc p s callees.1 (pure_second doing (is_pure (nth ks f)) (all_pure ks args) bound) (stands_front code b pc cv _ stop has) d h clear)
          (λ vs s1 c1 g. from_configuration code n (of doing) G R c1 (configuration b p (push_all vs st) g.0 fr doing s1) _ g.3
          (apply_simulates (Function f) m.span (count args) p stop vs st env g.0 doing R s1 (bound_to doing (sub f) (pure_first doing (is_pure (nth ks f)) (all_pure ks args) bound)) g.2 rear.0 rear.1 g.1 g.4))
      expression_simulates (VectorOf items m) doing st base env L dp bl start pc stop s callees bound has d h clear =
          let R = AtLoop b start st base fr doing in
          let G = AtValue b stop st env fr doing in
          let cv = gen_all items dp bl start pc in
          let p = pc + length cv in
          let rear = stands_back code b pc cv _ stop has in
          bind_simulates code n (of doing) (AtAll b p st env fr doing (count items)) R G R (configuration b pc st L fr doing s) (eval_all (on_replies code.validators) call n (is_inside doing) items env s) (λ vs s1. result_of (vector_of vs) m.span s1)
          (all_simulates items doing st base env L dp bl start pc p s callees bound (stands_front code b pc cv _ stop has) d h clear)
          (λ vs s1 c1 g. from_configuration code n (of doing) G R c1 (configuration b p (push_all vs st) g.0 fr doing s1) _ g.3
          (vector_simulates m.span (count items) p stop vs st env g.0 doing R s1 g.2 rear.0 rear.1 g.1 g.4))
      expression_simulates (Println args m) doing st base env L dp bl start pc stop s callees bound has d h clear =
          let R = AtLoop b start st base fr doing in
          let G = AtValue b stop st env fr doing in
          let cv = gen_all args dp bl start pc in
          let p = pc + length cv in
          let rear = stands_back code b pc cv _ stop has in
          bind_simulates code n (of doing) (AtAll b p st env fr doing (count args)) R G R (configuration b pc st L fr doing s) (eval_all (on_replies code.validators) call n (is_inside doing) args env s) (λ vs s1. res (print (is_inside doing) vs s1))
          (all_simulates args doing st base env L dp bl start pc p s callees (unbound (all_pure ks args ≡ true) doing (settled doing bound)) (stands_front code b pc cv _ stop has) d h clear)
          (λ vs s1 c1 g. from_configuration code n (of doing) G R c1 (configuration b p (push_all vs st) g.0 fr doing s1) _ g.3
          (print_simulates (count args) p stop vs st env g.0 doing R s1 g.2 rear.0 rear.1 g.1 g.4))
      expression_simulates (Dosync body m) Outside st base env L dp bl start pc stop s callees bound has d h clear =
          let cb = gen body dp bl start (pc + 1) in
          let q = pc + 1 + length cb in
          let rear = stands_back code b (pc + 1) cb _ stop has.1 in
          let from = savepoint m.span b pc st L fr in
          let R = AtLoop b start st base fr Outside in
          let here = configuration b pc st L fr Outside s in
          let run : ActorState → Completion ActorState Value = λ s1. closed (eval (on_replies code.validators) call n true body env s1) in
          let tried : Completion ActorState Value = tries code.validators (suc reruns) m.span run (apply (call true) m.span) Anew s in
          subst (λ k. Simulates code n (of Outside) (AtValue b k st env fr Outside) R here tried) rear.1
          (tries_simulate code n all call known_calls.calls b fr m.span pc q st env L R run has.0 rear.0 (known_calls.quietly m.span) (λ c vs s1 w. known_calls.quiet true m.span c vs s1 w) known_calls.valid
          (λ k s1 e1. closed_simulates code n (of (Running k 0 from)) (AtValue b q st env fr (Running k 0 from)) (AtLoop b start st base fr (Running k 0 from)) Never (configuration b (pc + 1) st L fr (Running k 0 from) s1) (eval (on_replies code.validators) call n true body env s1)
          (expression_simulates body (Running k 0 from) st base env L dp bl start (pc + 1) q s1 callees (unbound (pure_in ks body ≡ true) (Running k 0 from) (settled Outside bound)) (stands_front code b (pc + 1) cb _ stop has.1) d h e1))
          (λ s1 w. closed_kept (IsPure all) (eval (on_replies code.validators) call n true body env s1) (known_calls.kept body env s1 callees w))
          reruns s clear (acts code n all call known_calls.calls b fr here (TxBegin m.span) (starts reruns m.span here) has.0 refl))
      expression_simulates (Dosync body m) (Running left inner from) st base env L dp bl start pc stop s callees bound has d h clear =
          let doing = Running left inner from in
          let deeper_in = Running left (suc inner) from in
          let R = AtLoop b start st base fr doing in
          let G = AtValue b stop st env fr doing in
          let cb = gen body dp bl start (pc + 1) in
          let q = pc + 1 + length cb in
          let rear = stands_back code b (pc + 1) cb _ stop has.1 in
          let here = configuration b pc st L fr doing s in
          let c1 = configuration b (pc + 1) st L fr deeper_in s in
          let r = eval (on_replies code.validators) call n true body env s in
          before code n (of doing) G R here c1 (closed r) (one_to code here c1 (acts code n all call known_calls.calls b fr here (TxBegin m.span) (Unfinished c1) has.0 refl))
          (onward code n (of doing) (AtValue b q st env fr deeper_in) R G c1 (closed r)
          (handled_as code n (of deeper_in) (of doing) (AtValue b q st env fr deeper_in) R c1 (closed r) (λ f s1 t e. e) (λ s1 e. refl)
          (closed_simulates code n (of deeper_in) (AtValue b q st env fr deeper_in) (AtLoop b start st base fr deeper_in) R c1 r
          (expression_simulates body deeper_in st base env L dp bl start (pc + 1) q s callees (unbound (pure_in ks body ≡ true) deeper_in (settled doing bound)) (stands_front code b (pc + 1) cb _ stop has.1) d h clear)))
          (λ v s2 c2 g.
          let there = configuration b q (v ∷ st) g.0 fr deeper_in s2 in
          let last = configuration b (q + 1) (v ∷ st) g.0 fr doing s2 in (
            configuration b stop (v ∷ st) g.0 fr doing s2,
            (g.0, g.1, refl, g.3),
            to_from code c2 there _ g.2 (subst (λ k. Reaches code there (configuration b k (v ∷ st) g.0 fr doing s2)) rear.1 (one_to code there last (acts code n all call known_calls.calls b fr there TxEnd (Unfinished last) rear.0 refl))),
          )))
      expression_simulates (Dosync body m) (Restarting left) st base env L dp bl start pc stop s callees bound has d h clear = absurd (settled (Restarting left) bound)
      expression_simulates (Dosync body m) (Applying left from work values) st base env L dp bl start pc stop s callees bound has d h clear = absurd (settled (Applying left from work values) bound)
      expression_simulates (Dosync body m) (Swapping swap from) st base env L dp bl start pc stop s callees bound has d h clear = absurd (settled (Swapping swap from) bound)
      expression_simulates (Look form cell m) doing st base env L dp bl start pc stop s callees bound has d h clear =
          let R = AtLoop b start st base fr doing in
          let G = AtValue b stop st env fr doing in
          let cc = gen cell dp bl start pc in
          let p = pc + length cc in
          let rear = stands_back code b pc cc _ stop has in
          bind_simulates code n (of doing) (AtValue b p st env fr doing) R G R (configuration b pc st L fr doing s) (eval (on_replies code.validators) call n (is_inside doing) cell env s) (λ v s1. res (read form (is_inside doing) m.span v s1))
          (expression_simulates cell doing st base env L dp bl start pc p s callees.1 (unbound (pure_in ks cell ≡ true) doing (settled doing bound)) (stands_front code b pc cc _ stop has) d h clear)
          (λ v s1 c1 g. from_configuration code n (of doing) G R c1 (configuration b p (v ∷ st) g.0 fr doing s1) _ g.2
          (one_step (LookOf form m.span) p stop (v ∷ st) st env g.0 doing R s1 (read form (is_inside doing) m.span v s1) rear.0 rear.1 g.1 (read_clear form (is_inside doing) m.span v s1 g.3) refl))
      expression_simulates (Put form cell value m) doing st base env L dp bl start pc stop s callees bound has d h clear =
          let ok = settled doing bound in
          let R = AtLoop b start st base fr doing in
          let G = AtValue b stop st env fr doing in
          let cc = gen cell dp bl start pc in
          let p = pc + length cc in
          let cv = gen value dp bl start p in
          let q = p + length cv in
          let rear = stands_back code b pc cc _ stop has in
          let last = stands_back code b p cv _ stop rear in
          bind_simulates code n (of doing) (AtValue b p st env fr doing) R G R (configuration b pc st L fr doing s) (eval (on_replies code.validators) call n (is_inside doing) cell env s) (λ c s1. bind (eval (on_replies code.validators) call n (is_inside doing) value env s1) (λ w s2. puts code.validators form (is_inside doing) m.span c w (apply (call (is_inside doing)) m.span) s2))
          (expression_simulates cell doing st base env L dp bl start pc p s callees.1 (unbound (pure_in ks cell ≡ true) doing ok) (stands_front code b pc cc _ stop has) d h clear)
          (λ c s1 c1 g. from_configuration code n (of doing) G R c1 (configuration b p (c ∷ st) g.0 fr doing s1) _ g.2
          (bind_simulates code n (of doing) (AtValue b q (c ∷ st) env fr doing) (AtLoop b start (c ∷ st) base fr doing) G R (configuration b p (c ∷ st) g.0 fr doing s1) (eval (on_replies code.validators) call n (is_inside doing) value env s1) (λ w s2. puts code.validators form (is_inside doing) m.span c w (apply (call (is_inside doing)) m.span) s2)
          (expression_simulates value doing (c ∷ st) base env g.0 dp bl start p q s1 callees.2 (unbound (pure_in ks value ≡ true) doing ok) (stands_front code b p cv _ stop rear) d g.1 g.3)
          (λ w s2 c2 k. from_configuration code n (of doing) G R c2 (configuration b q (w ∷ c ∷ st) k.0 fr doing s2) _ k.2
          (puts_simulate form m.span q stop c w st env k.0 doing R s2 ok last.0 last.1 k.1 k.3))))
      expression_simulates (Update form cell callee args m) doing st base env L dp bl start pc stop s callees bound has d h clear =
          let ok = settled doing bound in
          let R = AtLoop b start st base fr doing in
          let G = AtValue b stop st env fr doing in
          let cc = gen cell dp bl start pc in
          let p = pc + length cc in
          let ca = gen_all args dp bl start p in
          let q = p + length ca in
          let rear = stands_back code b pc cc _ stop has in
          let go : Value → List Value → ActorState → Completion ActorState Value = λ c vs s2. updates code.validators form (is_inside doing) m.span c callee vs (apply (call (is_inside doing)) m.span) s2 in
          bind_simulates code n (of doing) (AtValue b p st env fr doing) R G R (configuration b pc st L fr doing s) (eval (on_replies code.validators) call n (is_inside doing) cell env s) (λ c s1. bind (eval_all (on_replies code.validators) call n (is_inside doing) args env s1) (go c))
          (expression_simulates cell doing st base env L dp bl start pc p s callees.1 (unbound (pure_in ks cell ≡ true) doing ok) (stands_front code b pc cc _ stop has) d h clear)
          (λ c s1 c1 g. from_configuration code n (of doing) G R c1 (configuration b p (c ∷ st) g.0 fr doing s1) _ g.2
          (bind_simulates code n (of doing) (AtAll b q (c ∷ st) env fr doing (count args)) (AtLoop b start (c ∷ st) base fr doing) G R (configuration b p (c ∷ st) g.0 fr doing s1) (eval_all (on_replies code.validators) call n (is_inside doing) args env s1) (go c)
          (all_simulates args doing (c ∷ st) base env g.0 dp bl start p q s1 callees.3 (unbound (all_pure ks args ≡ true) doing ok) (stands_front code b p ca _ stop rear) d g.1 g.3)
          (λ vs s2 c2 k. from_configuration code n (of doing) G R c2 (configuration b q (push_all vs (c ∷ st)) k.0 fr doing s2) _ k.3
          (updates_simulate form callee m.span (count args) q stop c vs st env k.0 doing R s2 ok callees.2 k.2 (stands_back code b p ca _ stop rear) k.1 k.4))))
      expression_simulates (Send cell callee args m) doing st base env L dp bl start pc stop s callees bound has d h clear =
          let ok = settled doing bound in
          let R = AtLoop b start st base fr doing in
          let G = AtValue b stop st env fr doing in
          let cc = gen cell dp bl start pc in
          let p = pc + length cc in
          let ca = gen_all args dp bl start p in
          let q = p + length ca in
          let rear = stands_back code b pc cc _ stop has in
          let last = stands_back code b p ca _ stop rear in
          let go : Value → List Value → ActorState → Completion ActorState Value = λ c vs s2. res (send_to (is_inside doing) m.span c callee vs s2) in
          bind_simulates code n (of doing) (AtValue b p st env fr doing) R G R (configuration b pc st L fr doing s) (eval (on_replies code.validators) call n (is_inside doing) cell env s) (λ c s1. bind (eval_all (on_replies code.validators) call n (is_inside doing) args env s1) (go c))
          (expression_simulates cell doing st base env L dp bl start pc p s callees.0 (unbound (pure_in ks cell ≡ true) doing ok) (stands_front code b pc cc _ stop has) d h clear)
          (λ c s1 c1 g. from_configuration code n (of doing) G R c1 (configuration b p (c ∷ st) g.0 fr doing s1) _ g.2
          (bind_simulates code n (of doing) (AtAll b q (c ∷ st) env fr doing (count args)) (AtLoop b start (c ∷ st) base fr doing) G R (configuration b p (c ∷ st) g.0 fr doing s1) (eval_all (on_replies code.validators) call n (is_inside doing) args env s1) (go c)
          (all_simulates args doing (c ∷ st) base env g.0 dp bl start p q s1 callees.1 (unbound (all_pure ks args ≡ true) doing ok) (stands_front code b p ca _ stop rear) d g.1 g.3)
          (λ vs s2 c2 k. from_configuration code n (of doing) G R c2 (configuration b q (push_all vs (c ∷ st)) k.0 fr doing s2) _ k.3
          (send_simulates callee m.span (count args) q stop c vs st env k.0 doing R s2 k.2 last.0 last.1 k.1 k.4))))

      all_simulates : (es : Trees) (doing : Activity) (st base env L : List Value) (dp bl start pc stop : ℕ) (s : ActorState) → KeepAll (pure_callees all) (is_inside doing) es → IfBound doing (all_pure ks es ≡ true) → Stands code b pc (gen_all es dp bl start pc) stop → Deep base env bl dp → Holds env L → Clear s → Simulates code n (of doing) (AtAll b stop st env fr doing (count es)) (AtLoop b start st base fr doing) (configuration b pc st L fr doing s) (eval_all (on_replies code.validators) call n (is_inside doing) es env s)
      all_simulates none doing st base env L dp bl start pc stop s callees bound has d h clear =
          (configuration b pc st L fr doing s, (L, h, refl, ap (λ m. configuration b m st L fr doing s) has, clear), stays code (configuration b pc st L fr doing s))
      all_simulates (more e rest) doing st base env L dp bl start pc stop s callees bound has d h clear =
          let R = AtLoop b start st base fr doing in
          let G = AtAll b stop st env fr doing (suc (count rest)) in
          let ce = gen e dp bl start pc in
          let p = pc + length ce in
          bind_simulates code n (of doing) (AtValue b p st env fr doing) R G R (configuration b pc st L fr doing s) (eval (on_replies code.validators) call n (is_inside doing) e env s) (λ v s1. bind (eval_all (on_replies code.validators) call n (is_inside doing) rest env s1) (λ vs s2. Completes (v ∷ vs) s2))
          (expression_simulates e doing st base env L dp bl start pc p s callees.0 (pure_first doing (pure_in ks e) (all_pure ks rest) bound) (stands_front code b pc ce _ stop has) d h clear)
          (λ v s1 c1 g. from_configuration code n (of doing) G R c1 (configuration b p (v ∷ st) g.0 fr doing s1) _ g.2
          (bind_simulates code n (of doing) (AtAll b stop (v ∷ st) env fr doing (count rest)) (AtLoop b start (v ∷ st) base fr doing) G R (configuration b p (v ∷ st) g.0 fr doing s1) (eval_all (on_replies code.validators) call n (is_inside doing) rest env s1) (λ vs s2. Completes (v ∷ vs) s2)
          (all_simulates rest doing (v ∷ st) base env g.0 dp bl start p stop s1 callees.1 (pure_second doing (pure_in ks e) (all_pure ks rest) bound) (stands_back code b pc ce _ stop has) d g.1 g.3)
          (λ vs s2 c2 k. (c2, (k.0, k.1, ap suc k.2, k.3, k.4), stays code c2))))

      let_simulates : (es : Trees) (doing : Activity) (st base env L : List Value) (dp bl start pc stop : ℕ) (s : ActorState) → KeepAll (pure_callees all) (is_inside doing) es → IfBound doing (all_pure ks es ≡ true) → Stands code b pc (gen_let es dp bl start pc) stop → Deep base env bl dp → Holds env L → Clear s → Simulates code n (of doing) (AtLet b stop st env fr doing (count es)) (AtLoop b start st base fr doing) (configuration b pc st L fr doing s) (eval_let (on_replies code.validators) call n (is_inside doing) es env s)
      let_simulates none doing st base env L dp bl start pc stop s callees bound has d h clear =
          (configuration b pc st L fr doing s, (L, subst (λ l. Holds l L) (sym (append_nil env)) h, refl, ap (λ m. configuration b m st L fr doing s) has, clear), stays code (configuration b pc st L fr doing s))
      let_simulates (more e rest) doing st base env L dp bl start pc stop s callees bound has d h clear =
          let R = AtLoop b start st base fr doing in
          let G = AtLet b stop st env fr doing (suc (count rest)) in
          let ce = gen e dp bl start pc in
          let p = pc + length ce in
          let rear = stands_back code b pc ce _ stop has in
          bind_simulates code n (of doing) (AtValue b p st env fr doing) R G R (configuration b pc st L fr doing s) (eval (on_replies code.validators) call n (is_inside doing) e env s) (λ v s1. bind (eval_let (on_replies code.validators) call n (is_inside doing) rest (env ++ v ∷ []) s1) (λ vs s2. Completes (v ∷ vs) s2))
          (expression_simulates e doing st base env L dp bl start pc p s callees.0 (pure_first doing (pure_in ks e) (all_pure ks rest) bound) (stands_front code b pc ce _ stop has) d h clear)
          (λ v s1 c1 g. from_configuration code n (of doing) G R c1 (configuration b p (v ∷ st) g.0 fr doing s1) _ g.2
          (let c3 = configuration b (p + 1) st (put g.0 dp v) fr doing s1 in
          let h3 = subst (λ m. Holds (env ++ v ∷ []) (put g.0 m v)) (sym d.depth) (holds_put env g.0 v g.1) in
          before code n (of doing) G R (configuration b p (v ∷ st) g.0 fr doing s1) c3 _ (one_to code _ _ (λ k. step code (configuration b p (v ∷ st) g.0 fr doing s1) (Store dp) rear.0 k))
          (bind_simulates code n (of doing) (AtLet b stop st (env ++ v ∷ []) fr doing (count rest)) R G R c3 (eval_let (on_replies code.validators) call n (is_inside doing) rest (env ++ v ∷ []) s1) (λ vs s2. Completes (v ∷ vs) s2)
          (let_simulates rest doing st base (env ++ v ∷ []) (put g.0 dp v) (dp + 1) bl start (p + 1) stop s1 callees.1 (pure_second doing (pure_in ks e) (all_pure ks rest) bound) rear.1 (deeper base env (v ∷ []) bl dp 1 refl d) h3 g.3)
          (λ vs s2 c2 k. (c2, (k.0, subst (λ l. Holds l k.0) (append_assoc env (v ∷ []) vs) k.1, ap suc k.2, k.3, k.4), stays code c2)))))

      do_simulates : (es : Trees) (doing : Activity) (st base env L : List Value) (dp bl start pc stop : ℕ) (s : ActorState) → KeepAll (pure_callees all) (is_inside doing) es → IfBound doing (all_pure ks es ≡ true) → Stands code b pc (gen_do es dp bl start pc) stop → Deep base env bl dp → Holds env L → Clear s → Simulates code n (of doing) (AtValue b stop st env fr doing) (AtLoop b start st base fr doing) (configuration b pc st L fr doing s) (eval_do (on_replies code.validators) call n (is_inside doing) es env s)
      do_simulates none doing st base env L dp bl start pc stop s callees bound has d h clear = tt
      do_simulates (more e rest) doing st base env L dp bl start pc stop s callees bound has d h clear =
          item_simulates (is_none rest) pc stop (gen e dp bl start pc) (gen_do rest dp bl start) st env L doing (AtLoop b start st base fr doing) s (eval (on_replies code.validators) call n (is_inside doing) e env s) (λ s1. eval_do (on_replies code.validators) call n (is_inside doing) rest env s1) has
          (λ stop1 hs. expression_simulates e doing st base env L dp bl start pc stop1 s callees.0 (pure_first doing (pure_in ks e) (all_pure ks rest) bound) hs d h clear)
          (λ p L1 s1 h1 k1 hs. do_simulates rest doing st base env L1 dp bl start p stop s1 callees.1 (pure_second doing (pure_in ks e) (all_pure ks rest) bound) hs d h1 k1)
