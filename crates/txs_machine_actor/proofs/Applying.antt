-- Commutes that can be applied, and where they are.
use Rattle.std.proofs.Common.{◌≡◌, ℕ, zero, suc, ◌+◌, ◌==◌, ◌<◌, ◌≤◌, ◌||◌, Bool, true, false, is_some, if◌then◌else◌, List, [], ◌∷◌, ◌++◌, map, length, Option, Some, None, refl, sym, ap, ◌∙◌, subst, arith}
use Rattle.txs_world_protocol.specs.Ask.{Writes}
use Rattle.txs_frame.specs.Frame.{PlainTxFrame, commuted, commutes_of, by_ref, phase_work, written}
use Rattle.txs_frame.specs.Phase.{blank, next_callee, tasks_of, validations, with_validation}
use Rattle.txs_frame.specs.declared.frame.Commute.{Commute}
use Rattle.txs_frame.specs.declared.phase.Task.{Task}
use Rattle.txs_frame.specs.declared.phase.Task.TheVariants.{Redoes, Validates}
use Rattle.txs_value_cell.specs.Cells.{Validators, validators_of, validator_at}
use Rattle.txs_value_cell.specs.declared.cell.CellDefinition.{CellDefinition}
use Rattle.txs_value_data.specs.declared.fault.Span.{Span}
use Rattle.txs_code_meaning.specs.Validating.{has_validator, is_validated}
use Rattle.txs_value_apply.specs.Core.{takes}
use Rattle.txs_value_data.specs.Places.{nth}
use Rattle.txs_value_data.specs.declared.op.Callee.{Callee}
use Rattle.txs_value_data.specs.declared.op.Callee.TheVariants as callee
use Rattle.txs_value_data.specs.declared.value.CellId.{CellId}
use Rattle.txs_code_meaning.specs.Machine.{Frame}
use Rattle.txs_code_meaning.specs.PlainCode.{PlainCode, CodeBody}
use Rattle.txs_code_meaning.specs.WellTyped.{Functions, FunctionKind, CalleeTakes, IsPureCallee, IsImpure, WellTypedValidators}
use Rattle.txs_code_meaning.specs.declared.instr.Instr.{Instr}
use Rattle.txs_code_meaning.specs.declared.instr.Instr.TheVariants.{TxBegin, TxEnd}
use Rattle.txs_machine_transaction.specs.Effect.{IsOperation, Operates, LeftApply}
use Rattle.txs_machine_actor.specs.PlainActor.{owner_of, functions_of, added, Callers, IsFirst, IsPureBody, first_in, BeganBy, swaps_in, NoneAside, InSwap, CanApply, AllApply, AllCanDo, AppliesWell}
use Rattle.txs_machine_transaction.specs.Transaction.{depth_in, IsSwapping, IsUnapplied}
use Rattle.txs_machine_actor.specs.Turns.{function_of, next_function, task_check, end_check}
use Rattle.txs_machine_stack.specs.PlainFrame.{PlainFrame}
use Rattle.txs_machine_transaction.specs.declared.state.Transaction.{Transaction}
use Rattle.txs_machine_transaction.specs.declared.state.Transaction.TheVariants.{Outside, Restarting, Running, Applying, Evaluating, Swapping, Judging, Weighing}

-- ---- many commutes

module _ (fs : Functions) where
  pub all_more : (ks : List Commute) (k : Commute) → AllApply fs ks → CanApply fs k.callee (length k.args) → AllApply fs (ks ++ k ∷ [])
  all_more [] k all can = (can, tt)
  all_more (j ∷ ks) k all can = (all.0, all_more ks k all.1 can)

  all_append : (ks js : List Commute) → AllApply fs ks → AllApply fs js → AllApply fs (ks ++ js)
  all_append [] js all more = more
  all_append (k ∷ ks) js all more = (all.0, all_append ks js all.1 more)

  all_of : (n : ℕ) (ks : List Commute) → AllApply fs ks → AllApply fs (commutes_of n ks)
  all_of n [] all = tt
  all_of n (k ∷ ks) all = test (k.cell.number == n) (all_of n ks all.1)
    where
      test : (b : Bool) → AllApply fs (commutes_of n ks) → AllApply fs (if b then k ∷ commutes_of n ks else commutes_of n ks)
      test true rest = (all.0, rest)
      test false rest = rest

  -- those of a commute phase are among those that were kept
  pub all_by_ref : (cs : List CellId) (ks : List Commute) → AllApply fs ks → AllApply fs (by_ref cs ks)
  all_by_ref [] ks all = tt
  all_by_ref (c ∷ cs) ks all = all_append (commutes_of c.number ks) (by_ref cs ks) (all_of c.number ks all) (all_by_ref cs ks all)

  -- a callee that is no function is an operation that takes its arguments
  pub by_operation : (f : Callee) (n : ℕ) → CanApply fs f n → function_of (Some f) ≡ None → IsOperation f n
  by_operation (callee.Core op) n h q = h
  by_operation (callee.Function f) n h q = cc

  -- what an open keeps takes its arguments
  pub kept_applies : (callable : ℕ) (f : Callee) (n m : ℕ) → n + 1 ≡ suc m → CalleeTakes callable fs.parameters f (n + 1) → IsPureCallee fs.kinds f → CanApply fs f m
  kept_applies callable (callee.Core op) n m e h p = sym (ap (takes op) e) ∙ h
  kept_applies callable (callee.Function f) n m e h p = (p, h.1 ∙ ap Some e)

module _ (fs : Functions) (validated : Bool) where
  -- the commutes of a transaction's end are tasks that can be done
  all_redone : (ks : List Commute) → AllApply fs ks → AllCanDo fs validated (map Redoes ks)
  all_redone [] all = tt
  all_redone (k ∷ ks) all = (all.0, all_redone ks all.1)

  tasks_append : (xs ys : List Task) → AllCanDo fs validated xs → AllCanDo fs validated ys → AllCanDo fs validated (xs ++ ys)
  tasks_append [] ys all more = more
  tasks_append (x ∷ xs) ys all more = (all.0, tasks_append xs ys all.1 more)

  -- each validator can look at a value, where there is one
  abbrev pub AllLook : Validators → Type 0
  AllLook vs = (k : ℕ) (f : Callee) → validator_at vs k ≡ Some f → (validated ≡ true) × CanApply fs f 0

  -- one more validator's
  with_one : (vs : Validators) → AllLook vs → (c : CellId) (xs : List Task) → AllCanDo fs validated xs → (o : Option Callee) → validator_at vs c.number ≡ o → AllCanDo fs validated (with_validation c o xs)
  with_one vs look c xs all None e = all
  with_one vs look c xs all (Some f) e = (look c.number f e, all)

  validations_do : (vs : Validators) → AllLook vs → (cs : List CellId) → AllCanDo fs validated (validations vs cs)
  validations_do vs look [] = tt
  validations_do vs look (c ∷ cs) = with_one vs look c (validations vs cs) (validations_do vs look cs) (validator_at vs c.number) refl

  -- all tasks of a transaction's end can be done
  pub tasks_do : (vs : Validators) → AllLook vs → (w : PlainTxFrame) → AllApply fs w.commutes → AllCanDo fs validated (tasks_of vs w)
  tasks_do vs look w all = tasks_append (map Redoes (phase_work w)) (validations vs (written w)) (all_redone (phase_work w) (all_by_ref fs (commuted w) w.commutes all)) (validations_do vs look (written w))

  -- where the next task is no validator's and of no function, it is a commute of an operation
  pub all_operate : (xs : List Task) (ws : Writes) (w : PlainTxFrame) (span : Span) → AllCanDo fs validated xs → (validated ≡ true → task_check xs ws w span ≡ None) → function_of (next_callee xs) ≡ None → Operates xs
  all_operate [] ws w span all free e = tt
  all_operate (Redoes k ∷ xs) ws w span all free e = by_operation fs k.callee (length k.args) all.0 e
  all_operate (Validates c f ∷ xs) ws w span all free e = some_none (free all.0.0)
    where
      some_none : {A B : Type 0} {x : A} → Some x ≡ None → B
      some_none q = cc

-- validators that are well typed can look at values
pub typed_look : (fs : Functions) (ds : List CellDefinition) → WellTypedValidators fs (validators_of ds) → AllLook fs (has_validator ds) (validators_of ds)
typed_look fs [] w k f e = cc
typed_look fs (d ∷ ds) w k f e = by_own d.validator refl k e (λ n g. typed_look fs ds (rest d.validator refl) n f g)
  where
    -- one more cell in front
    in_front : (b : Bool) → has_validator ds ≡ true → (b || has_validator ds) ≡ true
    in_front true q = refl
    in_front false q = q

    one_value : (g : Callee) → CalleeTakes (length fs.parameters) fs.parameters g 1 → IsPureCallee fs.kinds g → CanApply fs g 0
    one_value (callee.Core op) h p = h
    one_value (callee.Function n) h p = (p, h.1)

    typed_with : (o : Option Callee) → d.validator ≡ o → WellTypedValidators fs (o ∷ validators_of ds)
    typed_with o q = subst (λ (x : Option Callee). WellTypedValidators fs (x ∷ validators_of ds)) q w

    rest : (o : Option Callee) → d.validator ≡ o → WellTypedValidators fs (validators_of ds)
    rest None q = typed_with None q
    rest (Some g) q = (typed_with (Some g) q).2

    none_some : None ≡ Some f → ⊥
    none_some x = cc

    some_in : (h : Callee) → Some h ≡ Some f → h ≡ f
    some_in h x = cc

    by_own : (o : Option Callee) → d.validator ≡ o → (n : ℕ) → validator_at (validators_of (d ∷ ds)) n ≡ Some f
        → ((m : ℕ) → validator_at (validators_of ds) m ≡ Some f → (has_validator ds ≡ true) × CanApply fs f 0) → (has_validator (d ∷ ds) ≡ true) × CanApply fs f 0
    by_own o q (suc n) g later = let r = later n g in (in_front (is_validated d) r.0, r.1)
    by_own None q zero g later = absurd (none_some (sym q ∙ g))
    by_own (Some h) q zero g later =
        let there = typed_with (Some h) q in
        (ap (λ (x : Option Callee). is_some x || has_validator ds) q, subst (λ (x : Callee). CanApply fs x 0) (some_in h (sym q ∙ g)) (one_value h there.0 there.1))

pub length_blank : (cs : List CellId) → length (blank cs) ≡ length cs
length_blank [] = refl
length_blank (c ∷ cs) = ap suc (length_blank cs)

-- ---- where commutes are applied

some : {A : Type 0} {x y : A} → Some x ≡ Some y → x ≡ y
some e = cc

-- a pure function's body isn't impure
pub pure_impure : (kinds : List FunctionKind) (bn : ℕ) → IsPureBody kinds bn → IsImpure (owner_of kinds bn) → ⊥
pure_impure kinds zero p i = absurd p
pure_impure kinds (suc f) p i = let x = sym p ∙ i in cc

module _ (d : PlainCode) (kinds : List FunctionKind) (n : ℕ) (home : List Frame) where
  -- commutes are applied at no other instruction of an impure body than a transaction's end, where no swap is in hand
  pub unapplied : (b : CodeBody) (at : ℕ) (t : Transaction) (fs : List PlainFrame) (bn : ℕ) (i : Instr) → AppliesWell d kinds n home b at t → BeganBy kinds home t fs bn → nth b.instrs at ≡ Some i → (i ≡ TxEnd → ⊥) → IsImpure (owner_of kinds bn) → (IsSwapping t → ⊥) → IsUnapplied t
  unapplied b at Outside fs bn i w p e other im none = tt
  unapplied b at (Restarting left) fs bn i w p e other im none = tt
  unapplied b at (Running left inner from) fs bn i w p e other im none = tt
  unapplied b at (Applying left from phase) fs bn i w p e other im none = absurd (other (some (sym e ∙ w.0)))
  unapplied b at (Evaluating left from phase aside) fs bn i w p e other im none = absurd (pure_impure kinds bn p.1 im)
  unapplied b at (Swapping c p1 from) fs bn i w p e other im none = absurd (none tt)
  unapplied b at (Judging aside) fs bn i w p e other im none = absurd (pure_impure kinds bn p.1 im)
  unapplied b at (Weighing c p1 from aside) fs bn i w p e other im none = absurd (pure_impure kinds bn p.1 im)

  -- outside transactions, and with no swap in hand, an actor is plainly outside, where no transaction begins anew
  pub plainly_outside : (b : CodeBody) (at : ℕ) (t : Transaction) (i : Instr) → AppliesWell d kinds n home b at t → nth b.instrs at ≡ Some i → (i ≡ TxBegin → ⊥) → IsUnapplied t → depth_in t ≡ 0 → t ≡ Outside
  plainly_outside b at Outside i w e begins u k = refl
  plainly_outside b at (Restarting left) i w e begins u k = absurd (begins (some (sym e ∙ w)))
  plainly_outside b at (Running left inner from) i w e begins u k = cc
  plainly_outside b at (Applying left from phase) i w e begins u k = absurd u
  plainly_outside b at (Evaluating left from phase aside) i w e begins u k = absurd u
  plainly_outside b at (Swapping c p from) i w e begins u k = absurd u
  plainly_outside b at (Judging aside) i w e begins u k = absurd u
  plainly_outside b at (Weighing c p from aside) i w e begins u k = absurd u

  -- behind an instruction that is no transaction's end and no beginning they are applied in turns of a function alone, wherever that is
  pub well_behind : (b b1 : CodeBody) (at to : ℕ) (t : Transaction) (i : Instr) → AppliesWell d kinds n home b at t → nth b.instrs at ≡ Some i → (i ≡ TxEnd → ⊥) → (i ≡ TxBegin → ⊥) → AppliesWell d kinds n home b1 to t
  well_behind b b1 at to Outside i w e other begins = tt
  well_behind b b1 at to (Restarting left) i w e other begins = absurd (begins (some (sym e ∙ w)))
  well_behind b b1 at to (Running left inner from) i w e other begins = tt
  well_behind b b1 at to (Applying left from phase) i w e other begins = absurd (other (some (sym e ∙ w.0)))
  well_behind b b1 at to (Evaluating left from phase aside) i w e other begins = w
  well_behind b b1 at to (Swapping c p from) i w e other begins = tt
  well_behind b b1 at to (Judging aside) i w e other begins = w
  well_behind b b1 at to (Weighing c p from aside) i w e other begins = w

  -- at a transaction's end the next task is a commute of an operation, where it is no validator's and of no function
  pub left_apply : (b : CodeBody) (at : ℕ) (t : Transaction) (w : PlainTxFrame) → AppliesWell d kinds n home b at t → NoneAside t → (has_validator d.cells ≡ true → end_check t w ≡ None) → next_function t ≡ None → LeftApply t
  left_apply b at Outside w h u free e = tt
  left_apply b at (Restarting left) w h u free e = tt
  left_apply b at (Running left inner from) w h u free e = tt
  left_apply b at (Applying left from phase) w h u free e = all_operate (functions_of d kinds) (has_validator d.cells) phase.work phase.values w from.span h.1 free e
  left_apply b at (Evaluating left from phase aside) w h u free e = absurd u
  left_apply b at (Swapping c p from) w h u free e = tt
  left_apply b at (Judging aside) w h u free e = absurd u
  left_apply b at (Weighing c p from aside) w h u free e = absurd u

module _ (d : PlainCode) (kinds : List FunctionKind) (n : ℕ) where
  -- a body is called in as many transactions as what was called first, or more
  pub callers_from : (fs : List PlainFrame) (first base : ℕ × ℕ) → Callers d kinds n fs first base → first.0 ≤ base.0
  callers_from [] first base c = let e : first.0 ≡ base.0 = ap (λ (x : ℕ × ℕ). x.0) c in omega (arith, e)
  callers_from (f ∷ fs) first base c = let le : first.0 + c.0.0 ≤ base.0 = callers_from fs (added first c.0) base c.2 in omega (arith, le)

  callers_swaps : (fs : List PlainFrame) (first base : ℕ × ℕ) → Callers d kinds n fs first base → first.1 ≤ base.1
  callers_swaps [] first base c = let e : first.1 ≡ base.1 = ap (λ (x : ℕ × ℕ). x.1) c in omega (arith, e)
  callers_swaps (f ∷ fs) first base c = let le : first.1 + c.0.1 ≤ base.1 = callers_swaps fs (added first c.0) base c.2 in omega (arith, le)

  -- nor in a body's own swap
  pub none_in_swap : (t : Transaction) (fs : List PlainFrame) (own base : ℕ × ℕ) → Callers d kinds n fs (first_in t) base → base.1 + own.1 ≡ swaps_in t → 0 < own.1 → NoneAside t
  none_in_swap Outside fs own base c e lt = tt
  none_in_swap (Restarting left) fs own base c e lt = tt
  none_in_swap (Running left inner from) fs own base c e lt = tt
  none_in_swap (Applying left from phase) fs own base c e lt = tt
  none_in_swap (Evaluating left from phase aside) fs own base c e lt = absurd (omega (arith, e, lt))
  none_in_swap (Swapping x p from) fs own base c e lt = tt
  none_in_swap (Judging aside) fs own base c e lt = absurd (omega (arith, e, lt))
  none_in_swap (Weighing x p from aside) fs own base c e lt = let le : 1 ≤ base.1 = callers_swaps fs (0, 1) base c in absurd (omega (arith, le, e, lt))

  -- no stack is put aside in a body's own transaction
  pub none_in_own : (t : Transaction) (fs : List PlainFrame) (own base : ℕ × ℕ) → Callers d kinds n fs (first_in t) base → base.0 + own.0 ≡ depth_in t → 0 < own.0 → NoneAside t
  none_in_own Outside fs own base c e lt = tt
  none_in_own (Restarting left) fs own base c e lt = tt
  none_in_own (Running left inner from) fs own base c e lt = tt
  none_in_own (Applying left from phase) fs own base c e lt = tt
  none_in_own (Evaluating left from phase aside) fs own base c e lt = let le : 1 ≤ base.0 = callers_from fs (1, 0) base c in absurd (omega (arith, le, e, lt))
  none_in_own (Swapping x p from) fs own base c e lt = tt
  none_in_own (Judging aside) fs own base c e lt = absurd (omega (arith, e, lt))
  none_in_own (Weighing x p from aside) fs own base c e lt = absurd (omega (arith, e, lt))

  first_none : (t : Transaction) → NoneAside t → first_in t ≡ (0, 0)
  first_none Outside u = refl
  first_none (Restarting left) u = refl
  first_none (Running left inner from) u = refl
  first_none (Applying left from phase) u = refl
  first_none (Evaluating left from phase aside) u = absurd u
  first_none (Swapping c p from) u = refl
  first_none (Judging aside) u = absurd u
  first_none (Weighing c p from aside) u = absurd u

  pub callers_none : (t : Transaction) (fs : List PlainFrame) (base : ℕ × ℕ) → NoneAside t → Callers d kinds n fs (first_in t) base → Callers d kinds n fs (0, 0) base
  callers_none t fs base u c = subst (λ (x : ℕ × ℕ). Callers d kinds n fs x base) (first_none t u) c

pub began_none : (kinds : List FunctionKind) (home : List Frame) (t : Transaction) (fs : List PlainFrame) (bn : ℕ) → NoneAside t → BeganBy kinds home t fs bn → IsFirst kinds home fs bn
began_none kinds home Outside fs bn u p = p
began_none kinds home (Restarting left) fs bn u p = p
began_none kinds home (Running left inner from) fs bn u p = p
began_none kinds home (Applying left from phase) fs bn u p = p
began_none kinds home (Evaluating left from phase aside) fs bn u p = absurd u
began_none kinds home (Swapping c at from) fs bn u p = p
began_none kinds home (Judging aside) fs bn u p = absurd u
began_none kinds home (Weighing c at from aside) fs bn u p = absurd u

pub none_unapplied : (t : Transaction) → IsUnapplied t → NoneAside t
none_unapplied Outside u = tt
none_unapplied (Restarting left) u = tt
none_unapplied (Running left inner from) u = tt
none_unapplied (Applying left from phase) u = tt
none_unapplied (Evaluating left from phase aside) u = absurd u
none_unapplied (Swapping c p from) u = absurd u
none_unapplied (Judging aside) u = absurd u
none_unapplied (Weighing c p from aside) u = absurd u

-- a swap is in hand in no transaction, and no stack is put aside then
pub swap_none : (t : Transaction) → IsSwapping t → NoneAside t × (depth_in t ≡ 0) × (swaps_in t ≡ 1)
swap_none Outside s = absurd s
swap_none (Restarting left) s = absurd s
swap_none (Running left inner from) s = absurd s
swap_none (Applying left from phase) s = absurd s
swap_none (Evaluating left from phase aside) s = absurd s
swap_none (Swapping c p from) s = (tt, refl, refl)
swap_none (Judging aside) s = absurd s
swap_none (Weighing c p from aside) s = absurd s

-- no swap is in hand in a transaction
pub swapless : (t : Transaction) → 0 < depth_in t → swaps_in t ≡ 0
swapless Outside lt = refl
swapless (Restarting left) lt = refl
swapless (Running left inner from) lt = refl
swapless (Applying left from phase) lt = refl
swapless (Evaluating left from phase aside) lt = refl
swapless (Swapping c p from) lt = absurd (omega (arith, lt))
swapless (Judging aside) lt = absurd (omega (arith, lt))
swapless (Weighing c p from aside) lt = absurd (omega (arith, lt))

-- where there is a swap, it is in hand, or its atom's validator looks at its value
pub swap_in_hand : (t : Transaction) → 0 < swaps_in t → InSwap t
swap_in_hand Outside lt = absurd (omega (arith, lt))
swap_in_hand (Restarting left) lt = absurd (omega (arith, lt))
swap_in_hand (Running left inner from) lt = absurd (omega (arith, lt))
swap_in_hand (Applying left from phase) lt = absurd (omega (arith, lt))
swap_in_hand (Evaluating left from phase aside) lt = absurd (omega (arith, lt))
swap_in_hand (Swapping c p from) lt = tt
swap_in_hand (Judging aside) lt = absurd (omega (arith, lt))
swap_in_hand (Weighing c p from aside) lt = tt

-- where no stack is put aside, it is in hand
pub swap_here : (t : Transaction) → InSwap t → NoneAside t → IsSwapping t
swap_here Outside s u = absurd s
swap_here (Restarting left) s u = absurd s
swap_here (Running left inner from) s u = absurd s
swap_here (Applying left from phase) s u = absurd s
swap_here (Evaluating left from phase aside) s u = absurd s
swap_here (Swapping c p from) s u = tt
swap_here (Judging aside) s u = absurd s
swap_here (Weighing c p from aside) s u = absurd u
