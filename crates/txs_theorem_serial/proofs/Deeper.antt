-- Where calls may go deeper, what had a value has the same.
use Rattle.std.proofs.Common.{◌≡◌, ◌≤◌, ℕ, zero, suc, Bool, true, false, List, [], Option, Some, None, Result, Ok, Err, refl, sym, ap, ◌∙◌, subst, inl, arith, ◌||◌, ◌∷◌}
use Rattle.txs_value_cell.specs.Cells.{World}
use Rattle.txs_value_cell.specs.Forms.{rule, cell_of}
use Rattle.txs_value_cell.specs.declared.form.CellForm.TheVariants as form_of
use Rattle.txs_value_cell.specs.declared.form.UpdateForm.{UpdateForm}
use Rattle.txs_value_cell.specs.declared.form.UpdateForm.TheVariants.{Alter, Commute, Swap}
use Rattle.txs_frame.specs.Frame.{set_ref, commute_ref}
use Rattle.txs_value_apply.specs.Core.{core}
use Rattle.txs_value_data.specs.Places.{nth}
use Rattle.txs_value_data.specs.declared.fault.FaultKind.{FaultKind}
use Rattle.txs_value_data.specs.declared.fault.Span.{Span}
use Rattle.txs_value_data.specs.declared.op.Callee.{Callee}
use Rattle.txs_value_data.specs.declared.op.Callee.TheVariants.{Core as CoreOp, Function}
use Rattle.txs_tree_meaning.specs.Known.{known}
use Rattle.txs_tree_meaning.specs.Meaning.{Completion, Completes, Recurs, Faults, Retries, Waits, OutOfTurns, Invalid, bind, give, result_of, Applies, Effects, turns, eval, call_at}
use Rattle.txs_tree_meaning.specs.Pure.{no_effects}
use Rattle.txs_tree_meaning.specs.Sound.{in_dosync, SoundTree, SoundFunctions}
use Rattle.txs_tree_meaning.specs.Transaction.{TxState, current, taken, done_as, on_cell, tx_put, tx_update, in_transaction, tx_start, tx_meaning}
use Rattle.txs_tree_meaning.specs.Tree.{Mark, Tree, PlainFunction}
use Rattle.txs_value_data.specs.declared.value.Value.{Value}
use Rattle.txs_theorem_threads.proofs.Callees.{pure_callees, callees_in, function_callees}
use Rattle.txs_theorem_threads.proofs.Quiet.{quietly}
use Rattle.txs_theorem_threads.proofs.Related.{Link, Related, CallsAlike, bind_related, closed_related, turns_related, Applied, Alike, eval_related}
use Rattle.txs_theorem_serial.proofs.Depth.{HasValue}

-- equal states; only of what has a value, or recurs, is anything said
abbrev value_link : (S : Type 0) → Link S S
value_link S = record {
  rel = λ s t. s ≡ t;
  faults = λ s t. Unit {0};
  waits = λ s o. Unit {0};
  out_of_turns = λ s o. Unit {0};
  retries = λ s o. Unit {0};
  invalid = λ b. Unit {0};
  waits_loose = λ s h o. tt;
  out_of_turns_loose = λ s h o. tt;
  retries_loose = λ s h o. tt;
  faults_of = λ s t r. tt;
  out_of_turns_of = λ s t r. tt;
  invalid_both = tt;
  invalid_loose = λ h b. tt;
  ahead = λ t. ⊥;
  ahead_stops = λ t h s. absurd h;
  ahead_invalid = λ t h. absurd h;
}

module _ (S : Type 0) where
  itself : {A : Type 0} (x : Completion S A) → Related (value_link S) x x
  itself (Completes a s) = (refl, refl)
  itself (Recurs vs s) = (refl, refl)
  itself (Faults f s) = (refl, tt)
  itself (Retries s) = tt
  itself (Waits s) = tt
  itself (OutOfTurns s) = tt
  itself Invalid = tt

  from_same : {A : Type 0} (f : S → Completion S A) (s t : S) → s ≡ t → Related (value_link S) (f s) (f t)
  from_same f s t e = subst (λ u. Related (value_link S) (f s) (f u)) e (itself (f s))

  from_alike : {A : Type 0} (f g : S → Completion S A) → ((s : S) → Related (value_link S) (f s) (g s)) → (s t : S) → s ≡ t → Related (value_link S) (f s) (g t)
  from_alike f g h s t e = subst (λ u. Related (value_link S) (f s) (g u)) e (h s)

  bind_same : {A B : Type 0} (x : Completion S A) (f g : A → S → Completion S B) → ((a : A) (s : S) → Related (value_link S) (f a s) (g a s)) → Related (value_link S) (bind x f) (bind x g)
  bind_same x f g h = bind_related S S (value_link S) x x f g (itself x) (λ a s t r. from_alike (f a) (g a) (h a) s t r)

  value_kept : {A : Type 0} (x y : Completion S A) → Related (value_link S) x y → (a : A) (s : S) → x ≡ Completes a s → y ≡ Completes a s
  value_kept (Completes b t) (Completes c u) h a s e = ap (λ z. Completes z u) (sym h.0) ∙ ap (λ z. Completes b z) (sym h.1) ∙ e
  value_kept (Completes b t) _ h a s e = absurd h
  value_kept (Recurs vs t) y h a s e = absurd (subst HasValue (sym e) tt)
  value_kept (Faults f t) y h a s e = absurd (subst HasValue (sym e) tt)
  value_kept (Retries t) y h a s e = absurd (subst HasValue (sym e) tt)
  value_kept (Waits t) y h a s e = absurd (subst HasValue (sym e) tt)
  value_kept (OutOfTurns t) y h a s e = absurd (subst HasValue (sym e) tt)
  value_kept Invalid y h a s e = absurd (subst HasValue (sym e) tt)

  -- forms that do the same whatever calls are
  module _ (fx : Effects S) (n : ℕ) (functions : List PlainFunction) (sound : SoundFunctions [] functions)
      (alike : (cf cg : Bool → ℕ → List Value → S → Completion S Value) → Alike S S (value_link S) fx fx cf cg n n (λ i. Unit {0}) (pure_callees (known functions))) where
    abbrev calls : ℕ → Bool → ℕ → List Value → S → Completion S Value
    calls d = call_at (λ e. fx) n functions d

    call_deeper : (b d : ℕ) → CallsAlike S S (value_link S) (calls b) (calls d) (λ i. Unit {0}) (λ i g. Unit {0}) → CallsAlike S S (value_link S) (calls (suc b)) (calls (suc d)) (λ i. Unit {0}) (λ i g. Unit {0})
    call_deeper b d below inside f vs s t may m r = go (nth functions f) refl
      where
        go : (o : Option PlainFunction) → nth functions f ≡ o
            → Related (value_link S) (bind (give o s) (λ fun s1. turns (suc n) fun.parameters (λ ws s2. eval fx (calls b) n inside fun.body ws s2) vs s1)) (bind (give o t) (λ fun t1. turns (suc n) fun.parameters (λ ws t2. eval fx (calls d) n inside fun.body ws t2) vs t1))
        go None e = tt
        go (Some fun) e =
            turns_related S S (value_link S) (suc n) (suc n) (inl refl) fun.parameters (λ ws s2. eval fx (calls b) n inside fun.body ws s2) (λ ws t2. eval fx (calls d) n inside fun.body ws t2)
            (λ ws s2 t2 r2. eval_related S S (value_link S) fx fx (calls b) (calls d) n n (λ i. Unit {0}) (pure_callees (known functions)) (inl refl) (alike (calls b) (calls d)) below fun.body inside ws s2 t2 (function_callees functions sound inside f fun e tt) tt r2)
            vs s t r

    deeper : (b d : ℕ) → b ≤ d → CallsAlike S S (value_link S) (calls b) (calls d) (λ i. Unit {0}) (λ i g. Unit {0})
    deeper zero d le inside f vs s t may m r = tt
    deeper (suc b) zero le inside f vs s t may m r = absurd (omega (arith, le))
    deeper (suc b) (suc d) le inside f vs s t may m r = call_deeper b d (deeper b d (omega (arith, le))) inside f vs s t may m r

-- ---- pure callees

quiet_alike : (n : ℕ) (functions : List PlainFunction) (cf cg : Bool → ℕ → List Value → Unit {0} → Completion (Unit {0}) Value) → Alike (Unit {0}) (Unit {0}) (value_link (Unit {0})) no_effects no_effects cf cg n n (λ i. Unit {0}) (pure_callees (known functions))
quiet_alike n functions cf cg = record {
  print = λ inside vs s t m r. tt;
  look = λ form inside m c s t q i r. tt;
  put = λ form inside m c v s t q i h r. tt;
  update = λ form inside m c callee vs s t q i p h r. tt;
  send = λ inside m c callee vs s t i r. tt;
  dosync = λ inside m e env s t i p h a r. tt;
}

pub quiet_deeper : (n : ℕ) (functions : List PlainFunction) → SoundFunctions [] functions → (b d : ℕ) → b ≤ d → (p r : Span) (c : Callee) (vs : List Value) (v : Value) → quietly n functions b p c vs tt ≡ Completes v tt → quietly n functions d r c vs tt ≡ Completes v tt
quiet_deeper n functions sound b d le p r (CoreOp op) vs v e = go (core op vs) e
  where
    go : (x : Result Value FaultKind) → result_of {S = Unit {0}} x p (tt {0}) ≡ Completes v (tt {0}) → result_of {S = Unit {0}} x r (tt {0}) ≡ Completes v (tt {0})
    go (Ok w) h = h
    go (Err f) h = absurd (subst HasValue (sym h) tt)
quiet_deeper n functions sound b d le p r (Function f) vs v e =
    value_kept (Unit {0}) (call_at (λ x. no_effects) n functions b false f vs tt) (call_at (λ x. no_effects) n functions d false f vs tt)
    (deeper (Unit {0}) no_effects n functions sound (quiet_alike n functions) b d le false f vs tt tt tt tt refl) v tt e

-- ---- transactions

update_alike : (R : World) (form : UpdateForm) (m : Mark) (callee : Callee) (vs : List Value) (f g : Applies TxState) → Applied TxState TxState (value_link TxState) f g → (v : Value) (t : TxState)
    → Related (value_link TxState) (bind (result_of (cell_of (rule (form_of.Update form)) true v) m.span t) (λ c t1. tx_update R form m c callee vs f t1)) (bind (result_of (cell_of (rule (form_of.Update form)) true v) m.span t) (λ c t1. tx_update R form m c callee vs g t1))
update_alike R Alter m callee vs f g a v t =
    bind_same TxState (result_of (cell_of (rule (form_of.Update Alter)) true v) m.span t) _ _
    (λ c t0. bind_same TxState (taken R c t0) (λ v t1. bind (f callee (v ∷ vs) t1) (λ w t2. done_as (set_ref c w t2.done) m.span w t2)) (λ v t1. bind (g callee (v ∷ vs) t1) (λ w t2. done_as (set_ref c w t2.done) m.span w t2))
    (λ v t1. bind_related TxState TxState (value_link TxState) (f callee (v ∷ vs) t1) (g callee (v ∷ vs) t1) (λ w t2. done_as (set_ref c w t2.done) m.span w t2) (λ w t2. done_as (set_ref c w t2.done) m.span w t2) (a callee (v ∷ vs) t1 t1 refl)
    (λ w s2 t2 r2. from_same TxState (λ u. done_as (set_ref c w u.done) m.span w u) s2 t2 r2)))
update_alike R Commute m callee vs f g a v t =
    bind_same TxState (result_of (cell_of (rule (form_of.Update Commute)) true v) m.span t) _ _
    (λ c t0. let now : Value → TxState → Completion TxState Value = λ w t1. Completes w (record t1 { done = commute_ref c callee vs w t1.done; used = t1.used || m.wanted }) in
    bind_related TxState TxState (value_link TxState) (f callee (current R t0.done c ∷ vs) t0) (g callee (current R t0.done c ∷ vs) t0) now now (a callee (current R t0.done c ∷ vs) t0 t0 refl) (λ w s1 t1 r1. from_same TxState (now w) s1 t1 r1))
update_alike R Swap m callee vs f g a v t = bind_same TxState (result_of (cell_of (rule (form_of.Update Swap)) true v) m.span t) _ _ (λ c t0. tt)

tx_alike : (R : World) (n : ℕ) (functions : List PlainFunction) (cf cg : Bool → ℕ → List Value → TxState → Completion TxState Value) → Alike TxState TxState (value_link TxState) (in_transaction R) (in_transaction R) cf cg n n (λ i. Unit {0}) (pure_callees (known functions))
tx_alike R n functions cf cg = record {
  print = λ inside vs s t m r. tt;
  look = λ form inside m c s t may i r. from_same TxState (λ u. (in_transaction R).look form inside m c u) s t r;
  put = λ form inside m c w s t may i a r. from_same TxState (λ u. on_cell (form_of.Put form) true m.span c (λ d t1. tx_put form m.span d w t1) u) s t r;
  update = λ form inside m c callee vs s t may i p a r. from_alike TxState _ _ (update_alike R form m callee vs _ _ (a (λ f. tt)) c) s t r;
  send = λ inside m c callee vs s t i r. from_same TxState (λ u. (in_transaction R).send inside m c callee vs u) s t r;
  dosync = λ inside m e env s t i p b a r. b tt s t r;
}

pub tx_deeper : (n : ℕ) (functions : List PlainFunction) → SoundFunctions [] functions → (b d : ℕ) → b ≤ d → (body : Tree) (locals : List Value) (k : ℕ) → SoundTree (known functions) in_dosync k None body → (R : World) (v : Value) (s : TxState)
    → tx_meaning n functions b body locals R ≡ Completes v s → tx_meaning n functions d body locals R ≡ Completes v s
tx_deeper n functions sound b d le body locals k h R v s e =
    let cf = call_at (λ x. in_transaction R) n functions b in
    let cg = call_at (λ x. in_transaction R) n functions d in
    value_kept TxState (tx_meaning n functions b body locals R) (tx_meaning n functions d body locals R)
    (closed_related TxState TxState (value_link TxState) (eval (in_transaction R) cf n true body locals tx_start) (eval (in_transaction R) cg n true body locals tx_start)
    (eval_related TxState TxState (value_link TxState) (in_transaction R) (in_transaction R) cf cg n n (λ i. Unit {0}) (pure_callees (known functions)) (inl refl) (tx_alike R n functions cf cg)
    (deeper TxState (in_transaction R) n functions sound (tx_alike R n functions) b d le) body true locals tx_start tx_start (callees_in (known functions) body in_dosync true k None h) tt refl)) v s e
