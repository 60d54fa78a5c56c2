-- Two meanings of one tree, where what they make of the forms on cells is alike.
use Rattle.std.proofs.Common.{ℕ, zero, suc, Bool, true, false, List, [], Option, Some, None, Result, Ok, Err, refl, subst, length, nat_eq, arith, ⊎_elim, inl, inr, ◌≡◌, ◌≤◌, ◌∷◌, ◌++◌, ◌⊎◌, if◌then◌else◌}
use Rattle.txs_theorem_threads.specs.RepliesFit.{Halt, Going, Stopped, Short, halted}
use Rattle.txs_tree_meaning.specs.Meaning.{Completion, Completes, Recurs, Faults, Retries, Waits, OutOfTurns, Invalid, bind, again, closed, give, result_of, Applies, Effects, turns, last_or, apply, eval, eval_all, eval_let, eval_do, call_at}
use Rattle.txs_theorem_threads.proofs.Callees.{Rules, Keeps, KeepAll}
use Rattle.txs_tree_meaning.specs.Tree.{Tree, Const, Local, If, Do, Let, Loop, Recur, Core, Call, VectorOf, Println, Dosync, Look, Put, Update, Send, Mark, Trees, none, more, count, is_none, PlainFunction}
use Rattle.txs_value_apply.specs.Core.{core, vector_of}
use Rattle.txs_value_data.specs.Places.{nth}
use Rattle.txs_value_apply.specs.Truth.{choose}
use Rattle.txs_value_data.specs.declared.fault.Fault.{Fault}
use Rattle.txs_value_data.specs.declared.fault.FaultKind.{FaultKind}
use Rattle.txs_value_data.specs.declared.fault.Span.{Span}
use Rattle.txs_value_cell.specs.declared.form.CellForm.TheVariants as form_of
use Rattle.txs_value_cell.specs.declared.form.LookForm.{LookForm}
use Rattle.txs_value_cell.specs.declared.form.PutForm.{PutForm}
use Rattle.txs_value_cell.specs.declared.form.UpdateForm.{UpdateForm}
use Rattle.txs_value_data.specs.declared.op.Callee.TheVariants.{Core as CoreOp, Function}
use Rattle.txs_value_data.specs.declared.op.Callee.{Callee}
use Rattle.txs_value_data.specs.declared.value.Value.TheVariants.{Nil, Truth, Int, Key, Text, Vector, Cell}
use Rattle.txs_value_data.specs.declared.value.Value.{Value}

-- How the states of two meanings go together. Where the first waits, needs turns or has to run again, the second may go on. In some the
-- second may wait before the first stops, and then nothing is said of the first.
pub record Link (S T : Type 0) : Type 1 where
  pub rel : S → T → Type 0
  -- after a fault
  pub faults : S → T → Type 0
  pub waits : S → Halt T → Type 0
  pub out_of_turns : S → Halt T → Type 0
  pub retries : S → Halt T → Type 0
  -- what the second has to be where the first is invalid, by whether it is so too
  pub invalid : Bool → Type 0
  pub waits_loose : (s : S) → waits s Going → (o : Halt T) → waits s o
  pub out_of_turns_loose : (s : S) → out_of_turns s Going → (o : Halt T) → out_of_turns s o
  pub retries_loose : (s : S) → retries s Going → (o : Halt T) → retries s o
  pub faults_of : (s : S) (t : T) → rel s t → faults s t
  pub out_of_turns_of : (s : S) (t : T) → rel s t → out_of_turns s (Short t)
  pub invalid_both : invalid true
  pub invalid_loose : invalid false → (b : Bool) → invalid b
  pub ahead : T → Type 0
  pub ahead_stops : (t : T) → ahead t → (s : S) → waits s (Stopped t) × out_of_turns s (Stopped t) × retries s (Stopped t)
  pub ahead_invalid : (t : T) → ahead t → invalid false

-- both have the same turns; or the second has more, and then what needs turns may do anything
abbrev pub Turns : (S T : Type 0) → Link S T → ℕ → ℕ → Type 0
Turns S T k nl nr = (nl ≡ nr) ⊎ ((nl ≤ nr) × ((s : S) (t : T) → k.rel s t → (o : Halt T) → k.out_of_turns s o))

abbrev pub is_invalid : {S A : Type 0} → Completion S A → Bool
is_invalid (Completes a s) = false
is_invalid (Recurs vs s) = false
is_invalid (Faults f s) = false
is_invalid (Retries s) = false
is_invalid (Waits s) = false
is_invalid (OutOfTurns s) = false
is_invalid Invalid = true

abbrev pub CompletesAs : {S T A : Type 0} → Link S T → A → S → Completion T A → Type 0
CompletesAs k a s (Completes b t) = (a ≡ b) × k.rel s t
CompletesAs k a s (Waits t) = k.ahead t
CompletesAs k a s _ = ⊥

abbrev pub RecursAs : {S T A : Type 0} → Link S T → List Value → S → Completion T A → Type 0
RecursAs k vs s (Recurs ws t) = (vs ≡ ws) × k.rel s t
RecursAs k vs s (Waits t) = k.ahead t
RecursAs k vs s _ = ⊥

abbrev pub FaultsAs : {S T A : Type 0} → Link S T → Fault → S → Completion T A → Type 0
FaultsAs k f s (Faults g t) = (f ≡ g) × k.faults s t
FaultsAs k f s (Waits t) = k.ahead t
FaultsAs k f s _ = ⊥

abbrev pub Related : {S T A : Type 0} → Link S T → Completion S A → Completion T A → Type 0
Related k (Completes a s) y = CompletesAs k a s y
Related k (Recurs vs s) y = RecursAs k vs s y
Related k (Faults f s) y = FaultsAs k f s y
Related k (Retries s) y = k.retries s (halted y)
Related k (Waits s) y = k.waits s (halted y)
Related k (OutOfTurns s) y = k.out_of_turns s (halted y)
Related k Invalid y = k.invalid (is_invalid y)

module _ (S T : Type 0) (k : Link S T) where
  -- where the second waits before the first stops
  pub ahead_of : {A : Type 0} (x : Completion S A) (t : T) → k.ahead t → Related k x (Waits t)
  ahead_of (Completes a s) t h = h
  ahead_of (Recurs vs s) t h = h
  ahead_of (Faults f s) t h = h
  ahead_of (Retries s) t h = (k.ahead_stops t h s).2
  ahead_of (Waits s) t h = (k.ahead_stops t h s).0
  ahead_of (OutOfTurns s) t h = (k.ahead_stops t h s).1
  ahead_of Invalid t h = k.ahead_invalid t h

  pub bind_related : {A B : Type 0} (x : Completion S A) (y : Completion T A) (f : A → S → Completion S B) (g : A → T → Completion T B) → Related k x y → ((a : A) (s : S) (t : T) → k.rel s t → Related k (f a s) (g a t)) → Related k (bind x f) (bind y g)
  bind_related (Completes a s) (Completes b t) f g h hc = subst (λ c. Related k (f a s) (g c t)) h.0 (hc a s t h.1)
  bind_related (Completes a s) (Waits t) f g h hc = ahead_of (f a s) t h
  bind_related (Completes a s) _ f g h hc = absurd h
  bind_related (Recurs vs s) (Recurs ws t) f g h hc = k.invalid_both
  bind_related (Recurs vs s) (Waits t) f g h hc = k.ahead_invalid t h
  bind_related (Recurs vs s) _ f g h hc = absurd h
  bind_related (Faults x s) (Faults y t) f g h hc = h
  bind_related (Faults x s) (Waits t) f g h hc = h
  bind_related (Faults x s) _ f g h hc = absurd h
  bind_related (Retries s) (Completes b t) f g h hc = k.retries_loose s h (halted (g b t))
  bind_related (Retries s) _ f g h hc = h
  bind_related (Waits s) (Waits t) f g h hc = h
  bind_related (Waits s) (OutOfTurns t) f g h hc = h
  bind_related (Waits s) (Completes b t) f g h hc = k.waits_loose s h (halted (g b t))
  bind_related (Waits s) _ f g h hc = h
  bind_related (OutOfTurns s) (Waits t) f g h hc = h
  bind_related (OutOfTurns s) (OutOfTurns t) f g h hc = h
  bind_related (OutOfTurns s) (Completes b t) f g h hc = k.out_of_turns_loose s h (halted (g b t))
  bind_related (OutOfTurns s) _ f g h hc = h
  bind_related Invalid (Completes b t) f g h hc = k.invalid_loose h (is_invalid (g b t))
  bind_related Invalid (Recurs ws t) f g h hc = k.invalid_both
  bind_related Invalid _ f g h hc = h

  pub again_related : {A : Type 0} (x : Completion S A) (y : Completion T A) (f : List Value → S → Completion S A) (g : List Value → T → Completion T A) → Related k x y → ((vs : List Value) (s : S) (t : T) → k.rel s t → Related k (f vs s) (g vs t)) → Related k (again x f) (again y g)
  again_related (Completes a s) (Completes b t) f g h hc = h
  again_related (Completes a s) (Waits t) f g h hc = h
  again_related (Completes a s) _ f g h hc = absurd h
  again_related (Recurs vs s) (Recurs ws t) f g h hc = subst (λ c. Related k (f vs s) (g c t)) h.0 (hc vs s t h.1)
  again_related (Recurs vs s) (Waits t) f g h hc = ahead_of (f vs s) t h
  again_related (Recurs vs s) _ f g h hc = absurd h
  again_related (Faults x s) (Faults y t) f g h hc = h
  again_related (Faults x s) (Waits t) f g h hc = h
  again_related (Faults x s) _ f g h hc = absurd h
  again_related (Retries s) (Recurs ws t) f g h hc = k.retries_loose s h (halted (g ws t))
  again_related (Retries s) _ f g h hc = h
  again_related (Waits s) (Recurs ws t) f g h hc = k.waits_loose s h (halted (g ws t))
  again_related (Waits s) _ f g h hc = h
  again_related (OutOfTurns s) (Recurs ws t) f g h hc = k.out_of_turns_loose s h (halted (g ws t))
  again_related (OutOfTurns s) _ f g h hc = h
  again_related Invalid (Recurs ws t) f g h hc = k.invalid_loose h (is_invalid (g ws t))
  again_related Invalid _ f g h hc = h

  pub closed_related : {A : Type 0} (x : Completion S A) (y : Completion T A) → Related k x y → Related k (closed x) (closed y)
  closed_related x y h = again_related x y (λ vs s. Invalid) (λ vs t. Invalid) h (λ vs s t r. k.invalid_both)

  pub choose_related : {A : Type 0} (v : Value) (x1 x2 : Completion S A) (y1 y2 : Completion T A) → Related k x1 y1 → Related k x2 y2 → Related k (choose v x1 x2) (choose v y1 y2)
  choose_related Nil x1 x2 y1 y2 h1 h2 = h2
  choose_related (Truth false) x1 x2 y1 y2 h1 h2 = h2
  choose_related (Truth true) x1 x2 y1 y2 h1 h2 = h1
  choose_related (Int z) x1 x2 y1 y2 h1 h2 = h1
  choose_related (Key bs) x1 x2 y1 y2 h1 h2 = h1
  choose_related (Text bs) x1 x2 y1 y2 h1 h2 = h1
  choose_related (Vector vs) x1 x2 y1 y2 h1 h2 = h1
  choose_related (Cell c) x1 x2 y1 y2 h1 h2 = h1

  give_related : {A : Type 0} (o : Option A) (s : S) (t : T) → k.rel s t → Related k (give o s) (give o t)
  give_related None s t r = k.invalid_both
  give_related (Some a) s t r = (refl, r)

  pub result_related : (x : Result Value FaultKind) (span : Span) (s : S) (t : T) → k.rel s t → Related k (result_of x span s) (result_of x span t)
  result_related (Ok v) span s t r = (refl, r)
  result_related (Err e) span s t r = (refl, k.faults_of s t r)

  last_related : (b : Bool) (x : Completion S Value) (y : Completion T Value) (f : S → Completion S Value) (g : T → Completion T Value) → Related k x y → ((s : S) (t : T) → k.rel s t → Related k (f s) (g t)) → Related k (last_or b x f) (last_or b y g)
  last_related true x y f g h hc = h
  last_related false x y f g h hc = bind_related x y (λ v s. f s) (λ v t. g t) h (λ v s t r. hc s t r)

  less_turns : (nl nr : ℕ) → Turns S T k (suc nl) (suc nr) → Turns S T k nl nr
  less_turns nl nr u = ⊎_elim (λ e. let p : nl ≡ nr = omega (arith, e) in inl p) (λ h. let p : nl ≤ nr = omega (arith, h.0) in inr (p, h.1)) u

  pub turns_related : (nl nr : ℕ) → Turns S T k nl nr → (d : ℕ) (f : List Value → S → Completion S Value) (g : List Value → T → Completion T Value) → ((vs : List Value) (s : S) (t : T) → k.rel s t → Related k (f vs s) (g vs t)) → (vs : List Value) (s : S) (t : T) → k.rel s t → Related k (turns nl d f vs s) (turns nr d g vs t)
  turns_related zero zero u d f g h vs s t r = k.out_of_turns_of s t r
  turns_related zero (suc nr) u d f g h vs s t r = ⊎_elim (λ e. absurd (omega (arith, e))) (λ p. p.1 s t r _) u
  turns_related (suc nl) zero u d f g h vs s t r = ⊎_elim (λ e. absurd (omega (arith, e))) (λ p. absurd (omega (arith, p.0))) u
  turns_related (suc nl) (suc nr) u d f g h vs s t r = turn (nat_eq (length vs) d) (λ ws s1 t1 r1. turns_related nl nr (less_turns nl nr u) d f g h ws s1 t1 r1)
    where
      turn : (b : Bool) → ((ws : List Value) (s1 : S) (t1 : T) → k.rel s1 t1 → Related k (turns nl d f ws s1) (turns nr d g ws t1)) → Related k (if b then again (f vs s) (turns nl d f) else Invalid) (if b then again (g vs t) (turns nr d g) else Invalid)
      turn true next = again_related (f vs s) (g vs t) (turns nl d f) (turns nr d g) (h vs s t r) next
      turn false next = k.invalid_both

  pub apply_related : (cf : ℕ → List Value → S → Completion S Value) (cg : ℕ → List Value → T → Completion T Value) → ((f : ℕ) (vs : List Value) (s : S) (t : T) → k.rel s t → Related k (cf f vs s) (cg f vs t)) → (span : Span) (c : Callee) (vs : List Value) (s : S) (t : T) → k.rel s t → Related k (apply cf span c vs s) (apply cg span c vs t)
  apply_related cf cg h span (CoreOp op) vs s t r = result_related (core op vs) span s t r
  apply_related cf cg h span (Function f) vs s t r = h f vs s t r

-- callees are alike
abbrev pub Applied : (S T : Type 0) → Link S T → Applies S → Applies T → Type 0
Applied S T k f g = (c : Callee) (vs : List Value) (s : S) (t : T) → k.rel s t → Related k (f c vs s) (g c vs t)

-- the forms are alike, in the given modes, where they keep such rules; callees are alike where any function may be called
pub record Alike (S T : Type 0) (k : Link S T) (fx : Effects S) (gx : Effects T) (cf : Bool → ℕ → List Value → S → Completion S Value) (cg : Bool → ℕ → List Value → T → Completion T Value) (nl nr : ℕ) (Mode : Bool → Type 0) (w : Rules) : Type 0 where
  pub print : (inside : Bool) (vs : List Value) (s : S) (t : T) → Mode inside → k.rel s t → Related k (fx.print inside vs s) (gx.print inside vs t)
  pub look : (form : LookForm) (inside : Bool) (m : Mark) (c : Value) (s : S) (t : T) → w.form inside (form_of.Look form) → Mode inside → k.rel s t → Related k (fx.look form inside m c s) (gx.look form inside m c t)
  pub put : (form : PutForm) (inside : Bool) (m : Mark) (c v : Value) (s : S) (t : T) → w.form inside (form_of.Put form) → Mode inside → (((f : ℕ) → w.call inside f) → Applied S T k (apply (cf inside) m.span) (apply (cg inside) m.span)) → k.rel s t →
      Related k (fx.put form inside m c v (apply (cf inside) m.span) s) (gx.put form inside m c v (apply (cg inside) m.span) t)
  pub update : (form : UpdateForm) (inside : Bool) (m : Mark) (c : Value) (callee : Callee) (vs : List Value) (s : S) (t : T) → w.form inside (form_of.Update form) → Mode inside → w.callee callee → (((f : ℕ) → w.call inside f) → Applied S T k (apply (cf inside) m.span) (apply (cg inside) m.span)) → k.rel s t →
      Related k (fx.update form inside m c callee vs (apply (cf inside) m.span) s) (gx.update form inside m c callee vs (apply (cg inside) m.span) t)
  pub send : (inside : Bool) (m : Mark) (c : Value) (callee : Callee) (vs : List Value) (s : S) (t : T) → Mode inside → k.rel s t → Related k (fx.send inside m c callee vs s) (gx.send inside m c callee vs t)
  pub dosync : (inside : Bool) (m : Mark) (e : Tree) (env : List Value) (s : S) (t : T) → Mode inside → Keeps w true e →
      (Mode true → (s1 : S) (t1 : T) → k.rel s1 t1 → Related k (closed (eval fx cf nl true e env s1)) (closed (eval gx cg nr true e env t1))) → (((f : ℕ) → w.call true f) → Mode true → Applied S T k (apply (cf true) m.span) (apply (cg true) m.span)) → k.rel s t →
      Related k (fx.dosync inside m e env (λ s1. closed (eval fx cf nl true e env s1)) (apply (cf true) m.span) s) (gx.dosync inside m e env (λ t1. closed (eval gx cg nr true e env t1)) (apply (cg true) m.span) t)

-- so are calls of the functions that may be called
abbrev pub CallsAlike : (S T : Type 0) → Link S T → (Bool → ℕ → List Value → S → Completion S Value) → (Bool → ℕ → List Value → T → Completion T Value) → (Bool → Type 0) → (Bool → ℕ → Type 0) → Type 0
CallsAlike S T k cf cg Mode May = (inside : Bool) (f : ℕ) (vs : List Value) (s : S) (t : T) → May inside f → Mode inside → k.rel s t → Related k (cf inside f vs s) (cg inside f vs t)

module _ (S T : Type 0) (k : Link S T) (fx : Effects S) (gx : Effects T) (cf : Bool → ℕ → List Value → S → Completion S Value) (cg : Bool → ℕ → List Value → T → Completion T Value) (nl nr : ℕ) (Mode : Bool → Type 0) (w : Rules)
    (more_turns : Turns S T k nl nr) (alike : Alike S T k fx gx cf cg nl nr Mode w) (calls : CallsAlike S T k cf cg Mode w.call) where
  applied : (span : Span) (inside : Bool) → Mode inside → ((f : ℕ) → w.call inside f) → Applied S T k (apply (cf inside) span) (apply (cg inside) span)
  applied span inside m may c vs s t r = apply_related S T k (cf inside) (cg inside) (λ f ws s1 t1 r1. calls inside f ws s1 t1 (may f) m r1) span c vs s t r

  mutual
    pub eval_related : (e : Tree) (inside : Bool) (env : List Value) (s : S) (t : T) → Keeps w inside e → Mode inside → k.rel s t → Related k (eval fx cf nl inside e env s) (eval gx cg nr inside e env t)
    eval_related (Const v k1) inside env s t p m r = (refl, r)
    eval_related (Local i k1) inside env s t p m r = give_related S T k (nth env i) s t r
    eval_related (If c x y k1) inside env s t p m r =
        bind_related S T k (eval fx cf nl inside c env s) (eval gx cg nr inside c env t) _ _ (eval_related c inside env s t p.0 m r)
        (λ v s1 t1 r1. choose_related S T k v _ _ _ _ (eval_related x inside env s1 t1 p.1 m r1) (eval_related y inside env s1 t1 p.2 m r1))
    eval_related (Do items k1) inside env s t p m r = do_related items inside env s t p m r
    eval_related (Let values body k1) inside env s t p m r =
        bind_related S T k (eval_let fx cf nl inside values env s) (eval_let gx cg nr inside values env t) _ _ (let_related values inside env s t p.0 m r)
        (λ vs s1 t1 r1. eval_related body inside (env ++ vs) s1 t1 p.1 m r1)
    eval_related (Loop values body k1) inside env s t p m r =
        bind_related S T k (eval_let fx cf nl inside values env s) (eval_let gx cg nr inside values env t) _ _ (let_related values inside env s t p.0 m r)
        (λ vs s1 t1 r1. turns_related S T k nl nr more_turns (count values) (λ ws s2. eval fx cf nl inside body (env ++ ws) s2) (λ ws t2. eval gx cg nr inside body (env ++ ws) t2) (λ ws s2 t2 r2. eval_related body inside (env ++ ws) s2 t2 p.1 m r2) vs s1 t1 r1)
    eval_related (Recur values k1) inside env s t p m r =
        bind_related S T k (eval_all fx cf nl inside values env s) (eval_all gx cg nr inside values env t) (λ vs s1. Recurs vs s1) (λ vs t1. Recurs vs t1) (all_related values inside env s t p m r) (λ vs s1 t1 r1. (refl, r1))
    eval_related (Core op args k1) inside env s t p m r =
        bind_related S T k (eval_all fx cf nl inside args env s) (eval_all gx cg nr inside args env t) _ _ (all_related args inside env s t p m r) (λ vs s1 t1 r1. result_related S T k (core op vs) k1.span s1 t1 r1)
    eval_related (Call f args k1) inside env s t p m r =
        bind_related S T k (eval_all fx cf nl inside args env s) (eval_all gx cg nr inside args env t) _ _ (all_related args inside env s t p.1 m r) (λ vs s1 t1 r1. calls inside f vs s1 t1 p.0 m r1)
    eval_related (VectorOf items k1) inside env s t p m r =
        bind_related S T k (eval_all fx cf nl inside items env s) (eval_all gx cg nr inside items env t) _ _ (all_related items inside env s t p m r) (λ vs s1 t1 r1. result_related S T k (vector_of vs) k1.span s1 t1 r1)
    eval_related (Println args k1) inside env s t p m r =
        bind_related S T k (eval_all fx cf nl inside args env s) (eval_all gx cg nr inside args env t) _ _ (all_related args inside env s t p m r) (λ vs s1 t1 r1. alike.print inside vs s1 t1 m r1)
    eval_related (Dosync body k1) inside env s t p m r =
        alike.dosync inside k1 body env s t m p (λ m1 s1 t1 r1. closed_related S T k (eval fx cf nl true body env s1) (eval gx cg nr true body env t1) (eval_related body true env s1 t1 p m1 r1)) (λ may m1. applied k1.span true m1 may) r
    eval_related (Look form cell k1) inside env s t p m r =
        bind_related S T k (eval fx cf nl inside cell env s) (eval gx cg nr inside cell env t) _ _ (eval_related cell inside env s t p.1 m r) (λ c s1 t1 r1. alike.look form inside k1 c s1 t1 p.0 m r1)
    eval_related (Put form cell value k1) inside env s t p m r =
        bind_related S T k (eval fx cf nl inside cell env s) (eval gx cg nr inside cell env t) _ _ (eval_related cell inside env s t p.1 m r)
        (λ c s1 t1 r1. bind_related S T k (eval fx cf nl inside value env s1) (eval gx cg nr inside value env t1) _ _ (eval_related value inside env s1 t1 p.2 m r1) (λ v s2 t2 r2. alike.put form inside k1 c v s2 t2 p.0 m (applied k1.span inside m) r2))
    eval_related (Update form cell callee args k1) inside env s t p m r =
        bind_related S T k (eval fx cf nl inside cell env s) (eval gx cg nr inside cell env t) _ _ (eval_related cell inside env s t p.1 m r)
        (λ c s1 t1 r1. bind_related S T k (eval_all fx cf nl inside args env s1) (eval_all gx cg nr inside args env t1) _ _ (all_related args inside env s1 t1 p.3 m r1) (λ vs s2 t2 r2. alike.update form inside k1 c callee vs s2 t2 p.0 m p.2 (applied k1.span inside m) r2))
    eval_related (Send cell callee args k1) inside env s t p m r =
        bind_related S T k (eval fx cf nl inside cell env s) (eval gx cg nr inside cell env t) _ _ (eval_related cell inside env s t p.0 m r)
        (λ c s1 t1 r1. bind_related S T k (eval_all fx cf nl inside args env s1) (eval_all gx cg nr inside args env t1) _ _ (all_related args inside env s1 t1 p.1 m r1) (λ vs s2 t2 r2. alike.send inside k1 c callee vs s2 t2 m r2))

    all_related : (es : Trees) (inside : Bool) (env : List Value) (s : S) (t : T) → KeepAll w inside es → Mode inside → k.rel s t → Related k (eval_all fx cf nl inside es env s) (eval_all gx cg nr inside es env t)
    all_related none inside env s t p m r = (refl, r)
    all_related (more e rest) inside env s t p m r =
        bind_related S T k (eval fx cf nl inside e env s) (eval gx cg nr inside e env t) _ _ (eval_related e inside env s t p.0 m r)
        (λ v s1 t1 r1. bind_related S T k (eval_all fx cf nl inside rest env s1) (eval_all gx cg nr inside rest env t1) (λ vs s2. Completes (v ∷ vs) s2) (λ vs t2. Completes (v ∷ vs) t2) (all_related rest inside env s1 t1 p.1 m r1) (λ vs s2 t2 r2. (refl, r2)))

    let_related : (es : Trees) (inside : Bool) (env : List Value) (s : S) (t : T) → KeepAll w inside es → Mode inside → k.rel s t → Related k (eval_let fx cf nl inside es env s) (eval_let gx cg nr inside es env t)
    let_related none inside env s t p m r = (refl, r)
    let_related (more e rest) inside env s t p m r =
        bind_related S T k (eval fx cf nl inside e env s) (eval gx cg nr inside e env t) _ _ (eval_related e inside env s t p.0 m r)
        (λ v s1 t1 r1. bind_related S T k (eval_let fx cf nl inside rest (env ++ v ∷ []) s1) (eval_let gx cg nr inside rest (env ++ v ∷ []) t1) (λ vs s2. Completes (v ∷ vs) s2) (λ vs t2. Completes (v ∷ vs) t2) (let_related rest inside (env ++ v ∷ []) s1 t1 p.1 m r1) (λ vs s2 t2 r2. (refl, r2)))

    do_related : (es : Trees) (inside : Bool) (env : List Value) (s : S) (t : T) → KeepAll w inside es → Mode inside → k.rel s t → Related k (eval_do fx cf nl inside es env s) (eval_do gx cg nr inside es env t)
    do_related none inside env s t p m r = k.invalid_both
    do_related (more e rest) inside env s t p m r =
        last_related S T k (is_none rest) (eval fx cf nl inside e env s) (eval gx cg nr inside e env t) (λ s1. eval_do fx cf nl inside rest env s1) (λ t1. eval_do gx cg nr inside rest env t1) (eval_related e inside env s t p.0 m r) (λ s1 t1 r1. do_related rest inside env s1 t1 p.1 m r1)

one_more : (S T : Type 0) (k : Link S T) (nl nr : ℕ) → Turns S T k nl nr → Turns S T k (suc nl) (suc nr)
one_more S T k nl nr u = ⊎_elim (λ e. let p : suc nl ≡ suc nr = omega (arith, e) in inl p) (λ h. let p : suc nl ≤ suc nr = omega (arith, h.0) in inr (p, h.1)) u

-- functions are alike, whatever the depth of calls
module _ (S T : Type 0) (k : Link S T) (fxs : ℕ → Effects S) (gxs : ℕ → Effects T) (nl nr : ℕ) (functions : List PlainFunction) (Mode : Bool → Type 0) (w : Rules)
    (more_turns : Turns S T k nl nr) (alikes : (d : ℕ) → Alike S T k (fxs d) (gxs d) (call_at fxs nl functions d) (call_at gxs nr functions d) nl nr Mode w)
    (bodies : (inside : Bool) (f : ℕ) (fun : PlainFunction) → nth functions f ≡ Some fun → w.call inside f → Keeps w inside fun.body) where
  -- one call deeper
  call_related : (d : ℕ) → CallsAlike S T k (call_at fxs nl functions d) (call_at gxs nr functions d) Mode w.call → CallsAlike S T k (call_at fxs nl functions (suc d)) (call_at gxs nr functions (suc d)) Mode w.call
  call_related d below inside f vs s t may m r = go (nth functions f) refl
    where
      body_l : PlainFunction → S → Completion S Value
      body_l fun s1 = turns (suc nl) fun.parameters (λ ws s2. eval (fxs d) (call_at fxs nl functions d) nl inside fun.body ws s2) vs s1

      body_r : PlainFunction → T → Completion T Value
      body_r fun t1 = turns (suc nr) fun.parameters (λ ws t2. eval (gxs d) (call_at gxs nr functions d) nr inside fun.body ws t2) vs t1

      go : (o : Option PlainFunction) → nth functions f ≡ o → Related k (bind (give o s) body_l) (bind (give o t) body_r)
      go None e = k.invalid_both
      go (Some fun) e =
          turns_related S T k (suc nl) (suc nr) (one_more S T k nl nr more_turns) fun.parameters (λ ws s2. eval (fxs d) (call_at fxs nl functions d) nl inside fun.body ws s2) (λ ws t2. eval (gxs d) (call_at gxs nr functions d) nr inside fun.body ws t2)
          (λ ws s2 t2 r2. eval_related S T k (fxs d) (gxs d) (call_at fxs nl functions d) (call_at gxs nr functions d) nl nr Mode w more_turns (alikes d) below fun.body inside ws s2 t2 (bodies inside f fun e may) m r2) vs s t r

  pub calls_related : (d : ℕ) → CallsAlike S T k (call_at fxs nl functions d) (call_at gxs nr functions d) Mode w.call
  calls_related zero inside f vs s t may m r = k.invalid_both
  calls_related (suc d) inside f vs s t may m r = call_related d (calls_related d) inside f vs s t may m r
