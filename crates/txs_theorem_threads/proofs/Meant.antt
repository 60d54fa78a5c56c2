-- What an answer of a sound tree is, where so much is known of the forms: it is not invalid, a recur stands in tail position alone,
-- and only a running transaction runs again.
use Rattle.std.proofs.Common.{ℕ, zero, suc, Bool, true, false, List, [], ◌∷◌, Option, Some, None, Result, Ok, Err, refl, sym, ap, subst, length, take, arith, length-append, ◌≡◌, ◌<◌, ◌≤◌, ◌+◌, ◌++◌, ◌∙◌, if◌then◌else◌}
use Rattle.std.proofs.lemmas.Bool.{eq-eqb}
use Rattle.txs_value_apply.specs.Core.{core, vector_of}
use Rattle.txs_value_apply.specs.Truth.{choose}
use Rattle.txs_value_cell.specs.Forms.{rule}
use Rattle.txs_value_data.specs.Places.{nth}
use Rattle.txs_value_data.specs.declared.fault.FaultKind.{FaultKind}
use Rattle.txs_value_data.specs.declared.fault.Span.{Span}
use Rattle.txs_value_cell.specs.declared.form.CellForm.TheVariants as form_of
use Rattle.txs_value_cell.specs.declared.form.LookForm.{LookForm}
use Rattle.txs_value_cell.specs.declared.form.PutForm.{PutForm}
use Rattle.txs_value_cell.specs.declared.form.Standing.TheVariants.{Outside}
use Rattle.txs_value_cell.specs.declared.form.UpdateForm.{UpdateForm}
use Rattle.txs_value_data.specs.declared.op.Callee.{Callee}
use Rattle.txs_value_data.specs.declared.op.Callee.TheVariants.{Core as CoreOp, Function}
use Rattle.txs_value_data.specs.declared.value.Value.{Value}
use Rattle.txs_value_data.specs.declared.value.Value.TheVariants.{Nil, Truth, Int, Key, Text, Vector, Cell}
use Rattle.txs_tree_meaning.specs.Known.{Known, is_pure, known_of, known}
use Rattle.txs_tree_meaning.specs.Meaning.{Completion, Completes, Recurs, Faults, Retries, Waits, OutOfTurns, Invalid, bind, again, closed, give, result_of, Applies, Effects, turns, apply, eval, eval_all, eval_let, eval_do, call_at}
use Rattle.txs_tree_meaning.specs.Pure.{nowhere}
use Rattle.txs_tree_meaning.specs.Sound.{Zone, in_function, in_thread, in_dosync, MayStand, MayCall, SoundTree, SoundAll, SoundLet, SoundDo, SoundCallee, SoundFunctions, SoundSent}
use Rattle.txs_tree_meaning.specs.Tree.{Mark, Tree, Const, Local, If, Do, Let, Loop, Recur, Core, Call, VectorOf, Println, Dosync, Look, Put, Update, Send, Trees, none, more, count, PlainFunction}
use Rattle.txs_tree_meaning.proofs.Callable.{nth-take, nth-before, function_at}
use Rattle.txs_theorem_threads.proofs.Callees.{sound_pure}
use Rattle.txs_theorem_threads.proofs.Depth.{pures, others, both_kinds, pure_before, other_before, known_there, shallow, agrees_proper}
use Rattle.txs_theorem_threads.proofs.Functions.{known_free, there, nth_below, thread_sound, dosync_sound}
use Rattle.txs_theorem_threads.proofs.Quiet.{carried, IsQuiet, quietly, callee_carried}
use Rattle.txs_theorem_threads.specs.Behaves.{IsProper}

-- which callees of so many values commutes may have
abbrev pub Suits : Type 1
Suits = Callee → ℕ → Type 0

-- something is said inside a transaction alone
abbrev pub WhereInside : Bool → Type 0 → Type 0
WhereInside true P = P
WhereInside false P = Unit {0}

pub where_inside : (inside : Bool) (P : Type 0) → P → WhereInside inside P
where_inside true P p = p
where_inside false P p = tt

-- What an answer of a sound part is, where this holds of states outside a transaction and inside: P tells of a value. Nothing comes
-- after a fault outside.
abbrev pub MeantAs : {S A : Type 0} → (Bool → S → Type 0) → Bool → Option ℕ → (A → Type 0) → Completion S A → Type 0
MeantAs H inside tail P (Completes a s) = P a × H inside s
MeantAs H inside tail P (Recurs vs s) = (tail ≡ Some (length vs)) × H inside s
MeantAs H inside tail P (Faults f s) = WhereInside inside (H inside s)
MeantAs H inside tail P (Retries s) = (inside ≡ true) × H false s
MeantAs H inside tail P (Waits s) = Unit {0}
MeantAs H inside tail P (OutOfTurns s) = Unit {0}
MeantAs H inside tail P Invalid = ⊥

-- any value
abbrev pub Any : Value → Type 0
Any v = Unit {0}

-- so many values
abbrev Many : ℕ → List Value → Type 0
Many n vs = length vs ≡ n

-- a pure callee on these values has such an answer, from any state, and leaves the state as it was
pub record Proper (S : Type 0) (f : Applies S) (c : Callee) (vs : List Value) : Type 0 where
  pub answer : Completion (Unit {0}) Value
  pub proper : IsProper answer
  pub same : (s : S) → f c vs s ≡ carried s answer

abbrev IsSome : Option ℕ → Type 0
IsSome None = ⊥
IsSome (Some a) = Unit {0}

pub none_some : (n : ℕ) → None ≡ Some n → ⊥
none_some n e = subst IsSome (sym e) tt

some_same : (n m : ℕ) → Some n ≡ Some m → n ≡ m
some_same n m e = cc

-- where a part stands when it runs
abbrev pub zone_of : Bool → Zone
zone_of true = in_dosync
zone_of false = in_thread

module _ (S : Type 0) (H : Bool → S → Type 0) where
  -- the first part is in no tail position
  pub bind_meant : {A B : Type 0} (inside : Bool) (tail : Option ℕ) (P : A → Type 0) (Q : B → Type 0) (x : Completion S A) (go : A → S → Completion S B) → MeantAs H inside None P x → ((a : A) (s : S) → P a → H inside s → MeantAs H inside tail Q (go a s)) → MeantAs H inside tail Q (bind x go)
  bind_meant inside tail P Q (Completes a s) go h k = k a s h.0 h.1
  bind_meant inside tail P Q (Recurs vs s) go h k = absurd (none_some (length vs) h.0)
  bind_meant inside tail P Q (Faults f s) go h k = h
  bind_meant inside tail P Q (Retries s) go h k = h
  bind_meant inside tail P Q (Waits s) go h k = tt
  bind_meant inside tail P Q (OutOfTurns s) go h k = tt
  bind_meant inside tail P Q Invalid go h k = h

  -- where a recur doesn't leave, none comes
  pub closed_meant : (inside : Bool) (tail : Option ℕ) (x : Completion S Value) → MeantAs H inside None Any x → MeantAs H inside tail Any (closed x)
  closed_meant inside tail (Completes a s) h = h
  closed_meant inside tail (Recurs vs s) h = absurd (none_some (length vs) h.0)
  closed_meant inside tail (Faults f s) h = h
  closed_meant inside tail (Retries s) h = h
  closed_meant inside tail (Waits s) h = tt
  closed_meant inside tail (OutOfTurns s) h = tt
  closed_meant inside tail Invalid h = h

  -- a part that is in no tail position may stand in one
  loose : (inside : Bool) (tail : Option ℕ) (x : Completion S Value) → MeantAs H inside None Any x → MeantAs H inside tail Any x
  loose inside tail (Completes a s) h = h
  loose inside tail (Recurs vs s) h = absurd (none_some (length vs) h.0)
  loose inside tail (Faults f s) h = h
  loose inside tail (Retries s) h = h
  loose inside tail (Waits s) h = tt
  loose inside tail (OutOfTurns s) h = tt
  loose inside tail Invalid h = h

  choose_meant : (inside : Bool) (tail : Option ℕ) (v : Value) (x y : Completion S Value) → MeantAs H inside tail Any x → MeantAs H inside tail Any y → MeantAs H inside tail Any (choose v x y)
  choose_meant inside tail Nil x y h k = k
  choose_meant inside tail (Truth false) x y h k = k
  choose_meant inside tail (Truth true) x y h k = h
  choose_meant inside tail (Int z) x y h k = h
  choose_meant inside tail (Key bs) x y h k = h
  choose_meant inside tail (Text bs) x y h k = h
  choose_meant inside tail (Vector vs) x y h k = h
  choose_meant inside tail (Cell c) x y h k = h

  result_meant : (inside : Bool) (tail : Option ℕ) (r : Result Value FaultKind) (span : Span) (s : S) → H inside s → MeantAs H inside tail Any (result_of r span s)
  result_meant inside tail (Ok v) span s h = (tt, h)
  result_meant inside tail (Err k) span s h = where_inside inside (H inside s) h

  -- a local that is there
  local_meant : (inside : Bool) (tail : Option ℕ) (env : List Value) (i : ℕ) (s : S) → i < length env → H inside s → MeantAs H inside tail Any (give (nth env i) s)
  local_meant inside tail [] i s lt h = absurd (omega (arith, lt))
  local_meant inside tail (v ∷ env) zero s lt h = (tt, h)
  local_meant inside tail (v ∷ env) (suc i) s lt h = local_meant inside tail env i s (omega (arith, lt)) h

  again_meant : (inside : Bool) (tail : Option ℕ) (d : ℕ) (x : Completion S Value) (go : List Value → S → Completion S Value) → MeantAs H inside (Some d) Any x → ((ws : List Value) (s : S) → length ws ≡ d → H inside s → MeantAs H inside tail Any (go ws s)) → MeantAs H inside tail Any (again x go)
  again_meant inside tail d (Completes a s) go m k = m
  again_meant inside tail d (Recurs ws s) go m k = k ws s (sym (some_same d (length ws) m.0)) m.1
  again_meant inside tail d (Faults g s) go m k = m
  again_meant inside tail d (Retries s) go m k = m
  again_meant inside tail d (Waits s) go m k = tt
  again_meant inside tail d (OutOfTurns s) go m k = tt
  again_meant inside tail d Invalid go m k = m

  -- a loop of d values, whose body's recurs have d values
  turns_meant : (inside : Bool) (tail : Option ℕ) (n d : ℕ) (body : List Value → S → Completion S Value) → ((vs : List Value) (s : S) → length vs ≡ d → H inside s → MeantAs H inside (Some d) Any (body vs s)) → (vs : List Value) (s : S) → length vs ≡ d → H inside s → MeantAs H inside tail Any (turns n d body vs s)
  turns_meant inside tail zero d body h vs s e f = tt
  turns_meant inside tail (suc n) d body h vs s e f =
      subst (λ b. MeantAs H inside tail Any (if b then again (body vs s) (turns n d body) else Invalid)) (sym (eq-eqb (length vs) d e))
      (again_meant inside tail d (body vs s) (turns n d body) (h vs s e f) (λ ws s1 q g. turns_meant inside tail n d body h ws s1 q g))

  -- an answer that is carried from a state, of code that waits for nothing
  carried_proper : (inside : Bool) (s : S) (q : Completion (Unit {0}) Value) → IsQuiet q → MeantAs H inside None Any (carried s q) → IsProper q
  carried_proper inside s (Completes a u) w h = tt
  carried_proper inside s (Recurs vs u) w h = absurd (none_some (length vs) h.0)
  carried_proper inside s (Faults f u) w h = tt
  carried_proper inside s (Retries u) w h = absurd w
  carried_proper inside s (Waits u) w h = absurd w
  carried_proper inside s (OutOfTurns u) w h = tt
  carried_proper inside s Invalid w h = h

-- validators, callees of one value of which this holds, have proper answers
abbrev pub Valid : (S : Type 0) → (Callee → Type 0) → Applies S → Type 0
Valid S V f = (c : Callee) (w : Value) → V c → Proper S f c (w ∷ [])

-- What is known of the forms, where this holds of states, by which callees the commutes of a transaction may have: the form stands
-- where it may, its callee suits, and has a proper answer on any value with the arguments.
pub record SoundForms (S : Type 0) (fx : Effects S) (Holds : Suits → Bool → S → Type 0) (V : Callee → Type 0) : Type 1 where
  pub print : (P : Suits) (inside : Bool) (vs : List Value) (s : S) → MayStand (zone_of inside) Outside → Holds P inside s → MeantAs (Holds P) inside None Any (fx.print inside vs s)
  pub look : (P : Suits) (form : LookForm) (inside : Bool) (m : Mark) (c : Value) (s : S) → MayStand (zone_of inside) (rule (form_of.Look form)).stands → Holds P inside s → MeantAs (Holds P) inside None Any (fx.look form inside m c s)
  pub put : (P : Suits) (form : PutForm) (inside : Bool) (m : Mark) (c v : Value) (f : Applies S) (s : S) → MayStand (zone_of inside) (rule (form_of.Put form)).stands → Valid S V f → Holds P inside s → MeantAs (Holds P) inside None Any (fx.put form inside m c v f s)
  pub update : (P : Suits) (form : UpdateForm) (inside : Bool) (m : Mark) (c : Value) (callee : Callee) (vs : List Value) (f : Applies S) (s : S) → MayStand (zone_of inside) (rule (form_of.Update form)).stands → P callee (suc (length vs)) → ((v : Value) → Proper S f callee (v ∷ vs)) →
      Valid S V f → Holds P inside s → MeantAs (Holds P) inside None Any (fx.update form inside m c callee vs f s)
  pub send : (P : Suits) (inside : Bool) (m : Mark) (c : Value) (callee : Callee) (vs : List Value) (s : S) → Holds P inside s → MeantAs (Holds P) inside None Any (fx.send inside m c callee vs s)
  -- with what is known of the body that joins, and of one with commutes of its own
  pub dosync : (P O : Suits) (inside : Bool) (m : Mark) (e : Tree) (env : List Value) (body : S → Completion S Value) (f : Applies S) (s : S) → ((s1 : S) → Holds P true s1 → MeantAs (Holds P) true None Any (body s1)) → ((s1 : S) → Holds O true s1 → MeantAs (Holds O) true None Any (body s1)) →
      ((c : Callee) (ws : List Value) → O c (length ws) → Proper S f c ws) → Valid S V f → Holds P inside s → MeantAs (Holds P) inside None Any (fx.dosync inside m e env body f s)

-- each callee that is sound where these functions are defined is such a one
abbrev pub Wide : List Known → Suits → Type 0
Wide ks P = (c : Callee) (n : ℕ) → SoundCallee ks c n → P c n

-- a call of a function that is known, where it may be called
abbrev CallsMeant : (S : Type 0) → (Suits → Bool → S → Type 0) → List Known → (Bool → ℕ → List Value → S → Completion S Value) → Type 1
CallsMeant S Holds ks call =
    (P : Suits) → Wide ks P → (inside : Bool) (f : ℕ) (k : Known) → nth ks f ≡ Some k → MayCall (zone_of inside) k → (vs : List Value) → k.parameters ≡ length vs → (s : S) → Holds P inside s → MeantAs (Holds P) inside None Any (call inside f vs s)

-- a sound callee has a proper answer
abbrev CalleesProper : (S : Type 0) → List Known → (Bool → ℕ → List Value → S → Completion S Value) → Type 0
CalleesProper S ks call = (inside : Bool) (span : Span) (c : Callee) (vs : List Value) → SoundCallee ks c (length vs) → Proper S (apply (call inside) span) c vs

module _ (S : Type 0) (fx : Effects S) (Holds : Suits → Bool → S → Type 0) (V : Callee → Type 0) (forms : SoundForms S fx Holds V) (ks : List Known) (call : Bool → ℕ → List Value → S → Completion S Value) (calls : CallsMeant S Holds ks call) (callees : CalleesProper S ks call)
    (valid : (inside : Bool) (span : Span) → Valid S V (apply (call inside) span)) (n : ℕ) where
  mutual
    pub eval_meant : (P : Suits) → Wide ks P → (e : Tree) (inside : Bool) (d : ℕ) (tail : Option ℕ) → SoundTree ks (zone_of inside) d tail e → (env : List Value) → length env ≡ d → (s : S) → Holds P inside s → MeantAs (Holds P) inside tail Any (eval fx call n inside e env s)
    eval_meant P w (Const v m) inside d tail h env l s g = (tt, g)
    eval_meant P w (Local i m) inside d tail h env l s g = local_meant S (Holds P) inside tail env i s (subst (λ k. i < k) (sym l) h) g
    eval_meant P w (If c a b m) inside d tail h env l s g =
        bind_meant S (Holds P) inside tail Any Any (eval fx call n inside c env s) _ (eval_meant P w c inside d None h.0 env l s g)
        (λ v s1 p g1. choose_meant S (Holds P) inside tail v _ _ (eval_meant P w a inside d tail h.1 env l s1 g1) (eval_meant P w b inside d tail h.2 env l s1 g1))
    eval_meant P w (Do items m) inside d tail h env l s g = do_meant P w items inside d tail h env l s g
    eval_meant P w (Let values body m) inside d tail h env l s g =
        bind_meant S (Holds P) inside tail (Many (count values)) Any (eval_let fx call n inside values env s) _ (let_meant P w values inside d h.0 env l s g)
        (λ vs s1 p g1. eval_meant P w body inside (d + count values) tail h.1 (env ++ vs) (omega (arith, length-append env vs, l, p)) s1 g1)
    eval_meant P w (Loop values body m) inside d tail h env l s g =
        bind_meant S (Holds P) inside tail (Many (count values)) Any (eval_let fx call n inside values env s) _ (let_meant P w values inside d h.0 env l s g)
        (λ vs s1 p g1. turns_meant S (Holds P) inside tail n (count values) (λ ws s2. eval fx call n inside body (env ++ ws) s2)
        (λ ws s2 q g2. eval_meant P w body inside (d + count values) (Some (count values)) h.1 (env ++ ws) (omega (arith, length-append env ws, l, q)) s2 g2) vs s1 p g1)
    eval_meant P w (Recur values m) inside d tail h env l s g =
        bind_meant S (Holds P) inside tail (Many (count values)) Any (eval_all fx call n inside values env s) _ (all_meant P w values inside d h.1 env l s g) (λ vs s1 p g1. (h.0 ∙ ap Some (sym p), g1))
    eval_meant P w (Core op args m) inside d tail h env l s g =
        bind_meant S (Holds P) inside tail (Many (count args)) Any (eval_all fx call n inside args env s) _ (all_meant P w args inside d h.1 env l s g) (λ vs s1 p g1. result_meant S (Holds P) inside tail (core op vs) m.span s1 g1)
    eval_meant P w (Call f args m) inside d tail h env l s g =
        bind_meant S (Holds P) inside tail (Many (count args)) Any (eval_all fx call n inside args env s) _ (all_meant P w args inside d h.1 env l s g)
        (λ vs s1 p g1. loose S (Holds P) inside tail (call inside f vs s1) (calls P w inside f h.0.function h.0.found h.0.zoned vs (h.0.arity ∙ sym p) s1 g1))
    eval_meant P w (VectorOf items m) inside d tail h env l s g =
        bind_meant S (Holds P) inside tail (Many (count items)) Any (eval_all fx call n inside items env s) _ (all_meant P w items inside d h.1 env l s g) (λ vs s1 p g1. result_meant S (Holds P) inside tail (vector_of vs) m.span s1 g1)
    eval_meant P w (Println args m) inside d tail h env l s g =
        bind_meant S (Holds P) inside tail (Many (count args)) Any (eval_all fx call n inside args env s) _ (all_meant P w args inside d h.2 env l s g)
        (λ vs s1 p g1. loose S (Holds P) inside tail (fx.print inside vs s1) (forms.print P inside vs s1 h.0 g1))
    eval_meant P w (Dosync body m) inside d tail h env l s g =
        let own : Suits = λ c k. SoundCallee ks c k in
        let run : S → Completion S Value = λ s1. closed (eval fx call n true body env s1) in
        loose S (Holds P) inside tail (fx.dosync inside m body env run (apply (call true) m.span) s)
        (forms.dosync P own inside m body env run (apply (call true) m.span) s
        (λ s1 g1. closed_meant S (Holds P) true None (eval fx call n true body env s1) (eval_meant P w body true d None h env l s1 g1))
        (λ s1 g1. closed_meant S (Holds own) true None (eval fx call n true body env s1) (eval_meant own (λ c k q. q) body true d None h env l s1 g1))
        (λ c ws q. callees true m.span c ws q) (valid true m.span) g)
    eval_meant P w (Look form cell m) inside d tail h env l s g =
        bind_meant S (Holds P) inside tail Any Any (eval fx call n inside cell env s) _ (eval_meant P w cell inside d None h.1 env l s g)
        (λ c s1 p g1. loose S (Holds P) inside tail (fx.look form inside m c s1) (forms.look P form inside m c s1 h.0 g1))
    eval_meant P w (Put form cell value m) inside d tail h env l s g =
        bind_meant S (Holds P) inside tail Any Any (eval fx call n inside cell env s) _ (eval_meant P w cell inside d None h.1 env l s g)
        (λ c s1 p g1. bind_meant S (Holds P) inside tail Any Any (eval fx call n inside value env s1) _ (eval_meant P w value inside d None h.2 env l s1 g1)
        (λ v s2 q g2. loose S (Holds P) inside tail (fx.put form inside m c v (apply (call inside) m.span) s2) (forms.put P form inside m c v (apply (call inside) m.span) s2 h.0 (valid inside m.span) g2)))
    eval_meant P w (Update form cell callee args m) inside d tail h env l s g =
        bind_meant S (Holds P) inside tail Any Any (eval fx call n inside cell env s) _ (eval_meant P w cell inside d None h.1 env l s g)
        (λ c s1 p g1. bind_meant S (Holds P) inside tail (Many (count args)) Any (eval_all fx call n inside args env s1) _ (all_meant P w args inside d h.3 env l s1 g1)
        (λ vs s2 q g2. let sound : SoundCallee ks callee (suc (length vs)) = subst (λ k. SoundCallee ks callee (suc k)) (sym q) h.2 in
        loose S (Holds P) inside tail (fx.update form inside m c callee vs (apply (call inside) m.span) s2)
        (forms.update P form inside m c callee vs (apply (call inside) m.span) s2 h.0 (w callee (suc (length vs)) sound) (λ v. callees inside m.span callee (v ∷ vs) sound) (valid inside m.span) g2)))
    eval_meant P w (Send cell callee args m) inside d tail h env l s g =
        bind_meant S (Holds P) inside tail Any Any (eval fx call n inside cell env s) _ (eval_meant P w cell inside d None h.0 env l s g)
        (λ c s1 p g1. bind_meant S (Holds P) inside tail (Many (count args)) Any (eval_all fx call n inside args env s1) _ (all_meant P w args inside d h.2 env l s1 g1)
        (λ vs s2 q g2. loose S (Holds P) inside tail (fx.send inside m c callee vs s2) (forms.send P inside m c callee vs s2 g2)))

    all_meant : (P : Suits) → Wide ks P → (es : Trees) (inside : Bool) (d : ℕ) → SoundAll ks (zone_of inside) d es → (env : List Value) → length env ≡ d → (s : S) → Holds P inside s → MeantAs (Holds P) inside None (Many (count es)) (eval_all fx call n inside es env s)
    all_meant P w none inside d h env l s g = (refl, g)
    all_meant P w (more e rest) inside d h env l s g =
        bind_meant S (Holds P) inside None Any (Many (suc (count rest))) (eval fx call n inside e env s) _ (eval_meant P w e inside d None h.0 env l s g)
        (λ v s1 p g1. bind_meant S (Holds P) inside None (Many (count rest)) (Many (suc (count rest))) (eval_all fx call n inside rest env s1) (λ vs s2. Completes (v ∷ vs) s2) (all_meant P w rest inside d h.1 env l s1 g1)
        (λ vs s2 q g2. (ap suc q, g2)))

    let_meant : (P : Suits) → Wide ks P → (es : Trees) (inside : Bool) (d : ℕ) → SoundLet ks (zone_of inside) d es → (env : List Value) → length env ≡ d → (s : S) → Holds P inside s → MeantAs (Holds P) inside None (Many (count es)) (eval_let fx call n inside es env s)
    let_meant P w none inside d h env l s g = (refl, g)
    let_meant P w (more e rest) inside d h env l s g =
        bind_meant S (Holds P) inside None Any (Many (suc (count rest))) (eval fx call n inside e env s) _ (eval_meant P w e inside d None h.0 env l s g)
        (λ v s1 p g1. bind_meant S (Holds P) inside None (Many (count rest)) (Many (suc (count rest))) (eval_let fx call n inside rest (env ++ v ∷ []) s1) (λ vs s2. Completes (v ∷ vs) s2) (let_meant P w rest inside (d + 1) h.1 (env ++ v ∷ []) (omega (arith, length-append env (v ∷ []), l)) s1 g1)
        (λ vs s2 q g2. (ap suc q, g2)))

    do_meant : (P : Suits) → Wide ks P → (es : Trees) (inside : Bool) (d : ℕ) (tail : Option ℕ) → SoundDo ks (zone_of inside) d tail es → (env : List Value) → length env ≡ d → (s : S) → Holds P inside s → MeantAs (Holds P) inside tail Any (eval_do fx call n inside es env s)
    do_meant P w none inside d tail h env l s g = absurd h
    do_meant P w (more e none) inside d tail h env l s g = eval_meant P w e inside d tail h env l s g
    do_meant P w (more e (more f rest)) inside d tail h env l s g =
        bind_meant S (Holds P) inside tail Any Any (eval fx call n inside e env s) _ (eval_meant P w e inside d None h.0 env l s g) (λ v s1 p g1. do_meant P w (more f rest) inside d tail h.1 env l s1 g1)

-- ---- functions

-- a function's body, where it is called
body_sound : (inside : Bool) (ks : List Known) (fun : PlainFunction) → SoundTree ks in_function fun.parameters (Some fun.parameters) fun.body → MayCall (zone_of inside) (known_of ks fun) → SoundTree ks (zone_of inside) fun.parameters (Some fun.parameters) fun.body
body_sound true ks fun h z = dosync_sound ks fun.body fun.parameters (Some fun.parameters) h z
body_sound false ks fun h z = thread_sound ks fun.body fun.parameters (Some fun.parameters) h z

some_known : (k l : Known) → Some k ≡ Some l → k ≡ l
some_known k l e = cc

-- a callee that is sound among the first functions is so among more of them
callee_before : (ks : List Known) (g f : ℕ) → g ≤ f → (c : Callee) (n : ℕ) → SoundCallee (take g ks) c n → SoundCallee (take f ks) c n
callee_before ks g f le (CoreOp op) n h = h
callee_before ks g f le (Function i) n h =
    let found = nth-take g ks i h.function h.found in
    record { function = h.function; found = nth-before f ks i h.function (omega (arith, found.0, le)) found.1; arity = h.arity; pure = h.pure }

callee_known : (ks : List Known) (g : ℕ) (c : Callee) (n : ℕ) → SoundCallee (take g ks) c n → SoundCallee ks c n
callee_known ks g (CoreOp op) n h = h
callee_known ks g (Function i) n h = record { function = h.function; found = (nth-take g ks i h.function h.found).1; arity = h.arity; pure = h.pure }

-- a pure function may be called inside a transaction and outside
free_at : (at : Bool) (k : Known) → (k.inside ≡ false) × (k.outside ≡ false) → MayCall (zone_of at) k
free_at true k h = h.1
free_at false k h = h.0

-- functions are sound, and states are such ones that this holds of some state, inside a transaction or outside, whatever suits
module _ (S : Type 0) (fx : Effects S) (Holds : Suits → Bool → S → Type 0) (V : Callee → Type 0) (forms : SoundForms S fx Holds V) (at : Bool) (start : S) (starts : (P : Suits) → Holds P at start) (functions : List PlainFunction) (sound : SoundFunctions [] functions) (n : ℕ) where
  abbrev ks : List Known
  ks = known functions

  abbrev at_depth : ℕ → Bool → ℕ → List Value → S → Completion S Value
  at_depth = call_at (λ d. fx) n functions

  -- calls of functions before this one
  abbrev CallsBefore : ℕ → ℕ → Type 1
  CallsBefore b p =
      (P : Suits) (inside : Bool) (f : ℕ) (k : Known) → f < p → nth ks f ≡ Some k → Wide (take f ks) P → MayCall (zone_of inside) k → (vs : List Value) → k.parameters ≡ length vs → (s : S) → Holds P inside s → MeantAs (Holds P) inside None Any (at_depth b inside f vs s)

  abbrev IsBelow : ℕ → Callee → Type 0
  IsBelow p (CoreOp op) = Unit {0}
  IsBelow p (Function f) = f < p

  operation_proper : (r : Result Value FaultKind) (span : Span) → IsProper (result_of r span tt)
  operation_proper (Ok v) span = tt
  operation_proper (Err e) span = tt

  -- sound callees among the functions of which calls are known
  callees_proper : (b p : ℕ) → CallsBefore b p → (inside : Bool) (span : Span) (c : Callee) (vs : List Value) → IsBelow p c → SoundCallee ks c (length vs) → Proper S (apply (at_depth b inside) span) c vs
  callees_proper b p calls inside span (CoreOp op) vs below h = record {
    answer = quietly n functions b span (CoreOp op) vs tt;
    proper = operation_proper (core op vs) span;
    same = λ s. (callee_carried (λ d. fx) n inside functions sound b span (CoreOp op) vs s tt).0;
  }
  callees_proper b p calls inside span (Function f) vs below h =
      let pure : is_pure (nth ks f) ≡ true = ap is_pure h.found ∙ h.pure in
      let free = known_free functions f h.function h.found h.pure in
      let q = quietly n functions b span (Function f) vs tt in
      let law = callee_carried (λ d. fx) n at functions sound b span (Function f) vs start pure in
      let all : Suits = λ c k. Unit {0} in
      let here : MeantAs (Holds all) at None Any (apply (at_depth b at) span (Function f) vs start) = calls all at f h.function below h.found (λ c k g. tt) (free_at at h.function free) vs h.arity start (starts all) in
      record {
        answer = q;
        proper = carried_proper S (Holds all) at start q law.1 (subst (λ x. MeantAs (Holds all) at None Any x) law.0 here);
        same = λ s. (callee_carried (λ d. fx) n inside functions sound b span (Function f) vs s pure).0;
      }

  -- the functions before one, at a depth that suffices
  calls_from : (b p : ℕ) → CallsBefore b p → CallsMeant S Holds (take p ks) (at_depth b)
  calls_from b p calls P w inside f k e z vs a s g =
      let found = nth-take p ks f k e in
      calls P inside f k found.0 found.1 (λ c m h. w c m (callee_before ks f p (omega (arith, found.0)) c m h)) z vs a s g

  below_of : (p : ℕ) (c : Callee) (m : ℕ) → SoundCallee (take p ks) c m → IsBelow p c
  below_of p (CoreOp op) m h = tt
  below_of p (Function i) m h = (nth-take p ks i h.function h.found).0

  callees_from : (b p : ℕ) → CallsBefore b p → CalleesProper S (take p ks) (at_depth b)
  callees_from b p calls inside span c vs h = callees_proper b p calls inside span c vs (below_of p c (length vs) h) (callee_known ks p c (length vs) h)

  -- at this depth validators have proper answers
  abbrev ValidAt : ℕ → Type 0
  ValidAt b = (inside : Bool) (span : Span) → Valid S V (apply (at_depth b inside) span)

  -- a call one deeper, where validators have proper answers, and so much is known of calls of the functions before it
  call_meant : (b : ℕ) → ValidAt b → (f : ℕ) → CallsBefore b f → (P : Suits) (inside : Bool) (k : Known) → nth ks f ≡ Some k → Wide (take f ks) P → MayCall (zone_of inside) k → (vs : List Value) → k.parameters ≡ length vs → (s : S) → Holds P inside s → MeantAs (Holds P) inside None Any (at_depth (suc b) inside f vs s)
  call_meant b valid f earlier P inside k e w z vs a s g =
      let found = there functions f k e in
      let fun = found.0 in
      let here = function_at functions f fun sound found.1 in
      let before = take f ks in
      let body : List Value → S → Completion S Value = λ ws s2. eval fx (at_depth b) n inside fun.body ws s2 in
      let same : known_of before fun ≡ k = some_known (known_of before fun) k (sym here.0 ∙ e) in
      let stands = body_sound inside before fun here.1.1 (subst (λ x. MayCall (zone_of inside) x) (sym same) z) in
      subst (λ o. MeantAs (Holds P) inside None Any (bind (give o s) (λ x s1. turns (suc n) x.parameters (λ ws s2. eval fx (at_depth b) n inside x.body ws s2) vs s1))) (sym found.1)
      (turns_meant S (Holds P) inside None (suc n) fun.parameters body
      (λ ws s2 q g2. eval_meant S fx Holds V forms before (at_depth b) (calls_from b f earlier) (callees_from b f earlier) valid n P w fun.body inside fun.parameters (Some fun.parameters) stands ws q s2 g2)
      vs s (sym a ∙ ap (λ (x : Known). x.parameters) (sym same)) g)

  known_below : (c : Callee) (m : ℕ) → SoundCallee ks c m → IsBelow (length functions) c
  known_below (CoreOp op) m h = tt
  known_below (Function i) m h =
      let found = there functions i h.function h.found in
      nth_below functions i found.0 found.1

  -- ---- where validators have proper answers at any depth

  -- a function calls those before it alone, so calls are no deeper than there are functions
  calls_below : ((b : ℕ) → ValidAt b) → (b : ℕ) → CallsBefore b b
  calls_below valid zero P inside f k l e w z vs a s g = absurd (omega (arith, l))
  calls_below valid (suc b) P inside f k l e w z vs a s g =
      call_meant b (valid b) f (λ Q i h j lt q v y us r t u. calls_below valid b Q i h j (omega (arith, l, lt)) q v y us r t u) P inside k e w z vs a s g

  pub known_callees : ((b : ℕ) → ValidAt b) → CalleesProper S ks (at_depth (length functions))
  known_callees valid inside span c vs h = callees_proper (length functions) (length functions) (calls_below valid (length functions)) inside span c vs (known_below c (length vs) h) h

-- ---- pure callees have an answer

-- forms that do nothing
abbrev idle : Effects (Unit {0})
idle = record {
  print = λ inside vs s. Completes Nil s;
  look = λ form inside m c s. Completes Nil s;
  put = λ form inside m c v f s. Completes Nil s;
  update = λ form inside m c callee vs f s. Completes Nil s;
  send = λ inside m c callee vs s. Completes Nil s;
  dosync = λ inside m node env body f s. Completes Nil s;
}

-- no validators
abbrev NoCallee : Callee → Type 0
NoCallee c = ⊥

idle_sound : SoundForms (Unit {0}) idle (λ P inside s. Unit {0}) NoCallee
idle_sound = record {
  print = λ P inside vs s m h. (tt, tt);
  look = λ P form inside m c s k h. (tt, tt);
  put = λ P form inside m c v f s k p h. (tt, tt);
  update = λ P form inside m c callee vs f s k p q v h. (tt, tt);
  send = λ P inside m c callee vs s h. (tt, tt);
  dosync = λ P O inside m e env body f s j k p v h. (tt, tt);
}

carried_by : (y : Completion (Unit {0}) Value) → IsProper y → IsProper (carried tt y)
carried_by (Completes v u) h = tt
carried_by (Recurs vs u) h = absurd h
carried_by (Faults f u) h = tt
carried_by (Retries u) h = absurd h
carried_by (Waits u) h = absurd h
carried_by (OutOfTurns u) h = tt
carried_by Invalid h = absurd h

proper_by : (y : Completion (Unit {0}) Value) → IsProper (carried tt y) → IsProper y
proper_by (Completes v u) h = tt
proper_by (Recurs vs u) h = absurd h
proper_by (Faults f u) h = tt
proper_by (Retries u) h = absurd h
proper_by (Waits u) h = absurd h
proper_by (OutOfTurns u) h = tt
proper_by Invalid h = absurd h

-- a sound callee gives a value or a fault, or needs turns
pub callee_proper : (functions : List PlainFunction) → SoundFunctions [] functions → (n : ℕ) (span : Span) (c : Callee) (vs : List Value) → SoundCallee (known functions) c (length vs) → IsProper (quietly n functions (length functions) span c vs tt)
callee_proper functions sound n span c vs h =
    let p = known_callees (Unit {0}) idle (λ P inside s. Unit {0}) NoCallee idle_sound false tt (λ P. tt) functions sound n (λ b inside1 span1 d w v. absurd v) false span c vs h in
    let law = callee_carried (λ d. idle) n false functions sound (length functions) span c vs tt (sound_pure (known functions) c (length vs) h) in
    proper_by (quietly n functions (length functions) span c vs tt) (subst IsProper (sym (p.same tt) ∙ law.0) (carried_by p.answer p.proper))

-- so it does where there are as many calls left as pure functions
module _ (functions : List PlainFunction) (sound : SoundFunctions [] functions) (n : ℕ) where
  abbrev pure_ones : ℕ
  pure_ones = pures (known functions) (length functions)

  operation_gives : (r : Result Value FaultKind) (span : Span) → IsProper (result_of r span tt)
  operation_gives (Ok v) span = tt
  operation_gives (Err k) span = tt

  -- a pure function that is there is pure, and below all
  pub shallow_proper : (b : ℕ) → pure_ones ≤ b → b ≤ length functions → (span : Span) (c : Callee) (vs : List Value) → SoundCallee (known functions) c (length vs) → IsProper (quietly n functions b span c vs tt)
  shallow_proper b enough le span (CoreOp op) vs h = operation_gives (core op vs) span
  shallow_proper b enough le span (Function f) vs h =
      let found = there functions f h.function h.found in
      let pure : is_pure (nth (known functions) f) ≡ true = ap is_pure h.found ∙ h.pure in
      let before = pure_before (known functions) f (length functions) (nth_below functions f found.0 found.1) pure in
      agrees_proper (quietly n functions b span (Function f) vs tt) (quietly n functions (length functions) span (Function f) vs tt)
      (shallow n functions sound b (length functions) f vs (omega (arith, before, enough)) le pure) (callee_proper functions sound n span (Function f) vs h)

-- ---- where validators are sound callees of one value

module _ (S : Type 0) (fx : Effects S) (Holds : Suits → Bool → S → Type 0) (V : Callee → Type 0) (forms : SoundForms S fx Holds V) (at : Bool) (start : S) (starts : (P : Suits) → Holds P at start) (functions : List PlainFunction) (sound : SoundFunctions [] functions) (n : ℕ)
    (validators : (c : Callee) → V c → SoundCallee (known functions) c 1) where
  abbrev all_known : List Known
  all_known = known functions

  abbrev deep : ℕ → Bool → ℕ → List Value → S → Completion S Value
  deep = call_at (λ d. fx) n functions

  abbrev pures_in_all : ℕ
  pures_in_all = pures all_known (length functions)

  proper_at : (b : ℕ) → pures_in_all ≤ b → b ≤ length functions → (inside : Bool) (span : Span) (c : Callee) (vs : List Value) → SoundCallee all_known c (length vs) → Proper S (apply (deep b inside) span) c vs
  proper_at b enough le inside span c vs h = record {
    answer = quietly n functions b span c vs tt;
    proper = shallow_proper functions sound n b enough le span c vs h;
    same = λ s. (callee_carried (λ d. fx) n inside functions sound b span c vs s (sound_pure all_known c (length vs) h)).0;
  }

  valid_at : (b : ℕ) → pures_in_all ≤ b → b ≤ length functions → (inside : Bool) (span : Span) → Valid S V (apply (deep b inside) span)
  valid_at b enough le inside span c w v = proper_at b enough le inside span c (w ∷ []) (validators c v)

  -- a pure call, whatever state it starts from
  answer_meant : (P : Suits) (inside : Bool) (q : Completion (Unit {0}) Value) → IsProper q → (s : S) → Holds P inside s → MeantAs (Holds P) inside None Any (carried s q)
  answer_meant P inside (Completes a u) z s g = (tt, g)
  answer_meant P inside (Recurs vs u) z s g = absurd z
  answer_meant P inside (Faults f u) z s g = where_inside inside (Holds P inside s) g
  answer_meant P inside (Retries u) z s g = absurd z
  answer_meant P inside (Waits u) z s g = absurd z
  answer_meant P inside (OutOfTurns u) z s g = tt
  answer_meant P inside Invalid z s g = absurd z

  -- calls of the functions before one
  abbrev Calls : ℕ → ℕ → Type 1
  Calls b p = CallsBefore S fx Holds V forms at start starts functions sound n b p

  -- a pure call where there are as many calls left as pure functions
  pure_meant : (b : ℕ) → pures_in_all ≤ b → b ≤ length functions → (P : Suits) (inside : Bool) (f : ℕ) (k : Known) → nth all_known f ≡ Some k → k.pure ≡ true → (vs : List Value) → k.parameters ≡ length vs → (s : S) → Holds P inside s → MeantAs (Holds P) inside None Any (deep b inside f vs s)
  pure_meant b enough le P inside f k e pure vs a s g =
      let q = proper_at b enough le inside nowhere (Function f) vs (record { function = k; found = e; arity = a; pure = pure }) in
      subst (λ y. MeantAs (Holds P) inside None Any y) (sym (q.same s)) (answer_meant P inside q.answer q.proper s g)

  -- another function before one counts there
  one_less : (p f : ℕ) (k : Known) → f < p → nth all_known f ≡ Some k → k.pure ≡ false → others all_known f < others all_known p
  one_less p f k l e pure = other_before all_known f p l (known_there all_known f k e) (ap is_pure e ∙ pure)

  -- of the functions before one, those that aren't pure call one another, and then pure ones
  counted_below : (b p : ℕ) → pures_in_all + others all_known p ≤ b → b ≤ length functions → Calls b p
  counted_below zero p enough le P inside f k l e w z vs a s g = by k.pure refl
    where
      by : (x : Bool) → k.pure ≡ x → MeantAs (Holds P) inside None Any (deep zero inside f vs s)
      by true pure = pure_meant zero (omega (arith, enough)) le P inside f k e pure vs a s g
      by false pure = let less = one_less p f k l e pure in absurd (omega (arith, enough, less))
  counted_below (suc b) p enough le P inside f k l e w z vs a s g = by k.pure refl (λ m. counted_below b f m (omega (arith, le)))
    where
      by : (x : Bool) → k.pure ≡ x → (pures_in_all + others all_known f ≤ b → Calls b f) → MeantAs (Holds P) inside None Any (deep (suc b) inside f vs s)
      by true pure below = pure_meant (suc b) (omega (arith, enough)) le P inside f k e pure vs a s g
      by false pure below =
          let less = one_less p f k l e pure in
          call_meant S fx Holds V forms at start starts functions sound n b (valid_at b (omega (arith, enough, less)) (omega (arith, le))) f (below (omega (arith, enough, less))) P inside k e w z vs a s g

  all_below : Calls (length functions) (length functions)
  all_below = let both = both_kinds all_known (length functions) in counted_below (length functions) (length functions) (omega (arith, both)) (omega arith)

  pures_fit : pures_in_all ≤ length functions
  pures_fit = let both = both_kinds all_known (length functions) in omega (arith, both)

  known_calls : CallsMeant S Holds all_known (deep (length functions))
  known_calls P w inside f k e z vs a s g =
      let found = there functions f k e in
      all_below P inside f k (nth_below functions f found.0 found.1) e (λ c m h. w c m (callee_known all_known f c m h)) z vs a s g

  sound_callees : CalleesProper S all_known (deep (length functions))
  sound_callees inside span c vs h = proper_at (length functions) pures_fit (omega arith) inside span c vs h

  -- at the depth of a body validators have proper answers
  pub valid_deep : (inside : Bool) (span : Span) → Valid S V (apply (deep (length functions) inside) span)
  valid_deep = valid_at (length functions) pures_fit (omega arith)

  -- a callee that may be sent, outside of transactions
  pub sent_meant : (span : Span) (c : Callee) (vs : List Value) → SoundSent all_known c (length vs) → Holds (λ x k. SoundCallee all_known x k) false start → MeantAs (Holds (λ x k. SoundCallee all_known x k)) false None Any (apply (deep (length functions) false) span c vs start)
  sent_meant span (CoreOp op) vs h g = result_meant S (Holds (λ x k. SoundCallee all_known x k)) false None (core op vs) span start g
  sent_meant span (Function f) vs h g = known_calls (λ x k. SoundCallee all_known x k) (λ c k q. q) false f h.function h.found h.zoned vs h.arity start g

  -- a sound thread's tree, or a sound transaction's body with its locals
  pub main_meant : (main : Tree) (env : List Value) → SoundTree (known functions) (zone_of at) (length env) None main → MeantAs (Holds (λ c k. SoundCallee (known functions) c k)) at None Any (closed (eval fx (call_at (λ d. fx) n functions (length functions)) n at main env start))
  main_meant main env h =
      let own : Suits = λ c k. SoundCallee (known functions) c k in
      closed_meant S (Holds own) at None (eval fx (deep (length functions)) n at main env start)
      (eval_meant S fx Holds V forms all_known (deep (length functions)) known_calls sound_callees (valid_at (length functions) pures_fit (omega arith)) n own (λ c k q. q) main at (length env) None h env refl start (starts own))
