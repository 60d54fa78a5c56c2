-- What the machine does, for each way in which a part of a tree may end.
use Rattle.std.proofs.Common.{◌≡◌, ℕ, suc, ◌<◌, ◌≤◌, true, false, List, Some, None, Result, Ok, Err, refl, sym, ap, ◌∙◌, subst, arith, ◌⊎◌, inl, inr}
use Rattle.txs_value_apply.specs.Truth.{choose}
use Rattle.txs_value_data.specs.declared.fault.Fault.{Fault}
use Rattle.txs_value_data.specs.declared.fault.FaultKind.{FaultKind}
use Rattle.txs_value_data.specs.declared.fault.Span.{Span}
use Rattle.txs_value_data.specs.declared.value.Value.{Value}
use Rattle.txs_value_data.specs.declared.value.Value.TheVariants.{Nil, Truth, Int, Key, Text, Vector, Cell}
use Rattle.txs_tree_meaning.specs.Meaning.{Completion, Completes, Recurs, Faults, Retries, Waits, OutOfTurns, Invalid, bind, again, closed, result_of}
use Rattle.txs_code_meaning.specs.ActorState.{ActorState, StepResult, Continue, Break, Redo, Await, Malformed, step_of}
use Rattle.txs_code_meaning.specs.Machine.{PlainInstr, ThreadCode, Destination, Frame, Savepoint, Activity, Outside, Restarting, Running, Applying, Swapping, Configuration, Turned, Failed, Asking, Unfinished, and_then, fetch, act, told, ends_with, fails_with, raise, rerun, retried, on, exec}
use Rattle.txs_theorem_threads.specs.OnReplies.{res, telling}

-- where the machine is
abbrev pub configuration : ℕ → ℕ → List Value → List Value → List Frame → Activity → ActorState → Configuration
configuration b pc stack locals frames doing s =
    record { body = b; place = pc; stack = stack; locals = locals; frames = frames; doing = doing; state = s }

-- a caller, and what becomes of the value that is returned
abbrev pub frame : ℕ → ℕ → List Value → List Value → Destination → Frame
frame b pc stack locals awaits = record { body = b; place = pc; stack = stack; locals = locals; awaits = awaits }

-- where a transaction or a swap began
abbrev pub savepoint : Span → ℕ → ℕ → List Value → List Value → List Frame → Savepoint
savepoint span b pc stack locals frames = record { span = span; body = b; place = pc; stack = stack; locals = locals; frames = frames }

-- the machine goes from one configuration to another
pub record Reaches (code : ThreadCode) (c c' : Configuration) : Type 0 where
  pub by : (k : ℕ) → (j : ℕ) × (k ≤ j) × (exec code j c ≡ exec code k c')

-- the same, in one step or more
pub record Progresses (code : ThreadCode) (c c' : Configuration) : Type 0 where
  pub by : (k : ℕ) → (j : ℕ) × (k < j) × (exec code j c ≡ exec code k c')

-- what the machine comes to, and how it goes on there
pub record Comes (code : ThreadCode) (c : Configuration) (t : Turned Configuration) : Type 0 where
  pub by : (k : ℕ) → (j : ℕ) × (k ≤ j) × (exec code j c ≡ and_then t (exec code k))

-- where a value or a recur may land
abbrev pub Lands : Type 0 → Type 1
Lands A = A → ActorState → Configuration → Type 0

-- what the machine may do with a fault, and what it does where the transaction has to run again
pub record Handlers : Type 1 where
  pub raised : Fault → ActorState → Turned Configuration → Type 0
  pub retried : ActorState → Turned Configuration

-- Outside everything the turn that meets a fault ends the thread or the action. Where the store or an atom was asked of the fault, the turn after
-- that answer does.
abbrev pub Raises : Activity → Fault → ActorState → Turned Configuration → Type 0
Raises Outside f s t = (t ≡ ends_with s.acting f s) ⊎ (t ≡ fails_with s.acting f s)
Raises (Restarting left) f s t = t ≡ raise (Restarting left) f s
Raises (Running left inner from) f s t = t ≡ raise (Running left inner from) f s
Raises (Applying left from work values) f s t = t ≡ raise (Applying left from work values) f s
Raises (Swapping swap from) f s t = t ≡ raise (Swapping swap from) f s

-- what it does while this goes on
abbrev pub of : Activity → Handlers
of doing = record { raised = Raises doing; retried = retried doing }

-- a fault of which the store or an atom was asked
abbrev pub HasTold : Fault → ActorState → Turned Configuration → Type 0
HasTold f s t = t ≡ fails_with s.acting f s

-- what it does with a try as a whole, which has told of its fault
abbrev pub of_try : ℕ → Savepoint → Handlers
of_try left from = record { raised = HasTold; retried = λ s. rerun left from s }

-- what it does with all tries
abbrev pub of_tries : Handlers
of_tries = record { raised = HasTold; retried = retried Outside }

-- outside of actions a fault ends the thread
pub ends_thread : (f : Fault) (s : ActorState) (t : Turned Configuration) → s.acting ≡ None → Raises Outside f s t → t ≡ Failed f s
ends_thread f s t e (inl h) = h ∙ ap (λ o. ends_with o f s) e
ends_thread f s t e (inr h) = h ∙ ap (λ o. fails_with o f s) e

-- it comes to something of this kind
abbrev pub ComesTo : ThreadCode → Configuration → (Turned Configuration → Type 0) → Type 0
ComesTo code c P = (t : Turned Configuration) × P t × Comes code c t

-- a turn that raises a fault
pub raises : (doing : Activity) (f : Fault) (s : ActorState) → Raises doing f s (raise doing f s)
raises Outside f s = inl refl
raises (Restarting left) f s = refl
raises (Running left inner from) f s = refl
raises (Applying left from work values) f s = refl
raises (Swapping swap from) f s = refl

pub raised_by : (code : ThreadCode) (doing : Activity) (f : Fault) (s : ActorState) (c : Configuration) → Comes code c (raise doing f s) → ComesTo code c (Raises doing f s)
raised_by code doing f s c r = (raise doing f s, raises doing f s, r)

-- what the machine does where a part of a tree ends so
abbrev pub Simulates : {A : Type 0} → ThreadCode → ℕ → Handlers → Lands A → Lands (List Value) → Configuration → Completion ActorState A → Type 0
Simulates code n h G R c (Completes a s) = (c' : Configuration) × G a s c' × Reaches code c c'
Simulates code n h G R c (Recurs vs s) = (c' : Configuration) × R vs s c' × Progresses code c c'
Simulates code n h G R c (Faults f s) = ComesTo code c (h.raised f s)
Simulates code n h G R c (Retries s) = Comes code c (h.retried s)
Simulates code n h G R c (Waits s) = (j : ℕ) × (exec code j c ≡ Asking s)
Simulates code n h G R c (OutOfTurns s) = (j : ℕ) × (n ≤ j) × (exec code j c ≡ Unfinished s)
Simulates code n h G R c Invalid = Unit {0}

-- a step that asks: it doesn't fault, and no transaction has to run again
abbrev pub Asked : {A : Type 0} → StepResult A → Type 0
Asked (Continue a s) = Unit {0}
Asked (Break f s) = ⊥
Asked (Redo s) = ⊥
Asked (Await s) = Unit {0}
Asked Malformed = Unit {0}

pub res_step : (r : Result Value FaultKind) (span : Span) (s : ActorState) → res (step_of r span s) ≡ result_of r span s
res_step (Ok v) span s = refl
res_step (Err k) span s = refl

module _ (code : ThreadCode) where
  -- a turn of the instruction at hand
  pub step : (c : Configuration) (i : PlainInstr) → fetch code c.body c.place ≡ Some i → (k : ℕ) → exec code (suc k) c ≡ and_then (act code (Some i) c) (exec code k)
  step c i h k = ap (λ o. and_then (act code o c) (exec code k)) h

  pub stays : (c : Configuration) → Reaches code c c
  stays c = record { by = λ k. (k, omega arith, refl) }

  pub one_to : (c c' : Configuration) → ((k : ℕ) → exec code (suc k) c ≡ exec code k c') → Reaches code c c'
  one_to c c' h = record { by = λ k. (suc k, omega arith, h k) }

  pub one_past : (c c' : Configuration) → ((k : ℕ) → exec code (suc k) c ≡ exec code k c') → Progresses code c c'
  one_past c c' h = record { by = λ k. (suc k, omega arith, h k) }

  pub to_to : (c c1 c2 : Configuration) → Reaches code c c1 → Reaches code c1 c2 → Reaches code c c2
  to_to c c1 c2 p q = record { by = λ k. let b = q.by k in let a = p.by b.0 in (a.0, omega (arith, a.1, b.1), a.2 ∙ b.2) }

  pub to_past : (c c1 c2 : Configuration) → Reaches code c c1 → Progresses code c1 c2 → Progresses code c c2
  to_past c c1 c2 p q = record { by = λ k. let b = q.by k in let a = p.by b.0 in (a.0, omega (arith, a.1, b.1), a.2 ∙ b.2) }

  pub to_comes : (c c1 : Configuration) (t : Turned Configuration) → Reaches code c c1 → Comes code c1 t → Comes code c t
  to_comes c c1 t p q = record { by = λ k. let b = q.by k in let a = p.by b.0 in (a.0, omega (arith, a.1, b.1), a.2 ∙ b.2) }

  pub one_comes : (c : Configuration) (t : Turned Configuration) → ((k : ℕ) → exec code (suc k) c ≡ and_then t (exec code k)) → Comes code c t
  one_comes c t h = record { by = λ k. (suc k, omega arith, h k) }

  pub comes_as : (c : Configuration) (t u : Turned Configuration) → t ≡ u → Comes code c t → Comes code c u
  comes_as c t u e h = subst (λ x. Comes code c x) e h

  pub comes_to : (c c1 : Configuration) → Comes code c (Unfinished c1) → Reaches code c c1
  comes_to c c1 h = record { by = h.by }

  -- what follows a stretch
  pub before : {A : Type 0} (n : ℕ) (h : Handlers) (G : Lands A) (R : Lands (List Value)) (c c1 : Configuration) (r : Completion ActorState A) → Reaches code c c1 → Simulates code n h G R c1 r → Simulates code n h G R c r
  before n h G R c c1 (Completes a s) p r = (r.0, r.1, to_to c c1 r.0 p r.2)
  before n h G R c c1 (Recurs vs s) p r = (r.0, r.1, to_past c c1 r.0 p r.2)
  before n h G R c c1 (Faults f s) p r = (r.0, r.1, to_comes c c1 r.0 p r.2)
  before n h G R c c1 (Retries s) p r = to_comes c c1 (h.retried s) p r
  before n h G R c c1 (Waits s) p r = let a = p.by r.0 in (a.0, a.2 ∙ r.1)
  before n h G R c c1 (OutOfTurns s) p r = let a = p.by r.0 in (a.0, omega (arith, a.1, r.1), a.2 ∙ r.2)
  before n h G R c c1 Invalid p r = tt

  -- a part, and what goes on from where it lands
  pub bind_simulates : {A B : Type 0} (n : ℕ) (h : Handlers) (G : Lands A) (R : Lands (List Value)) (G' : Lands B) (R' : Lands (List Value)) (c : Configuration) (r : Completion ActorState A) (f : A → ActorState → Completion ActorState B) → Simulates code n h G R c r → ((a : A) (s : ActorState) (c1 : Configuration) → G a s c1 → Simulates code n h G' R' c1 (f a s)) → Simulates code n h G' R' c (bind r f)
  bind_simulates n h G R G' R' c (Completes a s) f r go = before n h G' R' c r.0 (f a s) r.2 (go a s r.0 r.1)
  bind_simulates n h G R G' R' c (Recurs vs s) f r go = tt
  bind_simulates n h G R G' R' c (Faults g s) f r go = r
  bind_simulates n h G R G' R' c (Retries s) f r go = r
  bind_simulates n h G R G' R' c (Waits s) f r go = r
  bind_simulates n h G R G' R' c (OutOfTurns s) f r go = r
  bind_simulates n h G R G' R' c Invalid f r go = tt

  -- the value lands further on; a recur stays
  pub onward : {A : Type 0} (n : ℕ) (h : Handlers) (G : Lands A) (R : Lands (List Value)) (G' : Lands A) (c : Configuration) (r : Completion ActorState A) → Simulates code n h G R c r → ((a : A) (s : ActorState) (c1 : Configuration) → G a s c1 → (c2 : Configuration) × G' a s c2 × Reaches code c1 c2) → Simulates code n h G' R c r
  onward n h G R G' c (Completes a s) r go = let x = go a s r.0 r.1 in (x.0, x.1, to_to c r.0 x.0 r.2 x.2)
  onward n h G R G' c (Recurs vs s) r go = r
  onward n h G R G' c (Faults g s) r go = r
  onward n h G R G' c (Retries s) r go = r
  onward n h G R G' c (Waits s) r go = r
  onward n h G R G' c (OutOfTurns s) r go = r
  onward n h G R G' c Invalid r go = tt

  -- the same landing, told otherwise
  pub lands_as : {A : Type 0} (n : ℕ) (h : Handlers) (G : Lands A) (R : Lands (List Value)) (G' : Lands A) (c : Configuration) (r : Completion ActorState A) → Simulates code n h G R c r → ((a : A) (s : ActorState) (c1 : Configuration) → G a s c1 → G' a s c1) → Simulates code n h G' R c r
  lands_as n h G R G' c r ru go = onward n h G R G' c r ru (λ a s c1 g. (c1, go a s c1 g, stays c1))

  pub from_configuration : {A : Type 0} (n : ℕ) (h : Handlers) (G : Lands A) (R : Lands (List Value)) (c c1 : Configuration) (r : Completion ActorState A) → c ≡ c1 → Simulates code n h G R c1 r → Simulates code n h G R c r
  from_configuration n h G R c c1 r e ru = subst (λ x. Simulates code n h G R x r) (sym e) ru

  -- an instruction that does a step
  pub step_simulates : {A : Type 0} (n : ℕ) (doing : Activity) (G : Lands A) (R : Lands (List Value)) (c : Configuration) (st : StepResult A) (next : A → ActorState → Configuration) → ((k : ℕ) → exec code (suc k) c ≡ and_then (on doing st (λ v s. Unfinished (next v s))) (exec code k)) → ((v : A) (s : ActorState) → G v s (next v s)) → Simulates code n (of doing) G R c (res st)
  step_simulates n doing G R c (Continue v s) next e g = (next v s, g v s, one_to c (next v s) e)
  step_simulates n doing G R c (Break f s) next e g = raised_by code doing f s c (one_comes c (raise doing f s) e)
  step_simulates n doing G R c (Redo s) next e g = one_comes c (retried doing s) e
  step_simulates n doing G R c (Await s) next e g = (1, e 0)
  step_simulates n doing G R c Malformed next e g = tt

  -- the same of one that asks, whatever is done with faults
  pub ask_simulates : {A B : Type 0} (n : ℕ) (doing : Activity) (h : Handlers) (G : Lands B) (R : Lands (List Value)) (c : Configuration) (st : StepResult A) (next : A → ActorState → Turned Configuration) (go : A → ActorState → Completion ActorState B) → Asked st → ((k : ℕ) → exec code (suc k) c ≡ and_then (on doing st next) (exec code k)) → ((v : A) (s : ActorState) → st ≡ Continue v s → Comes code c (next v s) → Simulates code n h G R c (go v s)) → Simulates code n h G R c (bind (res st) go)
  ask_simulates n doing h G R c (Continue v s) next go a e g = g v s refl (one_comes c (next v s) e)
  ask_simulates n doing h G R c (Break f s) next go a e g = absurd a
  ask_simulates n doing h G R c (Redo s) next go a e g = absurd a
  ask_simulates n doing h G R c (Await s) next go a e g = (1, e 0)
  ask_simulates n doing h G R c Malformed next go a e g = tt

  -- a choice of places
  pub choose_simulates : {A : Type 0} (n : ℕ) (h : Handlers) (G : Lands A) (R : Lands (List Value)) (c : Configuration) (at : ℕ → Configuration) (x y : ℕ) (v : Value) (ra rb : Completion ActorState A) → ((k : ℕ) → exec code (suc k) c ≡ exec code k (at (choose v x y))) → Simulates code n h G R (at x) ra → Simulates code n h G R (at y) rb → Simulates code n h G R c (choose v ra rb)
  choose_simulates n h G R c at x y Nil ra rb e a b = before n h G R c (at y) rb (one_to c (at y) e) b
  choose_simulates n h G R c at x y (Truth false) ra rb e a b = before n h G R c (at y) rb (one_to c (at y) e) b
  choose_simulates n h G R c at x y (Truth true) ra rb e a b = before n h G R c (at x) ra (one_to c (at x) e) a
  choose_simulates n h G R c at x y (Int m) ra rb e a b = before n h G R c (at x) ra (one_to c (at x) e) a
  choose_simulates n h G R c at x y (Key m) ra rb e a b = before n h G R c (at x) ra (one_to c (at x) e) a
  choose_simulates n h G R c at x y (Text m) ra rb e a b = before n h G R c (at x) ra (one_to c (at x) e) a
  choose_simulates n h G R c at x y (Vector m) ra rb e a b = before n h G R c (at x) ra (one_to c (at x) e) a
  choose_simulates n h G R c at x y (Cell m) ra rb e a b = before n h G R c (at x) ra (one_to c (at x) e) a

  -- both landings, told otherwise
  pub recast : {A : Type 0} (n : ℕ) (h : Handlers) (G G' : Lands A) (R R' : Lands (List Value)) (c : Configuration) (r : Completion ActorState A) → Simulates code n h G R c r → ((a : A) (s : ActorState) (c1 : Configuration) → G a s c1 → G' a s c1) → ((vs : List Value) (s : ActorState) (c1 : Configuration) → R vs s c1 → R' vs s c1) → Simulates code n h G' R' c r
  recast n h G G' R R' c (Completes a s) r g k = (r.0, g a s r.0 r.1, r.2)
  recast n h G G' R R' c (Recurs vs s) r g k = (r.0, k vs s r.0 r.1, r.2)
  recast n h G G' R R' c (Faults f s) r g k = r
  recast n h G G' R R' c (Retries s) r g k = r
  recast n h G G' R R' c (Waits s) r g k = r
  recast n h G G' R R' c (OutOfTurns s) r g k = r
  recast n h G G' R R' c Invalid r g k = tt

  -- other handlers, which do the same with what comes
  pub handled_as : {A : Type 0} (n : ℕ) (h h' : Handlers) (G : Lands A) (R : Lands (List Value)) (c : Configuration) (r : Completion ActorState A) → ((f : Fault) (s : ActorState) (t : Turned Configuration) → h.raised f s t → h'.raised f s t) → ((s : ActorState) → r ≡ Retries s → h.retried s ≡ h'.retried s) → Simulates code n h G R c r → Simulates code n h' G R c r
  handled_as n h h' G R c (Completes a s) p q r = r
  handled_as n h h' G R c (Recurs vs s) p q r = r
  handled_as n h h' G R c (Faults f s) p q r = (r.0, p f s r.0 r.1, r.2)
  handled_as n h h' G R c (Retries s) p q r = comes_as c (h.retried s) (h'.retried s) (q s refl) r
  handled_as n h h' G R c (Waits s) p q r = r
  handled_as n h h' G R c (OutOfTurns s) p q r = r
  handled_as n h h' G R c Invalid p q r = tt

  -- the ask that a fault makes
  told_simulates : {B : Type 0} (n : ℕ) (h' : Handlers) (G : Lands B) (R : Lands (List Value)) (c : Configuration) (f : Fault) (x : StepResult (Unit {0})) → Asked x → Comes code c (told x (λ s1. fails_with s1.acting f s1)) → ((s1 : ActorState) (t : Turned Configuration) → HasTold f s1 t → h'.raised f s1 t) → Simulates code n h' G R c (bind (res x) (λ u s1. Faults f s1))
  told_simulates n h' G R c f (Continue u s1) a r e = (fails_with s1.acting f s1, e s1 (fails_with s1.acting f s1) refl, r)
  told_simulates n h' G R c f (Break g s1) a r e = absurd a
  told_simulates n h' G R c f (Redo s1) a r e = absurd a
  told_simulates n h' G R c f (Await s1) a r e = let p = r.by 0 in (p.0, p.2)
  told_simulates n h' G R c f Malformed a r e = tt

  -- a part that tells of its faults, and what goes on from where it lands
  pub telling_simulates : {A : Type 0} (n : ℕ) (h h' : Handlers) (G : Lands A) (R' : Lands (List Value)) (G' : Lands Value) (R : Lands (List Value)) (c : Configuration) (ask : ActorState → StepResult (Unit {0})) (r : Completion ActorState A) (go : A → ActorState → Completion ActorState Value) →
      ((s : ActorState) → Asked (ask s)) → ((f : Fault) (s : ActorState) (t : Turned Configuration) → h.raised f s t → t ≡ told (ask s) (λ s1. fails_with s1.acting f s1)) → ((f : Fault) (s : ActorState) (t : Turned Configuration) → HasTold f s t → h'.raised f s t) → ((s : ActorState) → r ≡ Retries s → h.retried s ≡ h'.retried s) →
      Simulates code n h G R' c r → ((a : A) (s : ActorState) (c1 : Configuration) → r ≡ Completes a s → G a s c1 → Simulates code n h' G' R c1 (go a s)) → Simulates code n h' G' R c (telling ask r go)
  telling_simulates n h h' G R' G' R c ask (Completes a s) go w p p' q r k = before n h' G' R c r.0 (go a s) r.2 (k a s r.0 refl r.1)
  telling_simulates n h h' G R' G' R c ask (Recurs vs s) go w p p' q r k = tt
  telling_simulates n h h' G R' G' R c ask (Faults f s) go w p p' q r k =
      told_simulates n h' G' R c f (ask s) (w s) (comes_as c r.0 (told (ask s) (λ s1. fails_with s1.acting f s1)) (p f s r.0 r.1) r.2) (p' f)
  telling_simulates n h h' G R' G' R c ask (Retries s) go w p p' q r k = comes_as c (h.retried s) (h'.retried s) (q s refl) r
  telling_simulates n h h' G R' G' R c ask (Waits s) go w p p' q r k = r
  telling_simulates n h h' G R' G' R c ask (OutOfTurns s) go w p p' q r k = r
  telling_simulates n h h' G R' G' R c ask Invalid go w p p' q r k = tt

  pub past_to : (c c1 c2 : Configuration) → Progresses code c c1 → Reaches code c1 c2 → Progresses code c c2
  past_to c c1 c2 p q = record { by = λ k. let b = q.by k in let a = p.by b.0 in (a.0, omega (arith, a.1, b.1), a.2 ∙ b.2) }

  pub to_of : (c c1 : Configuration) → Progresses code c c1 → Reaches code c c1
  to_of c c1 p = record { by = λ k. let a = p.by k in (a.0, omega (arith, a.1), a.2) }

  pub to_from : (c c1 c2 : Configuration) → c ≡ c1 → Reaches code c1 c2 → Reaches code c c2
  to_from c c1 c2 e p = subst (λ x. Reaches code x c2) (sym e) p

  -- one step more, one turn more
  pub before_past : {A : Type 0} (n : ℕ) (h : Handlers) (G : Lands A) (R : Lands (List Value)) (c c1 : Configuration) (r : Completion ActorState A) → Progresses code c c1 → Simulates code n h G R c1 r → Simulates code (suc n) h G R c r
  before_past n h G R c c1 (Completes a s) p r = (r.0, r.1, to_of c r.0 (past_to c c1 r.0 p r.2))
  before_past n h G R c c1 (Recurs vs s) p r = (r.0, r.1, to_past c c1 r.0 (to_of c c1 p) r.2)
  before_past n h G R c c1 (Faults f s) p r = (r.0, r.1, to_comes c c1 r.0 (to_of c c1 p) r.2)
  before_past n h G R c c1 (Retries s) p r = to_comes c c1 (h.retried s) (to_of c c1 p) r
  before_past n h G R c c1 (Waits s) p r = let a = p.by r.0 in (a.0, a.2 ∙ r.1)
  before_past n h G R c c1 (OutOfTurns s) p r = let a = p.by r.0 in (a.0, omega (arith, a.1, r.1), a.2 ∙ r.2)
  before_past n h G R c c1 Invalid p r = tt

  -- a turn, and those that follow it
  pub again_simulates : {A : Type 0} (n m : ℕ) (h : Handlers) (G : Lands A) (B R : Lands (List Value)) (c : Configuration) (r : Completion ActorState A) (go : List Value → ActorState → Completion ActorState A) → suc m ≤ n → Simulates code n h G B c r → ((vs : List Value) (s : ActorState) (c1 : Configuration) → B vs s c1 → Simulates code m h G R c1 (go vs s)) → Simulates code (suc m) h G R c (again r go)
  again_simulates n m h G B R c (Completes a s) go le r k = r
  again_simulates n m h G B R c (Recurs vs s) go le r k = before_past m h G R c r.0 (go vs s) r.2 (k vs s r.0 r.1)
  again_simulates n m h G B R c (Faults f s) go le r k = r
  again_simulates n m h G B R c (Retries s) go le r k = r
  again_simulates n m h G B R c (Waits s) go le r k = r
  again_simulates n m h G B R c (OutOfTurns s) go le r k = (r.0, omega (arith, le, r.1), r.2)
  again_simulates n m h G B R c Invalid go le r k = tt

  -- with fewer turns
  fewer : {A : Type 0} (n : ℕ) (h : Handlers) (G : Lands A) (R : Lands (List Value)) (c : Configuration) (r : Completion ActorState A) → Simulates code (suc n) h G R c r → Simulates code n h G R c r
  fewer n h G R c (Completes a s) r = r
  fewer n h G R c (Recurs vs s) r = r
  fewer n h G R c (Faults f s) r = r
  fewer n h G R c (Retries s) r = r
  fewer n h G R c (Waits s) r = r
  fewer n h G R c (OutOfTurns s) r = (r.0, omega (arith, r.1), r.2)
  fewer n h G R c Invalid r = tt

  -- one turn, and as many more
  pub first_simulates : {A : Type 0} (n : ℕ) (h : Handlers) (G : Lands A) (B R : Lands (List Value)) (c : Configuration) (r : Completion ActorState A) (go : List Value → ActorState → Completion ActorState A) → Simulates code n h G B c r → ((vs : List Value) (s : ActorState) (c1 : Configuration) → B vs s c1 → Simulates code n h G R c1 (go vs s)) → Simulates code n h G R c (again r go)
  first_simulates n h G B R c (Completes a s) go r k = r
  first_simulates n h G B R c (Recurs vs s) go r k = fewer n h G R c (go vs s) (before_past n h G R c r.0 (go vs s) r.2 (k vs s r.0 r.1))
  first_simulates n h G B R c (Faults f s) go r k = r
  first_simulates n h G B R c (Retries s) go r k = r
  first_simulates n h G B R c (Waits s) go r k = r
  first_simulates n h G B R c (OutOfTurns s) go r k = r
  first_simulates n h G B R c Invalid go r k = tt

  -- a part that no recur leaves
  pub closed_simulates : {A : Type 0} (n : ℕ) (h : Handlers) (G : Lands A) (R R' : Lands (List Value)) (c : Configuration) (r : Completion ActorState A) → Simulates code n h G R c r → Simulates code n h G R' c (closed r)
  closed_simulates n h G R R' c (Completes a s) r = r
  closed_simulates n h G R R' c (Recurs vs s) r = tt
  closed_simulates n h G R R' c (Faults f s) r = r
  closed_simulates n h G R R' c (Retries s) r = r
  closed_simulates n h G R R' c (Waits s) r = r
  closed_simulates n h G R R' c (OutOfTurns s) r = r
  closed_simulates n h G R R' c Invalid r = tt
