-- Room for marks, and bodies whose paths were looked at.
use Rattle.std.proofs.Common.{arith, inl, inr, ◌≡◌, ◌⊎◌, ◌∙◌, ℕ, zero, suc, ◌+◌, ◌<◌, ◌≤◌, List, [], ◌∷◌, ◌++◌, length, Bool, true, false, nat_eq, Option, Some, None, refl, sym, ap, subst, length-append}
use Rattle.std.proofs.lemmas.Bool.{eqb-true, eqb-false}
use Rattle.txs_value_data.specs.Places.{nth}
use Rattle.txs_value_data.specs.declared.op.Callee.{Callee}
use Rattle.txs_value_data.specs.declared.op.Callee.TheVariants as callee
use Rattle.txs_value_data.specs.declared.value.Value.{Value}
use Rattle.txs_code_meaning.specs.PlainCode.{CodeBody, parameters_of}
use Rattle.txs_code_meaning.specs.WellTyped.{FunctionKind, Owner, Stages, Stage, plain, opened, FitsStage, IsStaging, IsPureFunction, MayBeSent, WellTypedBody}
use Rattle.txs_code_meaning.specs.declared.instr.Instr.{Instr}
use Rattle.txs_code_meaning.specs.declared.instr.Instr.TheVariants.{Call, Send}
use Rattle.txs_verify.specs.declared.error.Stop.{Stop}
use Rattle.txs_verify.specs.declared.error.Stop.TheVariants.{Refused, Memory}
use Rattle.txs_verify.specs.declared.standing.Kind.{Kind}
use Rattle.txs_verify.specs.declared.walk.Mark.{Mark}
use Rattle.txs_verify.specs.Alone.{IsBelow, IsInOrder, IsRightBody}
use Rattle.txs_verify.specs.Going.{AllJumpWithin}
use Rattle.txs_verify.specs.Marks.{Marks, mark_at}
use Rattle.txs_verify.specs.Paths.{EndsWell, IsAllowed, stage_for}
use Rattle.txs_verify.specs.Standing.{kind_from, kinds_from, IsKindOf, IsMarked}
use Rattle.txs_verify.specs.Verdict.{kinds_before, AreRightBodies, BodyInForm, callable, IsRoomFor, IsWalked, IsWrongOnPaths, AreWalked, AreWalkedThreads, AreKinds}
use Rattle.txs_verify.specs.Walk.{WhereRefused}
use Rattle.txs_verify.proofs.Lawfulness.{lawful_of}
use Rattle.txs_verify.proofs.Going.{marked_below}
use Rattle.txs_verify.proofs.Stands.{owner_of, CalleeBelow, CallsBelow, stands_right, kind_is}
use Rattle.txs_verify.proofs.Whole.{body_well_typed}

some_is : {A : Type 0} (x y : A) → Some x ≡ Some y → x ≡ y
some_is x y e = cc

none_is : {A : Type 0} (x : A) → None ≡ Some x → ⊥
none_is x e = absurd cc

-- ---- the loop over marks

below_by : (p k : ℕ) → p < k + 1 → (p ≡ k → ⊥) → p < k
below_by p k lt apart = grind (arith, lt, apart)

room_here : (ms : Marks) (k room : ℕ) → ((p : ℕ) (m : Mark) → p < k → mark_at ms p ≡ Some m → m.depth ≤ room) → (o : Option Mark) → mark_at ms k ≡ o → (after : ℕ) → room ≤ after → ((m : Mark) → o ≡ Some m → m.depth ≤ after) → (p : ℕ) (m : Mark) → mark_at ms p ≡ Some m → (x : Bool) → nat_eq p k ≡ x → p < k + 1 → m.depth ≤ after
room_here ms k room before o is_o after kept here p m e true same below = here m (sym is_o ∙ ap (mark_at ms) (sym (eqb-true p k same)) ∙ e)
room_here ms k room before o is_o after kept here p m e false apart below = omega (arith, kept, before p m (below_by p k below (eqb-false p k apart)) e)

pub room_on : (ms : Marks) (k room : ℕ) → ((p : ℕ) (m : Mark) → p < k → mark_at ms p ≡ Some m → m.depth ≤ room) → (o : Option Mark) → mark_at ms k ≡ o → (after : ℕ) → room ≤ after → ((m : Mark) → o ≡ Some m → m.depth ≤ after) → (p : ℕ) (m : Mark) → p < k + 1 → mark_at ms p ≡ Some m → m.depth ≤ after
room_on ms k room before o is_o after kept here p m below e = room_here ms k room before o is_o after kept here p m e (nat_eq p k) refl below

pub room_all : (ms : Marks) (k room : ℕ) → length ms ≤ k → ((p : ℕ) (m : Mark) → p < k → mark_at ms p ≡ Some m → m.depth ≤ room) → IsRoomFor ms room
room_all ms k room le before p m e = before p m (omega (arith, marked_below ms p m e, le)) e

-- ---- a body

-- what is right alone jumps within the body
pub jumps_of : (n : ℕ) (ps : List ℕ) (b : CodeBody) → IsRightBody n ps b → AllJumpWithin b.instrs
jumps_of n ps b right = λ p i stands. (right.right p i stands).jumps

callee_below : (n : ℕ) (c : Callee) → IsBelow n c → CalleeBelow n c
callee_below n (callee.Core o) h = tt
callee_below n (callee.Function f) h = h

calls_below : (n : ℕ) (ps : List ℕ) (is : List Instr) (at : ℕ) (i : Instr) → IsInOrder n ps is at i → CallsBelow n i
calls_below n ps is at (Call f) h = h
calls_below n ps is at (Send c m) h = callee_below n c h
calls_below n ps is at _ h = tt

pub stands_below : (is : List Instr) (p : ℕ) (i : Instr) → nth is p ≡ Some i → p < length is
stands_below [] p i e = absurd (none_is i e)
stands_below (x ∷ is) zero i e = omega arith
stands_below (x ∷ is) (suc p) i e = omega (arith, stands_below is p i e)

may_here : (ks : List Kind) (thread : Bool) (ps : List ℕ) (b : CodeBody) (kind : Kind) (room n : ℕ) → n ≡ length ks → IsRightBody n ps b → (walked : IsWalked ks thread ps b.instrs kind room) → (p : ℕ) (m : Mark) (i : Instr) → IsMarked b.instrs walked.marks p m i → EndsWell (owner_of thread kind) m.depth m.txs i × IsAllowed (record { parameters = ps; kinds = kinds_from ks }) (owner_of thread kind) (stage_for b.instrs p m.txs) i
may_here ks thread ps b kind room n many right walked p m i here =
    let below = stands_below b.instrs p i here.stands in
    stands_right ps ks thread kind b.instrs p m i (subst (λ k. CallsBelow k i) many (calls_below n ps b.instrs p i (right.right p i here.stands).order)) (λ flag h. walked.seen.all flag p m i below here h) (walked.seen.right p m i below here)

-- a body whose instructions are right alone, and whose paths were looked at, is well typed
pub walked_typed : (ks : List Kind) (thread : Bool) (ps : List ℕ) (consts : List Value) (b : CodeBody) (kind : Kind) (room n : ℕ) → n ≡ length ks → n ≤ length ps → IsRightBody n ps b → BodyInForm (length consts) b → IsWalked ks thread ps b.instrs kind room → WellTypedBody (record { parameters = ps; kinds = kinds_from ks }) (owner_of thread kind) n consts b room
walked_typed ks thread ps consts b kind room n many few right form walked =
    let may_all : (p : ℕ) (m : Mark) (i : Instr) → mark_at walked.marks p ≡ Some m → nth b.instrs p ≡ Some i → EndsWell (owner_of thread kind) m.depth m.txs i × IsAllowed (record { parameters = ps; kinds = kinds_from ks }) (owner_of thread kind) (stage_for b.instrs p m.txs) i = λ p m i marked stands. may_here ks thread ps b kind room n many right walked p m i (record { mark = marked; stands = stands }) in
    body_well_typed (record { parameters = ps; kinds = kinds_from ks }) (owner_of thread kind) n consts b walked.marks room right.parameters few (λ at i stands. lawful_of n ps consts b at i few (form.known at i stands) (right.right at i stands)) walked.closed (λ p m i marked stands. may_all p m i marked stands) walked.roomy

-- ---- more functions behind

nth_front : {A : Type 0} (xs ys : List A) (f : ℕ) (x : A) → nth xs f ≡ Some x → nth (xs ++ ys) f ≡ Some x
nth_front [] ys f x e = absurd (none_is x e)
nth_front (y ∷ xs) ys zero x e = e
nth_front (y ∷ xs) ys (suc f) x e = nth_front xs ys f x e

pure_more : (xs ys : List FunctionKind) (f : ℕ) → IsPureFunction xs f → IsPureFunction (xs ++ ys) f
pure_more xs ys f h = (h.0, nth_front xs ys f h.0 h.1, h.2)

sent_more : (xs ys : List FunctionKind) (c : Callee) → MayBeSent xs c → MayBeSent (xs ++ ys) c
sent_more xs ys (callee.Core o) h = tt
sent_more xs ys (callee.Function f) h = (h.0, nth_front xs ys f h.0 h.1, h.2)

module _ (ps : List ℕ) (xs ys : List FunctionKind) (owner : Owner) (ss : Stages) where
  stage_more : (at : ℕ) (s : Stage) (i : Instr) → FitsStage (record { parameters = ps; kinds = xs }) owner ss at s i → FitsStage (record { parameters = ps; kinds = xs ++ ys }) owner ss at s i
  stage_more at (plain t) (Call f) h = ((h.0.0, nth_front xs ys f h.0.0 h.0.1, h.0.2), h.1)
  stage_more at (plain t) (Send c n) h = (h.0, sent_more xs ys c h.1, h.2)
  stage_more at (opened t n by) (Call f) h = (h.0, pure_more xs ys f h.1, h.2, h.3)
  stage_more at _ _ h = h

  staging_more : (b : CodeBody) → IsStaging (record { parameters = ps; kinds = xs }) owner b ss → IsStaging (record { parameters = ps; kinds = xs ++ ys }) owner b ss
  staging_more b st = record { first = st.first; fits = λ at s e. (let f = st.fits at s e in (f.0, f.1, stage_more at s f.0 f.2)) }

pub typed_more : (ps : List ℕ) (xs ys : List FunctionKind) (owner : Owner) (n : ℕ) (consts : List Value) (b : CodeBody) (room : ℕ) → WellTypedBody (record { parameters = ps; kinds = xs }) owner n consts b room → WellTypedBody (record { parameters = ps; kinds = xs ++ ys }) owner n consts b room
typed_more ps xs ys owner n consts b room t = record { parameters = t.parameters; lawful = t.lawful; table = t.table; staging = (t.staging.0, staging_more ps xs ys owner t.staging.0 b t.staging.1) }

pub from_both : (xs ys : List Kind) → kinds_from (xs ++ ys) ≡ kinds_from xs ++ kinds_from ys
from_both [] ys = refl
from_both (x ∷ xs) ys = ap (λ r. kind_from x ∷ r) (from_both xs ys)

last_on : {A : Type 0} (z : A) (xs : List A) (x : A) (i : ℕ) (y : A) → (nth xs i ≡ Some y) ⊎ ((i ≡ length xs) × (x ≡ y)) → (nth (z ∷ xs) (suc i) ≡ Some y) ⊎ ((suc i ≡ length (z ∷ xs)) × (x ≡ y))
last_on z xs x i y (inl e) = inl e
last_on z xs x i y (inr e) = inr (omega (arith, e.0), e.1)

nth_last : {A : Type 0} (xs : List A) (x : A) (i : ℕ) (y : A) → nth (xs ++ x ∷ []) i ≡ Some y → (nth xs i ≡ Some y) ⊎ ((i ≡ length xs) × (x ≡ y))
nth_last [] x zero y e = inr (refl, some_is x y e)
nth_last [] x (suc i) y e = absurd (none_is y e)
nth_last (z ∷ xs) x zero y e = inl e
nth_last (z ∷ xs) x (suc i) y e = last_on z xs x i y (nth_last xs x i y e)

pub nth_less : {A : Type 0} (xs : List A) (i : ℕ) (x : A) → nth xs i ≡ Some x → i < length xs
nth_less [] i x e = absurd (none_is x e)
nth_less (y ∷ xs) zero x e = omega arith
nth_less (y ∷ xs) (suc i) x e = omega (arith, nth_less xs i x e)

before_more : (ks ms : List Kind) (n : ℕ) → n ≤ length ks → kinds_before n (ks ++ ms) ≡ kinds_before n ks
before_more ks ms zero h = refl
before_more [] ms (suc n) h = absurd (omega (arith, h))
before_more (k ∷ ks) ms (suc n) h = ap (λ r. k ∷ r) (before_more ks ms n (omega (arith, h)))

before_all : (ks : List Kind) → kinds_before (length ks) ks ≡ ks
before_all [] = refl
before_all (k ∷ ks) = ap (λ r. k ∷ r) (before_all ks)

pub before_long : (ks : List Kind) (n : ℕ) → n ≤ length ks → length (kinds_before n ks) ≡ n
before_long ks zero h = refl
before_long [] (suc n) h = absurd (omega (arith, h))
before_long (k ∷ ks) (suc n) h = ap suc (before_long ks n (omega (arith, h)))

-- the functions behind the first so many
abbrev pub kinds_behind : ℕ → List Kind → List Kind
kinds_behind zero ks = ks
kinds_behind (suc n) [] = []
kinds_behind (suc n) (k ∷ ks) = kinds_behind n ks

pub before_behind : (ks : List Kind) (n : ℕ) → kinds_before n ks ++ kinds_behind n ks ≡ ks
before_behind ks zero = refl
before_behind [] (suc n) = refl
before_behind (k ∷ ks) (suc n) = ap (λ r. k ∷ r) (before_behind ks n)

nth_same : {A : Type 0} (xs : List A) (i j : ℕ) (x y : A) → i ≡ j → nth xs i ≡ Some x → nth xs j ≡ Some y → x ≡ y
nth_same xs i j x y e a b = some_is x y (sym a ∙ ap (nth xs) e ∙ b)

-- ---- the loop over functions

le_of : (n k : ℕ) → n < k → n ≤ k
le_of n k h = omega (arith, h)

module _ (ps : List ℕ) (bs : List CodeBody) (ks : List Kind) (rooms : List ℕ) (walked : AreWalked ps bs ks rooms) (b : CodeBody) (k : Kind) (room : ℕ) (stands : nth bs (length ks) ≡ Some b) (one : IsWalked ks false ps b.instrs k room) where
  -- one of those before
  old_walked : (n : ℕ) (b' : CodeBody) (k' : Kind) (r' : ℕ) → nth bs n ≡ Some b' → nth ks n ≡ Some k' → (nth rooms n ≡ Some r') ⊎ ((n ≡ length rooms) × (room ≡ r')) → IsWalked (kinds_before n (ks ++ k ∷ [])) false ps b'.instrs k' r'
  old_walked n b' k' r' sb sk (inl sr) = subst (λ x. IsWalked x false ps b'.instrs k' r') (sym (before_more ks (k ∷ []) n (le_of n (length ks) (nth_less ks n k' sk)))) (walked.each n b' k' r' sb sk sr)
  old_walked n b' k' r' sb sk (inr e) = absurd (omega (arith, nth_less ks n k' sk, e.0, walked.many))

  -- the new one
  new_walked : (n : ℕ) (b' : CodeBody) (k' : Kind) (r' : ℕ) → nth bs n ≡ Some b' → n ≡ length ks → k ≡ k' → (nth rooms n ≡ Some r') ⊎ ((n ≡ length rooms) × (room ≡ r')) → IsWalked (kinds_before n (ks ++ k ∷ [])) false ps b'.instrs k' r'
  new_walked n b' k' r' sb e same (inl sr) = absurd (omega (arith, nth_less rooms n r' sr, e, walked.many))
  new_walked n b' k' r' sb e same (inr f) =
      let body : b ≡ b' = nth_same bs (length ks) n b b' (sym e) stands sb in
      let front : kinds_before n (ks ++ k ∷ []) ≡ ks = ap (λ x. kinds_before x (ks ++ k ∷ [])) e ∙ before_more ks (k ∷ []) (length ks) (omega arith) ∙ before_all ks in
      subst (λ x. IsWalked x false ps b'.instrs k' r') (sym front) (subst (λ x. IsWalked ks false ps x.instrs k' r') body (subst (λ x. IsWalked ks false ps b.instrs x r') same (subst (λ x. IsWalked ks false ps b.instrs k x) f.1 one)))

  each_walked : (n : ℕ) (b' : CodeBody) (k' : Kind) (r' : ℕ) → nth bs n ≡ Some b' → (nth ks n ≡ Some k') ⊎ ((n ≡ length ks) × (k ≡ k')) → (nth rooms n ≡ Some r') ⊎ ((n ≡ length rooms) × (room ≡ r')) → IsWalked (kinds_before n (ks ++ k ∷ [])) false ps b'.instrs k' r'
  each_walked n b' k' r' sb (inl sk) sr = old_walked n b' k' r' sb sk sr
  each_walked n b' k' r' sb (inr e) sr = new_walked n b' k' r' sb e.0 e.1 sr

  -- one function more
  pub walked_on : AreWalked ps bs (ks ++ k ∷ []) (rooms ++ room ∷ [])
  walked_on =
      record {
        many = omega (arith, walked.many, length-append ks (k ∷ []), length-append rooms (room ∷ []));
        each = λ n b' k' r' sb sk sr. each_walked n b' k' r' sb (nth_last ks k n k' sk) (nth_last rooms room n r' sr);
      }

pub walked_none : (ps : List ℕ) (bs : List CodeBody) → AreWalked ps bs [] []
walked_none ps bs = record { many = refl; each = λ n b k r sb sk sr. absurd (none_is k sk) }

-- what functions are for
pub kinds_are : (ps : List ℕ) (bs : List CodeBody) (ks : List Kind) (rooms : List ℕ) → AreWalked ps bs ks rooms → (n : ℕ) (b : CodeBody) (k : Kind) (r : ℕ) → nth bs n ≡ Some b → nth ks n ≡ Some k → nth rooms n ≡ Some r → IsKindOf (kinds_before n ks) ps b.instrs k
kinds_are ps bs ks rooms walked n b k r sb sk sr =
    let w = walked.each n b k r sb sk sr in
    kind_is (kinds_before n ks) false ps b.instrs w.marks k w.closed w.reached w.seen

pub nth_there : {A : Type 0} (xs : List A) (n : ℕ) → n < length xs → (x : A) × (nth xs n ≡ Some x)
nth_there [] n h = absurd (omega (arith, h))
nth_there (x ∷ xs) zero h = (x, refl)
nth_there (x ∷ xs) (suc n) h = nth_there xs n (omega (arith, h))

pub are_kinds : (ps : List ℕ) (bs : List CodeBody) (ks : List Kind) (rooms : List ℕ) → AreWalked ps bs ks rooms → AreKinds ps bs ks
are_kinds ps bs ks rooms walked n b k sb sk =
    let r = nth_there rooms n (omega (arith, nth_less ks n k sk, walked.many)) in
    kinds_are ps bs ks rooms walked n b k r.0 sb sk r.1

-- ---- the loop over threads

module _ (ks : List Kind) (ps : List ℕ) (bs : List CodeBody) (rooms : List ℕ) (walked : AreWalkedThreads ks ps bs rooms) (b : CodeBody) (k : Kind) (room : ℕ) (stands : nth bs (length rooms) ≡ Some b) (one : IsWalked ks true ps b.instrs k room) where
  each_thread : (n : ℕ) (b' : CodeBody) (r' : ℕ) → nth bs n ≡ Some b' → (nth rooms n ≡ Some r') ⊎ ((n ≡ length rooms) × (room ≡ r')) → (k' : Kind) × IsWalked ks true ps b'.instrs k' r'
  each_thread n b' r' sb (inl sr) = walked.each n b' r' sb sr
  each_thread n b' r' sb (inr f) =
      let body : b ≡ b' = nth_same bs (length rooms) n b b' (sym f.0) stands sb in
      (k, subst (λ x. IsWalked ks true ps x.instrs k r') body (subst (λ x. IsWalked ks true ps b.instrs k x) f.1 one))

  pub thread_on : AreWalkedThreads ks ps bs (rooms ++ room ∷ [])
  thread_on = record { each = λ n b' r' sb sr. each_thread n b' r' sb (nth_last rooms room n r' sr) }

pub thread_none : (ks : List Kind) (ps : List ℕ) (bs : List CodeBody) → AreWalkedThreads ks ps bs []
thread_none ks ps bs = record { each = λ n b r sb sr. absurd (none_is r sr) }

-- ---- the loop over bodies alone

right_here : (thread : Bool) (fs bs : List CodeBody) (k : ℕ) → AreRightBodies thread fs bs k → ((b : CodeBody) → nth bs k ≡ Some b → IsRightBody (callable thread (length fs) k) (parameters_of fs) b) → (n : ℕ) (b : CodeBody) → nth bs n ≡ Some b → (x : Bool) → nat_eq n k ≡ x → n < k + 1 → IsRightBody (callable thread (length fs) n) (parameters_of fs) b
right_here thread fs bs k before here n b sb true e below =
    let same = eqb-true n k e in
    subst (λ x. IsRightBody (callable thread (length fs) x) (parameters_of fs) b) (sym same) (here b (ap (nth bs) (sym same) ∙ sb))
right_here thread fs bs k before here n b sb false e below = before n b (below_by n k below (eqb-false n k e)) sb

pub right_more : (thread : Bool) (fs bs : List CodeBody) (k : ℕ) → AreRightBodies thread fs bs k → ((b : CodeBody) → nth bs k ≡ Some b → IsRightBody (callable thread (length fs) k) (parameters_of fs) b) → AreRightBodies thread fs bs (k + 1)
right_more thread fs bs k before here n b below sb = right_here thread fs bs k before here n b sb (nat_eq n k) refl below

pub right_whole : (thread : Bool) (fs bs : List CodeBody) (k : ℕ) → AreRightBodies thread fs bs k → length bs ≤ k → AreRightBodies thread fs bs (length bs)
right_whole thread fs bs k before le n b below sb = before n b (omega (arith, below, le)) sb

-- ---- of the body that is looked at

pub stop_of : (thread : Bool) (ps : List ℕ) (ks ks' : List Kind) (is : List Instr) (bs : List CodeBody) (n : ℕ) (body : CodeBody) → ks' ≡ ks → is ≡ body.instrs → nth bs n ≡ Some body → (stop : Stop) → WhereRefused (λ r. IsWrongOnPaths ks' thread ps is r.kind r.at) stop → WhereRefused (λ r. (b : CodeBody) → nth bs n ≡ Some b → IsWrongOnPaths ks thread ps b.instrs r.kind r.at) stop
stop_of thread ps ks ks' is bs n body same e stands (Refused r) h = λ b sb. subst (λ (x : CodeBody). IsWrongOnPaths ks thread ps x.instrs r.kind r.at) (nth_same bs n n body b refl stands sb) (subst (λ x. IsWrongOnPaths ks thread ps x r.kind r.at) e (subst (λ x. IsWrongOnPaths x thread ps is r.kind r.at) same h))
stop_of thread ps ks ks' is bs n body same e stands Memory h = tt

pub function_more : (ps : List ℕ) (bs : List CodeBody) (ks ks' : List Kind) (rooms : List ℕ) (n : ℕ) (body : CodeBody) (is : List Instr) (k : Kind) (room : ℕ) → AreWalked ps bs ks rooms → ks' ≡ ks → is ≡ body.instrs → nth bs n ≡ Some body → length ks ≡ n → IsWalked ks' false ps is k room → AreWalked ps bs (ks ++ k ∷ []) (rooms ++ room ∷ [])
function_more ps bs ks ks' rooms n body is k room walked same e stands many one = walked_on ps bs ks rooms walked body k room (ap (nth bs) many ∙ stands) (subst (λ x. IsWalked ks false ps x k room) e (subst (λ x. IsWalked x false ps is k room) same one))

pub thread_more : (ks : List Kind) (ps : List ℕ) (bs : List CodeBody) (rooms : List ℕ) (n : ℕ) (body : CodeBody) (is : List Instr) (k : Kind) (room : ℕ) → AreWalkedThreads ks ps bs rooms → is ≡ body.instrs → nth bs n ≡ Some body → length rooms ≡ n → IsWalked ks true ps is k room → AreWalkedThreads ks ps bs (rooms ++ room ∷ [])
thread_more ks ps bs rooms n body is k room walked e stands many one = thread_on ks ps bs rooms walked body k room (ap (nth bs) many ∙ stands) (subst (λ x. IsWalked ks true ps x k room) e one)
