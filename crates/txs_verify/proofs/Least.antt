-- The kinds that paths tell are the least: in well-typed code a function that they tell to be for transactions alone, for outside alone or
-- impure is so.
use Rattle.std.proofs.Common.{arith, ◌≡◌, ◌∙◌, ℕ, zero, suc, ◌+◌, ◌<◌, ◌≤◌, List, [], ◌∷◌, length, Bool, true, false, ◌&&◌, nat_eq, Option, Some, None, refl, sym, ap, subst}
use Rattle.std.proofs.lemmas.Bool.{eqb-true}
use Rattle.txs_value_cell.specs.Forms.{rule}
use Rattle.txs_value_data.specs.Places.{nth}
use Rattle.txs_value_cell.specs.declared.form.CellForm.TheVariants as form
use Rattle.txs_value_cell.specs.declared.form.Standing.{Standing}
use Rattle.txs_value_cell.specs.declared.form.Standing.TheVariants.{Anywhere, Inside, Outside}
use Rattle.txs_value_data.specs.declared.value.Value.{Value}
use Rattle.txs_code_meaning.specs.PlainCode.{CodeBody}
use Rattle.txs_code_meaning.specs.WellTyped.{FunctionKind, Functions, Owner, a_thread, a_function, IsImpure, MayStand, KindMayStand, IsKind, Stage, plain, opened, applied, Stages, FitsStage, form_of, WellTypedBody, WellTypedFunctions, WellTypedThreads}
use Rattle.txs_code_meaning.specs.declared.instr.Instr.{Instr}
use Rattle.txs_code_meaning.specs.declared.instr.Instr.TheVariants.{Const, Local, Store, Pop, Jump, JumpFalse, Core, Call, Return, Vector, Print, Look, Put, TxBegin, TxEnd, Open, Close, Send, Halt}
use Rattle.txs_verify.specs.declared.standing.Kind.{Kind}
use Rattle.txs_verify.specs.Paths.{stage_for}
use Rattle.txs_verify.specs.Refused.{IsMet}
use Rattle.txs_verify.specs.Standing.{pure_kind, impure_kind, or_pure, kind_of, seen_from, Flag, for_inside, for_outside, not_pure, has, Meets, IsKindOf}
use Rattle.txs_verify.specs.Verdict.{kinds_before, AreKinds}
use Rattle.txs_verify.proofs.Never.{txs_in, staged_at}

some_is : {A : Type 0} (x y : A) → Some x ≡ Some y → x ≡ y
some_is x y e = cc

none_is : {A : Type 0} (x : A) → None ≡ Some x → ⊥
none_is x e = absurd cc

true_is : {A : Type 0} → true ≡ false → A
true_is e = absurd cc

and_left : (a b : Bool) → (a && b) ≡ true → a ≡ true
and_left true b e = refl
and_left false b e = true_is (sym e)

and_right : (a b : Bool) → (a && b) ≡ true → b ≡ true
and_right true b e = e
and_right false b e = true_is (sym e)

-- ---- kinds below others

-- a function of this kind has what was told of it, and where it is pure, nothing
pub record IsBelow (told : Kind) (is : FunctionKind) : Type 0 where
  pub inside : told.inside ≡ true → is.inside ≡ true
  pub outside : told.outside ≡ true → is.outside ≡ true
  pub impure : told.impure ≡ true → is.pure ≡ false
  pub kind : IsKind is

-- what was told of functions is below what they are
abbrev pub AreBelow : List Kind → List FunctionKind → Type 0
AreBelow ks kinds = (f : ℕ) (told : Kind) → nth ks f ≡ Some told → (kind : FunctionKind) × (nth kinds f ≡ Some kind) × IsBelow told kind

-- nothing is told of what isn't there
pure_below : (kind : FunctionKind) → IsKind kind → IsBelow pure_kind kind
pure_below kind k = record { inside = λ h. true_is (sym h); outside = λ h. true_is (sym h); impure = λ h. true_is (sym h); kind = k }

-- what was told of a function that is called is so
called_by : (ks : List Kind) (kinds : List FunctionKind) (f : ℕ) (o : Option Kind) → nth ks f ≡ o → AreBelow ks kinds → (kind : FunctionKind) → nth kinds f ≡ Some kind → IsKind kind → IsBelow (or_pure o) kind
called_by ks kinds f None is_o below kind there k = pure_below kind k
called_by ks kinds f (Some told) is_o below kind there k =
    let b = below f told is_o in
    subst (λ x. IsBelow told x) (some_is b.0 kind (sym b.1 ∙ there)) b.2

-- each function's kind is a kind
abbrev pub AreAllKinds : List FunctionKind → Type 0
AreAllKinds kinds = (f : ℕ) (kind : FunctionKind) → nth kinds f ≡ Some kind → IsKind kind

-- ---- what a body has

-- the body has this
abbrev pub HasFlag : Flag → Owner → Type 0
HasFlag for_inside owner = MayStand owner 0 Inside
HasFlag for_outside owner = MayStand owner 0 Outside
HasFlag not_pure owner = IsImpure owner

-- what is for inside or outside alone may stand here
pub record MayBeKind (owner : Owner) (t : ℕ) (k : Kind) : Type 0 where
  pub inside : k.inside ≡ true → MayStand owner t Inside
  pub outside : k.outside ≡ true → MayStand owner t Outside
  pub impure : k.impure ≡ true → IsImpure owner

pure_may : (owner : Owner) (t : ℕ) → MayBeKind owner t pure_kind
pure_may owner t = record { inside = λ h. true_is (sym h); outside = λ h. true_is (sym h); impure = λ h. true_is (sym h) }

form_may : (owner : Owner) (t : ℕ) (s : Standing) → IsImpure owner → MayStand owner t s → MayBeKind owner t (impure_kind s)
form_may owner t Anywhere impure stands = record { inside = λ h. true_is (sym h); outside = λ h. true_is (sym h); impure = λ h. impure }
form_may owner t Inside impure stands = record { inside = λ h. stands; outside = λ h. true_is (sym h); impure = λ h. impure }
form_may owner t Outside impure stands = record { inside = λ h. true_is (sym h); outside = λ h. stands; impure = λ h. impure }

call_may : (owner : Owner) (t : ℕ) (told : Kind) (kind : FunctionKind) → IsBelow told kind → KindMayStand owner t kind → MayBeKind owner t told
call_may owner t told kind below may =
    record {
      inside = λ h. may.inside (below.inside h);
      outside = λ h. may.outside (below.outside h);
      impure = λ h. may.pure (below.impure h);
    }

-- of a pure function nothing is told
pure_call_may : (owner : Owner) (t : ℕ) (told : Kind) (kind : FunctionKind) → IsBelow told kind → kind.pure ≡ true → MayBeKind owner t told
pure_call_may owner t told kind below pure =
    record {
      inside = λ h. true_is (sym (below.inside h) ∙ (below.kind pure).0);
      outside = λ h. true_is (sym (below.outside h) ∙ (below.kind pure).1);
      impure = λ h. true_is (sym pure ∙ below.impure h);
    }

module _ (fs : Functions) (ks : List Kind) (below : AreBelow ks fs.kinds) (all : AreAllKinds fs.kinds) (owner : Owner) (ss : Stages) (p : ℕ) where
  called : (g : ℕ) (kind : FunctionKind) → nth fs.kinds g ≡ Some kind → IsBelow (or_pure (nth ks g)) kind
  called g kind there = called_by ks fs.kinds g (nth ks g) refl below kind there (all g kind there)

  -- where an instruction fits a stage, what it is for may stand there
  pub kind_may : (s : Stage) (i : Instr) → FitsStage fs owner ss p s i → MayBeKind owner (txs_in s) (kind_of ks i)
  kind_may (plain t) (Const k) f = pure_may owner t
  kind_may (plain t) (Local i) f = pure_may owner t
  kind_may (plain t) (Store i) f = pure_may owner t
  kind_may (plain t) Pop f = pure_may owner t
  kind_may (plain t) (Jump to) f = pure_may owner t
  kind_may (plain t) (JumpFalse to) f = pure_may owner t
  kind_may (plain t) (Core op n) f = pure_may owner t
  kind_may (plain t) (Call g) f = call_may owner t (or_pure (nth ks g)) f.0.0 (called g f.0.0 f.0.1) f.0.2
  kind_may (plain t) Return f = pure_may owner t
  kind_may (plain t) (Vector n) f = pure_may owner t
  kind_may (plain t) (Print n) f = form_may owner t Outside f.0 f.1
  kind_may (plain t) (Look look) f = form_may owner t (rule (form.Look look)).stands f.0.0 f.0.1
  kind_may (plain t) (Put put) f = form_may owner t (rule (form.Put put)).stands f.0.0 f.0.1
  kind_may (plain t) TxBegin f = form_may owner t Anywhere f.0 tt
  kind_may (plain t) TxEnd f = pure_may owner t
  kind_may (plain t) (Open by n) f = form_may owner t (rule (form.Update (form_of by))).stands f.0.0 f.0.1
  kind_may (plain t) (Close by) f = pure_may owner t
  kind_may (plain t) (Send callee n) f = form_may owner t (rule form.Send).stands f.0.0 f.0.1
  kind_may (plain t) Halt f = pure_may owner t
  kind_may (opened t n by) (Call g) f = pure_call_may owner t (or_pure (nth ks g)) f.1.0 (called g f.1.0 f.1.1) f.1.2
  kind_may (opened t n by) (Core op m) f = pure_may owner t
  kind_may (opened t n by) (Const k) f = absurd f
  kind_may (opened t n by) (Local i) f = absurd f
  kind_may (opened t n by) (Store i) f = absurd f
  kind_may (opened t n by) Pop f = absurd f
  kind_may (opened t n by) (Jump to) f = absurd f
  kind_may (opened t n by) (JumpFalse to) f = absurd f
  kind_may (opened t n by) Return f = absurd f
  kind_may (opened t n by) (Vector m) f = absurd f
  kind_may (opened t n by) (Print m) f = absurd f
  kind_may (opened t n by) (Look look) f = absurd f
  kind_may (opened t n by) (Put put) f = absurd f
  kind_may (opened t n by) TxBegin f = absurd f
  kind_may (opened t n by) TxEnd f = absurd f
  kind_may (opened t n by) (Open other m) f = absurd f
  kind_may (opened t n by) (Close closed) f = absurd f
  kind_may (opened t n by) (Send callee m) f = absurd f
  kind_may (opened t n by) Halt f = absurd f
  kind_may (applied t by) (Close closed) f = pure_may owner t
  kind_may (applied t by) (Call g) f = absurd f
  kind_may (applied t by) (Core op m) f = absurd f
  kind_may (applied t by) (Const k) f = absurd f
  kind_may (applied t by) (Local i) f = absurd f
  kind_may (applied t by) (Store i) f = absurd f
  kind_may (applied t by) Pop f = absurd f
  kind_may (applied t by) (Jump to) f = absurd f
  kind_may (applied t by) (JumpFalse to) f = absurd f
  kind_may (applied t by) Return f = absurd f
  kind_may (applied t by) (Vector m) f = absurd f
  kind_may (applied t by) (Print m) f = absurd f
  kind_may (applied t by) (Look look) f = absurd f
  kind_may (applied t by) (Put put) f = absurd f
  kind_may (applied t by) TxBegin f = absurd f
  kind_may (applied t by) TxEnd f = absurd f
  kind_may (applied t by) (Open other m) f = absurd f
  kind_may (applied t by) (Send callee m) f = absurd f
  kind_may (applied t by) Halt f = absurd f

-- ---- one body

module _ (fs : Functions) (ks : List Kind) (below : AreBelow ks fs.kinds) (all : AreAllKinds fs.kinds) (owner : Owner) (callable : ℕ) (consts : List Value) (b : CodeBody) (room : ℕ) (typed : WellTypedBody fs owner callable consts b room) where
  -- what a path comes to may stand there
  pub met_may : (p d t : ℕ) (i : Instr) → IsMet fs.parameters b.instrs p d t i → MayBeKind owner t (kind_of ks i)
  met_may p d t i met =
      let s = staged_at fs owner callable consts b room typed p d t i met in
      subst (λ x. MayBeKind owner x (kind_of ks i)) s.2 (kind_may fs ks below all owner s.0 p (stage_for b.instrs p t) i s.1)

  met_flag : (flag : Flag) (p d t : ℕ) (i : Instr) → IsMet fs.parameters b.instrs p d t i → has flag (seen_from t (kind_of ks i)) ≡ true → HasFlag flag owner
  met_flag for_inside p d t i met h =
      let may = met_may p d t i met in
      subst (λ x. MayStand owner x Inside) (eqb-true t 0 (and_left (nat_eq t 0) (kind_of ks i).inside h)) (may.inside (and_right (nat_eq t 0) (kind_of ks i).inside h))
  met_flag for_outside p d t i met h =
      let may = met_may p d t i met in
      subst (λ x. MayStand owner x Outside) (eqb-true t 0 (and_left (nat_eq t 0) (kind_of ks i).outside h)) (may.outside (and_right (nat_eq t 0) (kind_of ks i).outside h))
  met_flag not_pure p d t i met h = (met_may p d t i met).impure h

  -- what paths make the body it is
  pub has_what_is_met : (flag : Flag) → Meets flag ks fs.parameters b.instrs → HasFlag flag owner
  has_what_is_met flag m = met_flag flag m.0 m.1 m.2 m.3 m.4 m.5

-- ---- all functions

-- a function of well-typed code, with its kind and room
pub record IsTypedFunction (fs : Functions) (n : ℕ) (consts : List Value) (b : CodeBody) (kind : FunctionKind) : Type 0 where
  pub is_kind : IsKind kind
  pub room : ℕ
  pub typed : WellTypedBody fs (a_function kind) n consts b room

suc_plus : (n i : ℕ) → suc n + i ≡ n + suc i
suc_plus n i = omega arith

zero_plus : (n : ℕ) → n ≡ n + 0
zero_plus n = omega arith

pub typed_function : (fs : Functions) (n : ℕ) (consts : List Value) (bs : List CodeBody) (kinds : List FunctionKind) (rooms : List ℕ) → WellTypedFunctions fs n consts bs kinds rooms → (i : ℕ) (b : CodeBody) → nth bs i ≡ Some b → (kind : FunctionKind) × (nth kinds i ≡ Some kind) × IsTypedFunction fs (n + i) consts b kind
typed_function fs n consts [] kinds rooms typed i b there = absurd (none_is b there)
typed_function fs n consts (x ∷ bs) [] rooms typed i b there = absurd typed
typed_function fs n consts (x ∷ bs) (kind ∷ kinds) [] typed i b there = absurd typed
typed_function fs n consts (x ∷ bs) (kind ∷ kinds) (room ∷ rooms) typed zero b there =
    let body = subst (λ y. WellTypedBody fs (a_function kind) n consts y room) (some_is x b there) typed.1 in
    (kind, refl, record { is_kind = typed.0; room = room; typed = subst (λ m. WellTypedBody fs (a_function kind) m consts b room) (zero_plus n) body })
typed_function fs n consts (x ∷ bs) (kind ∷ kinds) (room ∷ rooms) typed (suc i) b there =
    let r = typed_function fs (suc n) consts bs kinds rooms typed.2 i b there in
    (r.0, r.1, subst (λ m. IsTypedFunction fs m consts b r.0) (suc_plus n i) r.2)

pub all_are_kinds : (fs : Functions) (n : ℕ) (consts : List Value) (bs : List CodeBody) (kinds : List FunctionKind) (rooms : List ℕ) → WellTypedFunctions fs n consts bs kinds rooms → AreAllKinds kinds
all_are_kinds fs n consts [] kinds rooms typed f kind there = absurd (none_is kind (ap (λ x. nth x f) (sym typed.0) ∙ there))
all_are_kinds fs n consts (x ∷ bs) [] rooms typed f kind there = absurd typed
all_are_kinds fs n consts (x ∷ bs) (k ∷ kinds) [] typed f kind there = absurd typed
all_are_kinds fs n consts (x ∷ bs) (k ∷ kinds) (room ∷ rooms) typed zero kind there = subst IsKind (some_is k kind there) typed.0
all_are_kinds fs n consts (x ∷ bs) (k ∷ kinds) (room ∷ rooms) typed (suc f) kind there = all_are_kinds fs (suc n) consts bs kinds rooms typed.2 f kind there

nth_before : (ks : List Kind) (n f : ℕ) (k : Kind) → nth (kinds_before n ks) f ≡ Some k → (f < n) × (nth ks f ≡ Some k)
nth_before ks zero f k e = absurd (none_is k e)
nth_before [] (suc n) f k e = absurd (none_is k e)
nth_before (x ∷ ks) (suc n) zero k e = (omega arith, e)
nth_before (x ∷ ks) (suc n) (suc f) k e =
    let r = nth_before ks n f k e in
    (omega (arith, r.0), r.1)

less_on : (f i n : ℕ) → f < i → i < suc n → f < n
less_on f i n a b = omega (arith, a, b)

nth_there : {A : Type 0} (xs : List A) (n : ℕ) → n < length xs → (x : A) × (nth xs n ≡ Some x)
nth_there [] n h = absurd (omega (arith, h))
nth_there (x ∷ xs) zero h = (x, refl)
nth_there (x ∷ xs) (suc n) h = nth_there xs n (omega (arith, h))

nth_less : {A : Type 0} (xs : List A) (i : ℕ) (x : A) → nth xs i ≡ Some x → i < length xs
nth_less [] i x e = absurd (none_is x e)
nth_less (y ∷ xs) zero x e = omega arith
nth_less (y ∷ xs) (suc i) x e = omega (arith, nth_less xs i x e)

module _ (ps : List ℕ) (kinds : List FunctionKind) (consts : List Value) (bs : List CodeBody) (rooms : List ℕ) (typed : WellTypedFunctions (record { parameters = ps; kinds = kinds }) 0 consts bs kinds rooms) (ks : List Kind) (are : AreKinds ps bs ks) (few : length ks ≤ length bs) where
  abbrev those : Functions
  those = record { parameters = ps; kinds = kinds }

  -- the kind that paths tell of a function, where those before it are below theirs
  one_below : (n : ℕ) (b : CodeBody) (told : Kind) (kind : FunctionKind) → AreBelow (kinds_before n ks) kinds → IsTypedFunction those n consts b kind → IsKindOf (kinds_before n ks) ps b.instrs told → IsBelow told kind
  one_below n b told kind below function of =
      let met : (flag : Flag) → has flag told ≡ true → HasFlag flag (a_function kind) = λ flag h. has_what_is_met those (kinds_before n ks) below (all_are_kinds those 0 consts bs kinds rooms typed) (a_function kind) n consts b function.room function.typed flag ((of flag).0 h) in
      record { inside = met for_inside; outside = met for_outside; impure = met not_pure; kind = function.is_kind }

  below_to : (n i : ℕ) (told : Kind) → i < n → nth ks i ≡ Some told → (kind : FunctionKind) × (nth kinds i ≡ Some kind) × IsBelow told kind
  below_to zero i told less there = absurd (omega (arith, less))
  below_to (suc n) i told less there =
      let b = nth_there bs i (omega (arith, nth_less ks i told there, few)) in
      let function = typed_function those 0 consts bs kinds rooms typed i b.0 b.1 in
      let at : IsTypedFunction those i consts b.0 function.0 = subst (λ m. IsTypedFunction those m consts b.0 function.0) (let e : 0 + i ≡ i = omega arith in e) function.2 in
      let before : AreBelow (kinds_before i ks) kinds = λ f k h. (let x = nth_before ks i f k h in below_to n f k (less_on f i n x.0 less) x.1) in
      (function.0, function.1, one_below i b.0 told function.0 before at (are i b.0 told b.1 there))

  -- what paths tell of functions is below what they are
  pub all_below : AreBelow ks kinds
  all_below i told there = below_to (suc i) i told (omega arith) there

-- ---- threads

pub record IsTypedThread (fs : Functions) (consts : List Value) (b : CodeBody) : Type 0 where
  pub room : ℕ
  pub typed : WellTypedBody fs a_thread (length fs.parameters) consts b room

pub typed_thread : (fs : Functions) (consts : List Value) (bs : List CodeBody) (rooms : List ℕ) → WellTypedThreads fs consts bs rooms → (i : ℕ) (b : CodeBody) → nth bs i ≡ Some b → IsTypedThread fs consts b
typed_thread fs consts [] rooms typed i b there = absurd (none_is b there)
typed_thread fs consts (x ∷ bs) [] typed i b there = absurd typed
typed_thread fs consts (x ∷ bs) (room ∷ rooms) typed zero b there = record { room = room; typed = subst (λ y. WellTypedBody fs a_thread (length fs.parameters) consts y room) (some_is x b there) typed.1 }
typed_thread fs consts (x ∷ bs) (room ∷ rooms) typed (suc i) b there = typed_thread fs consts bs rooms typed.2 i b there
