-- All bodies together: refusals, and well-typed code.
use Rattle.std.proofs.Common.{arith, ◌≡◌, ◌∙◌, ℕ, zero, suc, ◌+◌, ◌<◌, ◌≤◌, List, [], ◌∷◌, length, Bool, true, false, not, ◌&&◌, nat_eq, Option, Some, None, Result, Ok, Err, IfErr, OnOk, refl, sym, ap, subst}
use Rattle.txs_value_data.specs.Places.{nth}
use Rattle.txs_value_cell.specs.Cells.{Validators, validators_of}
use Rattle.txs_value_cell.specs.declared.cell.CellDefinition.{CellDefinition}
use Rattle.txs_value_cell.specs.declared.form.Standing.{Standing}
use Rattle.txs_value_cell.specs.declared.form.Standing.TheVariants.{Anywhere, Inside, Outside}
use Rattle.txs_value_data.specs.declared.value.Value.{Value}
use Rattle.txs_value_cell.specs.declared.form.CellForm.TheVariants as form
use Rattle.txs_value_cell.specs.Forms.{rule}
use Rattle.txs_code_meaning.specs.PlainCode.{CodeBody, PlainCode, parameters_of}
use Rattle.txs_code_meaning.specs.WellTyped.{Functions, FunctionKind, a_thread, a_function, form_of, IsKind, WellTypedBody, WellTypedThreads, WellTypedFunctions, WellTyped}
use Rattle.txs_code_meaning.specs.declared.instr.Instr.{Instr}
use Rattle.txs_code_meaning.specs.declared.instr.Instr.TheVariants.{Call, Print, Look, Put, TxBegin, Open, Send}
use Rattle.txs_verify.specs.declared.error.Stop.{Stop}
use Rattle.txs_verify.specs.declared.error.Stop.TheVariants as stop
use Rattle.txs_verify.specs.declared.error.VerifyError.{VerifyError}
use Rattle.txs_verify.specs.declared.error.VerifyErrorKind.{VerifyErrorKind}
use Rattle.txs_verify.specs.declared.error.VerifyErrorKind.TheVariants.{JumpOut, StackLow, StackDiffers, LocalOut, ArityWrong, CallOrder, TxNesting, FallsOff, Memory}
use Rattle.txs_verify.specs.declared.standing.Kind.{Kind}
use Rattle.txs_verify.specs.declared.walk.Mark.{Mark}
use Rattle.txs_verify.specs.Alone.{IsRightBody}
use Rattle.txs_verify.specs.Validators.{EachValidator, IsPure, IsRefusedValidator, TakesOne}
use Rattle.txs_verify.specs.Standing.{kind_from, kinds_from, pure_kind, impure_kind, or_pure, kind_of, for_inside, for_outside, not_pure, IsMarked}
use Rattle.txs_verify.specs.Verdict.{IsInForm, AreRightBodies, IsWalked, IsWrongOnPaths, kinds_before, AreWalked, AreWalkedThreads, AreKinds, OrMemory, IsRefusedOnPaths, IsRefusedBehind, of_all, up_to_a_refused, IsRefusedWalk, of_a_validator, of_a_function, AllAreRight, ValidatorsTakeOne, IsRefused, on_paths_of_functions, on_paths_of_a_thread, stopped}
use Rattle.txs_verify.specs.Walk.{WhereRefused}
use Rattle.txs_verify.proofs.Validated.{validators_typed}
use Rattle.txs_verify.proofs.Roomy.{walked_typed, typed_more, from_both, kinds_behind, before_behind, before_long, nth_less, nth_there, are_kinds, stands_below}

none_is : {A : Type 0} (x : A) → None ≡ Some x → ⊥
none_is x e = absurd cc

some_is : {A : Type 0} (x y : A) → Some x ≡ Some y → x ≡ y
some_is x y e = cc

-- ---- refusals

pub or_memory : (k : VerifyErrorKind) (P : Type 0) → P → OrMemory k P
or_memory JumpOut P h = h
or_memory StackLow P h = h
or_memory StackDiffers P h = h
or_memory LocalOut P h = h
or_memory ArityWrong P h = h
or_memory CallOrder P h = h
or_memory TxNesting P h = h
or_memory FallsOff P h = h
or_memory Memory P h = tt

pub or_map : (k : VerifyErrorKind) (P Q : Type 0) → (P → Q) → OrMemory k P → OrMemory k Q
or_map JumpOut P Q f h = f h
or_map StackLow P Q f h = f h
or_map StackDiffers P Q f h = f h
or_map LocalOut P Q f h = f h
or_map ArityWrong P Q f h = f h
or_map CallOrder P Q f h = f h
or_map TxNesting P Q f h = f h
or_map FallsOff P Q f h = f h
or_map Memory P Q f h = tt

pub or_both : (k : VerifyErrorKind) (P Q R : Type 0) → (P → Q → R) → OrMemory k P → OrMemory k Q → OrMemory k R
or_both JumpOut P Q R f h g = f h g
or_both StackLow P Q R f h g = f h g
or_both StackDiffers P Q R f h g = f h g
or_both LocalOut P Q R f h g = f h g
or_both ArityWrong P Q R f h g = f h g
or_both CallOrder P Q R f h g = f h g
or_both TxNesting P Q R f h g = f h g
or_both FallsOff P Q R f h g = f h g
or_both Memory P Q R f h g = tt

-- what stays where a body is refused
pub stays : {A : Type 0} (x : A) (s : Stop) → WhereRefused (λ r. x ≡ x) s
stays x (stop.Refused r) = refl
stays x stop.Memory = tt

kept_by : (P : Type 0) (thread : Bool) (n : ℕ) (s : Stop) → WhereRefused (λ r. P) s → OrMemory (stopped thread n s).kind P
kept_by P thread n (stop.Refused r) h = or_memory r.kind P h
kept_by P thread n stop.Memory h = tt

pub kept_so : (P : Type 0) (thread : Bool) (n : ℕ) (s : Stop) (e : VerifyError) → e ≡ stopped thread n s → WhereRefused (λ r. P) s → OrMemory e.kind P
kept_so P thread n s e is h = subst (λ (y : VerifyError). OrMemory y.kind P) (sym is) (kept_by P thread n s h)

module _ (ks : List Kind) (thread : Bool) (ps : List ℕ) (bs : List CodeBody) (n : ℕ) (place : n < length bs) where
  wrong_at : (s : Stop) → WhereRefused (λ r. (b : CodeBody) → nth bs n ≡ Some b → IsWrongOnPaths ks thread ps b.instrs r.kind r.at) s → OrMemory (stopped thread n s).kind ((x : IsRefusedOnPaths ks thread ps bs (stopped thread n s)) × (x.number ≡ n))
  wrong_at (stop.Refused r) h =
      let b = nth_there bs n place in
      or_memory r.kind ((x : IsRefusedOnPaths ks thread ps bs (stopped thread n (stop.Refused r))) × (x.number ≡ n)) (record { number = n; body = b.0; name = refl; stands = b.1; wrong = h b.0 b.1 }, refl)
  wrong_at stop.Memory h = tt

  pub paths_wrong : (s : Stop) (e : VerifyError) → e ≡ stopped thread n s → WhereRefused (λ r. (b : CodeBody) → nth bs n ≡ Some b → IsWrongOnPaths ks thread ps b.instrs r.kind r.at) s → OrMemory e.kind ((x : IsRefusedOnPaths ks thread ps bs e) × (x.number ≡ n))
  paths_wrong s e is h = subst (λ (y : VerifyError). OrMemory y.kind ((x : IsRefusedOnPaths ks thread ps bs y) × (x.number ≡ n))) (sym is) (wrong_at s h)

  pub paths_wrong_alone : (s : Stop) (e : VerifyError) → e ≡ stopped thread n s → WhereRefused (λ r. (b : CodeBody) → nth bs n ≡ Some b → IsWrongOnPaths ks thread ps b.instrs r.kind r.at) s → OrMemory e.kind (IsRefusedOnPaths ks thread ps bs e)
  paths_wrong_alone s e is h = or_map e.kind ((x : IsRefusedOnPaths ks thread ps bs e) × (x.number ≡ n)) (IsRefusedOnPaths ks thread ps bs e) (λ x. x.0) (paths_wrong s e is h)

pub function_wrong : (fs : List CodeBody) (ks new : List Kind) (rooms : List ℕ) (n : ℕ) (e : VerifyError) → AreWalked (parameters_of fs) fs ks rooms → length ks ≡ n → OrMemory e.kind ((x : IsRefusedOnPaths ks false (parameters_of fs) fs e) × (x.number ≡ n)) → OrMemory e.kind (new ≡ ks) → OrMemory e.kind (IsRefusedBehind fs new e)
function_wrong fs ks new rooms n e walked many h kept =
    or_both e.kind ((x : IsRefusedOnPaths ks false (parameters_of fs) fs e) × (x.number ≡ n)) (new ≡ ks) (IsRefusedBehind fs new e)
    (λ x same. (record { kinds = ks; are = are_kinds (parameters_of fs) fs ks rooms walked; refused = x.0; before = many ∙ sym x.1 }, sym same)) h kept

-- want of memory says nothing
pub memory_walk : (fs : List CodeBody) (vs : Validators) (e : VerifyError) → e.kind ≡ Memory → OrMemory e.kind (IsRefusedWalk fs vs e)
memory_walk fs vs e is = subst (λ k. OrMemory k (IsRefusedWalk fs vs e)) (sym is) tt

-- no validator is impure by what is known when a function is refused
pub walk_of_function : (fs : List CodeBody) (vs : Validators) (ks now : List Kind) (e : VerifyError) → now ≡ ks → EachValidator (IsPure now) vs → OrMemory e.kind (IsRefusedBehind fs ks e) → OrMemory e.kind (IsRefusedWalk fs vs e)
walk_of_function fs vs ks now e same pure h =
    or_map e.kind (IsRefusedBehind fs ks e) (IsRefusedWalk fs vs e) (λ x. of_a_function x.0 (subst (λ k. EachValidator (IsPure k) vs) (same ∙ sym x.1) pure)) h

-- a validator is
pub walk_of_validator : (fs : List CodeBody) (vs : Validators) (ks now : List Kind) (e other : VerifyError) → now ≡ ks → (e.kind ≡ Memory → ⊥) → OrMemory e.kind (IsRefusedBehind fs ks e) → IsRefusedValidator (IsPure now) TxNesting vs other → OrMemory other.kind (IsRefusedWalk fs vs other)
walk_of_validator fs vs ks now e other same some h r =
    let behind = no_memory e.kind (IsRefusedBehind fs ks e) some h in
    or_memory other.kind (IsRefusedWalk fs vs other) (of_a_validator ks (up_to_a_refused e behind.0 behind.1) (subst (λ k. IsRefusedValidator (IsPure k) TxNesting vs other) same r))
  where
    no_memory : (k : VerifyErrorKind) (P : Type 0) → (k ≡ Memory → ⊥) → OrMemory k P → P
    no_memory JumpOut P s x = x
    no_memory StackLow P s x = x
    no_memory StackDiffers P s x = x
    no_memory LocalOut P s x = x
    no_memory ArityWrong P s x = x
    no_memory CallOrder P s x = x
    no_memory TxNesting P s x = x
    no_memory FallsOff P s x = x
    no_memory Memory P s x = absurd (s refl)

-- a validator is, where all functions were looked at
pub walk_of_all : (fs : List CodeBody) (vs : Validators) (ks now : List Kind) (rooms : List ℕ) (e : VerifyError) → now ≡ ks → AreWalked (parameters_of fs) fs ks rooms → length ks ≡ length fs → IsRefusedValidator (IsPure now) TxNesting vs e → OrMemory e.kind (IsRefusedWalk fs vs e)
walk_of_all fs vs ks now rooms e same walked many r =
    or_memory e.kind (IsRefusedWalk fs vs e) (of_a_validator ks (of_all (are_kinds (parameters_of fs) fs ks rooms walked) many) (subst (λ k. IsRefusedValidator (IsPure k) TxNesting vs e) same r))

-- the same of what looking at validators answered
pub pure_of : (r : Result (Unit {0}) VerifyError) (vs : Validators) (ks now : List Kind) → now ≡ ks → OnOk r (EachValidator (IsPure now) vs) → OnOk r (EachValidator (IsPure ks) vs)
pure_of (Ok u) vs ks now same h = subst (λ k. EachValidator (IsPure k) vs) same h
pure_of (Err e) vs ks now same h = tt

pub wrong_of_all : (r : Result (Unit {0}) VerifyError) (fs : List CodeBody) (vs : Validators) (ks now : List Kind) (rooms : List ℕ) → now ≡ ks → AreWalked (parameters_of fs) fs ks rooms → length ks ≡ length fs → IfErr r (λ e. IsRefusedValidator (IsPure now) TxNesting vs e) → IfErr r (λ e. OrMemory e.kind (IsRefusedWalk fs vs e))
wrong_of_all (Ok u) fs vs ks now rooms same walked many h = tt
wrong_of_all (Err e) fs vs ks now rooms same walked many h = walk_of_all fs vs ks now rooms e same walked many h

-- ---- what is for inside or outside alone is impure

abbrev IsSound : Kind → Type 0
IsSound k = (k.inside ≡ true → k.impure ≡ true) × (k.outside ≡ true → k.impure ≡ true)

abbrev AllSound : List Kind → Type 0
AllSound ks = (f : ℕ) (k : Kind) → nth ks f ≡ Some k → IsSound k

pure_sound : IsSound pure_kind
pure_sound = (λ h. absurd cc, λ h. absurd cc)

impure_sound : (s : Standing) → IsSound (impure_kind s)
impure_sound Anywhere = (λ h. refl, λ h. refl)
impure_sound Inside = (λ h. refl, λ h. refl)
impure_sound Outside = (λ h. refl, λ h. refl)

or_sound : (o : Option Kind) → ((k : Kind) → o ≡ Some k → IsSound k) → IsSound (or_pure o)
or_sound None h = pure_sound
or_sound (Some k) h = h k refl

kind_sound : (ks : List Kind) → AllSound ks → (i : Instr) → IsSound (kind_of ks i)
kind_sound ks all (Call f) = or_sound (nth ks f) (λ k e. all f k e)
kind_sound ks all (Print n) = impure_sound Outside
kind_sound ks all (Look look) = impure_sound (rule (form.Look look)).stands
kind_sound ks all (Put put) = impure_sound (rule (form.Put put)).stands
kind_sound ks all TxBegin = impure_sound Anywhere
kind_sound ks all (Open by n) = impure_sound (rule (form.Update (form_of by))).stands
kind_sound ks all (Send c n) = impure_sound (rule form.Send).stands
kind_sound ks all _ = pure_sound

and_right : (a b : Bool) → (a && b) ≡ true → b ≡ true
and_right true b e = e
and_right false b e = absurd cc

walked_sound : (ks : List Kind) (thread : Bool) (ps : List ℕ) (is : List Instr) (kind : Kind) (room : ℕ) → AllSound ks → IsWalked ks thread ps is kind room → IsSound kind
walked_sound ks thread ps is kind room all w = (
  λ h.
      (let f = w.seen.from for_inside h in
      let m : Mark = f.1 in
      let marked : IsMarked is w.marks f.0 m f.2 = f.3 in
      w.seen.all not_pure f.0 m f.2 (stands_below is f.0 f.2 marked.stands) marked ((kind_sound ks all f.2).0 (and_right (nat_eq m.txs 0) (kind_of ks f.2).inside f.4))),
  λ h.
      (let f = w.seen.from for_outside h in
      let m : Mark = f.1 in
      let marked : IsMarked is w.marks f.0 m f.2 = f.3 in
      w.seen.all not_pure f.0 m f.2 (stands_below is f.0 f.2 marked.stands) marked ((kind_sound ks all f.2).1 (and_right (nat_eq m.txs 0) (kind_of ks f.2).outside f.4))),
)

nth_before : (ks : List Kind) (n f : ℕ) (k : Kind) → nth (kinds_before n ks) f ≡ Some k → (f < n) × (nth ks f ≡ Some k)
nth_before ks zero f k e = absurd (none_is k e)
nth_before [] (suc n) f k e = absurd (none_is k e)
nth_before (x ∷ ks) (suc n) zero k e = (omega arith, e)
nth_before (x ∷ ks) (suc n) (suc f) k e =
    let r = nth_before ks n f k e in
    (omega (arith, r.0), r.1)

module _ (ps : List ℕ) (bs : List CodeBody) (ks : List Kind) (rooms : List ℕ) (walked : AreWalked ps bs ks rooms) (long : length ks ≤ length bs) where
  all_sound : (n i : ℕ) (k : Kind) → i < n → nth ks i ≡ Some k → IsSound k
  all_sound zero i k below e = absurd (omega (arith, below))
  all_sound (suc n) i k below e =
      let less = nth_less ks i k e in
      let b = nth_there bs i (omega (arith, less, long)) in
      let r = nth_there rooms i (omega (arith, less, walked.many)) in
      walked_sound (kinds_before i ks) false ps b.0.instrs k r.0 (λ f k' h. (let x = nth_before ks i f k' h in all_sound n f k' (omega (arith, x.0, below)) x.1)) (walked.each i b.0 k r.0 b.1 e r.1)

off : (a b : Bool) → (a ≡ true → b ≡ true) → not b ≡ true → a ≡ false
off true true h e = absurd cc
off true false h e = absurd (let x = h refl in cc)
off false b h e = refl

is_kind : (k : Kind) → IsSound k → IsKind (kind_from k)
is_kind k s = λ h. (off k.inside k.impure s.0 h, off k.outside k.impure s.1 h)

-- ---- well-typed code

long_as : (bs : List CodeBody) → length (parameters_of bs) ≡ length bs
long_as [] = refl
long_as (b ∷ bs) = omega (arith, long_as bs)

kinds_long : (ks : List Kind) → length (kinds_from ks) ≡ length ks
kinds_long [] = refl
kinds_long (k ∷ ks) = omega (arith, kinds_long ks)

kind_came : (ks : List Kind) (i : ℕ) (k : FunctionKind) → nth (kinds_from ks) i ≡ Some k → (x : Kind) × (nth ks i ≡ Some x) × (kind_from x ≡ k)
kind_came [] i k e = absurd (none_is k e)
kind_came (x ∷ ks) zero k e = (x, refl, some_is (kind_from x) k e)
kind_came (x ∷ ks) (suc i) k e = kind_came ks i k e

plus_zero : (n : ℕ) → n + 0 ≡ n
plus_zero n = omega arith

zero_plus : (i : ℕ) → i ≡ 0 + i
zero_plus i = omega arith

plus_suc : (n i : ℕ) → n + suc i ≡ suc n + i
plus_suc n i = omega arith

functions_from : (fs : Functions) (consts : List Value) (n : ℕ) (bs : List CodeBody) (kinds : List FunctionKind) (rooms : List ℕ) → length kinds ≡ length bs → length rooms ≡ length bs → ((i : ℕ) (b : CodeBody) (k : FunctionKind) (r : ℕ) → nth bs i ≡ Some b → nth kinds i ≡ Some k → nth rooms i ≡ Some r → IsKind k × WellTypedBody fs (a_function k) (n + i) consts b r) → WellTypedFunctions fs n consts bs kinds rooms
functions_from fs consts n [] [] [] many rooms_many h = (refl, refl)
functions_from fs consts n [] [] (r ∷ rooms) many rooms_many h = absurd (omega (arith, rooms_many))
functions_from fs consts n [] (k ∷ kinds) rooms many rooms_many h = absurd (omega (arith, many))
functions_from fs consts n (b ∷ bs) [] rooms many rooms_many h = absurd (omega (arith, many))
functions_from fs consts n (b ∷ bs) (k ∷ kinds) [] many rooms_many h = absurd (omega (arith, rooms_many))
functions_from fs consts n (b ∷ bs) (k ∷ kinds) (r ∷ rooms) many rooms_many h =
    let one = h 0 b k r refl refl refl in
    (one.0, subst (λ x. WellTypedBody fs (a_function k) x consts b r) (plus_zero n) one.1, functions_from fs consts (suc n) bs kinds rooms (omega (arith, many)) (omega (arith, rooms_many)) (λ i b' k' r' sb sk sr. (let x = h (suc i) b' k' r' sb sk sr in (x.0, subst (λ y. WellTypedBody fs (a_function k') y consts b' r') (plus_suc n i) x.1))))

threads_from : (fs : Functions) (consts : List Value) (bs : List CodeBody) (rooms : List ℕ) → length rooms ≡ length bs → ((i : ℕ) (b : CodeBody) (r : ℕ) → nth bs i ≡ Some b → nth rooms i ≡ Some r → (b.parameters ≡ 0) × WellTypedBody fs a_thread (length fs.parameters) consts b r) → WellTypedThreads fs consts bs rooms
threads_from fs consts [] [] many h = refl
threads_from fs consts [] (r ∷ rooms) many h = absurd (omega (arith, many))
threads_from fs consts (b ∷ bs) [] many h = absurd (omega (arith, many))
threads_from fs consts (b ∷ bs) (r ∷ rooms) many h =
    let one = h 0 b r refl refl in
    (one.0, one.1, threads_from fs consts bs rooms (omega (arith, many)) (λ i b' r' sb sr. h (suc i) b' r' sb sr))

-- a function
function_typed : (code : PlainCode) (ks : List Kind) (rooms : List ℕ) → IsInForm code → AreRightBodies false code.functions code.functions (length code.functions) → AreWalked (parameters_of code.functions) code.functions ks rooms → length ks ≡ length code.functions → (i : ℕ) (b : CodeBody) (k : Kind) (r : ℕ) → nth code.functions i ≡ Some b → nth ks i ≡ Some k → nth rooms i ≡ Some r → WellTypedBody (record { parameters = parameters_of code.functions; kinds = kinds_from ks }) (a_function (kind_from k)) i code.constants b r
function_typed code ks rooms form right walked many i b k r sb sk sr =
    let ps = parameters_of code.functions in
    let less = nth_less ks i k sk in
    let all : i < length code.functions = omega (arith, less, many) in
    let front : i ≡ length (kinds_before i ks) = sym (before_long ks i (omega (arith, less))) in
    let typed = walked_typed (kinds_before i ks) false ps code.constants b k r i front (omega (arith, all, long_as code.functions)) (right i b all sb) (form.functions i b sb) (walked.each i b k r sb sk sr) in
    let more = typed_more ps (kinds_from (kinds_before i ks)) (kinds_from (kinds_behind i ks)) (a_function (kind_from k)) i code.constants b r typed in
    subst (λ x. WellTypedBody (record { parameters = ps; kinds = x }) (a_function (kind_from k)) i code.constants b r) (sym (from_both (kinds_before i ks) (kinds_behind i ks)) ∙ ap kinds_from (before_behind ks i)) more

function_right : (code : PlainCode) (ks : List Kind) (rooms : List ℕ) → IsInForm code → AreRightBodies false code.functions code.functions (length code.functions) → AreWalked (parameters_of code.functions) code.functions ks rooms → length ks ≡ length code.functions → (i : ℕ) (b : CodeBody) (k : FunctionKind) (r : ℕ) → nth code.functions i ≡ Some b → nth (kinds_from ks) i ≡ Some k → nth rooms i ≡ Some r → IsKind k × WellTypedBody (record { parameters = parameters_of code.functions; kinds = kinds_from ks }) (a_function k) (0 + i) code.constants b r
function_right code ks rooms form right walked many i b k r sb sk sr =
    let x = kind_came ks i k sk in
    let long : length ks ≤ length code.functions = omega (arith, many) in
    let sound = all_sound (parameters_of code.functions) code.functions ks rooms walked long (suc i) i x.0 (omega arith) x.1 in
    let typed = function_typed code ks rooms form right walked many i b x.0 r sb x.1 sr in
    let fs : Functions = record { parameters = parameters_of code.functions; kinds = kinds_from ks } in
    (subst IsKind x.2 (is_kind x.0 sound), subst (λ n. WellTypedBody fs (a_function k) n code.constants b r) (zero_plus i) (subst (λ y. WellTypedBody fs (a_function y) i code.constants b r) x.2 typed))

thread_right : (code : PlainCode) (ks : List Kind) (rooms : List ℕ) → IsInForm code → AreRightBodies true code.functions code.threads (length code.threads) → AreWalkedThreads ks (parameters_of code.functions) code.threads rooms → length ks ≡ length code.functions → (i : ℕ) (b : CodeBody) (r : ℕ) → nth code.threads i ≡ Some b → nth rooms i ≡ Some r → (b.parameters ≡ 0) × WellTypedBody (record { parameters = parameters_of code.functions; kinds = kinds_from ks }) a_thread (length (parameters_of code.functions)) code.constants b r
thread_right code ks rooms form right walked many i b r sb sr =
    let ps = parameters_of code.functions in
    let w = walked.each i b r sb sr in
    let here : IsRightBody (length code.functions) ps b = right i b (nth_less code.threads i b sb) sb in
    (form.parameters i b sb, walked_typed ks true ps code.constants b w.0 r (length ps) (long_as code.functions ∙ sym many) (omega arith) (subst (λ n. IsRightBody n ps b) (sym (long_as code.functions)) here) (form.threads i b sb) w.1)

-- the code is well typed
pub code_typed : (code : PlainCode) (ks : List Kind) (function_rooms thread_rooms : List ℕ) → IsInForm code → ValidatorsTakeOne code → EachValidator (IsPure ks) (validators_of code.cells) → AreRightBodies false code.functions code.functions (length code.functions) → AreRightBodies true code.functions code.threads (length code.threads) → AreWalked (parameters_of code.functions) code.functions ks function_rooms → length ks ≡ length code.functions → AreWalkedThreads ks (parameters_of code.functions) code.threads thread_rooms → length thread_rooms ≡ length code.threads → WellTyped code function_rooms thread_rooms
code_typed code ks function_rooms thread_rooms form take pure functions threads walked many walked_threads thread_many =
    record {
      kinds = kinds_from ks;
      validators = validators_typed (parameters_of code.functions) ks (validators_of code.cells) (many ∙ sym (long_as code.functions)) take pure;
      functions = functions_from (record { parameters = parameters_of code.functions; kinds = kinds_from ks }) code.constants 0 code.functions (kinds_from ks) function_rooms (kinds_long ks ∙ many) (walked.many ∙ many) (function_right code ks function_rooms form functions walked many);
      threads = threads_from (record { parameters = parameters_of code.functions; kinds = kinds_from ks }) code.constants code.threads thread_rooms thread_many (thread_right code ks thread_rooms form threads walked_threads many);
    }

-- ---- the verdict

-- functions, threads and cells are those of the code
module _ (code : PlainCode) (ds : List CellDefinition) (fs ts : List CodeBody) (d : ds ≡ code.cells) (f : fs ≡ code.functions) (t : ts ≡ code.threads) (take : EachValidator (TakesOne (parameters_of fs)) (validators_of ds)) (functions : AreRightBodies false fs fs (length fs)) (threads : AreRightBodies true fs ts (length ts)) where
  right_functions : AreRightBodies false code.functions code.functions (length code.functions)
  right_functions = subst (λ x. AreRightBodies false x x (length x)) f functions

  right_threads : AreRightBodies true code.functions code.threads (length code.threads)
  right_threads = subst (λ x. AreRightBodies true code.functions x (length x)) t (subst (λ x. AreRightBodies true x ts (length ts)) f threads)

  take_one : ValidatorsTakeOne code
  take_one = subst (λ x. EachValidator (TakesOne (parameters_of code.functions)) (validators_of x)) d (subst (λ x. EachValidator (TakesOne (parameters_of x)) (validators_of ds)) f take)

  all_right : AllAreRight code
  all_right = (take_one, right_functions, right_threads)

  pub walk_refused : (e : VerifyError) → OrMemory e.kind (IsRefusedWalk fs (validators_of ds) e) → OrMemory e.kind (IsRefused code e)
  walk_refused e h =
      or_map e.kind (IsRefusedWalk fs (validators_of ds) e) (IsRefused code e)
      (λ x. on_paths_of_functions all_right (subst (λ y. IsRefusedWalk code.functions (validators_of y) e) d (subst (λ y. IsRefusedWalk y (validators_of ds) e) f x))) h

  pure_by : (ks : List Kind) → EachValidator (IsPure ks) (validators_of ds) → EachValidator (IsPure ks) (validators_of code.cells)
  pure_by ks pure = subst (λ x. EachValidator (IsPure ks) (validators_of x)) d pure

  pub thread_refused : (ks ks' : List Kind) (rooms : List ℕ) (e : VerifyError) → ks' ≡ ks → AreWalked (parameters_of fs) fs ks rooms → length ks ≡ length fs → EachValidator (IsPure ks) (validators_of ds) → OrMemory e.kind (IsRefusedOnPaths ks' true (parameters_of fs) ts e) → OrMemory e.kind (IsRefused code e)
  thread_refused ks ks' rooms e same walked many pure h =
      let kinds : AreKinds (parameters_of code.functions) code.functions ks = are_kinds (parameters_of code.functions) code.functions ks rooms (subst (λ x. AreWalked (parameters_of x) x ks rooms) f walked) in
      or_map e.kind (IsRefusedOnPaths ks' true (parameters_of fs) ts e) (IsRefused code e) (λ x. on_paths_of_a_thread all_right ks kinds (many ∙ ap length f) (pure_by ks pure) (subst (λ y. IsRefusedOnPaths ks true (parameters_of code.functions) y e) t (subst (λ y. IsRefusedOnPaths ks true (parameters_of y) ts e) f (subst (λ y. IsRefusedOnPaths y true (parameters_of fs) ts e) same x)))) h

  pub all_typed : (ks ks' : List Kind) (function_rooms thread_rooms : List ℕ) → IsInForm code → ks' ≡ ks → EachValidator (IsPure ks) (validators_of ds) → AreWalked (parameters_of fs) fs ks function_rooms → length ks ≡ length fs → AreWalkedThreads ks' (parameters_of fs) ts thread_rooms → length thread_rooms ≡ length ts → WellTyped code function_rooms thread_rooms
  all_typed ks ks' function_rooms thread_rooms form same pure walked many walked_threads thread_many =
      code_typed code ks function_rooms thread_rooms form take_one (pure_by ks pure) right_functions right_threads (subst (λ x. AreWalked (parameters_of x) x ks function_rooms) f walked) (many ∙ ap length f) (subst (λ x. AreWalkedThreads ks (parameters_of code.functions) x thread_rooms) t (subst (λ x. AreWalkedThreads ks (parameters_of x) ts thread_rooms) f (subst (λ x. AreWalkedThreads x (parameters_of fs) ts thread_rooms) same walked_threads))) (thread_many ∙ ap length t)
