-- The rooms that are computed are the least with which the code is well typed.
use Rattle.std.proofs.Common.{arith, ◌≡◌, ◌∙◌, ℕ, zero, suc, ◌≤◌, List, [], ◌∷◌, length, Bool, true, false, Some, None, ap, subst}
use Rattle.txs_value_data.specs.Places.{nth}
use Rattle.txs_value_data.specs.declared.value.Value.{Value}
use Rattle.txs_code_meaning.specs.PlainCode.{CodeBody, PlainCode, parameters_of}
use Rattle.txs_code_meaning.specs.WellTyped.{FunctionKind, Functions, Owner, a_thread, a_function, IsTable, WellTypedBody, WellTypedFunctions, WellTypedThreads, WellTyped}
use Rattle.txs_verify.specs.declared.standing.Kind.{Kind}
use Rattle.txs_verify.specs.Verdict.{IsWalked, AreWalked, AreWalkedThreads, AreLeastRooms, kinds_before}
use Rattle.txs_verify.proofs.Agree.{has_depth}
use Rattle.txs_verify.proofs.Roomy.{nth_less, nth_there}

none_is : {A : Type 0} (x : A) → None ≡ Some x → ⊥
none_is x e = absurd cc

some_is : {A : Type 0} (x y : A) → Some x ≡ Some y → x ≡ y
some_is x y e = cc

-- a body is well typed with this room
record HasRoom (fs : Functions) (consts : List Value) (b : CodeBody) (room : ℕ) : Type 0 where
  owner : Owner
  callable : ℕ
  typed : WellTypedBody fs owner callable consts b room

-- a body that is well typed with some room needs no more
least_body : (fs : Functions) (consts : List Value) (b : CodeBody) (most : ℕ) → HasRoom fs consts b most → (ks : List Kind) (thread : Bool) (kind : Kind) (room : ℕ) → IsWalked ks thread fs.parameters b.instrs kind room → room ≤ most
least_body fs consts b most has ks thread kind room walked =
    let ds = has.typed.table.0 in
    let table : IsTable has.owner fs.parameters b most ds = has.typed.table.1 in
    walked.least most (λ p m marked. (let comes = walked.reached p m marked in table.within p m.depth (has_depth has.owner fs.parameters b most ds table comes.0 p m.depth m.txs comes.1)))

function_room : (fs : Functions) (n : ℕ) (consts : List Value) (bs : List CodeBody) (kinds : List FunctionKind) (rooms : List ℕ) → WellTypedFunctions fs n consts bs kinds rooms → (i : ℕ) (b : CodeBody) (room : ℕ) → nth bs i ≡ Some b → nth rooms i ≡ Some room → HasRoom fs consts b room
function_room fs n consts [] kinds rooms typed i b room sb sr = absurd (none_is b sb)
function_room fs n consts (x ∷ bs) [] rooms typed i b room sb sr = absurd typed
function_room fs n consts (x ∷ bs) (kind ∷ kinds) [] typed i b room sb sr = absurd typed
function_room fs n consts (x ∷ bs) (kind ∷ kinds) (r ∷ rooms) typed zero b room sb sr =
    record {
      owner = a_function kind;
      callable = n;
      typed = subst (λ y. WellTypedBody fs (a_function kind) n consts b y) (some_is r room sr) (subst (λ y. WellTypedBody fs (a_function kind) n consts y r) (some_is x b sb) typed.1);
    }
function_room fs n consts (x ∷ bs) (kind ∷ kinds) (r ∷ rooms) typed (suc i) b room sb sr = function_room fs (suc n) consts bs kinds rooms typed.2 i b room sb sr

thread_room : (fs : Functions) (consts : List Value) (bs : List CodeBody) (rooms : List ℕ) → WellTypedThreads fs consts bs rooms → (i : ℕ) (b : CodeBody) (room : ℕ) → nth bs i ≡ Some b → nth rooms i ≡ Some room → HasRoom fs consts b room
thread_room fs consts [] rooms typed i b room sb sr = absurd (none_is b sb)
thread_room fs consts (x ∷ bs) [] typed i b room sb sr = absurd typed
thread_room fs consts (x ∷ bs) (r ∷ rooms) typed zero b room sb sr =
    record {
      owner = a_thread;
      callable = length fs.parameters;
      typed = subst (λ y. WellTypedBody fs a_thread (length fs.parameters) consts b y) (some_is r room sr) (subst (λ y. WellTypedBody fs a_thread (length fs.parameters) consts y r) (some_is x b sb) typed.1);
    }
thread_room fs consts (x ∷ bs) (r ∷ rooms) typed (suc i) b room sb sr = thread_room fs consts bs rooms typed.2 i b room sb sr

module _ (code : PlainCode) (ks : List Kind) (fr tr : List ℕ) (walked : AreWalked (parameters_of code.functions) code.functions ks fr) (many : length ks ≡ length code.functions) (threads : AreWalkedThreads ks (parameters_of code.functions) code.threads tr) (thread_many : length tr ≡ length code.threads) (others other_threads : List ℕ) (typed : WellTyped code others other_threads) where
  abbrev fs : Functions
  fs = record { parameters = parameters_of code.functions; kinds = typed.kinds }

  least_function : (n a b : ℕ) → nth fr n ≡ Some a → nth others n ≡ Some b → a ≤ b
  least_function n a b sa sb =
      let lt = nth_less fr n a sa in
      let k = nth_there ks n (omega (arith, lt, walked.many)) in
      let body = nth_there code.functions n (omega (arith, lt, walked.many, many)) in
      let w = walked.each n body.0 k.0 a body.1 k.1 sa in
      least_body fs code.constants body.0 b (function_room fs 0 code.constants code.functions typed.kinds others typed.functions n body.0 b body.1 sb) (kinds_before n ks) false k.0 a w

  least_thread : (n a b : ℕ) → nth tr n ≡ Some a → nth other_threads n ≡ Some b → a ≤ b
  least_thread n a b sa sb =
      let lt = nth_less tr n a sa in
      let body = nth_there code.threads n (omega (arith, lt, thread_many)) in
      let w = threads.each n body.0 a body.1 sa in
      least_body fs code.constants body.0 b (thread_room fs code.constants code.threads other_threads typed.threads n body.0 b body.1 sb) ks true w.0 a w.1

-- where functions and threads are those of the code
pub least_rooms : (code : PlainCode) (fs ts : List CodeBody) → fs ≡ code.functions → ts ≡ code.threads → (ks ks' : List Kind) (fr tr : List ℕ) → ks' ≡ ks → AreWalked (parameters_of fs) fs ks fr → length ks ≡ length fs → AreWalkedThreads ks' (parameters_of fs) ts tr → length tr ≡ length ts → AreLeastRooms code fr tr
least_rooms code fs ts f t ks ks' fr tr same walked many walked_threads thread_many =
    let functions = subst (λ x. AreWalked (parameters_of x) x ks fr) f walked in
    let threads = subst (λ x. AreWalkedThreads ks (parameters_of code.functions) x tr) t (subst (λ x. AreWalkedThreads ks (parameters_of x) ts tr) f (subst (λ x. AreWalkedThreads x (parameters_of fs) ts tr) same walked_threads)) in
    λ others other_threads typed. (λ n a b sa sb. least_function code ks fr tr functions (many ∙ ap length f) threads (thread_many ∙ ap length t) others other_threads typed n a b sa sb, λ n a b sa sb. least_thread code ks fr tr functions (many ∙ ap length f) threads (thread_many ∙ ap length t) others other_threads typed n a b sa sb)
