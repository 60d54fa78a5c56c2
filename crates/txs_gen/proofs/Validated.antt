-- A value that a validator looks at: from the instruction at hand the machine comes to where `validated` leads.
use Rattle.std.proofs.Common.{◌≡◌, ℕ, suc, Bool, true, false, List, [], ◌∷◌, Option, Some, None, Result, Ok, Err, refl, sym, ap, ◌∙◌, subst}
use Rattle.txs_value_apply.specs.Core.{core}
use Rattle.txs_value_data.specs.Places.{nth, fault_at}
use Rattle.txs_value_data.specs.declared.fault.FaultKind.{FaultKind}
use Rattle.txs_value_data.specs.declared.fault.FaultKind.TheVariants.{InvalidState}
use Rattle.txs_value_data.specs.declared.fault.Span.{Span}
use Rattle.txs_value_data.specs.declared.op.Callee.{Callee}
use Rattle.txs_value_data.specs.declared.op.Callee.TheVariants.{Core as CoreOp, Function}
use Rattle.txs_value_data.specs.declared.value.Value.{Value}
use Rattle.txs_value_data.specs.declared.value.Value.TheVariants.{Nil, Truth, Int, Key, Text, Vector, Cell}
use Rattle.txs_tree_meaning.specs.Known.{Known, is_pure}
use Rattle.txs_tree_meaning.specs.Meaning.{Completion, Completes, Recurs, Faults, Retries, Waits, OutOfTurns, Invalid, bind, result_of, Applies, apply}
use Rattle.txs_tree_meaning.specs.Transaction.{judged, validated}
use Rattle.txs_code_meaning.specs.ActorState.{ActorState, step_of}
use Rattle.txs_code_meaning.specs.Machine.{PlainInstr, ThreadCode, locals_of, Destination, to_validation, Frame, Activity, Outside, Restarting, Running, Applying, Swapping, is_inside, Configuration, Turned, Unfinished, and_then, fetch, act, raise, on, answered, validates, where_accepted, where_valid, stack_after, doing_after, state_after, exec}
use Rattle.txs_theorem_threads.proofs.Accepted.{OfValidator}
use Rattle.txs_theorem_threads.proofs.Callees.{IsPure}
use Rattle.txs_theorem_threads.proofs.Quiet.{carried, IsQuiet}
use Rattle.txs_gen.proofs.Lists.{Holds}
use Rattle.txs_gen.proofs.Steps.{configuration, frame, Handlers, Lands, of, Simulates, raised_by, step, stays, one_to, one_comes, before, bind_simulates, from_configuration}

-- ---- where parts land

-- no answer of a validator is there that wasn't looked at
abbrev pub Clear : ActorState → Type 0
Clear s = s.accepted ≡ None

-- a value lies on the stack
abbrev pub AtValue : ℕ → ℕ → List Value → List Value → List Frame → Activity → Value → ActorState → Configuration → Type 0
AtValue b stop st env fr doing v s c = (L : List Value) × Holds env L × (c ≡ configuration b stop (v ∷ st) L fr doing s) × Clear s

abbrev pub Never : List Value → ActorState → Configuration → Type 0
Never vs s c = ⊥

-- the turn here comes to this
abbrev pub AtHand : ThreadCode → Configuration → Turned Configuration → Type 0
AtHand code c t = (k : ℕ) → exec code (suc k) c ≡ and_then t (exec code k)

-- ---- what functions' code does

-- what is needed where only pure code is run: while commutes or a swap's callee are applied
abbrev pub IfBound : Activity → Type 0 → Type 0
IfBound Outside P = Unit {0}
IfBound (Restarting left) P = P
IfBound (Running left inner from) P = Unit {0}
IfBound (Applying left from work values) P = P
IfBound (Swapping swap from) P = P

-- what is there is there where it is needed
pub bound_of : {A : Type 0} (doing : Activity) → A → IfBound doing A
bound_of Outside a = tt
bound_of (Restarting left) a = a
bound_of (Running left inner from) a = tt
bound_of (Applying left from work values) a = a
bound_of (Swapping swap from) a = a

-- what a function's code does, whatever its value becomes
abbrev pub CallSimulates : ThreadCode → ℕ → List Known → (Bool → ℕ → List Value → ActorState → Completion ActorState Value) → Type 0
CallSimulates code n all call =
    (f : ℕ) (vs : List Value) (b pc : ℕ) (st L : List Value) (fr : List Frame) (doing : Activity) (awaits : Destination) (s : ActorState) → IfBound doing (is_pure (nth all f) ≡ true) → Clear s →
    Simulates code n (of doing) (λ v s1 c1. (c1 ≡ configuration b pc (stack_after awaits v st) L fr (doing_after awaits v doing) (state_after awaits v s1)) × Clear s1) Never (configuration (suc f) 0 [] (locals_of (nth code.functions f) vs) (frame b pc st L awaits ∷ fr) doing s) (call (is_inside doing) f vs s)

-- ---- pure answers

-- a pure part lands in the state that it began in
pub in_place : {A : Type 0} (code : ThreadCode) (n : ℕ) (h : Handlers) (G : Lands A) (R : Lands (List Value)) (c : Configuration) (s : ActorState) (p : Completion (Unit {0}) A) → Simulates code n h G R c (carried s p) → Simulates code n h (λ a s1 c1. (s1 ≡ s) × G a s1 c1) R c (carried s p)
in_place code n h G R c s (Completes a u) r = (r.0, (refl, r.1), r.2)
in_place code n h G R c s (Recurs vs u) r = r
in_place code n h G R c s (Faults f u) r = r
in_place code n h G R c s (Retries u) r = r
in_place code n h G R c s (Waits u) r = r
in_place code n h G R c s (OutOfTurns u) r = r
in_place code n h G R c s Invalid r = tt

-- a state without an answer is the same without it
pub cleared : (s : ActorState) → s.accepted ≡ None → record s { accepted = None } ≡ s
cleared s e = ap (λ o. record s { accepted = o }) (sym e)

-- ---- a validator

module _ (code : ThreadCode) (n : ℕ) (all : List Known) (call : Bool → ℕ → List Value → ActorState → Completion ActorState Value) (calls : CallSimulates code n all call) (b : ℕ) (fr : List Frame) where
  -- what the instruction at hand comes to
  pub acts : (c : Configuration) (i : PlainInstr) (t : Turned Configuration) → fetch code c.body c.place ≡ Some i → act code (Some i) c ≡ t → AtHand code c t
  acts c i t at e k = step code c i at k ∙ ap (λ x. and_then x (exec code k)) e

  module _ (span : Span) (p : ℕ) (st L : List Value) (doing : Activity) (quietly : Applies (Unit {0})) (quiet : (c : Callee) (vs : List Value) (s : ActorState) → IsPure all c → (apply (call (is_inside doing)) span c vs s ≡ carried s (quietly c vs tt)) × IsQuiet (quietly c vs tt)) where
    -- where the instruction is
    abbrev here : ActorState → Configuration
    here s = configuration b p st L fr doing s

    -- the value is accepted, and the turn there continues with it
    abbrev pub AtAccepted : (Configuration → Turned Configuration) → Value → ActorState → Value → ActorState → Configuration → Type 0
    AtAccepted go v s w s1 c1 = (w ≡ v) × (s1 ≡ s) × AtHand code c1 (go (here s))

    -- a value that is accepted
    yes_simulates : (f : Callee) (v : Value) (s : ActorState) (go : Configuration → Turned Configuration) → s.accepted ≡ None → AtHand code (here (record s { accepted = Some true })) (where_accepted code (Some true) f v span (here (record s { accepted = Some true })) go) →
        Simulates code n (of doing) (AtAccepted go v s) Never (here (record s { accepted = Some true })) (Completes v s)
    yes_simulates f v s go clear at =
        let there = here (record s { accepted = Some true }) in
        (there, (refl, refl, λ k. at k ∙ ap (λ x. and_then (go (here x)) (exec code k)) (cleared s clear)), stays code there)

    -- a value that is refused
    no_simulates : (f : Callee) (v : Value) (s : ActorState) (go : Configuration → Turned Configuration) → s.accepted ≡ None → AtHand code (here (record s { accepted = Some false })) (where_accepted code (Some false) f v span (here (record s { accepted = Some false })) go) →
        Simulates code n (of doing) (AtAccepted go v s) Never (here (record s { accepted = Some false })) (Faults (fault_at InvalidState span) s)
    no_simulates f v s go clear at =
        let fault = fault_at InvalidState span in
        let there = here (record s { accepted = Some false }) in
        raised_by code doing fault s there (one_comes code there (raise doing fault s) (λ k. at k ∙ ap (λ x. and_then (raise doing fault x) (exec code k)) (cleared s clear)))

    -- the instruction at hand looks at an answer
    judged_simulates : (f : Callee) (v : Value) (s : ActorState) (go : Configuration → Turned Configuration) → s.accepted ≡ None → ((b1 : Bool) → AtHand code (here (record s { accepted = Some b1 })) (where_accepted code (Some b1) f v span (here (record s { accepted = Some b1 })) go)) →
        (answer : Value) → Simulates code n (of doing) (AtAccepted go v s) Never (here (answered answer s)) (judged answer span v s)
    judged_simulates f v s go clear at Nil = no_simulates f v s go clear (at false)
    judged_simulates f v s go clear at (Truth false) = no_simulates f v s go clear (at false)
    judged_simulates f v s go clear at (Truth true) = yes_simulates f v s go clear (at true)
    judged_simulates f v s go clear at (Int m) = yes_simulates f v s go clear (at true)
    judged_simulates f v s go clear at (Key m) = yes_simulates f v s go clear (at true)
    judged_simulates f v s go clear at (Text m) = yes_simulates f v s go clear (at true)
    judged_simulates f v s go clear at (Vector m) = yes_simulates f v s go clear (at true)
    judged_simulates f v s go clear at (Cell m) = yes_simulates f v s go clear (at true)

    -- an operation answers at once
    op_simulates : (f : Callee) (v : Value) (s : ActorState) (c : Configuration) (go : Configuration → Turned Configuration) → s.accepted ≡ None → ((b1 : Bool) → AtHand code (here (record s { accepted = Some b1 })) (where_accepted code (Some b1) f v span (here (record s { accepted = Some b1 })) go)) →
        (r : Result Value FaultKind) → AtHand code c (on doing (step_of r span s) (λ answer s1. Unfinished (here (answered answer s1)))) →
        Simulates code n (of doing) (AtAccepted go v s) Never c (bind (result_of r span s) (λ answer s1. judged answer span v s1))
    op_simulates f v s c go clear at (Ok answer) first =
        before code n (of doing) (AtAccepted go v s) Never c (here (answered answer s)) (judged answer span v s) (one_to code c (here (answered answer s)) first) (judged_simulates f v s go clear at answer)
    op_simulates f v s c go clear at (Err k) first = raised_by code doing (fault_at k span) s c (one_comes code c (raise doing (fault_at k span) s) first)

    -- a validator on a value, where the turn at c begins it
    validator_simulates : (f : Callee) (v : Value) (s : ActorState) (c : Configuration) (go : Configuration → Turned Configuration) → IsPure all f → s.accepted ≡ None → AtHand code c (validates code f v span (here s)) →
        ((b1 : Bool) → AtHand code (here (record s { accepted = Some b1 })) (where_accepted code (Some b1) f v span (here (record s { accepted = Some b1 })) go)) →
        Simulates code n (of doing) (AtAccepted go v s) Never c (validated (apply (call (is_inside doing)) span) (Some f) span v s)
    validator_simulates (CoreOp op) v s c go pure clear first at = op_simulates (CoreOp op) v s c go clear at (core op (v ∷ [])) first
    validator_simulates (Function f) v s c go pure clear first at =
        let h = of doing in
        let args = v ∷ [] in
        let inner = configuration (suc f) 0 [] (locals_of (nth code.functions f) args) (frame b p st L to_validation ∷ fr) doing s in
        let G : Lands Value = λ answer s1 c1. (c1 ≡ here (answered answer s1)) × Clear s1 in
        let r = call (is_inside doing) f args s in
        let q = quietly (Function f) args tt in
        let law = (quiet (Function f) args s pure).0 in
        let judge : Value → ActorState → Completion ActorState Value = λ answer s1. judged answer span v s1 in
        before code n h (AtAccepted go v s) Never c inner (bind r judge) (one_to code c inner first)
        (bind_simulates code n h (λ answer s1 c1. (s1 ≡ s) × G answer s1 c1) Never (AtAccepted go v s) Never inner r judge
        (subst (λ x. Simulates code n h (λ answer s1 c1. (s1 ≡ s) × G answer s1 c1) Never inner x) (sym law)
        (in_place code n h G Never inner s q (subst (λ x. Simulates code n h G Never inner x) law (calls f args b p st L fr doing to_validation s (bound_of doing pure) clear))))
        (λ answer s1 c1 g.
        subst (λ x. Simulates code n h (AtAccepted go v s) Never c1 (judge answer x)) (sym g.0)
        (from_configuration code n h (AtAccepted go v s) Never c1 (here (answered answer s)) (judge answer s) (g.1.0 ∙ ap (λ x. here (answered answer x)) g.0) (judged_simulates (Function f) v s go clear at answer))))

    -- A value that is to be written: where the turn at c begins with its validator, if there is one, the machine comes to a turn that
    -- continues with the value. The same instruction looks at each answer.
    pub validated_simulates : (o : Option Callee) (v : Value) (s : ActorState) (c : Configuration) (go : Configuration → Turned Configuration) → OfValidator (IsPure all) o → s.accepted ≡ None → AtHand code c (where_valid code o v span (here s) go) →
        ((answer : Bool) → AtHand code (here (record s { accepted = Some answer })) (where_valid code o v span (here (record s { accepted = Some answer })) go)) →
        Simulates code n (of doing) (AtAccepted go v s) Never c (validated (apply (call (is_inside doing)) span) o span v s)
    validated_simulates None v s c go pure clear first at = (c, (refl, refl, first), stays code c)
    validated_simulates (Some f) v s c go pure clear first at =
        validator_simulates f v s c go pure clear (subst (λ o. AtHand code c (where_accepted code o f v span (here s) go)) clear first) at
