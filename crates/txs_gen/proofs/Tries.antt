-- A transaction, try by try: its body, the commutes at its end, and the commit. What the body does is a parameter.
use Rattle.std.proofs.Common.{◌≡◌, ℕ, zero, suc, ◌+◌, Bool, true, List, [], ◌∷◌, ◌++◌, map, Option, Some, None, refl, sym, ap, ◌∙◌, subst, inr}
use Rattle.txs_world_protocol.specs.Ask.{Writes, buffered, with_write}
use Rattle.txs_frame.specs.Frame.{commuted, set_writes, written, by_ref, phase_work}
use Rattle.txs_frame.specs.Phase.{to_write, with_validation, validations, tasks_of}
use Rattle.txs_frame.specs.declared.frame.Commute.{Commute}
use Rattle.txs_frame.specs.declared.phase.Task.{Task}
use Rattle.txs_frame.specs.declared.phase.Task.TheVariants.{Redoes, Validates}
use Rattle.txs_value_apply.specs.Core.{core}
use Rattle.txs_value_cell.specs.Cells.{Validators, validator_at}
use Rattle.txs_value_data.specs.Places.{nth, fault_at}
use Rattle.txs_value_data.specs.declared.fault.FaultKind.TheVariants.{RetryLimit, AgentFailed}
use Rattle.txs_value_data.specs.declared.fault.Span.{Span}
use Rattle.txs_value_data.specs.declared.op.Callee.{Callee}
use Rattle.txs_value_data.specs.declared.op.Callee.TheVariants.{Core as CoreOp, Function}
use Rattle.txs_value_data.specs.declared.value.CellId.{CellId}
use Rattle.txs_value_data.specs.declared.value.Value.{Value}
use Rattle.txs_value_data.specs.declared.value.Value.TheVariants.{Nil}
use Rattle.txs_tree_meaning.specs.Known.{Known}
use Rattle.txs_tree_meaning.specs.Meaning.{Completion, Completes, Recurs, Faults, Retries, Waits, OutOfTurns, Invalid, bind, Applies, apply}
use Rattle.txs_tree_meaning.specs.Transaction.{value_or, merged, redone, validated, accepted}
use Rattle.txs_code_meaning.specs.ActorState.{ActorState, StepResult, Continue, Break, Redo, Await, Malformed, Verdict, Landed, Outdated, Undone, Denied, step_of, begin, fail, view, commit}
use Rattle.txs_code_meaning.specs.Machine.{PlainInstr, TxBegin, TxEnd, ThreadCode, locals_of, to_commutes, Frame, Savepoint, Activity, Outside, Restarting, Running, Applying, Configuration, Turned, Unfinished, fetch, act, fails_with, rerun, try_more, where_accepted, staying, settles, works, lands, decided, applies, starts, value_or_nil, arguments_of}
use Rattle.txs_theorem_threads.specs.OnReplies.{res, telling, Start, Anew, Behind, concludes, lands_on, if_all_accepted, closing, attempt, retrying, tries}
use Rattle.txs_theorem_threads.proofs.Accepted.{OfValidator, AllValidators, validator_such, accepted_carried}
use Rattle.txs_theorem_threads.proofs.Callees.{IsPure}
use Rattle.txs_theorem_threads.proofs.Quiet.{carried, IsQuiet, bind_carried, bind_quiet, AllCommutes, phase_some, redone_carried}
use Rattle.txs_gen.proofs.Checks.{Rise, numbers, numbers_in, tasks_written, commuted_rise, Values, values_written, Completed, phase_among, redone_numbers}
use Rattle.txs_gen.proofs.Kept.{Kept, KeptStep, KeptAfter, ViewsAll, view_all, begin_asked, fail_asked, view_asked, commit_asked, begin_kept, view_kept, commit_kept}
use Rattle.txs_gen.proofs.Lists.{Holds}
use Rattle.txs_gen.proofs.Steps.{configuration, frame, savepoint, Comes, Handlers, Lands, of, of_try, of_tries, Simulates, Asked, res_step, stays, comes_to, one_to, before, bind_simulates, lands_as, from_configuration, step_simulates, ask_simulates, handled_as, telling_simulates}
use Rattle.txs_gen.proofs.Validated.{Clear, AtValue, Never, AtHand, CallSimulates, acts, validated_simulates}

-- tries are no part that has to run again
abbrev IsRetry : {A : Type 0} → Completion ActorState A → Type 0
IsRetry (Completes a s) = ⊥
IsRetry (Recurs vs s) = ⊥
IsRetry (Faults f s) = ⊥
IsRetry (Retries s) = Unit {0}
IsRetry (Waits s) = ⊥
IsRetry (OutOfTurns s) = ⊥
IsRetry Invalid = ⊥

retrying_ends : (r : Completion ActorState Value) (go : ActorState → Completion ActorState Value) → ((s : ActorState) → IsRetry (go s) → ⊥) → IsRetry (retrying r go) → ⊥
retrying_ends (Completes a s) go h i = i
retrying_ends (Recurs vs s) go h i = i
retrying_ends (Faults f s) go h i = i
retrying_ends (Retries s) go h i = h s i
retrying_ends (Waits s) go h i = i
retrying_ends (OutOfTurns s) go h i = i
retrying_ends Invalid go h i = i

tries_end : (validators : Validators) (k : ℕ) (span : Span) (body : ActorState → Completion ActorState Value) (f : Applies ActorState) (from : Start) (s : ActorState) → IsRetry (tries validators k span body f from s) → ⊥
tries_end validators zero span body f from s i = i
tries_end validators (suc k) span body f from s i =
    retrying_ends (attempt validators from span body f (tries validators k span body f) s) (tries validators k span body f Anew) (λ s1. tries_end validators k span body f Anew s1) i

-- a pure answer is none that has to run again, and leaves the state
carried_ends : {A : Type 0} (s : ActorState) (p : Completion (Unit {0}) A) → IsQuiet p → IsRetry (carried s p) → ⊥
carried_ends s (Completes a u) q i = i
carried_ends s (Recurs vs u) q i = i
carried_ends s (Faults f u) q i = i
carried_ends s (Retries u) q i = q
carried_ends s (Waits u) q i = i
carried_ends s (OutOfTurns u) q i = i
carried_ends s Invalid q i = i

-- it completes in this state
carried_in : {A : Type 0} (s : ActorState) (p : Completion (Unit {0}) A) → Completed (λ a t. t ≡ s) (carried s p)
carried_in s (Completes a u) = refl
carried_in s (Recurs vs u) = tt
carried_in s (Faults f u) = tt
carried_in s (Retries u) = tt
carried_in s (Waits u) = tt
carried_in s (OutOfTurns u) = tt
carried_in s Invalid = tt

-- a pure answer in this state
abbrev Leaves : {A : Type 0} → ActorState → Completion ActorState A → Type 0
Leaves {A} s r = (p : Completion (Unit {0}) A) × (r ≡ carried s p) × IsQuiet p

leaves_in : {A : Type 0} (s : ActorState) (r : Completion ActorState A) → Leaves s r → Completed (λ a t. t ≡ s) r
leaves_in s r h = subst (Completed (λ a t. t ≡ s)) (sym h.1) (carried_in s h.0)

leaves_ends : {A : Type 0} (s : ActorState) (r : Completion ActorState A) → Leaves s r → IsRetry r → ⊥
leaves_ends s r h i = carried_ends s h.0 h.2 (subst IsRetry h.1 i)

-- what holds where a part completes holds where it lands
also : {A : Type 0} (code : ThreadCode) (n : ℕ) (h : Handlers) (G : Lands A) (R : Lands (List Value)) (c : Configuration) (F : A → ActorState → Type 0) (r : Completion ActorState A) → Completed F r → Simulates code n h G R c r → Simulates code n h (λ a s c1. F a s × G a s c1) R c r
also code n h G R c F (Completes a s) f r = (r.0, (f, r.1), r.2)
also code n h G R c F (Recurs vs s) f r = r
also code n h G R c F (Faults x s) f r = r
also code n h G R c F (Retries s) f r = r
also code n h G R c F (Waits s) f r = r
also code n h G R c F (OutOfTurns s) f r = r
also code n h G R c F Invalid f r = tt

-- ---- no validator's answer is left where a transaction has to run again

abbrev Again : {A : Type 0} → Completion ActorState A → Type 0
Again (Completes a s) = Unit {0}
Again (Recurs vs s) = Unit {0}
Again (Faults f s) = Unit {0}
Again (Retries s) = s.accepted ≡ None
Again (Waits s) = Unit {0}
Again (OutOfTurns s) = Unit {0}
Again Invalid = Unit {0}

never_again : {A : Type 0} (r : Completion ActorState A) → (IsRetry r → ⊥) → Again r
never_again (Completes a s) h = tt
never_again (Recurs vs s) h = tt
never_again (Faults f s) h = tt
never_again (Retries s) h = absurd (h tt)
never_again (Waits s) h = tt
never_again (OutOfTurns s) h = tt
never_again Invalid h = tt

kept_again : (P : Callee → Type 0) (r : Completion ActorState Value) → KeptAfter P r → Again r
kept_again P (Completes a s) h = tt
kept_again P (Recurs vs s) h = tt
kept_again P (Faults f s) h = tt
kept_again P (Retries s) h = h
kept_again P (Waits s) h = tt
kept_again P (OutOfTurns s) h = tt
kept_again P Invalid h = tt

asked_again : {A B : Type 0} (x : StepResult A) (go : A → ActorState → Completion ActorState B) → Asked x → ((a : A) (s : ActorState) → x ≡ Continue a s → Again (go a s)) → Again (bind (res x) go)
asked_again (Continue a s) go h k = k a s refl
asked_again (Break f s) go h k = absurd h
asked_again (Redo s) go h k = absurd h
asked_again (Await s) go h k = tt
asked_again Malformed go h k = tt

telling_again : {A : Type 0} (ask : ActorState → StepResult (Unit {0})) (r : Completion ActorState A) (go : A → ActorState → Completion ActorState Value) → ((s : ActorState) → Asked (ask s)) → Again r → ((a : A) (s : ActorState) → r ≡ Completes a s → Again (go a s)) → Again (telling ask r go)
telling_again ask (Completes a s) go w h k = k a s refl
telling_again ask (Recurs vs s) go w h k = tt
telling_again ask (Faults f s) go w h k = asked_again (ask s) (λ u s1. Faults f s1) (w s) (λ u s1 e. tt)
telling_again ask (Retries s) go w h k = h
telling_again ask (Waits s) go w h k = tt
telling_again ask (OutOfTurns s) go w h k = tt
telling_again ask Invalid go w h k = tt

-- ---- lists that differ

abbrev IsEmpty : List ℕ → Type 0
IsEmpty [] = Unit {0}
IsEmpty (k ∷ ks) = ⊥

abbrev first_or : ℕ → List ℕ → ℕ
first_or k [] = k
first_or k (n ∷ ns) = n

abbrev behind_first : List ℕ → List ℕ
behind_first [] = []
behind_first (n ∷ ns) = ns

value_or_same : (o : Option Value) → value_or_nil o ≡ value_or o Nil
value_or_same None = refl
value_or_same (Some v) = refl

module _ (code : ThreadCode) (n : ℕ) (all : List Known) (call : Bool → ℕ → List Value → ActorState → Completion ActorState Value) (calls : CallSimulates code n all call) (b : ℕ) (fr : List Frame) where
  -- what the instruction at hand comes to
  at_hand : (c : Configuration) (i : PlainInstr) (t : Turned Configuration) → fetch code c.body c.place ≡ Some i → act code (Some i) c ≡ t → AtHand code c t
  at_hand c i t at e = acts code n all call calls b fr c i t at e

  module _ (span : Span) (pc q : ℕ) (st env L : List Value) (R : Lands (List Value)) (body : ActorState → Completion ActorState Value) (at_begin : fetch code b pc ≡ Some (TxBegin span)) (at_end : fetch code b q ≡ Some TxEnd)
      (quietly : Applies (Unit {0})) (quiet : (c : Callee) (vs : List Value) (s : ActorState) → IsPure all c → (apply (call true) span c vs s ≡ carried s (quietly c vs tt)) × IsQuiet (quietly c vs tt)) (valid : AllValidators (IsPure all) code.validators)
      (body_simulates : (k : ℕ) (s : ActorState) → s.accepted ≡ None → Simulates code n (of (Running k 0 (savepoint span b pc st L fr))) (AtValue b q st env fr (Running k 0 (savepoint span b pc st L fr))) Never (configuration b (pc + 1) st L fr (Running k 0 (savepoint span b pc st L fr)) s) (body s))
      (body_kept : (s : ActorState) → Kept (IsPure all) s → KeptAfter (IsPure all) (body s)) where
    -- where the transaction begins
    abbrev start : Savepoint
    start = savepoint span b pc st L fr

    -- at the transaction's end, with its body's value
    abbrev ending : Activity → Value → List Value → ActorState → Configuration
    ending doing v L1 s = configuration b q (v ∷ st) L1 fr doing s

    -- behind the transaction
    abbrev Behind_it : Lands Value
    Behind_it = AtValue b (q + 1) st env fr Outside

    abbrev at_once : Applies ActorState
    at_once = apply (call true) span

    -- what is done with faults while the tasks of the end are done
    abbrev at_tasks : ℕ → Handlers
    at_tasks k = of (Applying k start [] [])

    -- ---- the commutes of the end

    -- one commute: an operation at once, a function in turns of its own
    commute_simulates : (k : ℕ) (v : Value) (L1 : List Value) (c : Commute) (work : List Task) (values : Writes) (s : ActorState) (callee : Callee) → IsPure all callee → s.accepted ≡ None →
        AtHand code (ending (Applying k start (Redoes c ∷ work) values) v L1 s) (applies code callee k start c work values (ending (Applying k start (Redoes c ∷ work) values) v L1 s)) →
        Simulates code n (of (Applying k start (Redoes c ∷ work) values)) (λ w s1 c1. c1 ≡ ending (Applying k start work (with_write values c.cell w)) v L1 s1) Never (ending (Applying k start (Redoes c ∷ work) values) v L1 s) (at_once callee (arguments_of c values) s)
    commute_simulates k v L1 c work values s (CoreOp op) pure clear go =
        let doing = Applying k start (Redoes c ∷ work) values in
        let here = ending doing v L1 s in
        let G : Lands Value = λ w s1 c1. c1 ≡ ending (Applying k start work (with_write values c.cell w)) v L1 s1 in
        subst (λ r. Simulates code n (of doing) G Never here r) (res_step (core op (arguments_of c values)) span s)
        (step_simulates code n doing G Never here (step_of (core op (arguments_of c values)) span s) (λ w s1. ending (Applying k start work (with_write values c.cell w)) v L1 s1) go (λ w s1. refl))
    commute_simulates k v L1 c work values s (Function f) pure clear go =
        let doing = Applying k start (Redoes c ∷ work) values in
        let here = ending doing v L1 s in
        let args = arguments_of c values in
        let G : Lands Value = λ w s1 c1. c1 ≡ ending (Applying k start work (with_write values c.cell w)) v L1 s1 in
        let inner = configuration (suc f) 0 [] (locals_of (nth code.functions f) args) (frame b q (v ∷ st) L1 to_commutes ∷ fr) doing s in
        before code n (of doing) G Never here inner (call true f args s) (one_to code here inner go)
        (lands_as code n (of doing) (λ w s1 c1. (c1 ≡ ending (Applying k start work (with_write values c.cell w)) v L1 s1) × Clear s1) Never G inner (call true f args s)
        (calls f args b q (v ∷ st) L1 fr doing to_commutes s pure clear) (λ w s1 c1 g. g.0))

    -- all commutes that are left, before other tasks
    commutes_simulate : (k : ℕ) (v : Value) (L1 : List Value) (checks : List Task) (work : List Commute) (values : Writes) (s : ActorState) → AllCommutes (IsPure all) work → s.accepted ≡ None →
        Simulates code n (at_tasks k) (λ ws s1 c1. (s1 ≡ s) × (c1 ≡ ending (Applying k start checks ws) v L1 s)) Never (ending (Applying k start (map Redoes work ++ checks) values) v L1 s) (redone at_once work values s)
    commutes_simulate k v L1 checks [] values s pure clear = (ending (Applying k start checks values) v L1 s, (refl, refl), stays code (ending (Applying k start checks values) v L1 s))
    commutes_simulate k v L1 checks (c ∷ work) values s pure clear =
        let h = at_tasks k in
        let rest = map Redoes work ++ checks in
        let here = ending (Applying k start (Redoes c ∷ rest) values) v L1 s in
        let after : Value → ActorState → Configuration = λ w s1. ending (Applying k start rest (with_write values c.cell w)) v L1 s1 in
        let G1 : Lands Value = λ w s1 c1. c1 ≡ after w s1 in
        let G : Lands Writes = λ ws s1 c1. (s1 ≡ s) × (c1 ≡ ending (Applying k start checks ws) v L1 s) in
        let next : Value → ActorState → Completion ActorState Writes = λ w s1. redone at_once work (with_write values c.cell w) s1 in
        let args = value_or (buffered values c.cell.number) Nil ∷ c.args in
        let law = quiet c.callee args s pure.0 in
        let one : Simulates code n h G1 Never here (at_once c.callee args s) =
        subst (λ x. Simulates code n h G1 Never here (at_once c.callee (x ∷ c.args) s)) (value_or_same (buffered values c.cell.number))
        (commute_simulates k v L1 c rest values s c.callee pure.0 clear (at_hand here TxEnd (applies code c.callee k start c rest values here) at_end refl)) in
        bind_simulates code n h (λ w s1 c1. (s1 ≡ s) × (c1 ≡ after w s1)) Never G Never here (at_once c.callee args s) next
        (also code n h G1 Never here (λ w s1. s1 ≡ s) (at_once c.callee args s) (leaves_in s (at_once c.callee args s) (quietly c.callee args tt, law.0, law.1)) one)
        (λ w s1 c1 g.
        subst (λ t. Simulates code n h G Never c1 (next w t)) (sym g.0)
        (from_configuration code n h G Never c1 (after w s) (next w s) (g.1 ∙ ap (after w) g.0) (commutes_simulate k v L1 checks work (with_write values c.cell w) s pure.1 clear)))

    -- ---- the validators of the end

    -- the commit comes next, with these values of the refs that were commuted and not set
    abbrev AtCommit : ℕ → Value → List Value → ActorState → Writes → ActorState → Configuration → Type 0
    AtCommit k v L1 s xs s1 c1 = (s1 ≡ s) × (doing : Activity) × AtHand code c1 (lands k start xs (ending doing v L1 s))

    -- a write that its ref's validator looks at, if there is one, and what follows
    check_simulates : (k : ℕ) (v : Value) (L1 : List Value) (xs : Writes) (s : ActorState) → s.accepted ≡ None → (d : CellId) (work : List Task) (y : Value) (next : ActorState → Completion ActorState (Unit {0})) → to_write xs s.done d.number ≡ y →
        ((doing : Activity) (c : Configuration) → AtHand code c (works code k start work xs (ending doing v L1 s)) → Simulates code n (at_tasks k) (λ u s1 c1. AtCommit k v L1 s xs s1 c1) Never c (next s)) →
        (o : Option Callee) → OfValidator (IsPure all) o → (doing : Activity) (c : Configuration) → AtHand code c (works code k start (with_validation d o work) xs (ending doing v L1 s)) →
        Simulates code n (at_tasks k) (λ u s1 c1. AtCommit k v L1 s xs s1 c1) Never c (bind (validated at_once o span y s) (λ w s1. next s1))
    check_simulates k v L1 xs s clear d work y next same rest None pure doing c at = rest doing c at
    check_simulates k v L1 xs s clear d work y next same rest (Some f) pure doing c at =
        let h = at_tasks k in
        let now = Applying k start (Validates d f ∷ work) xs in
        let G : Lands (Unit {0}) = λ u s1 c1. AtCommit k v L1 s xs s1 c1 in
        let go : Configuration → Turned Configuration = λ c1. works code k start work xs (staying (Applying k start work xs) c1.state c1) in
        let here = ending now v L1 s in
        bind_simulates code n h (λ w s1 c1. (w ≡ y) × (s1 ≡ s) × AtHand code c1 (go here)) Never G Never c (validated at_once (Some f) span y s) (λ w s1. next s1)
        (validated_simulates code n all call calls b fr span q (v ∷ st) L1 now quietly quiet (Some f) y s c go pure clear
        (subst (λ x. AtHand code c (where_accepted code s.accepted f x span here go)) same at)
        (λ answer.
        let there = ending now v L1 (record s { accepted = Some answer }) in
        at_hand there TxEnd (where_accepted code (Some answer) f y span there go) at_end (ap (λ x. where_accepted code (Some answer) f x span there go) same)))
        (λ w s1 c1 g. subst (λ t. Simulates code n h G Never c1 (next t)) (sym g.1) (rest (Applying k start work xs) c1 g.2))

    -- each write is accepted by its ref's validator
    checks_simulate : (k : ℕ) (v : Value) (L1 : List Value) (xs : Writes) (s : ActorState) → s.accepted ≡ None → (cs : List CellId) (ys : Writes) → numbers cs ≡ numbers_in ys → Values (to_write xs s.done) ys → (doing : Activity) (c : Configuration) →
        AtHand code c (works code k start (validations code.validators cs) xs (ending doing v L1 s)) → Simulates code n (at_tasks k) (λ u s1 c1. AtCommit k v L1 s xs s1 c1) Never c (accepted at_once code.validators span ys s)
    checks_simulate k v L1 xs s clear [] [] e h doing c at = (c, (refl, doing, at), stays code c)
    checks_simulate k v L1 xs s clear [] (y ∷ ys) e h doing c at = absurd (subst IsEmpty e tt)
    checks_simulate k v L1 xs s clear (d ∷ cs) [] e h doing c at = absurd (subst IsEmpty (sym e) tt)
    checks_simulate k v L1 xs s clear (d ∷ cs) (y ∷ ys) e h doing c at =
        let work = validations code.validators cs in
        let same : d.number ≡ y.0.number = ap (first_or 0) e in
        check_simulates k v L1 xs s clear d work y.1 (λ s1. accepted at_once code.validators span ys s1) (ap (to_write xs s.done) same ∙ h.0)
        (λ doing1 c1 at1. checks_simulate k v L1 xs s clear cs ys (ap behind_first e) h.1 doing1 c1 at1)
        (validator_at code.validators y.0.number) (validator_such (IsPure all) code.validators y.0.number valid) doing c
        (subst (λ m. AtHand code c (works code k start (with_validation d (validator_at code.validators m) work) xs (ending doing v L1 s))) same at)

    -- all that the transaction writes, where the refs that were commuted and not set have these values
    writes_simulate : (k : ℕ) (v : Value) (L1 : List Value) (xs : Writes) (s : ActorState) → Kept (IsPure all) s → numbers_in xs ≡ numbers (commuted s.done) → (doing : Activity) (c : Configuration) →
        AtHand code c (works code k start (validations code.validators (written s.done)) xs (ending doing v L1 s)) → Simulates code n (at_tasks k) (AtCommit k v L1 s) Never c (if_all_accepted code.validators span at_once xs s)
    writes_simulate k v L1 xs s kept e doing c at =
        let ys = merged (set_writes s.done) xs in
        bind_simulates code n (at_tasks k) (λ u s1 c1. AtCommit k v L1 s xs s1 c1) Never (AtCommit k v L1 s) Never c (accepted at_once code.validators span ys s) (λ u s1. Completes xs s1)
        (checks_simulate k v L1 xs s kept.2 (written s.done) ys (tasks_written s.done xs e) (values_written s.done xs kept.3 (subst (Rise 0) (sym e) (commuted_rise s.done))) doing c at)
        (λ u s1 c1 g. (c1, g, stays code c1))

    -- the commutes of the end, and then its validators
    tasks_simulate : (k : ℕ) (v : Value) (L1 : List Value) (ws : Writes) (s : ActorState) → Kept (IsPure all) s → numbers_in ws ≡ numbers (commuted s.done) →
        Simulates code n (at_tasks k) (AtCommit k v L1 s) Never (ending (Applying k start (tasks_of code.validators s.done) ws) v L1 s) (bind (redone at_once (phase_work s.done) ws s) (λ xs s1. if_all_accepted code.validators span at_once xs s1))
    tasks_simulate k v L1 ws s kept e =
        let h = at_tasks k in
        let work = phase_work s.done in
        let checks = validations code.validators (written s.done) in
        let ns = numbers (commuted s.done) in
        let here = ending (Applying k start (tasks_of code.validators s.done) ws) v L1 s in
        let G : Lands Writes = λ xs s1 c1. (s1 ≡ s) × (c1 ≡ ending (Applying k start checks xs) v L1 s) in
        let next : Writes → ActorState → Completion ActorState Writes = λ xs s1. if_all_accepted code.validators span at_once xs s1 in
        bind_simulates code n h (λ xs s1 c1. (numbers_in xs ≡ ns) × G xs s1 c1) Never (AtCommit k v L1 s) Never here (redone at_once work ws s) next
        (also code n h G Never here (λ xs s1. numbers_in xs ≡ ns) (redone at_once work ws s) (redone_numbers ns (commuted_rise s.done) at_once work (phase_among s.done) ws e s) (commutes_simulate k v L1 checks work ws s (phase_some (IsPure all) s.done kept.0) kept.2))
        (λ xs s1 c1 g.
        let there = ending (Applying k start checks xs) v L1 s in
        subst (λ t. Simulates code n h (AtCommit k v L1 s) Never c1 (next xs t)) (sym g.1.0)
        (from_configuration code n h (AtCommit k v L1 s) Never c1 there (next xs s) g.1.1 (writes_simulate k v L1 xs s kept g.0 (Applying k start checks xs) there (at_hand there TxEnd (works code k start checks xs there) at_end refl))))

    -- ---- tasks change nothing

    writes_leave : (s : ActorState) (xs : Writes) → Leaves s (if_all_accepted code.validators span at_once xs s)
    writes_leave s xs =
        let ys = merged (set_writes s.done) xs in
        let one = accepted_carried (IsPure all) s at_once quietly (λ d us p. quiet d us s p) code.validators valid span ys in
        let p = accepted quietly code.validators span ys tt in (
          bind p (λ u t. Completes xs t),
          ap (λ x. bind x (λ u s1. Completes xs s1)) one.0 ∙ bind_carried s p (λ u s1. Completes xs s1) (λ u t. Completes xs t) (λ u. refl),
          bind_quiet p (λ u t. Completes xs t) one.1 (λ u. tt),
        )

    tasks_leave : (s : ActorState) (ws : Writes) → Kept (IsPure all) s → Leaves s (bind (redone at_once (phase_work s.done) ws s) (λ xs s1. if_all_accepted code.validators span at_once xs s1))
    tasks_leave s ws kept =
        let work = phase_work s.done in
        let next : Writes → ActorState → Completion ActorState Writes = λ xs s1. if_all_accepted code.validators span at_once xs s1 in
        let on : Writes → Unit {0} → Completion (Unit {0}) Writes = λ xs u. (writes_leave s xs).0 in
        let one = redone_carried (IsPure all) s at_once quietly (λ d us p. quiet d us s p) work (phase_some (IsPure all) s.done kept.0) ws in
        let p = redone quietly work ws tt in (
          bind p on,
          ap (λ x. bind x next) one.0 ∙ bind_carried s p next on (λ xs. (writes_leave s xs).1),
          bind_quiet p on one.1 (λ xs. (writes_leave s xs).2),
        )

    -- ---- a try that has to run again

    concludes_again : (k : ℕ) (v : Value) (s : ActorState) (d : Verdict) → s.accepted ≡ None → Again (concludes d span v (tries code.validators k span body at_once) s)
    concludes_again k v s Landed clear = tt
    concludes_again k v s Outdated clear = never_again (tries code.validators k span body at_once (Behind v) s) (tries_end code.validators k span body at_once (Behind v) s)
    concludes_again k v s Undone clear = clear
    concludes_again k v s Denied clear = tt

    lands_again : (k : ℕ) (v : Value) (ws : Writes) (s : ActorState) → Kept (IsPure all) s → Again (lands_on span v (tries code.validators k span body at_once) ws s)
    lands_again k v ws s kept =
        asked_again (commit ws s) (λ d s1. concludes d span v (tries code.validators k span body at_once) s1) (commit_asked ws s)
        (λ d s1 e. let kept1 : Kept (IsPure all) s1 = subst (KeptStep (IsPure all)) e (commit_kept (IsPure all) ws s kept) in concludes_again k v s1 d kept1.2)

    -- tasks, and then the commit
    tasks_again : (k : ℕ) (v : Value) (s : ActorState) → Kept (IsPure all) s → (r : Completion ActorState Writes) → Leaves s r → Again (telling fail r (λ xs s1. lands_on span v (tries code.validators k span body at_once) xs s1))
    tasks_again k v s kept r leaves =
        telling_again fail r (λ xs s1. lands_on span v (tries code.validators k span body at_once) xs s1) fail_asked (never_again r (leaves_ends s r leaves))
        (λ xs s1 e.
        let same : s1 ≡ s = subst (Completed (λ a t. t ≡ s)) e (leaves_in s r leaves) in
        lands_again k v xs s1 (subst (Kept (IsPure all)) (sym same) kept))

    closing_again : (k : ℕ) (cs : List CellId) (v : Value) (s : ActorState) → Kept (IsPure all) s → Again (closing code.validators cs span at_once v (tries code.validators k span body at_once) s)
    closing_again k [] v s kept = tasks_again k v s kept (if_all_accepted code.validators span at_once [] s) (writes_leave s [])
    closing_again k (c ∷ cs) v s kept =
        asked_again (view s) (λ ws s1. telling fail (bind (redone at_once (phase_work s1.done) ws s1) (λ xs s2. if_all_accepted code.validators span at_once xs s2)) (λ xs s2. lands_on span v (tries code.validators k span body at_once) xs s2)) (view_asked s)
        (λ ws s1 e.
        let kept1 : Kept (IsPure all) s1 = subst (KeptStep (IsPure all)) e (view_kept (IsPure all) s kept) in
        tasks_again k v s1 kept1 (bind (redone at_once (phase_work s1.done) ws s1) (λ xs s2. if_all_accepted code.validators span at_once xs s2)) (tasks_leave s1 ws kept1))

    -- ---- what comes after a try

    -- where so many tries are left, a try that has to run again is followed by those, and so is one whose commutes alone are redone
    record After (k : ℕ) : Type 0 where
      anew : (c : Configuration) (s : ActorState) → s.accepted ≡ None → Comes code c (rerun k start s) → Simulates code n of_tries Behind_it R c (tries code.validators k span body at_once Anew s)
      behind : (c : Configuration) (v : Value) (L1 : List Value) (s : ActorState) → Holds env L1 → Kept (IsPure all) s → Comes code c (try_more k start s (λ j. ending (Running j 0 start) v L1 s)) → Simulates code n of_tries Behind_it R c (tries code.validators k span body at_once (Behind v) s)

    -- after the commit's answer
    decided_simulates : (k : ℕ) → After k → (c : Configuration) (doing : Activity) (v : Value) (L1 : List Value) (s0 s : ActorState) (d : Verdict) → Holds env L1 → Kept (IsPure all) s → Comes code c (decided d k start (ending doing v L1 s0) s) →
        Simulates code n (of_try k start) Behind_it R c (concludes d span v (tries code.validators k span body at_once) s)
    decided_simulates k after c doing v L1 s0 s Landed h kept r = (configuration b (q + 1) (v ∷ st) L1 fr Outside s, (L1, h, refl, kept.2), comes_to code c (configuration b (q + 1) (v ∷ st) L1 fr Outside s) r)
    decided_simulates k after c doing v L1 s0 s Outdated h kept r =
        handled_as code n of_tries (of_try k start) Behind_it R c (tries code.validators k span body at_once (Behind v) s) (λ f s1 t e. e)
        (λ s1 e. absurd (tries_end code.validators k span body at_once (Behind v) s (subst IsRetry (sym e) tt)))
        (after.behind c v L1 s h kept r)
    decided_simulates k after c doing v L1 s0 s Undone h kept r = r
    decided_simulates k after c doing v L1 s0 s Denied h kept r = (fails_with s.acting (fault_at AgentFailed span) s, refl, r)

    -- the commit, which the turn here makes
    lands_simulates : (k : ℕ) → After k → (here : Configuration) (doing : Activity) (v : Value) (L1 : List Value) (s : ActorState) (values : Writes) → Holds env L1 → Kept (IsPure all) s → AtHand code here (lands k start values (ending doing v L1 s)) →
        Simulates code n (of_try k start) Behind_it R here (lands_on span v (tries code.validators k span body at_once) values s)
    lands_simulates k after here doing v L1 s values h kept go =
        ask_simulates code n doing (of_try k start) Behind_it R here (commit values s) (λ d s1. decided d k start (ending doing v L1 s) s1) (λ d s1. concludes d span v (tries code.validators k span body at_once) s1) (commit_asked values s) go
        (λ d s1 e r. decided_simulates k after here doing v L1 s s1 d h (subst (KeptStep (IsPure all)) e (commit_kept (IsPure all) values s kept)) r)

    -- tasks of the end, which begin here, and then the commit
    settled_simulates : (k : ℕ) → After k → (v : Value) (L1 : List Value) (s : ActorState) → Holds env L1 → Kept (IsPure all) s → (c : Configuration) (r : Completion ActorState Writes) → Leaves s r → Simulates code n (at_tasks k) (AtCommit k v L1 s) Never c r →
        Simulates code n (of_try k start) Behind_it R c (telling fail r (λ xs s1. lands_on span v (tries code.validators k span body at_once) xs s1))
    settled_simulates k after v L1 s h kept c r leaves tasks =
        let land : Writes → ActorState → Completion ActorState Value = λ xs s1. lands_on span v (tries code.validators k span body at_once) xs s1 in
        telling_simulates code n (at_tasks k) (of_try k start) (AtCommit k v L1 s) Never Behind_it R c fail r land fail_asked (λ f s1 t e. e) (λ f s1 t e. e)
        (λ s1 w. absurd (leaves_ends s r leaves (subst IsRetry (sym w) tt))) tasks
        (λ xs s1 c1 w g. subst (λ t. Simulates code n (of_try k start) Behind_it R c1 (land xs t)) (sym g.0) (lands_simulates k after c1 g.1 v L1 s xs h kept g.2))

    -- the end of the body
    closing_simulates : (k : ℕ) → After k → (cs : List CellId) (v : Value) (L1 : List Value) (s : ActorState) → commuted s.done ≡ cs → Holds env L1 → Kept (IsPure all) s → AtHand code (ending (Running k 0 start) v L1 s) (settles code cs k start (ending (Running k 0 start) v L1 s)) →
        Simulates code n (of_try k start) Behind_it R (ending (Running k 0 start) v L1 s) (closing code.validators cs span at_once v (tries code.validators k span body at_once) s)
    closing_simulates k after [] v L1 s e h kept go =
        let here = ending (Running k 0 start) v L1 s in
        let checks = validations code.validators (written s.done) in
        settled_simulates k after v L1 s h kept here (if_all_accepted code.validators span at_once [] s) (writes_leave s [])
        (writes_simulate k v L1 [] s kept (sym (ap numbers e)) (Running k 0 start) here
        (subst (λ tasks. AtHand code here (works code k start tasks [] here)) (ap (λ ds. map Redoes (by_ref ds s.done.commutes) ++ checks) e) go))
    closing_simulates k after (c ∷ cs) v L1 s e h kept go =
        let here = ending (Running k 0 start) v L1 s in
        let next : Writes → ActorState → Configuration = λ ws s1. ending (Applying k start (tasks_of code.validators s1.done) ws) v L1 s1 in
        let tasks : Writes → ActorState → Completion ActorState Writes = λ ws s1. bind (redone at_once (phase_work s1.done) ws s1) (λ xs s2. if_all_accepted code.validators span at_once xs s2) in
        let land : Writes → ActorState → Completion ActorState Value = λ xs s2. lands_on span v (tries code.validators k span body at_once) xs s2 in
        ask_simulates code n (Running k 0 start) (of_try k start) Behind_it R here (view s) (λ ws s1. Unfinished (next ws s1)) (λ ws s1. telling fail (tasks ws s1) land) (view_asked s) go
        (λ ws s1 e1 r.
        let kept1 : Kept (IsPure all) s1 = subst (KeptStep (IsPure all)) e1 (view_kept (IsPure all) s kept) in
        before code n (of_try k start) Behind_it R here (next ws s1) (telling fail (tasks ws s1) land) (comes_to code here (next ws s1) r)
        (settled_simulates k after v L1 s1 h kept1 (next ws s1) (tasks ws s1) (tasks_leave s1 ws kept1) (tasks_simulate k v L1 ws s1 kept1 (subst ViewsAll e1 (view_all s)))))

    -- ---- tries

    retrying_simulates : (k : ℕ) → After k → (c : Configuration) (r : Completion ActorState Value) → Again r → Simulates code n (of_try k start) Behind_it R c r → Simulates code n of_tries Behind_it R c (retrying r (tries code.validators k span body at_once Anew))
    retrying_simulates k after c (Completes v s) again r = r
    retrying_simulates k after c (Recurs vs s) again r = tt
    retrying_simulates k after c (Faults f s) again r = r
    retrying_simulates k after c (Retries s) again r = after.anew c s again r
    retrying_simulates k after c (Waits s) again r = r
    retrying_simulates k after c (OutOfTurns s) again r = r
    retrying_simulates k after c Invalid again r = tt

    -- a try from its beginning on
    anew_simulates : (k : ℕ) → After k → (doing : Activity) (s : ActorState) → s.accepted ≡ None → AtHand code (configuration b pc st L fr doing s) (starts k span (configuration b pc st L fr doing s)) →
        Simulates code n of_tries Behind_it R (configuration b pc st L fr doing s) (tries code.validators (suc k) span body at_once Anew s)
    anew_simulates k after doing s clear go =
        let here = configuration b pc st L fr doing s in
        let next : ActorState → Configuration = λ s1. configuration b (pc + 1) st L fr (Running k 0 start) s1 in
        let close : Value → ActorState → Completion ActorState Value = λ v s2. closing code.validators (commuted s2.done) span at_once v (tries code.validators k span body at_once) s2 in
        let begun : (u : Unit {0}) (s1 : ActorState) → begin s ≡ Continue u s1 → Kept (IsPure all) s1 = λ u s1 e. subst (KeptStep (IsPure all)) e (begin_kept (IsPure all) s clear) in
        retrying_simulates k after here (attempt code.validators Anew span body at_once (tries code.validators k span body at_once) s)
        (asked_again (begin s) (λ u s1. telling fail (body s1) close) (begin_asked s)
        (λ u s1 e. telling_again fail (body s1) close fail_asked (kept_again (IsPure all) (body s1) (body_kept s1 (begun u s1 e)))
        (λ v s2 w. closing_again k (commuted s2.done) v s2 (subst (KeptAfter (IsPure all)) w (body_kept s1 (begun u s1 e))))))
        (ask_simulates code n doing (of_try k start) Behind_it R here (begin s) (λ u s1. Unfinished (next s1)) (λ u s1. telling fail (body s1) close) (begin_asked s) go
        (λ u s1 e r.
        let kept = begun u s1 e in
        before code n (of_try k start) Behind_it R here (next s1) (telling fail (body s1) close) (comes_to code here (next s1) r)
        (telling_simulates code n (of (Running k 0 start)) (of_try k start) (AtValue b q st env fr (Running k 0 start)) Never Behind_it R (next s1) fail (body s1) close fail_asked (λ f s2 t e. e) (λ f s2 t e. e) (λ s2 w. refl)
        (body_simulates k s1 kept.2)
        (λ v s2 c2 w g.
        let there = ending (Running k 0 start) v g.0 s2 in
        from_configuration code n (of_try k start) Behind_it R c2 there (close v s2) g.2
        (closing_simulates k after (commuted s2.done) v g.0 s2 refl g.1 (subst (KeptAfter (IsPure all)) w (body_kept s1 kept)) (at_hand there TxEnd (settles code (commuted s2.done) k start there) at_end refl))))))

    -- a try whose commutes alone are redone
    behind_simulates : (k : ℕ) → After k → (v : Value) (L1 : List Value) (s : ActorState) → Holds env L1 → Kept (IsPure all) s →
        Simulates code n of_tries Behind_it R (ending (Running k 0 start) v L1 s) (tries code.validators (suc k) span body at_once (Behind v) s)
    behind_simulates k after v L1 s h kept =
        let here = ending (Running k 0 start) v L1 s in
        retrying_simulates k after here (attempt code.validators (Behind v) span body at_once (tries code.validators k span body at_once) s) (closing_again k (commuted s.done) v s kept)
        (closing_simulates k after (commuted s.done) v L1 s refl h kept (at_hand here TxEnd (settles code (commuted s.done) k start here) at_end refl))

    after_all : (k : ℕ) → After k
    after_all zero = record {
      anew = λ c s clear r. (fails_with s.acting (fault_at RetryLimit span) s, refl, r);
      behind = λ c v L1 s h kept r. (fails_with s.acting (fault_at RetryLimit span) s, refl, r);
    }
    after_all (suc k) = record {
      anew = λ c s clear r.
          let here = configuration b pc st L fr (Restarting k) s in
          before code n of_tries Behind_it R c here (tries code.validators (suc k) span body at_once Anew s) (comes_to code c here r)
          (anew_simulates k (after_all k) (Restarting k) s clear (at_hand here (TxBegin span) (starts k span here) at_begin refl));
      behind = λ c v L1 s h kept r.
          let here = ending (Running k 0 start) v L1 s in
          before code n of_tries Behind_it R c here (tries code.validators (suc k) span body at_once (Behind v) s) (comes_to code c here r) (behind_simulates k (after_all k) v L1 s h kept);
    }

    -- all tries
    pub tries_simulate : (k : ℕ) (s : ActorState) → s.accepted ≡ None → AtHand code (configuration b pc st L fr Outside s) (starts k span (configuration b pc st L fr Outside s)) →
        Simulates code n (of Outside) Behind_it R (configuration b pc st L fr Outside s) (tries code.validators (suc k) span body at_once Anew s)
    tries_simulate k s clear go =
        let here = configuration b pc st L fr Outside s in
        handled_as code n of_tries (of Outside) Behind_it R here (tries code.validators (suc k) span body at_once Anew s) (λ f s1 t e. inr e) (λ s1 e. refl) (anew_simulates k (after_all k) Outside s clear go)
