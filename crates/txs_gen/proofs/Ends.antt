-- Whole runs, in both directions.
use Rattle.std.proofs.Common.{◌≡◌, ℕ, ◌+◌, ◌≤◌, false, List, [], ◌∷◌, ◌++◌, length, Some, None, refl, sym, ap, ◌∙◌, subst, arith, ⊎_elim}
use Rattle.std.proofs.lemmas.Bool.{cases_lt}
use Rattle.txs_world_protocol.specs.Ask.{Exchange}
use Rattle.txs_value_data.specs.declared.value.Value.{Value}
use Rattle.txs_tree_meaning.specs.Known.{known}
use Rattle.txs_tree_meaning.specs.Meaning.{Completion, Completes, Recurs, Faults, Retries, Waits, OutOfTurns, Invalid, eval, call_at}
use Rattle.txs_tree_meaning.specs.Sound.{SoundSource, in_thread}
use Rattle.txs_tree_meaning.specs.Tree.{ThreadSource}
use Rattle.txs_code_meaning.specs.ActorState.{ActorState}
use Rattle.txs_code_meaning.specs.Machine.{Halt, locals_of, Outside, Outcome, Ended, Failed, Asking, Unfinished, and_then, exec}
use Rattle.txs_code_meaning.specs.Opening.{fresh, opening, target}
use Rattle.txs_theorem_threads.specs.Behaves.{source, IsMeant, HasEnded, outcome_of, IsOver}
use Rattle.txs_theorem_threads.specs.OnReplies.{on_replies}
use Rattle.txs_theorem_threads.proofs.Accepted.{validators_pure}
use Rattle.txs_theorem_threads.proofs.Callees.{callees_in}
use Rattle.txs_theorem_threads.proofs.Longer.{longer}
use Rattle.txs_theorem_threads.proofs.Resting.{EndsRested, HasNone, thread_rests}
use Rattle.txs_gen.specs.Correct.{CodeBehaves}
use Rattle.txs_gen.specs.Gen.{gen, body_code, generated}
use Rattle.txs_gen.proofs.Calls.{stands_from, called_with, calls_simulate}
use Rattle.txs_gen.proofs.Lists.{holds_opening, stands_front, stands_back}
use Rattle.txs_gen.proofs.Simulates.{AtLoop, expression_simulates}
use Rattle.txs_gen.proofs.Steps.{configuration, of, ends_thread, Simulates, step, closed_simulates}
use Rattle.txs_gen.proofs.Validated.{AtValue, Never}
use Rattle.txs_value_cell.specs.Cells.{validators_of}

-- what a run of the thread says of its code
abbrev pub Ends_so : ThreadSource → List Exchange → ℕ → Completion ActorState Value → Type 0
Ends_so p todo n (Completes v s) = (m : ℕ) × (target (generated p) m todo ≡ Ended s)
Ends_so p todo n (Recurs vs s) = Unit {0}
Ends_so p todo n (Faults f s) = (m : ℕ) × (target (generated p) m todo ≡ Failed f s)
Ends_so p todo n (Retries s) = Unit {0}
Ends_so p todo n (Waits s) = (m : ℕ) × (target (generated p) m todo ≡ Asking s)
Ends_so p todo n (OutOfTurns s) = (m : ℕ) × (n ≤ m) × (target (generated p) m todo ≡ Unfinished s)
Ends_so p todo n Invalid = Unit {0}

main_ends : (p : ThreadSource) (todo : List Exchange) (n : ℕ) (r : Completion ActorState Value) → EndsRested HasNone r → Simulates (generated p) n (of Outside) (AtValue 0 (0 + length (gen p.main 0 0 0 0)) [] [] [] Outside) Never (opening (generated p) todo) r → Ends_so p todo n r
main_ends p todo n (Completes v s) e r =
    let code = generated p in
    let is = gen p.main 0 0 0 0 in
    let rear = stands_back code 0 0 is (Halt ∷ []) _ (stands_from code 0 (body_code p.main) refl (is ++ Halt ∷ []) [] refl) in
    let g = r.1 in
    let last = configuration 0 (0 + length is) (v ∷ []) g.0 [] Outside s in
    let a = r.2.by 1 in
    (a.0, a.2 ∙ ap (exec code 1) g.2 ∙ step code last Halt rear.0 0)
main_ends p todo n (Recurs vs s) e r = tt
main_ends p todo n (Faults f s) e r = let a = r.2.by 0 in (a.0, a.2 ∙ ap (λ t. and_then t (exec (generated p) 0)) (ends_thread f s r.0 e r.1))
main_ends p todo n (Retries s) e r = tt
main_ends p todo n (Waits s) e r = r
main_ends p todo n (OutOfTurns s) e r = r
main_ends p todo n Invalid e r = tt

pub ends_so : (p : ThreadSource) → SoundSource p → (todo : List Exchange) (n : ℕ) → Ends_so p todo n (source p n todo)
ends_so p sound todo n =
    let code = generated p in
    let fs = p.functions in
    let all = known fs in
    let bd = length fs in
    let call = call_at (λ d. on_replies (validators_of p.cells)) n fs bd in
    let valid = validators_pure all p.cells sound.cells in
    let called = called_with fs sound.functions (body_code p.main) (validators_of p.cells) valid n bd (calls_simulate fs sound.functions (body_code p.main) (validators_of p.cells) valid n bd) in
    let is = gen p.main 0 0 0 0 in
    let stop = 0 + length is in
    let has = stands_from code 0 (body_code p.main) refl (is ++ Halt ∷ []) [] refl in
    let c = opening (generated p) todo in
    let callees = callees_in all p.main in_thread false 0 None sound.main in
    main_ends p todo n (source p n todo) (thread_rests p sound n todo)
    (closed_simulates code n (of Outside) (AtValue 0 stop [] [] [] Outside) (AtLoop 0 0 [] [] [] Outside) Never c (eval (on_replies (validators_of p.cells)) call n false p.main [] (fresh todo))
    (expression_simulates code n all call called 0 [] all (λ g e. e) p.main Outside [] [] [] (locals_of (Some (body_code p.main)) []) 0 0 0 0 stop (fresh todo) callees tt (stands_front code 0 0 is (Halt ∷ []) _ has) (record { inner = []; within = refl; size = refl; depth = refl }) (holds_opening (Some (body_code p.main)) []) refl))

one_end : (p : ThreadSource) (todo : List Exchange) (m n : ℕ) (o q : Outcome) → IsOver o → IsOver q → target (generated p) m todo ≡ o → target (generated p) n todo ≡ q → o ≡ q
one_end p todo m n o q over_o over_q e f =
    let c = opening (generated p) todo in
    ⊎_elim
    (λ lt. sym (longer (generated p) m n (omega (arith, lt)) c o over_o e) ∙ f)
    (λ le. sym e ∙ longer (generated p) n m le c q over_q f)
    (cases_lt m n)

ended : (p : ThreadSource) (todo : List Exchange) (n : ℕ) (r : Completion ActorState Value) → HasEnded r → Ends_so p todo n r → (m : ℕ) × (target (generated p) m todo ≡ outcome_of r)
ended p todo n (Completes v s) t r = r
ended p todo n (Recurs vs s) t r = absurd t
ended p todo n (Faults f s) t r = r
ended p todo n (Retries s) t r = absurd t
ended p todo n (Waits s) t r = r
ended p todo n (OutOfTurns s) t r = absurd t
ended p todo n Invalid t r = absurd t

meant : (p : ThreadSource) (todo : List Exchange) (m : ℕ) (o : Outcome) (r : Completion ActorState Value) → IsOver o → target (generated p) m todo ≡ o → IsMeant r → Ends_so p todo m r → outcome_of r ≡ o
meant p todo m o (Completes v s) over e t r = sym (one_end p todo m r.0 o (Ended s) over tt e r.1)
meant p todo m o (Recurs vs s) over e t r = absurd t
meant p todo m o (Faults f s) over e t r = sym (one_end p todo m r.0 o (Failed f s) over tt e r.1)
meant p todo m o (Retries s) over e t r = absurd t
meant p todo m o (Waits s) over e t r = sym (one_end p todo m r.0 o (Asking s) over tt e r.1)
meant p todo m o (OutOfTurns s) over e t r =
    absurd (subst IsOver (sym (longer (generated p) m r.0 r.1 (opening (generated p) todo) o over e) ∙ r.2) over)
meant p todo m o Invalid over e t r = absurd t

pub code_behaves : CodeBehaves
code_behaves p sound = record {
  follows = λ todo n t. ended p todo n (source p n todo) t (ends_so p sound todo n);
  goes_on = λ todo n s e. subst (Ends_so p todo n) e (ends_so p sound todo n);
  only = λ todo m o over e t. meant p todo m o (source p m todo) over e t (ends_so p sound todo m);
}
