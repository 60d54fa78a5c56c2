-- The code of functions does what an agent's action means, up to the ask that hands it in.
use Rattle.std.proofs.Common.{◌≡◌, ℕ, suc, ◌≤◌, Bool, true, false, List, [], ◌∷◌, length, Option, Some, None, Result, Ok, Err, refl, sym, ap, ◌∙◌, subst, arith, ◌⊎◌, inl, inr, ⊎_elim, if◌then◌else◌}
use Rattle.std.proofs.lemmas.Bool.{cases_lt, false≢true}
use Rattle.txs_world_protocol.specs.Ask.{Exchange, same_ask}
use Rattle.txs_world_protocol.specs.declared.ask.Ask.{Ask}
use Rattle.txs_world_protocol.specs.declared.ask.Ask.TheVariants.{Finish}
use Rattle.txs_value_apply.specs.Core.{core}
use Rattle.txs_value_data.specs.Places.{nth}
use Rattle.txs_value_data.specs.declared.fault.Fault.{Fault}
use Rattle.txs_value_data.specs.declared.op.Callee.{Callee}
use Rattle.txs_value_data.specs.declared.op.Callee.TheVariants.{Core as CoreOp, Function}
use Rattle.txs_value_cell.specs.Cells.{Validators, validators_of, validator_at}
use Rattle.txs_value_cell.specs.declared.action.Action.{Action}
use Rattle.txs_value_cell.specs.declared.cell.CellDefinition.{CellDefinition}
use Rattle.txs_value_data.specs.declared.value.CellId.{CellId}
use Rattle.txs_value_data.specs.declared.value.Value.{Value}
use Rattle.txs_tree_meaning.specs.Known.{known}
use Rattle.txs_tree_meaning.specs.Meaning.{Completion, Completes, Recurs, Faults, Retries, Waits, OutOfTurns, Invalid, apply, call_at}
use Rattle.txs_tree_meaning.specs.Sound.{SoundFunctions}
use Rattle.txs_tree_meaning.specs.Transaction.{validated}
use Rattle.txs_tree_meaning.specs.Tree.{PlainFunction}
use Rattle.txs_code_meaning.specs.ActorState.{ActorState, InHand, Replied, Unreplied, receives, asks, heard, finish, step_of, taken_back}
use Rattle.txs_code_meaning.specs.Machine.{RunOf, FinishOf, ThreadCode, locals_of, agent_body, agent_code, Outside, Configuration, Turned, Outcome, Ended, Failed, Asking, Unfinished, Stuck, and_then, told, rested, ends_with, fails_with, first_place, hands_in, fault_in, runs_callee, where_valid, to_stack, exec, Library}
use Rattle.txs_code_meaning.specs.PlainCode.{parameters_of, library_of}
use Rattle.txs_theorem_threads.specs.ActionsBehave.{ActionBehaves, applies_on, action_source, handed, IsUnanswered, AsksWith, EndsAs, SoundFollowsAgents}
use Rattle.txs_theorem_threads.specs.Behaves.{IsMeant, HasEnded, IsOver}
use Rattle.txs_theorem_threads.specs.FollowsAgent.{IsBetween, action_target, taken_at}
use Rattle.txs_theorem_threads.specs.OnReplies.{on_replies}
use Rattle.txs_theorem_threads.proofs.Accepted.{AllValidators, validator_such, validators_pure}
use Rattle.txs_theorem_threads.proofs.Callees.{IsPure}
use Rattle.txs_theorem_threads.proofs.Longer.{longer}
use Rattle.txs_theorem_threads.proofs.Quiet.{carried, IsQuiet, quietly, callee_carried}
use Rattle.txs_theorem_threads.proofs.Resting.{EndsRested, IsRun, action_stays, callee_of_action_stays}
use Rattle.txs_gen.specs.Agents.{AgentsFollow, CodeOfActionsBehaves}
use Rattle.txs_gen.specs.Gen.{functions_code}
use Rattle.txs_gen.proofs.Calls.{calls_simulate}
use Rattle.txs_gen.proofs.Clear.{step_clear, step_clears}
use Rattle.txs_gen.proofs.CodesFollow.{functions_are}
use Rattle.txs_gen.proofs.Steps.{configuration, frame, Handlers, Lands, of, Raises, Simulates, res_step, step, one_to, before, bind_simulates, recast, from_configuration}
use Rattle.txs_gen.proofs.Validated.{Clear, Never, AtHand, CallSimulates, AtAccepted, validated_simulates}

-- ---- an ask that isn't answered

-- an action that is handed in waits for its answer
finish_asks : (g : CellId) (new : Result Value Fault) (sends : List Action) (s : ActorState) (go : ActorState → Turned Configuration) (next : Configuration → Outcome) → IsUnanswered (Finish g new sends) s.todo → AsksWith (Finish g new sends) s.todo s.printed (and_then (told (finish g new sends s) go) next)
unfolding finish asks
finish_asks g new sends s go next h = by_list s.todo h
  where
    by_list : (l : List Exchange) → IsUnanswered (Finish g new sends) l → AsksWith (Finish g new sends) s.todo s.printed (and_then (told (heard taken_back (receives (Finish g new sends) s l)) go) next)
    by_list [] u = (refl, refl, refl)
    by_list (x ∷ xs) u = test (same_ask (Finish g new sends) x.ask) u
      where
        test : (b : Bool) → b ≡ false → AsksWith (Finish g new sends) s.todo s.printed (and_then (told (heard taken_back (if b then Replied x.reply (record s { todo = xs }) else Unreplied (record s { wants = Some (Finish g new sends) }))) go) next)
        test true e = absurd (false≢true (sym e))
        test false e = (refl, refl, refl)

-- what asks is over
asks_over : (q : Ask) (left : List Exchange) (out : List ℕ) (o : Outcome) → AsksWith q left out o → IsOver o
asks_over q left out (Ended s) h = tt
asks_over q left out (Failed f s) h = tt
asks_over q left out (Asking s) h = tt
asks_over q left out (Unfinished s) h = absurd h
asks_over q left out Stuck h = absurd h

-- what is over stays so
same_end : (code : ThreadCode) (c : Configuration) (m n : ℕ) → IsOver (exec code m c) → IsOver (exec code n c) → exec code n c ≡ exec code m c
same_end code c m n over_m over_n =
    ⊎_elim
    (λ lt. longer code m n (omega (arith, lt)) c (exec code m c) over_m refl)
    (λ le. sym (longer code n m le c (exec code n c) over_n refl))
    (cases_lt m n)

-- the code of these functions, where cells have these validators
abbrev with_validators : Validators → List PlainFunction → Library
with_validators va fs = record { bodies = functions_code fs; validators = va }

module _ (fs : List PlainFunction) (sound : SoundFunctions [] fs) (cells : List CellDefinition) (valid : AllValidators (IsPure (known fs)) (validators_of cells)) (g : CellId) (a : Action) where
  -- the code of the agent
  abbrev code : ThreadCode
  code = agent_code (with_validators (validators_of cells) fs) g

  -- what functions mean
  abbrev call : ℕ → Bool → ℕ → List Value → ActorState → Completion ActorState Value
  call n = call_at (λ d. on_replies (validators_of cells)) n fs (length fs)

  calls : (n : ℕ) → CallSimulates code n (known fs) (call n)
  calls n = calls_simulate fs sound (agent_body g) (validators_of cells) valid n (length fs)

  -- behind the action's callee
  abbrev behind : Value → ActorState → Configuration
  behind w s = configuration 0 2 (w ∷ []) [] [] Outside s

  abbrev AtBehind : Lands Value
  AtBehind = λ w s c. (c ≡ behind w s) × Clear s

  -- where the agent continues once the action was handed in
  abbrev over : ActorState → Turned Configuration
  over s = Unfinished (first_place [] (rested s))

  -- the value is handed in next
  abbrev hands : Value → List Action → Configuration → Turned Configuration
  hands w sends c = told (finish g (Ok w) sends c.state) over

  abbrev AtFinish : Lands Value
  AtFinish = λ w s c. AtHand code c (hands w (handed s.acting) (behind w s))

  -- the callee, applied
  callee_simulates : (n : ℕ) (c : Callee) (v : Value) (s : ActorState) → Clear s → AtHand code (configuration 0 1 (v ∷ []) [] [] Outside s) (runs_callee code c a v [] (configuration 0 1 (v ∷ []) [] [] Outside s)) →
      Simulates code n (of Outside) AtBehind Never (configuration 0 1 (v ∷ []) [] [] Outside s) (apply (call n false) a.span c (v ∷ a.args) s)
  callee_simulates n (CoreOp op) v s clear at =
      let here = configuration 0 1 (v ∷ []) [] [] Outside s in
      let r = core op (v ∷ a.args) in
      subst (λ x. Simulates code n (of Outside) AtBehind Never here x) (res_step r a.span s)
      (step_clears code n Outside AtBehind Never here (step_of r a.span s) behind at (step_clear r a.span s clear) (λ w s1 k. (refl, k)))
  callee_simulates n (Function f) v s clear at =
      let here = configuration 0 1 (v ∷ []) [] [] Outside s in
      let args = v ∷ a.args in
      let inner = configuration (suc f) 0 [] (locals_of (nth code.functions f) args) (frame 0 2 [] [] to_stack ∷ []) Outside s in
      before code n (of Outside) AtBehind Never here inner (call n false f args s) (one_to code here inner at) (calls n f args 0 2 [] [] [] Outside to_stack s tt clear)

  -- the turn behind the callee
  hands_in_so : (o : Option InHand) → IsRun g a o → (w : Value) (s : ActorState) → hands_in code g o (fault_in o) (behind w s) ≡ where_valid code (validator_at code.validators a.agent.number) w a.span (behind w s) (hands w (handed o))
  hands_in_so None e w s = absurd e
  hands_in_so (Some h) e w s =
      ap (λ f. hands_in code g (Some h) f (behind w s)) e.2 ∙ ap (λ b. where_valid code (validator_at code.validators b.agent.number) w b.span (behind w s) (hands w h.sends)) e.1

  -- the agent's validator looks at the value
  finish_simulates : (n : ℕ) (w : Value) (s : ActorState) → IsRun g a s.acting → Clear s → Simulates code n (of Outside) AtFinish Never (behind w s) (validated (apply (call n false) a.span) (validator_at code.validators a.agent.number) a.span w s)
  finish_simulates n w s run clear =
      let o = validator_at code.validators a.agent.number in
      let go = hands w (handed s.acting) in
      let quick = quietly n fs (length fs) a.span in
      let quiet : (c : Callee) (vs : List Value) (s1 : ActorState) → IsPure (known fs) c → (apply (call n false) a.span c vs s1 ≡ carried s1 (quick c vs tt)) × IsQuiet (quick c vs tt) = λ c vs s1 p. callee_carried (λ d. on_replies (validators_of cells)) n false fs sound (length fs) a.span c vs s1 p in
      let at : (s1 : ActorState) → s1.acting ≡ s.acting → AtHand code (behind w s1) (where_valid code o w a.span (behind w s1) go) =
      λ s1 e k. step code (behind w s1) (FinishOf g) refl k ∙ ap (λ x. and_then (hands_in code g x (fault_in x) (behind w s1)) (exec code k)) e ∙ ap (λ t. and_then t (exec code k)) (hands_in_so s.acting run w s1) in
      recast code n (of Outside) (AtAccepted code n (known fs) (call n) (calls n) 0 [] a.span 2 (w ∷ []) [] Outside quick quiet go w s) AtFinish Never Never (behind w s) (validated (apply (call n false) a.span) o a.span w s)
      (validated_simulates code n (known fs) (call n) (calls n) 0 [] a.span 2 (w ∷ []) [] Outside quick quiet o w s (behind w s) go (validator_such (IsPure (known fs)) (validators_of cells) a.agent.number valid) clear (at s refl) (λ answer. at (record s { accepted = Some answer }) refl))
      (λ x s1 c1 q. subst (λ y. AtFinish y s1 c1) (sym q.0) (subst (λ z. AtFinish w z c1) (sym q.1) q.2)) (λ us s1 c1 bad. bad)

  -- what is said of the action in hand holds where a part lands
  lands_run : (n : ℕ) (h : Handlers) (G : Lands Value) (R : Lands (List Value)) (c : Configuration) (r : Completion ActorState Value) → EndsRested (IsRun g a) r → Simulates code n h G R c r → Simulates code n h (λ w s c1. IsRun g a s.acting × G w s c1) R c r
  lands_run n h G R c (Completes w s) e r = (r.0, (e, r.1), r.2)
  lands_run n h G R c (Recurs vs s) e r = r
  lands_run n h G R c (Faults f s) e r = r
  lands_run n h G R c (Retries s) e r = r
  lands_run n h G R c (Waits s) e r = r
  lands_run n h G R c (OutOfTurns s) e r = r
  lands_run n h G R c Invalid e r = tt

  -- the action, from where it was taken
  action_simulates : (v : Value) (s : ActorState) (todo : List Exchange) (n : ℕ) → IsBetween s → Simulates code n (of Outside) AtFinish Never (taken_at g a v s todo) (action_source cells fs g a v s n todo)
  action_simulates v s todo n between =
      let here = taken_at g a v s todo in
      let G : Lands Value = λ w s1 c1. IsRun g a s1.acting × AtBehind w s1 c1 in
      let r = applies_on cells fs n a a.callee (v ∷ a.args) here.state in
      let look : Value → ActorState → Completion ActorState Value = λ w s1. validated (applies_on cells fs n a) (validator_at (validators_of cells) a.agent.number) a.span w s1 in
      bind_simulates code n (of Outside) G Never AtFinish Never here r look
      (lands_run n (of Outside) AtBehind Never here r (callee_of_action_stays fs sound cells g a v s n todo) (callee_simulates n a.callee v here.state between.1 (λ k. step code here RunOf refl k)))
      (λ w s1 c1 q. from_configuration code n (of Outside) AtFinish Never c1 (behind w s1) (look w s1) q.1.0 (finish_simulates n w s1 q.0 q.1.1))

  -- ---- where the machine comes to

  abbrev comes : Value → ActorState → List Exchange → ℕ → Outcome
  comes v s todo m = action_target (with_validators (validators_of cells) fs) g a v s m todo

  -- what is said of the machine where the action's tree ends so, with at most n turns for each loop
  abbrev Ends_so : ℕ → Completion ActorState Value → (ℕ → Outcome) → Type 0
  Ends_so n (Completes w s) at = (m : ℕ) × EndsAs g (Completes w s) (at m)
  Ends_so n (Recurs vs s) at = Unit {0}
  Ends_so n (Faults f s) at = (m : ℕ) × EndsAs g (Faults f s) (at m)
  Ends_so n (Retries s) at = Unit {0}
  Ends_so n (Waits s) at = (m : ℕ) × (at m ≡ Asking s)
  Ends_so n (OutOfTurns s) at = (m : ℕ) × (n ≤ m) × (at m ≡ Unfinished s)
  Ends_so n Invalid at = Unit {0}

  -- a fault is handed in by the turn that met it
  at_once : (o : Option InHand) → IsRun g a o → (f : Fault) (s : ActorState) → ends_with o f s ≡ told (finish g (Err f) [] s) over
  at_once None e f s = absurd e
  at_once (Some h) e f s = ap (λ i. told (finish i (Err f) [] s) over) e.0

  -- or by the turn after it
  one_later : (o : Option InHand) → IsRun g a o → (f : Fault) (s : ActorState) → IsUnanswered (Finish g (Err f) []) s.todo → AsksWith (Finish g (Err f) []) s.todo s.printed (and_then (fails_with o f s) (exec code 1))
  one_later None e f s u = absurd e
  one_later (Some h) e f s u = finish_asks g (Err f) [] (record s { acting = Some (record h { fault = Some f }) }) over (exec code 0) u

  fault_ends : (c : Configuration) (f : Fault) (s : ActorState) (t : Turned Configuration) → IsRun g a s.acting → Raises Outside f s t → ((k : ℕ) → (j : ℕ) × (k ≤ j) × (exec code j c ≡ and_then t (exec code k))) → (m : ℕ) × EndsAs g (Faults f s) (exec code m c)
  fault_ends c f s t run (inl e) by =
      let x = by 0 in (
        x.0,
        λ u. subst (AsksWith (Finish g (Err f) []) s.todo s.printed) (sym (x.2 ∙ ap (λ y. and_then y (exec code 0)) (e ∙ at_once s.acting run f s))) (finish_asks g (Err f) [] s over (exec code 0) u),
      )
  fault_ends c f s t run (inr e) by =
      let x = by 1 in
      (x.0, λ u. subst (AsksWith (Finish g (Err f) []) s.todo s.printed) (sym (x.2 ∙ ap (λ y. and_then y (exec code 1)) e)) (one_later s.acting run f s u))

  ends_from : (n : ℕ) (c : Configuration) (r : Completion ActorState Value) → EndsRested (IsRun g a) r → Simulates code n (of Outside) AtFinish Never c r → Ends_so n r (λ m. exec code m c)
  ends_from n c (Completes w s) run r =
      let x = r.2.by 1 in
      (x.0, λ u. subst (AsksWith (Finish g (Ok w) (handed s.acting)) s.todo s.printed) (sym (x.2 ∙ r.1 0)) (finish_asks g (Ok w) (handed s.acting) s over (exec code 0) u))
  ends_from n c (Recurs vs s) run r = tt
  ends_from n c (Faults f s) run r = fault_ends c f s r.0 run r.1 (r.2.by)
  ends_from n c (Retries s) run r = tt
  ends_from n c (Waits s) run r = r
  ends_from n c (OutOfTurns s) run r = r
  ends_from n c Invalid run r = tt

  ends_so : (v : Value) (s : ActorState) (todo : List Exchange) (n : ℕ) → IsBetween s → Ends_so n (action_source cells fs g a v s n todo) (comes v s todo)
  ends_so v s todo n between = ends_from n (taken_at g a v s todo) (action_source cells fs g a v s n todo) (action_stays fs sound cells g a v s n todo) (action_simulates v s todo n between)

  ended : (n : ℕ) (r : Completion ActorState Value) (at : ℕ → Outcome) → HasEnded r → Ends_so n r at → (m : ℕ) × EndsAs g r (at m)
  ended n (Completes w s) at t r = r
  ended n (Recurs vs s) at t r = absurd t
  ended n (Faults f s) at t r = r
  ended n (Retries s) at t r = absurd t
  ended n (Waits s) at t r = r
  ended n (OutOfTurns s) at t r = absurd t
  ended n Invalid at t r = absurd t

  -- what asks at some bound asks at each where it is over
  asks_too : (c : Configuration) (m n : ℕ) (q : Ask) (left : List Exchange) (out : List ℕ) → IsOver (exec code m c) → AsksWith q left out (exec code n c) → AsksWith q left out (exec code m c)
  asks_too c m n q left out over_m h = subst (AsksWith q left out) (same_end code c m n over_m (asks_over q left out (exec code n c) h)) h

  meant : (c : Configuration) (m : ℕ) (r : Completion ActorState Value) → IsOver (exec code m c) → IsMeant r → Ends_so m r (λ k. exec code k c) → EndsAs g r (exec code m c)
  meant c m (Completes w s) over_m t r = λ u. asks_too c m r.0 (Finish g (Ok w) (handed s.acting)) s.todo s.printed over_m (r.1 u)
  meant c m (Recurs vs s) over_m t r = absurd t
  meant c m (Faults f s) over_m t r = λ u. asks_too c m r.0 (Finish g (Err f) []) s.todo s.printed over_m (r.1 u)
  meant c m (Retries s) over_m t r = absurd t
  meant c m (Waits s) over_m t r = sym (same_end code c m r.0 over_m (subst IsOver (sym r.1) tt)) ∙ r.1
  meant c m (OutOfTurns s) over_m t r = absurd (subst IsOver (sym (longer code m r.0 r.1 c (exec code m c) over_m refl) ∙ r.2) over_m)
  meant c m Invalid over_m t r = absurd t

  pub action_behaves : ActionBehaves (with_validators (validators_of cells) fs) cells fs g a
  action_behaves = record {
    follows = λ v s todo n between t. ended n (action_source cells fs g a v s n todo) (comes v s todo) t (ends_so v s todo n between);
    goes_on = λ v s todo n s1 between e. subst (λ r. Ends_so n r (comes v s todo)) e (ends_so v s todo n between);
    only = λ v s todo m between over_m t. meant (taken_at g a v s todo) m (action_source cells fs g a v s m todo) over_m t (ends_so v s todo m between);
  }

pub code_of_actions_behaves : CodeOfActionsBehaves
code_of_actions_behaves code p g a sound h same sent =
    let va = validators_of code.cells in
    let valid = validators_pure (known p.functions) p.cells sound.cells in
    subst (λ l. ActionBehaves (record { bodies = l; validators = va }) p.cells p.functions g a) (sym (functions_are (parameters_of code.functions) code.constants code.functions p.functions h.functions))
    (subst (λ ds. ActionBehaves (with_validators (validators_of ds) p.functions) p.cells p.functions g a) (sym h.cells) (action_behaves p.functions sound.functions p.cells valid g a))

pub agents_follow : SoundFollowsAgents → AgentsFollow
agents_follow law code p sound h = law (library_of code) p.cells p.functions sound.functions sound.cells (ap validators_of h.cells) (λ g a same sent. code_of_actions_behaves code p g a sound h same sent)
