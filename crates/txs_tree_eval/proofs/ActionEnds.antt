-- What an action means, by what its callee gives.
use Rattle.std.proofs.Common.{◌≡◌, ℕ, ◌-◌, false, List, [], ◌∷◌, ◌++◌, length, map, take, Option, Some, None, Result, Ok, Err, IfOk, refl, sym, ap, ◌∙◌, subst, subst₂, ⊎_elim, arith}
use Rattle.txs_value_data.specs.declared.fault.Fault as fault
use Rattle.txs_value_data.specs.declared.fault.Span.{Span}
use Rattle.txs_value_data.specs.declared.op.Callee.{Callee}
use Rattle.txs_value_data.specs.declared.op.Callee.TheVariants.{Core as CoreOp, Function as FunctionOf}
use Rattle.txs_value_cell.specs.declared.action.Action.{Action}
use Rattle.txs_value_data.specs.declared.value.Value.{Value}
use Rattle.txs_world_protocol.specs.SeenEvent.{SeenEvent}
use Rattle.txs_tree_eval.specs.ActionTold.{ActionAccount, ActionAccounts, ActionConcluded, ActionTellsOf, ActionTellsWrong, TellsAction}
use Rattle.txs_tree_eval.specs.Told.{asked, lacking, told_tx}
use Rattle.txs_tree_eval.specs.declared.action.ActionMeaning.{ActionMeaning}
use Rattle.txs_tree_eval.specs.declared.meaning.Needs.{Needs}
use Rattle.txs_tree_eval.specs.declared.meaning.Needs.TheVariants.{Wrong as NotAllowed}
use Rattle.txs_tree_eval_node.specs.Evaluated.{Yields, applies_means, around_it, deeply, thread_state}
use Rattle.txs_tree_eval_node.specs.Setting.{Setting, callable}
use Rattle.txs_tree_eval_node.specs.declared.state.State.{State}
use Rattle.txs_tree_eval_transaction.specs.Worked.{Gives}
use Rattle.txs_tree_eval_transaction.specs.declared.stop.ThreadStop.{ThreadStop}
use Rattle.txs_tree_eval_transaction.specs.declared.stop.ThreadStop.TheVariants.{Fault, Event, Wrong, Turns, Memory}
use Rattle.txs_tree_meaning.specs.Known.{Known, known}
use Rattle.txs_tree_meaning.specs.Meaning.{Completion, Waits, Invalid, apply, call_at}
use Rattle.txs_tree_meaning.specs.Right.{on_right, right_events}
use Rattle.txs_tree_meaning.specs.Sound.{Sound, SentCallee}
use Rattle.txs_tree_meaning.specs.Thread.{ThreadState, Surroundings, on_events, action_in, around_action, from_events}
use Rattle.txs_tree_meaning.specs.View.{Parts, functions_of, program_of}
use Rattle.txs_tree_meaning.specs.declared.node.Function.{Function}
use Rattle.txs_tree_meaning.proofs.Callable.{nth-before, nth-length, length-known, length-functions_of}
use Rattle.txs_tree_eval.proofs.Beginning.{Left, Before, same_wait, either_way, waits_behind, goes_right}
use Rattle.txs_tree_eval.proofs.Deeply.{call_same}
use Rattle.txs_tree_eval.proofs.Ends.{IsWaiting, any_event, whole}
use Rattle.txs_tree_eval.proofs.Right.{Steady, Three, at, callee_goes}

-- what is told of an end is what the meaning says
module _ (m : ActionMeaning) (k right : ℕ) (before : Completion ThreadState Value) (f : SeenEvent) (gs : List SeenEvent) (c x y : Completion ThreadState Value) (three : Three f gs c x y) (s : ThreadState) (needs : Needs) (end : Option (Result Value fault.Fault)) (sends : List Action)
    (a : ActionAccount m (k - length s.todo) s needs end sends) where
  -- the same account
  account_as : (needs1 : Needs) (end1 : Option (Result Value fault.Fault)) (sends1 : List Action) → needs ≡ needs1 → end ≡ end1 → sends ≡ sends1 → ActionAccount m (k - length s.todo) s needs1 end1 sends1
  account_as needs1 end1 sends1 n e l = record {
    printed = a.printed;
    eaten = a.eaten;
    txs = a.txs;
    needs = a.needs ∙ n;
    asks = a.asks ∙ ap (λ q. asked q s.asks) n;
    result = a.result ∙ e;
    sends = a.sends ∙ l;
  }

  -- where the meaning is that of the action that waits before what it doesn't allow
  tells_same : (r : Result Value ThreadStop) → c ≡ x → Gives false r s x → ActionConcluded r (length s.todo) s.held needs end sends → ActionTellsOf m k right before c
  tells_same (Ok v) same h e = subst (λ d. ActionTellsOf m k right before d) (sym (same ∙ h)) (account_as _ _ _ e.0 e.1 e.2)
  tells_same (Err (Fault g)) same h e = subst (λ d. ActionTellsOf m k right before d) (sym (same ∙ h)) (account_as _ _ _ e.0 e.1 e.2)
  tells_same (Err Event) same h e =
      let dry : s.todo ≡ [] = waits_behind f gs c x y s three (same ∙ h.1) in
      subst (λ d. ActionTellsOf m k right before d) (sym (same ∙ h.1)) (account_as _ _ _ (e.0 ∙ ap (λ l. lacking (length l)) dry) e.1 e.2)
  tells_same (Err Wrong) same h e =
      let dry : s.todo ≡ [] = waits_behind f gs c x y s three (same ∙ h.1) in
      subst (λ d. ActionTellsOf m k right before d) (sym (same ∙ h.1)) (account_as _ _ _ (e.0 ∙ ap (λ l. lacking (length l)) dry) e.1 e.2)
  tells_same (Err Turns) same h e = subst (λ d. ActionTellsOf m k right before d) (sym (same ∙ h)) (account_as _ _ _ e.0 e.1 e.2)
  tells_same (Err Memory) same h e = absurd e

  -- how many events are right, and what it means on them
  abbrev pub Right : Type 0
  Right = (right ≡ k - length s.todo) × (t : ThreadState) × (before ≡ Waits t) × (s.printed ≡ t.printed) × (s.txs ≡ t.txs)

  -- where it waits before an event that it doesn't allow
  tells_left : c ≡ Invalid → Left s → Right → needs ≡ lacking (length s.todo) → end ≡ None → sends ≡ [] → ActionTellsOf m k right before c
  tells_left none left told lack over held =
      let some : lacking (length s.todo) ≡ NotAllowed = ap (λ l. lacking (length l)) left.2 in
      let account : ActionAccount m right told.1 NotAllowed None [] = record {
        printed = a.printed ∙ told.3;
        eaten = a.eaten ∙ sym told.0;
        txs = a.txs ∙ ap (λ l. map told_tx l) told.4;
        needs = a.needs ∙ lack ∙ some;
        asks = a.asks ∙ ap (λ n. asked n s.asks) (lack ∙ some);
        result = a.result ∙ over;
        sends = a.sends ∙ held;
      } in
      subst (λ d. ActionTellsOf m k right before d) (sym none) (subst (λ d. ActionTellsWrong m right d) (sym told.2) account)

  tells_stopped : (r : Result Value ThreadStop) → c ≡ Invalid → Before x → (x ≡ Waits s → Right) → Gives false r s x → ActionConcluded r (length s.todo) s.held needs end sends → ActionTellsOf m k right before c
  tells_stopped (Ok v) none stop told h e = absurd (subst IsWaiting (sym stop.1 ∙ h) tt)
  tells_stopped (Err (Fault g)) none stop told h e = absurd (subst IsWaiting (sym stop.1 ∙ h) tt)
  tells_stopped (Err Event) none stop told h e =
      let here : s ≡ stop.0 = same_wait s stop.0 (sym h.1 ∙ stop.1) in
      tells_left none (subst (λ t. Left t) (sym here) stop.2) (told h.1) e.0 e.1 e.2
  tells_stopped (Err Wrong) none stop told h e =
      let here : s ≡ stop.0 = same_wait s stop.0 (sym h.1 ∙ stop.1) in
      tells_left none (subst (λ t. Left t) (sym here) stop.2) (told h.1) e.0 e.1 e.2
  tells_stopped (Err Turns) none stop told h e = absurd (subst IsWaiting (sym stop.1 ∙ h) tt)
  tells_stopped (Err Memory) none stop told h e = absurd e

  tells_end : (r : Result Value ThreadStop) → (c ≡ Invalid → x ≡ Waits s → Right) → Gives false r s x → ActionConcluded r (length s.todo) s.held needs end sends → ActionTellsOf m k right before c
  tells_end r told h e = ⊎_elim (λ same. tells_same r same h e) (λ stop. tells_stopped r stop.0 stop.1 (told stop.0) h e) (either_way f gs c x y three)

-- what may be sent may be applied where calls go as deep as there are functions
sent_everywhere : (functions : List Function) (setting : Setting) (callee : Callee) (k : ℕ) → setting.functions ≡ functions → setting.depth ≡ length functions → SentCallee (known (functions_of functions)) callee k → SentCallee (callable setting) callee k
sent_everywhere functions setting callee k same deep h =
    subst₂ (λ fs d. SentCallee (callable (record setting { functions = fs; depth = d })) callee k) (sym same) (sym deep) (wide callee h)
  where
    ks : List Known
    ks = known (functions_of functions)

    wide : (c : Callee) → SentCallee (known (functions_of functions)) c k → SentCallee (callable (record setting { functions = functions; depth = length functions })) c k
    wide (CoreOp op) g = g
    wide (FunctionOf i) g = record {
      function = g.function;
      found = nth-before (length functions) (known (functions_of functions)) i g.function (omega (arith, length-known (functions_of functions), length-functions_of functions, nth-length (known (functions_of functions)) i g.function g.found)) g.found;
      arity = g.arity;
      zoned = g.zoned;
    }

module _ (parts : Parts) (n : ℕ) (setting : Setting) (same_setting : setting ≡ whole parts.cells parts.functions n None) (callee : Callee) (span : Span) (vs : List Value) where
  pub sound_callee : (us : List Value) → us ≡ vs → SentCallee (known (functions_of parts.functions)) callee (length vs) → SentCallee (callable setting) callee (length us)
  sound_callee us copied h =
      subst₂ (λ y l. SentCallee (callable y) callee (length l)) (sym same_setting) (sym copied) (sent_everywhere parts.functions (whole parts.cells parts.functions n None) callee (length vs) refl refl h)

  abbrev x : Surroundings
  x = around_it (whole parts.cells parts.functions n None)

  abbrev deep : ℕ
  deep = length (functions_of parts.functions)

  -- the action on these events, where calls go so deep and it waits before what it doesn't allow
  abbrev applied_on : List SeenEvent → ℕ → Completion ThreadState Value
  applied_on es d = apply (call_at (λ b. deeply x (on_right x b)) n (functions_of parts.functions) d false) span callee vs (from_events (Some []) es)

  abbrev acts : List SeenEvent → Completion ThreadState Value
  acts es = action_in (around_action parts.cells (functions_of parts.functions) n) callee span vs es

  module _ (sound : Sound (program_of parts)) (fits : SentCallee (known (functions_of parts.functions)) callee (length vs)) where
    sound_here : SentCallee (callable (at any_event [] parts.cells parts.functions n sound.functions sound.cells deep)) callee (length vs)
    sound_here =
        let everywhere = sent_everywhere parts.functions (whole parts.cells parts.functions n None) callee (length vs) refl refl fits in
        subst (λ d. SentCallee (callable (at any_event [] parts.cells parts.functions n sound.functions sound.cells d)) callee (length vs)) (sym (length-functions_of parts.functions)) everywhere

    -- what applies it on events
    abbrev plainly : List SeenEvent → Completion ThreadState Value
    plainly es = apply (call_at (λ b. deeply x (on_events x b)) n (functions_of parts.functions) deep false) span callee vs (from_events (Some []) es)

    low_same : (es : List SeenEvent) → acts es ≡ plainly es
    low_same es = by callee fits
      where
        by : (c : Callee) → SentCallee (known (functions_of parts.functions)) c (length vs)
            → apply (call_at (on_events x) n (functions_of parts.functions) deep false) span c vs (from_events (Some []) es) ≡ apply (call_at (λ b. deeply x (on_events x b)) n (functions_of parts.functions) deep false) span c vs (from_events (Some []) es)
        by (CoreOp op) h = refl
        by (FunctionOf i) h =
            call_same parts.cells parts.functions n sound.functions sound.cells i (length vs) (record {
              function = h.function;
              found = h.found;
              arity = h.arity;
              zoned = h.zoned;
            }) vs (from_events (Some []) es)

    three : (f : SeenEvent) (gs es : List SeenEvent) → Three f gs (acts es) (applied_on es deep) (applied_on (es ++ f ∷ gs) deep)
    three f gs es =
        let here = subst (λ d. SentCallee (callable (at f gs parts.cells parts.functions n sound.functions sound.cells d)) callee (length vs)) (sym (length-functions_of parts.functions))
        (sent_everywhere parts.functions (whole parts.cells parts.functions n None) callee (length vs) refl refl fits) in
        subst (λ c. Three f gs c (applied_on es deep) (applied_on (es ++ f ∷ gs) deep)) (sym (low_same es))
        ((callee_goes f gs parts.cells parts.functions n sound.functions sound.cells deep span callee (length vs) here vs).0 (from_events (Some []) es))

    steady : (es : List SeenEvent) → Steady (length es) (applied_on es deep)
    steady es = (callee_goes any_event [] parts.cells parts.functions n sound.functions sound.cells deep span callee (length vs) sound_here vs).1 (from_events (Some []) es)

    told_action : (m : ActionMeaning) (j : ℕ) (es : List SeenEvent) (us : List Value) (st st1 : State) (end : Result Value ThreadStop) → j ≡ length es → us ≡ vs → thread_state st.thread ≡ from_events (Some []) es
        → Yields setting end st1 (applies_means setting span callee us st) → ActionAccounts m j (thread_state st1.thread) end → TellsAction m (program_of parts) callee span vs n es
    told_action m j es us st st1 end many copied fresh h a =
        let s = thread_state st1.thread in
        let y = whole parts.cells parts.functions n None in
        let here : Yields y end st1 (applies_means y span callee us st) = subst (λ z. Yields z end st1 (applies_means z span callee us st)) same_setting h in
        let from : List Value → ThreadState → Completion ThreadState Value = λ l t. apply (call_at (λ b. deeply x (on_right x b)) n (functions_of parts.functions) (length parts.functions) false) span callee l t in
        let begun : Gives false end s (applied_on es (length parts.functions)) = subst₂ (λ l t. Gives false end s (from l t)) copied fresh here in
        let whole_of_it : Gives false end s (applied_on es deep) = subst (λ d. Gives false end s (applied_on es d)) (sym (length-functions_of parts.functions)) begun in
        let account : ActionAccount m (length es - length s.todo) s a.0 a.1 a.2 = subst (λ i. ActionAccount m (i - length s.todo) s a.0 a.1 a.2) many a.4 in
        tells_end m (length es) (right_events acts [] es) (acts (take (right_events acts [] es) es)) any_event [] (acts es) (applied_on es deep) (applied_on (es ++ any_event ∷ []) deep) (three any_event [] es) s a.0 a.1 a.2 account end
        (λ none waits. goes_right acts (λ l. applied_on l deep) three steady any_event es s none waits) whole_of_it a.3

    pub told_account : {E : Type 0} (r : Result ActionMeaning E) (j : ℕ) (es : List SeenEvent) (us : List Value) (st st1 : State) (end : Result Value ThreadStop) → j ≡ length es → us ≡ vs → thread_state st.thread ≡ from_events (Some []) es
        → Yields setting end st1 (applies_means setting span callee us st) → IfOk r (λ m. ActionAccounts m j (thread_state st1.thread) end) → IfOk r (λ m. TellsAction m (program_of parts) callee span vs n es)
    told_account (Ok m) j es us st st1 end many copied fresh h a = told_action m j es us st st1 end many copied fresh h a
    told_account (Err z) j es us st st1 end many copied fresh h a = a
