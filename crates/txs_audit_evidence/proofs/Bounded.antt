-- What is found with a bound of turns that suffices is found with more.
use Rattle.std.proofs.Common.{◌≡◌, ◌≤◌, ◌⊎◌, inl, inr, ℕ, suc, Bool, true, List, [], ◌∷◌, length, take, Option, Some, None, Result, refl, sym, ap, ◌∙◌, subst, ⊎_elim}
use Rattle.txs_value_data.specs.Places.{nth}
use Rattle.txs_value_data.specs.declared.fault.Fault.{Fault}
use Rattle.txs_value_cell.specs.declared.action.Action.{Action}
use Rattle.txs_value_data.specs.declared.value.CellId.{CellId}
use Rattle.txs_value_data.specs.declared.value.Value.{Value}
use Rattle.txs_world.specs.Store.{next_action}
use Rattle.txs_world_book.specs.Served.{cells_of}
use Rattle.txs_world_protocol.specs.SeenEvent.{SeenEvent}
use Rattle.txs_world_protocol.specs.declared.event.Event.{Event}
use Rattle.txs_tree_eval.specs.ActionTold.{ActionTellsOf, TellsAction}
use Rattle.txs_tree_eval.specs.declared.action.ActionMeaning.{ActionMeaning}
use Rattle.txs_tree_eval.specs.declared.meaning.Needs.TheVariants.{Turns}
use Rattle.txs_tree_meaning.specs.Known.{known}
use Rattle.txs_tree_meaning.specs.Meaning.{Completion, Completes, Recurs, Faults, Retries, Waits, OutOfTurns, Invalid, bind}
use Rattle.txs_tree_meaning.specs.Right.{right_events}
use Rattle.txs_tree_meaning.specs.Sound.{Sound}
use Rattle.txs_tree_meaning.specs.Thread.{ThreadState, accepts, action_in, applies_in, around_action, from_events}
use Rattle.txs_tree_meaning.specs.Tree.{PlainProgram, PlainThread}
use Rattle.txs_theorem_threads.proofs.Meant.{Any}
use Rattle.txs_theorem_threads.specs.FollowsAgent.{SoundAction}
use Rattle.txs_theorem_runs.specs.Told.{Place}
use Rattle.txs_theorem_audit.specs.Audited.{PlainActorReport, PlainReport, Finding, Fine}
use Rattle.txs_theorem_audit.specs.Pieces.{OfThread, piece_finding, piece_serial, thread_finding, thread_serial}
use Rattle.txs_theorem_audit.specs.Stays.{IsDecided, ActionStays, RestStays, ThreadStays}
use Rattle.txs_theorem_audit.specs.Verdict.{action_covered, action_found, is_sent_call, printed_by, rest_found}
use Rattle.txs_theorem_audit.proofs.Agreeing.{sent_of}
use Rattle.txs_theorem_audit.proofs.Differing.{source, source_sound}
use Rattle.txs_theorem_audit.proofs.Onward.{Step, applied_leads}
use Rattle.txs_theorem_audit.specs.Evaluated.{ActionNotedBy, means_on, prints_by}
use Rattle.txs_audit_evidence.proofs.ActionFound.{action_printed}

-- what a law of more turns says of what is found with n, and of whether commits are covered then
module _ (finds : ℕ → Finding) (covers : ℕ → Bool) where
  abbrev pub StaysFound : Type 0
  StaysFound = (n m : ℕ) → n ≤ m → IsDecided (finds n) → (finds m ≡ finds n) × (finds n ≡ Fine → covers m ≡ covers n)

  module _ (stays : StaysFound) (n m : ℕ) (le : n ≤ m) (f : Finding) (enough : (n ≡ m) ⊎ IsDecided f) (is : f ≡ finds n) where
    pub bounded_finding : f ≡ finds m
    bounded_finding = ⊎_elim (λ e. is ∙ ap finds e) (λ d. is ∙ sym (stays n m le (subst IsDecided is d)).0) enough

    pub bounded_serial : (s : Bool) → (f ≡ Fine → s ≡ covers n) → f ≡ Fine → s ≡ covers m
    bounded_serial s h fine = ⊎_elim (λ e. h fine ∙ ap covers e) (λ d. h fine ∙ sym ((stays n m le (subst IsDecided is d)).1 (sym is ∙ fine))) enough

-- of a thread by its number
module _ (law : ThreadStays) (p : PlainProgram) (r : PlainReport) (sound : Sound p) (a n m : ℕ) (le : n ≤ m) where
  entry_stays : (t : Option PlainThread) → nth p.threads a ≡ t → (o : Option PlainActorReport) → IsDecided (thread_finding p r n a t o)
      → (thread_finding p r m a t o ≡ thread_finding p r n a t o) × (thread_finding p r n a t o ≡ Fine → thread_serial p r m t o ≡ thread_serial p r n t o)
  entry_stays None there o decided = (refl, λ fine. refl)
  entry_stays (Some t) there None decided = (refl, λ fine. refl)
  entry_stays (Some t) there (Some ran) decided = law p r n m a a t ran sound le there decided

pub piece_stays : ThreadStays → (p : PlainProgram) (r : PlainReport) → Sound p → (a : ℕ) → StaysFound (λ n. piece_finding p r n (OfThread a)) (λ n. piece_serial p r n (OfThread a))
piece_stays law p r sound a n m le decided = entry_stays law p r sound a n m le (nth p.threads a) refl (nth r.threads a) decided

-- of an action that is over
pub act_stays : ActionStays → (p : PlainProgram) (r : PlainReport) → Sound p → (a i k : ℕ) (done : List Event) (g : CellId) (since : List Place) (new : Result Value Fault) (sends : List Action) (x : Option Action)
    → StaysFound (λ n. action_found p r n a i k done g since new sends x) (λ n. action_covered p r n done g since x)
act_stays law p r sound a i k done g since new sends x n m le decided = let z = law p r n m a i k done g since new sends x sound le decided in (z.0, λ fine. (z.1 fine).1)

-- of what an agent's actor did behind its last act
pub still_stays : RestStays → (p : PlainProgram) (r : PlainReport) → Sound p → (full : Bool) (a i k : ℕ) (g : CellId) (since : List Place) (out : List ℕ)
    → StaysFound (λ n. rest_found p r n full a i k g since out) (λ n. action_covered p r n r.book g since (next_action (cells_of p.cells) r.book g))
still_stays law p r sound full a i k g since out n m le decided = law p r n m a i k full g since out sound le decided

-- ---- what an action prints

-- an answer that wants no turns tells of the action with more turns, too, if the action allows all events
told_more : (a : ActionMeaning) (k i j : ℕ) (x y c d : Completion ThreadState Value) → ActionTellsOf a k i x c → Step None Any c d → (a.needs ≡ Turns → ⊥) → ActionTellsOf a k j y d ⊎ ((c ≡ Invalid) × (d ≡ Invalid))
told_more a k i j x y (Completes v t) d h step enough = inl (subst (ActionTellsOf a k j y) (sym step) h)
told_more a k i j x y (Recurs vs t) d h step enough = absurd h
told_more a k i j x y (Faults f t) d h step enough = inl (subst (ActionTellsOf a k j y) (sym step) h)
told_more a k i j x y (Retries t) d h step enough = absurd h
told_more a k i j x y (Waits t) d h step enough = inl (subst (ActionTellsOf a k j y) (sym step) h)
told_more a k i j x y (OutOfTurns t) d h step enough = absurd (enough h.needs)
told_more a k i j x y Invalid d h step enough = inr (refl, step)

module _ (p : PlainProgram) (x : Action) (v : Value) (es : List SeenEvent) (sound : Sound p) (sent : is_sent_call (known p.functions) x.callee (suc (length x.args)) ≡ true) (noted : ActionNotedBy) where
  abbrev applied : ℕ → List SeenEvent → Completion ThreadState Value
  applied n = action_in (around_action p.cells p.functions n) x.callee x.span (v ∷ x.args)

  fits : SoundAction p.functions x
  fits = sent_of (known p.functions) x.callee (suc (length x.args)) sent

  steps : (n m : ℕ) → n ≤ m → Step None Any (applied n es) (applied m es)
  steps n m le = (applied_leads (source p sound x v fits) (source_sound p sound x v fits) n m le x.span x.callee (v ∷ x.args) fits (from_events (Some []) es)).1

  -- one that doesn't allow all events prints nothing
  wrong_prints : (n : ℕ) → applied n es ≡ Invalid → printed_by (means_on p n x v es) ≡ []
  wrong_prints n e =
      ap (λ (c : Completion ThreadState Value). printed_by (bind c (λ w t. accepts (around_action p.cells p.functions n) (applies_in (around_action p.cells p.functions n) x.span) x.agent x.span w t))) e

  pub bounded_prints : (n m : ℕ) → n ≤ m → (a : ActionMeaning) → TellsAction a p x.callee x.span (v ∷ x.args) n es → (n ≡ m) ⊎ (a.needs ≡ Turns → ⊥) → prints_by a.needs a.printed ≡ printed_by (means_on p m x v es)
  bounded_prints n m le a tells enough =
      let first = action_printed p n x v es sound sent a tells noted in
      let right : ℕ → ℕ = λ j. right_events (applied j) [] es in
      ⊎_elim (λ e. first ∙ ap (λ j. printed_by (means_on p j x v es)) e)
      (λ none.
      ⊎_elim (λ more. action_printed p m x v es sound sent a more noted)
      (λ z. first ∙ wrong_prints n z.0 ∙ sym (wrong_prints m z.1))
      (told_more a (length es) (right n) (right m) (applied n (take (right n) es)) (applied m (take (right m) es)) (applied n es) (applied m es) tells (steps n m le) none)) enough
