-- An action means what it meant, with the functions folded, and with calls inlined.
use Rattle.std.proofs.Common.{◌≡◌, ℕ, suc, ◌<◌, ◌≤◌, false, List, [], ◌∷◌, length, Option, Some, None, refl, sym, ap, ◌∙◌, subst}
use Rattle.txs_world_protocol.specs.SeenEvent.{SeenEvent}
use Rattle.txs_value_data.specs.Places.{nth}
use Rattle.txs_value_data.specs.declared.fault.Span.{Span}
use Rattle.txs_value_data.specs.declared.op.Callee.{Callee}
use Rattle.txs_value_data.specs.declared.op.Callee.TheVariants.{Core as CoreOp, Function}
use Rattle.txs_value_cell.specs.Cells.{validators_of, validator_at}
use Rattle.txs_value_cell.specs.declared.action.Action.{Action}
use Rattle.txs_value_cell.specs.declared.cell.CellDefinition.{CellDefinition}
use Rattle.txs_value_data.specs.declared.value.Value.{Value}
use Rattle.txs_tree_meaning.specs.Meaning.{Completion, Invalid, Applies, bind, apply, call_at}
use Rattle.txs_tree_meaning.specs.Thread.{ThreadState, Surroundings, around_action, from_events, on_events, action_meaning}
use Rattle.txs_tree_meaning.specs.Transaction.{validated}
use Rattle.txs_tree_meaning.specs.Tree.{PlainFunction}
use Rattle.txs_opt.specs.Fold.{folded_functions}
use Rattle.txs_opt.specs.Inline.{functions_inlined}
use Rattle.txs_opt.specs.Observed.{observed_end}
use Rattle.txs_opt.proofs.Below.{Kind, Each}
use Rattle.txs_opt.proofs.Events.{observing_same, SameTx, event_forms, observing_end}
use Rattle.txs_opt.proofs.FoldedProgram.{calls_folded, length_folded, tx_like}
use Rattle.txs_opt.proofs.InlinedFunctions.{Under, under_inlined, inlined_missing}
use Rattle.txs_opt.proofs.InlinedMeanings.{Low, lower_none, lower_more, lower_bodies, call_missing, same_length, tx_bodies, tx_own, tx_moved, tx_deep}
use Rattle.txs_opt.proofs.InlinedProgram.{calls_inlined}
use Rattle.txs_opt.proofs.Like.{Likeness, Like, AppliesLike, apply_like, bind_like}
use Rattle.txs_opt.proofs.NoRecur.{event_ends}
use Rattle.txs_opt.proofs.OneWorld.{AllValid, any_callee, any_valid, valid_at, validated_like}

abbrev K : Likeness ThreadState
K = observing_same ⊥

-- ---- an action, where a call of any function is alike

module _ (May : Kind) (cells : List CellDefinition) (fs gs : List PlainFunction) (n : ℕ) (same : length gs ≡ length fs) where
  abbrev x : Surroundings
  x = around_action cells fs n

  abbrev y : Surroundings
  y = around_action cells gs n

  -- what applies callees by the first functions, and by the second ones where calls go so deep
  abbrev f : Span → Applies ThreadState
  f span = apply (call_at (on_events x) n fs (length fs) false) span

  abbrev g : ℕ → Span → Applies ThreadState
  g j span = apply (call_at (on_events y) n gs j false) span

  action_alike : ((span : Span) → AppliesLike ThreadState K May (f span) (g (length fs) span)) → AllValid May (validators_of cells) → (a : Action) (v : Value) (es : List SeenEvent)
      → Like K (f a.span a.callee (v ∷ a.args) (from_events (Some []) es)) (g (length fs) a.span a.callee (v ∷ a.args) (from_events (Some []) es))
      → observed_end (action_meaning cells gs n a v es) ≡ observed_end (action_meaning cells fs n a v es)
  action_alike alike valid a v es first =
      let o = validator_at (validators_of cells) a.agent.number in
      let start = from_events (Some []) es in
      let ends : ℕ → Completion ThreadState Value = λ j. bind (g j a.span a.callee (v ∷ a.args) start) (λ w t. validated (g j a.span) o a.span w t) in
      ap (λ j. observed_end (ends j)) same
      ∙ observing_end (action_meaning cells fs n a v es) (ends (length fs))
      (bind_like ThreadState K (f a.span a.callee (v ∷ a.args) start) (g (length fs) a.span a.callee (v ∷ a.args) start) (λ w t. validated (f a.span) o a.span w t) (λ w t. validated (g (length fs) a.span) o a.span w t) first
      (λ w s t r. validated_like ThreadState K May (f a.span) (g (length fs) a.span) (alike a.span) o a.span w (valid_at May (validators_of cells) a.agent.number valid) s t r))

-- ---- folded

module _ (cells : List CellDefinition) (fs : List PlainFunction) (n : ℕ) where
  abbrev X : Surroundings
  X = around_action cells fs n

  abbrev Y : Surroundings
  Y = around_action cells (folded_functions fs) n

  folded_alike : (span : Span) → AppliesLike ThreadState K Each (apply (call_at (on_events X) n fs (length fs) false) span) (apply (call_at (on_events Y) n (folded_functions fs) (length fs) false) span)
  folded_alike span =
      apply_like ThreadState K Each (call_at (on_events X) n fs (length fs) false) (call_at (on_events Y) n (folded_functions fs) (length fs) false)
      (calls_folded ThreadState K (λ j. SameTx ⊥ (λ i. Each) X (folded_functions fs) (λ i here. any_valid (validators_of cells)) j j) (on_events X) (on_events Y) n fs
      (λ j. event_forms ⊥ (λ i. Each) X (folded_functions fs) (λ i here. any_valid (validators_of cells)) j j) (λ j e env lack R. tx_like n fs j e env lack R) (length fs) false) span

  pub action_folded : (a : Action) (v : Value) (es : List SeenEvent) → observed_end (action_meaning cells (folded_functions fs) n a v es) ≡ observed_end (action_meaning cells fs n a v es)
  action_folded a v es =
      action_alike Each cells fs (folded_functions fs) n (length_folded fs) folded_alike (any_valid (validators_of cells)) a v es
      (folded_alike a.span a.callee (v ∷ a.args) (any_callee a.callee) (from_events (Some []) es) (from_events (Some []) es) refl)

-- ---- with calls inlined

-- functions that weigh so much, of which those that are there weigh less than all are, where what validators weigh is less
module _ (weight : ℕ → ℕ) (p : ℕ) (cells : List CellDefinition) (fs : List PlainFunction) (budget n : ℕ) (under : Under weight p 0 fs) (valid : (d : ℕ) → p ≤ d → AllValid (Low weight p d) (validators_of cells)) (few : p ≤ length fs)
    (light : (j : ℕ) (fun : PlainFunction) → nth fs j ≡ Some fun → weight j < length fs) where
  abbrev G : List PlainFunction
  G = (functions_inlined [] budget fs).functions

  abbrev L : ℕ → Kind
  L = Low weight p

  abbrev V : Surroundings
  V = around_action cells fs n

  abbrev W : Surroundings
  W = around_action cells G n

  calls_alike : (j : ℕ) (vs : List Value) → weight j < length fs → (s t : ThreadState) → K.rel s t → Like K (call_at (on_events V) n fs (length fs) false j vs s) (call_at (on_events W) n G (length fs) false j vs t)
  calls_alike =
      calls_inlined ThreadState K L (lower_none weight p) (lower_more weight p) (λ s t r. refl) (λ s t u p1 q1. p1 ∙ q1) (λ j. SameTx ⊥ L V G valid j j) (λ j. SameTx ⊥ L W G valid j j) (λ j. SameTx ⊥ L W G valid j (suc j)) (on_events V) (on_events W) n fs budget (lower_bodies weight p fs under)
      (lower_bodies weight p G (under_inlined weight p fs [] budget tt under)) (λ j. event_forms ⊥ L V G valid j j) (λ j front within c l e env low is lack R. tx_bodies weight p n fs budget under lack R j front within e env c l low is) (λ j. event_forms ⊥ L W G valid j j)
      (λ j e env low lack R. tx_own weight p n fs budget under lack R j e env low) (λ j c i e env env1 low w lack R. tx_moved weight p n fs budget under lack R j c i e env env1 low w) (λ j. event_forms ⊥ L W G valid j (suc j)) (λ j e env low lack R. tx_deep weight p n fs budget under lack R j e env low)
      (λ j. event_ends W j) (length fs) false

  inlined_alike : (span : Span) → AppliesLike ThreadState K (L (length fs)) (apply (call_at (on_events V) n fs (length fs) false) span) (apply (call_at (on_events W) n G (length fs) false) span)
  inlined_alike span = apply_like ThreadState K (L (length fs)) (call_at (on_events V) n fs (length fs) false) (call_at (on_events W) n G (length fs) false) calls_alike span

  -- a callee that isn't there has no meaning
  called_alike : (span : Span) (c : Callee) (vs : List Value) (s : ThreadState) → Like K (apply (call_at (on_events V) n fs (length fs) false) span c vs s) (apply (call_at (on_events W) n G (length fs) false) span c vs s)
  called_alike span (CoreOp op) vs s = inlined_alike span (CoreOp op) vs tt s s refl
  called_alike span (Function j) vs s = go (nth fs j) refl
    where
      go : (o : Option PlainFunction) → nth fs j ≡ o → Like K (call_at (on_events V) n fs (length fs) false j vs s) (call_at (on_events W) n G (length fs) false j vs s)
      go None is =
          subst (λ z. Like K z (call_at (on_events W) n G (length fs) false j vs s)) (sym (call_missing (on_events V) n fs (length fs) false j vs s is))
          (subst (λ z. Like {A = Value} K Invalid z) (sym (call_missing (on_events W) n G (length fs) false j vs s (inlined_missing fs budget j is))) tt)
      go (Some fun) is = calls_alike j vs (light j fun is) s s refl

  pub action_inlined : (a : Action) (v : Value) (es : List SeenEvent) → observed_end (action_meaning cells G n a v es) ≡ observed_end (action_meaning cells fs n a v es)
  action_inlined a v es =
      action_alike (L (length fs)) cells fs G n (same_length weight p n fs budget under) inlined_alike (valid (length fs) few) a v es (called_alike a.span a.callee (v ∷ a.args) (from_events (Some []) es))
