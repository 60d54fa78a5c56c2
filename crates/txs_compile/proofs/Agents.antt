-- Code that does of an action what optimised functions mean does what those from before mean.
use Rattle.std.proofs.Common.{◌≡◌, ℕ, suc, false, List, ◌∷◌, [], length, refl, sym, ◌∙◌, subst, arith}
use Rattle.txs_value_apply.specs.Core.{core}
use Rattle.txs_value_data.specs.declared.op.Callee.{Callee}
use Rattle.txs_value_data.specs.declared.op.Callee.TheVariants.{Core as CoreOp, Function}
use Rattle.txs_value_cell.specs.Cells.{Validators, validators_of, validator_at}
use Rattle.txs_value_cell.specs.declared.action.Action.{Action}
use Rattle.txs_value_cell.specs.declared.cell.CellDefinition.{CellDefinition}
use Rattle.txs_value_data.specs.declared.value.CellId.{CellId}
use Rattle.txs_value_data.specs.declared.value.Value.{Value}
use Rattle.txs_world_protocol.specs.Ask.{Exchange}
use Rattle.txs_tree_meaning.specs.Known.{known}
use Rattle.txs_tree_meaning.specs.Meaning.{call_at, result_of}
use Rattle.txs_tree_meaning.specs.Sound.{Sound}
use Rattle.txs_tree_meaning.specs.Transaction.{validated}
use Rattle.txs_tree_meaning.specs.Tree.{PlainFunction, PlainProgram}
use Rattle.txs_code_meaning.specs.ActorState.{ActorState}
use Rattle.txs_code_meaning.specs.Machine.{Library}
use Rattle.txs_theorem_threads.specs.ActionsBehave.{ActionBehaves, EndsAs, action_source, applies_on}
use Rattle.txs_theorem_threads.specs.Behaves.{HasEnded, IsMeant}
use Rattle.txs_theorem_threads.specs.FollowsAgent.{SoundAction, action_target, taken_at}
use Rattle.txs_opt.specs.Fold.{folded_functions, folded_program}
use Rattle.txs_opt.specs.Inline.{functions_inlined, budget_of, inlined_program}
use Rattle.txs_opt.specs.Optimised.{optimised}
use Rattle.txs_opt.proofs.Below.{Each}
use Rattle.txs_opt.proofs.FoldedProgram.{calls_folded, length_folded}
use Rattle.txs_opt.proofs.FoldedSound.{sent_sound, functions_sound as folded_functions_sound, folded_program_sound}
use Rattle.txs_opt.proofs.InlinedFunctions.{length_inlined}
use Rattle.txs_opt.proofs.InlinedProgram.{calls_inlined}
use Rattle.txs_opt.proofs.InlinedSound.{functions_sound as inlined_functions_sound, inlined_program_sound}
use Rattle.txs_opt.proofs.Like.{IsInvalid, Like, AppliesLike, bind_like, improved, like_itself}
use Rattle.txs_opt.proofs.OneWorld.{Any, any_valid, valid_at, validated_like}
use Rattle.txs_compile.proofs.Behaving.{ended_valid, meant_valid}
use Rattle.txs_compile.proofs.Replies.{K, reply_forms, reply_ends}
use Rattle.txs_compile.proofs.Sources.{fx, each_bodies}

-- the meaning of each function on replies is kept
abbrev CallsKept : List PlainFunction → List PlainFunction → Type 0
CallsKept fs gs = (va : Validators) (n f : ℕ) (vs : List Value) (s : ActorState) → Like K (call_at (fx va) n fs (length fs) false f vs s) (call_at (fx va) n gs (length gs) false f vs s)

folded_kept : (fs : List PlainFunction) → CallsKept fs (folded_functions fs)
folded_kept fs va n f vs s =
    subst (λ j. Like K (call_at (fx va) n fs (length fs) false f vs s) (call_at (fx va) n (folded_functions fs) j false f vs s)) (sym (length_folded fs))
    (calls_folded ActorState K (λ j. Any) (fx va) (fx va) n fs (λ j. reply_forms va) (λ j e env. tt) (length fs) false f vs tt s s refl)

inlined_kept : (budget : ℕ) (fs : List PlainFunction) → CallsKept fs (functions_inlined [] budget fs).functions
inlined_kept budget fs va n f vs s =
    let gs = (functions_inlined [] budget fs).functions in
    let same : length fs ≡ length gs = omega (arith, length_inlined fs [] budget) in
    subst (λ j. Like K (call_at (fx va) n fs (length fs) false f vs s) (call_at (fx va) n gs j false f vs s)) same
    (calls_inlined ActorState K (λ j. Each) (λ i h. tt) (λ j i h. tt) (λ x y r. refl) (λ x y z p q. p ∙ q) (λ j. Any) (λ j. Any) (λ j. Any) (fx va) (fx va) n fs budget (each_bodies fs) (each_bodies gs) (λ j. reply_forms va) (λ j front within c left e env low is. tt)
    (λ j. reply_forms va) (λ j e env low. tt) (λ j c i e env env1 low w. tt) (λ j. reply_forms va) (λ j e env low. tt) (λ j. reply_ends va) (length fs) false f vs tt s s refl)

module _ (cells : List CellDefinition) (fs gs : List PlainFunction) (kept : CallsKept fs gs) (g : CellId) (a : Action) where
  abbrev va : Validators
  va = validators_of cells

  applied_at : (n : ℕ) (c : Callee) (vs : List Value) (s : ActorState) → Like K (applies_on cells fs n a c vs s) (applies_on cells gs n a c vs s)
  applied_at n (CoreOp op) vs s = like_itself ActorState K (λ u. refl) (result_of (core op vs) a.span s)
  applied_at n (Function f) vs s = kept va n f vs s

  applied_like : (n : ℕ) → AppliesLike ActorState K Each (applies_on cells fs n a) (applies_on cells gs n a)
  applied_like n c vs may s t r = subst (λ u. Like K (applies_on cells fs n a c vs s) (applies_on cells gs n a c vs u)) r (applied_at n c vs s)

  -- where the first isn't invalid, the second is the same
  action_kept : (v : Value) (s : ActorState) (n : ℕ) (todo : List Exchange) → Like K (action_source cells fs g a v s n todo) (action_source cells gs g a v s n todo)
  action_kept v s n todo =
      let o = validator_at va a.agent.number in
      let start = (taken_at g a v s todo).state in
      bind_like ActorState K (applies_on cells fs n a a.callee (v ∷ a.args) start) (applies_on cells gs n a a.callee (v ∷ a.args) start) (λ w s1. validated (applies_on cells fs n a) o a.span w s1) (λ w s1. validated (applies_on cells gs n a) o a.span w s1)
      (applied_at n a.callee (v ∷ a.args) start) (λ w. validated_like ActorState K Each (applies_on cells fs n a) (applies_on cells gs n a) (applied_like n) o a.span w (valid_at Each va a.agent.number (any_valid va)))

  module _ (code : Library) (b : ActionBehaves code cells gs g a) where
    same_as : (v : Value) (s : ActorState) (n : ℕ) (todo : List Exchange) → (IsInvalid (action_source cells fs g a v s n todo) → ⊥) → action_source cells gs g a v s n todo ≡ action_source cells fs g a v s n todo
    same_as v s n todo valid = improved ActorState (action_source cells fs g a v s n todo) (action_source cells gs g a v s n todo) (action_kept v s n todo) valid

    action_before : ActionBehaves code cells fs g a
    action_before = record {
      follows = λ v s todo n idle h.
          let same = same_as v s n todo (ended_valid (action_source cells fs g a v s n todo) h) in
          let r = b.follows v s todo n idle (subst HasEnded (sym same) h) in
          (r.0, subst (λ x. EndsAs g x (action_target code g a v s r.0 todo)) same r.1);
      goes_on = λ v s todo n s1 idle is.
          let valid : IsInvalid (action_source cells fs g a v s n todo) → ⊥ = subst (λ x. IsInvalid x → ⊥) (sym is) (λ e. e) in
          b.goes_on v s todo n s1 idle (same_as v s n todo valid ∙ is);
      only = λ v s todo m idle over meant.
          let same = same_as v s m todo (meant_valid (action_source cells fs g a v s m todo) meant) in
          subst (λ x. EndsAs g x (action_target code g a v s m todo)) same (b.only v s todo m idle over (subst IsMeant (sym same) meant));
    }

-- what the program may send may be sent of the optimised program
pub sent_after : (limit : ℕ) (p : PlainProgram) → Sound p → (a : Action) → SoundAction p.functions a → SoundAction (optimised limit p).functions a
sent_after limit p sound a fits =
    let q = folded_program p in
    let qs = folded_program_sound p sound in
    let r = inlined_program limit q in
    let rs = inlined_program_sound limit q qs in
    let n = suc (length a.args) in
    let folded = sent_sound (known p.functions) (known q.functions) (folded_functions_sound p.functions [] [] tt sound.functions).1 a.callee n fits in
    let inlined = sent_sound (known q.functions) (known r.functions) (inlined_functions_sound q.functions [] [] (budget_of limit q) tt tt qs.functions).1 a.callee n folded in
    sent_sound (known r.functions) (known (optimised limit p).functions) (folded_functions_sound r.functions [] [] tt rs.functions).1 a.callee n inlined

pub agents_before : (code : Library) (limit : ℕ) (p : PlainProgram) (g : CellId) (a : Action) → ActionBehaves code p.cells (optimised limit p).functions g a → ActionBehaves code p.cells p.functions g a
agents_before code limit p g a b =
    let q = folded_program p in
    let r = inlined_program limit q in
    action_before p.cells p.functions q.functions (folded_kept p.functions) g a code
    (action_before p.cells q.functions r.functions (inlined_kept (budget_of limit q) q.functions) g a code
    (action_before p.cells r.functions (optimised limit p).functions (folded_kept r.functions) g a code b))
