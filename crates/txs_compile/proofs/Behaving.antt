-- Code that behaves as a thread's optimised tree behaves as the tree.
use Rattle.std.proofs.Common.{◌≡◌, ℕ, List, sym, ap, ◌∙◌, subst}
use Rattle.txs_world_protocol.specs.Ask.{Exchange}
use Rattle.txs_value_data.specs.declared.value.Value.{Value}
use Rattle.txs_tree_meaning.specs.Meaning.{Completion, Completes, Recurs, Faults, Retries, Waits, OutOfTurns, Invalid}
use Rattle.txs_tree_meaning.specs.Tree.{ThreadSource}
use Rattle.txs_code_meaning.specs.ActorState.{ActorState}
use Rattle.txs_code_meaning.specs.Machine.{ThreadCode}
use Rattle.txs_theorem_threads.specs.Behaves.{source, Behaves, HasEnded, IsMeant, outcome_of}
use Rattle.txs_opt.proofs.Like.{IsInvalid, improved}
use Rattle.txs_compile.proofs.Sources.{SourceKept}

pub ended_valid : (x : Completion ActorState Value) → HasEnded x → IsInvalid x → ⊥
ended_valid (Completes v s) h e = e
ended_valid (Recurs vs s) h e = e
ended_valid (Faults f s) h e = e
ended_valid (Retries s) h e = e
ended_valid (Waits s) h e = e
ended_valid (OutOfTurns s) h e = e
ended_valid Invalid h e = h

pub meant_valid : (x : Completion ActorState Value) → IsMeant x → IsInvalid x → ⊥
meant_valid (Completes v s) h e = e
meant_valid (Recurs vs s) h e = e
meant_valid (Faults f s) h e = e
meant_valid (Retries s) h e = e
meant_valid (Waits s) h e = e
meant_valid (OutOfTurns s) h e = e
meant_valid Invalid h e = h

-- where the optimised tree is kept for every bound on loops, code behaves as the tree from before
pub behaves_before : (code : ThreadCode) (p q : ThreadSource) → ((n : ℕ) (todo : List Exchange) → SourceKept p q n todo) → Behaves code q → Behaves code p
behaves_before code p q kept b = record {
  follows = λ todo n h.
      let same : source q n todo ≡ source p n todo = improved ActorState (source p n todo) (source q n todo) (kept n todo) (ended_valid (source p n todo) h) in
      let r = b.follows todo n (subst HasEnded (sym same) h) in
      (r.0, r.1 ∙ ap outcome_of same);
  goes_on = λ todo n s is.
      let valid : IsInvalid (source p n todo) → ⊥ = subst (λ x. IsInvalid x → ⊥) (sym is) (λ e. e) in
      let same : source q n todo ≡ source p n todo = improved ActorState (source p n todo) (source q n todo) (kept n todo) valid in
      b.goes_on todo n s (same ∙ is);
  only = λ todo m o over at meant.
      let same : source q m todo ≡ source p m todo = improved ActorState (source p m todo) (source q m todo) (kept m todo) (meant_valid (source p m todo) meant) in
      sym (ap outcome_of same) ∙ b.only todo m o over at (subst IsMeant (sym same) meant);
}
