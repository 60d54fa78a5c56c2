-- What is asked for at the end of a transaction whose sends an action holds.
use Rattle.std.proofs.Common.{◌≡◌, List, [], ◌∷◌, ◌++◌, Option, Some, None, refl, sym, subst}
use Rattle.txs_code_meaning.specs.ActorState.{InHand}
use Rattle.txs_value_cell.specs.declared.action.Action.{Action}
use Rattle.txs_machine_transaction.specs.Roles.{commit_in}
use Rattle.txs_machine_transaction.specs.declared.state.Pending.TheVariants as pending

-- where there are no sends nothing is held
pub nothing_held : (xs : List Action) (o : Option InHand) → xs ≡ [] → commit_in xs o ≡ pending.Commit
nothing_held [] o e = refl
nothing_held (x ∷ xs) o e = cc

-- a thread commits them
pub thread_commits : (xs : List Action) (o : Option InHand) → o ≡ None → commit_in xs o ≡ pending.Commit
thread_commits [] o e = refl
thread_commits (x ∷ xs) None e = refl
thread_commits (x ∷ xs) (Some h) e = cc

-- an action holds them, where there are some
pub action_holds : (xs : List Action) (o : Option InHand) (h : InHand) → o ≡ Some h → (xs ≡ [] → ⊥) → commit_in xs o ≡ pending.Hold (h.sends ++ xs)
action_holds [] o h e some_sends = absurd (some_sends refl)
action_holds (x ∷ xs) o h e some_sends = subst (λ (y : Option InHand). commit_in (x ∷ xs) y ≡ pending.Hold (h.sends ++ x ∷ xs)) (sym e) refl
