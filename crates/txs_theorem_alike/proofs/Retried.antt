-- A computed run in which a transaction has to run again.
use Rattle.std.proofs.Common.{◌≡◌, ℕ, Bool, true, List, [], ◌∷◌, Option, Some, None, refl, ap, ◌∙◌, subst}
use Rattle.txs_world_protocol.specs.declared.ask.Ask.{Ask}
use Rattle.txs_value_cell.specs.declared.cell.CellDefinition.{CellDefinition}
use Rattle.txs_value_cell.specs.declared.form.PutForm.TheVariants.{RefSet}
use Rattle.txs_value_data.specs.Limits.{most_events, reruns}
use Rattle.txs_value_data.specs.declared.value.Value.TheVariants.{Nil, Cell}
use Rattle.txs_code_meaning.specs.ActorState.{asks, begin, commit}
use Rattle.txs_code_meaning.specs.Opening.{fresh}
use Rattle.txs_code_meaning.specs.Machine.{ThreadCode, first_place, Push, TxBegin, TxEnd, PutOf, Halt, Configuration, Turned, Ended, Failed, Asking, Unfinished, Stuck, turn}
use Rattle.txs_theorem_runs.specs.Goes.{AsksAt}
use Rattle.txs_theorem_runs.specs.Run.{State, plays}
use Rattle.txs_theorem_alike.specs.Commits.{reply_to}
use Rattle.txs_theorem_alike.specs.Needed.{one_ref}
use Rattle.txs_theorem_alike.specs.Retried.{RetriesOccur}
use Rattle.txs_theorem_alike.specs.States.{after_turns}
use Rattle.txs_theorem_alike.specs.Unseen.{is_unseen}
use Rattle.txs_theorem_alike.proofs.Examples.{a_ref, no_span}

-- code that sets the ref in a transaction
abbrev sets_once : ThreadCode
sets_once =
    record {
      functions = [];
      validators = [];
      main = record { locals = 0; instrs = TxBegin no_span ∷ Push (Cell a_ref) ∷ Push Nil ∷ PutOf RefSet no_span ∷ TxEnd ∷ Halt ∷ [] };
    }

abbrev place_of : Turned Configuration → Configuration
place_of (Ended s) = first_place [] s
place_of (Failed f s) = first_place [] s
place_of (Asking s) = first_place [] s
place_of (Unfinished c) = c
place_of Stuck = first_place [] (fresh [])

-- the request that an actor waits with
abbrev wanted : Turned Configuration → Option Ask
wanted (Ended s) = None
wanted (Failed f s) = None
wanted (Asking s) = s.wants
wanted (Unfinished c) = None
wanted Stuck = None

abbrev Meets : (Ask → Bool) → Option Ask → Type 0
Meets f None = Unit {0}
Meets f (Some q) = f q ≡ true

meets : (f : Ask → Bool) (c : Configuration) → Meets f (wanted (turn sets_once c)) → (q : Ask) → AsksAt sets_once c q → f q ≡ true
meets f c m q h = subst (λ w. Meets f w) (ap wanted h.1 ∙ h.2) m

-- the state after these turns, the configuration of the first thread there, and whether its request changes nothing there
abbrev state : CellDefinition → List ℕ → State
state d ts = after_turns (one_ref d) 2 (λ a. sets_once) ts (plays (one_ref d) 2 (λ a. sets_once) [])

abbrev here_at : CellDefinition → List ℕ → Configuration
here_at d ts = place_of ((state d ts).actors 0).at

abbrev looks : CellDefinition → List ℕ → Ask → Bool
looks d ts q = is_unseen q (reply_to (one_ref d) 0 q (state d ts).shared)

pub retries_occur : RetriesOccur
unfolding asks begin commit most_events reruns
retries_occur d = record {
  codes = λ a. sets_once;
  span = no_span;
  turns = 0 ∷ 0 ∷ 0 ∷ 0 ∷ 1 ∷ 1 ∷ 1 ∷ 1 ∷ 1 ∷ 0 ∷ [];
  begins = record { here = here_at d []; is_here = refl; goes = refl; begins = refl; outside = tt; judged = refl };
  tries = (record { here = here_at d ([]); is_here = refl; part = (no_span, refl); unseen = meets (looks d ([])) (here_at d ([])) refl; still = (here_at d (0 ∷ []), refl, tt, refl) }, (record { here = here_at d (0 ∷ []); is_here = refl; part = tt; unseen = meets (looks d (0 ∷ [])) (here_at d (0 ∷ [])) tt; still = (here_at d (0 ∷ 0 ∷ []), refl, tt, refl) }, (record { here = here_at d (0 ∷ 0 ∷ []); is_here = refl; part = tt; unseen = meets (looks d (0 ∷ 0 ∷ [])) (here_at d (0 ∷ 0 ∷ [])) tt; still = (here_at d (0 ∷ 0 ∷ 0 ∷ []), refl, tt, refl) }, (record { here = here_at d (0 ∷ 0 ∷ 0 ∷ []); is_here = refl; part = tt; unseen = meets (looks d (0 ∷ 0 ∷ 0 ∷ [])) (here_at d (0 ∷ 0 ∷ 0 ∷ [])) tt; still = (here_at d (0 ∷ 0 ∷ 0 ∷ 0 ∷ []), refl, tt, refl) }, (tt, (tt, (tt, (tt, (tt, (record { here = here_at d (0 ∷ 0 ∷ 0 ∷ 0 ∷ 1 ∷ 1 ∷ 1 ∷ 1 ∷ 1 ∷ []); is_here = refl; part = tt; unseen = meets (looks d (0 ∷ 0 ∷ 0 ∷ 0 ∷ 1 ∷ 1 ∷ 1 ∷ 1 ∷ 1 ∷ [])) (here_at d (0 ∷ 0 ∷ 0 ∷ 0 ∷ 1 ∷ 1 ∷ 1 ∷ 1 ∷ 1 ∷ [])) refl; still = (here_at d (0 ∷ 0 ∷ 0 ∷ 0 ∷ 1 ∷ 1 ∷ 1 ∷ 1 ∷ 1 ∷ 0 ∷ []), refl, tt, refl) }, tt))))))))));
  anew = record { here = here_at d (0 ∷ 0 ∷ 0 ∷ 0 ∷ 1 ∷ 1 ∷ 1 ∷ 1 ∷ 1 ∷ 0 ∷ []); is_here = refl; goes = refl; begins = refl; outside = tt; judged = refl };
  retried = refl;
}
