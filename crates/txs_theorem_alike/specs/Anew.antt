-- A transaction that begins anew after tries that failed: as if it had not been tried.
use Rattle.std.specs.Prelude.{◌≡◌, ℕ, Bool, List, [], Some, None}
use Rattle.txs_value_cell.specs.declared.cell.CellDefinition.{CellDefinition}
use Rattle.txs_value_data.specs.declared.fault.Span.{Span}
use Rattle.txs_code_meaning.specs.Machine.{ThreadCode, TxBegin, fetch, Activity, Outside, Restarting, Running, Applying, Swapping, Configuration, Unfinished}
use Rattle.txs_theorem_runs.specs.Invariant.{RunInvariant}
use Rattle.txs_theorem_runs.specs.Run.{TakesTurn, Actor, State, play}
use Rattle.txs_theorem_runs.specs.Stages.{Idle}
use Rattle.txs_theorem_alike.specs.InStages.{AlikeInStages}
use Rattle.txs_theorem_alike.specs.Turns.{AsksFreely}
use Rattle.txs_theorem_alike.specs.Tries.{AlikeBut, without, TryAmong}
use Rattle.txs_theorem_alike.specs.States.{after_turns}

-- nothing is open, or a transaction is to begin anew
abbrev pub IsOutside : Activity → Type 0
IsOutside Outside = Unit {0}
IsOutside (Restarting left) = Unit {0}
IsOutside (Running left inner from) = ⊥
IsOutside (Applying left from work values) = ⊥
IsOutside (Swapping swap from) = ⊥

-- An actor whose next instruction begins a transaction, for the first time or anew; it has heard all, and no answer of a validator waits.
pub record StandsAtBegin (code : ThreadCode) (span : Span) (x : Actor) : Type 0 where
  pub here : Configuration
  pub is_here : x.at ≡ Unfinished here
  pub goes : x.stopped ≡ None
  pub begins : fetch code here.body here.place ≡ Some (TxBegin span)
  pub outside : IsOutside here.doing
  pub heard : here.state.todo ≡ []
  pub judged : here.state.accepted ≡ None

-- so it stands in both states, and may ask there, and there is room
pub record BothBegin (cells : List CellDefinition) (threads : ℕ) (codes : ℕ → ThreadCode) (a : ℕ) (st other : State) : Type 0 where
  pub span : Span
  pub one : StandsAtBegin (codes a) span (st.actors a)
  pub two : StandsAtBegin (codes a) span (other.actors a)
  pub asks_one : AsksFreely cells threads (codes a) a (st.actors a).at st.shared
  pub asks_two : AsksFreely cells threads (codes a) a (other.actors a).at other.shared

-- where it is outside of every transaction in alike states, these are alike with its tries left out
abbrev pub AlikeStands : Type 0
AlikeStands = (cells : List CellDefinition) (threads : ℕ) (codes : ℕ → ThreadCode) (agent : ℕ → Bool) (a : ℕ) (st other : State)
    → (alike : AlikeInStages cells agent st other) → BothBegin cells threads codes a st other → alike.first a ≡ Idle → alike.second a ≡ Idle → AlikeBut cells agent a st other

-- Where it begins in both, anew or for the first time, the states are alike: nothing is left of the tries that failed.
abbrev pub BeginsAnew : Type 0
BeginsAnew = (cells : List CellDefinition) (threads : ℕ) (codes : ℕ → ThreadCode) (agent : ℕ → Bool) (a : ℕ) (st other : State)
    → AlikeBut cells agent a st other → BothBegin cells threads codes a st other
    → AlikeInStages cells agent (play cells threads codes (TakesTurn a) st) (play cells threads codes (TakesTurn a) other)

-- From alike states in which an actor stands at the beginning of a transaction: turns among which it tries in vain, and its begin anew, come to what the turns of the others come to, and
-- its begin. Nothing was tried in the second.
abbrev pub FailedTriesAreNothing : Type 0
FailedTriesAreNothing = (cells : List CellDefinition) (threads : ℕ) (codes : ℕ → ThreadCode) (agent : ℕ → Bool) (a : ℕ) (turns : List ℕ) (st other : State)
    → RunInvariant cells threads codes st → RunInvariant cells threads codes other
    → (alike : AlikeInStages cells agent st other) → alike.first a ≡ Idle → alike.second a ≡ Idle → BothBegin cells threads codes a st other
    → TryAmong cells threads codes agent a turns st other
    → BothBegin cells threads codes a (after_turns cells threads codes turns st) (after_turns cells threads codes (without a turns) other)
    → AlikeInStages cells agent (play cells threads codes (TakesTurn a) (after_turns cells threads codes turns st))
    (play cells threads codes (TakesTurn a) (after_turns cells threads codes (without a turns) other))
