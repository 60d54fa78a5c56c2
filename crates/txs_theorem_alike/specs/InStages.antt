-- States that are alike, where it is said for each actor in which stage it is.
use Rattle.std.specs.Prelude.{◌≡◌, ℕ, Bool, List, None}
use Rattle.txs_value_cell.specs.declared.cell.CellDefinition.{CellDefinition}
use Rattle.txs_code_meaning.specs.Machine.{ThreadCode}
use Rattle.txs_theorem_runs.specs.Invariant.{RunInvariant}
use Rattle.txs_theorem_runs.specs.Run.{State}
use Rattle.txs_theorem_runs.specs.Staged.{StagedActor, IsStaged}
use Rattle.txs_theorem_runs.specs.Stages.{Stage}
use Rattle.txs_theorem_alike.specs.Actors.{ActorsAlike}
use Rattle.txs_theorem_alike.specs.Stages.{AllAlike}
use Rattle.txs_theorem_alike.specs.States.{StatesAlike}

-- What is shared is alike, and each actor is the same but for places and tries, in a stage whose places tell in one state what they tell in the other.
pub record AlikeInStages (cells : List CellDefinition) (agent : ℕ → Bool) (st other : State) : Type 0 where
  pub first : ℕ → Stage
  pub second : ℕ → Stage
  pub all : AllAlike cells st.shared other.shared first second
  pub actors : (b : ℕ) → ActorsAlike (st.actors b) (other.actors b)
  pub in_first : (b : ℕ) → (st.actors b).stopped ≡ None → IsStaged (agent b) (first b) (st.actors b).at
  pub in_other : (b : ℕ) → (other.actors b).stopped ≡ None → IsStaged (agent b) (second b) (other.actors b).at

-- alike states of runs are alike in stages
abbrev pub AlikeHaveStages : Type 0
AlikeHaveStages = (cells : List CellDefinition) (threads : ℕ) (codes : ℕ → ThreadCode) (agent : ℕ → Bool) (st other : State)
    → RunInvariant cells threads codes st → RunInvariant cells threads codes other → ((b : ℕ) → StagedActor (agent b) (codes b))
    → StatesAlike cells agent st other → AlikeInStages cells agent st other

-- and states that are alike in stages are alike
abbrev pub StagesAreAlike : Type 0
StagesAreAlike = (cells : List CellDefinition) (agent : ℕ → Bool) (st other : State) → AlikeInStages cells agent st other → StatesAlike cells agent st other
