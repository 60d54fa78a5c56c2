-- To be alike is an equivalence of states of runs.
use Rattle.std.specs.Prelude.{ℕ, Bool, List}
use Rattle.txs_value_cell.specs.declared.cell.CellDefinition.{CellDefinition}
use Rattle.txs_code_meaning.specs.Machine.{ThreadCode}
use Rattle.txs_theorem_runs.specs.Invariant.{RunInvariant}
use Rattle.txs_theorem_runs.specs.Run.{State}
use Rattle.txs_theorem_runs.specs.Staged.{StagedActor}
use Rattle.txs_theorem_alike.specs.States.{StatesAlike}

-- a state of a run is alike to itself
abbrev pub StatesItself : Type 0
StatesItself = (cells : List CellDefinition) (threads : ℕ) (codes : ℕ → ThreadCode) (agent : ℕ → Bool) (st : State)
    → RunInvariant cells threads codes st → ((b : ℕ) → StagedActor (agent b) (codes b)) → StatesAlike cells agent st st

-- the other way round
abbrev pub StatesBack : Type 0
StatesBack = (cells : List CellDefinition) (agent : ℕ → Bool) (st other : State) → StatesAlike cells agent st other → StatesAlike cells agent other st

-- and on to a third
abbrev pub StatesOn : Type 0
StatesOn = (cells : List CellDefinition) (agent : ℕ → Bool) (st other third : State) → StatesAlike cells agent st other → StatesAlike cells agent other third → StatesAlike cells agent st third
