-- Code that behaves as an optimised program's trees follows the program from before.
use Rattle.std.specs.Prelude.{◌≡◌, ℕ, List}
use Rattle.txs_value_cell.specs.Cells.{validators_of}
use Rattle.txs_value_cell.specs.declared.action.Action.{Action}
use Rattle.txs_value_data.specs.declared.value.CellId.{CellId}
use Rattle.txs_tree_meaning.specs.Sound.{Sound}
use Rattle.txs_tree_meaning.specs.Tree.{PlainProgram}
use Rattle.txs_code_meaning.specs.Machine.{Library, ThreadCode}
use Rattle.txs_theorem_threads.specs.ActionsBehave.{ActionBehaves}
use Rattle.txs_theorem_threads.specs.FollowsAgent.{SoundAction, FollowsAgents}
use Rattle.txs_theorem_threads.specs.FollowsAll.{BehavesAll, FollowsAll}
use Rattle.txs_opt.specs.Keeps.{MeansSame}
use Rattle.txs_opt.specs.Optimised.{optimised}

-- code that behaves as the optimised trees behaves as those from before, for every bound on loops
abbrev pub BehavesBefore : Type 0
BehavesBefore = (codes : List ThreadCode) (limit : ℕ) (p : PlainProgram) → BehavesAll codes (optimised limit p) → BehavesAll codes p

-- so it follows the program from before
abbrev pub OptimisedFollows : Type 0
OptimisedFollows = (codes : List ThreadCode) (limit : ℕ) (p : PlainProgram) → Sound p → BehavesAll codes (optimised limit p) → FollowsAll codes p

-- an optimised program is sound
abbrev pub OptimisedSound : Type 0
OptimisedSound = (limit : ℕ) (p : PlainProgram) → Sound p → Sound (optimised limit p)

-- code that does in actions what the optimised functions mean follows the agents' actions by the functions from before
abbrev pub OptimisedFollowsAgents : Type 0
OptimisedFollowsAgents = (code : Library) (limit : ℕ) (p : PlainProgram) → Sound p → code.validators ≡ validators_of p.cells
    → ((g : CellId) (a : Action) → a.agent ≡ g → SoundAction (optimised limit p).functions a → ActionBehaves code p.cells (optimised limit p).functions g a) → FollowsAgents code p.cells p.functions

-- an optimised program means what the program means, on any events
abbrev pub OptimisedMeansSame : Type 0
OptimisedMeansSame = (limit : ℕ) (p : PlainProgram) → Sound p → MeansSame p (optimised limit p)
