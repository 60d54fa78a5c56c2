-- The code of a program does what its agents' actions mean.
use Rattle.std.specs.Prelude.{◌≡◌}
use Rattle.txs_value_cell.specs.declared.action.Action.{Action}
use Rattle.txs_value_data.specs.declared.value.CellId.{CellId}
use Rattle.txs_tree_meaning.specs.Sound.{Sound}
use Rattle.txs_tree_meaning.specs.Tree.{PlainProgram}
use Rattle.txs_code_meaning.specs.PlainCode.{PlainCode, library_of}
use Rattle.txs_theorem_threads.specs.ActionsBehave.{ActionBehaves}
use Rattle.txs_theorem_threads.specs.FollowsAgent.{SoundAction, FollowsAgents}
use Rattle.txs_gen.specs.Generated.{IsCodeOf}

-- the code of a sound program's functions does what an action means that the program may send, on any replies
abbrev pub CodeOfActionsBehaves : Type 0
CodeOfActionsBehaves =
    (code : PlainCode) (p : PlainProgram) (g : CellId) (a : Action) → Sound p → IsCodeOf code p → a.agent ≡ g → SoundAction p.functions a → ActionBehaves (library_of code) p.cells p.functions g a

-- the code of a sound program's functions follows the actions of each agent
abbrev pub AgentsFollow : Type 0
AgentsFollow = (code : PlainCode) (p : PlainProgram) → Sound p → IsCodeOf code p → FollowsAgents (library_of code) p.cells p.functions
