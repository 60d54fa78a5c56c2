-- The code of functions does what an action's callee means, on any replies.
use Rattle.std.specs.Prelude.{◌≡◌, ◌≤◌, ℕ, false, List, [], ◌∷◌, length, Option, Some, None, Ok, Err}
use Rattle.txs_world_protocol.specs.Ask.{Exchange, same_ask}
use Rattle.txs_world_protocol.specs.declared.ask.Ask.{Ask}
use Rattle.txs_world_protocol.specs.declared.ask.Ask.TheVariants.{Finish}
use Rattle.txs_value_cell.specs.Cells.{validators_of, validator_at}
use Rattle.txs_value_cell.specs.declared.action.Action.{Action}
use Rattle.txs_value_cell.specs.declared.cell.CellDefinition.{CellDefinition}
use Rattle.txs_value_data.specs.declared.value.CellId.{CellId}
use Rattle.txs_value_data.specs.declared.value.Value.{Value}
use Rattle.txs_tree_meaning.specs.Meaning.{Completion, Completes, Recurs, Faults, Retries, Waits, OutOfTurns, Invalid, bind, Applies, apply, call_at}
use Rattle.txs_tree_meaning.specs.Sound.{SoundFunctions, SoundCells}
use Rattle.txs_tree_meaning.specs.Known.{known}
use Rattle.txs_tree_meaning.specs.Transaction.{validated}
use Rattle.txs_tree_meaning.specs.Tree.{PlainFunction}
use Rattle.txs_code_meaning.specs.ActorState.{ActorState, InHand}
use Rattle.txs_code_meaning.specs.Machine.{Library, Outcome, Ended, Failed, Asking, Unfinished, Stuck}
use Rattle.txs_theorem_threads.specs.Behaves.{IsMeant, HasEnded, IsOver}
use Rattle.txs_theorem_threads.specs.FollowsAgent.{SoundAction, FollowsAgents, IsBetween, action_target, taken_at}
use Rattle.txs_theorem_threads.specs.OnReplies.{on_replies}

-- a callee applied on replies, outside every transaction
abbrev pub applies_on : List CellDefinition → List PlainFunction → ℕ → Action → Applies ActorState
applies_on cells functions n a = apply (call_at (λ d. on_replies (validators_of cells)) n functions (length functions) false) a.span

-- the action from this state on these exchanges, where each loop makes at most n turns
abbrev pub action_source : List CellDefinition → List PlainFunction → CellId → Action → Value → ActorState → ℕ → List Exchange → Completion ActorState Value
action_source cells functions g a v s n todo =
    bind (applies_on cells functions n a a.callee (v ∷ a.args) (taken_at g a v s todo).state)
    (λ w s1. validated (applies_on cells functions n a) (validator_at (validators_of cells) a.agent.number) a.span w s1)

-- the sends that an action holds
abbrev pub handed : Option InHand → List Action
handed None = []
handed (Some h) = h.sends

-- the next exchange, if there is one, doesn't answer this
abbrev pub IsUnanswered : Ask → List Exchange → Type 0
IsUnanswered q [] = Unit {0}
IsUnanswered q (x ∷ xs) = same_ask q x.ask ≡ false

-- this is asked, these exchanges are left, and this was printed
abbrev pub AsksWith : Ask → List Exchange → List ℕ → Outcome → Type 0
AsksWith q left out (Ended s) = ⊥
AsksWith q left out (Failed f s) = ⊥
AsksWith q left out (Asking s) = (s.todo ≡ left) × (s.wants ≡ Some q) × (s.printed ≡ out)
AsksWith q left out (Unfinished s) = ⊥
AsksWith q left out Stuck = ⊥

-- Where the machine has come to, by how the action's tree ends: a value is handed in with the sends that are held, a fault without any. What
-- comes after that is answered isn't said here.
abbrev pub EndsAs : CellId → Completion ActorState Value → Outcome → Type 0
EndsAs g (Completes v s) o = IsUnanswered (Finish g (Ok v) (handed s.acting)) s.todo → AsksWith (Finish g (Ok v) (handed s.acting)) s.todo s.printed o
EndsAs g (Recurs vs s) o = o ≡ Stuck
EndsAs g (Faults f s) o = IsUnanswered (Finish g (Err f) []) s.todo → AsksWith (Finish g (Err f) []) s.todo s.printed o
EndsAs g (Retries s) o = o ≡ Stuck
EndsAs g (Waits s) o = o ≡ Asking s
EndsAs g (OutOfTurns s) o = o ≡ Unfinished s
EndsAs g Invalid o = o ≡ Stuck

-- the code does what the action does, and nothing else, from any state between two actions
pub record ActionBehaves (code : Library) (cells : List CellDefinition) (functions : List PlainFunction) (g : CellId) (a : Action) : Type 0 where
  pub follows : (v : Value) (s : ActorState) (todo : List Exchange) (n : ℕ) → IsBetween s → HasEnded (action_source cells functions g a v s n todo) → (m : ℕ) × EndsAs g (action_source cells functions g a v s n todo) (action_target code g a v s m todo)
  pub goes_on : (v : Value) (s : ActorState) (todo : List Exchange) (n : ℕ) (s1 : ActorState) → IsBetween s → action_source cells functions g a v s n todo ≡ OutOfTurns s1 → (m : ℕ) × (n ≤ m) × (action_target code g a v s m todo ≡ Unfinished s1)
  pub only : (v : Value) (s : ActorState) (todo : List Exchange) (m : ℕ) → IsBetween s → IsOver (action_target code g a v s m todo) → IsMeant (action_source cells functions g a v s m todo) → EndsAs g (action_source cells functions g a v s m todo) (action_target code g a v s m todo)

-- code of sound functions and cells that behaves so follows the actions of each agent
abbrev pub SoundFollowsAgents : Type 0
SoundFollowsAgents =
    (code : Library) (cells : List CellDefinition) (functions : List PlainFunction) → SoundFunctions [] functions → SoundCells (known functions) cells → code.validators ≡ validators_of cells
    → ((g : CellId) (a : Action) → a.agent ≡ g → SoundAction functions a → ActionBehaves code cells functions g a) → FollowsAgents code cells functions
