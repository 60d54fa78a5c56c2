-- What it is that the code of functions follows the actions that agents run.
use Rattle.std.specs.Prelude.{◌≡◌, ◌≤◌, ℕ, suc, List, [], ◌∷◌, ◌++◌, length, Option, Some, None, Result, Ok, Err}
use Rattle.txs_world_protocol.specs.Ask.{Exchange}
use Rattle.txs_world_protocol.specs.SeenEvent.{SeenEvent}
use Rattle.txs_world_protocol.specs.declared.ask.Ask.{Ask}
use Rattle.txs_world_protocol.specs.declared.ask.Ask.TheVariants.{Finish}
use Rattle.txs_value_cell.specs.Cells.{World, validators_of}
use Rattle.txs_value_cell.specs.declared.action.Action.{Action}
use Rattle.txs_value_cell.specs.declared.cell.CellDefinition.{CellDefinition}
use Rattle.txs_value_data.specs.declared.fault.Fault.{Fault}
use Rattle.txs_value_data.specs.declared.value.CellId.{CellId}
use Rattle.txs_value_data.specs.declared.value.Value.{Value}
use Rattle.txs_tree_meaning.specs.Known.{known}
use Rattle.txs_tree_meaning.specs.Meaning.{Completion, Completes, Faults}
use Rattle.txs_tree_meaning.specs.Sound.{SoundSent}
use Rattle.txs_tree_meaning.specs.Thread.{ThreadState, action_meaning}
use Rattle.txs_tree_meaning.specs.Tree.{PlainFunction}
use Rattle.txs_code_meaning.specs.ActorState.{ActorState}
use Rattle.txs_code_meaning.specs.Machine.{Library, agent_code, Outside, Configuration, Outcome, Ended, Failed, Asking, Unfinished, Stuck, exec}
use Rattle.txs_theorem_threads.specs.EndsSo.{NeedsTurns, HasSettled, in_hand}
use Rattle.txs_theorem_threads.specs.Noted.{AreNoted, txs_of}
use Rattle.txs_theorem_threads.specs.PrintsSo.{HasPrintedSo}
use Rattle.txs_theorem_threads.specs.RepliesFit.{Phase, Out, book_asked, HasWaitedFor, HasEaten, HasEatenAll, halted, Consumed}
use Rattle.txs_theorem_threads.specs.RepliesFitTo.{RepliesFitTo}

-- an action that a program may send: its callee isn't for transactions alone, and takes the agent's state and the arguments
abbrev pub SoundAction : List PlainFunction → Action → Type 0
SoundAction functions a = SoundSent (known functions) a.callee (suc (length a.args))

-- an actor's state between two actions: it runs none, and no answer of a validator waits
abbrev pub IsBetween : ActorState → Type 0
IsBetween s = (s.acting ≡ None) × (s.accepted ≡ None)

-- where an agent in this state is once it has taken an action on this value, with these exchanges to come
abbrev pub taken_at : CellId → Action → Value → ActorState → List Exchange → Configuration
taken_at g a v s todo =
    record {
      body = 0;
      place = 1;
      stack = v ∷ [];
      locals = [];
      frames = [];
      doing = Outside;
      state = record s { todo = todo; acting = Some (record { agent = g; action = a; sends = []; fault = None }) };
    }

-- an agent that runs this action from there, after at most m turns
abbrev pub action_target : Library → CellId → Action → Value → ActorState → ℕ → List Exchange → Outcome
action_target code g a v s m todo = exec (agent_code code g) m (taken_at g a v s todo)

-- What is handed in, with what was printed, is what the action means: a value with the sends that it holds, or a fault, which drops them; and
-- all events are eaten.
abbrev pub IsHandedIn : Result Value Fault → List Action → List ℕ → Completion ThreadState Value → Type 0
IsHandedIn (Ok v) sends out r = (t : ThreadState) × (r ≡ Completes v t) × (t.todo ≡ []) × (t.printed ≡ out) × (t.held ≡ Some sends)
IsHandedIn (Err f) sends out r = (t : ThreadState) × (r ≡ Faults f t) × (t.todo ≡ []) × (t.printed ≡ out) × (sends ≡ [])

-- What an action means that has to ask this: where it is handed in, that. Else it needs an event of the book that answers the ask, and has eaten all.
abbrev pub MeansAsked : List CellDefinition → CellId → Option Ask → List ℕ → Completion ThreadState Value → Type 0
MeansAsked cells g None out r = ⊥
MeansAsked cells g (Some (Finish h new sends)) out r = (h ≡ g) × IsHandedIn new sends out r
MeansAsked cells g (Some q) out r = HasWaitedFor (book_asked cells q) out (halted r)

-- these bytes were printed behind those
abbrev pub PrintedBehind : List ℕ → List ℕ → (List ℕ → Type 0) → Type 0
PrintedBehind before whole P = (out : List ℕ) × (whole ≡ before ++ out) × P out

-- what an action means, where the machine is so far and has consumed all exchanges; these bytes were printed before the action
abbrev pub ActionExplained : List CellDefinition → CellId → List ℕ → Outcome → Completion ThreadState Value → Type 0
ActionExplained cells g before (Ended s) r = ⊥
ActionExplained cells g before (Failed f s) r = ⊥
ActionExplained cells g before (Asking s) r = PrintedBehind before s.printed (λ out. MeansAsked cells g s.wants out r)
ActionExplained cells g before (Unfinished s) r = PrintedBehind before s.printed (λ out. (rest : List ℕ) × HasEatenAll (out ++ rest) r)
ActionExplained cells g before Stuck r = ⊥

-- the machine asks
abbrev pub IsAsking : Outcome → Type 0
IsAsking (Ended s) = ⊥
IsAsking (Failed f s) = ⊥
IsAsking (Asking s) = Unit {0}
IsAsking (Unfinished s) = ⊥
IsAsking Stuck = ⊥

-- The code follows an action, from any state between two actions, on all replies that fit its events up to some phase: those that came since the
-- action was taken, before it is handed in.
pub record FollowsAction (code : Library) (cells : List CellDefinition) (functions : List PlainFunction) (g : CellId) (a : Action) : Type 0 where
  -- After any number of turns the action eats the events with what was printed, and what is handed in is what it means. Where the code asks anything
  -- else, the action needs an event of the book that answers the ask.
  pub explained : (v : Value) (s : ActorState) (todo : List Exchange) (es : List SeenEvent) (end : Phase) (m : ℕ) → IsBetween s → RepliesFitTo cells Out todo es end → Consumed (action_target code g a v s m todo) → ActionExplained cells g s.printed (action_target code g a v s m todo) (action_meaning cells functions m a v es)
  -- and its transactions are those of the commits among the exchanges, whose sends it holds
  pub noted : (v : Value) (s : ActorState) (todo : List Exchange) (es : List SeenEvent) (end : Phase) (m : ℕ) → IsBetween s → RepliesFitTo cells Out todo es end → Consumed (action_target code g a v s m todo) → AreNoted (Some []) todo (txs_of (action_meaning cells functions m a v es))
  -- where the action's meaning needs an event or more turns, the code prints all that the meaning printed
  pub prints_so : (v : Value) (s : ActorState) (todo : List Exchange) (es : List SeenEvent) (end : Phase) (m n : ℕ) (out : List ℕ) → IsBetween s → RepliesFitTo cells Out todo es end → Consumed (action_target code g a v s m todo) → m ≤ n → HasEaten out (halted (action_meaning cells functions n a v es)) → (j : ℕ) × (n ≤ j) × HasPrintedSo (s.printed ++ out) (action_target code g a v s j todo)
  -- where the action's meaning is there for some bound on its loops, or needs an event, the code comes to hand it in, or to ask; unless what
  -- runs needs turns for every bound
  pub ends_so : (v : Value) (s : ActorState) (todo : List Exchange) (es : List SeenEvent) (end : Phase) (Q : World) (m n k : ℕ) → IsBetween s → RepliesFitTo cells Out todo es end → Consumed (action_target code g a v s m todo) → HasSettled (action_meaning cells functions n a v es) → (NeedsTurns (action_meaning cells functions k a v (es ++ in_hand cells Q end)) → ⊥) → (j : ℕ) × IsAsking (action_target code g a v s j todo) × ActionExplained cells g s.printed (action_target code g a v s j todo) (action_meaning cells functions n a v es)

-- the code follows each action that a program may send, of each agent
pub record FollowsAgents (code : Library) (cells : List CellDefinition) (functions : List PlainFunction) : Type 0 where
  pub validators : code.validators ≡ validators_of cells
  pub actions : (g : CellId) (a : Action) → a.agent ≡ g → SoundAction functions a → FollowsAction code cells functions g a
