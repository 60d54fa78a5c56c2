-- What is known of an action's meaning.
use Rattle.std.specs.Prelude.{◌≡◌, ◌-◌, ℕ, List, [], map, length, take, Option, Some, None, Result, Ok, Err}
use Rattle.txs_value_data.specs.declared.fault.Fault.{Fault}
use Rattle.txs_value_data.specs.declared.fault.Span.{Span}
use Rattle.txs_value_data.specs.declared.op.Callee.{Callee}
use Rattle.txs_value_cell.specs.declared.action.Action.{Action}
use Rattle.txs_value_data.specs.declared.value.Value.{Value}
use Rattle.txs_world_protocol.specs.SeenEvent.{SeenEvent}
use Rattle.txs_tree_meaning.specs.Meaning.{Completion, Completes, Recurs, Faults, Retries, Waits, OutOfTurns, Invalid}
use Rattle.txs_tree_meaning.specs.Right.{right_events}
use Rattle.txs_tree_meaning.specs.Thread.{ThreadState, action_in, around_action}
use Rattle.txs_tree_meaning.specs.Tree.{PlainProgram}
use Rattle.txs_tree_eval.specs.Told.{told_tx, asked, lacking}
use Rattle.txs_tree_eval.specs.declared.action.ActionMeaning.{ActionMeaning}
use Rattle.txs_tree_eval_transaction.specs.declared.stop.ThreadStop.{ThreadStop}
use Rattle.txs_tree_eval_transaction.specs.declared.stop.ThreadStop.TheVariants.{Fault as AFault, Event as NoEvent, Wrong as OtherEvent, Turns as NoTurns, Memory}
use Rattle.txs_tree_eval.specs.declared.meaning.Needs.{Needs}
use Rattle.txs_tree_eval.specs.declared.meaning.Needs.TheVariants.{Nothing, Event, Turns, Wrong}

-- the sends that are held
abbrev pub sends_held : Option (List Action) → List Action
sends_held None = []
sends_held (Some sends) = sends

-- what was printed, how many events were eaten, the transactions, what is needed, the result, and the sends
pub record ActionAccount (m : ActionMeaning) (ate : ℕ) (t : ThreadState) (lack : Needs) (end : Option (Result Value Fault)) (held : List Action) : Type 0 where
  pub printed : m.printed ≡ t.printed
  pub eaten : m.eaten ≡ ate
  pub txs : m.txs ≡ map told_tx t.txs
  pub needs : m.needs ≡ lack
  pub asks : m.asks ≡ asked lack t.asks
  pub result : m.result ≡ end
  pub sends : m.sends ≡ held

-- what an action needs that ends so where so many events are left and these sends are held, its result, and its sends
abbrev pub ActionConcluded : Result Value ThreadStop → ℕ → Option (List Action) → Needs → Option (Result Value Fault) → List Action → Type 0
ActionConcluded (Ok v) left held lack end sends = (lack ≡ Nothing) × (end ≡ Some (Ok v)) × (sends ≡ sends_held held)
ActionConcluded (Err (AFault f)) left held lack end sends = (lack ≡ Nothing) × (end ≡ Some (Err f)) × (sends ≡ [])
ActionConcluded (Err NoEvent) left held lack end sends = (lack ≡ lacking left) × (end ≡ None) × (sends ≡ [])
ActionConcluded (Err OtherEvent) left held lack end sends = (lack ≡ lacking left) × (end ≡ None) × (sends ≡ [])
ActionConcluded (Err NoTurns) left held lack end sends = (lack ≡ Turns) × (end ≡ None) × (sends ≡ [])
ActionConcluded (Err Memory) left held lack end sends = ⊥

-- the same of an action on so many events that ends so
abbrev pub ActionAccounts : ActionMeaning → ℕ → ThreadState → Result Value ThreadStop → Type 0
ActionAccounts m events t end =
    (lack : Needs) × (result : Option (Result Value Fault)) × (sends : List Action) × ActionConcluded end (length t.todo) t.held lack result sends × ActionAccount m (events - length t.todo) t lack result sends

-- the answer where an action allows so many events, on which it means this, and not the next one: it waits there
abbrev pub ActionTellsWrong : ActionMeaning → ℕ → Completion ThreadState Value → Type 0
ActionTellsWrong m right (Waits t) = ActionAccount m right t Wrong None []
ActionTellsWrong m right _ = ⊥

-- the answer for an action on so many events, of which it allows as many as this, with what it means on those and on all
abbrev pub ActionTellsOf : ActionMeaning → ℕ → ℕ → Completion ThreadState Value → Completion ThreadState Value → Type 0
ActionTellsOf m k right before (Completes v t) = ActionAccount m (k - length t.todo) t Nothing (Some (Ok v)) (sends_held t.held)
ActionTellsOf m k right before (Recurs vs t) = ⊥
ActionTellsOf m k right before (Faults f t) = ActionAccount m (k - length t.todo) t Nothing (Some (Err f)) []
ActionTellsOf m k right before (Retries t) = ⊥
ActionTellsOf m k right before (Waits t) = ActionAccount m (k - length t.todo) t Event None []
ActionTellsOf m k right before (OutOfTurns t) = ActionAccount m (k - length t.todo) t Turns None []
ActionTellsOf m k right before Invalid = ActionTellsWrong m right before

-- the answer for this callee of the program on these values, the agent's state the first, and these events, with at most n turns of each loop; an operation
-- faults at this span
abbrev pub TellsAction : ActionMeaning → PlainProgram → Callee → Span → List Value → ℕ → List SeenEvent → Type 0
TellsAction m p callee span vs n es =
    ActionTellsOf m (length es) (right_events (action_in (around_action p.cells p.functions n) callee span vs) [] es)
    (action_in (around_action p.cells p.functions n) callee span vs (take (right_events (action_in (around_action p.cells p.functions n) callee span vs) [] es) es))
    (action_in (around_action p.cells p.functions n) callee span vs es)
