-- What it is that agents' actions explain a run: each is what its callee means on the state that the agent found, and on what its agent's actor
-- did since the action before it.
use Rattle.std.proofs.Common.{◌⊎◌}
use Rattle.std.specs.Prelude.{◌≡◌, ℕ, true, nat_lt, List, [], ◌∷◌, ◌++◌, map, take, Option, Some, None, Result, Err}
use Rattle.txs_world_protocol.specs.Ask.{may_add_event}
use Rattle.txs_world_protocol.specs.declared.ask.Ask.{Ask}
use Rattle.txs_world_protocol.specs.declared.event.Event.{Event}
use Rattle.txs_world_protocol.specs.declared.event.EventKind.{EventKind}
use Rattle.txs_world_protocol.specs.declared.event.EventKind.TheVariants as event
use Rattle.txs_value_cell.specs.declared.action.Action.{Action}
use Rattle.txs_value_cell.specs.declared.cell.CellDefinition.{CellDefinition}
use Rattle.txs_value_data.specs.Places.{nth, fault_at}
use Rattle.txs_value_data.specs.declared.fault.Fault.{Fault}
use Rattle.txs_value_data.specs.declared.fault.FaultKind.TheVariants.{AgentFailed}
use Rattle.txs_value_data.specs.declared.fault.Span.{Span}
use Rattle.txs_value_data.specs.declared.value.CellId.{CellId}
use Rattle.txs_value_data.specs.declared.value.Value.{Value}
use Rattle.txs_tree_meaning.specs.Meaning.{Completion}
use Rattle.txs_tree_meaning.specs.Thread.{TxRun, ThreadState, action_meaning}
use Rattle.txs_tree_meaning.specs.Tree.{PlainFunction}
use Rattle.txs_code_meaning.specs.Machine.{Library, ThreadCode, agent_code, Configuration, Turned, run, Ended, Failed, Asking, Unfinished, Stuck}
use Rattle.txs_code_meaning.specs.Opening.{opening}
use Rattle.txs_theorem_threads.specs.FollowsAgent.{SoundAction, IsHandedIn, MeansAsked, FollowsAgents}
use Rattle.txs_theorem_threads.specs.Noted.{txs_of}
use Rattle.txs_theorem_threads.specs.RepliesFit.{HasEatenAll, halted, HasWaited}
use Rattle.txs_theorem_threads.specs.Sends.{CodeSendsSound}
use Rattle.txs_world_book.specs.Book.{has_agent, actor_of, actors, newest, first_failed, Each}
use Rattle.txs_world_book.specs.Book as world
use Rattle.txs_world_book.specs.Served.{cells_of}
use Rattle.txs_world.specs.Store.{next_action}
use Rattle.txs_theorem_runs.specs.Goes.{AsksAt}
use Rattle.txs_theorem_runs.specs.Told.{exchange_of, Place, seen_of, trace_of}
use Rattle.txs_theorem_runs.specs.Transactions.{SaidOf, undisturbed}
use Rattle.txs_theorem_runs.specs.Run.{Actor, State, Play, plays}
use Rattle.txs_theorem_runs.specs.Staged.{StagedActor}

-- ---- what is sent

-- these actions are such as a program may send
abbrev pub AreSound : List PlainFunction → List Action → Type 0
AreSound functions [] = Unit {0}
AreSound functions (x ∷ xs) = SoundAction functions x × AreSound functions xs

-- what an event sends
abbrev pub SendsSound : List PlainFunction → EventKind → Type 0
SendsSound functions (event.Commit at view ws sends) = AreSound functions sends
SendsSound functions (event.Send x) = SoundAction functions x
SendsSound functions (event.Act g n new sends) = AreSound functions sends
SendsSound functions _ = Unit {0}

-- every action that a book sends is one that a program may send
abbrev pub AllSound : List PlainFunction → List Event → Type 0
AllSound functions book = Each (λ done e. SendsSound functions e.kind) [] book

-- ---- what an agent did

-- the action that an agent runs next after these events of the store's book, on the agent's state there and these events of its actor
abbrev pub meaning_after : List CellDefinition → List PlainFunction → (ℕ → List Event) → List Event → CellId → ℕ → Action → List Place → Completion ThreadState Value
meaning_after cells functions books done g n x since =
    action_meaning cells functions n x (newest (world.opening (cells_of cells)) done g.number) (seen_of cells books since)

-- what an action hands in is booked so; where an agent of its sends had failed, the action faults at its own span, and sends nothing
abbrev pub IsBooked : Option CellId → Span → Result Value Fault → List Action → Result Value Fault → List Action → Type 0
IsBooked None span new sends new1 sends1 = (new1 ≡ new) × (sends1 ≡ sends)
IsBooked (Some h) span new sends new1 sends1 = (new1 ≡ Err (fault_at AgentFailed span)) × (sends1 ≡ [])

-- What an agent's actor did for one action: the bound on its loops, the events in the order of its trace, and the action's transactions.
pub record ActionDid : Type 0 where
  pub turns : ℕ
  pub trace : List Place
  pub txs : List TxRun

-- An act after these events of the store's book is what the action that is next in the agent's mail means, on what its actor did for it, and this is
-- what the action printed; its transactions, one for each commit, were undisturbed.
pub record ActMeans (cells : List CellDefinition) (functions : List PlainFunction) (books : ℕ → List Event) (done : List Event) (g : CellId) (did : ActionDid) (out : List ℕ) (new : Result Value Fault) (sends : List Action) : Type 0 where
  pub action : Action
  pub next : next_action (cells_of cells) done g ≡ Some action
  pub sound : SoundAction functions action
  pub result : Result Value Fault
  pub held : List Action
  pub means : IsHandedIn result held out (meaning_after cells functions books done g did.turns action did.trace)
  pub booked : IsBooked (first_failed (cells_of cells) done held) action.span result held new sends
  pub noted : did.txs ≡ txs_of (meaning_after cells functions books done g did.turns action did.trace)
  pub calm : SaidOf (undisturbed cells books) books did.trace did.txs

-- What its actor did after the last act, and what was printed since, is what the action that is next in the agent's mail means after the whole book: of
-- what it prints this was printed, and no less than what it prints on all but the last of the events; its transactions were undisturbed.
pub record StillMeans (cells : List CellDefinition) (functions : List PlainFunction) (books : ℕ → List Event) (g : CellId) (did : ActionDid) (out : List ℕ) : Type 0 where
  pub action : Action
  pub next : next_action (cells_of cells) (books 0) g ≡ Some action
  pub sound : SoundAction functions action
  pub rest : List ℕ
  pub means : HasEatenAll (out ++ rest) (meaning_after cells functions books (books 0) g did.turns action did.trace)
  pub least : (did.trace ≡ []) ⊎ ((hs : List Place) × (p : Place) × (did.trace ≡ hs ++ p ∷ []) × (n : ℕ) × (part : List ℕ) × HasWaited part (halted (meaning_after cells functions books (books 0) g n action hs)) × (more : List ℕ) × (out ≡ part ++ more))
  pub noted : did.txs ≡ txs_of (meaning_after cells functions books (books 0) g did.turns action did.trace)
  pub calm : SaidOf (undisturbed cells books) books did.trace did.txs

-- the event of the agent's actor at this index of its trace, with those since the act before it, what was printed from there on, what was done for the
-- actions from there on, and what is said of the rest of the trace
abbrev pub EventMeans : List CellDefinition → List PlainFunction → (ℕ → List Event) → CellId → Place → EventKind → List Place → List ℕ → List ActionDid → (List Place → List ℕ → List ActionDid → Type 0) → Type 0
EventMeans cells functions books g p (event.Act h n new sends) since out [] go = ⊥
EventMeans cells functions books g p (event.Act h n new sends) since out (d ∷ ds) go =
    (d.trace ≡ since) × (printed : List ℕ) × (rest : List ℕ) × (out ≡ printed ++ rest) × ActMeans cells functions books (take p.at (books p.book)) g d printed new sends × go [] rest ds
EventMeans cells functions books g p kind since out ds go = go (since ++ p ∷ []) out ds

-- an event that is there
abbrev pub OfEvent : Option Event → (Event → Type 0) → Type 0
OfEvent None P = ⊥
OfEvent (Some e) P = P e

-- what is said of an agent at the end of its trace: of the events since the last act, of what was printed since, and of what was done behind it
abbrev pub AtEnd : Type 1
AtEnd = List Place → List ℕ → List ActionDid → Type 0

-- What an agent's actor did by its trace, with these events that came since the last act, means what its actions mean, one after another, up to an end of
-- which this is said; these bytes are what they printed.
abbrev pub ActsUpTo : List CellDefinition → List PlainFunction → (ℕ → List Event) → CellId → AtEnd → List Place → List Place → List ℕ → List ActionDid → Type 0
ActsUpTo cells functions books g end [] since out ds = end since out ds
ActsUpTo cells functions books g end (p ∷ ps) since out ds =
    OfEvent (nth (books p.book) p.at) (λ e. EventMeans cells functions books g p e.kind since out ds (λ since1 out1 ds1. ActsUpTo cells functions books g end ps since1 out1 ds1))

-- at the end it runs no action, or still runs one
abbrev pub StillActs : List CellDefinition → List PlainFunction → (ℕ → List Event) → CellId → AtEnd
StillActs cells functions books g since out [] = (since ≡ []) × (out ≡ [])
StillActs cells functions books g since out (d ∷ []) = (d.trace ≡ since) × StillMeans cells functions books g d out
StillActs cells functions books g since out (d ∷ e ∷ ds) = ⊥

-- so it is up to such an end
abbrev pub ActsInTurn : List CellDefinition → List PlainFunction → (ℕ → List Event) → CellId → List Place → List Place → List ℕ → List ActionDid → Type 0
ActsInTurn cells functions books g ps since out ds = ActsUpTo cells functions books g (StillActs cells functions books g) ps since out ds

-- At the end it runs an action that has come to this ask: the action that is next in the agent's mail after the whole book, for some bound on its loops, is
-- over as the ask hands it in, or needs an event of the book that answers the ask. It printed just this.
abbrev pub StandsAt : List CellDefinition → List PlainFunction → (ℕ → List Event) → CellId → Ask → AtEnd
StandsAt cells functions books g q since out [] = ⊥
StandsAt cells functions books g q since out (d ∷ []) =
    (d.trace ≡ since) × (x : Action) × (next_action (cells_of cells) (books 0) g ≡ Some x) × (n : ℕ) × MeansAsked cells g (Some q) out (meaning_after cells functions books (books 0) g n x since)
StandsAt cells functions books g q since out (d ∷ e ∷ ds) = ⊥

-- an actor that hasn't ended has printed just this
abbrev pub HasPrintedJust : List ℕ → Turned Configuration → Type 0
HasPrintedJust out (Ended s) = ⊥
HasPrintedJust out (Failed f s) = ⊥
HasPrintedJust out (Asking s) = s.printed ≡ out
HasPrintedJust out (Unfinished c) = c.state.printed ≡ out
HasPrintedJust out Stuck = ⊥

-- An agent's actor is explained: it never ends, it is where its code comes to on what it was answered, and what it did, by its trace, means what its
-- actions mean, with what it printed.
pub record AgentExplained (cells : List CellDefinition) (code : Library) (functions : List PlainFunction) (books : ℕ → List Event) (a : ℕ) (g : CellId) (x : Actor) : Type 0 where
  pub ran : run (agent_code code g) x.turns (opening (agent_code code g) (map exchange_of x.entries)) ≡ x.at
  pub printed : List ℕ
  pub goes_on : HasPrintedJust printed x.at
  pub did : List ActionDid
  pub acts : ActsInTurn cells functions books g (trace_of cells books a x.entries) [] printed did
  -- where its next instruction asks what may add an event, its last action has come to that ask
  pub stands : (c : Configuration) (q : Ask) → x.at ≡ Unfinished c → AsksAt (agent_code code g) c q → may_add_event q ≡ true → ActsUpTo cells functions books g (StandsAt cells functions books g q) (trace_of cells books a x.entries) [] printed did

-- each agent's actor runs the agent's code
abbrev pub RunsAgents : List CellDefinition → ℕ → (ℕ → ThreadCode) → Library → Type 0
RunsAgents cells threads codes code = (g : CellId) → has_agent (cells_of cells) g ≡ true → codes (actor_of threads (cells_of cells) g) ≡ agent_code code g

-- the code of each thread and each agent sends only what a program may send
abbrev pub ActorsSendSound : List CellDefinition → ℕ → (ℕ → ThreadCode) → List PlainFunction → Type 0
ActorsSendSound cells threads codes functions = (a : ℕ) → nat_lt a (actors threads (cells_of cells)) ≡ true → CodeSendsSound functions (codes a)

-- Agents are explained: what the book sends a program may send, and what each agent's actor did means what its actions mean.
pub record AgentsExplain (cells : List CellDefinition) (threads : ℕ) (code : Library) (functions : List PlainFunction) (st : State) : Type 0 where
  pub sends : AllSound functions (st.shared.books 0)
  pub agents : (g : CellId) → has_agent (cells_of cells) g ≡ true → AgentExplained cells code functions st.shared.books (actor_of threads (cells_of cells) g) g (st.actors (actor_of threads (cells_of cells) g))

-- each agent's code asks in its stages
abbrev pub AgentsStaged : Library → Type 0
AgentsStaged code = (g : CellId) → StagedActor true (agent_code code g)

-- So it is of every list of plays of any actors, where the agents' code follows the functions and asks in its stages, and all code sends only what a program may send.
abbrev pub RunActsMean : Type 0
RunActsMean =
    (cells : List CellDefinition) (threads : ℕ) (codes : ℕ → ThreadCode) (code : Library) (functions : List PlainFunction) (ys : List Play)
    → FollowsAgents code cells functions → RunsAgents cells threads codes code → AgentsStaged code → ActorsSendSound cells threads codes functions
    → AgentsExplain cells threads code functions (plays cells threads codes ys)
