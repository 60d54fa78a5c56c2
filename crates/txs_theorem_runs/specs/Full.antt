-- Where an actor stands that asks: one that was stopped for a full book asks what may add an event to a book that is full, and each source that its code
-- follows needs an event of the book that answers the ask.
use Rattle.std.specs.Prelude.{◌≡◌, ◌≤◌, ℕ, suc, true, List, [], ◌∷◌, length, Some}
use Rattle.txs_value_data.specs.Places.{nth}
use Rattle.txs_value_cell.specs.declared.action.Action.{Action}
use Rattle.txs_value_data.specs.declared.value.CellId.{CellId}
use Rattle.txs_value_data.specs.declared.value.Value.{Value}
use Rattle.txs_world_protocol.specs.Ask.{may_add_event}
use Rattle.txs_world_protocol.specs.declared.ask.Ask.{Ask}
use Rattle.txs_world_protocol.specs.declared.event.Event.{Event}
use Rattle.txs_value_cell.specs.declared.cell.CellDefinition.{CellDefinition}
use Rattle.txs_value_data.specs.Limits.{most_events}
use Rattle.txs_tree_meaning.specs.Meaning.{Completion, Completes, Recurs, Faults, Retries, Waits, OutOfTurns, Invalid}
use Rattle.txs_tree_meaning.specs.Thread.{ThreadState, thread_meaning}
use Rattle.txs_tree_meaning.specs.Tree.{PlainFunction, PlainProgram, PlainThread, ThreadSource}
use Rattle.txs_code_meaning.specs.Machine.{Library, ThreadCode, Configuration, Unfinished}
use Rattle.txs_theorem_threads.specs.Follows.{Follows}
use Rattle.txs_theorem_threads.specs.FollowsAgent.{FollowsAgents}
use Rattle.txs_theorem_threads.specs.FollowsAll.{source_of, FollowsAll}
use Rattle.txs_theorem_threads.specs.RepliesFit.{halted, HasWaitedFor}
use Rattle.txs_theorem_threads.specs.Sends.{CodesSendSound, AgentsSendSound}
use Rattle.txs_world_book.specs.Book.{has_agent, actor_of}
use Rattle.txs_world_book.specs.Served.{cells_of}
use Rattle.txs_world.specs.Store.{next_action}
use Rattle.txs_theorem_runs.specs.Agents.{meaning_after, ActionDid, AtEnd, ActsUpTo, HasPrintedJust, AgentsStaged}
use Rattle.txs_theorem_runs.specs.Goes.{AsksAt}
use Rattle.txs_theorem_runs.specs.Report.{RunsProgram, CodesStaged}
use Rattle.txs_theorem_runs.specs.Run.{JournalFull, Memory, TurnsSpent, Unlawful, Actor, State, Play, TakesTurn, IsStopped, plays}
use Rattle.txs_theorem_runs.specs.Shared.{book_for}
use Rattle.txs_theorem_runs.specs.Staged.{StagedCode}
use Rattle.txs_theorem_runs.specs.Told.{trace_of, history_of}

-- an actor's next instruction asks what may add an event to a book, which is full
pub record FullStop (cells : List CellDefinition) (code : ThreadCode) (books : ℕ → List Event) (x : Actor) : Type 0 where
  pub place : Configuration
  pub at : x.at ≡ Unfinished place
  pub ask : Ask
  pub asks : AsksAt code place ask
  pub adds : may_add_event ask ≡ true
  pub full : most_events ≤ length (books (book_for cells ask))

-- a play says that a book is full
abbrev pub SaysFull : Play → Type 0
SaysFull (TakesTurn a) = ⊥
SaysFull (IsStopped a JournalFull) = Unit {0}
SaysFull (IsStopped a Memory) = ⊥
SaysFull (IsStopped a TurnsSpent) = ⊥
SaysFull (IsStopped a Unlawful) = ⊥

-- no play does: what is served says so alone
abbrev pub NoneSaysFull : List Play → Type 0
NoneSaysFull [] = Unit {0}
NoneSaysFull (y ∷ ys) = (SaysFull y → ⊥) × NoneSaysFull ys

-- an actor that was stopped for a full book is at an ask whose book is full
abbrev pub RunStops : Type 0
RunStops =
    (cells : List CellDefinition) (threads : ℕ) (codes : ℕ → ThreadCode) (ys : List Play) (a : ℕ)
    → NoneSaysFull ys → ((plays cells threads codes ys).actors a).stopped ≡ Some JournalFull
    → FullStop cells (codes a) (plays cells threads codes ys).shared.books ((plays cells threads codes ys).actors a)

-- Where an actor's next instruction asks this, each source that its code follows needs an event of the book that answers the ask: it has eaten all that the
-- actor did, and printed just what the actor printed.
abbrev pub WaitsAtAsk : List CellDefinition → ThreadCode → (ℕ → List Event) → ℕ → Actor → Type 0
WaitsAtAsk cells code books a x =
    (p : ThreadSource) (c : Configuration) (q : Ask) → p.cells ≡ cells → Follows code p → x.at ≡ Unfinished c → AsksAt code c q
    → HasWaitedFor (book_for cells q) c.state.printed (halted (thread_meaning p (suc x.turns) (history_of cells books a x.entries)))

-- so it is of each actor of a run whose code asks in its stages
abbrev pub RunWaits : Type 0
RunWaits =
    (cells : List CellDefinition) (threads : ℕ) (codes : ℕ → ThreadCode) (ys : List Play) (a : ℕ)
    → StagedCode (codes a)
    → WaitsAtAsk cells (codes a) (plays cells threads codes ys).shared.books a ((plays cells threads codes ys).actors a)

-- ---- what a program says of a full book

-- a meaning needs an event of a full book, has eaten all and printed this
abbrev pub WaitsFull : (ℕ → List Event) → List ℕ → Completion ThreadState Value → Type 0
WaitsFull books out m = (b : ℕ) × (most_events ≤ length (books b)) × HasWaitedFor b out (halted m)

-- An action's meaning needs such an event; or it is over, and is to be handed in to the store's book, which is full.
abbrev pub StandsFull : (ℕ → List Event) → List ℕ → Completion ThreadState Value → Type 0
StandsFull books out (Completes v t) = (most_events ≤ length (books 0)) × (t.todo ≡ []) × (t.printed ≡ out)
StandsFull books out (Recurs vs t) = ⊥
StandsFull books out (Faults f t) = (most_events ≤ length (books 0)) × (t.todo ≡ []) × (t.printed ≡ out)
StandsFull books out (Retries t) = ⊥
StandsFull books out (Waits t) = WaitsFull books out (Waits t)
StandsFull books out (OutOfTurns t) = ⊥
StandsFull books out Invalid = ⊥

-- at the end of its trace an agent runs the action that is next in its mail after the whole book, which stands so for some bound on its loops
abbrev pub EndsFull : List CellDefinition → List PlainFunction → (ℕ → List Event) → CellId → AtEnd
EndsFull cells functions books g since out [] = ⊥
EndsFull cells functions books g since out (d ∷ []) =
    (d.trace ≡ since) × (x : Action) × (next_action (cells_of cells) (books 0) g ≡ Some x) × (n : ℕ) × StandsFull books out (meaning_after cells functions books (books 0) g n x since)
EndsFull cells functions books g since out (d ∷ e ∷ ds) = ⊥

-- A program says of each actor that is at an ask whose book is full that it needs an event of a full book, has eaten all that the actor did, and printed
-- just what it printed. An agent's may also be over.
pub record FullStopsMean (p : PlainProgram) (codes : ℕ → ThreadCode) (st : State) : Type 0 where
  pub threads : (i : ℕ) (t : PlainThread) → nth p.threads i ≡ Some t → FullStop p.cells (codes i) st.shared.books (st.actors i)
      → (out : List ℕ) × HasPrintedJust out (st.actors i).at × (n : ℕ) × WaitsFull st.shared.books out (thread_meaning (source_of p t) n (history_of p.cells st.shared.books i (st.actors i).entries))
  pub agents : (g : CellId) → has_agent (cells_of p.cells) g ≡ true
      → FullStop p.cells (codes (actor_of (length p.threads) (cells_of p.cells) g)) st.shared.books (st.actors (actor_of (length p.threads) (cells_of p.cells) g))
      → (out : List ℕ) × HasPrintedJust out (st.actors (actor_of (length p.threads) (cells_of p.cells) g)).at × (did : List ActionDid)
      × ActsUpTo p.cells p.functions st.shared.books g (EndsFull p.cells p.functions st.shared.books g) (trace_of p.cells st.shared.books (actor_of (length p.threads) (cells_of p.cells) g) (st.actors (actor_of (length p.threads) (cells_of p.cells) g)).entries) [] out did

-- so it is of each run of a program's threads and agents that the program explains
abbrev pub RunFullStops : Type 0
RunFullStops =
    (p : PlainProgram) (threads : List ThreadCode) (functions : Library) (codes : ℕ → ThreadCode) (ys : List Play)
    → FollowsAll threads p → FollowsAgents functions p.cells p.functions → CodesStaged threads → AgentsStaged functions → CodesSendSound p.functions threads → AgentsSendSound p.functions functions → RunsProgram p threads functions codes
    → FullStopsMean p codes (plays p.cells (length p.threads) codes ys)
