-- Agents in runs: which actors there are, what a report says of the agents', and when rounds are over.
use Rattle.std.specs.Prelude.{◌≡◌, ◌+◌, ℕ, List, length, map, Some, None}
use Rattle.txs_world_protocol.specs.declared.event.Event.{Event}
use Rattle.txs_world_protocol.specs.declared.event.Outcome.TheVariants as outcome
use Rattle.txs_value_data.specs.Places.{nth}
use Rattle.txs_value_data.specs.declared.value.CellId.{CellId}
use Rattle.txs_tree_meaning.specs.Tree.{PlainProgram}
use Rattle.txs_code_meaning.specs.PlainCode.{PlainCode, thread_code, library_of}
use Rattle.txs_theorem_threads.specs.FollowsAgent.{FollowsAgents}
use Rattle.txs_theorem_threads.specs.FollowsAll.{FollowsAll}
use Rattle.txs_theorem_threads.specs.Sends.{CodesSendSound, AgentsSendSound}
use Rattle.txs_machine_actor.specs.PlainActor.{PlainActor, HasRun, code_of, stopped_at, unanswered}
use Rattle.txs_value_cell.specs.Agents.{agents_from}
use Rattle.txs_world_book.specs.Served.{cells_of}
use Rattle.txs_world.specs.Store.{next_action}
use Rattle.txs_theorem_runs.specs.Explains.{CommitsUndisturbed}
use Rattle.txs_theorem_runs.specs.Shared.{Shared}
use Rattle.txs_theorem_runs.specs.Told.{Entry, exchange_of, AllHold, TraceHolds, trace_of}
use Rattle.txs_machine.specs.RunOver.{IsLimited, AtFullBook, places_of}
use Rattle.txs_machine.specs.RunTheorem.{ExplainsAll}
use Rattle.txs_world_protocol.specs.declared.report.ActorReport.{ActorReport}

-- ---- actors

-- the agents of a code, in the order of its cells
abbrev pub agents_of : PlainCode → List CellId
agents_of code = agents_from 0 code.cells

-- how many actors there are: the threads, and behind them the agents
abbrev pub actors_of : PlainCode → ℕ
actors_of code = length code.threads + length (agents_of code)

-- ---- what the actors of agents did

-- An entry of a report says what the k-th actor, an agent's, did over the books: after so many steps, of which it makes no more than its limit, and all
-- where they were spent, it is where the machine's meaning comes to on what the books answered it; it has printed these bytes, and ended so if it has;
-- the trace has the places of its events, and names no others; what its commits set or ensured was written by nobody since the read
-- point; and where it was stopped for a full book, the book for its ask is full.
pub record AgentHasDone (code : PlainCode) (k limit : ℕ) (books : ℕ → List Event) (ran : ActorReport) : Type 0 where
  pub actor : PlainActor
  pub number : actor.number ≡ k
  pub entries : List Entry
  pub over : HasRun code (map exchange_of entries) actor
  pub hold : AllHold code.cells (length code.threads) books k entries
  pub waits : unanswered actor ≡ None
  pub limited : IsLimited limit actor
  pub ended : actor.outcome ≡ ran.outcome
  pub printed : actor.printed ≡ ran.printed.items
  pub counted : actor.steps ≡ ran.steps
  pub placed : stopped_at code actor ≡ ran.place
  pub traced : places_of ran.trace.items ≡ trace_of code.cells books k entries
  pub names : TraceHolds books k (places_of ran.trace.items)
  pub undisturbed : CommitsUndisturbed books entries
  pub full : actor.outcome ≡ Some outcome.JournalFull → AtFullBook code.cells (code_of code k) books (map exchange_of entries) actor

-- There is one entry for each agent, in the order of the cells, which says what the agent's actor did.
pub record AgentsAreDone (code : PlainCode) (limit : ℕ) (books : ℕ → List Event) (rans : List ActorReport) : Type 0 where
  pub one_each : length rans ≡ length (agents_of code)
  pub each : (i : ℕ) (ran : ActorReport) → nth rans i ≡ Some ran → AgentHasDone code (length code.threads + i) limit books ran

-- ---- what the source says of agents

-- each program of the code's cells that the code follows, of whose functions its functions are the actions', and whose sends alone it sends, explains
-- the run
abbrev pub AreExplainedBy : PlainCode → Shared → List ActorReport → List ActorReport → Type 0
AreExplainedBy code sh threads agents =
    (p : PlainProgram)
    → p.cells ≡ code.cells → FollowsAll (map (thread_code code) code.threads) p
    → FollowsAgents (library_of code) p.cells p.functions → CodesSendSound p.functions (map (thread_code code) code.threads) → AgentsSendSound p.functions (library_of code)
    → ExplainsAll p sh threads agents

-- ---- when rounds are over

-- each agent whose actor hasn't ended has failed, or nothing waits for it
abbrev pub AreDrained : PlainCode → Shared → List ActorReport → Type 0
AreDrained code sh agents =
    (i : ℕ) (g : CellId) (ran : ActorReport) → nth (agents_of code) i ≡ Some g → nth agents i ≡ Some ran → ran.outcome ≡ None → next_action (cells_of code.cells) (sh.books 0) g ≡ None
