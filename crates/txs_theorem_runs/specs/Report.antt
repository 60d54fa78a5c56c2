-- What it is that a program explains all that its threads and its agents did in one run.
use Rattle.std.specs.Prelude.{◌≡◌, ℕ, List, length, map, Some}
use Rattle.txs_world_protocol.specs.declared.event.Event.{Event}
use Rattle.txs_value_data.specs.Places.{nth}
use Rattle.txs_value_cell.specs.Cells.{validators_of}
use Rattle.txs_value_cell.specs.declared.cell.CellDefinition.{CellDefinition}
use Rattle.txs_tree_meaning.specs.Thread.{thread_meaning}
use Rattle.txs_tree_meaning.specs.Tree.{PlainThread, PlainProgram}
use Rattle.txs_code_meaning.specs.Machine.{ThreadCode, Library}
use Rattle.txs_code_meaning.specs.PlainCode.{PlainCode, thread_code, library_of}
use Rattle.txs_code_meaning.specs.WellTyped.{WellTyped}
use Rattle.txs_theorem_threads.specs.FollowsAgent.{FollowsAgents}
use Rattle.txs_theorem_threads.specs.FollowsAll.{source_of, FollowsAll}
use Rattle.txs_theorem_threads.specs.Noted.{txs_of}
use Rattle.txs_theorem_threads.specs.Sends.{CodesSendSound, AgentsSendSound}
use Rattle.txs_theorem_runs.specs.Agents.{AgentsStaged, RunsAgents, AgentsExplain}
use Rattle.txs_theorem_runs.specs.Explains.{ProgramExplains}
use Rattle.txs_theorem_runs.specs.Refused.{RefusalsUndisturbed}
use Rattle.txs_theorem_runs.specs.Run.{Actor, State, Play, plays}
use Rattle.txs_theorem_runs.specs.Staged.{StagedCode}
use Rattle.txs_theorem_runs.specs.Told.{AllHold, trace_of, TraceHolds, history_of}
use Rattle.txs_theorem_runs.specs.Transactions.{SaidOf, undisturbed}

-- An actor was answered what the books say: each of its entries holds, and its trace names its own events and no others.
pub record ActorTraced (cells : List CellDefinition) (threads : ℕ) (books : ℕ → List Event) (a : ℕ) (x : Actor) : Type 0 where
  pub hold : AllHold cells threads books a x.entries
  pub traced : TraceHolds books a (trace_of cells books a x.entries)

-- so it is of each actor of a run, thread or agent, whatever its code asks
abbrev pub RunTraced : Type 0
RunTraced =
    (cells : List CellDefinition) (threads : ℕ) (codes : ℕ → ThreadCode) (ys : List Play) (a : ℕ)
    → ActorTraced cells threads (plays cells threads codes ys).shared.books a ((plays cells threads codes ys).actors a)

-- the actors of a program's run: each thread runs its code, and behind the threads each agent runs its own, over the functions, with the
-- validators of the program's cells
pub record RunsProgram (p : PlainProgram) (threads : List ThreadCode) (functions : Library) (codes : ℕ → ThreadCode) : Type 0 where
  pub threads_run : (i : ℕ) (c : ThreadCode) → nth threads i ≡ Some c → codes i ≡ c
  pub agents_run : RunsAgents p.cells (length p.threads) codes functions
  pub validators : functions.validators ≡ validators_of p.cells

-- A run's report is explained: the books are legal and each thread means what it did; what the threads sent a program may send, and each action
-- means what it came to; the trace of each actor names its own events and no others; commits that were refused were undisturbed; and so were the
-- transactions that the threads mean.
pub record ReportExplained (p : PlainProgram) (functions : Library) (st : State) : Type 0 where
  pub threads : ProgramExplains p st
  pub agents : AgentsExplain p.cells (length p.threads) functions p.functions st
  pub traced : (a : ℕ) → ActorTraced p.cells (length p.threads) st.shared.books a (st.actors a)
  pub refused : (i : ℕ) (t : PlainThread) → nth p.threads i ≡ Some t → RefusalsUndisturbed p.cells st.shared.books (st.actors i).entries
  pub transactions : (i : ℕ) (t : PlainThread) → nth p.threads i ≡ Some t
      → SaidOf (undisturbed p.cells st.shared.books) st.shared.books (trace_of p.cells st.shared.books i (st.actors i).entries)
      (txs_of (thread_meaning (source_of p t) (st.actors i).turns (history_of p.cells st.shared.books i (st.actors i).entries)))

-- each of these codes asks in its stages
abbrev pub CodesStaged : List ThreadCode → Type 0
CodesStaged codes = (i : ℕ) (code : ThreadCode) → nth codes i ≡ Some code → StagedCode code

-- so does the code of each thread and each agent of well-typed code
abbrev pub TypedAreStaged : Type 0
TypedAreStaged = (code : PlainCode) (function_rooms thread_rooms : List ℕ) → WellTyped code function_rooms thread_rooms → CodesStaged (map (thread_code code) code.threads) × AgentsStaged (library_of code)

-- A report is explained of each run of a program's threads and agents, where their code follows the program, asks in its stages, and sends only what a program may send
abbrev pub RunReported : Type 0
RunReported =
    (p : PlainProgram) (threads : List ThreadCode) (functions : Library) (codes : ℕ → ThreadCode) (ys : List Play)
    → FollowsAll threads p → FollowsAgents functions p.cells p.functions → CodesStaged threads → AgentsStaged functions → CodesSendSound p.functions threads → AgentsSendSound p.functions functions → RunsProgram p threads functions codes
    → ReportExplained p functions (plays p.cells (length p.threads) codes ys)
