-- What is known where all actors of a run and all logs are back, and what a report says of them then.
use Rattle.std.specs.Prelude.{◌≡◌, ℕ, zero, suc, List, [], ◌∷◌, ◌++◌, length, map, Some}
use Rattle.txs_value_data.specs.Places.{nth}
use Rattle.txs_code_meaning.specs.PlainCode.{PlainCode, thread_code, library_of}
use Rattle.txs_theorem_runs.specs.Agents.{AgentsStaged}
use Rattle.txs_theorem_runs.specs.Invariant.{SharedStands}
use Rattle.txs_theorem_runs.specs.Report.{CodesStaged}
use Rattle.txs_world_shared.specs.SharedState.{PlainShared, shared_of}
use Rattle.txs_history.specs.Asked.{History, asks_in, shared_by, sum_to}
use Rattle.txs_history_run.specs.Actor.{PlainLogged, IsFollowing}
use Rattle.txs_machine.specs.Agents.{actors_of, agents_of, AgentsAreDone, AreExplainedBy}
use Rattle.txs_machine.specs.Playing.{AreReported}
use Rattle.txs_machine.specs.RunOver.{IsStateOf, books_of}
use Rattle.txs_machine.specs.Running.{attendants}
use Rattle.txs_machine.specs.Schedule.{AreDone, IsExplainedBy}
use Rattle.txs_machine.specs.Scheduled.{IsInterleaving}
use Rattle.txs_machine.specs.declared.player.AgentPlayer.{AgentPlayer}
use Rattle.txs_machine.specs.declared.player.Players.{Players}
use Rattle.txs_machine.specs.declared.schedule.Entries.{Entries}

-- ---- the actors

-- The k-th actor, which may make so many steps, asks nothing, and follows the history.
pub record IsSettled (code : PlainCode) (limit k : ℕ) (h : History) (p : PlainLogged) : Type 0 where
  pub number : p.player.actor.number ≡ k
  pub limited : p.player.actor.limit ≡ limit
  pub follows : IsFollowing code p.player.actor p.player.trace.items p.asks h

-- how many asks the actor at a place made
abbrev pub asks_by : List PlainLogged → ℕ → ℕ
asks_by [] k = 0
asks_by (p ∷ ps) zero = p.asks
asks_by (p ∷ ps) (suc k) = asks_by ps k

-- The state is the one that a history leaves; each actor of the code is there and follows the history, and all asks of the history are theirs.
pub record AreSettled (code : PlainCode) (limit : ℕ) (s : PlainShared) (h : History) (ps : List PlainLogged) : Type 0 where
  pub of : IsStateOf code s
  pub shared : shared_of s ≡ shared_by code.cells h
  pub one_each : length ps ≡ actors_of code
  pub each : (k : ℕ) (p : PlainLogged) → nth ps k ≡ Some p → IsSettled code limit k h p
  pub all : sum_to (length ps) (asks_by ps) ≡ asks_in h

-- these are their players: those of threads, and behind them those of agents, each with its agent
pub record ArePlayersOf (code : PlainCode) (ps : List PlainLogged) (all : Players) : Type 0 where
  pub threads : length all.threads.items ≡ length code.threads
  pub agents : map (λ (x : AgentPlayer). x.agent) all.agents.items ≡ agents_of code
  pub players : map (λ (p : PlainLogged). p.player) ps ≡ all.threads.items ++ attendants all.agents.items

-- ---- the report

-- What a report says of a run, whoever ran it. It says what each actor did over the books; each program which the code follows explains it; and it is that of a run by turns.
pub record IsRunReport (code : PlainCode) (limit : ℕ) (s : PlainShared) (report : Entries) : Type 0 where
  pub done : AreDone code limit (books_of s) report.threads.items
  pub agents_done : AgentsAreDone code limit (books_of s) report.agents.items
  pub explained : IsExplainedBy code (shared_of s) report.threads.items
  pub all_explained : AreExplainedBy code (shared_of s) report.threads.items report.agents.items
  pub interleaved : IsInterleaving code s report.threads.items report.agents.items

-- Where all are settled, the report of their players is that of a run by turns.
abbrev pub SettledIsRun : Type 0
SettledIsRun =
    (code : PlainCode) (limit : ℕ) (s : PlainShared) (h : History) (ps : List PlainLogged) (all : Players) (report : Entries)
    → CodesStaged (map (thread_code code) code.threads) → AgentsStaged (library_of code) → SharedStands s.cells s.threads (shared_of s)
    → AreSettled code limit s h ps → ArePlayersOf code ps all
    → AreReported code all.threads.items report.threads.items → AreReported code (attendants all.agents.items) report.agents.items
    → IsRunReport code limit s report
