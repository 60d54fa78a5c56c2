-- Serializability: the commits of a report that a program explains are as if its transactions had run one after the other.
use Rattle.std.specs.Prelude.{◌≡◌, ◌+◌, ℕ, List, length, Some}
use Rattle.txs_value_data.specs.Places.{nth}
use Rattle.txs_value_cell.specs.Cells.{validators_of}
use Rattle.txs_tree_meaning.specs.Marked.{MarkedProgram}
use Rattle.txs_tree_meaning.specs.Sound.{Sound}
use Rattle.txs_tree_meaning.specs.Thread.{TxRun}
use Rattle.txs_tree_meaning.specs.Tree.{PlainThread, PlainProgram}
use Rattle.txs_theorem_threads.specs.Noted.{txs_of}
use Rattle.txs_world_book.specs.Book.{opening}
use Rattle.txs_world_book.specs.Served.{cells_of}
use Rattle.txs_value_cell.specs.Agents.{agents_from}
use Rattle.txs_value_data.specs.declared.value.CellId.{CellId}
use Rattle.txs_theorem_runs.specs.Agents.{ActionDid}
use Rattle.txs_theorem_runs.specs.Shared.{Shared}
use Rattle.txs_theorem_runs.specs.Transactions.{Says, SaidOf}
use Rattle.txs_theorem_serial.specs.Whole.{all_covered, serial_if_covered, all_txs, OneByOne}
use Rattle.txs_machine.specs.RunOver.{places_of}
use Rattle.txs_machine.specs.RunTheorem.{meant_by, ExplainsThread, ExplainsAgent, Explains, ExplainsAll}
use Rattle.txs_world_protocol.specs.declared.report.ActorReport.{ActorReport}

-- the transactions of a thread's entry, where each loop makes at most n turns
abbrev pub transactions : PlainProgram → PlainThread → Shared → ActorReport → ℕ → List TxRun
transactions p t sh ran n = txs_of (meant_by p t sh.books ran.trace.items n)

-- what is said of the transactions of all threads, by what explains the report; what is said may depend on the bound on a thread's loops
abbrev pub SaidOfAll : (ℕ → Says) → (p : PlainProgram) (sh : Shared) (rans : List ActorReport) → Explains p sh rans → Type 0
SaidOfAll s p sh rans e =
    (k : ℕ) (t : PlainThread) (ran : ActorReport) (there : nth p.threads k ≡ Some t) (here : nth rans k ≡ Some ran)
    → SaidOf (s (e.each k t ran there here).turns) sh.books (places_of ran.trace.items) (transactions p t sh ran (e.each k t ran there here).turns)

-- what is said of the transactions of all actions of agents, by what explains the report
abbrev pub SaidOfActions : (ℕ → Says) → (p : PlainProgram) (sh : Shared) (threads agents : List ActorReport) → ExplainsAll p sh threads agents → Type 0
SaidOfActions s p sh threads agents e =
    (i : ℕ) (g : CellId) (ran : ActorReport) (there : nth (agents_from 0 p.cells) i ≡ Some g) (here : nth agents i ≡ Some ran) (j : ℕ) (d : ActionDid)
    → nth (e.each i g ran there here).did j ≡ Some d → SaidOf (s d.turns) sh.books d.trace d.txs

-- Each covered commit of a report that a program explains, of a thread or of an agent, is in the store's book, and is serial: run alone at its index of the store's book, with its
-- commutes there, its transaction gives the same writes, the same sends and, where it is wanted, the same result.
abbrev pub CoveredAreSerial : Type 0
CoveredAreSerial =
    (p : PlainProgram) (sh : Shared) (threads agents : List ActorReport)
    → Sound p → MarkedProgram p → (e : ExplainsAll p sh threads agents)
    → SaidOfAll (λ n. serial_if_covered p.functions n p.cells sh.books) p sh threads e.by_threads × SaidOfActions (λ n. serial_if_covered p.functions n p.cells sh.books) p sh threads agents e

-- The transactions of these threads and agents, run one after the other in the order of the store's book, do what its commits say: each is that of one commit
-- or one refusal, and none is left.
pub record InOrder (p : PlainProgram) (sh : Shared) (rans agents : List ActorReport) : Type 0 where
  -- by the actors' numbers
  pub runs : ℕ → List TxRun
  -- they are those of meanings that explain the threads
  pub noted : (k : ℕ) (t : PlainThread) (ran : ActorReport) → nth p.threads k ≡ Some t → nth rans k ≡ Some ran
      → (x : ExplainsThread p k t sh.books ran) × (runs k ≡ transactions p t sh ran x.turns)
  -- and of what explains the agents
  pub noted_by_actions : (i : ℕ) (g : CellId) (ran : ActorReport) → nth (agents_from 0 p.cells) i ≡ Some g → nth agents i ≡ Some ran
      → (x : ExplainsAgent p (length p.threads + i) g sh.books ran) × (runs (length p.threads + i) ≡ all_txs x.did)
  pub one_by_one : OneByOne p.functions (validators_of p.cells) (length p.threads) runs (opening (cells_of p.cells)) (sh.books 0)

-- So it is of a report that a program explains, where all its commits are covered.
abbrev pub ReportsAreSerial : Type 0
ReportsAreSerial =
    (p : PlainProgram) (sh : Shared) (threads agents : List ActorReport)
    → Sound p → MarkedProgram p → (e : ExplainsAll p sh threads agents)
    → SaidOfAll (λ n. all_covered) p sh threads e.by_threads → SaidOfActions (λ n. all_covered) p sh threads agents e → InOrder p sh threads agents
