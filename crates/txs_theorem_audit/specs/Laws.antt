-- What an audit's answer says of a report.
use Rattle.std.specs.Prelude.{◌≡◌, ◌+◌, ℕ, Bool, true, List, ◌++◌, length, Some}
use Rattle.txs_value_cell.specs.Agents.{agents_from}
use Rattle.txs_value_cell.specs.Cells.{validators_of}
use Rattle.txs_value_cell.specs.declared.action.Action.{Action}
use Rattle.txs_value_data.specs.declared.value.CellId.{CellId}
use Rattle.txs_value_data.specs.declared.value.Value.{Value}
use Rattle.txs_world_book.specs.Book.{opening}
use Rattle.txs_world_book.specs.Served.{cells_of}
use Rattle.txs_tree_meaning.specs.Marked.{MarkedProgram}
use Rattle.txs_tree_meaning.specs.Right.{is_wrong}
use Rattle.txs_tree_meaning.specs.Sound.{Sound, SoundSource}
use Rattle.txs_tree_meaning.specs.Thread.{TxRun, thread_meaning, action_meaning}
use Rattle.txs_tree_meaning.specs.Tree.{PlainProgram, PlainThread, ThreadSource}
use Rattle.txs_world_protocol.specs.SeenEvent.{SeenEvent}
use Rattle.txs_theorem_threads.specs.FollowsAgent.{SoundAction}
use Rattle.txs_theorem_threads.specs.Noted.{txs_of}
use Rattle.txs_theorem_runs.specs.Agents.{ActionDid}
use Rattle.txs_theorem_runs.specs.Transactions.{SaidOf}
use Rattle.txs_theorem_serial.specs.Whole.{all_covered, all_txs, serial_if_covered, OneByOne}
use Rattle.txs_value_data.specs.Places.{nth}
use Rattle.txs_theorem_audit.specs.Audited.{PlainActorReport, PlainReport, PlainTerms, books_of, Agrees, Differs}
use Rattle.txs_theorem_audit.specs.Explained.{meaning_of, ThreadExplained, AgentExplained, IsExplained}
use Rattle.txs_theorem_audit.specs.Verdict.{verdict}

-- A sound program explains a report on which an audit agrees. That its marks tell which results are wanted is so of every program.
abbrev pub AgreesIsExplained : Type 0
AgreesIsExplained = (p : PlainProgram) (w : PlainTerms) (r : PlainReport) (n : ℕ) (serial : Bool) → Sound p → MarkedProgram p → verdict p w r n ≡ Agrees serial → IsExplained p w r

-- Each covered commit of a report that a sound program explains is in the store's book, and is serial: run alone at its index of the store's book, with its commutes
-- there, its transaction gives the same writes, the same sends and, where it is wanted, the same result.
abbrev pub ExplainedIsSerial : Type 0
ExplainedIsSerial =
    (p : PlainProgram) (w : PlainTerms) (r : PlainReport) → Sound p → MarkedProgram p → (x : IsExplained p w r)
    → (a : ℕ) (t : PlainThread) (ran : PlainActorReport) (there : nth p.threads a ≡ Some t) (here : nth r.threads a ≡ Some ran)
    → SaidOf (serial_if_covered p.functions (x.threads a t ran there here).turns p.cells (books_of r)) (books_of r) ran.trace (txs_of (meaning_of p r t ran (x.threads a t ran there here).turns))

-- So is each of an action; its sends are those that joined what the action holds.
abbrev pub ExplainedActionsAreSerial : Type 0
ExplainedActionsAreSerial =
    (p : PlainProgram) (w : PlainTerms) (r : PlainReport) → Sound p → MarkedProgram p → (x : IsExplained p w r)
    → (i : ℕ) (g : CellId) (ran : PlainActorReport) (there : nth (agents_from 0 p.cells) i ≡ Some g) (here : nth r.agents i ≡ Some ran) (j : ℕ) (d : ActionDid)
    → nth (x.agents i g ran there here).did j ≡ Some d → SaidOf (serial_if_covered p.functions d.turns p.cells (books_of r)) (books_of r) d.trace d.txs

-- These are a program's own transactions, by actors: of each thread those of a meaning that explains its entry, and of each agent those of all that it did for
-- its actions, which explains its entry.
pub record OwnRuns (p : PlainProgram) (r : PlainReport) (runs : ℕ → List TxRun) : Type 0 where
  pub threads : (a : ℕ) (t : PlainThread) (ran : PlainActorReport) → nth p.threads a ≡ Some t → nth r.threads a ≡ Some ran
      → (x : ThreadExplained p r t ran) × (runs a ≡ txs_of (meaning_of p r t ran x.turns))
  pub agents : (i : ℕ) (g : CellId) (ran : PlainActorReport) → nth (agents_from 0 p.cells) i ≡ Some g → nth r.agents i ≡ Some ran
      → (x : AgentExplained p r g ran) × (runs (length p.threads + i) ≡ all_txs x.did)

-- of each commit that an entry's trace names, of threads and of agents, the transaction is covered
abbrev pub AllCovered : PlainReport → (ℕ → List TxRun) → Type 0
AllCovered r runs = (a : ℕ) (ran : PlainActorReport) → nth (r.threads ++ r.agents) a ≡ Some ran → SaidOf all_covered (books_of r) ran.trace (runs a)

-- Where an audit agrees, and says that all commits are covered, they are. And the program's own transactions, run one after the other in the order of the
-- store's book, give the writes, the sends and the wanted results of its commits: each is that of one commit or one refusal, and none is left.
abbrev pub SerialIsOneByOne : Type 0
SerialIsOneByOne =
    (p : PlainProgram) (w : PlainTerms) (r : PlainReport) (n : ℕ) → Sound p → MarkedProgram p → verdict p w r n ≡ Agrees true
    → (runs : ℕ → List TxRun) × OwnRuns p r runs × AllCovered r runs × OneByOne p.functions (validators_of p.cells) (length p.threads) runs (opening (cells_of p.cells)) r.book

-- A sound program explains no report on which an audit differs, whatever the bound on its loops.
abbrev pub DiffersIsNotExplained : Type 0
DiffersIsNotExplained = (p : PlainProgram) (w : PlainTerms) (r : PlainReport) (n actor event : ℕ) → Sound p → verdict p w r n ≡ Differs actor event → IsExplained p w r → ⊥

-- What a sound thread doesn't allow on a beginning of its events, it doesn't allow on all of them: so the first event that it doesn't
-- allow is the first beginning that has no meaning.
abbrev pub WrongStays : Type 0
WrongStays = (p : ThreadSource) → SoundSource p → (n : ℕ) (es fs : List SeenEvent) → is_wrong (thread_meaning p n es) ≡ true → is_wrong (thread_meaning p n (es ++ fs)) ≡ true

-- the same of an action that a program may send
abbrev pub WrongStaysInActions : Type 0
WrongStaysInActions =
    (p : PlainProgram) (x : Action) (v : Value) → Sound p → SoundAction p.functions x
    → (n : ℕ) (es fs : List SeenEvent) → is_wrong (action_meaning p.cells p.functions n x v es) ≡ true → is_wrong (action_meaning p.cells p.functions n x v (es ++ fs)) ≡ true
