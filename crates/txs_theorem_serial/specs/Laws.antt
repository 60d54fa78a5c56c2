-- What holds of committed transactions.
use Rattle.std.specs.Prelude.{◌≡◌, ◌<◌, ◌≤◌, ℕ, true, false, List, [], length, Option, Some, None}
use Rattle.txs_world_protocol.specs.Ask.{Writes}
use Rattle.txs_value_cell.specs.Cells.{World, Validators, validators_of}
use Rattle.txs_value_cell.specs.declared.action.Action.{Action}
use Rattle.txs_tree_meaning.specs.Sound.{SoundFunctions}
use Rattle.txs_world_protocol.specs.SeenEvent.{SeenEvent}
use Rattle.txs_tree_meaning.specs.Known.{known}
use Rattle.txs_tree_meaning.specs.Sound.{SoundCells, SoundSource}
use Rattle.txs_tree_meaning.specs.Thread.{TxRun, thread_meaning, action_meaning}
use Rattle.txs_tree_meaning.specs.Tree.{PlainFunction, ThreadSource}
use Rattle.txs_world_protocol.specs.declared.event.Event.{Event}
use Rattle.txs_value_data.specs.declared.value.Value.{Value}
use Rattle.txs_theorem_threads.specs.FollowsAgent.{SoundAction}
use Rattle.txs_theorem_runs.specs.Agents.{ActionDid}
use Rattle.txs_world_book.specs.Book.{Legal, actors, opening}
use Rattle.txs_world_book.specs.Served.{cells_of}
use Rattle.txs_value_cell.specs.declared.cell.CellDefinition.{CellDefinition}
use Rattle.txs_theorem_runs.specs.Told.{Place}
use Rattle.txs_theorem_runs.specs.Transactions.{SaidOf}
use Rattle.txs_theorem_serial.specs.Whole.{all_covered, serial_if_covered, all_txs, without_acts, ThreadDid, AgentDid, OneByOne, ends_by}
use Rattle.txs_tree_meaning.specs.Marked.{Marked, MarkedFunctions}
use Rattle.txs_theorem_serial.specs.Serial.{is_covered, IsSerial, Committed, AgreeOn, EndsNoted}

-- a covered transaction is serial, where the world of its start and that of its commit agree on what it set or ensured
abbrev pub CoveredIsSerial : Type 0
CoveredIsSerial =
    (functions : List PlainFunction) (validators : Validators) (n : ℕ) (held : Option (List Action)) (x : TxRun) (R C : World) (writes : Writes) (sends : List Action)
    → SoundFunctions [] functions → MarkedFunctions functions → Committed functions validators held n x R C writes sends → is_covered x.state ≡ true → AgreeOn x.state.done R C
    → IsSerial functions validators n x C writes x.state.done.sends

-- where a thread ends, waits, or needs more turns, each commit and refusal that it has eaten has its transaction
abbrev pub ThreadsNote : Type 0
ThreadsNote =
    (p : ThreadSource) (n : ℕ) (es : List SeenEvent) → SoundSource p → MarkedFunctions p.functions → Marked false p.main → EndsNoted p.functions (validators_of p.cells) None n es (thread_meaning p n es)

-- so it is of an action that a program may send, which holds its sends
abbrev pub ActionsNote : Type 0
ActionsNote =
    (cells : List CellDefinition) (functions : List PlainFunction) (n : ℕ) (x : Action) (v : Value) (es : List SeenEvent)
    → SoundFunctions [] functions → SoundCells (known functions) cells → MarkedFunctions functions → SoundAction functions x
    → EndsNoted functions (validators_of cells) (Some []) n es (action_meaning cells functions n x v es)

-- of what a thread did each covered transaction is serial
abbrev pub CommitsSerial : Type 0
CommitsSerial =
    (functions : List PlainFunction) (turns : ℕ) (cells : List CellDefinition) (threads : ℕ) (books : ℕ → List Event) (a : ℕ) (trace : List Place) (xs : List TxRun)
    → SoundFunctions [] functions → MarkedFunctions functions → Legal (cells_of cells) threads (books 0) → ThreadDid functions turns cells books a trace xs
    → SaidOf (serial_if_covered functions turns cells books) books trace xs

-- where all transactions that were committed are covered, and no others are there, the commits are as if these had run one after the other
abbrev pub RunsAreSerial : Type 0
RunsAreSerial =
    (functions : List PlainFunction) (cells : List CellDefinition) (threads : ℕ) (books : ℕ → List Event) (turns : ℕ → ℕ) (traces : ℕ → List Place) (runs : ℕ → List TxRun)
    → SoundFunctions [] functions → MarkedFunctions functions → Legal (cells_of cells) threads (books 0)
    → ((a : ℕ) → a < threads → ThreadDid functions (turns a) cells books a (traces a) (runs a) × SaidOf all_covered books (traces a) (runs a))
    → ((a : ℕ) → threads ≤ a → a < actors threads (cells_of cells) → (ds : List ActionDid) × AgentDid functions cells books a (traces a) ds × (runs a ≡ all_txs ds) × SaidOf all_covered books (without_acts books (traces a)) (runs a))
    → ((a : ℕ) → actors threads (cells_of cells) ≤ a → runs a ≡ [])
    → OneByOne functions (validators_of cells) threads runs (opening (cells_of cells)) (books 0)

-- one after the other, an actor has as many transactions as commits and refusals: none stands for two, and none is left out
abbrev pub OneForEach : Type 0
OneForEach =
    (functions : List PlainFunction) (validators : Validators) (threads : ℕ) (runs : ℕ → List TxRun) (W : World) (es : List Event)
    → OneByOne functions validators threads runs W es → (a : ℕ) → length (runs a) ≡ ends_by a es
