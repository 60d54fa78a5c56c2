-- The events of a run have an order that fits what its traces say.
use Rattle.std.specs.Prelude.{◌≡◌, ◌<◌, ℕ, zero, suc, true, false, List, [], ◌∷◌, length}
use Rattle.txs_value_cell.specs.Agents.{agents_from}
use Rattle.txs_value_cell.specs.declared.cell.CellDefinition.{CellDefinition}
use Rattle.txs_value_data.specs.declared.value.CellId.{CellId}
use Rattle.txs_world_protocol.specs.declared.event.Event.{Event}
use Rattle.txs_world_book.specs.Book.{has_agent, actor_of}
use Rattle.txs_world_book.specs.Served.{cells_of}
use Rattle.txs_code_meaning.specs.Machine.{ThreadCode}
use Rattle.txs_theorem_runs.specs.Run.{Actor, State, Play, plays}
use Rattle.txs_theorem_runs.specs.Staged.{StagedActor}
use Rattle.txs_theorem_runs.specs.Told.{Place, trace_of}
use Rattle.txs_theorem_serial.specs.Order.{IsOrdered, all_links}

-- the traces of so many actors, from this one on
abbrev pub traces_from : List CellDefinition → (ℕ → List Event) → (ℕ → Actor) → ℕ → ℕ → List (List Place)
traces_from cells books actors a zero = []
traces_from cells books actors a (suc n) = trace_of cells books a (actors a).entries ∷ traces_from cells books actors (suc a) n

-- the events of a state have an order that fits the traces of its actors
abbrev pub StateIsOrdered : List CellDefinition → ℕ → State → Type 0
StateIsOrdered cells threads st =
    IsOrdered st.shared.books (all_links st.shared.books (traces_from cells st.shared.books st.actors 0 threads) (agents_from 0 cells) (traces_from cells st.shared.books st.actors threads (length (agents_from 0 cells))))

-- So it is after every list of plays, where the code of threads and agents asks in its stages.
abbrev pub RunsAreOrdered : Type 0
RunsAreOrdered =
    (cells : List CellDefinition) (threads : ℕ) (codes : ℕ → ThreadCode) (ys : List Play)
    → ((a : ℕ) → a < threads → StagedActor false (codes a)) → ((g : CellId) → has_agent (cells_of cells) g ≡ true → StagedActor true (codes (actor_of threads (cells_of cells) g)))
    → StateIsOrdered cells threads (plays cells threads codes ys)
