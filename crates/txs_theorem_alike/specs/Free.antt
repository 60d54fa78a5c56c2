-- Where nothing stops an actor: what it asks is lawful where code and values name defined cells alone, so that room in the journals and few failed tries are enough.
use Rattle.std.specs.Prelude.{◌≡◌, ◌<◌, ◌≤◌, ℕ, suc, Bool, true, false, not, ◌&&◌, ◌==◌, nat_lt, List, [], ◌∷◌, length, map, if◌then◌else◌}
use Rattle.txs_world_protocol.specs.declared.event.Event.{Event}
use Rattle.txs_world_protocol.specs.declared.event.EventKind.{EventKind}
use Rattle.txs_world_protocol.specs.declared.event.EventKind.TheVariants as event
use Rattle.txs_value_data.specs.Limits.{most_events, reruns}
use Rattle.txs_value_data.specs.declared.value.CellId.{CellId}
use Rattle.txs_value_cell.specs.declared.cell.CellDefinition.{CellDefinition}
use Rattle.txs_world_book.specs.Book.{has_agent, actor_of, actors}
use Rattle.txs_world_book.specs.Served.{cells_of}
use Rattle.txs_code_meaning.specs.Machine.{ThreadCode}
use Rattle.txs_theorem_runs.specs.Lawful.{CodeIsKnown, OpeningIsKnown, NamesOwn}
use Rattle.txs_theorem_runs.specs.Run.{State, Play, plays}
use Rattle.txs_theorem_runs.specs.Standing.{StandingActor}
use Rattle.txs_theorem_runs.specs.Told.{exchange_of}
use Rattle.txs_theorem_alike.specs.Failures.{failures}
use Rattle.txs_theorem_alike.specs.States.{GoesFreely}

-- whether an event says that a transaction, or its commutes alone, have to be made again
abbrev pub is_rerun : EventKind → Bool
is_rerun (event.Retry since c cause) = true
is_rerun _ = false

-- how many such events of an actor there are in a journal
abbrev pub reruns_in : ℕ → List Event → ℕ
reruns_in a [] = 0
reruns_in a (e ∷ es) = if e.actor == a && is_rerun e.kind then suc (reruns_in a es) else reruns_in a es

-- a failed try of an actor is in the store's journal
abbrev pub FailuresAreSeen : Type 0
FailuresAreSeen = (cells : List CellDefinition) (threads : ℕ) (codes : ℕ → ThreadCode) (ys : List Play) (a : ℕ)
    → failures (map exchange_of ((plays cells threads codes ys).actors a).entries) ≤ reruns_in a ((plays cells threads codes ys).shared.books 0)

-- there is room in each journal, and the store's has fewer failed tries of the actor than a transaction may be run again
pub record HasRoomAndTries (a : ℕ) (st : State) : Type 0 where
  pub room : (n : ℕ) → length (st.shared.books n) < most_events
  pub tries : reruns_in a (st.shared.books 0) < reruns

-- In a run of code whose instructions are where they may be, and whose constants and opening values name defined cells alone, an actor goes freely where there is room and few tries of it
-- failed.
abbrev pub RunsGoFreely : Type 0
RunsGoFreely =
    (cells : List CellDefinition) (threads : ℕ) (codes : ℕ → ThreadCode) (ys : List Play)
    → OpeningIsKnown cells → ((a : ℕ) → CodeIsKnown cells (codes a)) → ((g : CellId) → has_agent (cells_of cells) g ≡ true → NamesOwn g (codes (actor_of threads (cells_of cells) g)))
    → (a : ℕ) → nat_lt a (actors threads (cells_of cells)) ≡ true → StandingActor (not (nat_lt a threads)) (codes a)
    → HasRoomAndTries a (plays cells threads codes ys) → GoesFreely cells threads codes a (plays cells threads codes ys)
