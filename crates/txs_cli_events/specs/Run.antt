-- What is known of a run: its cells, its actors, and the events of its books.
use Rattle.std.specs.Prelude.{ℕ, zero, suc, ◌-◌, nat_lt, Bool, true, false, if◌then◌else◌, List, [], ◌∷◌, ◌++◌, Option, Some, None}
use Rattle.std.specs.List.{slice_get}
use Rattle.txs_value_cell.specs.Forms.{same_kind}
use Rattle.txs_value_cell.specs.declared.cell.CellDefinition.{CellDefinition}
use Rattle.txs_value_data.specs.declared.value.CellKind.{CellKind}
use Rattle.txs_value_data.specs.declared.value.CellKind.TheVariants.{Atom, Agent}
use Rattle.txs_world_protocol.specs.declared.event.Event.{Event}
use Rattle.txs_world_protocol.specs.declared.report.ActorReport.{ActorReport}
use Rattle.txs_world_protocol.specs.declared.report.Report.{Report}

-- ---- cells

-- this number, if it is one of those that are wanted, before others
abbrev pub with_number : Bool → ℕ → List ℕ → List ℕ
with_number true k ks = k ∷ ks
with_number false k ks = ks

-- the numbers of the cells of this kind, of which the first cell has this number
abbrev pub numbers_of : CellKind → ℕ → List CellDefinition → List ℕ
numbers_of kind k [] = []
numbers_of kind k (d ∷ ds) = with_number (same_kind d.kind kind) k (numbers_of kind (suc k) ds)

-- the name of a cell, if there is one
abbrev pub name_in : Option CellDefinition → List ℕ
name_in None = []
name_in (Some d) = d.name

-- the name of the cell with this number
abbrev pub cell_name : List CellDefinition → ℕ → List ℕ
cell_name cells k = name_in (slice_get cells k)

-- the number of the cell of the atom that has this book; book 0 is the journal, and of no atom
abbrev pub atom_of : List CellDefinition → ℕ → Option ℕ
atom_of cells zero = None
atom_of cells (suc n) = slice_get (numbers_of Atom 0 cells) n

-- ---- actors: threads come first, and behind them the agents

-- what this actor did
abbrev pub actor_in : Report → ℕ → Option ActorReport
actor_in r k = slice_get (r.threads.items ++ r.agents.items) k

-- the number of the cell of this actor, if it is an agent, where there are so many threads
abbrev pub agent_of : List CellDefinition → ℕ → ℕ → Option ℕ
agent_of cells threads k = if nat_lt k threads then None else slice_get (numbers_of Agent 0 cells) (k - threads)

-- ---- events

-- the events of a book, if there is one
abbrev pub events_in : Option (List Event) → List Event
events_in None = []
events_in (Some es) = es

-- the events of the book with this number: the journal, or the n-th atom's
abbrev pub events_of : Report → ℕ → List Event
events_of r zero = r.book.items
events_of r (suc n) = events_in (slice_get r.atom_books.items n)

-- the event of this index of this book
abbrev pub event_in : Report → ℕ → ℕ → Option Event
event_in r book at = slice_get (events_of r book) at
