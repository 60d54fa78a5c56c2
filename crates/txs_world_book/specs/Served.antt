-- The cells of a script as they open, and an answer that adds an event to a book.
use Rattle.std.specs.Prelude.{ℕ, Bool, true, false, nat_lt, List, [], ◌∷◌, ◌++◌, length, map, if◌then◌else◌}
use Rattle.txs_world_protocol.specs.declared.ask.Reply.{Reply}
use Rattle.txs_world_protocol.specs.declared.ask.Reply.TheVariants as reply
use Rattle.txs_world_protocol.specs.declared.event.Event.{Event}
use Rattle.txs_world_protocol.specs.declared.event.EventKind.{EventKind}
use Rattle.txs_value_cell.specs.declared.cell.CellDefinition.{CellDefinition}
use Rattle.txs_value_cell.specs.declared.cell.ErrorMode.{ErrorMode}
use Rattle.txs_value_cell.specs.declared.cell.ErrorMode.TheVariants as mode
use Rattle.txs_value_data.specs.Limits.{most_events}
use Rattle.txs_world_book.specs.declared.cell.StoreCell.{StoreCell}

-- whether an agent of this error mode continues after a fault
abbrev pub continues : ErrorMode → Bool
continues mode.Fail = false
continues mode.Continue = true

-- the store's cell of a definition, without its name
abbrev pub cell_of : CellDefinition → StoreCell
cell_of d = record { kind = d.kind; opening = d.opening; goes_on = continues d.error_mode }

-- the store's cells of these definitions
abbrev pub cells_of : List CellDefinition → List StoreCell
cells_of ds = map cell_of ds

-- a reply, and the book after it
pub record Served : Type 0 where
  pub reply : Reply
  pub book : List Event

-- this reply, with this book after it
abbrev pub served : Reply → List Event → Served
served r book = record { reply = r; book = book }

-- what an actor did, as an event
abbrev pub event_of : ℕ → EventKind → Event
event_of a kind = record { actor = a; kind = kind }

-- the event goes to the book's end, unless the book is full
abbrev pub adds : ℕ → EventKind → Reply → List Event → Served
adds a kind r book = if nat_lt (length book) most_events then served r (book ++ event_of a kind ∷ []) else served reply.Full book
