-- The state that all actors share: the store with its book, and of each atom its book; and what is answered from them.
use Rattle.std.specs.Prelude.{ℕ, zero, suc, Bool, true, ◌&&◌, ◌==◌, nat_lt, List, [], length, Option, Some, None, if◌then◌else◌}
use Rattle.txs_world_protocol.specs.SeenEvent.{SeenEvent}
use Rattle.txs_world_protocol.specs.declared.ask.Ask.{Ask}
use Rattle.txs_world_protocol.specs.declared.ask.Ask.TheVariants as ask
use Rattle.txs_world_protocol.specs.declared.ask.Reply.TheVariants as reply
use Rattle.txs_world_protocol.specs.declared.event.Event.{Event}
use Rattle.txs_world_protocol.specs.declared.event.EventKind.{EventKind}
use Rattle.txs_world_protocol.specs.declared.event.EventKind.TheVariants as event
use Rattle.txs_value_cell.specs.Cells.{World}
use Rattle.txs_value_cell.specs.Forms.{same_kind}
use Rattle.txs_value_cell.specs.declared.cell.CellDefinition.{CellDefinition}
use Rattle.txs_value_data.specs.declared.value.CellId.{CellId}
use Rattle.txs_value_data.specs.declared.value.CellKind.TheVariants.{Atom}
use Rattle.txs_theorem_threads.specs.RepliesFit.{book_asked}
use Rattle.txs_world_book.specs.Atom.{PlainAtom, atom_after, atom_newest, closes}
use Rattle.txs_world_book.specs.Book.{has_cell, may_name, opening, after, actors}
use Rattle.txs_world_book.specs.History.{at_of, view_of}
use Rattle.txs_world.specs.Store.{PlainStore, store_with, none_taken, is_lawful, serve, taken_after}
use Rattle.txs_world_book.specs.Served.{cells_of, Served, served, adds}

-- the books by number, 0 the store's and n the n-th atom's, and of which agents the first action is taken
pub record Shared : Type 0 where
  pub books : ℕ → List Event
  pub taken : List Bool

-- nothing was done yet
abbrev pub untouched : List CellDefinition → Shared
untouched cells = record { books = λ n. []; taken = none_taken (cells_of cells) }

-- the store of these cells and so many threads, as it is
abbrev pub store_of : List CellDefinition → ℕ → Shared → PlainStore
store_of cells threads sh = store_with (cells_of cells) threads (sh.books 0) sh.taken

-- an atom with this book
abbrev pub atom_of : List CellDefinition → CellId → List Event → PlainAtom
atom_of cells c book = record { cell = c; opening = opening (cells_of cells) c.number; book = book }

-- whether a cell is an atom
abbrev pub is_atom : CellId → Bool
is_atom c = same_kind c.kind Atom

-- whether these definitions have this cell, and it is an atom
abbrev pub has_atom : List CellDefinition → CellId → Bool
has_atom cells c = is_atom c && has_cell (cells_of cells) c

-- the book that answers an ask: an atom's own for what names an atom, else the store's
abbrev pub book_for : List CellDefinition → Ask → ℕ
book_for cells q = book_asked cells q

-- what an atom answers to what may be asked of it
abbrev pub serve_atom : PlainAtom → ℕ → Ask → Served
serve_atom s a (ask.Peek c) = adds a (event.Read s.cell) (reply.Is (atom_newest s)) s.book
serve_atom s a (ask.OpenAt c) = served (reply.Opened (length s.book) (atom_newest s)) s.book
serve_atom s a (ask.CloseAt c p v) = closes p a s.cell v s.book
serve_atom s a (ask.Broke c p) = adds a (event.Broke p) reply.Done s.book
serve_atom s a _ = served reply.Idle s.book

-- what an actor is answered by the book for its ask, and that book after it
abbrev pub serve_on : List CellDefinition → ℕ → Ask → List Event → Served
serve_on cells a (ask.Peek c) book = if is_atom c then serve_atom (atom_of cells c book) a (ask.Peek c) else serve (cells_of cells) a (ask.Peek c) book
serve_on cells a (ask.OpenAt c) book = serve_atom (atom_of cells c book) a (ask.OpenAt c)
serve_on cells a (ask.CloseAt c p v) book = serve_atom (atom_of cells c book) a (ask.CloseAt c p v)
serve_on cells a (ask.Broke c p) book = serve_atom (atom_of cells c book) a (ask.Broke c p)
serve_on cells a q book = serve (cells_of cells) a q book

-- whether an actor may name this place of an atom's book, if it names one
abbrev pub may_close : List Event → ℕ → Option ℕ → Bool
may_close book a None = true
may_close book a (Some p) = may_name true book a p

-- whether the actor may ask this, where there are so many threads, and these are the events of the book for the ask
abbrev pub may_ask : List CellDefinition → ℕ → List Bool → ℕ → Ask → List Event → Bool
may_ask cells threads taken a (ask.Peek c) book = nat_lt a (actors threads (cells_of cells)) && has_cell (cells_of cells) c
may_ask cells threads taken a (ask.OpenAt c) book = nat_lt a (actors threads (cells_of cells)) && has_atom cells c
may_ask cells threads taken a (ask.CloseAt c p v) book = nat_lt a (actors threads (cells_of cells)) && (has_atom cells c && may_close book a p)
may_ask cells threads taken a (ask.Broke c p) book = nat_lt a (actors threads (cells_of cells)) && (has_atom cells c && may_name true book a p)
may_ask cells threads taken a q book = is_lawful (store_with (cells_of cells) threads book taken) a q

-- what is shared after an ask was served so
abbrev pub shared_after : List CellDefinition → Ask → Served → Shared → Shared
shared_after cells q v sh = record {
  books = λ n. if n == book_for cells q then v.book else sh.books n;
  taken = taken_after q v.reply sh.taken;
}

-- ---- worlds

-- The world after the first k events of a book. The store's has all refs and agents. Of an atom's, the value at the atom's own number alone is its.
abbrev pub world_of : List CellDefinition → ℕ → List Event → ℕ → World
world_of cells zero book k = after (opening (cells_of cells)) book k
world_of cells (suc n) book k = λ c. atom_after (opening (cells_of cells) c) book k

-- an event at a place of this book, with its worlds
abbrev pub seen_in : List CellDefinition → ℕ → List Event → ℕ → EventKind → SeenEvent
seen_in cells n book k kind = record {
  book = n;
  kind = kind;
  R = world_of cells n book (at_of kind k);
  Q = world_of cells n book (view_of kind k);
  C = world_of cells n book k;
}
