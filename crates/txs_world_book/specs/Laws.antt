-- What holds of books: of those of the store, and of those of atoms.
use Rattle.std.specs.Prelude.{◌≡◌, ◌≤◌, ℕ, true, false, ◌==◌, List, [], ◌∷◌, ◌++◌, length}
use Rattle.txs_value_cell.specs.Cells.{World}
use Rattle.txs_world_protocol.specs.declared.ask.Ask.{Ask}
use Rattle.txs_value_data.specs.declared.value.CellId.{CellId}
use Rattle.txs_value_data.specs.declared.value.Value.{Value}
use Rattle.txs_world_protocol.specs.declared.event.Event.{Event}
use Rattle.txs_world_book.specs.Atom.{atom_after, swapped_since, LegalAtom, serve_atom, is_lawful_atom}
use Rattle.txs_world_book.specs.Book.{after, written, Legal}
use Rattle.txs_world_book.specs.History.{before, past_of, history_of, replayed_from}
use Rattle.txs_world_book.specs.declared.cell.StoreCell.{StoreCell}

-- what comes later leaves the worlds up to a place as they were
abbrev pub WorldsStay : Type 0
WorldsStay = (w : World) (book more : List Event) (k : ℕ) → k ≤ length book → after w (book ++ more) k ≡ after w book k

-- a ref that wasn't written since a place has its value of then
abbrev pub UnwrittenStays : Type 0
UnwrittenStays = (w : World) (book : List Event) (p k : ℕ) → written k p book ≡ false → after w book (length book) k ≡ after w book p k

-- one more event is in its actor's history alone
abbrev pub HistoryGrows : Type 0
HistoryGrows = (w : World) (a : ℕ) (book : List Event) (e : Event) → history_of w a (book ++ e ∷ []) ≡ history_of w a book ++ before (e.actor == a) (past_of w book e.kind) []

-- an event's worlds, which are of the events before it, are those of the whole book
abbrev pub HistoryOfWhole : Type 0
HistoryOfWhole = (cells : List StoreCell) (threads : ℕ) (w : World) (a : ℕ) (book : List Event) → Legal cells threads book → history_of w a book ≡ replayed_from w a book 0 book

-- what comes later leaves an atom's values up to a place as they were
abbrev pub AtomStays : Type 0
AtomStays = (v : Value) (book more : List Event) (k : ℕ) → k ≤ length book → atom_after v (book ++ more) k ≡ atom_after v book k

-- an atom that wasn't swapped since a place has its value of then
abbrev pub UnswappedStays : Type 0
UnswappedStays = (v : Value) (book : List Event) (p : ℕ) → swapped_since p book ≡ false → atom_after v book (length book) ≡ atom_after v book p

-- what an atom's book does keeps it legal
abbrev pub AtomServeKeeps : Type 0
AtomServeKeeps = (cell : CellId) (v : Value) (a : ℕ) (q : Ask) (book : List Event) → is_lawful_atom cell a q book ≡ true → LegalAtom cell book → LegalAtom cell (serve_atom cell v a q book).book
