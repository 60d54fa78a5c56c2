-- A history of what actors asked under several locks, and what is shared after it.
use Rattle.std.specs.Prelude.{◌==◌, ◌+◌, ℕ, zero, suc, Bool, List, [], ◌∷◌, if◌then◌else◌}
use Rattle.txs_world_protocol.specs.declared.ask.Ask.{Ask}
use Rattle.txs_world_protocol.specs.declared.event.Event.{Event}
use Rattle.txs_value_cell.specs.declared.cell.CellDefinition.{CellDefinition}
use Rattle.txs_world_book.specs.Served.{cells_of}
use Rattle.txs_world.specs.Store.{none_taken, taken_after}
use Rattle.txs_history.specs.declared.log.Entry.{Entry}
use Rattle.txs_history.specs.declared.log.Entry.TheVariants as entry
use Rattle.txs_history.specs.History.{events_of}
use Rattle.txs_theorem_runs.specs.Shared.{Shared, serve_on}
use Rattle.txs_history.specs.declared.asked.Asked.{Asked}

-- what is asked under the lock with number 0 is asked of the store, and under the n-th of the n-th atom
abbrev pub History : Type 0
History = List (Entry Asked)

-- an ask of an actor
abbrev pub asked_by : ℕ → Ask → Asked
asked_by a q = record { actor = a; ask = q }

-- the book under a lock after these asks, from this one on
abbrev pub book_by : List CellDefinition → List Asked → List Event → List Event
book_by cells [] book = book
book_by cells (x ∷ xs) book = book_by cells xs (serve_on cells x.actor x.ask book).book

-- of which agents the first action is taken after these asks of the store, from this book and these on
abbrev pub taken_by : List CellDefinition → List Asked → List Event → List Bool → List Bool
taken_by cells [] book taken = taken
taken_by cells (x ∷ xs) book taken = taken_by cells xs (serve_on cells x.actor x.ask book).book (taken_after x.ask (serve_on cells x.actor x.ask book).reply taken)

-- What is shared after a history: the book of each lock by the asks under it alone, whatever was asked under others between them.
abbrev pub shared_by : List CellDefinition → History → Shared
shared_by cells h = record { books = λ n. book_by cells (events_of n h) []; taken = taken_by cells (events_of 0 h) [] (none_taken (cells_of cells)) }

-- how many asks a history has
abbrev pub asks_in : History → ℕ
asks_in [] = 0
asks_in (entry.Locks n ∷ h) = asks_in h
asks_in (entry.Event k e ∷ h) = suc (asks_in h)

-- how many of them are an actor's
abbrev pub asks_of : ℕ → History → ℕ
asks_of a [] = 0
asks_of a (entry.Locks n ∷ h) = asks_of a h
asks_of a (entry.Event k e ∷ h) = if e.actor == a then suc (asks_of a h) else asks_of a h

-- the sum for the first so many numbers
abbrev pub sum_to : ℕ → (ℕ → ℕ) → ℕ
sum_to zero f = 0
sum_to (suc n) f = sum_to n f + f n
