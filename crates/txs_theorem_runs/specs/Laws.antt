-- What holds of an actor beside what is shared, whatever the other actors do.
use Rattle.std.specs.Prelude.{◌≡◌, ℕ, zero, suc, true, false, ◌==◌, Bool, List, [], ◌∷◌, ◌++◌, length, map, if◌then◌else◌}
use Rattle.txs_world_protocol.specs.declared.ask.Ask.{Ask}
use Rattle.txs_world_protocol.specs.declared.event.Event.{Event}
use Rattle.txs_value_cell.specs.declared.cell.CellDefinition.{CellDefinition}
use Rattle.txs_theorem_threads.specs.RepliesFit.{Out}
use Rattle.txs_theorem_threads.specs.RepliesFitTo.{RepliesFitTo}
use Rattle.txs_world_book.specs.Book.{Legal, opening}
use Rattle.txs_world_book.specs.History as world
use Rattle.txs_world_book.specs.Served.{cells_of}
use Rattle.txs_theorem_runs.specs.Shared.{book_for, serve_on, may_ask}
use Rattle.txs_theorem_runs.specs.Stages.{Stage, Idle, AsksIn, stage_after, phase_of}
use Rattle.txs_theorem_runs.specs.Told.{Entry, exchange_of, IsExchanged, AllHold, AreStaged, ToldBy, history_of}
use Rattle.txs_theorem_runs.specs.Run.{entry}

-- what an actor was answered in its stages from outside every transaction, where it handed no action in, fits what it did, up to its stage's
-- phase: so it is of all that a thread did, and of what an agent's actor did since it took an action
abbrev pub ToldFits : Type 0
ToldFits =
    (cells : List CellDefinition) (threads : ℕ) (books : ℕ → List Event) (a : ℕ) (es : List Entry) (st : Stage) → AllHold cells threads books a es → AreStaged false Idle es st
    → RepliesFitTo cells Out (map exchange_of es) (history_of cells books a es) (phase_of cells books st)

-- the books, where one has this in the place of what it had
abbrev pub with_book : ℕ → List Event → (ℕ → List Event) → ℕ → List Event
with_book k book books n = if n == k then book else books n

-- an ask in its stage, answered from the books: the entries with this one more agree with the books after it
abbrev pub ServedIsTold : Type 0
ServedIsTold =
    (cells : List CellDefinition) (threads : ℕ) (books : ℕ → List Event) (taken : List Bool) (agent : Bool) (a : ℕ) (q : Ask) (es : List Entry) (st : Stage)
    → may_ask cells threads taken a q (books (book_for cells q)) ≡ true → AsksIn agent st q → ToldBy cells threads books agent a es st → IsExchanged (serve_on cells a q (books (book_for cells q))).reply
    → ToldBy cells threads (with_book (book_for cells q) (serve_on cells a q (books (book_for cells q))).book books) agent a
    (es ++ entry q (serve_on cells a q (books (book_for cells q))).reply (length (books (book_for cells q))) ∷ []) (stage_after st q (serve_on cells a q (books (book_for cells q))).reply)

-- another actor's event in one of the books leaves what an actor was answered
abbrev pub OthersLeaveTold : Type 0
OthersLeaveTold =
    (cells : List CellDefinition) (threads : ℕ) (books : ℕ → List Event) (agent : Bool) (k a : ℕ) (e : Event) (es : List Entry) (st : Stage) → (e.actor ≡ a → ⊥) → ToldBy cells threads books agent a es st
    → ToldBy cells threads (with_book k (books k ++ e ∷ []) books) agent a es st

-- the store's book alone
abbrev pub alone : List Event → ℕ → List Event
alone book zero = book
alone book (suc n) = []

-- of an actor that was answered by the store's book alone, what it did is what the book says of it
abbrev pub AloneHistory : Type 0
AloneHistory =
    (cells : List CellDefinition) (threads : ℕ) (book : List Event) (agent : Bool) (a : ℕ) (es : List Entry) (st : Stage) → Legal (cells_of cells) threads book → ToldBy cells threads (alone book) agent a es st
    → history_of cells (alone book) a es ≡ world.history_of (opening (cells_of cells)) a book
