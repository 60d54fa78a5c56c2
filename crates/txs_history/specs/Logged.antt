-- The store, or an atom, with the log of what it was asked; and what it answers.
use Rattle.std.specs.Prelude.{◌≡◌, ◌<◌, ◌^◌, ℕ, suc, Bool, true, false, nat_lt, List, [], ◌∷◌, ◌++◌, length}
use mathlib.Core.List.{IsPrefix}
use Rattle.txs_value_cell.specs.declared.cell.CellDefinition.{CellDefinition}
use Rattle.txs_world_protocol.specs.SeenEvent.{home, atoms_below}
use Rattle.txs_world_protocol.specs.declared.ask.Ask.{Ask}
use Rattle.txs_world_protocol.specs.declared.ask.Reply.{Reply}
use Rattle.txs_world_protocol.specs.declared.ask.Reply.TheVariants as reply
use Rattle.txs_world_protocol.specs.declared.event.Event.{Event}
use Rattle.txs_code_meaning.specs.PlainCode.{PlainCode}
use Rattle.txs_world_book.specs.Atom as book
use Rattle.txs_world_book.specs.Atom.{PlainAtom, AtomAnswers}
use Rattle.txs_world_book.specs.Book.{actors}
use Rattle.txs_world_book.specs.Served.{cells_of}
use Rattle.txs_world.specs.Store.{PlainStore, is_lawful, serve, store_after, Answers}
use Rattle.txs_history.specs.declared.log.Entry.TheVariants as entry
use Rattle.txs_history.specs.History.{PlainLog, events_of, locks_in}
use Rattle.txs_theorem_runs.specs.Shared.{store_of, atom_of, has_atom, book_for, may_ask, serve_on}
use Rattle.txs_history.specs.declared.asked.Asked.{Asked}
use Rattle.txs_history.specs.Asked.{History, asked_by, shared_by}
use Rattle.txs_world_shared.specs.Apart.{may_ask_atom}
use Rattle.txs_world_shared.specs.SharedState.{TakesMemoryFor}
use Rattle.txs_history.specs.declared.serve.Served.{Served}

-- ---- what is under a lock

-- how many locks a run has: one of the store, and one of each atom
abbrev pub locks_of : List CellDefinition → ℕ
locks_of cells = suc (atoms_below cells (length cells))

-- the store with its log as contracts see it
pub record PlainLoggedStore : Type 0 where
  pub store : PlainStore
  pub log : PlainLog Asked
  pub broken : Bool

-- an atom with its log as contracts see it
pub record PlainLoggedAtom : Type 0 where
  pub atom : PlainAtom
  pub log : PlainLog Asked
  pub broken : Bool

-- The log is that of the store's lock in a history of as many locks as the code has. Unless it is broken, the store is what that history leaves.
pub record IsLoggedStore (code : PlainCode) (store : PlainStore) (l : PlainLog Asked) (broken : Bool) : Type 0 where
  pub key : l.key ≡ 0
  pub locks : locks_in l.log ≡ locks_of code.cells
  pub is : broken ≡ false → store ≡ store_of code.cells (length code.threads) (shared_by code.cells l.log)

-- The atom is one of the code, for as many actors as the code has. The log is that of the atom's lock. Unless it is broken, the atom is what that history leaves.
pub record IsLoggedAtom (code : PlainCode) (n : ℕ) (atom : PlainAtom) (l : PlainLog Asked) (broken : Bool) : Type 0 where
  pub there : has_atom code.cells atom.cell ≡ true
  pub actors_are : n ≡ actors (length code.threads) (cells_of code.cells)
  pub key : l.key ≡ home code.cells atom.cell
  pub locks : locks_in l.log ≡ locks_of code.cells
  pub is : broken ≡ false → atom ≡ atom_of code.cells atom.cell ((shared_by code.cells l.log).books l.key)

-- ---- what is answered

-- whether a reply says that there was no memory
abbrev pub is_memory : Reply → Bool
is_memory (reply.At p) = false
is_memory (reply.Is v) = false
is_memory (reply.Views p vs) = false
is_memory reply.Done = false
is_memory (reply.Retry c) = false
is_memory (reply.Changed c) = false
is_memory (reply.AgentIsFailed g) = false
is_memory (reply.Action n x v) = false
is_memory reply.Idle = false
is_memory (reply.Opened p v) = false
is_memory reply.Full = false
is_memory reply.Memory = true

-- an actor was answered from this book: the reply, how many events the book had, and whether it has one more now
pub record WasAnswered (cells : List CellDefinition) (a : ℕ) (q : Ask) (book : List Event) (v : Served) : Type 0 where
  pub reply : v.reply ≡ (serve_on cells a q book).reply
  pub at : v.at ≡ length book
  pub added : v.added ≡ nat_lt (length book) (length (serve_on cells a q book).book)

-- What became of an ask behind this history. Where there was no memory, which its answer there takes, nothing was done, and nothing more is seen. Else it was
-- answered from its book there, whatever the answer, and is the next entry.
abbrev pub WasDone : Bool → List CellDefinition → ℕ → ℕ → Ask → (old before new : History) → Served → Type 0
WasDone true cells k a q old before new v = (v.added ≡ false) × (new ≡ old) × TakesMemoryFor q (serve_on cells a q ((shared_by cells before).books k)).reply
WasDone false cells k a q old before new v = WasAnswered cells a q ((shared_by cells before).books k) v × (new ≡ before ++ entry.Event k (asked_by a q) ∷ [])

-- An actor's ask was served under the lock with this number. There is a history that goes on from what the actor had seen; the ask is for this lock; the actor
-- may ask it there; and this became of it there.
pub record WasServed (cells : List CellDefinition) (threads k a : ℕ) (q : Ask) (old new : History) (v : Served) : Type 0 where
  pub before : History
  pub past : IsPrefix old before
  pub lock : k ≡ book_for cells q
  pub may : may_ask cells threads (shared_by cells before).taken a q ((shared_by cells before).books k) ≡ true
  pub done : WasDone (is_memory v.reply) cells k a q old before new v

-- what is for the lock with this number, which has room, the actor may not ask by this history
abbrev pub MayNot : List CellDefinition → (threads k a : ℕ) → Ask → History → Type 0
MayNot cells threads k a q h = k ≡ book_for cells q → length (events_of k h) < 2 ^ 62 → may_ask cells threads (shared_by cells h).taken a q ((shared_by cells h).books k) ≡ false

-- ---- steps to it

-- the store served what it may be asked
pub record StoreServed (s : PlainStore) (a : ℕ) (q : Ask) (v : Served) (t : PlainStore) : Type 0 where
  pub lawful : is_lawful s a q ≡ true
  pub answers : Answers s (serve s.cells a q s.book) (store_after s q (serve s.cells a q s.book)) v.reply t
  pub at : v.at ≡ length s.book
  pub added : v.added ≡ nat_lt (length s.book) (length t.book)

-- the atom served what one of so many actors may ask of it
pub record AtomServed (n : ℕ) (s : PlainAtom) (a : ℕ) (q : Ask) (v : Served) (t : PlainAtom) : Type 0 where
  pub may : may_ask_atom n a q s ≡ true
  pub answers : AtomAnswers s (book.serve_atom s.cell s.opening a q s.book) v.reply t
  pub at : v.at ≡ length s.book
  pub added : v.added ≡ nat_lt (length s.book) (length t.book)

-- what became of the log and of the past: nothing where there was no memory, else both have the event behind all that they had seen
abbrev pub Noted : Bool → ℕ → (own past before new seen : History) → Asked → Type 0
Noted true key own past before new seen e = (new ≡ own) × (seen ≡ past)
Noted false key own past before new seen e = (new ≡ before ++ entry.Event key e ∷ []) × (seen ≡ new)

-- there is a history behind what a log and a past have seen, with no event under the log's number beside the log's, and this became of them there
pub record WasNoted (memory : Bool) (key : ℕ) (own past new seen : History) (e : Asked) : Type 0 where
  pub before : History
  pub own_is : IsPrefix own before
  pub past_is : IsPrefix past before
  pub same : events_of key before ≡ events_of key own
  pub done : Noted memory key own past before new seen e
