-- The state that all actors share as plain data, and what is answered from it.
use Rattle.std.specs.Prelude.{◌≡◌, ℕ, Bool, List, [], length}
use Rattle.std.proofs.Common.{get_or}
use Rattle.txs_world_protocol.specs.SeenEvent.{home}
use Rattle.txs_world_protocol.specs.declared.ask.Ask.{Ask}
use Rattle.txs_world_protocol.specs.declared.ask.Ask.TheVariants as ask
use Rattle.txs_world_protocol.specs.declared.ask.Reply.{Reply}
use Rattle.txs_world_protocol.specs.declared.ask.Reply.TheVariants as reply
use Rattle.txs_world_protocol.specs.declared.event.Event.{Event}
use Rattle.txs_value_cell.specs.declared.cell.CellDefinition.{CellDefinition}
use Rattle.txs_value_data.specs.declared.value.CellId.{CellId}
use Rattle.txs_value_data.specs.declared.value.Value.{Value}
use Rattle.txs_world_book.specs.Atom.{AtomTakesMemory}
use Rattle.txs_world_book.specs.Served.{Served}
use Rattle.txs_world.specs.Store.{TakesMemory}
use Rattle.txs_theorem_runs.specs.Shared.{Shared, book_for, serve_on, may_ask, shared_after, world_of}

-- the state as contracts see it
pub record PlainShared : Type 0 where
  -- the cells as they were defined
  pub cells : List CellDefinition
  -- how many threads there are
  pub threads : ℕ
  -- the store's book, and behind it each atom's in the order of their cells
  pub books : List (List Event)
  -- of each cell whether it is an agent whose first action is taken
  pub taken : List Bool

-- the state as the laws of runs speak of it, its books by number
abbrev pub shared_of : PlainShared → Shared
shared_of s = record { books = λ n. get_or s.books n []; taken = s.taken }

-- the book with this number: 0 is the store's, n the n-th atom's; one that isn't there has no events
abbrev pub numbered_book : PlainShared → ℕ → List Event
numbered_book s n = (shared_of s).books n

-- the book that a cell's events are in: an atom's own, else the store's
abbrev pub book_of : PlainShared → CellId → List Event
book_of s c = numbered_book s (home s.cells c)

-- a cell's newest value, of an agent its state: that in the world after all events of its book
abbrev pub newest_of : PlainShared → CellId → Value
newest_of s c = world_of s.cells (home s.cells c) (book_of s c) (length (book_of s c)) c.number

-- whether the actor may ask this
abbrev pub is_lawful : PlainShared → ℕ → Ask → Bool
is_lawful s a q = may_ask s.cells s.threads s.taken a q (numbered_book s (book_for s.cells q))

-- what the actor is answered, and the book for its ask after that
abbrev pub answer_to : PlainShared → ℕ → Ask → Served
answer_to s a q = serve_on s.cells a q (numbered_book s (book_for s.cells q))

-- a state of the same cells and threads, in which what was served is done: the book for the ask is the one after it, and every other book is as it was
pub record IsAfter (s : PlainShared) (q : Ask) (v : Served) (t : PlainShared) : Type 0 where
  pub cells : t.cells ≡ s.cells
  pub threads : t.threads ≡ s.threads
  pub shared : shared_of t ≡ shared_after s.cells q v (shared_of s)

-- whether this reply to this ask takes memory: to begin and to end a swap is for an atom's book, which says without that it has changed
abbrev pub TakesMemoryFor : Ask → Reply → Type 0
TakesMemoryFor ask.Begin r = TakesMemory r
TakesMemoryFor (ask.Look c at) r = TakesMemory r
TakesMemoryFor (ask.View cs) r = TakesMemory r
TakesMemoryFor (ask.Commit at sets ensured view commuted sends) r = TakesMemory r
TakesMemoryFor (ask.Fail at view) r = TakesMemory r
TakesMemoryFor (ask.Peek c) r = TakesMemory r
TakesMemoryFor (ask.Send x) r = TakesMemory r
TakesMemoryFor (ask.Take g) r = TakesMemory r
TakesMemoryFor (ask.Finish g new sends) r = TakesMemory r
TakesMemoryFor (ask.OpenAt c) r = AtomTakesMemory r
TakesMemoryFor (ask.CloseAt c at new) r = AtomTakesMemory r
TakesMemoryFor (ask.Broke c at) r = AtomTakesMemory r

-- the reply that was served is given, and the state is one after it; where there was no memory for it the reply says so, and the state is as it was
abbrev pub Answers : PlainShared → Ask → Served → Reply → PlainShared → Type 0
Answers s q v (reply.At p) t = (reply.At p ≡ v.reply) × IsAfter s q v t
Answers s q v (reply.Is x) t = (reply.Is x ≡ v.reply) × IsAfter s q v t
Answers s q v (reply.Views p xs) t = (reply.Views p xs ≡ v.reply) × IsAfter s q v t
Answers s q v reply.Done t = (reply.Done ≡ v.reply) × IsAfter s q v t
Answers s q v (reply.Retry c) t = (reply.Retry c ≡ v.reply) × IsAfter s q v t
Answers s q v (reply.Changed c) t = (reply.Changed c ≡ v.reply) × IsAfter s q v t
Answers s q v (reply.AgentIsFailed g) t = (reply.AgentIsFailed g ≡ v.reply) × IsAfter s q v t
Answers s q v (reply.Action n x w) t = (reply.Action n x w ≡ v.reply) × IsAfter s q v t
Answers s q v reply.Idle t = (reply.Idle ≡ v.reply) × IsAfter s q v t
Answers s q v (reply.Opened p x) t = (reply.Opened p x ≡ v.reply) × IsAfter s q v t
Answers s q v reply.Full t = (reply.Full ≡ v.reply) × IsAfter s q v t
Answers s q v reply.Memory t = TakesMemoryFor q v.reply × (t ≡ s)
