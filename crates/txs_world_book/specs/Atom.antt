-- The book of an atom: what it makes of the atom's value, which books are legal, and what is answered from it.
use Rattle.std.specs.Prelude.{◌≡◌, ◌≤◌, ◌<◌, ℕ, zero, suc, Bool, true, false, ◌&&◌, ◌||◌, ◌==◌, List, [], ◌∷◌, length, slice_index, Option, Some, None}
use Rattle.txs_world_protocol.specs.declared.ask.Ask.{Ask}
use Rattle.txs_world_protocol.specs.declared.ask.Ask.TheVariants as ask
use Rattle.txs_world_protocol.specs.declared.ask.Reply.{Reply}
use Rattle.txs_world_protocol.specs.declared.ask.Reply.TheVariants as reply
use Rattle.txs_world_protocol.specs.declared.event.Event.{Event}
use Rattle.txs_world_protocol.specs.declared.event.EventKind.{EventKind}
use Rattle.txs_world_protocol.specs.declared.event.EventKind.TheVariants.{Read, Commit, Retry, Fail, Refused, Send, SendRefused, Act, Swap, Broke}
use Rattle.txs_value_data.specs.Limits.{most_events}
use Rattle.txs_value_data.specs.declared.value.CellId.{CellId}
use Rattle.txs_value_data.specs.declared.value.Value.{Value}
use Rattle.txs_world_book.specs.Book.{value_or, may_name, Each}
use Rattle.txs_world_book.specs.Stands.{StandsAt}
use Rattle.txs_world_book.specs.Served.{Served, served, adds}

-- an atom as contracts see it: the cell, the value that it opened with, and its book
pub record PlainAtom : Type 0 where
  pub cell : CellId
  pub opening : Value
  pub book : List Event

-- the atom with this book
abbrev pub atom_with : PlainAtom → List Event → PlainAtom
atom_with s book = record { cell = s.cell; opening = s.opening; book = book }

-- the value that an event gives the atom
abbrev pub swapped_to : EventKind → Option Value
swapped_to (Read c) = None
swapped_to (Commit at view ws sends) = None
swapped_to (Retry since c cause) = None
swapped_to (Fail at view) = None
swapped_to (Refused at view g) = None
swapped_to (Send x) = None
swapped_to (SendRefused g) = None
swapped_to (Act g n new sends) = None
swapped_to (Swap new) = Some new
swapped_to (Broke at) = None

-- the atom's value after the first k events
abbrev pub atom_after : Value → List Event → ℕ → Value
atom_after v [] k = v
atom_after v (e ∷ es) zero = v
atom_after v (e ∷ es) (suc k) = atom_after (value_or (swapped_to e.kind) v) es k

-- the atom's newest value
abbrev pub atom_newest : PlainAtom → Value
atom_newest s = atom_after s.opening s.book (length s.book)

-- whether an event is a swap
abbrev pub is_swap : EventKind → Bool
is_swap (Read c) = false
is_swap (Commit at view ws sends) = false
is_swap (Retry since c cause) = false
is_swap (Fail at view) = false
is_swap (Refused at view g) = false
is_swap (Send x) = false
is_swap (SendRefused g) = false
is_swap (Act g n new sends) = false
is_swap (Swap new) = true
is_swap (Broke at) = false

-- whether a swap is at place p or later
abbrev pub swapped_since : ℕ → List Event → Bool
swapped_since p [] = false
swapped_since zero (e ∷ es) = is_swap e.kind || swapped_since zero es
swapped_since (suc p) (e ∷ es) = swapped_since p es

-- what an actor may have done after these events of the atom's book
abbrev pub LegalAtomKind : CellId → List Event → ℕ → EventKind → Type 0
LegalAtomKind cell done a (Read c) = c ≡ cell
LegalAtomKind cell done a (Commit at view ws sends) = ⊥
LegalAtomKind cell done a (Retry since c cause) = ⊥
LegalAtomKind cell done a (Fail at view) = ⊥
LegalAtomKind cell done a (Refused at view g) = ⊥
LegalAtomKind cell done a (Send x) = ⊥
LegalAtomKind cell done a (SendRefused g) = ⊥
LegalAtomKind cell done a (Act g n new sends) = ⊥
LegalAtomKind cell done a (Swap new) = Unit {0}
LegalAtomKind cell done a (Broke at) = may_name true done a at ≡ true

-- a book of this atom's: it isn't too long, and each event may be after those before it
pub record LegalAtom (cell : CellId) (book : List Event) : Type 0 where
  pub few : length book ≤ most_events
  pub each : Each (λ done e. LegalAtomKind cell done e.actor e.kind) [] book

-- the end of a swap: that it has to be made again where the atom was swapped since, else the new value
abbrev pub closes_at : Bool → ℕ → CellId → Value → List Event → Served
closes_at true a c v book = served (reply.Changed c) book
closes_at false a c v book = adds a (Swap v) reply.Done book

-- the end of a swap, which was opened at a place, or of a reset, which was at none
abbrev pub closes : Option ℕ → ℕ → CellId → Value → List Event → Served
closes None a c v book = closes_at false a c v book
closes (Some p) a c v book = closes_at (swapped_since p book) a c v book

-- what an atom's book answers an actor, and the book after that
abbrev pub serve_atom : CellId → Value → ℕ → Ask → List Event → Served
-- the newest value
serve_atom cell v a (ask.Peek c) book = adds a (Read cell) (reply.Is (atom_after v book (length book))) book
-- the number of events, and the newest value
serve_atom cell v a (ask.OpenAt c) book = served (reply.Opened (length book) (atom_after v book (length book))) book
-- the new value, unless the atom was swapped since
serve_atom cell v a (ask.CloseAt c at new) book = closes at a cell new book
-- the end of a swap whose callee faulted
serve_atom cell v a (ask.Broke c at) book = adds a (Broke at) reply.Done book
-- the store answers these; no such ask is lawful here
serve_atom cell v a ask.Begin book = served reply.Idle book
serve_atom cell v a (ask.Look c at) book = served reply.Idle book
serve_atom cell v a (ask.View cs) book = served reply.Idle book
serve_atom cell v a (ask.Commit at sets ensured view commuted sends) book = served reply.Idle book
serve_atom cell v a (ask.Fail at view) book = served reply.Idle book
serve_atom cell v a (ask.Send x) book = served reply.Idle book
serve_atom cell v a (ask.Take g) book = served reply.Idle book
serve_atom cell v a (ask.Finish g new sends) book = served reply.Idle book

-- whether a place of a swap may be named, where there is one
abbrev pub may_close : List Event → ℕ → Option ℕ → Bool
may_close book a None = true
may_close book a (Some p) = may_name true book a p

-- whether the actor may ask this of the book of this atom: it names the atom, and a place with all that the actor did before it
abbrev pub is_lawful_atom : CellId → ℕ → Ask → List Event → Bool
is_lawful_atom cell a (ask.Peek c) book = c.number == cell.number
is_lawful_atom cell a (ask.OpenAt c) book = c.number == cell.number
is_lawful_atom cell a (ask.CloseAt c at new) book = c.number == cell.number && may_close book a at
is_lawful_atom cell a (ask.Broke c at) book = c.number == cell.number && may_name true book a at
is_lawful_atom cell a ask.Begin book = false
is_lawful_atom cell a (ask.Look c at) book = false
is_lawful_atom cell a (ask.View cs) book = false
is_lawful_atom cell a (ask.Commit at sets ensured view commuted sends) book = false
is_lawful_atom cell a (ask.Fail at view) book = false
is_lawful_atom cell a (ask.Send x) book = false
is_lawful_atom cell a (ask.Take g) book = false
is_lawful_atom cell a (ask.Finish g new sends) book = false

-- which replies of an atom's book take memory: those behind an event, and those that hand out its value; that it has changed is said without
abbrev pub AtomTakesMemory : Reply → Type 0
AtomTakesMemory (reply.At p) = ⊥
AtomTakesMemory (reply.Is v) = Unit {0}
AtomTakesMemory (reply.Views p vs) = ⊥
AtomTakesMemory reply.Done = Unit {0}
AtomTakesMemory (reply.Retry c) = ⊥
AtomTakesMemory (reply.Changed c) = ⊥
AtomTakesMemory (reply.AgentIsFailed g) = ⊥
AtomTakesMemory (reply.Action n x v) = ⊥
AtomTakesMemory reply.Idle = ⊥
AtomTakesMemory (reply.Opened p v) = Unit {0}
AtomTakesMemory reply.Full = ⊥
AtomTakesMemory reply.Memory = ⊥

-- the reply that was served is given, and the atom's book is the one after it; where there was no memory for it the book stays as it was
abbrev pub AtomAnswers : PlainAtom → Served → Reply → PlainAtom → Type 0
AtomAnswers s v (reply.At p) t = (reply.At p ≡ v.reply) × (t ≡ atom_with s v.book)
AtomAnswers s v (reply.Is x) t = (reply.Is x ≡ v.reply) × (t ≡ atom_with s v.book)
AtomAnswers s v (reply.Views p xs) t = (reply.Views p xs ≡ v.reply) × (t ≡ atom_with s v.book)
AtomAnswers s v reply.Done t = (reply.Done ≡ v.reply) × (t ≡ atom_with s v.book)
AtomAnswers s v (reply.Retry c) t = (reply.Retry c ≡ v.reply) × (t ≡ atom_with s v.book)
AtomAnswers s v (reply.Changed c) t = (reply.Changed c ≡ v.reply) × (t ≡ atom_with s v.book)
AtomAnswers s v (reply.AgentIsFailed g) t = (reply.AgentIsFailed g ≡ v.reply) × (t ≡ atom_with s v.book)
AtomAnswers s v (reply.Action n x w) t = (reply.Action n x w ≡ v.reply) × (t ≡ atom_with s v.book)
AtomAnswers s v reply.Idle t = (reply.Idle ≡ v.reply) × (t ≡ atom_with s v.book)
AtomAnswers s v (reply.Opened p x) t = (reply.Opened p x ≡ v.reply) × (t ≡ atom_with s v.book)
AtomAnswers s v reply.Full t = (reply.Full ≡ v.reply) × (t ≡ atom_with s v.book)
AtomAnswers s v reply.Memory t = AtomTakesMemory v.reply × (t ≡ s)

-- an atom's parts agree
pub record IsAtomKept (cell : CellId) (opening : Value) (value : Option Value) (swapped : ℕ) (views : List ℕ) (book : List Event) : Type 0 where
  pub newest : value_or value opening ≡ atom_after opening book (length book)
  pub since : (p : ℕ) → p < swapped → swapped_since p book ≡ true
  pub not_since : (p : ℕ) → swapped ≤ p → swapped_since p book ≡ false
  pub all : (a : ℕ) → StandsAt true book a (slice_index views a)
  pub legal : LegalAtom cell book
