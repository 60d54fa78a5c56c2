-- What the shared state answered an actor: requests with their replies, and the indexes of the books that they were served at.
use Rattle.std.specs.Prelude.{◌≡◌, ◌≤◌, ℕ, suc, Bool, true, ◌==◌, nat_lt, List, [], ◌∷◌, length, take, Option, Some, None, if◌then◌else◌}
use Rattle.txs_world_protocol.specs.Ask.{Exchange}
use Rattle.txs_world_protocol.specs.SeenEvent.{SeenEvent}
use Rattle.txs_world_protocol.specs.declared.ask.Ask.{Ask}
use Rattle.txs_world_protocol.specs.declared.ask.Reply.{Reply}
use Rattle.txs_world_protocol.specs.declared.ask.Reply.TheVariants as reply
use Rattle.txs_world_protocol.specs.declared.event.Event.{Event}
use Rattle.txs_value_data.specs.Places.{nth}
use Rattle.txs_value_cell.specs.declared.cell.CellDefinition.{CellDefinition}
use Rattle.txs_world_book.specs.Served.{Served}
use Rattle.txs_theorem_runs.specs.Shared.{book_for, serve_on, may_ask, seen_in}
use Rattle.txs_theorem_runs.specs.Stages.{Stage, AsksIn, first_stage, stage_after}

-- an ask with its reply, and how many events its book had when it was served
pub record Entry : Type 0 where
  pub ask : Ask
  pub reply : Reply
  pub at : ℕ

-- an entry without its place
abbrev pub exchange_of : Entry → Exchange
exchange_of e = record { ask = e.ask; reply = e.reply }

-- a place of a book: 0 is the store's, n the n-th atom's
pub record Place : Type 0 where
  pub book : ℕ
  pub at : ℕ

-- a reply that an actor continues with; the others stop it at its ask, or are none of a thread's
abbrev pub IsExchanged : Reply → Type 0
IsExchanged (reply.At p) = Unit {0}
IsExchanged (reply.Is v) = Unit {0}
IsExchanged (reply.Views p vs) = Unit {0}
IsExchanged reply.Done = Unit {0}
IsExchanged (reply.Retry c) = Unit {0}
IsExchanged (reply.Changed c) = Unit {0}
IsExchanged (reply.AgentIsFailed g) = Unit {0}
IsExchanged (reply.Action n x v) = Unit {0}
IsExchanged (reply.Opened p v) = Unit {0}
IsExchanged reply.Idle = ⊥
IsExchanged reply.Full = ⊥
IsExchanged reply.Memory = ⊥

-- the events of the entry's book before it was served
abbrev pub before_entry : List CellDefinition → (ℕ → List Event) → Entry → List Event
before_entry cells books e = take e.at (books (book_for cells e.ask))

-- what is answered to an entry's ask at its place
abbrev pub served_at : List CellDefinition → (ℕ → List Event) → ℕ → Entry → Served
served_at cells books a e = serve_on cells a e.ask (before_entry cells books e)

-- An entry holds: its ask might be asked at its place, its reply is what is answered there, and the events that the book had after it are in the book.
pub record EntryHolds (cells : List CellDefinition) (threads : ℕ) (books : ℕ → List Event) (a : ℕ) (e : Entry) : Type 0 where
  pub within : e.at ≤ length (books (book_for cells e.ask))
  pub asked : (taken : List Bool) × (may_ask cells threads taken a e.ask (before_entry cells books e) ≡ true)
  pub replied : e.reply ≡ (served_at cells books a e).reply
  pub exchanged : IsExchanged e.reply
  pub stands : take (length (served_at cells books a e).book) (books (book_for cells e.ask)) ≡ (served_at cells books a e).book

-- each entry holds
abbrev pub AllHold : List CellDefinition → ℕ → (ℕ → List Event) → ℕ → List Entry → Type 0
AllHold cells threads books a [] = Unit {0}
AllHold cells threads books a (e ∷ es) = EntryHolds cells threads books a e × AllHold cells threads books a es

-- each ask comes in its stage, from one stage to another; the truth value says whether the actor is an agent's
abbrev pub AreStaged : Bool → Stage → List Entry → Stage → Type 0
AreStaged agent st [] end = st ≡ end
AreStaged agent st (e ∷ es) end = AsksIn agent st e.ask × AreStaged agent (stage_after st e.ask e.reply) es end

-- the place of the event that an entry added, before other places
abbrev pub adding : List CellDefinition → (ℕ → List Event) → ℕ → Entry → List Place → List Place
adding cells books a e ps = if nat_lt e.at (length (served_at cells books a e).book) then record { book = book_for cells e.ask; at = e.at } ∷ ps else ps

-- the places of the events that entries added
abbrev pub trace_of : List CellDefinition → (ℕ → List Event) → ℕ → List Entry → List Place
trace_of cells books a [] = []
trace_of cells books a (e ∷ es) = adding cells books a e (trace_of cells books a es)

-- the places of a trace in one book
abbrev pub places_in : ℕ → List Place → List ℕ
places_in n [] = []
places_in n (p ∷ ps) = if p.book == n then p.at ∷ places_in n ps else places_in n ps

-- the places of an actor's events in a book, from a place on
abbrev pub places_by : ℕ → ℕ → List Event → List ℕ
places_by a k [] = []
places_by a k (e ∷ es) = if e.actor == a then k ∷ places_by a (suc k) es else places_by a (suc k) es

-- a trace names of each book the actor's events, each once and in order, and nothing else
abbrev pub TraceHolds : (ℕ → List Event) → ℕ → List Place → Type 0
TraceHolds books a trace = (n : ℕ) → places_in n trace ≡ places_by a 0 (books n)

-- an event that is there with its worlds, before others
abbrev pub seen_before : List CellDefinition → (ℕ → List Event) → Place → Option Event → List SeenEvent → List SeenEvent
seen_before cells books p None es = es
seen_before cells books p (Some e) es = seen_in cells p.book (books p.book) p.at e.kind ∷ es

-- the events of a trace with their worlds
abbrev pub seen_of : List CellDefinition → (ℕ → List Event) → List Place → List SeenEvent
seen_of cells books [] = []
seen_of cells books (p ∷ ps) = seen_before cells books p (nth (books p.book) p.at) (seen_of cells books ps)

-- These books answered an actor these entries, up to a stage: each holds, each ask comes in its stage, and the events that they added are the actor's, each once and in order.
pub record ToldBy (cells : List CellDefinition) (threads : ℕ) (books : ℕ → List Event) (agent : Bool) (a : ℕ) (es : List Entry) (stage : Stage) : Type 0 where
  pub hold : AllHold cells threads books a es
  pub staged : AreStaged agent (first_stage agent) es stage
  pub traced : TraceHolds books a (trace_of cells books a es)

-- what an actor did, with the worlds: the events that its entries added
abbrev pub history_of : List CellDefinition → (ℕ → List Event) → ℕ → List Entry → List SeenEvent
history_of cells books a es = seen_of cells books (trace_of cells books a es)
