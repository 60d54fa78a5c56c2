-- The links between events, as rows: one for each book, with the links to its events.
use Rattle.std.specs.Prelude.{◌≡◌, ◌<◌, ℕ, suc, ◌==◌, nat_lt, List, [], ◌∷◌, ◌++◌, length, set, Option, Some, None, if◌then◌else◌}
use Rattle.std.proofs.Common.{get_or}
use Rattle.std.specs.List.Sorted.{IsPermutation, IsNonDecreasingBy}
use Rattle.txs_value_data.specs.Places.{nth}
use Rattle.txs_value_data.specs.declared.value.CellKind.{CellKind}
use Rattle.txs_value_data.specs.declared.value.CellKind.TheVariants.{Ref, Atom, Agent}
use Rattle.txs_world_protocol.specs.declared.event.Event.{Event}
use Rattle.txs_world_protocol.specs.declared.event.EventKind.{EventKind}
use Rattle.txs_theorem_runs.specs.Told.{Place}
use Rattle.txs_theorem_serial.specs.Order.{Link, actor_links, links_to, links_between, point_of, acts_behind, behind_event}
use Rattle.txs_audit_order.specs.declared.links.Spot.{Spot}
use Rattle.txs_audit_order.specs.declared.links.Before.{Before}
use Rattle.txs_audit_order.specs.declared.links.Behind.{Behind}
use Rattle.txs_audit_order.specs.declared.traces.Known.{Known}

-- ---- places

-- a place with an index of more bits
abbrev pub spot_as : Spot → Place
spot_as s = record { book = s.book; at = s.at }

-- the place that is there, if one is
abbrev pub spots_as : Option Spot → List Place
spots_as None = []
spots_as (Some s) = spot_as s ∷ []

-- the events that an actor is behind
abbrev pub behind_as : Behind → List Place
behind_as b = spots_as b.event ++ spots_as b.sender

-- ---- rows

-- a link in the row of the later event's book
abbrev pub before_of : Link → Before
before_of l = record { at = l.later.at; book = l.earlier.book; earlier = l.earlier.at }

-- one link more
abbrev pub with_link : List (List Before) → Link → List (List Before)
with_link rows l = set rows l.later.book (get_or rows l.later.book [] ++ before_of l ∷ [])

-- these links more, in order
abbrev pub with_links : List (List Before) → List Link → List (List Before)
with_links rows [] = rows
with_links rows (l ∷ ls) = with_links (with_link rows l) ls

-- the links to events of this book, in order
abbrev pub row_of : ℕ → List Link → List Before
row_of b [] = []
row_of b (l ∷ ls) = if l.later.book == b then before_of l ∷ row_of b ls else row_of b ls

-- of a row in order of the later events
pub record IsSorted (row sorted : List Before) : Type 0 where
  pub same : IsPermutation row sorted
  pub ascends : IsNonDecreasingBy (λ (x : Before). x.at) sorted

-- each of these rows in order
pub record AreSorted (rows sorted : List (List Before)) : Type 0 where
  pub many : length sorted ≡ length rows
  pub each : (b : ℕ) → b < length rows → IsSorted (get_or rows b []) (get_or sorted b [])

-- rows of n books that hold these links, each in order
pub record AreLinks (ls : List Link) (n : ℕ) (rows : List (List Before)) : Type 0 where
  pub many : length rows ≡ n
  pub each : (b : ℕ) → b < n → IsSorted (row_of b ls) (get_or rows b [])

-- how many events each of n books has
pub record AreLengths (books : ℕ → List Event) (n : ℕ) (lengths : List ℕ) : Type 0 where
  pub many : length lengths ≡ n
  pub each : (b : ℕ) → b < n → get_or lengths b 0 ≡ length (books b)

-- ---- what an event says

-- the event that a book of so many events had next at a point, if it ever had one
abbrev pub next_of : ℕ → ℕ → Option ℕ → List Place
next_of b many None = []
next_of b many (Some k) = if nat_lt k many then record { book = b; at = k } ∷ [] else []

-- what an event says, where its book has so many events
abbrev pub links_in : Known → Place → ℕ → EventKind → List Link
links_in known q many kind =
    links_to (spots_as known.last) q ++ (links_to (behind_as known.behind) q ++ links_between (behind_as known.behind) (next_of q.book many (point_of kind)))

-- the event that sent an actor its j-th action, where these of the store's book sent them
abbrev pub sent_place : Option ℕ → List Place
sent_place None = []
sent_place (Some k) = record { book = 0; at = k } ∷ []

abbrev pub sender_in : List ℕ → ℕ → List Place
sender_in ks j = sent_place (nth ks j)

-- what is known of an actor behind an event
pub record IsBehind (senders : List ℕ) (known : Known) (q : Place) (kind : EventKind) (now : Known) : Type 0 where
  pub acts : now.acts ≡ acts_behind known.acts kind
  pub last : spots_as now.last ≡ q ∷ []
  pub behind : behind_as now.behind ≡ behind_event (sender_in senders) known.acts (behind_as known.behind) q kind

-- what is known of an actor before its first event
pub record IsFirst (senders : List ℕ) (now : Known) : Type 0 where
  pub acts : now.acts ≡ 0
  pub last : spots_as now.last ≡ []
  pub behind : behind_as now.behind ≡ sender_in senders 0

-- ---- agents

-- what the trace of an agent says, if there is one
abbrev pub agent_said : (ℕ → List Event) → (ℕ → List Place) → Option (List Place) → List Link
agent_said books sender None = []
agent_said books sender (Some t) = actor_links books sender t

-- what the trace of a cell's agent says, where so many agents come before it
abbrev pub cell_said : (ℕ → List Event) → List ℕ → List (List Place) → CellKind → ℕ → List Link
cell_said books senders traces Ref agent = []
cell_said books senders traces Atom agent = []
cell_said books senders traces Agent agent = agent_said books (sender_in senders) (nth traces agent)

abbrev pub agents_to : CellKind → ℕ → ℕ
agents_to Ref agent = agent
agents_to Atom agent = agent
agents_to Agent agent = suc agent

-- a cell is gone through
pub record IsCell (books : ℕ → List Event) (senders : List ℕ) (traces : List (List Place)) (kind : CellKind) (agent : ℕ) (rows now : List (List Before)) (next : ℕ) : Type 0 where
  pub rows_are : now ≡ with_links rows (cell_said books senders traces kind agent)
  pub next_is : next ≡ agents_to kind agent
