-- In which order the events of all books came: what had to come before what, by traces, read points and sends; and when there is an order that fits.
use Rattle.std.specs.Prelude.{◌≡◌, ◌<◌, ◌+◌, ℕ, zero, suc, Bool, true, false, ◌&&◌, ◌==◌, nat_lt, List, [], ◌∷◌, ◌++◌, length, replicate, Option, Some, None, if◌then◌else◌}
use Rattle.txs_value_data.specs.Places.{nth}
use Rattle.txs_value_cell.specs.declared.action.Action.{Action}
use Rattle.txs_value_data.specs.declared.value.CellId.{CellId}
use Rattle.txs_world_protocol.specs.declared.event.Event.{Event}
use Rattle.txs_world_protocol.specs.declared.event.EventKind.{EventKind}
use Rattle.txs_world_protocol.specs.declared.event.EventKind.TheVariants.{Read, Commit, Retry, Fail, Refused, Send, SendRefused, Act, Swap, Broke}
use Rattle.txs_world_book.specs.Book.{is_redo, sent_to}
use Rattle.txs_world_book.specs.History.{began_at}
use Rattle.txs_theorem_runs.specs.Told.{Place}

-- ---- what came before what

-- one event came before another
pub record Link : Type 0 where
  pub earlier : Place
  pub later : Place

-- whether a book itself says that one came before the other
abbrev pub in_book_order : Place → Place → Bool
in_book_order p q = p.book == q.book && nat_lt p.at q.at

-- each of these came before that one; what a book itself says isn't said again
abbrev pub links_to : List Place → Place → List Link
links_to [] q = []
links_to (p ∷ ps) q = if in_book_order p q then links_to ps q else record { earlier = p; later = q } ∷ links_to ps q

-- each of these came before each of those
abbrev pub links_between : List Place → List Place → List Link
links_between ps [] = []
links_between ps (q ∷ qs) = links_to ps q ++ links_between ps qs

-- how many events the book had when the transaction of this event began, or when the atom of a swap that faulted was opened
abbrev pub point_of : EventKind → Option ℕ
point_of (Read c) = None
point_of (Commit at view ws sends) = Some at
point_of (Retry since c cause) = Some (began_at cause since)
point_of (Fail at view) = Some at
point_of (Refused at view g) = Some at
point_of (Send x) = None
point_of (SendRefused g) = None
point_of (Act g n new sends) = None
point_of (Swap new) = None
point_of (Broke at) = Some at

-- the event that a book then had next, if it ever had one
abbrev pub next_event : ℕ → List Event → Option ℕ → List Place
next_event b book None = []
next_event b book (Some k) = if nat_lt k (length book) then record { book = b; at = k } ∷ [] else []

-- What an event of an actor says, where that is the event before it, and the actor was behind these when it began what led to the event: it came after all of
-- them, and the actor began when its book had as many events as its read point says, so what the book had next came after them, too.
abbrev pub links_of : (ℕ → List Event) → List Place → List Place → Place → EventKind → List Link
links_of books last behind q kind = links_to last q ++ (links_to behind q ++ links_between behind (next_event q.book (books q.book) (point_of kind)))

-- ---- the events of an actor

-- whether an action of an agent is over with an event
abbrev pub is_over : EventKind → Bool
is_over (Act g n new sends) = true
is_over _ = false

-- how many of its actions are over with an event, behind so many
abbrev pub acts_behind : ℕ → EventKind → ℕ
acts_behind j kind = if is_over kind then suc j else j

-- Behind which events an actor then is. Where its commutes alone are made again it is still in the same transaction; what follows an action is behind the event that
-- sent the next one, too.
abbrev pub behind_event : (ℕ → List Place) → ℕ → List Place → Place → EventKind → List Place
behind_event sender j behind q kind = if is_redo kind then behind else q ∷ (if is_over kind then sender (suc j) else [])

-- what an event of a trace says, before what those behind it say
abbrev pub event_links : (ℕ → List Event) → (ℕ → List Place) → ℕ → List Place → List Place → Place → Option Event → (ℕ → List Place → List Place → List Link) → List Link
event_links books sender j last behind q None go = go j last behind
event_links books sender j last behind q (Some e) go = links_of books last behind q e.kind ++ go (acts_behind j e.kind) (q ∷ []) (behind_event sender j behind q e.kind)

-- what the events of a trace say, where so many actions are over before them
abbrev pub trace_links : (ℕ → List Event) → (ℕ → List Place) → ℕ → List Place → List Place → List Place → List Link
trace_links books sender j last behind [] = []
trace_links books sender j last behind (q ∷ qs) = event_links books sender j last behind q (nth (books q.book) q.at) (λ j1 last1 behind1. trace_links books sender j1 last1 behind1 qs)

-- the same of a whole trace, of which the j-th action was sent by these
abbrev pub actor_links : (ℕ → List Event) → (ℕ → List Place) → List Place → List Link
actor_links books sender trace = trace_links books sender 0 [] (sender 0) trace

-- ---- who sent an action

-- the actions that an event sends
abbrev pub sent_by : EventKind → List Action
sent_by (Read c) = []
sent_by (Commit at view ws sends) = sends
sent_by (Retry since c cause) = []
sent_by (Fail at view) = []
sent_by (Refused at view g) = []
sent_by (Send x) = x ∷ []
sent_by (SendRefused g) = []
sent_by (Act g n new sends) = sends
sent_by (Swap new) = []
sent_by (Broke at) = []

-- of each action that came to the agent with this number, in order, the event that sent it: in the store's book from its k-th event on
abbrev pub senders_from : ℕ → ℕ → List Event → List Place
senders_from g k [] = []
senders_from g k (e ∷ es) = replicate (length (sent_to g (sent_by e.kind))) (record { book = 0; at = k }) ++ senders_from g (suc k) es

-- what is there, as a list
abbrev pub as_list : {A : Type 0} → Option A → List A
as_list None = []
as_list (Some x) = x ∷ []

-- the event that sent the agent with this number its j-th action, if one did
abbrev pub sender_of : ℕ → List Event → ℕ → List Place
sender_of g book j = as_list (nth (senders_from g 0 book) j)

-- a thread is sent nothing
abbrev pub no_sender : ℕ → List Place
no_sender j = []

-- ---- all actors

-- what the traces of threads say
abbrev pub thread_links : (ℕ → List Event) → List (List Place) → List Link
thread_links books [] = []
thread_links books (t ∷ ts) = actor_links books no_sender t ++ thread_links books ts

-- what the traces of these agents say
abbrev pub agent_links : (ℕ → List Event) → List CellId → List (List Place) → List Link
agent_links books [] ts = []
agent_links books (g ∷ gs) [] = []
agent_links books (g ∷ gs) (t ∷ ts) = actor_links books (sender_of g.number (books 0)) t ++ agent_links books gs ts

-- what the traces of threads say, and those of these agents
abbrev pub all_links : (ℕ → List Event) → List (List Place) → List CellId → List (List Place) → List Link
all_links books threads gs agents = thread_links books threads ++ agent_links books gs agents

-- There is a time of each event, a number: the events of a book have ascending times, and what came before another has the lesser.
pub record IsOrdered (books : ℕ → List Event) (ls : List Link) : Type 0 where
  pub time : (book index : ℕ) → ℕ
  pub ascends : (b k : ℕ) → suc k < length (books b) → time b k < time b (suc k)
  pub linked : (i : ℕ) (l : Link) → nth ls i ≡ Some l → time l.earlier.book l.earlier.at < time l.later.book l.later.at

-- ---- reports

-- the events that there are, none where there is no list
abbrev pub book_or_none : Option (List Event) → List Event
book_or_none None = []
book_or_none (Some es) = es

-- the books by number: 0 is the store's, n the n-th atom's
abbrev pub books_in : List Event → List (List Event) → ℕ → List Event
books_in book atom_books zero = book
books_in book atom_books (suc n) = book_or_none (nth atom_books n)
