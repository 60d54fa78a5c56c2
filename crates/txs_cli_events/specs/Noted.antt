-- What a list of a run's events says: whose each is, in which order they are, and what was printed before each.
use Rattle.std.specs.Prelude.{◌≡◌, ◌≤◌, ◌==◌, ℕ, List, [], ◌∷◌, ◌++◌, length, map, filter, drop, get_or, Option, Some, None}
use Rattle.std.specs.List.{range_with_len}
use Rattle.txs_value_data.specs.Places.{nth}
use Rattle.txs_world_protocol.specs.declared.event.Event.{Event}
use Rattle.txs_world_protocol.specs.declared.event.Place.{Place}
use Rattle.txs_world_protocol.specs.declared.report.ActorReport.{ActorReport}
use Rattle.txs_world_protocol.specs.declared.report.Report.{Report}
use Rattle.txs_cli_events.specs.declared.seen.Noted.{Noted}

-- ---- a report

-- what each actor did: threads come first, and agents behind them
abbrev pub entries_of : Report → List ActorReport
entries_of r = r.threads.items ++ r.agents.items

-- the places of an actor's events
abbrev pub trace_of : Option ActorReport → List Place
trace_of None = []
trace_of (Some ran) = ran.trace.items

-- those of the k-th actor; of one that isn't there they are none
abbrev pub trace_at : Report → ℕ → List Place
trace_at r k = trace_of (nth (entries_of r) k)

-- how many bytes an actor printed
abbrev pub bytes_of : Option ActorReport → ℕ
bytes_of None = 0
bytes_of (Some ran) = length ran.printed.items

-- so of the k-th
abbrev pub bytes_at : Report → ℕ → ℕ
bytes_at r k = bytes_of (nth (entries_of r) k)

-- how many events a book has
abbrev pub many_of : Option (List Event) → ℕ
many_of None = 0
many_of (Some events) = length events

-- so of the book with this number: 0 is the store's, and n that of the n-th atom
abbrev pub events_in : Report → ℕ → ℕ
events_in r b = many_of (nth (r.book.items ∷ r.atom_books.items) b)

-- ---- notes

-- those of one actor
abbrev pub of_actor : ℕ → List Noted → List Noted
of_actor k = filter (λ (x : Noted). x.actor == k)

-- those of one book
abbrev pub of_book : ℕ → List Noted → List Noted
of_book b = filter (λ (x : Noted). x.event.book == b)

-- where each is
abbrev pub places : List Noted → List Place
places = map (λ (x : Noted). x.event)

-- its index in its book
abbrev pub indices : List Noted → List ℕ
indices = map (λ (x : Noted). x.event.at)

-- how much was printed before it
abbrev pub prints : List Noted → List ℕ
prints = map (λ (x : Noted). x.printed)

-- The notes of each actor are the events of its trace, in the same order. No event of another is noted.
abbrev pub AreTraced : Report → List Noted → Type 0
AreTraced r notes = (k : ℕ) → places (of_actor k notes) ≡ trace_at r k

-- The notes of each book are all its events, from the first to the last.
abbrev pub AreInOrder : Report → List Noted → Type 0
AreInOrder r notes = (b : ℕ) → indices (of_book b notes) ≡ range_with_len 0 (events_in r b)

-- These numbers don't descend, and are from the first bound to the second.
abbrev pub RiseWithin : ℕ → ℕ → List ℕ → Type 0
RiseWithin low high [] = Unit {0}
RiseWithin low high (n ∷ ns) = (low ≤ n) × (n ≤ high) × RiseWithin n high ns

-- How much an actor had printed before its events never descends, and is at most what it printed in all.
abbrev pub ArePrinted : Report → List Noted → Type 0
ArePrinted r notes = (k : ℕ) → RiseWithin 0 (bytes_at r k) (prints (of_actor k notes))

-- ---- behind some notes, of which these are counts

-- so many events of each trace are noted, and these notes are the others
abbrev pub RestOfTraces : Report → List ℕ → List Noted → Type 0
RestOfTraces r counts notes = (k : ℕ) → places (of_actor k notes) ≡ drop (get_or counts k 0) (trace_at r k)

-- so many events of each book are
abbrev pub RestOfBooks : Report → List ℕ → List Noted → Type 0
RestOfBooks r counts notes = (b : ℕ) → indices (of_book b notes) ≡ drop (get_or counts b 0) (range_with_len 0 (events_in r b))

-- so much was printed before the last note of each actor
abbrev pub RestOfPrints : Report → List ℕ → List Noted → Type 0
RestOfPrints r counts notes = (k : ℕ) → RiseWithin (get_or counts k 0) (bytes_at r k) (prints (of_actor k notes))
