-- What an actor did to the store: its events with their worlds, R at the read point, Q at the view, C at an event's own place.
use Rattle.std.specs.Prelude.{ℕ, suc, Bool, true, false, ◌==◌, List, [], ◌∷◌, ◌++◌, length}
use Rattle.txs_world_protocol.specs.SeenEvent.{SeenEvent}
use Rattle.txs_value_cell.specs.Cells.{World}
use Rattle.txs_world_protocol.specs.declared.event.Event.{Event}
use Rattle.txs_world_protocol.specs.declared.event.Cause.{Cause}
use Rattle.txs_world_protocol.specs.declared.event.Cause.TheVariants.{Outdated, Held, Commuted}
use Rattle.txs_world_protocol.specs.declared.event.EventKind.{EventKind}
use Rattle.txs_world_protocol.specs.declared.event.EventKind.TheVariants.{Read, Commit, Retry, Fail, Refused, Send, SendRefused, Act, Swap, Broke}
use Rattle.txs_world_book.specs.Book.{after}

-- where a transaction began that had to run again
abbrev pub began_at : Cause → ℕ → ℕ
began_at Outdated since = since
began_at Held since = since
began_at (Commuted at) since = at

-- an event's read point: its own place where it has none
abbrev pub at_of : EventKind → ℕ → ℕ
at_of (Read c) k = k
at_of (Commit at view ws sends) k = at
at_of (Retry since c cause) k = began_at cause since
at_of (Fail at view) k = at
at_of (Refused at view g) k = at
at_of (Send x) k = k
at_of (SendRefused g) k = k
at_of (Act g n new sends) k = k
at_of (Swap new) k = k
at_of (Broke at) k = at

-- the place of an event's view: its own place where it has none
abbrev pub view_of : EventKind → ℕ → ℕ
view_of (Read c) k = k
view_of (Commit at view ws sends) k = view
view_of (Retry since c cause) k = k
view_of (Fail at view) k = view
view_of (Refused at view g) k = view
view_of (Send x) k = k
view_of (SendRefused g) k = k
view_of (Act g n new sends) k = k
view_of (Swap new) k = k
view_of (Broke at) k = k

-- an event of the store's book with these worlds
abbrev pub seen_event : EventKind → World → World → World → SeenEvent
seen_event d R Q C = record { book = 0; kind = d; R = R; Q = Q; C = C }

-- an event at a place of the book, with its worlds
abbrev pub past_at : World → List Event → ℕ → EventKind → SeenEvent
past_at w book k d = seen_event d (after w book (at_of d k)) (after w book (view_of d k)) (after w book k)

-- an event that comes after those of a book
abbrev pub past_of : World → List Event → EventKind → SeenEvent
past_of w done d = past_at w done (length done) d

-- an event before others, where it is wanted
abbrev pub before : Bool → SeenEvent → List SeenEvent → List SeenEvent
before true e es = e ∷ es
before false e es = es

-- the actor's events among those that come after some, in the book's order
abbrev pub history_from : World → ℕ → List Event → List Event → List SeenEvent
history_from w a done [] = []
history_from w a done (e ∷ es) = before (e.actor == a) (past_of w done e.kind) (history_from w a (done ++ e ∷ []) es)

-- the actor's events with their worlds, in the book's order
abbrev pub history_of : World → ℕ → List Event → List SeenEvent
history_of w a book = history_from w a [] book

-- the actor's events from a place on, with the worlds of the whole book
abbrev pub replayed_from : World → ℕ → List Event → ℕ → List Event → List SeenEvent
replayed_from w a book k [] = []
replayed_from w a book k (e ∷ es) = before (e.actor == a) (past_at w book k e.kind) (replayed_from w a book (suc k) es)
