-- How far a trace names an actor's events.
use Rattle.std.specs.Prelude.{◌≡◌, ◌≤◌, ◌<◌, ℕ, Bool, true, false, ◌&&◌, ◌==◌, ◌+◌, List, [], ◌∷◌, length, map, Option, Some, None}
use Rattle.std.proofs.Common.{get_or}
use Rattle.txs_theorem_audit.specs.Audited.{Finding, Fine, Off, PlainActorReport, place_of, ran_as}
use Rattle.txs_theorem_audit.specs.Verdict.{begins, in_books, runs_right, trace_found, traces_found}
use Rattle.txs_theorem_runs.specs.Told.{Place, places_in, places_by}
use Rattle.txs_world_protocol.specs.declared.event.Event.{Event}
use Rattle.txs_world_protocol.specs.declared.event.Place as event
use Rattle.txs_world_protocol.specs.declared.report.ActorReport.{ActorReport}
use Rattle.txs_audit_order.specs.Rows.{AllRows}

-- whether what is there is this number
abbrev pub is_this : ℕ → Option ℕ → Bool
is_this p None = false
is_this p (Some q) = q == p

-- the places of a trace as the laws of runs speak of them
abbrev pub plain_trace : List event.Place → List Place
plain_trace ps = map place_of ps

-- an entry that may not be there
abbrev pub plain_entry : Option ActorReport → Option PlainActorReport
plain_entry None = None
plain_entry (Some ran) = Some (ran_as ran)

-- there is a row of this actor in each book
abbrev pub HasActor : ℕ → List (List (List ℕ)) → Type 0
HasActor a all = (n : ℕ) → n < length all → a < length (get_or all n [])

-- there are no more books
abbrev pub Outside : ℕ → (ℕ → List Event) → Type 0
Outside count books = (n : ℕ) → count ≤ n → books n ≡ []

-- so many places of each book are named
pub record Counted (count : ℕ) (done : List Place) (named : List ℕ) : Type 0 where
  pub many : length named ≡ count
  pub each : (n : ℕ) → n < count → get_or named n 0 ≡ length (places_in n done)
  pub inside : in_books count done ≡ true

-- so far a trace names the first of an actor's events in each book, and what is found is what the rest gives
pub record Begun (books : ℕ → List Event) (count a : ℕ) (done rest : List Place) (trace : List Place) : Type 0 where
  pub begun : (n : ℕ) → n < count → begins (places_in n done) (places_by a 0 (books n)) ≡ true
  pub runs : runs_right books a done rest ≡ runs_right books a [] trace

-- whatever books have these rows
abbrev pub AllBegun : ℕ → List (List (List ℕ)) → ℕ → List Place → List Place → List Place → Type 0
AllBegun actors all a done rest trace = (books : ℕ → List Event) → a < actors → AllRows actors (length all) books all → Outside (length all) books → Begun books (length all) a done rest trace

-- whether all of the actor's events are named
abbrev pub all_named : ℕ → List (List (List ℕ)) → List ℕ → Bool
all_named a [] ns = true
all_named a (rows ∷ all) [] = true
all_named a (rows ∷ all) (n ∷ ns) = (length (get_or rows a []) == n) && all_named a all ns

-- nothing is found, or what is off at this index of an actor's trace
abbrev pub off_at : ℕ → Option ℕ → Finding
off_at a None = Fine
off_at a (Some i) = Off a i

-- the same, with the actor
abbrev pub off_in : Option (ℕ × ℕ) → Finding
off_in None = Fine
off_in (Some w) = Off w.0 w.1

-- in an actor's trace this is off, whatever books have these rows
abbrev pub OffOf : List (List (List ℕ)) → ℕ → List Place → Option ℕ → Type 0
OffOf all a trace o = (actors : ℕ) (books : ℕ → List Event) → a < actors → AllRows actors (length all) books all → Outside (length all) books → off_at a o ≡ trace_found books (length all) a trace

-- in the traces of these entries, of which the first is this actor's, that is off
abbrev pub OffIn : List (List (List ℕ)) → ℕ → List ActorReport → Option (ℕ × ℕ) → Type 0
OffIn all first rans o = (actors : ℕ) (books : ℕ → List Event) → first + length rans ≤ actors → AllRows actors (length all) books all → Outside (length all) books → off_in o ≡ traces_found books (length all) first (map ran_as rans)

-- there is a row of each of so many actors in each book, from this actor on
abbrev pub HasActors : ℕ → ℕ → List (List (List ℕ)) → Type 0
HasActors first many all = (k : ℕ) → k < many → HasActor (first + k) all
