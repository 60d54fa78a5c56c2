-- A report as plain data, and what an audit may answer.
use Rattle.std.specs.Prelude.{ℕ, zero, suc, Bool, true, false, List, [], ◌∷◌, map, Option, Some}
use Rattle.txs_value_data.specs.Places.{nth}
use Rattle.txs_value_data.specs.declared.fault.Fault.{Fault}
use Rattle.txs_value_data.specs.declared.value.Value.{Value}
use Rattle.txs_world_protocol.specs.declared.event.Event.{Event}
use Rattle.txs_world_protocol.specs.declared.event.Outcome.{Outcome}
use Rattle.txs_world_protocol.specs.declared.event.Place as event
use Rattle.txs_world_protocol.specs.declared.report.ActorReport.{ActorReport}
use Rattle.txs_world_protocol.specs.declared.report.Report.{Report}
use Rattle.txs_theorem_runs.specs.Told.{Place}
use Rattle.txs_theorem_serial.specs.Order.{books_in}

-- What a run was to do: whether it was to go on up to its end, and how many steps an actor may make.
pub record PlainTerms : Type 0 where
  pub finishes : Bool
  pub limit : ℕ

-- what a report says of one actor: how it ended if it has, how many steps it made, what it printed, and where its events are, in order
pub record PlainActorReport : Type 0 where
  pub outcome : Option Outcome
  pub steps : ℕ
  pub printed : List ℕ
  pub trace : List Place

-- A report: the threads and the agents; the store's book and those of the atoms, in the order of their cells; the values of cells by
-- number; and the fault of each agent that has failed.
pub record PlainReport : Type 0 where
  pub threads : List PlainActorReport
  pub agents : List PlainActorReport
  pub book : List Event
  pub atom_books : List (List Event)
  pub cells : List Value
  pub failed : List (Option Fault)

-- ---- the report of a run

-- where an event is, as the laws of runs say it
abbrev pub place_of : event.Place → Place
place_of p = record { book = p.book; at = p.at }

-- an entry as plain data
abbrev pub ran_as : ActorReport → PlainActorReport
ran_as x = record { outcome = x.outcome; steps = x.steps; printed = x.printed.items; trace = map place_of x.trace.items }

-- a report as plain data
abbrev pub report_as : Report → PlainReport
report_as r = record {
  threads = map ran_as r.threads.items;
  agents = map ran_as r.agents.items;
  book = r.book.items;
  atom_books = r.atom_books.items;
  cells = r.cells.items;
  failed = r.failed.items;
}

-- ---- the books and the entries by number

-- the books by number: 0 is the store's, n the n-th atom's
abbrev pub books_of : PlainReport → ℕ → List Event
books_of r = books_in r.book r.atom_books

-- a member of a list, or else of the list behind it
abbrev pub nth_behind : {A : Type 0} → List A → List A → ℕ → Option A
nth_behind [] ys a = nth ys a
nth_behind (x ∷ xs) ys zero = Some x
nth_behind (x ∷ xs) ys (suc a) = nth_behind xs ys a

-- the entry of an actor: threads come first, and behind them the agents
abbrev pub entry_of : PlainReport → ℕ → Option PlainActorReport
entry_of r a = nth_behind r.threads r.agents a

-- ---- what an audit answers

-- What an audit answers: the report is explained, and whether every commit is covered; or it isn't, or more turns are needed, at this
-- event of this actor's trace.
pub data Verdict : Type 0 where
  Agrees : (serial : Bool) → Verdict
  Differs Undecided : (actor event : ℕ) → Verdict

-- what one test finds
pub data Finding : Type 0 where
  Fine : Finding
  Off Short : (actor event : ℕ) → Finding

-- the first that isn't fine
abbrev pub and_then : Finding → Finding → Finding
and_then Fine g = g
and_then (Off a i) g = Off a i
and_then (Short a i) g = Short a i

-- fine where this holds, else off there
abbrev pub check : Bool → ℕ → ℕ → Finding
check true a i = Fine
check false a i = Off a i

-- the answer of an audit that has found this, where this says whether every commit is covered
abbrev pub answer : Finding → Bool → Verdict
answer Fine serial = Agrees serial
answer (Off a i) serial = Differs a i
answer (Short a i) serial = Undecided a i
