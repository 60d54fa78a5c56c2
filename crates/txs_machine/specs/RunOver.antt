-- What an actor has done over what is shared, and what the source of its thread says of it.
use Rattle.std.specs.Prelude.{◌≡◌, ◌≤◌, ℕ, false, List, [], ◌∷◌, ◌++◌, length, map, Option, Some, None}
use Rattle.txs_world_protocol.specs.Ask.{Exchange}
use Rattle.txs_world_protocol.specs.declared.ask.Ask.{Ask}
use Rattle.txs_world_protocol.specs.declared.ask.Reply.{Reply}
use Rattle.txs_world_protocol.specs.declared.event.Event.{Event}
use Rattle.txs_world_protocol.specs.declared.event.Outcome.{Outcome}
use Rattle.txs_world_protocol.specs.declared.event.Outcome.TheVariants.{StepsSpent, JournalFull}
use Rattle.txs_value_cell.specs.declared.cell.CellDefinition.{CellDefinition}
use Rattle.txs_code_meaning.specs.ActorState.{ActorState}
use Rattle.txs_code_meaning.specs.Machine.{ThreadCode, Asking, run}
use Rattle.txs_code_meaning.specs.Opening.{opening as opens}
use Rattle.txs_code_meaning.specs.PlainCode.{PlainCode}
use Rattle.txs_machine_actor.specs.PlainActor.{PlainActor, HasRun, AsksLast, MayAnswer, Stops, answered, unanswered, configuration_of, state_of, code_of, stands_at}
use Rattle.txs_value_data.specs.Limits.{most_events}
use Rattle.txs_theorem_runs.specs.Printed.{Prints}
use Rattle.txs_theorem_runs.specs.Stages.{Stage, AsksIn, stage_after}
use Rattle.txs_theorem_runs.specs.Staged.{IsStaged, stage_of}
use Rattle.txs_theorem_runs.specs.Shared.{book_for}
use Rattle.txs_theorem_runs.specs.Told as told_by
use Rattle.txs_theorem_runs.specs.Told.{Entry, exchange_of, ToldBy}
use Rattle.txs_world_shared.specs.SharedState.{PlainShared, shared_of}
use Rattle.txs_world_protocol.specs.declared.event.Place.{Place}

-- the state of the code's cells, for its threads
pub record IsStateOf (code : PlainCode) (s : PlainShared) : Type 0 where
  pub cells : s.cells ≡ code.cells
  pub threads : s.threads ≡ length code.threads

-- an actor is in this stage; one that asks is in the next stage after each answer
abbrev pub IsIn : PlainActor → Stage → Option Outcome → Option Ask → Type 0
IsIn a st (Some o) q = Unit {0}
IsIn a st None None = stage_of false (configuration_of a) ≡ st
IsIn a st None (Some q) = AsksIn false st q × ((r : Reply) → MayAnswer q r → (Stops r → ⊥) → IsStaged false (stage_after st q r) (stands_at (answered a r)))

-- the books of the state, by number
abbrev pub books_of : PlainShared → ℕ → List Event
books_of s = (shared_of s).books

-- places as the laws of runs speak of them
abbrev pub places_of : List Place → List told_by.Place
places_of [] = []
places_of (p ∷ ps) = record { book = p.book; at = p.at } ∷ places_of ps

-- On these entries the code waits with an ask within as many instructions as the actor has made steps, and what it has printed there the
-- actor has printed.
pub record AskedOn (code : ThreadCode) (before : List Entry) (a : PlainActor) : Type 0 where
  pub waiting : ActorState
  pub asking : run code a.steps (opens code (map exchange_of before)) ≡ Asking waiting
  pub consumed : waiting.todo ≡ []
  pub printed : Prints waiting.printed (state_of a)

-- On these exchanges the code asked in its last step what adds an event to a book that is full.
pub record AtFullBook (cells : List CellDefinition) (code : ThreadCode) (books : ℕ → List Event) (xs : List Exchange) (a : PlainActor) : Type 0 where
  pub ask : Ask
  pub asked : AsksLast code xs a ask
  pub full : most_events ≤ length (books (book_for cells ask))

-- The actor of the k-th thread has done what the machine does on what the books answered it, whoever else has written in
-- them; it asked for each of its entries on those before; and where it was stopped for a full book, the book for its ask is full.
pub record RunOver (code : PlainCode) (k : ℕ) (books : ℕ → List Event) (a : PlainActor) : Type 0 where
  pub number : a.number ≡ k
  pub entries : List Entry
  pub stage : Stage
  pub ran : HasRun code (map exchange_of entries) a
  pub told : ToldBy code.cells (length code.threads) books false k entries stage
  pub here : IsIn a stage a.outcome (unanswered a)
  pub asked : (before : List Entry) (e : Entry) (rest : List Entry) → entries ≡ before ++ e ∷ rest → AskedOn (code_of code k) before a
  pub full : a.outcome ≡ Some JournalFull → AtFullBook code.cells (code_of code k) books (map exchange_of entries) a

-- an actor that asks nothing, or has ended so
abbrev pub IsAfter : PlainActor → Option Outcome → Type 0
IsAfter a None = unanswered a ≡ None
IsAfter a (Some o) = a.outcome ≡ Some o

-- an actor that may make so many steps, has made no more, and has made them all where it was stopped for that
pub record IsLimited (limit : ℕ) (a : PlainActor) : Type 0 where
  pub limited : a.limit ≡ limit
  pub within : a.steps ≤ limit
  pub spent : a.outcome ≡ Some StepsSpent → limit ≤ a.steps
