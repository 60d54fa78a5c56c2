-- Why an actor's next ask is lawful.
use Rattle.std.specs.Prelude.{◌≡◌, ◌<◌, ℕ, false, List, [], length, map, Option, Some, None}
use Rattle.txs_world_protocol.specs.Ask.{Exchange}
use Rattle.txs_world_protocol.specs.declared.ask.Ask.{Ask}
use Rattle.txs_world_protocol.specs.declared.event.Event.{Event}
use Rattle.txs_world_protocol.specs.declared.event.Outcome.{Outcome}
use Rattle.txs_value_cell.specs.declared.cell.CellDefinition.{CellDefinition}
use Rattle.txs_code_meaning.specs.Machine.{ThreadCode, Configuration, Unfinished, run}
use Rattle.txs_code_meaning.specs.Opening.{opening}
use Rattle.txs_code_meaning.specs.PlainCode.{PlainCode}
use Rattle.txs_machine_actor.specs.PlainActor.{PlainActor, Awaits, unanswered, code_of, configuration_of}
use Rattle.txs_theorem_runs.specs.Lawful.{OpeningIsKnown}
use Rattle.txs_theorem_runs.specs.Staged.{stage_of}
use Rattle.txs_theorem_runs.specs.Stages.{Stage}
use Rattle.txs_theorem_runs.specs.Standing.{StandingCode}
use Rattle.txs_theorem_runs.specs.Told.{Entry, exchange_of, trace_of}
use Rattle.txs_theorem_runs.proofs.Naming.{MayName}
use Rattle.txs_theorem_runs.proofs.OneActor.{MayView}
use Rattle.txs_theorem_runs.proofs.ServedKnown.{BookKnown}
use Rattle.txs_theorem_runs.proofs.Values.{TodoKnown}
use Rattle.txs_machine.specs.RunOver.{RunOver, places_of}
use Rattle.txs_world_protocol.specs.declared.event.Place.{Place}

-- On these exchanges the machine came to a place in this stage, whose instruction asks what the actor asks, and leads where the actor is after
-- the answer.
pub record AskedFrom (cells : List CellDefinition) (code : ThreadCode) (k : ℕ) (books : ℕ → List Event) (xs : List Exchange) (a : PlainActor) (st : Stage) (q : Ask) : Type 0 where
  pub turns : ℕ
  pub before : Configuration
  pub ran : run code turns (opening code xs) ≡ Unfinished before
  pub consumed : before.state.todo ≡ []
  pub here : stage_of false before ≡ st
  pub awaits : Awaits code before a q
  pub views : MayView cells code k books before

-- so it did where the actor asks; one that asks nothing and continues may view where it is
abbrev pub HasStood : List CellDefinition → ThreadCode → ℕ → (ℕ → List Event) → List Exchange → PlainActor → Stage → Option Outcome → Option Ask → Type 0
HasStood cells code k books xs a st None None = MayView cells code k books (configuration_of a)
HasStood cells code k books xs a st None (Some q) = AskedFrom cells code k books xs a st q
HasStood cells code k books xs a st (Some o) q = Unit {0}

-- What an actor was answered, and all values of the books, name defined cells alone; and the actor may name the places of its stage: the
-- read point of its try, and in a commute phase its view.
pub record ToldLawfully (cells : List CellDefinition) (k : ℕ) (books : ℕ → List Event) (es : List Entry) (st : Stage) : Type 0 where
  pub replies : TodoKnown cells (map exchange_of es)
  pub values : (opened : OpeningIsKnown cells) (n : ℕ) → BookKnown cells opened (books n)
  pub places : MayName cells books k st

-- What the actor of a thread of the code has done over what is shared, that these are the places of its events, and why its next ask is lawful:
-- its code's instructions are where they may be.
pub record RunLawfully (code : PlainCode) (k : ℕ) (books : ℕ → List Event) (trace : List Place) (a : PlainActor) : Type 0 where
  pub over : RunOver code k books a
  pub traced : places_of trace ≡ trace_of code.cells books k over.entries
  pub thread : k < length code.threads
  pub stands : StandingCode (code_of code k)
  pub stood : HasStood code.cells (code_of code k) k books (map exchange_of over.entries) a over.stage a.outcome (unanswered a)
  pub lawful : ToldLawfully code.cells k books over.entries over.stage
