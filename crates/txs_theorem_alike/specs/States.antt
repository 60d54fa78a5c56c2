-- Two states of runs that nobody can tell apart, and that turns keep them so.
use Rattle.std.specs.Prelude.{◌<◌, ℕ, Bool, false, ◌&&◌, List, [], ◌∷◌, map, Option, Some, None, if◌then◌else◌}
use Rattle.txs_value_cell.specs.declared.cell.CellDefinition.{CellDefinition}
use Rattle.txs_value_data.specs.Limits.{reruns}
use Rattle.txs_world_book.specs.Book.{is_there}
use Rattle.txs_code_meaning.specs.ActorState.{InHand}
use Rattle.txs_code_meaning.specs.Machine.{ThreadCode, Configuration, Turned, Ended, Failed, Asking, Unfinished, Stuck}
use Rattle.txs_theorem_runs.specs.Invariant.{RunInvariant}
use Rattle.txs_theorem_runs.specs.Run.{Stop, TakesTurn, Actor, State, play, plays_from}
use Rattle.txs_theorem_runs.specs.Staged.{StagedActor, stage_of}
use Rattle.txs_theorem_runs.specs.Stages.{Stage, Idle}
use Rattle.txs_theorem_runs.specs.Told.{exchange_of}
use Rattle.txs_theorem_alike.specs.Actors.{ActorsAlike}
use Rattle.txs_theorem_alike.specs.Books.{Alike}
use Rattle.txs_theorem_alike.specs.Failures.{failures}
use Rattle.txs_theorem_alike.specs.Stages.{SameStage}
use Rattle.txs_theorem_alike.specs.Turns.{AsksFreely}

-- ---- what it is to be alike

-- whether an action is over with a fault that is yet to be handed in
abbrev pub is_over : Option InHand → Bool
is_over None = false
is_over (Some h) = is_there h.fault

-- The places of journals that an actor holds, by its stage: its transaction's read point, with the view where it has one, or where its swap was opened. An action that is over holds
-- none.
abbrev pub places_of : Bool → Configuration → Stage
places_of agent c = if agent && is_over c.state.acting then Idle else stage_of agent c

-- an actor that has ended or was stopped holds none
abbrev pub places_at : Bool → Turned Configuration → Option Stop → Stage
places_at agent (Ended s) o = Idle
places_at agent (Failed f s) o = Idle
places_at agent (Asking s) o = Idle
places_at agent (Unfinished c) None = places_of agent c
places_at agent (Unfinished c) (Some why) = Idle
places_at agent Stuck o = Idle

-- the places that an actor of a run holds
abbrev pub holds : Bool → Actor → Stage
holds agent x = places_at agent x.at x.stopped

-- Nobody can tell two states of runs apart: what is shared is alike; each actor is where it is in the other, but for places and tries; and each place that it holds tells what it tells
-- there. Neither how many instructions, events and tries there were counts, nor how many actions an agent has run. The truth values say which actors are agents'.
pub record StatesAlike (cells : List CellDefinition) (agent : ℕ → Bool) (st other : State) : Type 0 where
  pub shared : Alike cells st.shared other.shared
  pub actors : (b : ℕ) → ActorsAlike (st.actors b) (other.actors b)
  pub places : (b : ℕ) → SameStage cells st.shared other.shared (holds (agent b) (st.actors b)) (holds (agent b) (other.actors b))

-- ---- turns

-- An actor's turn in a run that nothing stops: fewer tries of it failed than a transaction has, it may ask what it asks next, and there is room for that.
pub record GoesFreely (cells : List CellDefinition) (threads : ℕ) (codes : ℕ → ThreadCode) (a : ℕ) (st : State) : Type 0 where
  pub tries : failures (map exchange_of (st.actors a).entries) < reruns
  pub asks : AsksFreely cells threads (codes a) a (st.actors a).at st.shared

-- A turn of the same actor in two alike states of runs leads to alike states, if nothing stops it in either.
abbrev pub TurnsKeepStates : Type 0
TurnsKeepStates = (cells : List CellDefinition) (threads : ℕ) (codes : ℕ → ThreadCode) (agent : ℕ → Bool) (a : ℕ) (st other : State)
    → StagedActor (agent a) (codes a) → RunInvariant cells threads codes st → RunInvariant cells threads codes other
    → StatesAlike cells agent st other → GoesFreely cells threads codes a st → GoesFreely cells threads codes a other
    → StatesAlike cells agent (play cells threads codes (TakesTurn a) st) (play cells threads codes (TakesTurn a) other)

-- the state after turns of these actors, one after another
abbrev pub after_turns : List CellDefinition → ℕ → (ℕ → ThreadCode) → List ℕ → State → State
after_turns cells threads codes turns st = plays_from cells threads codes (map (λ b. TakesTurn b) turns) st

-- these actors take turns, one after another, and nothing stops one
abbrev pub GoFreely : List CellDefinition → ℕ → (ℕ → ThreadCode) → (ℕ → Bool) → List ℕ → State → Type 0
GoFreely cells threads codes agent [] st = Unit {0}
GoFreely cells threads codes agent (a ∷ turns) st = StagedActor (agent a) (codes a) × GoesFreely cells threads codes a st × GoFreely cells threads codes agent turns (play cells threads codes (TakesTurn a) st)

-- The same turns lead from alike states of runs to alike states, if nothing stops them in either.
abbrev pub RunsKeepStates : Type 0
RunsKeepStates = (cells : List CellDefinition) (threads : ℕ) (codes : ℕ → ThreadCode) (agent : ℕ → Bool) (turns : List ℕ) (st other : State)
    → RunInvariant cells threads codes st → RunInvariant cells threads codes other → StatesAlike cells agent st other
    → GoFreely cells threads codes agent turns st → GoFreely cells threads codes agent turns other
    → StatesAlike cells agent (after_turns cells threads codes turns st) (after_turns cells threads codes turns other)
