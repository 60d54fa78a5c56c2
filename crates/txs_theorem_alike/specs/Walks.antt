-- Actors that go on alone up to their next requests, as a search through all schedules takes them: with a bound on each walk, and none on all of them.
use Rattle.std.specs.Prelude.{◌≡◌, ◌<◌, ℕ, zero, suc, Bool, true, false, not, ◌&&◌, ◌==◌, List, [], ◌∷◌, map, Option, Some, None, if◌then◌else◌}
use Rattle.txs_world_protocol.specs.declared.ask.Ask.{Ask}
use Rattle.txs_world_protocol.specs.declared.ask.Ask.TheVariants as ask
use Rattle.txs_value_data.specs.Limits.{reruns}
use Rattle.txs_value_cell.specs.declared.cell.CellDefinition.{CellDefinition}
use Rattle.txs_world_book.specs.Book.{is_there}
use Rattle.txs_world_book.specs.Served.{cells_of}
use Rattle.txs_world.specs.Store.{next_action}
use Rattle.txs_code_meaning.specs.Machine.{ThreadCode, Configuration, Turned, Ended, Failed, Asking, Unfinished, Stuck, turn}
use Rattle.txs_theorem_runs.specs.Invariant.{RunInvariant}
use Rattle.txs_theorem_runs.specs.Run.{Stop, TakesTurn, Actor, State, comes_to, play}
use Rattle.txs_theorem_runs.specs.Shared.{Shared, may_ask}
use Rattle.txs_theorem_runs.specs.Staged.{StagedActor}
use Rattle.txs_theorem_runs.specs.Told.{exchange_of}
use Rattle.txs_theorem_alike.specs.Actors.{printed_in, ended_in, wanted_in}
use Rattle.txs_theorem_alike.specs.Failures.{failures}
use Rattle.txs_theorem_alike.specs.States.{StatesAlike, GoesFreely}

-- ---- one actor alone

-- what an actor's next instruction asks, if it asks
abbrev pub next_ask : ThreadCode → Turned Configuration → Option Stop → Option Ask
next_ask code (Ended s) o = None
next_ask code (Failed f s) o = None
next_ask code (Asking s) o = None
next_ask code (Unfinished c) None = wanted_in (turn code c)
next_ask code (Unfinished c) (Some why) = None
next_ask code Stuck o = None

-- whether an actor has neither ended nor was it stopped
abbrev pub goes_on : Turned Configuration → Option Stop → Bool
goes_on (Ended s) o = false
goes_on (Failed f s) o = false
goes_on (Asking s) o = false
goes_on (Unfinished c) None = true
goes_on (Unfinished c) (Some why) = false
goes_on Stuck o = false

-- whether an actor goes on alone: its next instruction asks nothing
abbrev pub goes_alone : ThreadCode → Actor → Bool
goes_alone code x = goes_on x.at x.stopped && not (is_there (next_ask code x.at x.stopped))

-- the state after an actor went on alone, for so many instructions at most
abbrev pub walks : List CellDefinition → ℕ → (ℕ → ThreadCode) → ℕ → ℕ → State → State
walks cells threads codes a zero st = st
walks cells threads codes a (suc n) st = if goes_alone (codes a) (st.actors a) then walks cells threads codes a n (play cells threads codes (TakesTurn a) st) else st

-- an actor behind an instruction that asks nothing
abbrev pub steps_on : ThreadCode → Turned Configuration → Option Stop → Actor → Actor
steps_on code (Ended s) o x = x
steps_on code (Failed f s) o x = x
steps_on code (Asking s) o x = x
steps_on code (Unfinished c) None x = comes_to (turn code c) x
steps_on code (Unfinished c) (Some why) x = x
steps_on code Stuck o x = x

-- an actor that goes on alone, for so many instructions at most
abbrev pub walk : ThreadCode → ℕ → Actor → Actor
walk code zero x = x
walk code (suc n) x = if goes_alone code x then walk code n (steps_on code x.at x.stopped x) else x

-- in another state this actor is so, and all else is the same
pub record Own (cells : List CellDefinition) (threads : ℕ) (codes : ℕ → ThreadCode) (a : ℕ) (st later : State) (x : Actor) : Type 0 where
  pub shared : later.shared ≡ st.shared
  pub actor : later.actors a ≡ x
  pub others : (b : ℕ) → (a == b) ≡ false → later.actors b ≡ st.actors b

-- a walk is the actor's own
abbrev pub IsOwnWalk : List CellDefinition → ℕ → (ℕ → ThreadCode) → ℕ → ℕ → State → Type 0
IsOwnWalk cells threads codes n a st = Own cells threads codes a st (walks cells threads codes a n st) (walk (codes a) n (st.actors a))

abbrev pub WalksAreOwn : Type 0
WalksAreOwn = (cells : List CellDefinition) (threads : ℕ) (codes : ℕ → ThreadCode) (n a : ℕ) (st : State) → IsOwnWalk cells threads codes n a st

-- the state after its next request was answered
abbrev pub asks_on : List CellDefinition → ℕ → (ℕ → ThreadCode) → ℕ → ℕ → State → State
asks_on cells threads codes n a st = play cells threads codes (TakesTurn a) (walks cells threads codes a n st)

-- ---- who may go on

-- whether a request is answered Idle: an agent's actor would take an action where there is none
abbrev pub is_idle : List CellDefinition → ℕ → Shared → ℕ → Ask → Bool
is_idle cells threads sh a (ask.Take g) = may_ask cells threads sh.taken a (ask.Take g) (sh.books 0) && not (is_there (next_action (cells_of cells) (sh.books 0) g))
is_idle cells threads sh a _ = false

-- whether an actor with this request may go on
abbrev pub is_due : List CellDefinition → ℕ → Shared → ℕ → Option Ask → Bool
is_due cells threads sh a None = false
is_due cells threads sh a (Some q) = not (is_idle cells threads sh a q)

-- whether an actor may go on, once it has gone on alone
abbrev pub may_go : List CellDefinition → ℕ → (ℕ → ThreadCode) → ℕ → ℕ → State → Bool
may_go cells threads codes n a st =
    is_due cells threads st.shared a (next_ask (codes a) ((walks cells threads codes a n st).actors a).at ((walks cells threads codes a n st).actors a).stopped)

-- ---- alike states go on alike

-- fewer tries of an actor failed than a transaction has
abbrev pub HasTries : ℕ → State → Type 0
HasTries a st = failures (map exchange_of (st.actors a).entries) < reruns

-- In two states an actor goes on alike, with so many instructions at most from one request to the next. Where it has gone on alone the states are alike, and in both it has gone as far as
-- it can, or in neither; it may go on in both or in neither, and of it the same is told. With its next request answered the states are alike, if nothing stops it in either.
pub record GoesOnAlike (cells : List CellDefinition) (threads : ℕ) (codes : ℕ → ThreadCode) (agent : ℕ → Bool) (n a : ℕ) (st other : State) : Type 0 where
  pub walk : StatesAlike cells agent (walks cells threads codes a n st) (walks cells threads codes a n other)
  pub walked : goes_alone (codes a) ((walks cells threads codes a n st).actors a) ≡ goes_alone (codes a) ((walks cells threads codes a n other).actors a)
  pub enabled : may_go cells threads codes n a st ≡ may_go cells threads codes n a other
  pub printed : printed_in ((walks cells threads codes a n st).actors a).at ≡ printed_in ((walks cells threads codes a n other).actors a).at
  pub ended : ended_in ((walks cells threads codes a n st).actors a).at ≡ ended_in ((walks cells threads codes a n other).actors a).at
  pub turn : GoesFreely cells threads codes a (walks cells threads codes a n st) → GoesFreely cells threads codes a (walks cells threads codes a n other)
      → StatesAlike cells agent (asks_on cells threads codes n a st) (asks_on cells threads codes n a other)

-- each actor goes on alike in alike states of runs, whatever the bound
abbrev pub AlikeGoOnAlike : Type 0
AlikeGoOnAlike = (cells : List CellDefinition) (threads : ℕ) (codes : ℕ → ThreadCode) (agent : ℕ → Bool) (n a : ℕ) (st other : State)
    → StagedActor (agent a) (codes a) → RunInvariant cells threads codes st → RunInvariant cells threads codes other → StatesAlike cells agent st other → HasTries a st → HasTries a other
    → GoesOnAlike cells threads codes agent n a st other

-- ---- lists of requests

-- the state after the next requests of these actors were answered, one after another
abbrev pub after_asks : List CellDefinition → ℕ → (ℕ → ThreadCode) → ℕ → List ℕ → State → State
after_asks cells threads codes n [] st = st
after_asks cells threads codes n (a ∷ ks) st = after_asks cells threads codes n ks (asks_on cells threads codes n a st)

-- nothing stops one of them
abbrev pub AskFreely : List CellDefinition → ℕ → (ℕ → ThreadCode) → (ℕ → Bool) → ℕ → List ℕ → State → Type 0
AskFreely cells threads codes agent n [] st = Unit {0}
AskFreely cells threads codes agent n (a ∷ ks) st =
    StagedActor (agent a) (codes a) × HasTries a st × GoesFreely cells threads codes a (walks cells threads codes a n st) × AskFreely cells threads codes agent n ks (asks_on cells threads codes n a st)

-- the same requests lead from alike states of runs to alike states
abbrev pub AsksKeepStates : Type 0
AsksKeepStates = (cells : List CellDefinition) (threads : ℕ) (codes : ℕ → ThreadCode) (agent : ℕ → Bool) (n : ℕ) (ks : List ℕ) (st other : State)
    → RunInvariant cells threads codes st → RunInvariant cells threads codes other → StatesAlike cells agent st other
    → AskFreely cells threads codes agent n ks st → AskFreely cells threads codes agent n ks other
    → StatesAlike cells agent (after_asks cells threads codes n ks st) (after_asks cells threads codes n ks other)
