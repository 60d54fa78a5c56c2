-- The actors of a run as a search goes through them: without what they were answered so far, each with a limit of instructions.
use Rattle.std.specs.Prelude.{◌≡◌, ◌<◌, ◌≤◌, ◌+◌, ◌-◌, ℕ, zero, suc, Bool, true, false, not, ◌&&◌, ◌||◌, ◌==◌, nat_lt, nat_le, List, [], ◌∷◌, ◌++◌, length, Option, Some, None, if◌then◌else◌}
use Rattle.txs_world_protocol.specs.Ask.{may_add_event}
use Rattle.txs_world_protocol.specs.declared.ask.Ask.{Ask}
use Rattle.txs_world_protocol.specs.declared.ask.Ask.TheVariants as ask
use Rattle.txs_world_protocol.specs.declared.event.Event.{Event}
use Rattle.txs_world_protocol.specs.declared.event.Outcome.{Outcome}
use Rattle.txs_value_data.specs.declared.fault.Fault.{Fault}
use Rattle.txs_value_cell.specs.declared.cell.CellDefinition.{CellDefinition}
use Rattle.txs_value_data.specs.declared.value.Value.{Value}
use Rattle.txs_code_meaning.specs.ActorState.{ActorState}
use Rattle.txs_code_meaning.specs.Machine.{ThreadCode, Configuration, Turned, Ended, Failed, Asking, Unfinished, Stuck, turn}
use Rattle.txs_world_book.specs.Book.{actors, is_there, times_written, most_older}
use Rattle.txs_world_book.specs.Served.{cells_of}
use Rattle.txs_world.specs.Store.{next_action}
use Rattle.txs_theorem_runs.specs.Shared.{Shared, book_for, may_ask}
use Rattle.txs_theorem_runs.specs.Run.{Stop, TurnsSpent, Actor, Moved, turns_from, Play, TakesTurn, IsStopped, actor_of, play, plays_from, State}
use Rattle.txs_explore.specs.System.{System}
use Rattle.txs_explore.specs.Actors.{Next, Quiet, Asks, Rests, Answered, Actors, All, by_asks}

-- an actor without what it was answered: where it is, how many instructions it has run, and why it was stopped there, if it was
pub record Runner : Type 0 where
  pub at : Turned Configuration
  pub turns : ℕ
  pub stopped : Option Stop

-- an actor of a run, without what it was answered
abbrev pub runner_of : Actor → Runner
runner_of x = record { at = x.at; turns = x.turns; stopped = x.stopped }

-- an actor that was answered nothing so far
abbrev pub as_actor : Runner → Actor
as_actor l = record { at = l.at; entries = []; turns = l.turns; stopped = l.stopped }

-- ---- its next instruction

-- after an instruction that asks nothing
abbrev pub comes_to : Turned Configuration → Runner → Runner
comes_to o l = record l { at = o; turns = suc l.turns }

-- an instruction that waits: with an ask, or with none
abbrev pub next_wait : ActorState → Option Ask → Runner → Next Runner
next_wait s None l = Quiet (comes_to (Asking s) l)
next_wait s (Some q) l = Asks

-- by what the instruction comes to
abbrev pub next_turned : Turned Configuration → Runner → Next Runner
next_turned (Ended s) l = Quiet (comes_to (Ended s) l)
next_turned (Failed f s) l = Quiet (comes_to (Failed f s) l)
next_turned (Asking s) l = next_wait s s.wants l
next_turned (Unfinished d) l = Quiet (comes_to (Unfinished d) l)
next_turned Stuck l = Quiet (comes_to Stuck l)

-- an actor that may make no more instructions is stopped in the place of the next
abbrev pub next_within : ThreadCode → Bool → Configuration → Runner → Next Runner
next_within code true c l = next_turned (turn code c) l
next_within code false c l = Quiet (record l { stopped = Some TurnsSpent })

-- by where the actor is: one that has ended or was stopped rests
abbrev pub next_from : ThreadCode → Bool → Turned Configuration → Option Stop → Runner → Next Runner
next_from code may (Ended s) o l = Rests
next_from code may (Failed f s) o l = Rests
next_from code may (Asking s) o l = Rests
next_from code may (Unfinished c) None l = next_within code may c l
next_from code may (Unfinished c) (Some why) l = Rests
next_from code may Stuck o l = Rests

-- the next instruction of an actor that has this limit; there are so many actors, and none beyond
abbrev pub next_of : ℕ → ℕ → (ℕ → ThreadCode) → ℕ → Runner → Next Runner
next_of many limit codes k l = if nat_lt k many then next_from (codes k) (nat_lt l.turns limit) l.at l.stopped l else Rests

-- an actor that wasn't stopped may still be
abbrev pub may_stop : Option Stop → ℕ
may_stop None = 1
may_stop (Some why) = 0

-- an actor and what is shared after its turn, without what it was answered
abbrev pub answered_of : Moved → Answered Runner Shared
answered_of m = record { actor = runner_of m.actor; shared = m.shared }

-- ---- what it asks

-- the ask with which an instruction waits
abbrev pub wanted : Turned Configuration → Option Ask
wanted (Ended s) = None
wanted (Failed f s) = None
wanted (Asking s) = s.wants
wanted (Unfinished d) = None
wanted Stuck = None

-- what an actor's next instruction asks, if it asks
abbrev pub next_ask : ThreadCode → Turned Configuration → Option Stop → Option Ask
next_ask code (Ended s) o = None
next_ask code (Failed f s) o = None
next_ask code (Asking s) o = None
next_ask code (Unfinished c) None = wanted (turn code c)
next_ask code (Unfinished c) (Some why) = None
next_ask code Stuck o = None

-- whether an ask is answered Idle: an agent's actor would take an action where there is none
abbrev pub is_idle : List CellDefinition → ℕ → Shared → ℕ → Ask → Bool
is_idle cells threads sh a (ask.Take g) =
    may_ask cells threads sh.taken a (ask.Take g) (sh.books 0) && not (is_there (next_action (cells_of cells) (sh.books 0) g))
is_idle cells threads sh a _ = false

-- whether an actor with this ask may go on
abbrev pub is_due : List CellDefinition → ℕ → Shared → ℕ → Option Ask → Bool
is_due cells threads sh a None = false
is_due cells threads sh a (Some q) = not (is_idle cells threads sh a q)

-- those of so many numbers, from the k-th on, of which this is so
abbrev pub those : (ℕ → Bool) → ℕ → ℕ → List ℕ
those f k zero = []
those f k (suc n) = if f k then k ∷ those f (suc k) n else those f (suc k) n

-- ---- which asks may be exchanged

-- Whether an ask looks at a value that is kept whatever one more ask writes. Since the read point the ref was written less often than older values are kept.
abbrev pub is_steady : List Event → Ask → Bool
is_steady book (ask.Look c at) = nat_le at (length book) && nat_lt (times_written c.number at book) most_older
is_steady book _ = false

-- Whether two asks of different actors may be exchanged there. They are for different books, or neither ever adds an event, or one looks at a value that is kept.
abbrev pub may_exchange : List CellDefinition → Shared → Ask → Ask → Bool
may_exchange cells sh p q =
    not (book_for cells p == book_for cells q)
    || ((not (may_add_event p) && not (may_add_event q)) || (is_steady (sh.books (book_for cells p)) p || is_steady (sh.books (book_for cells q)) q))

-- the same of two actors' next asks
abbrev pub are_apart : List CellDefinition → Shared → Option Ask → Option Ask → Bool
are_apart cells sh None r = false
are_apart cells sh (Some p) None = false
are_apart cells sh (Some p) (Some q) = may_exchange cells sh p q

-- ---- the system

-- what is told of an actor at the end of a run: how it ended, if it has, and what it has printed
pub record End : Type 0 where
  pub ended : Option Outcome
  pub printed : List ℕ

-- what is told of the end of a run: of its actors, the values of its cells, and of each agent its fault if it has failed
pub record Ending : Type 0 where
  pub actors : List End
  pub cells : List Value
  pub failed : List (Option Fault)

-- What is explored: the cells, how many threads there are, and the code of each thread and behind them of each agent. Each may run so many instructions. Of an end where all
-- actors wait or rest, this is told.
pub record Explored : Type 0 where
  pub cells : List CellDefinition
  pub threads : ℕ
  pub codes : ℕ → ThreadCode
  pub limit : ℕ
  pub told : Shared → (ℕ → Runner) → Ending

-- how many actors there are: the threads and the agents
abbrev pub many : Explored → ℕ
many x = actors x.threads (cells_of x.cells)

-- the actors that a search goes through
abbrev pub runners : Explored → Actors
runners x = record {
  Local = Runner;
  Shared = Shared;
  Told = Ending;
  next = next_of (many x) x.limit x.codes;
  answer = λ a l sh. answered_of (turns_from x.cells x.threads (x.codes a) a l.at l.stopped (as_actor l) sh);
  left = λ l. (x.limit - l.turns) + may_stop l.stopped;
  live = λ sh ls. those (λ k. is_due x.cells x.threads sh k (next_ask (x.codes k) (ls k).at (ls k).stopped)) 0 (many x);
  told = x.told;
  apart = λ sh ls k j. not (k == j) && are_apart x.cells sh (next_ask (x.codes k) (ls k).at (ls k).stopped) (next_ask (x.codes j) (ls j).at (ls j).stopped);
}

-- their system, whose turns are asks
abbrev pub asking : Explored → System
asking x = by_asks (runners x)

-- a state of a run, as that system sees it
abbrev pub seen : (x : Explored) → State → All (runners x)
seen x st = record { shared = st.shared; actors = λ a. runner_of (st.actors a) }

-- ---- the runs of which a search speaks

-- whether an actor has neither ended nor was it stopped
abbrev pub goes_on : Turned Configuration → Option Stop → Bool
goes_on (Ended s) o = false
goes_on (Failed f s) o = false
goes_on (Asking s) o = false
goes_on (Unfinished c) None = true
goes_on (Unfinished c) (Some why) = false
goes_on Stuck o = false

-- An actor that goes on takes a turn while it has taken fewer than so many, and then it is stopped. A play of one that doesn't go on changes nothing.
abbrev pub IsWithin : ℕ → Play → State → Type 0
IsWithin limit (TakesTurn a) st = goes_on (st.actors a).at (st.actors a).stopped ≡ true → (st.actors a).turns < limit
IsWithin limit (IsStopped a why) st = goes_on (st.actors a).at (st.actors a).stopped ≡ true → (limit ≤ (st.actors a).turns) × (why ≡ TurnsSpent)

-- the state after these plays
abbrev pub played : Explored → List Play → State → State
played x ys st = plays_from x.cells x.threads x.codes ys st

-- These plays are of the threads and agents alone, each within the limit. So no actor is stopped since memory ran out.
abbrev pub AreWithin : Explored → List Play → State → Type 0
AreWithin x [] st = Unit {0}
AreWithin x (y ∷ ys) st = (actor_of y < many x) × IsWithin x.limit y st × AreWithin x ys (play x.cells x.threads x.codes y st)

-- A run is over where no actor may go on, once each went on alone as far as it can. Each has ended, was stopped, or would take an action where there is none.
abbrev pub IsOver : Explored → State → Type 0
IsOver x st = (asking x).enabled (seen x st) ≡ []

-- what is told of a run that is over
abbrev pub told_of : Explored → State → Ending
told_of x st = (asking x).outcome (seen x st)

-- ---- the plays of a turn

-- whether an actor goes on behind an instruction without an ask
abbrev pub goes_alone : Turned Configuration → Bool
goes_alone (Ended s) = false
goes_alone (Failed f s) = false
goes_alone (Asking s) = false
goes_alone (Unfinished c) = true
goes_alone Stuck = false

-- the next play of an actor that may make one, and those behind it, unless it asks or ends; one that may make none is stopped
abbrev pub plays_from_here : ThreadCode → ℕ → Bool → Configuration → List Play → List Play
plays_from_here code a true c more = TakesTurn a ∷ (if goes_alone (turn code c) then more else [])
plays_from_here code a false c more = IsStopped a TurnsSpent ∷ []

-- the same by where the actor is: one that has ended or was stopped makes no play
abbrev pub plays_at : ThreadCode → ℕ → Bool → Turned Configuration → Option Stop → List Play → List Play
plays_at code a may (Ended s) o more = []
plays_at code a may (Failed f s) o more = []
plays_at code a may (Asking s) o more = []
plays_at code a may (Unfinished c) None more = plays_from_here code a may c more
plays_at code a may (Unfinished c) (Some why) more = []
plays_at code a may Stuck o more = []

-- the next plays of an actor, up to so many: those up to and with the next that asks, or up to its end or its limit
unfoldable pub next_plays : Explored → ℕ → ℕ → State → List Play
next_plays x a zero st = []
next_plays x a (suc n) st =
    plays_at (x.codes a) a (nat_lt (st.actors a).turns x.limit) (st.actors a).at (st.actors a).stopped (next_plays x a n (play x.cells x.threads x.codes (TakesTurn a) st))

-- the plays of these actors, one after another, each up to and with its next ask
unfoldable pub plays_by : Explored → ℕ → List ℕ → State → List Play
plays_by x n [] st = []
plays_by x n (a ∷ ks) st = next_plays x a n st ++ plays_by x n ks (played x (next_plays x a n st) st)

-- these plays are turns of the threads and agents, and no actor is stopped
abbrev pub AreTurns : ℕ → List Play → Type 0
AreTurns n [] = Unit {0}
AreTurns n (TakesTurn a ∷ ys) = (a < n) × AreTurns n ys
AreTurns n (IsStopped a why ∷ ys) = ⊥
