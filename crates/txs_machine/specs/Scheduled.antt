-- Runs by a schedule: which turns its plays are, in their order, and those of the rounds behind them; and that a report is that of just these turns.
use Rattle.std.proofs.Common.{◌⊎◌}
use Rattle.std.specs.Prelude.{◌≡◌, ◌<◌, ◌+◌, ◌-◌, ◌^◌, ℕ, zero, suc, Bool, true, false, nat_lt, List, [], ◌∷◌, ◌++◌, length, Option, Some, None, if◌then◌else◌}
use Rattle.txs_world_protocol.specs.declared.event.Event.{Event}
use Rattle.txs_world_protocol.specs.declared.event.Outcome.{Outcome}
use Rattle.txs_world_protocol.specs.declared.event.Outcome.TheVariants as outcome
use Rattle.txs_world_protocol.specs.declared.report.ActorReport.{ActorReport}
use Rattle.txs_value_data.specs.Places.{nth}
use Rattle.txs_value_data.specs.declared.value.CellId.{CellId}
use Rattle.txs_code_meaning.specs.Machine.{ThreadCode, Configuration, Turned, Ended, Failed, Asking, Unfinished, Stuck, turn}
use Rattle.txs_code_meaning.specs.PlainCode.{PlainCode}
use Rattle.txs_machine_actor.specs.PlainActor.{code_of}
use Rattle.txs_world_book.specs.Served.{cells_of}
use Rattle.txs_world.specs.Store.{next_action}
use Rattle.txs_theorem_runs.specs.Run as run
use Rattle.txs_theorem_runs.specs.Run.{Stop, Actor, State, TakesTurn, IsStopped}
use Rattle.txs_theorem_runs.specs.Run.{JournalFull, Memory, TurnsSpent, Unlawful}
use Rattle.txs_theorem_runs.specs.Told.{trace_of}
use Rattle.txs_world_shared.specs.SharedState.{PlainShared, shared_of}
use Rattle.txs_machine.specs.Agents.{agents_of, actors_of}
use Rattle.txs_machine.specs.RunOver.{books_of, places_of}
use Rattle.txs_machine.specs.Schedule.{player, all_named}
use Rattle.txs_machine.specs.declared.schedule.Play.{Play}
use Rattle.txs_machine.specs.declared.schedule.Play.TheVariants as play

-- ---- runs

-- the state of a run after these turns
abbrev pub after_turns : PlainCode → List run.Play → State → State
after_turns code = run.plays_from code.cells (length code.threads) (code_of code)

-- the state of a run of the code after these turns
abbrev pub run_of : PlainCode → List run.Play → State
run_of code ys = after_turns code ys (run.opens code.cells (code_of code))

-- ---- the turns of a play

-- how many turns a play has at most
abbrev pub most_turns : Play → ℕ
most_turns (play.Turn k) = 1
most_turns (play.Ask k) = 2 ^ 64 - 1

-- whether an actor goes on behind an instruction without an ask
abbrev pub is_quiet : Turned Configuration → Bool
is_quiet (Ended s) = false
is_quiet (Failed f s) = false
is_quiet (Asking s) = false
is_quiet (Unfinished c) = true
is_quiet Stuck = false

-- the next turn of an actor that may make one, and those behind it, unless it asks or ends; one that may make none is stopped
abbrev pub turns_next : ThreadCode → ℕ → Bool → Configuration → List run.Play → List run.Play
turns_next code k true c more = TakesTurn k ∷ (if is_quiet (turn code c) then more else [])
turns_next code k false c more = IsStopped k TurnsSpent ∷ []

-- the same by where the actor is: one that has ended or was stopped makes no turn
abbrev pub turns_at : ThreadCode → ℕ → Bool → Turned Configuration → Option Stop → List run.Play → List run.Play
turns_at code k may (Ended s) o more = []
turns_at code k may (Failed f s) o more = []
turns_at code k may (Asking s) o more = []
turns_at code k may (Unfinished c) None more = turns_next code k may c more
turns_at code k may (Unfinished c) (Some why) more = []
turns_at code k may Stuck o more = []

-- The next turns of the k-th actor, up to so many, where it may make no more than its limit: those up to and with the next that asks, whose ask is served in the same turn, or up to
-- its end. One that hasn't ended and has no turn left is stopped.
unfoldable pub own_turns : PlainCode → ℕ → ℕ → ℕ → State → List run.Play
own_turns code limit k zero st = []
own_turns code limit k (suc n) st = turns_at (code_of code k) k (nat_lt (st.actors k).turns limit) (st.actors k).at (st.actors k).stopped (own_turns code limit k n (after_turns code (TakesTurn k ∷ []) st))

-- These are the next turns of the k-th actor, up to so many; or the first of them, and in the place of the one behind them it was stopped, since a growth of memory was refused.
abbrev pub AreTurnsOf : PlainCode → ℕ → ℕ → ℕ → State → List run.Play → Type 0
AreTurnsOf code limit k n st us =
    (us ≡ own_turns code limit k n st)
    ⊎ ((ws : List run.Play) × (y : run.Play) × (more : List run.Play) × (own_turns code limit k n st ≡ ws ++ y ∷ more) × (us ≡ ws ++ IsStopped k Memory ∷ []))

-- these are the turns of a play
abbrev pub IsPlay : PlainCode → ℕ → Play → State → List run.Play → Type 0
IsPlay code limit y st us = AreTurnsOf code limit (player y) (most_turns y) st us

-- these are the turns of plays, one after the other
abbrev pub ArePlays : PlainCode → ℕ → List Play → State → List run.Play → Type 0
ArePlays code limit [] st us = us ≡ []
ArePlays code limit (y ∷ ys) st us = (vs : List run.Play) × (ws : List run.Play) × (us ≡ vs ++ ws) × IsPlay code limit y st vs × ArePlays code limit ys (after_turns code vs st) ws

-- ---- rounds

-- an actor has neither ended nor was it stopped
abbrev pub GoesOn : Turned Configuration → Option Stop → Type 0
GoesOn (Ended s) o = ⊥
GoesOn (Failed f s) o = ⊥
GoesOn (Asking s) o = ⊥
GoesOn (Unfinished c) None = Unit {0}
GoesOn (Unfinished c) (Some why) = ⊥
GoesOn Stuck o = ⊥

abbrev pub IsGoing : Actor → Type 0
IsGoing x = GoesOn x.at x.stopped

-- A run is over where no thread goes on, and each agent whose actor goes on has failed or has an empty mailbox.
pub record IsOver (code : PlainCode) (st : State) : Type 0 where
  pub threads : (k : ℕ) → k < length code.threads → IsGoing (st.actors k) → ⊥
  pub agents : (i : ℕ) (g : CellId) → nth (agents_of code) i ≡ Some g → IsGoing (st.actors (length code.threads + i)) → next_action (cells_of code.cells) (st.shared.books 0) g ≡ None

-- an ask of each of so many actors, from the k-th on
abbrev pub asks_from : ℕ → ℕ → List Play
asks_from k zero = []
asks_from k (suc n) = play.Ask k ∷ asks_from (suc k) n

-- These are the turns of so many rounds: each is an ask of each actor, in ascending order. The run is over behind the last of them, and before none.
abbrev pub AreRounds : PlainCode → ℕ → ℕ → State → List run.Play → Type 0
AreRounds code limit zero st us = IsOver code st × (us ≡ [])
AreRounds code limit (suc n) st us =
    (IsOver code st → ⊥) × (vs : List run.Play) × (ws : List run.Play) × (us ≡ vs ++ ws) × ArePlays code limit (asks_from 0 (actors_of code)) st vs × AreRounds code limit n (after_turns code vs st) ws

-- these are the turns of rounds, where they are wanted
abbrev pub AreRoundsIf : PlainCode → ℕ → Bool → State → List run.Play → Type 0
AreRoundsIf code limit false st us = us ≡ []
AreRoundsIf code limit true st us = (n : ℕ) × AreRounds code limit n st us

-- ---- schedules

-- these are the turns of a schedule from this state on: of its plays in their order, and of the rounds behind them
abbrev pub AreScheduledFrom : PlainCode → ℕ → List Play → Bool → State → List run.Play → Type 0
AreScheduledFrom code limit ys rounds st us = (vs : List run.Play) × (ws : List run.Play) × (us ≡ vs ++ ws) × ArePlays code limit ys st vs × AreRoundsIf code limit rounds (after_turns code vs st) ws

-- and these where nothing was done yet
abbrev pub AreScheduled : PlainCode → ℕ → List Play → Bool → List run.Play → Type 0
AreScheduled code limit ys rounds us = AreScheduledFrom code limit ys rounds (run_of code []) us

-- how a run's actor has ended, if it has
abbrev pub outcome_of : Turned Configuration → Option Stop → Option Outcome
outcome_of (Ended s) o = Some outcome.Done
outcome_of (Failed f s) o = Some (outcome.Failed f)
outcome_of (Asking s) o = None
outcome_of (Unfinished c) None = None
outcome_of (Unfinished c) (Some JournalFull) = Some outcome.JournalFull
outcome_of (Unfinished c) (Some Memory) = Some outcome.Memory
outcome_of (Unfinished c) (Some TurnsSpent) = Some outcome.StepsSpent
outcome_of (Unfinished c) (Some Unlawful) = None
outcome_of Stuck o = None

-- what it has printed
abbrev pub printed_at : Turned Configuration → List ℕ
printed_at (Ended s) = s.printed
printed_at (Failed f s) = s.printed
printed_at (Asking s) = s.printed
printed_at (Unfinished c) = c.state.printed
printed_at Stuck = []

-- how many steps are counted for so many turns: the one at which an actor was stopped for a full book, or since a growth of memory was refused, is a step too
abbrev pub steps_by : Option Stop → ℕ → ℕ
steps_by None n = n
steps_by (Some JournalFull) n = suc n
steps_by (Some Memory) n = suc n
steps_by (Some TurnsSpent) n = n
steps_by (Some Unlawful) n = n

-- An entry of a report is that of this actor of a run, the k-th. The actor wasn't stopped since an ask of it was unlawful.
pub record IsEntryOf (code : PlainCode) (books : ℕ → List Event) (k : ℕ) (x : Actor) (ran : ActorReport) : Type 0 where
  pub ended : ran.outcome ≡ outcome_of x.at x.stopped
  pub printed : ran.printed.items ≡ printed_at x.at
  pub counted : ran.steps ≡ steps_by x.stopped x.turns
  pub traced : places_of ran.trace.items ≡ trace_of code.cells books k x.entries
  pub lawful : x.stopped ≡ Some Unlawful → ⊥

-- The state and the entries of a report are those of a run by the turns of this schedule.
pub record IsScheduledRun (code : PlainCode) (limit : ℕ) (ys : List Play) (rounds : Bool) (s : PlainShared) (threads agents : List ActorReport) : Type 0 where
  pub turns : List run.Play
  pub scheduled : AreScheduled code limit ys rounds turns
  pub shared : shared_of s ≡ (run_of code turns).shared
  pub threads_are : (k : ℕ) (ran : ActorReport) → nth threads k ≡ Some ran → IsEntryOf code (books_of s) k ((run_of code turns).actors k) ran
  pub agents_are : (i : ℕ) (ran : ActorReport) → nth agents i ≡ Some ran → IsEntryOf code (books_of s) (length code.threads + i) ((run_of code turns).actors (length code.threads + i)) ran

-- these turns are those of the first so many actors
abbrev pub AreTurnsBelow : ℕ → List run.Play → Type 0
AreTurnsBelow m [] = Unit {0}
AreTurnsBelow m (y ∷ ys) = (run.actor_of y < m) × AreTurnsBelow m ys

-- The state and the entries of a report are those of a run by turns of the actors in some order, each turn with its ask served and answered in the same step.
pub record IsInterleaving (code : PlainCode) (s : PlainShared) (threads agents : List ActorReport) : Type 0 where
  pub turns : List run.Play
  pub below : AreTurnsBelow (actors_of code) turns
  pub shared : shared_of s ≡ (run_of code turns).shared
  pub threads_are : (k : ℕ) (ran : ActorReport) → nth threads k ≡ Some ran → IsEntryOf code (books_of s) k ((run_of code turns).actors k) ran
  pub agents_are : (i : ℕ) (ran : ActorReport) → nth agents i ≡ Some ran → IsEntryOf code (books_of s) (length code.threads + i) ((run_of code turns).actors (length code.threads + i)) ran

-- ---- exactness

-- no entry ended since a growth of memory was refused
abbrev pub NoneForMemory : List ActorReport → Type 0
NoneForMemory rans = (k : ℕ) (ran : ActorReport) → nth rans k ≡ Some ran → ran.outcome ≡ Some outcome.Memory → ⊥

-- A report by a schedule whose plays all name actors has an entry for each actor, of which none ended for memory.
pub record IsUndisturbedRun (code : PlainCode) (limit : ℕ) (ys : List Play) (rounds : Bool) (s : PlainShared) (threads agents : List ActorReport) : Type 0 where
  pub run : IsScheduledRun code limit ys rounds s threads agents
  pub named : all_named (actors_of code) ys ≡ true
  pub each_thread : length threads ≡ length code.threads
  pub each_agent : length agents ≡ length (agents_of code)
  pub threads_memory : NoneForMemory threads
  pub agents_memory : NoneForMemory agents

-- two entries say the same: how the actor ended, what it printed, how many steps it made, and where its events are
pub record IsSameEntry (a b : ActorReport) : Type 0 where
  pub ended : a.outcome ≡ b.outcome
  pub printed : a.printed.items ≡ b.printed.items
  pub counted : a.steps ≡ b.steps
  pub traced : places_of a.trace.items ≡ places_of b.trace.items

abbrev pub AreSameEntries : List ActorReport → List ActorReport → Type 0
AreSameEntries xs ys = (k : ℕ) (a b : ActorReport) → nth xs k ≡ Some a → nth ys k ≡ Some b → IsSameEntry a b

-- A schedule has one run: where no entry ended for memory, two reports of it are of the same turns, and say the same.
abbrev pub SchedulesAreExact : Type 0
SchedulesAreExact =
    (code : PlainCode) (limit : ℕ) (ys : List Play) (rounds : Bool) (s t : PlainShared) (xs gs xs1 gs1 : List ActorReport)
    → (a : IsUndisturbedRun code limit ys rounds s xs gs) → (b : IsUndisturbedRun code limit ys rounds t xs1 gs1)
    → (a.run.turns ≡ b.run.turns) × (shared_of s ≡ shared_of t) × AreSameEntries xs xs1 × AreSameEntries gs gs1
