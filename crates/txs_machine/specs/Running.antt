-- Runs of all threads and agents of a code are those that the laws of runs speak of: which turns they are, and what holds of agents' actors between two
-- plays.
use Rattle.std.proofs.Common.{◌⊎◌}
use Rattle.std.specs.Prelude.{◌≡◌, ◌<◌, ◌+◌, ◌-◌, ℕ, suc, true, List, [], ◌∷◌, ◌++◌, length, map, Option, Some, None}
use Rattle.txs_world_protocol.specs.declared.ask.Ask.{Ask}
use Rattle.txs_world_protocol.specs.declared.ask.Reply.{Reply}
use Rattle.txs_world_protocol.specs.declared.event.Event.{Event}
use Rattle.txs_world_protocol.specs.declared.event.Outcome.{Outcome}
use Rattle.txs_world_protocol.specs.declared.event.Outcome.TheVariants as outcome
use Rattle.txs_value_data.specs.Places.{nth}
use Rattle.txs_value_cell.specs.declared.action.Action.{Action}
use Rattle.txs_value_data.specs.declared.value.CellId.{CellId}
use Rattle.txs_code_meaning.specs.Machine.{Configuration, Turned, Ended, Failed, Unfinished}
use Rattle.txs_code_meaning.specs.PlainCode.{PlainCode}
use Rattle.txs_machine_actor.specs.PlainActor.{PlainActor, HasRun, IsActorOf, Lives, MayAnswer, answered, code_of, configuration_of, state_of, unanswered, SameBut}
use Rattle.txs_world_book.specs.Book.{has_agent, actor_of}
use Rattle.txs_world_book.specs.Served.{cells_of}
use Rattle.txs_world.specs.Store.{next_action}
use Rattle.txs_theorem_runs.specs.Full.{FullStop}
use Rattle.txs_theorem_runs.specs.Run as run
use Rattle.txs_theorem_runs.specs.Run.{Stop, JournalFull, Memory, TurnsSpent}
use Rattle.txs_theorem_runs.specs.Told.{exchange_of, AllHold, trace_of}
use Rattle.txs_world_shared.specs.SharedState.{PlainShared, shared_of, is_lawful}
use Rattle.txs_machine.specs.Agents.{agents_of}
use Rattle.txs_machine.specs.Playing.{AreBetween}
use Rattle.txs_machine.specs.Scheduled.{after_turns, run_of, steps_by, AreTurnsOf}
use Rattle.txs_machine.specs.RunOver.{IsLimited, AtFullBook, books_of, places_of}
use Rattle.txs_machine.specs.Serving.{IsServed}
use Rattle.txs_world_protocol.specs.declared.event.Place.{Place}
use Rattle.txs_machine.specs.declared.player.AgentPlayer.{AgentPlayer}
use Rattle.txs_machine.specs.declared.player.Player.{Player}
use Rattle.txs_machine.specs.declared.player.Players.{Players}

-- ---- the turns that a run is

-- An actor that continues is where a run's actor is; one that is done or has failed has ended so there; one that was stopped is there stopped, and
-- has printed and written what that one has: its state is that one's, but for a validator's answer.
abbrev pub IsPlacedAs : PlainActor → Option Outcome → Turned Configuration → Option Stop → Type 0
IsPlacedAs a None at why = (at ≡ Unfinished (configuration_of a)) × (why ≡ None)
IsPlacedAs a (Some outcome.Done) at why = (at ≡ Ended (state_of a)) × (why ≡ None)
IsPlacedAs a (Some (outcome.Failed f)) at why = (at ≡ Failed f (state_of a)) × (why ≡ None)
IsPlacedAs a (Some outcome.StepsSpent) at why = (at ≡ Unfinished (configuration_of a)) × (why ≡ Some TurnsSpent)
IsPlacedAs a (Some outcome.JournalFull) at why = (c : Configuration) × (at ≡ Unfinished c) × SameBut c.state (state_of a) × (why ≡ Some JournalFull)
IsPlacedAs a (Some outcome.Memory) at why = (c : Configuration) × (at ≡ Unfinished c) × SameBut c.state (state_of a) × (why ≡ Some Memory)

-- The k-th actor, with this trace, is a run's k-th actor: it asks nothing, is where that one is, has done what the machine does on that one's entries, has counted that one's
-- turns, and its trace has the places of the events that the entries added; where it was stopped for a full book, the book for its ask is full, as that for the run's actor's is.
pub record IsPlayerOf (code : PlainCode) (k : ℕ) (books : ℕ → List Event) (a : PlainActor) (trace : List Place) (y : run.Actor) : Type 0 where
  pub number : a.number ≡ k
  pub waits : unanswered a ≡ None
  pub placed : IsPlacedAs a a.outcome y.at y.stopped
  pub ran : HasRun code (map exchange_of y.entries) a
  pub counted : a.steps ≡ steps_by y.stopped y.turns
  pub traced : places_of trace ≡ trace_of code.cells books k y.entries
  pub full : a.outcome ≡ Some outcome.JournalFull → AtFullBook code.cells (code_of code k) books (map exchange_of y.entries) a
  pub stops : a.outcome ≡ Some outcome.JournalFull → FullStop code.cells (code_of code k) books y

-- What is shared and the k-th actor, with this trace, are those of a list of turns, whoever made the others.
pub record IsInRun (code : PlainCode) (k : ℕ) (s : PlainShared) (a : PlainActor) (trace : List Place) : Type 0 where
  pub turns : List run.Play
  pub shared : shared_of s ≡ (run_of code turns).shared
  pub player : IsPlayerOf code k (books_of s) a trace ((run_of code turns).actors k)

-- What is shared and the players, of the threads and behind them of the agents, are those of these turns, each with its ask served and answered in
-- the same step. By this the laws of runs hold of them, whatever the order of the turns.
pub record IsRunBy (code : PlainCode) (s : PlainShared) (xs : List Player) (gs : List AgentPlayer) (turns : List run.Play) : Type 0 where
  pub shared : shared_of s ≡ (run_of code turns).shared
  pub threads : (k : ℕ) (x : Player) → nth xs k ≡ Some x → IsPlayerOf code k (books_of s) x.actor x.trace.items ((run_of code turns).actors k)
  pub agents : (i : ℕ) (x : AgentPlayer) → nth gs i ≡ Some x → IsPlayerOf code (length code.threads + i) (books_of s) x.player.actor x.player.trace.items ((run_of code turns).actors (length code.threads + i))

-- from this state of a run, up to so many turns of the k-th actor come to where this actor is, and to what is shared
pub record ComesTo (code : PlainCode) (k limit n : ℕ) (st : run.State) (t : PlainShared) (b : PlainActor) (trace : List Place) : Type 0 where
  pub turns : List run.Play
  pub made : AreTurnsOf code limit k n st turns
  pub shared : shared_of t ≡ (after_turns code turns st).shared
  pub player : IsPlayerOf code k (books_of t) b trace ((after_turns code turns st).actors k)

-- a play of the k-th actor, which may make so many turns: wherever it was in a run, it is there after just these turns of its own
abbrev pub GoesAs : PlainCode → ℕ → ℕ → PlainShared → PlainActor → List Place → PlainShared → PlainActor → List Place → Type 0
GoesAs code k n s a trace t b later =
    (before : List run.Play) → shared_of s ≡ (run_of code before).shared → AllHold code.cells (length code.threads) (books_of s) k ((run_of code before).actors k).entries
    → IsPlayerOf code k (books_of s) a trace ((run_of code before).actors k) → ComesTo code k a.limit n (run_of code before) t b later

-- an actor's ask, which it might make, was answered, and the place of the event that it added was noted
pub record IsAnswered (k : ℕ) (s : PlainShared) (a : PlainActor) (trace : List Place) (q : Ask) (t : PlainShared) (b : PlainActor) (later : List Place) : Type 0 where
  pub reply : Reply
  pub is : b ≡ answered a reply
  pub lawful : is_lawful s k q ≡ true
  pub free : unanswered (answered a reply) ≡ None
  pub may : MayAnswer q reply
  pub served : IsServed s k q reply t trace later

-- ---- agents between two plays

-- this agent's actor has this number
pub record IsAgentAt (code : PlainCode) (g : CellId) (k : ℕ) : Type 0 where
  pub has : has_agent (cells_of code.cells) g ≡ true
  pub place : k ≡ actor_of (length code.threads) (cells_of code.cells) g
  pub acts : IsActorOf code k g

-- the actor of an agent between two plays: it asks nothing
pub record IsAttending (code : PlainCode) (g : CellId) (k limit : ℕ) (x : AgentPlayer) : Type 0 where
  pub agent : x.agent ≡ g
  pub at : IsAgentAt code g k
  pub lives : Lives code x.player.actor
  pub free : unanswered x.player.actor ≡ None
  pub number : x.player.actor.number ≡ k
  pub limited : IsLimited limit x.player.actor

-- so are the actors of these agents, of which the first is the k-th actor
abbrev pub AreAttending : PlainCode → ℕ → ℕ → List CellId → List AgentPlayer → Type 0
AreAttending code limit k [] [] = Unit {0}
AreAttending code limit k [] (x ∷ xs) = ⊥
AreAttending code limit k (g ∷ gs) [] = ⊥
AreAttending code limit k (g ∷ gs) (x ∷ xs) = IsAttending code g k limit x × AreAttending code limit (suc k) gs xs

-- the actors of agents alone
abbrev pub attendants : List AgentPlayer → List Player
attendants [] = []
attendants (x ∷ xs) = x.player ∷ attendants xs

-- how many rounds there may still be: none after the end
abbrev pub left_for : Option Outcome → PlainActor → ℕ
left_for None a = suc (a.limit - a.steps)
left_for (Some o) a = 0

-- and of all these actors together
abbrev pub left_of : List Player → ℕ
left_of [] = 0
left_of (x ∷ xs) = left_for x.actor.outcome x.actor + left_of xs

-- of the threads and the agents
abbrev pub left_all : Players → ℕ
left_all all = left_of all.threads.items + left_of (attendants all.agents.items)

-- an agent's actor that hasn't ended has something to do: the first action of its mail
abbrev pub HasWork : PlainCode → PlainShared → CellId → Type 0
HasWork code s g = (x : Action) × (next_action (cells_of code.cells) (books_of s 0) g ≡ Some x)

-- the actor at this place among the threads hasn't ended, or that at this place behind them hasn't and has something to do
abbrev pub IsLive : PlainCode → PlainShared → Players → ℕ → Type 0
IsLive code s all k =
    ((x : Player) × (nth all.threads.items k ≡ Some x) × (x.actor.outcome ≡ None))
    ⊎ ((i : ℕ) × (k ≡ length all.threads.items + i) × (x : AgentPlayer) × (nth all.agents.items i ≡ Some x) × (x.player.actor.outcome ≡ None) × HasWork code s x.agent)

-- the agent's actor at this place hasn't ended, and has something to do
abbrev pub IsWorking : PlainCode → PlainShared → ℕ → List AgentPlayer → Type 0
IsWorking code s i xs = (x : AgentPlayer) × (nth xs i ≡ Some x) × (x.player.actor.outcome ≡ None) × HasWork code s x.agent

-- all of these actors that haven't ended have nothing to do
abbrev pub AreIdle : PlainCode → PlainShared → List AgentPlayer → Type 0
AreIdle code s [] = Unit {0}
AreIdle code s (x ∷ xs) = (x.player.actor.outcome ≡ None → HasWork code s x.agent → ⊥) × AreIdle code s xs

-- what holds of all actors between two plays, of a run by these turns
pub record ArePlayingBy (code : PlainCode) (limit : ℕ) (s : PlainShared) (all : Players) (turns : List run.Play) : Type 0 where
  pub many : length all.threads.items ≡ length code.threads
  pub threads : AreBetween code limit (books_of s) 0 all.threads.items
  pub agents : AreAttending code limit (length code.threads) (agents_of code) all.agents.items
  pub run : IsRunBy code s all.threads.items all.agents.items turns

-- what holds of all actors between two plays
abbrev pub ArePlaying : PlainCode → ℕ → PlainShared → Players → Type 0
ArePlaying code limit s all = (turns : List run.Play) × ArePlayingBy code limit s all turns

-- all actors went on by turns of which this holds, whatever was before
abbrev pub GoOnBy : PlainCode → ℕ → (run.State → List run.Play → Type 0) → PlainShared → Players → PlainShared → Players → Type 0
GoOnBy code limit P s all t next = (turns : List run.Play) → ArePlayingBy code limit s all turns → (us : List run.Play) × P (run_of code turns) us × ArePlayingBy code limit t next (turns ++ us)

-- an agent's actor that hasn't ended, has a turn left and has nothing to do is where it was after a play: it asks for an action, and there is none
abbrev pub IsAtRest : PlainCode → ℕ → ℕ → PlainShared → AgentPlayer → Type 0
IsAtRest code k n s x =
    x.player.actor.outcome ≡ None → x.player.actor.steps < x.player.actor.limit → next_action (cells_of code.cells) (books_of s 0) x.agent ≡ None
    → GoesAs code k n s x.player.actor x.player.trace.items s x.player.actor x.player.trace.items
