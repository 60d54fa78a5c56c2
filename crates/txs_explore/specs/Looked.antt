-- What a look at all actors, behind some asks, says of each: what it asks next, and what is told of it.
use Rattle.std.specs.Prelude.{◌≡◌, ◌≤◌, ◌-◌, ◌^◌, ℕ, List, length, Option, Some, None}
use Rattle.txs_world_protocol.specs.declared.ask.Ask.{Ask}
use Rattle.txs_world_protocol.specs.declared.event.Outcome.{Outcome}
use Rattle.txs_world_protocol.specs.declared.event.Outcome.TheVariants as outcome
use Rattle.txs_value_data.specs.Places.{nth}
use Rattle.txs_code_meaning.specs.PlainCode.{PlainCode}
use Rattle.txs_machine_actor.specs.PlainActor.{PlainActor, Lives, code_of, unanswered}
use Rattle.txs_machine_actor.specs.Turns.{TurnsOf}
use Rattle.txs_machine_actor.specs.declared.outcome.Turn.{Turn}
use Rattle.txs_machine_actor.specs.declared.outcome.Turn.TheVariants as turned
use Rattle.txs_theorem_runs.specs.Run as run
use Rattle.txs_explore.specs.System.{turns}
use Rattle.txs_explore.specs.Actors.{All, calm}
use Rattle.txs_explore.specs.Runners.{Runner, many, runners, asking, seen, next_ask}
use Rattle.txs_world_shared.specs.SharedState.{PlainShared, shared_of}
use Rattle.txs_machine.specs.RunOver.{IsStateOf}
use Rattle.txs_machine.specs.Running.{ArePlayingBy}
use Rattle.txs_machine.specs.Scheduled.{run_of}
use Rattle.txs_machine.specs.declared.player.Player.{Player}
use Rattle.txs_machine.specs.declared.player.Players.{Players}
use Rattle.txs_explore.specs.declared.look.Look.{Look}
use Rattle.txs_explore.specs.declared.look.Node.{Node}
use Rattle.txs_explore.specs.declared.replay.Stage.{Stage}
use Rattle.txs_explore.specs.Told.{end_of, explored, begins}
use Rattle.txs_explore.specs.Ways.{as_end}

-- ---- behind asks

-- the state behind the asks of these actors, one after another
abbrev pub state_at : (code : PlainCode) (limit : ℕ) → List ℕ → All (runners (explored code limit))
state_at code limit ks = turns (asking (explored code limit)) ks (seen (explored code limit) (begins code))

-- where an actor waits there
abbrev pub runner_at : PlainCode → ℕ → List ℕ → ℕ → Runner
runner_at code limit ks k = (calm (runners (explored code limit)) (state_at code limit ks)).actors k

-- what it asks next, if it does
abbrev pub ask_at : PlainCode → ℕ → List ℕ → ℕ → Option Ask
ask_at code limit ks k = next_ask (code_of code k) (runner_at code limit ks k).at (runner_at code limit ks k).stopped

-- All actors, and what they share, are those behind these asks.
pub record AreAt (code : PlainCode) (limit : ℕ) (ks : List ℕ) (s : PlainShared) (all : Players) : Type 0 where
  pub of : IsStateOf code s
  pub turns : List run.Play
  pub playing : ArePlayingBy code limit s all turns
  pub same : seen (explored code limit) (run_of code turns) ≡ state_at code limit ks

abbrev pub IsStageAt : PlainCode → ℕ → List ℕ → Stage → Type 0
IsStageAt code limit ks s = AreAt code limit ks s.shared s.players

-- ---- one actor

-- an outcome other than for want of memory
abbrev pub IsKnown : Outcome → Type 0
IsKnown outcome.Done = Unit {0}
IsKnown (outcome.Failed f) = Unit {0}
IsKnown outcome.StepsSpent = Unit {0}
IsKnown outcome.JournalFull = Unit {0}
IsKnown outcome.Memory = ⊥

-- what turns came to: an ask, or an end
abbrev pub IsAskOf : Turn → Option Ask → Type 0
IsAskOf r None = (o : Outcome) × IsKnown o × (r ≡ turned.Ended o)
IsAskOf r (Some q) = r ≡ turned.Asks q

-- where an actor alone came to: an ask, or its end
abbrev pub HasLooked : PlainCode → PlainActor → Option Ask → PlainActor → Type 0
HasLooked code a None b = (o : Outcome) × IsKnown o × TurnsOf code (2 ^ 64 - 1) a (turned.Ended o) b × (b.outcome ≡ Some o)
HasLooked code a (Some q) b = TurnsOf code (2 ^ 64 - 1) a (turned.Asks q) b × (b.outcome ≡ None)

-- what is said of an actor that came there alone
pub record IsLook (code : PlainCode) (a : PlainActor) (l : Look) : Type 0 where
  pub after : PlainActor
  pub looked : HasLooked code a l.ask after
  pub ended : l.end.outcome ≡ after.outcome
  pub printed : l.end.printed ≡ after.printed

-- an actor that may make turns, of which there may be so many
pub record IsFresh (code : PlainCode) (limit : ℕ) (a : PlainActor) : Type 0 where
  pub lives : Lives code a
  pub free : unanswered a ≡ None
  pub limited : a.limit ≡ limit
  pub within : a.steps ≤ limit

-- so are these
abbrev pub AreFresh : PlainCode → ℕ → List Player → Type 0
AreFresh code limit xs = (k : ℕ) (x : Player) → nth xs k ≡ Some x → IsFresh code limit x.actor

-- ---- all actors

-- what is said of each of these actors, in their order
abbrev pub AreLooks : PlainCode → List Player → List Look → Type 0
AreLooks code xs ls = (length ls ≡ length xs) × ((k : ℕ) (x : Player) (l : Look) → nth xs k ≡ Some x → nth ls k ≡ Some l → IsLook code x.actor l)

-- what is said of an actor behind asks
pub record IsLookAt (code : PlainCode) (limit : ℕ) (ks : List ℕ) (k : ℕ) (l : Look) : Type 0 where
  pub ask : l.ask ≡ ask_at code limit ks k
  pub end : as_end l.end ≡ end_of (runner_at code limit ks k)

-- A place of the search: what the actors share behind these asks, and of each what it asks next, and what is told of it.
pub record IsNode (code : PlainCode) (limit : ℕ) (ks : List ℕ) (v : Node) : Type 0 where
  pub cells : v.shared.cells ≡ code.cells
  pub threads : v.shared.threads ≡ length code.threads
  pub shared : shared_of v.shared ≡ (state_at code limit ks).shared
  pub one_each : length v.looks.items ≡ many (explored code limit)
  pub each : (k : ℕ) (l : Look) → nth v.looks.items k ≡ Some l → IsLookAt code limit ks k l
