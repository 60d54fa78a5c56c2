-- What turns of an actor come to, with the ask that the last of them brings served and answered, whoever's actor it is.
use Rattle.std.specs.Prelude.{◌≡◌, ℕ, true, List, Option, Some, None}
use Rattle.txs_world_protocol.specs.declared.ask.Ask.{Ask}
use Rattle.txs_world_protocol.specs.declared.ask.Reply.{Reply}
use Rattle.txs_world_protocol.specs.declared.event.Outcome.{Outcome}
use Rattle.txs_code_meaning.specs.PlainCode.{PlainCode}
use Rattle.txs_machine_actor.specs.PlainActor.{PlainActor, HandsOut, Lives, unanswered}
use Rattle.txs_machine_actor.specs.Turns.{Says, TurnsOf}
use Rattle.txs_machine_actor.specs.declared.outcome.Turn.{Turn}
use Rattle.txs_machine_actor.specs.declared.outcome.Turn.TheVariants as turned
use Rattle.txs_world_shared.specs.SharedState.{PlainShared, is_lawful}
use Rattle.txs_machine.specs.Running.{IsAnswered}
use Rattle.txs_machine.specs.Serving.{IsServed}
use Rattle.txs_world_protocol.specs.declared.event.Place.{Place}

-- this ask of an actor may be served: it is lawful, and what it is answered hands out what the code may run
pub record MayAsk (code : PlainCode) (s : PlainShared) (a : PlainActor) (q : Ask) : Type 0 where
  pub lawful : is_lawful s a.number q ≡ true
  pub hands : (r : Reply) (t : PlainShared) (tr new : List Place) → IsServed s a.number q r t tr new → HandsOut code r

-- so may each ask to which so many turns of the actor may come
abbrev pub MayGoOn : PlainCode → PlainShared → ℕ → PlainActor → Type 0
MayGoOn code s n a = (b : PlainActor) (q : Ask) → TurnsOf code n a (turned.Asks q) b → Lives code b → b.outcome ≡ None → unanswered b ≡ Some q → MayAsk code s b q

-- what becomes of an actor by what the last of its turns answered: an ask is served and answered, and after any other all is as it is
abbrev pub IsLed : Turn → PlainShared → PlainActor → List Place → Option Outcome → PlainShared → PlainActor → List Place → Type 0
IsLed turned.Went s b tr o t z new = (z ≡ b) × (t ≡ s) × (new ≡ tr) × (o ≡ None)
IsLed (turned.Asks q) s b tr o t z new = IsAnswered b.number s b tr q t z new × (o ≡ None)
IsLed (turned.Ended e) s b tr o t z new = (z ≡ b) × (t ≡ s) × (new ≡ tr) × (o ≡ Some e)

-- Up to so many turns of an actor, with the ask that they came to, if they did, served and answered.
pub record HasGoneOn (code : PlainCode) (n : ℕ) (s : PlainShared) (a : PlainActor) (tr : List Place) (o : Option Outcome) (t : PlainShared) (z : PlainActor) (new : List Place) : Type 0 where
  pub turn : Turn
  pub at : PlainActor
  pub turns : TurnsOf code n a turn at
  pub says : Says turn at
  pub reached : Lives code at
  pub lives : Lives code z
  pub led : IsLed turn s at tr o t z new
