-- What an actor has done on its exchanges.
use Rattle.std.specs.Prelude.{◌≡◌, ℕ, List, [], ◌∷◌, ◌++◌, Some, None}
use Rattle.txs_world_protocol.specs.Ask.{Exchange}
use Rattle.txs_world_protocol.specs.declared.ask.Ask.{Ask}
use Rattle.txs_world_protocol.specs.declared.ask.Reply.{Reply}
use Rattle.txs_world_protocol.specs.declared.ask.Reply.TheVariants.{Idle}
use Rattle.txs_code_meaning.specs.PlainCode.{PlainCode}
use Rattle.txs_machine_actor.specs.PlainActor.{PlainActor, HasRun, MayAnswer, Stops, answered, unanswered}
use Rattle.txs_machine_actor.specs.Turns.{IsNew, Turns}
use Rattle.txs_machine_actor.specs.declared.outcome.Turn.{Turn}

-- A new actor has done what the machine does on no exchanges; a turn adds none; and an answer adds its exchange, but one that stops the actor, and one
-- that has no action for an agent.
pub record ActorsRun : Type 0 where
  pub begins : (code : PlainCode) (k limit : ℕ) (a : PlainActor) → IsNew code k limit a → HasRun code [] a
  pub turns : (code : PlainCode) (xs : List Exchange) (a b : PlainActor) (r : Turn) → unanswered a ≡ None → HasRun code xs a → Turns code a r b → HasRun code xs b
  pub answers : (code : PlainCode) (xs : List Exchange) (a : PlainActor) (q : Ask) (r : Reply) → a.outcome ≡ None → unanswered a ≡ Some q → MayAnswer q r → (Stops r → ⊥) → (r ≡ Idle → ⊥) → HasRun code xs a
      → HasRun code (xs ++ record { ask = q; reply = r } ∷ []) (answered a r)
  pub idles : (code : PlainCode) (xs : List Exchange) (a : PlainActor) (q : Ask) → a.outcome ≡ None → unanswered a ≡ Some q → MayAnswer q Idle → HasRun code xs a → HasRun code xs (answered a Idle)
  pub stops : (code : PlainCode) (xs : List Exchange) (a : PlainActor) (q : Ask) (r : Reply) → a.outcome ≡ None → unanswered a ≡ Some q → MayAnswer q r → Stops r → HasRun code xs a → HasRun code xs (answered a r)
