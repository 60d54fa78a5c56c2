-- How many tries of an actor's transactions have failed, and that it has a try left while those are few.
use Rattle.std.specs.Prelude.{◌≡◌, ◌<◌, ℕ, suc, Bool, true, false, not, List, [], ◌∷◌, map, if◌then◌else◌}
use Rattle.txs_world_protocol.specs.Ask.{Exchange}
use Rattle.txs_world_protocol.specs.declared.event.Event.{Event}
use Rattle.txs_world_protocol.specs.declared.ask.Ask.{Ask}
use Rattle.txs_world_protocol.specs.declared.ask.Ask.TheVariants as ask
use Rattle.txs_world_protocol.specs.declared.ask.Reply.{Reply}
use Rattle.txs_world_protocol.specs.declared.ask.Reply.TheVariants as reply
use Rattle.txs_value_cell.specs.declared.cell.CellDefinition.{CellDefinition}
use Rattle.txs_value_data.specs.Limits.{reruns}
use Rattle.txs_code_meaning.specs.Machine.{ThreadCode, Configuration, Unfinished, run}
use Rattle.txs_code_meaning.specs.Opening.{opening}
use Rattle.txs_theorem_runs.specs.Invariant.{ActorInvariant}
use Rattle.txs_theorem_runs.specs.Run.{Actor}
use Rattle.txs_theorem_runs.specs.Staged.{StagedActor}
use Rattle.txs_theorem_runs.specs.Told.{exchange_of}
use Rattle.txs_theorem_alike.specs.Actors.{IsReady}
use Rattle.txs_theorem_alike.specs.TriesLeft.{HasTry}

-- whether a request ends a swap: that is made again as often as it has to be, and uses up no try
abbrev pub ends_swap : Ask → Bool
ends_swap (ask.CloseAt c p v) = true
ends_swap _ = false

-- whether the reply to a request says that a try of a transaction has failed
abbrev pub is_failure : Ask → Reply → Bool
is_failure q (reply.Retry c) = true
is_failure q (reply.Changed c) = not (ends_swap q)
is_failure q _ = false

-- one more, where a try has failed
abbrev pub counts : Ask → Reply → ℕ → ℕ
counts q r n = if is_failure q r then suc n else n

-- how many of these exchanges say that a try has failed
abbrev pub failures : List Exchange → ℕ
failures [] = 0
failures (x ∷ xs) = counts x.ask x.reply (failures xs)

-- while fewer tries failed than a transaction may be run again, it may be run again
abbrev pub FewFailuresLeaveTries : Type 0
FewFailuresLeaveTries = (code : ThreadCode) (m : ℕ) (xs : List Exchange) (c : Configuration) → run code m (opening code xs) ≡ Unfinished c → c.state.todo ≡ [] → failures xs < reruns → HasTry c.doing

-- So an actor of a run is ready for its turn, if it asks in stages: it has heard all, takes the reply of its ask, and has a try left.
abbrev pub RunActorsAreReady : Type 0
RunActorsAreReady = (cells : List CellDefinition) (threads : ℕ) (agent : Bool) (code : ThreadCode) (books : ℕ → List Event) (a : ℕ) (x : Actor)
    → StagedActor agent code → ActorInvariant cells threads agent code books a x → failures (map exchange_of x.entries) < reruns → IsReady code x.at
