-- What an exploration says of each run by workers: its end is listed.
use Rattle.std.specs.Prelude.{◌≡◌, ◌<◌, ℕ, List, length, Option, Some, None}
use Rattle.txs_world_protocol.specs.declared.event.Outcome.{Outcome}
use Rattle.txs_world_protocol.specs.declared.event.Outcome.TheVariants as outcome
use Rattle.txs_world_protocol.specs.declared.report.ActorReport.{ActorReport}
use Rattle.txs_value_data.specs.Places.{nth}
use Rattle.txs_code_meaning.specs.PlainCode.{PlainCode}
use Rattle.txs_explore.specs.Ends.{IsScript}
use Rattle.txs_world_shared.specs.SharedState.{PlainShared, shared_of}
use Rattle.txs_machine.specs.Agents.{agents_of, AreDrained}
use Rattle.txs_machine.specs.RunOver.{IsStateOf}
use Rattle.txs_machine.specs.Scheduled.{IsInterleaving}
use Rattle.txs_machine.specs.declared.schedule.Entries.{Entries}
use Rattle.txs_explore.specs.declared.ways.Way.{Way}
use Rattle.txs_explore.specs.Reported.{entries_of, reported}
use Rattle.txs_explore.specs.Told.{explored}
use Rattle.txs_explore.specs.Ways.{AreAll, IsListed}

-- an actor ended by itself: its code is done, or has failed
abbrev pub EndedItself : Option Outcome → Type 0
EndedItself None = ⊥
EndedItself (Some outcome.Done) = Unit {0}
EndedItself (Some (outcome.Failed f)) = Unit {0}
EndedItself (Some outcome.StepsSpent) = ⊥
EndedItself (Some outcome.JournalFull) = ⊥
EndedItself (Some outcome.Memory) = ⊥

-- an actor wasn't stopped: for its limit, a full book, or memory
abbrev pub IsNotStopped : Option Outcome → Type 0
IsNotStopped None = Unit {0}
IsNotStopped (Some outcome.Done) = Unit {0}
IsNotStopped (Some (outcome.Failed f)) = Unit {0}
IsNotStopped (Some outcome.StepsSpent) = ⊥
IsNotStopped (Some outcome.JournalFull) = ⊥
IsNotStopped (Some outcome.Memory) = ⊥

-- A state and entries of a run by turns in some order, which came to its end below the limit. There is one entry for each thread, which ended by itself, and one for each agent, whose
-- actor wasn't stopped. Each actor made fewer steps than the limit; and each agent whose actor hasn't ended has failed, or no action waits for it.
pub record HasWorked (code : PlainCode) (limit : ℕ) (s : PlainShared) (report : Entries) : Type 0 where
  pub of : IsStateOf code s
  pub run : IsInterleaving code s report.threads.items report.agents.items
  pub each_thread : length report.threads.items ≡ length code.threads
  pub each_agent : length report.agents.items ≡ length (agents_of code)
  pub ended : (k : ℕ) (ran : ActorReport) → nth report.threads.items k ≡ Some ran → EndedItself ran.outcome
  pub lasts : (i : ℕ) (ran : ActorReport) → nth report.agents.items i ≡ Some ran → IsNotStopped ran.outcome
  pub below : (k : ℕ) (ran : ActorReport) → nth (entries_of report) k ≡ Some ran → ran.steps < limit
  pub drained : AreDrained code (shared_of s) report.agents.items

-- Where the ways that are listed of a script's code are all, the end of each such run is among them.
abbrev pub WorkersAreListed : Type 0
WorkersAreListed =
    (code : PlainCode) (limit : ℕ) (ws : List Way) → IsScript (explored code limit) → AreAll code limit ws
    → (s : PlainShared) (report : Entries) → HasWorked code limit s report → IsListed code limit (reported s report) ws
