-- What a report says of the end of a run, in the words in which it is told of a way.
use Rattle.std.specs.Prelude.{ℕ, List, ◌++◌, map}
use Rattle.txs_world_protocol.specs.declared.report.ActorReport.{ActorReport}
use Rattle.txs_world_shared.specs.Parts.{values_of, faults_of}
use Rattle.txs_world_shared.specs.SharedState.{PlainShared}
use Rattle.txs_machine.specs.declared.schedule.Entries.{Entries}
use Rattle.txs_machine.specs.declared.schedule.Play.{Play}
use Rattle.txs_machine.specs.declared.schedule.Play.TheVariants as play
use Rattle.txs_explore.specs.Runners as runs

-- of all actors, those of the threads first
abbrev pub entries_of : Entries → List ActorReport
entries_of report = report.threads.items ++ report.agents.items

-- how an actor ended, if it has, and what it printed
abbrev pub entry_end : ActorReport → runs.End
entry_end ran = record { ended = ran.outcome; printed = ran.printed.items }

-- The end of a run that left this state and these entries: how each actor ended, if it has, and what it printed; the newest value of each cell; and of each agent its fault if it has failed.
abbrev pub reported : PlainShared → Entries → runs.Ending
reported s report = record { actors = map entry_end (entries_of report); cells = values_of s; failed = faults_of s }

-- an ask of each of these actors, one after another
abbrev pub plays_of : List ℕ → List Play
plays_of ks = map (λ k. play.Ask k) ks
