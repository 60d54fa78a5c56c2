-- What an exploration promises: each way that it lists is a run, and where it went everywhere there are no other endings.
use Rattle.std.specs.Prelude.{◌≡◌, ◌<◌, ◌≤◌, ◌+◌, ℕ, List, [], map, Option, None}
use Rattle.txs_code_meaning.specs.PlainCode.{PlainCode}
use Rattle.txs_theorem_runs.specs.Run.{Play}
use Rattle.txs_explore.specs.System.{IsIn, turns}
use Rattle.txs_explore.specs.Search as searched
use Rattle.txs_explore.specs.Search.{Tells}
use Rattle.txs_explore.specs.Switches.{switches}
use Rattle.txs_explore.specs.Runners as runs
use Rattle.txs_explore.specs.Runners.{asking, seen, played, AreWithin, IsOver, told_of}
use Rattle.txs_explore.specs.SearchLaws.{IsRunBy}
use Rattle.txs_explore.specs.declared.ending.End.{End}
use Rattle.txs_explore.specs.declared.ending.Ending.{Ending}
use Rattle.txs_explore.specs.declared.ways.Way.{Way}
use Rattle.txs_explore.specs.Told.{explored, begins}

-- ---- what is listed

-- what is told of an actor, as the laws of searches have it
abbrev pub as_end : End → runs.End
as_end e = record { ended = e.outcome; printed = e.printed }

-- what is told of an end, as they have it
abbrev pub as_ending : Ending → runs.Ending
as_ending e = record { actors = map as_end e.actors; cells = e.cells; failed = e.failed }

-- a way, as they have it: an ending, and whose asks come to it
abbrev pub as_way : (code : PlainCode) (limit : ℕ) → Way → searched.Way (asking (explored code limit))
as_way code limit w = record { outcome = as_ending w.ending; turns = w.asks.items }

abbrev pub as_ways : (code : PlainCode) (limit : ℕ) → List Way → List (searched.Way (asking (explored code limit)))
as_ways code limit ws = map (as_way code limit) ws

-- one of these ways has this ending
abbrev pub IsListed : PlainCode → ℕ → runs.Ending → List Way → Type 0
IsListed code limit e ws = Tells (asking (explored code limit)) e (as_ways code limit ws)

-- ---- what is promised

-- Of each way the asks, one after another, each with all that its actor does up to it, are a run within the limit, behind which nobody may go on. The ending is what is told of it.
abbrev pub AreRuns : PlainCode → ℕ → List Way → Type 0
AreRuns code limit ws =
    (w : searched.Way (asking (explored code limit))) → IsIn w (as_ways code limit ws) → (m : ℕ) → limit + 1 < m → IsRunBy (explored code limit) m (begins code) w

-- Each run within the limit behind which nobody may go on has one of these endings. A run is any list of plays of the threads and agents, instruction by instruction.
abbrev pub AreAll : PlainCode → ℕ → List Way → Type 0
AreAll code limit ws =
    (ys : List Play) → AreWithin (explored code limit) ys (begins code) → IsOver (explored code limit) (played (explored code limit) ys (begins code))
    → IsListed code limit (told_of (explored code limit) (played (explored code limit) ys (begins code))) ws

-- Each list of asks with at most so many switches, behind which nobody may go on, has one of these endings.
abbrev pub AreAllOfFew : PlainCode → ℕ → ℕ → List Way → Type 0
AreAllOfFew code limit most ws =
    (ks : List ℕ) → switches (asking (explored code limit)) None ks (seen (explored code limit) (begins code)) ≤ most
    → (asking (explored code limit)).enabled (turns (asking (explored code limit)) ks (seen (explored code limit) (begins code))) ≡ []
    → IsListed code limit ((asking (explored code limit)).outcome (turns (asking (explored code limit)) ks (seen (explored code limit) (begins code)))) ws
