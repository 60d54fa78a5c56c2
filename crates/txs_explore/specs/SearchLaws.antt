-- What searches say of all runs of a script's threads and agents.
use Rattle.std.specs.Prelude.{◌≡◌, ◌<◌, ◌≤◌, ◌+◌, ℕ, true, List, [], Option, None}
use Rattle.txs_theorem_runs.specs.Run.{Play, State, opens}
use Rattle.txs_explore.specs.System.{IsIn, MayGo, AreAlike, turns}
use Rattle.txs_explore.specs.Search.{Way, search, Tells}
use Rattle.txs_explore.specs.Switches.{switches, search_few}
use Rattle.txs_explore.specs.Actors.{calm}
use Rattle.txs_explore.specs.Ends.{IsScript, HasEnded}
use Rattle.txs_explore.specs.Runners.{Explored, many, runners, asking, seen, played, AreWithin, plays_by, AreTurns, IsOver, told_of}

-- ---- the search through all schedules

-- Where the search from a state went everywhere, each run from there that comes to an end has one of the outcomes that it found. A run is any list of plays of the threads and agents
-- within the limit, instruction by instruction.
abbrev pub RunsAreFound : Type 0
RunsAreFound =
    (x : Explored) (n : ℕ) (st : State) → (search (asking x) n [] (seen x st)).whole ≡ true
    → (ys : List Play) → AreWithin x ys st → IsOver x (played x ys st) → Tells (asking x) (told_of x (played x ys st)) (search (asking x) n [] (seen x st)).ways

-- The plays of a way's asks, each of so many plays at most, are a run within the limit. Behind it the run is over, and this is the outcome.
pub record IsRunBy (x : Explored) (m : ℕ) (st : State) (w : Way (asking x)) : Type 0 where
  pub within : AreWithin x (plays_by x m w.turns st) st
  pub over : IsOver x (played x (plays_by x m w.turns st) st)
  pub outcome : w.outcome ≡ told_of x (played x (plays_by x m w.turns st) st)

-- Each outcome that a search found is that of the run by the asks beside it, also where the search didn't go everywhere.
abbrev pub WaysAreRuns : Type 0
WaysAreRuns = (x : Explored) (n m : ℕ) (st : State) (w : Way (asking x)) → x.limit + 1 < m → IsIn w (search (asking x) n [] (seen x st)).ways → IsRunBy x m st w

-- ---- the search with few switches

-- Where the search with at most so many switches went everywhere, it found the outcome of each schedule of asks that has no more switches and comes to an end.
abbrev pub FewAreFound : Type 0
FewAreFound =
    (x : Explored) (n most : ℕ) (st : State) → (search_few (asking x) n most None (seen x st)).whole ≡ true
    → (ks : List ℕ) → switches (asking x) None ks (seen x st) ≤ most → (asking x).enabled (turns (asking x) ks (seen x st)) ≡ []
    → Tells (asking x) ((asking x).outcome (turns (asking x) ks (seen x st))) (search_few (asking x) n most None (seen x st)).ways

-- Each outcome that it found is that of the run by the asks beside it, which have no more switches.
abbrev pub FewAreRuns : Type 0
FewAreRuns =
    (x : Explored) (n m most : ℕ) (st : State) (w : Way (asking x)) → x.limit + 1 < m → IsIn w (search_few (asking x) n most None (seen x st)).ways
    → IsRunBy x m st w × (switches (asking x) None w.turns (seen x st) ≤ most)

-- ---- between instructions and asks

-- A turn by asks is the actor's plays up to and with its next ask.
abbrev pub TurnsArePlays : Type 0
TurnsArePlays =
    (x : Explored) (m : ℕ) (ks : List ℕ) (st : State) → x.limit + 1 < m → MayGo (asking x) ks (seen x st)
    → AreWithin x (plays_by x m ks st) st × (seen x (played x (plays_by x m ks st) st) ≡ turns (asking x) ks (seen x st))

-- states that are the same where each actor goes on alone as far as it can
abbrev pub IsSame : (x : Explored) → State → (ks : List ℕ) → State → Type 0
IsSame x st ks end = calm (runners x) (turns (asking x) ks (seen x st)) ≡ calm (runners x) (seen x end)

-- each run comes to where a list of asks comes to
abbrev pub RunsComeByAsks : Type 0
RunsComeByAsks = (x : Explored) (ys : List Play) (st : State) → AreWithin x ys st → (ks : List ℕ) × IsSame x st ks (played x ys st)

-- States that are the same there can't be told apart by asks; an actor that may not go on changes nothing, and asks that are apart may be exchanged.
abbrev pub AsksAreAlike : Type 0
AsksAreAlike = (x : Explored) → AreAlike (asking x) (λ s t. calm (runners x) s ≡ calm (runners x) t)

-- searches from such states find the same
abbrev pub SearchesAgree : Type 0
SearchesAgree =
    (x : Explored) (st end : State) → calm (runners x) (seen x st) ≡ calm (runners x) (seen x end)
    → ((n : ℕ) (asleep : List ℕ) → search (asking x) n asleep (seen x st) ≡ search (asking x) n asleep (seen x end))
    × ((n most : ℕ) (last : Option ℕ) → search_few (asking x) n most last (seen x st) ≡ search_few (asking x) n most last (seen x end))

-- ---- which runs are covered

-- Where a script's code is as it has to be, each run from its beginning that has ended is over.
abbrev pub EndsAreOver : Type 0
EndsAreOver = (x : Explored) → IsScript x → (ys : List Play) → HasEnded x (played x ys (opens x.cells x.codes)) → IsOver x (played x ys (opens x.cells x.codes))

-- turns alone, behind which each actor is below its limit, are within it
abbrev pub BelowIsWithin : Type 0
BelowIsWithin =
    (x : Explored) (ys : List Play) (st : State) → AreTurns (many x) ys → ((a : ℕ) → a < many x → ((played x ys st).actors a).turns < x.limit) → AreWithin x ys st
