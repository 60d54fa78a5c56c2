-- What searches add to what was found: each way that they list is one, none is lost, and where a search went everywhere all that it finds is listed.
use Rattle.std.proofs.Common.{◌⊎◌}
use Rattle.std.specs.Prelude.{◌≡◌, ℕ, Bool, true, not, ◌&&◌, ◌==◌, List, [], ◌∷◌, ◌++◌, Option, Some, None, if◌then◌else◌}
use Rattle.txs_code_meaning.specs.PlainCode.{PlainCode}
use Rattle.txs_explore.specs.System.{has, IsIn, MayGo}
use Rattle.txs_explore.specs.Search as searched
use Rattle.txs_explore.specs.Search.{Tells, IsWay, branches, search}
use Rattle.txs_explore.specs.Switches.{affordable, search_few}
use Rattle.txs_explore.specs.Runners as runs
use Rattle.txs_explore.specs.Runners.{asking, seen}
use Rattle.txs_explore.specs.declared.ending.Ending.{Ending}
use Rattle.txs_explore.specs.declared.ways.Way.{Way}
use Rattle.txs_explore.specs.Told.{explored, begins}
use Rattle.txs_explore.specs.Ways.{as_ending, as_way}
use Rattle.txs_explore.specs.declared.look.Node.{Node}
use Rattle.txs_explore.specs.Looked.{state_at}
use Rattle.txs_explore.specs.Node.{IsEndingOf}

-- ---- one more

-- one of these ways has this ending
abbrev pub HasEnding : runs.Ending → List Way → Type 0
HasEnding e ws = (w : Way) × IsIn w ws × (e ≡ as_ending w.ending)

-- Nothing is new where a way has this ending already; else the way to it is behind the others.
abbrev pub Adds : Ending → List ℕ → List Way → List Way → Type 0
Adds e ks old new = (HasEnding (as_ending e) old × (new ≡ old)) ⊎ ((w : Way) × (w.ending ≡ e) × (w.asks.items ≡ ks) × (new ≡ old ++ w ∷ []))

-- the ending of this place is added, with the asks that come to it
abbrev pub EndsAt : Node → List ℕ → List Way → List Way → Type 0
EndsAt v ks old new = (e : Ending) × IsEndingOf v e × Adds e ks old new

-- ---- what searches add

-- these asks are of actors that may go on
abbrev pub MayGoTo : PlainCode → ℕ → List ℕ → Type 0
MayGoTo code limit ks = MayGo (asking (explored code limit)) ks (seen (explored code limit) (begins code))

-- no ending is lost
abbrev pub Keeps : List Way → List Way → Type 0
Keeps ws vs = (e : runs.Ending) → HasEnding e ws → HasEnding e vs

-- each is a way from the beginning: its asks are of actors that may go on, behind them nobody may, and its ending is what is told then
abbrev pub AreWays : PlainCode → ℕ → List Way → Type 0
AreWays code limit ws = (w : Way) → IsIn w ws → IsWay (asking (explored code limit)) (seen (explored code limit) (begins code)) (as_way code limit w)

-- a search went everywhere, and all endings that it finds are listed
pub record Covers (code : PlainCode) (limit : ℕ) (f : searched.Found (asking (explored code limit))) (ws : List Way) : Type 0 where
  pub whole : f.whole ≡ true
  pub told : (e : runs.Ending) → Tells (asking (explored code limit)) e f.ways → HasEnding e ws

-- what was listed before is listed still, ways are ways, and where the search says that it went everywhere this holds of what is listed
pub record IsSearched (code : PlainCode) (limit : ℕ) (All : List Way → Type 0) (old new : List Way) (whole : Bool) : Type 0 where
  pub kept : Keeps old new
  pub ways : AreWays code limit old → AreWays code limit new
  pub all : whole ≡ true → (vs : List Way) → Keeps new vs → All vs

-- ---- through all schedules

-- all that the search finds behind these asks, where these actors sleep, is listed
abbrev pub HasSearched : PlainCode → ℕ → ℕ → List ℕ → List ℕ → List Way → Type 0
HasSearched code limit n asleep ks ws = Covers code limit (search (asking (explored code limit)) n asleep (state_at code limit ks)) ws

-- what the search finds behind one more ask
abbrev pub go_on : (code : PlainCode) (limit : ℕ) → ℕ → List ℕ → ℕ → List ℕ → searched.Found (asking (explored code limit))
go_on code limit n ks k sleepers = search (asking (explored code limit)) n sleepers ((asking (explored code limit)).turn k (state_at code limit ks))

-- all that it finds behind an ask of each of these that doesn't sleep
abbrev pub HasBranched : PlainCode → ℕ → ℕ → List ℕ → List ℕ → List ℕ → List Way → Type 0
HasBranched code limit n asleep ks es ws = Covers code limit (branches (asking (explored code limit)) (go_on code limit n ks) (state_at code limit ks) asleep es) ws

-- so where it is of the others, with these asleep
abbrev pub HasTurned : PlainCode → ℕ → ℕ → List ℕ → ℕ → List ℕ → List ℕ → List Way → Type 0
HasTurned code limit n ks k before after ws = (es : List ℕ) → HasBranched code limit n after ks es ws → HasBranched code limit n before ks (k ∷ es) ws

-- ---- with few switches

-- how many switches an ask of this actor is, behind the last one, where these may go on
abbrev pub switched_in : List ℕ → Option ℕ → ℕ → ℕ
switched_in due None k = 0
switched_in due (Some j) k = if not (j == k) && has j due then 1 else 0

-- all that the search with at most so many switches finds behind these asks, the last of which was this actor's
abbrev pub HasSearchedFew : PlainCode → ℕ → ℕ → ℕ → Option ℕ → List ℕ → List Way → Type 0
HasSearchedFew code limit n left last ks ws = Covers code limit (search_few (asking (explored code limit)) n left last (state_at code limit ks)) ws

-- what it finds behind one more ask
abbrev pub go_few : (code : PlainCode) (limit : ℕ) → ℕ → List ℕ → ℕ → ℕ → searched.Found (asking (explored code limit))
go_few code limit n ks k left = search_few (asking (explored code limit)) n left (Some k) ((asking (explored code limit)).turn k (state_at code limit ks))

-- all that it finds behind an ask of each of these for which enough switches are left
abbrev pub HasAfforded : PlainCode → ℕ → ℕ → ℕ → Option ℕ → List ℕ → List ℕ → List Way → Type 0
HasAfforded code limit n left last ks es ws = Covers code limit (affordable (asking (explored code limit)) (go_few code limit n ks) (state_at code limit ks) left last es) ws

-- so where it is of the others
abbrev pub HasTurnedFew : PlainCode → ℕ → ℕ → ℕ → Option ℕ → List ℕ → ℕ → List Way → Type 0
HasTurnedFew code limit n left last ks k ws = (es : List ℕ) → HasAfforded code limit n left last ks es ws → HasAfforded code limit n left last ks (k ∷ es) ws

-- what was listed is listed still, ways are ways, and all that the search with so many switches finds is listed, if one went everywhere
pub record AreSearchedFew (code : PlainCode) (limit n : ℕ) (old new : List Way) (within : Option ℕ) : Type 0 where
  pub kept : Keeps old new
  pub ways : AreWays code limit old → AreWays code limit new
  pub all : (most : ℕ) → within ≡ Some most → (vs : List Way) → Keeps new vs → HasSearchedFew code limit n most None [] vs
