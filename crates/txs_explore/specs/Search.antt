-- The search through all schedules of a system: depth first, without what an exchange of turns would bring again.
use Rattle.std.specs.Prelude.{◌≡◌, ℕ, zero, suc, Bool, true, false, ◌&&◌, List, [], ◌∷◌, ◌++◌, if◌then◌else◌}
use Rattle.txs_explore.specs.System.{System, has, IsIn, MayGo, turns}

-- an outcome, and the turns that come to it
pub record Way (y : System) : Type 0 where
  pub outcome : y.Outcome
  pub turns : List ℕ

-- what a search has found, and whether it went everywhere
pub record Found (y : System) : Type 0 where
  pub ways : List (Way y)
  pub whole : Bool

-- these ways, from a turn before
abbrev pub behind : (y : System) → ℕ → List (Way y) → List (Way y)
behind y k [] = []
behind y k (w ∷ ws) = record { outcome = w.outcome; turns = k ∷ w.turns } ∷ behind y k ws

-- those of these actors whose turns may be exchanged with this one's
abbrev pub apart_from : (y : System) → y.State → ℕ → List ℕ → List ℕ
apart_from y s k [] = []
apart_from y s k (j ∷ js) = if y.apart s k j then j ∷ apart_from y s k js else apart_from y s k js

-- what is found behind the turn of one actor, and what is found besides
abbrev pub joined : (y : System) → ℕ → Found y → Found y → Found y
joined y k a b = record { ways = behind y k a.ways ++ b.ways; whole = a.whole && b.whole }

-- What is found behind a turn of each of these actors that doesn't sleep. One whose turn was gone through sleeps, until a turn comes that its own can't be exchanged with.
abbrev pub branches : (y : System) → (ℕ → List ℕ → Found y) → y.State → List ℕ → List ℕ → Found y
branches y go s asleep [] = record { ways = []; whole = true }
branches y go s asleep (k ∷ ks) = if has k asleep then branches y go s asleep ks else joined y k (go k (apart_from y s k asleep)) (branches y go s (k ∷ asleep) ks)

-- what is found where nobody may go on
abbrev pub ended : (y : System) → y.State → Found y
ended y s = record { ways = record { outcome = y.outcome s; turns = [] } ∷ []; whole = true }

-- what is found with no turn left, where these may go on
abbrev pub cut : (y : System) → y.State → List ℕ → Found y
cut y s [] = ended y s
cut y s (k ∷ ks) = record { ways = []; whole = false }

-- what is found where these may go on
abbrev pub among : (y : System) → (ℕ → List ℕ → Found y) → y.State → List ℕ → List ℕ → Found y
among y go s asleep [] = ended y s
among y go s asleep (k ∷ ks) = branches y go s asleep (k ∷ ks)

-- what is found by at most so many turns, one after another, where these actors sleep
abbrev pub search : (y : System) → ℕ → List ℕ → y.State → Found y
search y zero asleep s = cut y s (y.enabled s)
search y (suc n) asleep s = among y (λ k sleepers. search y n sleepers (y.turn k s)) s asleep (y.enabled s)

-- ---- what is said of what is found

-- one of these ways has this outcome
abbrev pub Tells : (y : System) → y.Outcome → List (Way y) → Type 0
Tells y o ws = (w : Way y) × IsIn w ws × (o ≡ w.outcome)

-- these turns are of actors that may go on, behind them nobody may, and this is the outcome
pub record IsWay (y : System) (s : y.State) (w : Way y) : Type 0 where
  pub may : MayGo y w.turns s
  pub ends : y.enabled (turns y w.turns s) ≡ []
  pub outcome : w.outcome ≡ y.outcome (turns y w.turns s)
