-- A place of the search in terms of what was seen there: who may go on, whose asks may be exchanged, and what is told of an end.
use Rattle.std.specs.Prelude.{◌≡◌, ◌<◌, ℕ, zero, suc, Bool, not, ◌&&◌, ◌==◌, List, [], ◌∷◌, length, map, Option, None, if◌then◌else◌}
use Rattle.txs_world_protocol.specs.declared.ask.Ask.{Ask}
use Rattle.txs_explore.specs.Runners.{are_apart, is_due, those}
use Rattle.txs_world_shared.specs.Parts.{values_of, faults_of}
use Rattle.txs_world_shared.specs.SharedState.{shared_of}
use Rattle.txs_explore.specs.declared.ending.End.{End}
use Rattle.txs_explore.specs.declared.ending.Ending.{Ending}
use Rattle.txs_explore.specs.declared.look.Look.{Look}
use Rattle.txs_explore.specs.declared.look.Node.{Node}

-- each of these numbers is below this
abbrev pub AreBelow : ℕ → List ℕ → Type 0
AreBelow n [] = Unit {0}
AreBelow n (k ∷ ks) = (k < n) × AreBelow n ks

-- what the actor with this number asks next, if it does
abbrev pub asks_in : List Look → ℕ → Option Ask
asks_in [] k = None
asks_in (l ∷ ls) zero = l.ask
asks_in (l ∷ ls) (suc k) = asks_in ls k

-- who may go on
abbrev pub due_in : Node → List ℕ
due_in v = those (λ k. is_due v.shared.cells v.shared.threads (shared_of v.shared) k (asks_in v.looks.items k)) 0 (length v.looks.items)

-- whether the asks of two actors may be exchanged
abbrev pub apart_in : Node → ℕ → ℕ → Bool
apart_in v k j = not (k == j) && are_apart v.shared.cells (shared_of v.shared) (asks_in v.looks.items k) (asks_in v.looks.items j)

-- those of these of which this holds
abbrev pub kept_by : (ℕ → Bool) → List ℕ → List ℕ
kept_by f [] = []
kept_by f (j ∷ js) = if f j then j ∷ kept_by f js else kept_by f js

-- what is told of each
abbrev pub ends_of : List Look → List End
ends_of ls = map (λ l. l.end) ls

-- what is told of the end
pub record IsEndingOf (v : Node) (e : Ending) : Type 0 where
  pub actors : e.actors ≡ ends_of v.looks.items
  pub cells : e.cells ≡ values_of v.shared
  pub failed : e.failed ≡ faults_of v.shared
