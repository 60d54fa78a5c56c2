-- What holds of all actors of a run between two plays, and what a play makes of them.
use Rattle.std.specs.Prelude.{◌≡◌, ◌≤◌, ◌<◌, ℕ, zero, suc, List, [], ◌∷◌, None}
use Rattle.txs_world_protocol.specs.declared.event.Event.{Event}
use Rattle.txs_code_meaning.specs.PlainCode.{PlainCode}
use Rattle.txs_machine_actor.specs.PlainActor.{PlainActor, Lives, stopped_at, unanswered}
use Rattle.txs_machine_actor.specs.Turns.{IsNew}
use Rattle.txs_machine.specs.Lawfully.{RunLawfully}
use Rattle.txs_machine.specs.RunOver.{IsLimited}
use Rattle.txs_machine.specs.Schedule.{plays_of}
use Rattle.txs_machine.specs.declared.player.Player.{Player}
use Rattle.txs_machine.specs.declared.schedule.Play.{Play}
use Rattle.txs_world_protocol.specs.declared.report.ActorReport.{ActorReport}

-- the actor of the k-th thread between two plays: it asks nothing, has done over the books what its code says, and asks next what it may ask
pub record IsBetween (code : PlainCode) (k limit : ℕ) (books : ℕ → List Event) (x : Player) : Type 0 where
  pub lives : Lives code x.actor
  pub free : unanswered x.actor ≡ None
  pub limited : IsLimited limit x.actor
  pub over : RunLawfully code k books x.trace.items x.actor

-- so are these actors, of which the first is that of the k-th thread
abbrev pub AreBetween : PlainCode → ℕ → (ℕ → List Event) → ℕ → List Player → Type 0
AreBetween code limit books k [] = Unit {0}
AreBetween code limit books k (x ∷ xs) = IsBetween code k limit books x × AreBetween code limit books (suc k) xs

-- a play of an actor: one that hasn't ended after it hadn't before, and made a step at least
abbrev pub IsPlayed : PlainActor → PlainActor → Type 0
IsPlayed a b = b.outcome ≡ None → (a.outcome ≡ None) × (a.steps < b.steps)

-- a play of the actor at this place, which leaves the others as they were
abbrev pub ArePlayedAt : ℕ → List Player → List Player → Type 0
ArePlayedAt k [] ys = ⊥
ArePlayedAt k (x ∷ xs) [] = ⊥
ArePlayedAt zero (x ∷ xs) (y ∷ ys) = IsPlayed x.actor y.actor × (ys ≡ xs)
ArePlayedAt (suc k) (x ∷ xs) (y ∷ ys) = (y ≡ x) × ArePlayedAt k xs ys

-- these actors later: one that hasn't ended hadn't before, and has made as many steps at least
abbrev pub AreLater : List Player → List Player → Type 0
AreLater [] [] = Unit {0}
AreLater [] (y ∷ ys) = ⊥
AreLater (x ∷ xs) [] = ⊥
AreLater (x ∷ xs) (y ∷ ys) = (y.actor.outcome ≡ None → (x.actor.outcome ≡ None) × (x.actor.steps ≤ y.actor.steps)) × AreLater xs ys

-- each of these actors that hasn't ended has made as many steps as there are plays of it, where the first is that of the k-th thread
abbrev pub HaveSteps : List Play → ℕ → List Player → Type 0
HaveSteps ps k [] = Unit {0}
HaveSteps ps k (x ∷ xs) = (x.actor.outcome ≡ None → plays_of k ps ≤ x.actor.steps) × HaveSteps ps (suc k) xs

-- all have ended
abbrev pub AllEnded : List Player → Type 0
AllEnded [] = Unit {0}
AllEnded (x ∷ xs) = (x.actor.outcome ≡ None → ⊥) × AllEnded xs

-- those before this place have
abbrev pub HaveEndedBefore : ℕ → List Player → Type 0
HaveEndedBefore zero xs = Unit {0}
HaveEndedBefore (suc k) [] = Unit {0}
HaveEndedBefore (suc k) (x ∷ xs) = (x.actor.outcome ≡ None → ⊥) × HaveEndedBefore k xs

-- the one at this place hasn't
abbrev pub IsUnended : ℕ → List Player → Type 0
IsUnended k [] = ⊥
IsUnended zero (x ∷ xs) = x.actor.outcome ≡ None
IsUnended (suc k) (x ∷ xs) = IsUnended k xs

-- an entry of a report says what the actor came to, and where its events are
pub record IsReported (code : PlainCode) (x : Player) (ran : ActorReport) : Type 0 where
  pub ended : x.actor.outcome ≡ ran.outcome
  pub printed : x.actor.printed ≡ ran.printed.items
  pub counted : x.actor.steps ≡ ran.steps
  pub traced : x.trace.items ≡ ran.trace.items
  pub placed : stopped_at code x.actor ≡ ran.place

-- the entries of a report, one for each actor
abbrev pub AreReported : PlainCode → List Player → List ActorReport → Type 0
AreReported code [] [] = Unit {0}
AreReported code [] (r ∷ rs) = ⊥
AreReported code (x ∷ xs) [] = ⊥
AreReported code (x ∷ xs) (r ∷ rs) = IsReported code x r × AreReported code xs rs

-- these actors are before their first turns, and may make so many steps; the first of them is the k-th actor
abbrev pub AreNew : PlainCode → ℕ → ℕ → List Player → Type 0
AreNew code limit k [] = Unit {0}
AreNew code limit k (x ∷ xs) = IsNew code k limit x.actor × (x.trace.items ≡ []) × AreNew code limit (suc k) xs
