-- Actors that run instruction by instruction over what they share, and the same actors from one ask to the next.
use Rattle.std.specs.Prelude.{ℕ, zero, suc, Bool, ◌==◌, List, [], ◌∷◌, if◌then◌else◌}
use Rattle.txs_explore.specs.System.{System}

-- what an actor's next instruction does: it goes on alone, it asks, or there is none
pub data Next (Local : Type 0) : Type 0 where
  Quiet : (later : Local) → Next Local
  Asks : Next Local
  Rests : Next Local

-- an actor with what is shared, after its ask was answered
pub record Answered (Local Shared : Type 0) : Type 0 where
  pub actor : Local
  pub shared : Shared

-- Actors and what they share: an actor's next instruction; what becomes of both where it asks; how many instructions it may still make alone. Of actors that all
-- wait with an ask or rest: who may go on, what is told of them, and whose asks may be exchanged.
pub record Actors : Type 1 where
  pub Local : Type 0
  pub Shared : Type 0
  pub Told : Type 0
  pub next : ℕ → Local → Next Local
  pub answer : ℕ → Local → Shared → Answered Local Shared
  pub left : Local → ℕ
  pub live : Shared → (ℕ → Local) → List ℕ
  pub told : Shared → (ℕ → Local) → Told
  pub apart : Shared → (ℕ → Local) → ℕ → ℕ → Bool

-- what is shared, and the actors by number
pub record All (y : Actors) : Type 0 where
  pub shared : y.Shared
  pub actors : ℕ → y.Local

-- an actor in the place of what it was
abbrev pub put : {A : Type 0} → ℕ → A → (ℕ → A) → ℕ → A
put k l ls j = if k == j then l else ls j

-- an instruction of an actor, by what it does
abbrev pub does : (y : Actors) → ℕ → Next y.Local → All y → All y
does y k (Quiet l) s = record { shared = s.shared; actors = put k l s.actors }
does y k Asks s = record { shared = (y.answer k (s.actors k) s.shared).shared; actors = put k (y.answer k (s.actors k) s.shared).actor s.actors }
does y k Rests s = s

-- an instruction of an actor
abbrev pub instruction : (y : Actors) → ℕ → All y → All y
instruction y k s = does y k (y.next k (s.actors k)) s

-- these instructions, one after another
abbrev pub instructions : (y : Actors) → List ℕ → All y → All y
instructions y [] s = s
instructions y (k ∷ ks) s = instructions y ks (instruction y k s)

-- an actor by what its next instruction does: where it goes on alone, what comes then
abbrev pub by_next : {Local : Type 0} → (Local → Local) → Next Local → Local → Local
by_next go (Quiet m) l = go m
by_next go Asks l = l
by_next go Rests l = l

-- an actor that goes on alone, for so many instructions at most
abbrev pub walks : (y : Actors) → ℕ → ℕ → y.Local → y.Local
walks y k zero l = l
walks y k (suc n) l = by_next (λ m. walks y k n m) (y.next k l) l

-- an actor where it asks or rests
abbrev pub settled : (y : Actors) → ℕ → y.Local → y.Local
settled y k l = walks y k (y.left l) l

-- this actor where it asks or rests
abbrev pub settle : (y : Actors) → ℕ → All y → All y
settle y k s = record { shared = s.shared; actors = put k (settled y k (s.actors k)) s.actors }

-- all actors where they ask or rest
abbrev pub calm : (y : Actors) → All y → All y
calm y s = record { shared = s.shared; actors = λ k. settled y k (s.actors k) }

-- The system whose turns are asks: an actor goes on alone up to its next ask, which is answered, or to its end. What is told of a state is told of its actors where they all wait.
abbrev pub by_asks : Actors → System
by_asks y = record {
  State = All y;
  Outcome = y.Told;
  enabled = λ s. y.live s.shared (calm y s).actors;
  turn = λ k s. instruction y k (settle y k s);
  outcome = λ s. y.told s.shared (calm y s).actors;
  apart = λ s. y.apart s.shared (calm y s).actors;
}
