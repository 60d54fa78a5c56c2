-- A system of actors that take turns: which of them may go on, what a turn makes of the state, and what is told of its end.
use Rattle.std.specs.Prelude.{◌≡◌, ◌⊎◌, ℕ, Bool, true, false, ◌==◌, List, [], ◌∷◌, if◌then◌else◌}

-- whether this number is one of these
abbrev pub has : ℕ → List ℕ → Bool
has k [] = false
has k (j ∷ js) = if k == j then true else has k js

-- this is one of these
abbrev pub IsIn : {A : Type 0} → A → List A → Type 0
IsIn x [] = ⊥
IsIn x (y ∷ ys) = (x ≡ y) ⊎ IsIn x ys

-- The states, the actors that may go on in each, what a turn of an actor makes of it, and what is told of it in the end.
pub record System : Type 1 where
  pub State : Type 0
  pub Outcome : Type 0
  pub enabled : State → List ℕ
  pub turn : ℕ → State → State
  pub outcome : State → Outcome
  -- whether the next turns of these two actors may be exchanged there
  pub apart : State → ℕ → ℕ → Bool

-- the state after these turns
abbrev pub turns : (y : System) → List ℕ → y.State → y.State
turns y [] s = s
turns y (k ∷ ks) s = turns y ks (y.turn k s)

-- each of these turns is of an actor that may go on there
abbrev pub MayGo : (y : System) → List ℕ → y.State → Type 0
MayGo y [] s = Unit {0}
MayGo y (k ∷ ks) s = (has k (y.enabled s) ≡ true) × MayGo y ks (y.turn k s)

-- States that nobody can tell apart: the same actors go on in them, and come to such states again. The same turns may be exchanged in them, and the same is told of them. A turn
-- of an actor that may not go on changes nothing. Two turns that are apart come to such states in both orders.
pub record AreAlike (y : System) (Alike : y.State → y.State → Type 0) : Type 0 where
  pub itself : (s : y.State) → Alike s s
  pub back : (s t : y.State) → Alike s t → Alike t s
  pub on : (s t u : y.State) → Alike s t → Alike t u → Alike s u
  pub enabled : (s t : y.State) → Alike s t → y.enabled s ≡ y.enabled t
  pub turn : (k : ℕ) (s t : y.State) → Alike s t → Alike (y.turn k s) (y.turn k t)
  pub outcome : (s t : y.State) → Alike s t → y.outcome s ≡ y.outcome t
  pub both_apart : (k j : ℕ) (s t : y.State) → Alike s t → y.apart s k j ≡ y.apart t k j
  pub rests : (k : ℕ) (s : y.State) → has k (y.enabled s) ≡ false → Alike (y.turn k s) s
  pub exchanged : (k j : ℕ) (s : y.State) → y.apart s k j ≡ true → Alike (y.turn j (y.turn k s)) (y.turn k (y.turn j s))
