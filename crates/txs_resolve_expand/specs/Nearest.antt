-- Which local is the nearest of a name, told without a search.
use Rattle.std.specs.Prelude.{◌≡◌, ◌≢◌, ℕ, List, [], ◌∷◌, ◌++◌, length}
use Rattle.txs_resolve_expand.specs.Scope.{Scope}

-- none of these has this name
abbrev pub NoneNamed : List ℕ → List (List ℕ) → Type 0
NoneNamed name [] = Unit {0}
NoneNamed name (n ∷ ns) = (name ≢ n) × NoneNamed name ns

-- the local of this number has this name, and none nearer has it: as many locals stand further out
pub record IsNearest (name : List ℕ) (i : ℕ) (scope : Scope) : Type 0 where
  pub nearer : List (List ℕ)
  pub outer : List (List ℕ)
  pub whole : scope.locals ≡ nearer ++ name ∷ outer
  pub number : i ≡ length outer
  pub hides : NoneNamed name nearer
