-- Where each actor's events are in the books of a report.
use Rattle.std.specs.Prelude.{◌≡◌, ◌<◌, ℕ, List, [], ◌∷◌, ◌++◌, length, set}
use Rattle.std.proofs.Common.{get_or}
use Rattle.txs_theorem_runs.specs.Told.{places_by}
use Rattle.txs_world_protocol.specs.declared.event.Event.{Event}

-- the rows of so many actors: of each the indexes of its events in a book
pub record AreRows (actors : ℕ) (book : List Event) (rows : List (List ℕ)) : Type 0 where
  pub many : length rows ≡ actors
  pub each : (a : ℕ) → a < actors → get_or rows a [] ≡ places_by a 0 book

-- the rows of so many books
pub record AllRows (actors count : ℕ) (books : ℕ → List Event) (all : List (List (List ℕ))) : Type 0 where
  pub many : length all ≡ count
  pub each : (n : ℕ) → n < count → AreRows actors (books n) (get_or all n [])

-- one more index in an actor's row
abbrev pub with_index : List (List ℕ) → ℕ → ℕ → List (List ℕ)
with_index rows a i = set rows a (get_or rows a [] ++ i ∷ [])
