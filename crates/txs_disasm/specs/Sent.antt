-- What of some bytes a writer got, where it is known what it holds.
use Rattle.std.specs.Prelude.{◌≡◌, ◌<◌, ℕ, List, ◌++◌, length, Option}
use Rattle.std.specs.Io.KnownBytes.{Appends}

-- Of these bytes the writer got a beginning, behind what it held and nothing else; this is left of them.
pub record Sent (old new : Option (List ℕ)) (all left : List ℕ) : Type 0 where
  pub bytes : List ℕ
  pub got : Appends old new bytes
  pub whole : all ≡ bytes ++ left

-- Of these bytes the writer got a beginning, and not all.
pub record IsCut (old new : Option (List ℕ)) (all : List ℕ) : Type 0 where
  pub left : List ℕ
  pub some : 0 < length left
  pub sent : Sent old new all left
