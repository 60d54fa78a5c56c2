-- How much of a stream is read where it has the byte form of code.
use Rattle.std.specs.Prelude.{◌≡◌, ◌⊎◌, ◌≤◌, ◌+◌, ◌==◌, ℕ, max, true, false, List, length, take, if◌then◌else◌, Option}
use Rattle.std.specs.Io.KnownBytes.{Consumes, IsAtEnd}
use Rattle.txs_verify.specs.Load.{is_settled}

-- What was read of a stream: its first bytes, where it is known what it has. They are all, or they are refused whatever stands behind them.
pub record IsRead (old new : Option (List ℕ)) (bytes : List ℕ) : Type 0 where
  pub first : Consumes old new bytes
  pub enough : IsAtEnd new ⊎ (is_settled bytes ≡ true)

-- how many bytes are read at most, where so many may be the beginning of a form: of none four, which are those of the magic; of others as many again, or 65,536
abbrev pub goal_after : ℕ → ℕ
goal_after n = if n == 0 then 4 else n + max n 65536

-- No more was read: the bytes are so many at most as are read behind some that may be the beginning of a form.
pub record IsNoFurther (bytes : List ℕ) : Type 0 where
  pub before : ℕ
  pub within : before ≤ length bytes
  pub open_yet : is_settled (take before bytes) ≡ false
  pub few : length bytes ≤ goal_after before
