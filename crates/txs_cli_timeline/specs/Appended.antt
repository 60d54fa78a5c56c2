-- What an output is that a picture is appended to.
use Rattle.std.specs.Prelude.{◌≡◌, ℕ, List, ◌++◌, IsUtf8}

-- The new list is the old one with more behind it.
pub record Extends (old new : List ℕ) : Type 0 where
  pub more : List ℕ
  pub is : new ≡ old ++ more

-- The new list is the old one with a text in UTF-8 behind it.
pub record AppendsText (old new : List ℕ) : Type 0 where
  pub text : List ℕ
  pub utf8 : IsUtf8 text
  pub is : new ≡ old ++ text
