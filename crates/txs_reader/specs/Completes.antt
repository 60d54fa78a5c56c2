-- A form that has just become whole.
use Rattle.std.specs.Prelude.{◌≡◌, ◌≤◌, ◌+◌, ◌++◌, ◌∷◌, ℕ, [], List, length, flat_map}
use Rattle.txs_reader.specs.Tree.{PlainForm, height, IsNarrow}
use Rattle.txs_reader.specs.Script.{Piece, Splits, tokens, spelled, Open, begun, WithinLimits, IsFull}
use Rattle.txs_value_data.specs.Limits.{most_nesting}

-- The bytes up to the rest are what is held and one form more, to which a `@` may be open.
pub record Completes (bytes : List ℕ) (open_forms : List Open) (forms : List PlainForm) (t : PlainForm) (rest : List ℕ) : Type 0 where
  pub pieces : List Piece
  pub splits : Splits bytes pieces rest
  pub spells : tokens 0 pieces ≡ flat_map begun open_forms ++ flat_map spelled (forms ++ t ∷ [])
  pub limits : WithinLimits 0 open_forms forms
  pub deep : length open_forms + height t ≤ most_nesting
  pub narrow : IsNarrow t
  pub room : ¬ IsFull open_forms forms
