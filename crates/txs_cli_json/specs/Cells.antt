-- The line of a cell.
use Rattle.std.specs.Prelude.{◌≡◌, ◌++◌, ◌∷◌, [], ℕ, suc, List, codes, Option, Some, None}
use Rattle.std.specs.List.{slice_get}
use Rattle.std.specs.Str.Lossy.{utf8_lossy}
use Rattle.serde_json.specs.Data.{Data, null, string, Members, no_members, put}
use Rattle.serde_json.specs.Written.{compact_text}
use Rattle.txs_cli_json.specs.Json.{typed}
use Rattle.txs_cli_json.specs.Members.{with_number}
use Rattle.txs_cli_json.specs.ValueForm.{kind_word, value_json}
use Rattle.txs_value_cell.specs.declared.cell.CellDefinition.{CellDefinition}
use Rattle.txs_value_data.specs.Printed.{printed}
use Rattle.txs_value_data.specs.View.{plain_of}
use Rattle.txs_value_data.specs.declared.value.Value.{Value}

-- members, and the kind and the name of a cell; both null where there is none
abbrev pub with_definition : Option CellDefinition → Members → Members
with_definition None ms = put (codes "name") null (put (codes "kind") null ms)
with_definition (Some d) ms = put (codes "name") (string (utf8_lossy d.name)) (put (codes "kind") (string (kind_word d.kind)) ms)

-- the object of the cell of this number among these, with this value: the value is also as `println` writes it
abbrev pub cell_json : List CellDefinition → ℕ → Value → Data
cell_json cells n v = typed (codes "cell") (put (codes "text") (string (utf8_lossy (printed (plain_of v)))) (put (codes "value") (value_json cells (plain_of v)) (with_definition (slice_get cells n) (with_number (codes "number") n no_members))))

-- the lines of cells with these values, whose numbers begin here
abbrev pub cell_lines : List CellDefinition → ℕ → List Value → List ℕ
cell_lines cells n [] = []
cell_lines cells n (v ∷ vs) = (compact_text (cell_json cells n v) ++ 10 ∷ []) ++ cell_lines cells (suc n) vs

-- the new text is the old one with lines behind it, and among these are those of the cells with these values, in order
pub record AddsCells (cells : List CellDefinition) (values : List Value) (old new : List ℕ) : Type 0 where
  pub before : List ℕ
  pub behind : List ℕ
  pub is : new ≡ old ++ (before ++ (cell_lines cells 0 values ++ behind))
