-- What a step of the reading keeps.
use Rattle.std.specs.Prelude.{ℕ, List, drop}
use Rattle.txs_reader.specs.declared.open_forms.OpenForms.{OpenForms}
use Rattle.txs_reader.specs.OpenForms.{opens, inner}
use Rattle.txs_reader.specs.Script.{Holds, IsFull}

-- the open forms hold what is before the offset
abbrev pub Reached : List ℕ → OpenForms → ℕ → Type 0
Reached bytes state at = Holds bytes (opens state) (inner state) (drop at bytes)

-- one part more may begin
abbrev pub HasRoom : OpenForms → Type 0
HasRoom state = ¬ IsFull (opens state) (inner state)
