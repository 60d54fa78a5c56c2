-- The agents among cells.
use Rattle.std.specs.Prelude.{ℕ, suc, List, [], ◌∷◌}
use Rattle.txs_value_cell.specs.declared.cell.CellDefinition.{CellDefinition}
use Rattle.txs_value_data.specs.declared.value.CellId.{CellId}
use Rattle.txs_value_data.specs.declared.value.CellKind.{CellKind}
use Rattle.txs_value_data.specs.declared.value.CellKind.TheVariants.{Ref, Atom, Agent}

-- the agent with this number, before those that come behind it
abbrev pub with_agent : CellKind → ℕ → List CellId → List CellId
with_agent Ref n gs = gs
with_agent Atom n gs = gs
with_agent Agent n gs = record { kind = Agent; number = n } ∷ gs

-- the agents among the cells from the n-th on, in their order
abbrev pub agents_from : ℕ → List CellDefinition → List CellId
agents_from n [] = []
agents_from n (d ∷ ds) = with_agent d.kind n (agents_from (suc n) ds)
