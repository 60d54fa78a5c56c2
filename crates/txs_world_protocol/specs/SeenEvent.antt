-- An event with its book and its worlds: what an actor did to the shared state, as the meaning of its thread takes it.
use Rattle.std.specs.Prelude.{ℕ, zero, suc, Bool, true, false, List, [], ◌∷◌, if◌then◌else◌}
use Rattle.txs_value_cell.specs.Cells.{World}
use Rattle.txs_value_cell.specs.Forms.{same_kind}
use Rattle.txs_value_cell.specs.declared.cell.CellDefinition.{CellDefinition}
use Rattle.txs_value_data.specs.declared.value.CellId.{CellId}
use Rattle.txs_value_data.specs.declared.value.CellKind.TheVariants.{Atom}
use Rattle.txs_world_protocol.specs.declared.event.EventKind.{EventKind}

-- R is the world at the read point, Q that at the view, C that at the event's own place. An atom's book is given by the world of that
-- atom alone.
pub record SeenEvent : Type 0 where
  pub book : ℕ
  pub kind : EventKind
  pub R : World
  pub Q : World
  pub C : World

-- how many atoms there are among the first k cells
abbrev pub atoms_below : List CellDefinition → ℕ → ℕ
atoms_below [] k = 0
atoms_below (d ∷ ds) zero = 0
atoms_below (d ∷ ds) (suc k) = if same_kind d.kind Atom then suc (atoms_below ds k) else atoms_below ds k

-- the book of a cell: 0 is the store's, n the n-th atom's
abbrev pub home : List CellDefinition → CellId → ℕ
home cells c = if same_kind c.kind Atom then suc (atoms_below cells c.number) else 0
