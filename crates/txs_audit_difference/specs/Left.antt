-- What is told of a book, by what is known of it.
use Rattle.std.specs.Prelude.{ℕ, Option, Some, None, if◌then◌else◌}
use Rattle.txs_value_data.specs.Places.{nth}
use Rattle.txs_value_cell.specs.Forms.{same_kind}
use Rattle.txs_value_data.specs.declared.value.CellId.{CellId}
use Rattle.txs_value_data.specs.declared.value.CellKind.TheVariants.{Atom}
use Rattle.txs_value_data.specs.declared.value.Value.{Value}
use Rattle.txs_tree_meaning.specs.Tree.{PlainProgram}
use Rattle.txs_theorem_audit.specs.Audited.{PlainReport, entry_of, Finding, Fine, Off, check}
use Rattle.txs_theorem_audit.specs.Verdict.{index_if, is_value, length_if}
use Rattle.txs_audit_difference.specs.Difference.{atom_leaves, atom_what, cell_what, tells}
use Rattle.txs_audit_difference.specs.Pieces.{at_event}
use Rattle.txs_audit_difference.specs.declared.pieces.Spot.{Spot}
use Rattle.txs_audit_difference.specs.declared.told.Told.{Told}
use Rattle.txs_audit_difference.specs.declared.told.Told.TheVariants as told
use Rattle.txs_audit_event.specs.declared.what.What.{What}
use Rattle.txs_audit_event.specs.declared.what.What.TheVariants as what

-- a cell of the store that has this value, where its newest value is that, if there is one
abbrev pub newest_what : CellId → Option Value → Value → Option What
newest_what c None v = None
newest_what c (Some w) v = if same_kind c.kind Atom then None else cell_what c w v

-- what is told of a report in which this is left, if it is
abbrev pub left_told : PlainReport → Option What → Told
left_told r None = told.Clear
left_told r (Some w) = told.So (at_event w 0 (length_if (entry_of r 0)))

-- what is told of an event that may not stand at this index of a book
abbrev pub illegal_told : PlainReport → ℕ → ℕ → ℕ → Told
illegal_told r b a k = told.So (at_event (what.Illegal b k) a (index_if b k (entry_of r a)))

-- what is told of what an atom's book leaves
abbrev pub atom_left_told : PlainProgram → PlainReport → CellId → Told
atom_left_told p r c = tells (at_event (atom_what c (atom_leaves p r c) (nth r.cells c.number))) (check (is_value (atom_leaves p r c) (nth r.cells c.number)) 0 (length_if (entry_of r 0)))

-- where something is off, as a finding
abbrev pub spot_off : Option Spot → Finding
spot_off None = Fine
spot_off (Some s) = Off s.actor s.event
