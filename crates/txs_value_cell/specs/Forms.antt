-- The forms on cells, in families, and one table of what each of them takes and where it may be.
use Rattle.std.specs.Prelude.{Bool, true, false, Option, Some, None, Result, Ok, Err, not}
use Rattle.txs_value_data.specs.declared.fault.FaultKind.{FaultKind}
use Rattle.txs_value_data.specs.declared.fault.FaultKind.TheVariants.{NotACell, NotARef, NotAnAtom, NotAnAgent, OutsideOnly}
use Rattle.txs_value_cell.specs.declared.form.CellForm.{CellForm}
use Rattle.txs_value_cell.specs.declared.form.CellForm.TheVariants.{Look, Put, Update, Send}
use Rattle.txs_value_cell.specs.declared.form.LookForm.TheVariants.{Deref, Ensure}
use Rattle.txs_value_cell.specs.declared.form.PutForm.TheVariants.{RefSet, Reset}
use Rattle.txs_value_cell.specs.declared.form.UpdateForm.TheVariants.{Alter, Commute, Swap}
use Rattle.txs_value_cell.specs.declared.form.Standing.{Standing}
use Rattle.txs_value_cell.specs.declared.form.Standing.TheVariants.{Anywhere, Inside, Outside}
use Rattle.txs_value_cell.specs.declared.form.FormAsk.TheVariants.{Nothing, ItsValue, Replacing, Swapping, Sending}
use Rattle.txs_value_cell.specs.declared.form.FormRule.{FormRule}
use Rattle.txs_value_data.specs.declared.value.CellId.{CellId}
use Rattle.txs_value_data.specs.declared.value.CellKind.{CellKind}
use Rattle.txs_value_data.specs.declared.value.CellKind.TheVariants.{Ref, Atom, Agent}
use Rattle.txs_value_data.specs.declared.value.Value.{Value}
use Rattle.txs_value_data.specs.declared.value.Value.TheVariants.{Cell}

-- The table of forms on cells: the kind of cell that a form takes (none: any), where it may be, the fault of anything else, and what
-- the form asks of the shared state.
abbrev pub rule : CellForm → FormRule
rule (Look Deref) = record { takes = None; stands = Anywhere; fault = NotACell; asks = ItsValue }
rule (Look Ensure) = record { takes = Some Ref; stands = Inside; fault = NotARef; asks = ItsValue }
rule (Put RefSet) = record { takes = Some Ref; stands = Inside; fault = NotARef; asks = Nothing }
rule (Put Reset) = record { takes = Some Atom; stands = Outside; fault = NotAnAtom; asks = Replacing }
rule (Update Alter) = record { takes = Some Ref; stands = Inside; fault = NotARef; asks = ItsValue }
rule (Update Commute) = record { takes = Some Ref; stands = Inside; fault = NotARef; asks = ItsValue }
rule (Update Swap) = record { takes = Some Atom; stands = Outside; fault = NotAnAtom; asks = Swapping }
rule Send = record { takes = Some Agent; stands = Anywhere; fault = NotAnAgent; asks = Sending }

-- whether a form may be here; the truth value says whether a transaction is running
abbrev pub may_stand : Standing → Bool → Bool
may_stand Anywhere inside = true
may_stand Inside inside = inside
may_stand Outside inside = not inside

-- whether two kinds of cells are the same
abbrev pub same_kind : CellKind → CellKind → Bool
same_kind Ref Ref = true
same_kind Atom Atom = true
same_kind Agent Agent = true
same_kind _ _ = false

-- the cell, where this holds of it; else the fault
abbrev pub cell_if : Bool → FaultKind → CellId → Result CellId FaultKind
cell_if true fault c = Ok c
cell_if false fault c = Err fault

-- a cell of the kind that is wanted; where any is, it has to be a ref in a transaction
abbrev pub cell_of_kind : Option CellKind → FaultKind → Bool → CellId → Result CellId FaultKind
cell_of_kind None fault false c = Ok c
cell_of_kind None fault true c = cell_if (same_kind c.kind Ref) OutsideOnly c
cell_of_kind (Some kind) fault inside c = cell_if (same_kind c.kind kind) fault c

-- the cell that a form takes of a value, or its fault
abbrev pub cell_of : FormRule → Bool → Value → Result CellId FaultKind
cell_of r inside (Cell c) = cell_of_kind r.takes r.fault inside c
cell_of r inside _ = Err r.fault
